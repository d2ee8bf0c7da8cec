-- What an expression, a statement or an entry leads to.
use Rattle.std.proofs.Common.{ℕ}
use Rattle.program.specs.Parts.{Parts}
use Rattle.program.specs.Whole.{IsSound}
use Rattle.dart_meaning.specs.Numbered.{Code, enter}
use Rattle.dart_meaning.specs.Program.{Entry}
use Rattle.meaning_laws.specs.BodyLaws.{Follows, EntriesFollow, ExpressionsFollow, StatementsFollow}
use Rattle.meaning_laws.proofs.ClosedBodies.{value, doing}
use Rattle.meaning_laws.proofs.ClosedEntries.{calls_of, enter_holds}
use Rattle.meaning_laws.proofs.Heaps.{things, kinds}
use Rattle.meaning_laws.proofs.Stores.{Steps, Keeps, steps_keep, frames_keep}
use Rattle.meaning_laws.proofs.Turns.{goes, globals_kept}

-- each part is kept by each step, and so are all of them
pub follows : (p : Parts) → Steps p (Follows p)
follows p = record {
  same = λ s. record { goes = (goes p).same s; globals = (globals_kept p).same s; classes = (kinds p).same s; heap = (things p).same s };
  on = λ a b c h k. record {
    goes = (goes p).on a b c h.goes k.goes;
    globals = (globals_kept p).on a b c h.globals k.globals;
    classes = (kinds p).on a b c h.classes k.classes;
    heap = (things p).on a b c h.heap k.heap;
  };
  globals = λ s k w. record { goes = (goes p).globals s k w; globals = (globals_kept p).globals s k w; classes = (kinds p).globals s k w; heap = (things p).globals s k w };
  fields = λ s u k w. record { goes = (goes p).fields s u k w; globals = (globals_kept p).fields s u k w; classes = (kinds p).fields s u k w; heap = (things p).fields s u k w };
  makes = λ s t h. record { goes = (goes p).makes s t h; globals = (globals_kept p).makes s t h; classes = (kinds p).makes s t h; heap = (things p).makes s t h };
  natives = λ s names n u args heap w e. record {
    goes = (goes p).natives s names n u args heap w e;
    globals = (globals_kept p).natives s names n u args heap w e;
    classes = (kinds p).natives s names n u args heap w e;
    heap = (things p).natives s names n u args heap w e;
  };
  lines = λ s line. record { goes = (goes p).lines s line; globals = (globals_kept p).lines s line; classes = (kinds p).lines s line; heap = (things p).lines s line };
  asks = λ s site u. record { goes = (goes p).asks s site u; globals = (globals_kept p).asks s site u; classes = (kinds p).asks s site u; heap = (things p).asks s site u };
  tests = λ s k named. record { goes = (goes p).tests s k named; globals = (globals_kept p).tests s k named; classes = (kinds p).tests s k named; heap = (things p).tests s k named };
  turns = λ s n e. record { goes = (goes p).turns s n e; globals = (globals_kept p).turns s n e; classes = (kinds p).turns s n e; heap = (things p).turns s n e };
}

pub entry_follows : (p : Parts) → IsSound p → (depth : ℕ) (x : Entry Code) → Keeps (follows p) (enter p depth x)
entry_follows p sound depth x = enter_holds (frames_keep (follows p)) sound depth x

pub entries_follow : EntriesFollow
entries_follow p sound depth x r = (entry_follows p sound depth x).keeps r

pub expressions_follow : ExpressionsFollow
expressions_follow p sound here slots e ok depth r = (value (calls_of (steps_keep (follows p)) (enter p depth) (entry_follows p sound depth) here) e slots ok).keeps r

pub statements_follow : StatementsFollow
statements_follow p sound here answers loops slots x ok depth r =
    (doing (calls_of (steps_keep (follows p)) (enter p depth) (entry_follows p sound depth) here) (frames_keep (follows p)).varies answers x slots loops ok).keeps r
