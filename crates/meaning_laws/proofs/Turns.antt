-- Turns, what is told, and the number of top-level variables.
use Rattle.std.proofs.Common.{◌≡◌, List, [], ◌∷◌, refl, ◌∙◌, length, arith}
use Rattle.std.proofs.Math.Nat.{le_trans, le_refl}
use Rattle.std.proofs.lemmas.List.{length-set}
use Rattle.program.specs.Parts.{Parts}
use Rattle.dart_values.specs.Values.{Heap, class_of}
use Rattle.dart_meaning.specs.Run.{Store}
use Rattle.dart_meaning.proofs.Closed.{front_refl, front_more}
use Rattle.dart_meaning.proofs.Steady.{front_trans}
use Rattle.meaning_laws.specs.Laws.{Goes, NoTurnComesBack, GlobalsStay}
use Rattle.meaning_laws.proofs.Stores.{Steps, entry_keeps}

-- what changes neither turns nor what is told
still : (s : Store) (heap : Heap) (globals : List _) → Goes s (record s { heap = heap; globals = globals })
still s heap globals = record { turns = le_refl s.turns; lines = front_refl s.lines; asked = front_refl s.asked; tests = front_refl s.tests }

further : (a b c : Store) → Goes a b → Goes b c → Goes a c
further a b c h k = record {
  turns = le_trans k.turns h.turns;
  lines = front_trans a.lines b.lines c.lines h.lines k.lines;
  asked = front_trans a.asked b.asked c.asked h.asked k.asked;
  tests = front_trans a.tests b.tests c.tests h.tests k.tests;
}

pub goes : (p : Parts) → Steps p Goes
goes p = record {
  same = λ s. still s s.heap s.globals;
  on = further;
  globals = λ s k w. still s s.heap _;
  fields = λ s v k w. still s _ s.globals;
  makes = λ s thing h. still s _ s.globals;
  natives = λ s names n v args heap w e. still s heap s.globals;
  lines = λ s line. record { turns = le_refl s.turns; lines = front_more s.lines (line ∷ []); asked = front_refl s.asked; tests = front_refl s.tests };
  asks = λ s site v. record { turns = le_refl s.turns; lines = front_refl s.lines; asked = front_more s.asked ((site, class_of s.heap v) ∷ []); tests = front_refl s.tests };
  tests = λ s class named. record { turns = le_refl s.turns; lines = front_refl s.lines; asked = front_refl s.asked; tests = front_more s.tests ((class, named) ∷ []) };
  turns = λ s n e. record { turns = omega (arith, e); lines = front_refl s.lines; asked = front_refl s.asked; tests = front_refl s.tests };
}

pub no_turn_comes_back : NoTurnComesBack
no_turn_comes_back p sound depth x r = entry_keeps (goes p) sound depth x r

-- ---- top-level variables

abbrev AsManyGlobals : Store → Store → Type 0
AsManyGlobals s t = length t.globals ≡ length s.globals

pub globals_kept : (p : Parts) → Steps p AsManyGlobals
globals_kept p = record {
  same = λ s. refl;
  on = λ a b c h k. k ∙ h;
  globals = λ s k w. length-set s.globals k w;
  fields = λ s v k w. refl;
  makes = λ s thing h. refl;
  natives = λ s names n v args heap w e. refl;
  lines = λ s line. refl;
  asks = λ s site v. refl;
  tests = λ s class named. refl;
  turns = λ s n e. refl;
}

pub globals_stay : GlobalsStay
globals_stay p sound depth x r = entry_keeps (globals_kept p) sound depth x r
