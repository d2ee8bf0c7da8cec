use Rattle.std.proofs.Common.{◌≡◌, ◌||◌, drop, Bool}
use Rattle.std.specs.Prelude.{flat_map}
use Rattle.std.specs.List.{list_any}
use Rattle.dart_syntax.specs.Bytes.{Text}
use Rattle.class_chains.specs.Ranking.{AreIn, above_of, texts}
use Rattle.declaration_rules.specs.Finding.{found_in}
use Rattle.declaration_rules.specs.Seen.{has}
use Rattle.class_chains.proofs.reaching.next_level.Given as goal

abbrev pub invariant-loop-i : goal.invariant-loop-i
invariant-loop-i l =
    record {
      each : AreIn (has l.next.seen) (texts l.next.names.items);
      any : (p : Text → Bool) → (list_any p (texts l.next.names.items) || list_any p (flat_map (above_of (found_in l.known)) (texts (drop l.i l.level)))) ≡ list_any p (flat_map (above_of (found_in l.known)) (texts l.level));
    }
