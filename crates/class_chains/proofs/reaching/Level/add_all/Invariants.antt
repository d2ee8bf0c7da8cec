use Rattle.std.proofs.Common.{◌≡◌, ◌||◌, drop, Bool}
use Rattle.std.specs.List.{list_any}
use Rattle.dart_syntax.specs.Bytes.{Text}
use Rattle.class_chains.specs.Ranking.{AreIn, name_texts, texts}
use Rattle.declaration_rules.specs.Seen.{has}
use Rattle.class_chains.proofs.reaching.Level.add_all.Given as goal

abbrev pub invariant-loop-name : goal.invariant-loop-name
invariant-loop-name l =
    record {
      each : AreIn (has l.self.seen) (texts l.self.names.items);
      any : (p : Text → Bool) → (list_any p (texts l.self.names.items) || list_any p (name_texts (drop l.name-index l.all))) ≡ (list_any p (texts l.fn.self.names.items) || list_any p (name_texts l.all));
    }
