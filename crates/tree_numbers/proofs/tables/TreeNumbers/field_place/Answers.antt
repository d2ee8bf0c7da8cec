use Rattle.std.proofs.Common.{◌∙◌, ap, ◌+◌, length}
use Rattle.dart_meaning.specs.Classes.{fields_above}
use Rattle.dart_syntax.specs.View.{unit}
use Rattle.tree_numbers.specs.Maps.{in_map}
use Rattle.tree_numbers.specs.Parts.{texts}
use Rattle.tree_numbers.specs.ClassFacts.{knows}
use Rattle.tree_numbers.specs.Members.{held}
use Rattle.tree_numbers.proofs.Told.{place_told}
use Rattle.tree_numbers.proofs.tables.TreeNumbers.field_place.Goals as goal

pub returns : goal.returns
returns c =
    let s = c.args.self.now in
    λ h.
    c.in_ok-all.ensures ∙ c.in_ok-sum.ensures ∙ ap (λ k. k + c.own_place_in-place.result) h
    ∙ ap (λ k. length (fields_above (unit s.tree.now) c.args.class.now) + k) (c.own_place_in-place.ensures ∙ place_told (unit s.tree.now) s.built_in.now (knows s.classes) s.levels (texts s.order.items) (in_map s.numbers) (held s.members) (in_map s.functions) (in_map s.variables) s.exact c.args.class.now c.args.name.now)
