use Rattle.std.proofs.Common.{◌+◌, ◌++◌, drop, map, ap, sym, ◌∙◌, List}
use Rattle.std.specs.Prelude.{filter_map, flat_map}
use Rattle.std.specs.Borrow.{Bor}
use Rattle.dart_syntax.specs.declared.tree.ClassDecl.{ClassDecl}
use Rattle.dart_syntax.specs.Syntax as tree
use Rattle.dart_syntax.specs.View.{member}
use Rattle.static_rules.specs.Members.{Declared, declared_by}
use Rattle.declaration_rules.specs.Mixing.{left}
use Rattle.declaration_rules.specs.Seen.{class_of}
use Rattle.declaration_rules.proofs.Firsts.{cut}
use Rattle.declaration_rules.proofs.mixed.mixed_in.Goals as goal

abbrev members : List (Bor ClassDecl) → List Declared
members cs = flat_map (λ (c : tree.ClassDecl). filter_map declared_by c.members) (map class_of cs)

pub loop-c-preserved : goal.loop-c-preserved
loop-c-preserved c =
    c.in_ok-take_all.ensures (members (drop (c.loop-c.c-index + 1) c.args.classes.now))
    ∙ ap (λ ms. left c.args.built_in.now c.loop-c.kinds (filter_map declared_by (map member ms) ++ members (drop (c.loop-c.c-index + 1) c.args.classes.now))) c.as_slice.ensures
    ∙ sym (ap (λ cs. left c.args.built_in.now c.loop-c.kinds (members cs)) (cut c.args.classes.now c.loop-c.c-index c.c-item.result c.loop-c-test.true c.c-item.is))
    ∙ c.loop-c.invariant
