use Rattle.std.proofs.Common.{◌++◌, ◌+◌, drop, map, ap, sym, ◌∙◌, option_map}
use Rattle.std.specs.Prelude.{filter_map}
use Rattle.std.specs.List.{cons_option}
use Rattle.dart_syntax.specs.View.{member}
use Rattle.static_rules.specs.Members.{declared_by}
use Rattle.declaration_rules.specs.Mixing.{left, declared_of}
use Rattle.declaration_rules.proofs.Firsts.{cut}
use Rattle.declaration_rules.proofs.Mixing.{appended}
use Rattle.declaration_rules.proofs.mixed.Kinds.take_all.Goals as goal

pub loop-m-preserved : goal.loop-m-preserved
loop-m-preserved c = λ more.
    let rest = filter_map declared_by (map member (drop (c.loop-m.m-index + 1) c.args.members.now)) in
    let o = option_map declared_of c.declared_by.result in
    c.in_ok-take_option.ensures (rest ++ more)
    ∙ ap (left c.args.built_in.now c.loop-m.self) (sym (appended o rest more) ∙ ap (λ d. cons_option d rest ++ more) c.declared_by.ensures)
    ∙ sym (ap (λ xs. left c.args.built_in.now c.loop-m.self (filter_map declared_by (map member xs) ++ more)) (cut c.args.members.now c.loop-m.m-index c.m-item.result c.loop-m-test.true c.m-item.is))
    ∙ c.loop-m.invariant more
