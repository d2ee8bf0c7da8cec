use Rattle.std.proofs.Common.{ap, ◌∙◌}
use Rattle.std.proofs.lemmas.Result.{IfOk-weaker}
use Rattle.std.specs.List.{list_any}
use Rattle.dart_syntax.specs.declared.tree.Name.{Name}
use Rattle.dart_syntax.specs.View.{class}
use Rattle.class_chains.specs.Ranking.{reaches, texts}
use Rattle.declaration_rules.specs.Finding.{found_in}
use Rattle.static_rules.specs.Supers.{supers}
use Rattle.declaration_rules.proofs.Names.{list_any-map}
use Rattle.class_chains.proofs.cycles.is_above_itself.Goals as goal

pub returns : goal.returns
returns c =
    let find = found_in c.args.known.now in
    let name = c.args.c.now.name.text in
    let is = ap (λ t. list_any (λ u. reaches c.args.most find u t) (texts c.in_ok-start.start.items)) c.as_slice.ensures
    ∙ ap (list_any (λ u. reaches c.args.most find u name)) c.in_ok-start.ensures
    ∙ list_any-map (λ u. reaches c.args.most find u name) (λ (n : Name). n.text) (supers (class c.args.c.now)) in
    IfOk-weaker c.is_reached.result _ _ (λ b h. h ∙ is) c.is_reached.ensures
