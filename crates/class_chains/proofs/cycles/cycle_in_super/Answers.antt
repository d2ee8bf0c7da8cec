use Rattle.std.proofs.Common.{◌+◌, ap, sym, ◌∙◌, map, length}
use Rattle.std.proofs.lemmas.Result.{IfOk-weaker}
use Rattle.std.specs.Prelude.{filter_map}
use Rattle.dart_syntax.specs.View.{top, unit}
use Rattle.dart_meaning.specs.Classes.{class_at}
use Rattle.static_rules.specs.Places.{first_in}
use Rattle.class_chains.specs.Ranking.{cycle_at}
use Rattle.declaration_rules.specs.Finding.{found_in, named_of}
use Rattle.declaration_rules.specs.Seen.{class_of}
use Rattle.class_chains.proofs.Falling.{cycle_in_super_is}
use Rattle.class_chains.proofs.Overriding.{length-mapped}
use Rattle.class_chains.proofs.cycles.cycle_in_super.Goals as goal

pub returns : goal.returns
returns c =
    let h = c.in_ok-hierarchy.hierarchy in
    let find = found_in h.known in
    let items = c.in_ok-classes.classes.items in
    let all = c.in_ok-classes.ensures ∙ ap (λ ts. filter_map class_at (map top ts)) c.as_slice.ensures in
    let is = ap (λ cs. first_in (cycle_at h.most find) (map class_of cs)) c.deref-2.ensures.value
    ∙ cycle_in_super_is (unit c.args.tree.now) find h.most (map class_of items) all
    (λ q. c.in_ok-hierarchy.ensures.known q ∙ ap (λ cs. named_of (map class_of cs) q) c.deref.ensures.value)
    (c.in_ok-hierarchy.ensures.most ∙ ap (λ cs. 7 + length cs) c.deref.ensures.value ∙ ap (λ n. 7 + n) (sym (length-mapped class_of items) ∙ ap length all)) in
    IfOk-weaker c.first_cycle.result _ _ (λ at w. w ∙ is) c.first_cycle.ensures
