use Rattle.std.proofs.Common.{ap, sym, ◌∙◌, bytes_eq, arith}
use Rattle.std.specs.Prelude.{flat_map}
use Rattle.std.specs.List.{list_any}
use Rattle.class_chains.specs.Ranking.{above_of, texts}
use Rattle.declaration_rules.specs.Finding.{found_in}
use Rattle.class_chains.specs.declared.reaching.Reached.{Reached}
use Rattle.declaration_rules.proofs.Names.{list_any-map}
use Rattle.class_chains.proofs.Steps.{reached_now, reached_next, reached_never}
use Rattle.class_chains.proofs.reaching.is_reached.Goals as goal

pub loop-left-preserved : goal.loop-left-preserved
loop-left-preserved c =
    let find = found_in c.args.known.now in
    let class = c.args.class.now in
    reached_next find class c.loop-left.left (texts c.loop-left.level.items) (texts c.in_ok-level.level.items) _ c.loop-left-test.true
    (ap (λ ls. list_any (λ t. bytes_eq t class) (texts ls)) (sym c.deref.ensures.value) ∙ list_any-map (λ t. bytes_eq t class) (λ (r : Reached). r.text.now) c.deref.result.now ∙ sym c.is_there.ensures ∙ c.if-is_there.false)
    (λ p. c.in_ok-level.ensures p ∙ ap (λ ls. list_any p (flat_map (above_of find) (texts ls))) c.deref-in-loop-left.ensures.value)
    c.loop-left.invariant

pub returns-then-is_there : goal.returns-then-is_there
returns-then-is_there c =
    let find = found_in c.args.known.now in
    let class = c.args.class.now in
    reached_now find class c.loop-left.left (texts c.loop-left.level.items) _ c.loop-left-test.true
    (ap (λ ls. list_any (λ t. bytes_eq t class) (texts ls)) (sym c.deref.ensures.value) ∙ list_any-map (λ t. bytes_eq t class) (λ (r : Reached). r.text.now) c.deref.result.now ∙ sym c.is_there.ensures ∙ c.if-is_there.true)
    c.loop-left.invariant

pub returns : goal.returns
returns c = reached_never (found_in c.args.known.now) c.args.class.now c.loop-left.left (texts c.loop-left.level.items) _ (omega (arith, c.loop-left-test.false)) c.loop-left.invariant
