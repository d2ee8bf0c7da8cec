use Rattle.std.proofs.Common.{◌≡◌, ◌+◌, ◌*◌, ◌-◌, ◌≤◌, true, length, below_more, sym, ◌∙◌, arith}
use Rattle.program.specs.Program.{parts_of}
use Rattle.miss_handler.specs.States.{Receivers, serves}
use Rattle.miss_handler.specs.Sites.{receivers_at}
use Rattle.miss_handler.proofs.Places.{classes_at, concrete_within, walk_more, walk_within}
use Rattle.miss_handler.proofs.Tests.{one_target_fails, one_target_tested, range_is}
use Rattle.miss_handler.proofs.miss.is_single_range.Goals as goal

pub loop-class-init : goal.loop-class-init
loop-class-init g c = record {
  so_far = λ d low high. absurd (omega arith);
  from = omega arith;
  within = omega arith;
  cost = omega arith;
}

pub loop-class-preserved : goal.loop-class-preserved
loop-class-preserved g c =
    let i = c.loop-class.invariant in
    let from = i.from in
    let end = c.end_of-class-end.ensures in
    let test = c.loop-class-test.true in
    let before = i.cost in
    let cost = c.serves.ensures.cost in
    let more = walk_more c.args.lo.0 c.loop-class.class (2 * length c.args.linked.now.program.classes) from in
    record {
      so_far = λ d low high. below_more (λ e. c.args.lo.0 ≤ e → serves (receivers_at c.args.linked.now c.args.site.0) c.args.t e ≡ true) c.loop-class.class (λ e under from_lo. i.so_far e from_lo under) (λ from_lo. sym c.serves.ensures.serves ∙ c.if-not-serves.false) d high low;
      from = omega arith;
      within = omega arith;
      cost = omega arith;
    }

pub returns-then-not-serves-clause-test : goal.returns-then-not-serves-clause-test
returns-then-not-serves-clause-test g c =
    let end = c.end_of-class-end.ensures in
    let test = c.loop-class-test.true in
    sym (one_target_fails (receivers_at c.args.linked.now c.args.site.0) c.args.lo.0 c.args.hi.0 c.args.t c.loop-class.class c.loop-class.invariant.from (omega arith) (sym c.serves.ensures.serves ∙ c.if-not-serves.true))

pub returns-then-not-serves-clause-cost : goal.returns-then-not-serves-clause-cost
returns-then-not-serves-clause-cost g c =
    let from = c.loop-class.invariant.from in
    let end = c.end_of-class-end.ensures in
    let test = c.loop-class-test.true in
    let before = c.loop-class.invariant.cost in
    let cost = c.serves.ensures.cost in
    let k = length c.args.linked.now.program.classes in
    let more = walk_more c.args.lo.0 c.loop-class.class (2 * k) from in
    let few = walk_within ((c.loop-class.class + 1) - c.args.lo.0) k (2 * k) (omega arith) in
    omega arith

pub returns-clause-test : goal.returns-clause-test
returns-clause-test g c =
    let r : Receivers = receivers_at c.args.linked.now c.args.site.0 in
    let end = c.end_of-class-end.ensures in
    let test = c.loop-class-test.false in
    sym (one_target_tested r c.args.lo.0 c.args.hi.0 c.args.t c.loop-class.class (λ d low high. c.loop-class.invariant.so_far d low high) (λ d low high it.
    let there = concrete_within (parts_of c.args.linked.now.program) c.args.site.0 d it in
    let all = classes_at (parts_of c.args.linked.now.program) c.args.site.0 in
    omega arith))

pub returns-clause-range : goal.returns-clause-range
returns-clause-range g c = range_is (receivers_at c.args.linked.now c.args.site.0) c.args.lo.0 c.args.hi.0 c.args.t _ (returns-clause-test g c)

pub returns-clause-cost : goal.returns-clause-cost
returns-clause-cost g c =
    let from = c.loop-class.invariant.from in
    let within = c.loop-class.invariant.within in
    let before = c.loop-class.invariant.cost in
    let k = length c.args.linked.now.program.classes in
    let few = walk_within (c.loop-class.class - c.args.lo.0) k (2 * k) (omega arith) in
    omega arith
