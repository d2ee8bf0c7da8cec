use Rattle.std.proofs.Common.{◌<◌, ℕ, length, refl, sym, subst}
use Rattle.program.specs.Program.{parts_of}
use Rattle.dart_values.specs.Store.{IsOf}
use Rattle.isolate_state.proofs.Moves.{below_is}
use Rattle.isolate_calls.proofs.Tests.{concrete_there, class_concrete, tests_null, tests_other}
use Rattle.isolate_calls.proofs.testing.is_class.Goals as goal

pub returns-in-Null-clause-tested : goal.returns-in-Null-clause-tested
returns-in-Null-clause-tested g c =
    tests_null (g.Q.Subtypes.After c.args.types.now) c.args.types.now (parts_of c.args.linked.now.program) c.args.c c.args.isolate.now (record c.args.isolate.now { values = c.take_last-v.new.self })
    (record c.args.isolate.now { values = c.push.new.self }) c.args.frame.now c.take_last-v.result _ c.take_last-v.ensures.items c.in_ok-push.ensures.items c.in-Null.is refl (g.met.Q.Subtypes.after_none c.args.types.now)

pub ask-holds-requires : goal.ask-holds-requires
ask-holds-requires g c =
    let of_heap = (below_is (IsOf c.args.isolate.now.heap) c.args.isolate.now.values.items c.take_last-v.new.self.items c.take_last-v.result c.take_last-v.ensures.items c.requires.held).1 in
    let there = concrete_there (parts_of c.args.linked.now.program) _ (class_concrete (parts_of c.args.linked.now.program) c.args.isolate.now c.take_last-v.result c.requires.classes of_heap) in
    record {
      made = c.requires.made;
      a_there = subst (λ (k : ℕ). k < length c.args.linked.now.program.classes) (sym c.class_of-own.ensures) there;
      b_there = c.requires.there;
    }

pub returns : goal.returns
returns g c = record {
  made = c.ask-holds.ensures.made;
  tested = tests_other (g.Q.Subtypes.After c.args.types.now) c.ask-holds.new.self (parts_of c.args.linked.now.program) c.args.c c.args.isolate.now (record c.args.isolate.now { values = c.take_last-v.new.self })
      (record c.args.isolate.now { values = c.push-2.new.self }) c.args.frame.now c.take_last-v.result c.ask-holds.result c.take_last-v.ensures.items c.in_ok-push-2.ensures.items
      c.class_of-own.result.0 c.in_default.not-Null c.class_of-own.ensures c.ask-holds.ensures.answer c.ask-holds.ensures.after;
}
