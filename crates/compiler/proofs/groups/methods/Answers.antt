use Rattle.std.proofs.Common.{arith, refl, sym, subst, length, ◌+◌}
use Rattle.std.proofs.lemmas.Option.{slice_get_read}
use Rattle.compiler.specs.Units.{Built, Reaches, code_of, MethodHas}
use Rattle.compiler.proofs.Uses.{reaches_none, reaches_next}
use Rattle.compiler.proofs.Growing.{built_none, built_next, grows_self, grows_on, method_grows}
use Rattle.compiler.proofs.groups.methods.Goals as goal

pub loop-k-init : goal.loop-k-init
loop-k-init c =
    (subst (Built (MethodHas c.args.base c.args.units.now.items c.args.out.now.table c.args.text) c.args.all.now 0) (sym c.new-bodies.ensures.items) (built_none _ _), grows_self _ _, subst (λ xs. Reaches code_of xs (length c.args.units.now.items) (length c.args.units.now.items)) (sym c.new-bodies.ensures.items) (reaches_none code_of (length c.args.units.now.items)))

pub loop-k-preserved : goal.loop-k-preserved
loop-k-preserved c =
    let there = slice_get_read c.args.all.now (length c.args.all.now) c.loop-k.k-index c.k-item.result refl (omega arith) c.k-item.is in
    let grows = c.in_ok-method.ensures.grows in (
      subst (Built (MethodHas c.args.base c.method.new.units.items c.method.new.out.table c.args.text) c.args.all.now (c.loop-k.k-index + 1)) (sym c.in_ok-push.ensures.items)
          (built_next (MethodHas c.args.base c.loop-k.units.items c.loop-k.out.table c.args.text) (MethodHas c.args.base c.method.new.units.items c.method.new.out.table c.args.text) (method_grows c.args.base grows c.args.text) c.args.all.now c.loop-k.k-index c.k-item.result _ _ there c.in_ok-method.ensures.has c.loop-k.invariant.0),
      grows_on c.loop-k.invariant.1 grows,
      subst (λ xs. Reaches code_of xs (length c.args.units.now.items) (length c.method.new.units.items)) (sym c.in_ok-push.ensures.items)
          (reaches_next code_of c.loop-k.bodies.items _ (length c.args.units.now.items) (length c.loop-k.units.items) (length c.method.new.units.items) c.loop-k.invariant.2 c.in_ok-method.ensures.own),
    )
