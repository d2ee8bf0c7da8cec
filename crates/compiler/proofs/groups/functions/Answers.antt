use Rattle.std.proofs.Common.{arith, refl, sym, subst, length, ◌+◌}
use Rattle.std.proofs.lemmas.Option.{slice_get_read}
use Rattle.compiler.specs.Units.{Built, Reaches, FunctionHas}
use Rattle.program_code.specs.IsCode.{unit_id}
use Rattle.compiler.proofs.Uses.{reaches_none, reaches_next}
use Rattle.compiler.proofs.Growing.{built_none, built_next, grows_self, grows_on, function_grows}
use Rattle.compiler.proofs.groups.functions.Goals as goal

pub loop-k-init : goal.loop-k-init
loop-k-init c =
    (subst (Built (FunctionHas c.args.base c.args.units.now.items c.args.out.now.table) c.args.all.now 0) (sym c.new-ids.ensures.items) (built_none _ _), grows_self _ _, subst (λ xs. Reaches unit_id xs (length c.args.units.now.items) (length c.args.units.now.items)) (sym c.new-ids.ensures.items) (reaches_none unit_id (length c.args.units.now.items)))

pub loop-k-preserved : goal.loop-k-preserved
loop-k-preserved c =
    let there = slice_get_read c.args.all.now (length c.args.all.now) c.loop-k.k-index c.k-item.result refl (omega arith) c.k-item.is in
    let grows = c.in_ok-function.ensures.grows in (
      subst (Built (FunctionHas c.args.base c.function.new.units.items c.function.new.out.table) c.args.all.now (c.loop-k.k-index + 1)) (sym c.in_ok-push.ensures.items)
          (built_next (FunctionHas c.args.base c.loop-k.units.items c.loop-k.out.table) (FunctionHas c.args.base c.function.new.units.items c.function.new.out.table) (function_grows c.args.base grows) c.args.all.now c.loop-k.k-index c.k-item.result _ _ there c.in_ok-function.ensures.has c.loop-k.invariant.0),
      grows_on c.loop-k.invariant.1 grows,
      subst (λ xs. Reaches unit_id xs (length c.args.units.now.items) (length c.function.new.units.items)) (sym c.in_ok-push.ensures.items)
          (reaches_next unit_id c.loop-k.ids.items _ (length c.args.units.now.items) (length c.loop-k.units.items) (length c.function.new.units.items) c.loop-k.invariant.2 c.in_ok-function.ensures.one),
    )
