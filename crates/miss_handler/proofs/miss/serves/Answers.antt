use Rattle.std.proofs.Common.{not, slice_get, ◌∙◌, sym, ap}
use Rattle.program.specs.Program.{parts_of}
use Rattle.class_table.specs.Table.{Table}
use Rattle.miss_handler.specs.States.{Receivers, same_target}
use Rattle.miss_handler.specs.Sites.{receivers_at}
use Rattle.miss_handler.proofs.Places.{concrete_is, concrete_at}
use Rattle.miss_handler.proofs.Tests.{derived_is, serves_abstract, serves_concrete}
use Rattle.miss_handler.proofs.miss.serves.Goals as goal

pub returns-else-is_abstract-clause-serves : goal.returns-else-is_abstract-clause-serves
returns-else-is_abstract-clause-serves g c =
    let r : Receivers = receivers_at c.args.linked.now c.args.site.0 in
    let flag = concrete_is c.args.linked.now.program.classes c.args.c.0 c.is_abstract.result (ap (λ (t : Table). slice_get t.abstracts c.args.c.0) (sym c.classes.ensures) ∙ c.is_abstract.ensures) in
    let concrete = concrete_at (parts_of c.args.linked.now.program) c.args.site.0 c.args.c.0 ∙ flag ∙ ap not c.if-is_abstract.false in
    c.eq.ensures ∙ derived_is c.target_at.result c.args.t ∙ ap (λ t. same_target t c.args.t) c.target_at.ensures.target ∙ sym (serves_concrete r c.args.t c.args.c.0 concrete)

pub returns-then-is_abstract-clause-serves : goal.returns-then-is_abstract-clause-serves
returns-then-is_abstract-clause-serves g c =
    let r : Receivers = receivers_at c.args.linked.now c.args.site.0 in
    let flag = concrete_is c.args.linked.now.program.classes c.args.c.0 c.is_abstract.result (ap (λ (t : Table). slice_get t.abstracts c.args.c.0) (sym c.classes.ensures) ∙ c.is_abstract.ensures) in
    let concrete = concrete_at (parts_of c.args.linked.now.program) c.args.site.0 c.args.c.0 ∙ flag ∙ ap not c.if-is_abstract.true in
    c.if-is_abstract.true ∙ sym (serves_abstract r c.args.t c.args.c.0 concrete)
