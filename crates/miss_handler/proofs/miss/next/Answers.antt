use Rattle.std.proofs.Common.{◌<◌, sym, ◌∙◌, subst}
use Rattle.program.specs.Program.{parts_of}
use Rattle.miss_handler.specs.declared.state.Advance.{Advance}
use Rattle.miss_handler.specs.States.{Receivers, checks_of, StaysLawful, CoversAfter, Later}
use Rattle.miss_handler.specs.Sites.{receivers_at}
use Rattle.miss_handler.proofs.Moves.{next_later, next_lawful, next_covers}
use Rattle.miss_handler.proofs.Places.{concrete_at, concrete_within}
use Rattle.miss_handler.proofs.Tests.{no_covers}
use Rattle.miss_handler.proofs.miss.next.Goals as goal

pub returns-clause-later : goal.returns-clause-later
returns-clause-later g c =
    subst (λ (a : Advance). Later c.args.state a.state) (sym c.advance_of.ensures.next) (next_later (receivers_at c.args.linked.now c.args.site.0) c.args.state (checks_of c.args.row.now) c.args.c.0)

pub returns-clause-lawful : goal.returns-clause-lawful
returns-clause-lawful g c =
    let r : Receivers = receivers_at c.args.linked.now c.args.site.0 in
    let uncovered = no_covers c.args.state (checks_of c.args.row.now) c.args.c.0 c.requires.uncovered in
    let small : c.args.c.0 < r.classes = concrete_within (parts_of c.args.linked.now.program) c.args.site.0 c.args.c.0 (concrete_at (parts_of c.args.linked.now.program) c.args.site.0 c.args.c.0 ∙ c.requires.concrete) in
    subst (StaysLawful r c.args.state (checks_of c.args.row.now)) (sym c.advance_of.ensures.next) (λ l. next_lawful r c.args.state (checks_of c.args.row.now) c.args.c.0 l uncovered small)

pub returns-clause-covers : goal.returns-clause-covers
returns-clause-covers g c =
    let r : Receivers = receivers_at c.args.linked.now c.args.site.0 in
    subst (λ (a : Advance). CoversAfter r (checks_of c.args.row.now) a c.args.c.0) (sym c.advance_of.ensures.next) (next_covers r c.args.state (checks_of c.args.row.now) c.args.c.0)
