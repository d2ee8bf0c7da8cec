use Rattle.std.proofs.Common.{◌≡◌, ◌+◌, ℕ, ap, arith, None, Some, unwrap_or, sym, ◌∙◌}
use Rattle.program.specs.Lookup.{no_such_method}
use Rattle.program.specs.Program.{parts_of}
use Rattle.program.proofs.Facts.{always_found}
use Rattle.method_lookup.proofs.Walks.{missing_is}
use Rattle.method_lookup.proofs.Visits.{missing_visits_is, missing_most}
use Rattle.method_lookup.proofs.linked.Linked.no_such_method.Goals as goal

pub unreachable-requires : goal.unreachable-requires
unreachable-requires g c =
    let some : no_such_method (parts_of c.args.self.now.program) c.args.c.0 ≡ Some (unwrap_or (no_such_method (parts_of c.args.self.now.program) c.args.c.0) 2) = always_found (parts_of c.args.self.now.program) c.args.self.now.program.sound c.args.c.0 c.requires in
    let none : None ≡ no_such_method (parts_of c.args.self.now.program) c.args.c.0 = c.in-None.ensures.found ∙ missing_is (parts_of c.args.self.now.program) c.args.c.0 c.args.self.now.index.missing_name c.args.self.now.missing in
    absurd (cc)

pub returns-clause-member : goal.returns-clause-member
returns-clause-member g c = sym (c.in-Some.ensures.found ∙ missing_is (parts_of c.args.self.now.program) c.args.c.0 c.args.self.now.index.missing_name c.args.self.now.missing)

pub returns-clause-visits : goal.returns-clause-visits
returns-clause-visits g c =
    c.find.ensures.visits ∙ ap (λ (n : ℕ). c.args.steps.now + n) (missing_visits_is (parts_of c.args.self.now.program) c.args.c.0 c.args.self.now.index.missing_name c.args.self.now.missing)

pub returns-clause-cost : goal.returns-clause-cost
returns-clause-cost g c =
    let same = missing_visits_is (parts_of c.args.self.now.program) c.args.c.0 c.args.self.now.index.missing_name c.args.self.now.missing in
    let most = missing_most (parts_of c.args.self.now.program) c.args.c.0 in
    omega (arith, c.find.ensures.visits, same, most)
