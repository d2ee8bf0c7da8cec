use Rattle.std.proofs.Common.{arith}
use Rattle.program.specs.Program.{parts_of}
use Rattle.method_lookup.proofs.Walks.{resolve_found, resolve_missing}
use Rattle.method_lookup.proofs.Visits.{resolve_visits_found, resolve_visits_missing}
use Rattle.method_lookup.proofs.linked.Linked.resolve_target.Goals as goal

pub returns-in-Some-clause-target : goal.returns-in-Some-clause-target
returns-in-Some-clause-target g c = resolve_found (parts_of c.args.self.now.program) c.args.c.0 c.args.sel.0 c.in-Some.member.0 c.in-Some.ensures.found

pub returns-in-None-clause-target : goal.returns-in-None-clause-target
returns-in-None-clause-target g c = resolve_missing (parts_of c.args.self.now.program) c.args.c.0 c.args.sel.0 c.no_such_method.result.0 c.in-None.ensures.found c.no_such_method.ensures.member

pub returns-in-Some-clause-visits : goal.returns-in-Some-clause-visits
returns-in-Some-clause-visits g c =
    let same = resolve_visits_found (parts_of c.args.self.now.program) c.args.c.0 c.args.sel.0 c.in-Some.member.0 c.in-Some.ensures.found in
    omega (arith, same, c.lookup.ensures.visits)

pub returns-in-None-clause-visits : goal.returns-in-None-clause-visits
returns-in-None-clause-visits g c =
    let same = resolve_visits_missing (parts_of c.args.self.now.program) c.args.c.0 c.args.sel.0 c.in-None.ensures.found in
    omega (arith, same, c.lookup.ensures.visits, c.no_such_method.ensures.visits)
