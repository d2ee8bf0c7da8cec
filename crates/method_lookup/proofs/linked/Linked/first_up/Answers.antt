use Rattle.std.proofs.Common.{◌≡◌, ◌<◌, ◌∙◌, ap, sym, arith, length, option_map, None, Some}
use Rattle.program.specs.declared.ids.ClassId.{ClassId}
use Rattle.program.specs.Hierarchy.{Parents, IsPreorder, parent_in, chain}
use Rattle.program.specs.Parts.{parents}
use Rattle.program.specs.Program.{parts_of}
use Rattle.program.proofs.Facts.{order}
use Rattle.program.proofs.Intervals.{before}
use Rattle.class_table.specs.Table.{Table}
use Rattle.method_lookup.specs.Index.{first_keyed, keyed_if}
use Rattle.method_lookup.proofs.Keys.{first_keyed_none}
use Rattle.method_lookup.specs.Visits.{keyed_visits}
use Rattle.method_lookup.proofs.Walks.{found_above, found_here, shorter_above}
use Rattle.method_lookup.proofs.Visits.{visited_above, visited_here}
use Rattle.method_lookup.proofs.linked.Linked.first_up.Goals as goal

pub returns-in_err-name-clause-found : goal.returns-in_err-name-clause-found
returns-in_err-name-clause-found g c =
    c.from_residual.ensures
    ∙ sym (first_keyed_none c.args.self.now.program.methods c.args.role (chain (parents c.args.self.now.program.classes) c.args.c.0))
    ∙ ap (λ o. first_keyed c.args.self.now.program.methods c.args.role o (chain (parents c.args.self.now.program.classes) c.args.c.0)) (sym c.in_err-name.was)

pub returns-in-Some-member_at-clause-found : goal.returns-in-Some-member_at-clause-found
returns-in-Some-member_at-clause-found g c =
    let up : Parents = parents c.args.self.now.program.classes in
    let h : IsPreorder up = order (parts_of c.args.self.now.program) c.args.self.now.program.sound in
    let here : keyed_if c.args.self.now.program.methods c.args.role (Some c.in_ok-name.name) c.in-Some.class.0 ≡ Some c.in-Some-member_at.member =
    sym (c.args.self.now.members c.in-Some.class.0 c.args.role c.in_ok-name.name) ∙ sym c.member_at.ensures ∙ c.in-Some-member_at.is in
    sym (found_here up c.args.self.now.program.methods c.args.role (Some c.in_ok-name.name) h (option_map (λ (k : ClassId). k.0) c.loop-at.at) c.in-Some.class.0 c.in-Some-member_at.member (ap (option_map (λ (k : ClassId). k.0)) c.in-Some.is) here)
    ∙ c.loop-at.invariant.found
    ∙ ap (λ o. first_keyed c.args.self.now.program.methods c.args.role o (chain up c.args.c.0)) (sym c.in_ok-name.was)

pub returns-in-Some-member_at-clause-visits : goal.returns-in-Some-member_at-clause-visits
returns-in-Some-member_at-clause-visits g c =
    let up : Parents = parents c.args.self.now.program.classes in
    let h : IsPreorder up = order (parts_of c.args.self.now.program) c.args.self.now.program.sound in
    let here : keyed_if c.args.self.now.program.methods c.args.role (Some c.in_ok-name.name) c.in-Some.class.0 ≡ Some c.in-Some-member_at.member =
    sym (c.args.self.now.members c.in-Some.class.0 c.args.role c.in_ok-name.name) ∙ sym c.member_at.ensures ∙ c.in-Some-member_at.is in
    let one = visited_here up c.args.self.now.program.methods c.args.role (Some c.in_ok-name.name) h (option_map (λ (k : ClassId). k.0) c.loop-at.at) c.in-Some.class.0 c.in-Some-member_at.member (ap (option_map (λ (k : ClassId). k.0)) c.in-Some.is) here in
    let named = ap (λ o. keyed_visits c.args.self.now.program.methods c.args.role o (chain up c.args.c.0)) c.in_ok-name.was in
    omega (arith, one, named, c.tick.ensures, c.loop-at.invariant.visits)

pub loop-at-smaller : goal.loop-at-smaller
loop-at-smaller g c =
    let up : Parents = parents c.args.self.now.program.classes in
    let h : IsPreorder up = order (parts_of c.args.self.now.program) c.args.self.now.program.sound in
    let parent : option_map (λ (k : ClassId). k.0) c.parent-at.result ≡ parent_in up c.in-Some.class.0 = c.parent-at.ensures.parent ∙ ap (λ (t : Table). parent_in t.parents c.in-Some.class.0) c.args.self.now.table in
    let shorter = shorter_above up h (option_map (λ (k : ClassId). k.0) c.loop-at.at) (option_map (λ (k : ClassId). k.0) c.parent-at.result) c.in-Some.class.0 (ap (option_map (λ (k : ClassId). k.0)) c.in-Some.is) parent in
    omega (arith, shorter)

pub loop-at-preserved : goal.loop-at-preserved
loop-at-preserved g c =
    let up : Parents = parents c.args.self.now.program.classes in
    let h : IsPreorder up = order (parts_of c.args.self.now.program) c.args.self.now.program.sound in
    let parent : option_map (λ (k : ClassId). k.0) c.parent-at.result ≡ parent_in up c.in-Some.class.0 = c.parent-at.ensures.parent ∙ ap (λ (t : Table). parent_in t.parents c.in-Some.class.0) c.args.self.now.table in
    let at = ap (option_map (λ (k : ClassId). k.0)) c.in-Some.is in
    let none : keyed_if c.args.self.now.program.methods c.args.role (Some c.in_ok-name.name) c.in-Some.class.0 ≡ None =
    sym (c.args.self.now.members c.in-Some.class.0 c.args.role c.in_ok-name.name) ∙ sym c.member_at.ensures ∙ c.in_default-member_at.is in
    let further = visited_above up c.args.self.now.program.methods c.args.role (Some c.in_ok-name.name) h (option_map (λ (k : ClassId). k.0) c.loop-at.at) (option_map (λ (k : ClassId). k.0) c.parent-at.result) c.in-Some.class.0 at parent none in
    let there : c.in-Some.class.0 < length c.args.self.now.program.classes = c.loop-at.invariant.there c.in-Some.class c.in-Some.is in
    record {
      there = λ k is.
          let low : k.0 < c.in-Some.class.0 = before up h c.in-Some.class.0 k.0 (sym parent ∙ ap (option_map (λ (k : ClassId). k.0)) is) in
          omega arith;
      found = sym (found_above up c.args.self.now.program.methods c.args.role (Some c.in_ok-name.name) h (option_map (λ (k : ClassId). k.0) c.loop-at.at) (option_map (λ (k : ClassId). k.0) c.parent-at.result) c.in-Some.class.0 at parent none) ∙ c.loop-at.invariant.found;
      visits = omega (arith, further, c.tick.ensures, c.loop-at.invariant.visits);
    }
