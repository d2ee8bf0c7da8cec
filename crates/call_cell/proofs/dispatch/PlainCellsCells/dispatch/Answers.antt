use Rattle.std.proofs.Common.{◌≡◌, ◌∙◌, ℕ, ◌≤◌, [], ◌∷◌, sym, refl, subst}
use Rattle.program.specs.Program.{parts_of}
use Rattle.method_lookup.specs.declared.linked.Linked.{Linked}
use Rattle.miss_handler.proofs.Places.{resolve_at}
use Rattle.call_cell.specs.Kept.{Kept, after_calls}
use Rattle.call_cell.specs.Plain.{kept}
use Rattle.call_cell.proofs.Calls.{after_calls-one, covered_stays, stamp_rises}
use Rattle.call_cell.proofs.dispatch.PlainCellsCells.dispatch.Goals as goal

pub returns-in-Some-clause-target : goal.returns-in-Some-clause-target
returns-in-Some-clause-target g c = c.in-Some.ensures.1 ∙ resolve_at (parts_of c.args.linked.now.program) c.args.site.0 c.args.c.0

pub returns-in-Some-clause-after : goal.returns-in-Some-clause-after
returns-in-Some-clause-after g c =
    let p = parts_of c.args.linked.now.program in let k : Kept = kept c.args.self.now in let call : ℕ × ℕ = (c.args.site.0, c.args.c.0) in record {
      program = refl;
      kept_is = subst (λ (l : Linked). k ≡ after_calls (parts_of l.program) k (call ∷ [])) (sym c.requires.made) (sym (after_calls-one p k call ∙ covered_stays p k c.args.site.0 c.args.c.0 c.in-Some.ensures.0));
    }

pub returns-in-None-clause-target : goal.returns-in-None-clause-target
returns-in-None-clause-target g c = c.miss.ensures.target ∙ resolve_at (parts_of c.args.linked.now.program) c.args.site.0 c.args.c.0

pub returns-in-None-clause-seen : goal.returns-in-None-clause-seen
returns-in-None-clause-seen g c = λ x.
    let p = parts_of c.args.linked.now.program in let k : Kept = kept c.args.self.now in
    subst (λ (z : Kept). (k.site x).stamp ≤ (z.site x).stamp) (sym c.miss.ensures.kept) (stamp_rises p k c.args.site.0 c.args.c.0 x)

pub returns-in-None-clause-after : goal.returns-in-None-clause-after
returns-in-None-clause-after g c =
    let p = parts_of c.args.linked.now.program in let k : Kept = kept c.args.self.now in let call : ℕ × ℕ = (c.args.site.0, c.args.c.0) in record {
      program = c.miss.ensures.made;
      kept_is = subst (λ (l : Linked). kept c.miss.new.self ≡ after_calls (parts_of l.program) k (call ∷ [])) (sym c.requires.made) (c.miss.ensures.kept ∙ sym (after_calls-one p k call));
    }
