use Rattle.std.proofs.Common.{◌≡◌, ◌||◌, ◌∙◌, Bool, true, false, cond, bytes_eq, refl}
use Rattle.declaration_rules.specs.Seen.{has}
use Rattle.declaration_rules.proofs.repeats.note.Goals as goal

either : (b x : Bool) → cond b true x ≡ (b || x)
either true x = refl
either false x = refl

pub returns-clause-more : goal.returns-clause-more
returns-clause-more c = λ q. c.in_ok-insert.ensures.updates.0 (record { ref_ptr = c.args.text.ref_ptr; now = q }) ∙ either (bytes_eq c.args.text.now q) (has c.args.seen.now q)
