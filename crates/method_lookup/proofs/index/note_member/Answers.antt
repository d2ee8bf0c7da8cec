use Rattle.std.proofs.Common.{rules, ◌≡◌, ◌∙◌, false, is_some, sym, ap}
use Rattle.method_lookup.specs.Index.{member_in, is_key}
use Rattle.method_lookup.proofs.Firsts.{put_absent, not_some}
use Rattle.method_lookup.proofs.Keys.{in_map, put_by, same_find}
use Rattle.method_lookup.proofs.index.note_member.Goals as goal

pub returns-in_ok-insert : goal.returns-in_ok-insert
returns-in_ok-insert c = λ owner role n.
    put_absent (is_key owner role n c.args.key) c.args.m (member_in c.args.members.now owner role n) (member_in c.insert.new.self owner role n)
    (put_by c.args.members.now c.insert.new.self owner n c.args.m role c.args.key (c.in_ok-insert.ensures.updates.0 (record { owner = owner; role = role; name = n })))
    (λ hit.
    let absent : is_some (member_in c.args.members.now c.args.key.owner c.args.key.role c.args.key.name) ≡ false =
    ap is_some (sym (in_map c.args.members.now c.args.key.owner c.args.key.name c.args.key.role)) ∙ search (rules, c.contains_key.ensures, c.if-not-contains_key.true) in
    same_find c.args.members.now owner n role c.args.key hit ∙ not_some (member_in c.args.members.now c.args.key.owner c.args.key.role c.args.key.name) absent)
