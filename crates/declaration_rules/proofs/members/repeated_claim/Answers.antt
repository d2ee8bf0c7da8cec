use Rattle.std.proofs.Common.{◌+◌, ap, sym, ◌∙◌, drop, map, option_map}
use Rattle.std.specs.Prelude.{filter_map}
use Rattle.std.specs.List.{cons_option}
use Rattle.dart_syntax.specs.View.{member}
use Rattle.static_rules.specs.Places.{◌or_else◌}
use Rattle.static_rules.specs.Repeats.{repeated}
use Rattle.declaration_rules.specs.Seen.{has, name_of}
use Rattle.declaration_rules.specs.Claims.{claimed}
use Rattle.declaration_rules.proofs.Firsts.{next_name, cut}
use Rattle.declaration_rules.proofs.members.repeated_claim.Goals as goal

pub loop-m-preserved : goal.loop-m-preserved
loop-m-preserved c =
    let rest = filter_map (claimed c.args.claim) (map member (drop (c.loop-m.m-index + 1) c.args.members.now)) in
    next_name (has c.loop-m.seen) (has c.note_name.new.seen) (option_map name_of c.claimed.result) rest c.loop-m.at c.in_ok-at.at _
    (ap (λ o. c.loop-m.at or_else repeated (has c.loop-m.seen) (cons_option o rest)) c.claimed.ensures
    ∙ sym (ap (λ xs. c.loop-m.at or_else repeated (has c.loop-m.seen) (filter_map (claimed c.args.claim) (map member xs))) (cut c.args.members.now c.loop-m.m-index c.m-item.result c.loop-m-test.true c.m-item.is)) ∙ c.loop-m.invariant)
    c.in_ok-at.ensures.place c.in_ok-at.ensures.more
