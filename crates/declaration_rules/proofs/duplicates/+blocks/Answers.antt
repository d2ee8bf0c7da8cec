use Rattle.std.proofs.Common.{◌+◌, ap, sym, ◌∙◌, drop, map}
use Rattle.dart_syntax.specs.Syntax.{stas}
use Rattle.dart_syntax.specs.View.{sta}
use Rattle.static_rules.specs.Places.{◌or_else◌}
use Rattle.static_rules.specs.DuplicateName.{in_sta, in_stas}
use Rattle.declaration_rules.proofs.Firsts.{next_part, cut}
use Rattle.declaration_rules.proofs.duplicates.+blocks.Goals as goal

pub repeated_in_all-loop-s-preserved : goal.repeated_in_all-loop-s-preserved
repeated_in_all-loop-s-preserved t c =
    next_part c.loop-s.at (in_sta (sta c.s-item.result)) (in_stas (stas (map sta (drop (c.loop-s.s-index + 1) c.args.all.now)))) c.earlier_of-at.result _
    (c.earlier_of-at.ensures ∙ ap (λ o. c.loop-s.at or_else o) c.in_ok-repeated_in.ensures)
    (sym (ap (λ xs. c.loop-s.at or_else in_stas (stas (map sta xs))) (cut c.args.all.now c.loop-s.s-index c.s-item.result c.loop-s-test.true c.s-item.is)) ∙ c.loop-s.invariant)
