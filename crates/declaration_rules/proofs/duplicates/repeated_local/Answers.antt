use Rattle.std.proofs.Common.{◌+◌, ◌++◌, ap, sym, ◌∙◌, drop, map, option_map}
use Rattle.dart_syntax.specs.Syntax.{stas}
use Rattle.dart_syntax.specs.View.{sta}
use Rattle.dart_meaning.specs.Uses.{locals}
use Rattle.static_rules.specs.Places.{◌or_else◌}
use Rattle.static_rules.specs.Repeats.{repeated}
use Rattle.declaration_rules.specs.Seen.{has, name_of}
use Rattle.declaration_rules.proofs.Firsts.{next_name, cut, as_list}
use Rattle.declaration_rules.proofs.duplicates.repeated_local.Goals as goal

pub loop-s-preserved : goal.loop-s-preserved
loop-s-preserved c =
    let rest = locals (stas (map sta (drop (c.loop-s.s-index + 1) c.args.all.now))) in
    let o = option_map name_of c.declared_by.result in
    next_name (has c.loop-s.seen) (has c.note_name.new.seen) o rest c.loop-s.at c.in_ok-at.at _
    (ap (λ xs. c.loop-s.at or_else repeated (has c.loop-s.seen) xs) (sym (as_list o rest) ∙ ap (λ xs. xs ++ rest) c.declared_by.ensures)
    ∙ sym (ap (λ xs. c.loop-s.at or_else repeated (has c.loop-s.seen) (locals (stas (map sta xs)))) (cut c.args.all.now c.loop-s.s-index c.s-item.result c.loop-s-test.true c.s-item.is)) ∙ c.loop-s.invariant)
    c.in_ok-at.ensures.place c.in_ok-at.ensures.more
