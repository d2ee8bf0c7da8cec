use Rattle.std.proofs.Common.{◌≡◌, drop, map}
use Rattle.name_uses.specs.Using.{used}
use Rattle.name_uses.specs.Found.{part_of}
use Rattle.static_rules.specs.Places.{◌or_else◌, first_in}
use Rattle.body_rules.proofs.use_rule.first_in_part.Given as goal

abbrev pub invariant-loop-one : goal.invariant-loop-one
invariant-loop-one g l =
    let breaks = g.R.UseRule.breaks l.rule (part_of l.part) in
    (l.at or_else first_in breaks (map used (drop l.one-index l.all))) ≡ first_in breaks (map used l.all)
