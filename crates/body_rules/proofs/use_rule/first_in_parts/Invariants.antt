use Rattle.std.proofs.Common.{◌≡◌, drop, map}
use Rattle.dart_meaning.specs.Uses as u
use Rattle.name_uses.specs.Found.{part_of}
use Rattle.static_rules.specs.Places.{◌or_else◌, first_in}
use Rattle.body_rules.proofs.use_rule.first_in_parts.Given as goal

abbrev pub invariant-loop-part : goal.invariant-loop-part
invariant-loop-part g l =
    let breaks = λ (part : u.Part). first_in (g.R.UseRule.breaks l.rule part) part.uses in
    (l.at or_else first_in breaks (map part_of (drop l.part-index l.all))) ≡ first_in breaks (map part_of l.all)
