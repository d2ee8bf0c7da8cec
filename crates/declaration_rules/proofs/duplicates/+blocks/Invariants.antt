use Rattle.std.proofs.Common.{◌≡◌, drop, map}
use Rattle.dart_syntax.specs.Syntax.{stas}
use Rattle.dart_syntax.specs.View.{sta}
use Rattle.static_rules.specs.Places.{◌or_else◌}
use Rattle.static_rules.specs.DuplicateName.{in_stas}
use Rattle.declaration_rules.proofs.duplicates.+blocks.Given as goal

abbrev pub invariant-repeated_in_all-loop-s : goal.invariant-repeated_in_all-loop-s
invariant-repeated_in_all-loop-s l = (l.at or_else in_stas (stas (map sta (drop l.s-index l.all)))) ≡ in_stas (stas (map sta l.all))
