use Rattle.std.proofs.Common.{◌≡◌, drop, map}
use Rattle.dart_syntax.specs.Syntax.{stas}
use Rattle.dart_syntax.specs.View.{sta}
use Rattle.dart_meaning.specs.Uses.{locals}
use Rattle.static_rules.specs.Places.{◌or_else◌}
use Rattle.static_rules.specs.Repeats.{repeated, repeats}
use Rattle.declaration_rules.specs.Seen.{has}
use Rattle.declaration_rules.proofs.duplicates.repeated_local.Given as goal

abbrev pub invariant-loop-s : goal.invariant-loop-s
invariant-loop-s l = (l.at or_else repeated (has l.seen) (locals (stas (map sta (drop l.s-index l.all))))) ≡ repeats (locals (stas (map sta l.all)))
