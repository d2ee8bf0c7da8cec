use Rattle.std.proofs.Common.{◌≡◌, drop}
use Rattle.dart_syntax.specs.Derivation.{any}
use Rattle.dart_parser.proofs.metas.any.Given as goal

abbrev pub invariant-loop-x : goal.invariant-loop-x
invariant-loop-x l = any l.all ≡ any (drop l.x-index l.all)
