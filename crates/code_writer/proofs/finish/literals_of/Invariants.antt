use Rattle.std.proofs.Common.{◌≡◌, ◌++◌, map, drop}
use Rattle.code_writer.specs.Constants.{literal_of}
use Rattle.code_writer.proofs.finish.literals_of.Given as goal

abbrev pub invariant-loop-key : goal.invariant-loop-key
invariant-loop-key l = l.all.items ++ map literal_of (drop l.key-index l.keys) ≡ map literal_of l.keys
