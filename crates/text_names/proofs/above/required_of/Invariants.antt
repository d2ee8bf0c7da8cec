use Rattle.std.proofs.Common.{◌≡◌, drop}
use Rattle.text_names.specs.Above.{required_of}
use Rattle.text_names.proofs.above.required_of.Given as goal

abbrev pub invariant-loop-m : goal.invariant-loop-m
invariant-loop-m l = required_of (drop l.m-index l.methods) l.number l.kind l.name ≡ required_of l.methods l.number l.kind l.name
