use Rattle.std.proofs.Common.{◌≡◌, drop}
use Rattle.class_chains.specs.Overriding.{required_of}
use Rattle.class_chains.proofs.chains.required_of.Given as goal

abbrev pub invariant-loop-m : goal.invariant-loop-m
invariant-loop-m l = required_of (drop l.m-index l.methods) l.number l.name ≡ required_of l.methods l.number l.name
