use Rattle.std.proofs.Common.{◌≡◌, ◌++◌, ◌+◌, drop}
use Rattle.small_program.specs.Numbering.{methods_from}
use Rattle.small_program.proofs.members.add_methods.Given as goal

abbrev pub invariant-loop-class : goal.invariant-loop-class
invariant-loop-class l = record {
  owner : l.owner ≡ 7 + l.class-index;
  rest : l.all ++ methods_from l.owner (drop l.class-index l.chain) ≡ l.initial.all ++ methods_from 7 l.chain;
}
