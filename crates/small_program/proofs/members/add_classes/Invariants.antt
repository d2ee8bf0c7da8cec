use Rattle.std.proofs.Common.{◌≡◌, ◌++◌, ◌+◌, drop}
use Rattle.small_program.specs.Numbering.{chain_below}
use Rattle.small_program.proofs.members.add_classes.Given as goal

abbrev pub invariant-loop-class : goal.invariant-loop-class
invariant-loop-class l = record {
  number : l.number ≡ 7 + l.class-index;
  rest : l.all ++ chain_below l.up l.number (drop l.class-index l.chain) ≡ l.initial.all ++ chain_below 0 7 l.chain;
}
