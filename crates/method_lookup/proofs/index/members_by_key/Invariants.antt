use Rattle.std.proofs.Common.{◌≡◌, ℕ, drop}
use Rattle.std.specs.List.{position_from}
use Rattle.program.specs.declared.numbered.SelectorKind.{SelectorKind}
use Rattle.program.specs.Lookup.{or_above}
use Rattle.method_lookup.specs.Index.{member_in, is_keyed, keyed}
use Rattle.method_lookup.proofs.index.members_by_key.Given as goal

abbrev pub invariant-loop-m : goal.invariant-loop-m
invariant-loop-m l = (c : ℕ) (role : SelectorKind) (n : ℕ) → or_above (member_in l.members c role n) (position_from (is_keyed l.methods c role n) l.m (drop l.m l.methods)) ≡ keyed l.methods c role n
