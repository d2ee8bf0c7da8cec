-- What the parts of a word say.
use Rattle.std.specs.Prelude.{ℕ, zero, suc, ◌-◌, Bool, true, false, ltb}
use Rattle.program.specs.declared.ids.ClassId.{ClassId}
use Rattle.program.specs.declared.numbered.Target.{Target}
use Rattle.program.specs.declared.numbered.Target.TheVariants.{Method, Nsm}
use Rattle.miss_handler.specs.declared.state.CallState.{CallState}
use Rattle.miss_handler.specs.declared.state.CallState.TheVariants.{Unlinked, Mono, Single, Cached, Mega}
use Rattle.cell_rule.specs.declared.words.Stub.{Stub}
use Rattle.cell_rule.specs.declared.words.Stub.TheVariants as stub

-- the class of a number
abbrev pub class : ℕ → ClassId
class n = record { 0 = n }

-- a method, or a `noSuchMethod` where the flag is false
abbrev pub target_at : Bool → ℕ → Target
target_at true n = Method record { 0 = n }
target_at false n = Nsm record { 0 = n - 32768 }

-- the target of a target field
abbrev pub target_from : ℕ → Target
target_from n = target_at (ltb n 32768) n

-- the state of a kind, with its least and greatest class
unfoldable pub state_from : ℕ → ℕ → ℕ → Target → CallState
state_from zero low high t = Unlinked
state_from (suc zero) low high t = Mono (class low)
state_from (suc (suc zero)) low high t = Single (class low) (class high) t
state_from (suc (suc (suc zero))) low high t = Cached
state_from (suc (suc (suc (suc k)))) low high t = Mega

-- the stub of a number
unfoldable pub stub_from : ℕ → Stub
stub_from zero = stub.Miss
stub_from (suc zero) = stub.CheckedEntry
stub_from (suc (suc zero)) = stub.Single
stub_from (suc (suc (suc zero))) = stub.Cached
stub_from (suc (suc (suc (suc k)))) = stub.Mega
