-- The words of a site as numbers: each part stands at the place that its bits have.
use Rattle.std.specs.Prelude.{◌≡◌, ℕ, ◌+◌, ◌*◌, ◌<◌}
use Rattle.program.specs.declared.numbered.Target.{Target}
use Rattle.program.specs.declared.numbered.Target.TheVariants.{Method, Nsm}
use Rattle.miss_handler.specs.declared.state.CallState.{CallState}
use Rattle.miss_handler.specs.declared.state.CallState.TheVariants.{Unlinked, Mono, Single, Cached, Mega}
use Rattle.miss_handler.specs.declared.row.Check.{Check}
use Rattle.cell_rule.specs.declared.words.Stub.{Stub}
use Rattle.cell_rule.specs.declared.words.Stub.TheVariants as stub
use Rattle.cell_rule.specs.declared.words.Info.{Info}
use Rattle.cell_rule.specs.declared.words.Entry.{Entry}

-- what a data word says: the state of the site, and the target that goes with it
abbrev pub info : CallState → Target → Info
info s t = record { state = s; target = t }

-- what a target word says: the stub that a call enters, and the target behind its check
abbrev pub entry : Stub → Target → Entry
entry s t = record { stub = s; target = t }

-- the target in a word without one
abbrev pub no_target : Target
no_target = Method record { 0 = 0 }

-- the target field: bits 0 to 14 are the method, bit 15 is Nsm
abbrev pub target_field : Target → ℕ
target_field (Method m) = m.0
target_field (Nsm m) = 32768 + m.0

-- the method fits its 15 bits
abbrev pub IsSmall : Target → Type 0
IsSmall (Method m) = m.0 < 32768
IsSmall (Nsm m) = m.0 < 32768

-- bits 40 to 42 of a data word
abbrev pub kind_of : CallState → ℕ
kind_of Unlinked = 0
kind_of (Mono a) = 1
kind_of (Single low high t) = 2
kind_of Cached = 3
kind_of Mega = 4

-- bits 28 to 39 of a data word: the least class of the state, and 0 where it names none
abbrev pub low_of : CallState → ℕ
low_of (Mono a) = a.0
low_of (Single low high t) = low.0
low_of _ = 0

-- bits 16 to 27 of a data word: the greatest class of the state, and 0 where it names none
abbrev pub high_of : CallState → ℕ
high_of (Mono a) = a.0
high_of (Single low high t) = high.0
high_of _ = 0

-- the data word with the stamp k in bits 48 to 63
unfoldable pub data_word : ℕ → Info → ℕ
data_word k i = (((k * 256 + kind_of i.state) * 4096 + low_of i.state) * 4096 + high_of i.state) * 65536 + target_field i.target

-- bits 16 to 18 of a target word
abbrev pub stub_number : Stub → ℕ
stub_number stub.Miss = 0
stub_number stub.CheckedEntry = 1
stub_number stub.Single = 2
stub_number stub.Cached = 3
stub_number stub.Mega = 4

-- the target word with the stamp k in bits 48 to 63
unfoldable pub target_word : ℕ → Entry → ℕ
target_word k e = (k * 4294967296 + stub_number e.stub) * 65536 + target_field e.target

-- a check that is set: bit 32 is one, bits 16 to 27 are the class, bits 0 to 15 its target
unfoldable pub check_word : Check → ℕ
check_word k = (65536 + k.class.0) * 65536 + target_field k.target

-- classes fit 12 bits; the target is the state's own in Single, any one in Mono, and none elsewhere
abbrev pub StateFits : CallState → Target → Type 0
StateFits Unlinked t = t ≡ no_target
StateFits (Mono a) t = a.0 < 4096
StateFits (Single low high own) t = (low.0 < 4096) × (high.0 < 4096) × (t ≡ own)
StateFits Cached t = t ≡ no_target
StateFits Mega t = t ≡ no_target

-- what a data word can hold
pub record DataFits (k : ℕ) (i : Info) : Type 0 where
  pub stamp : k < 65536
  pub state : StateFits i.state i.target
  pub target : IsSmall i.target

-- any target behind the checked entry, and none in the other stubs
abbrev pub StubFits : Stub → Target → Type 0
StubFits stub.CheckedEntry t = Unit {0}
StubFits _ t = t ≡ no_target

-- what a target word can hold
pub record TargetFits (k : ℕ) (e : Entry) : Type 0 where
  pub stamp : k < 65536
  pub stub : StubFits e.stub e.target
  pub target : IsSmall e.target

-- what a check can hold
pub record CheckFits (k : Check) : Type 0 where
  pub class : k.class.0 < 4096
  pub target : IsSmall k.target

-- a packed data word
abbrev pub IsDataWord : ℕ → Type 0
IsDataWord n = (k : ℕ) × (i : Info) × DataFits k i × (n ≡ data_word k i)

-- a packed target word
abbrev pub IsTargetWord : ℕ → Type 0
IsTargetWord n = (k : ℕ) × (e : Entry) × TargetFits k e × (n ≡ target_word k e)

-- a check that is set
abbrev pub IsCheckWord : ℕ → Type 0
IsCheckWord n = (k : Check) × CheckFits k × (n ≡ check_word k)

-- what the target word of the same stamp says
abbrev pub entry_at : CallState → Target → Entry
entry_at Unlinked t = entry stub.Miss no_target
entry_at (Mono a) t = entry stub.CheckedEntry t
entry_at (Single low high own) t = entry stub.Single no_target
entry_at Cached t = entry stub.Cached no_target
entry_at Mega t = entry stub.Mega no_target

-- the target word that goes with a data word
abbrev pub entry_of : Info → Entry
entry_of i = entry_at i.state i.target

-- what a data word says
abbrev pub SaysData : ℕ → ℕ × CallState × Target → Type 0
SaysData n r = DataFits r.0 (info r.1 r.2) × (n ≡ data_word r.0 (info r.1 r.2))

-- what a target word says
abbrev pub SaysTarget : ℕ → ℕ × Stub × Target → Type 0
SaysTarget n r = TargetFits r.0 (entry r.1 r.2) × (n ≡ target_word r.0 (entry r.1 r.2))

-- what a check says
abbrev pub SaysCheck : ℕ → Check → Type 0
SaysCheck n k = CheckFits k × (n ≡ check_word k)

-- the number is that of the target word which goes with a data word
abbrev pub GoesWith : ℕ → ℕ → Type 0
GoesWith n m = (k : ℕ) (i : Info) → DataFits k i → n ≡ data_word k i → m ≡ target_word k (entry_of i)
