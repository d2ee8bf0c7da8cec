-- A class with its target as a word.
use Rattle.std.specs.Prelude.{◌≡◌, ℕ, ◌+◌, ◌*◌, ◌<◌, ◌⊎◌}
use Rattle.program.specs.declared.numbered.Target.{Target}
use Rattle.program.specs.declared.numbered.Target.TheVariants.{Method, Nsm}
use Rattle.mega_cache.specs.declared.entry.Entry.{Entry}

-- the number of the method that runs
abbrev pub method_of : Target → ℕ
method_of (Method m) = m.0
method_of (Nsm m) = m.0

-- a target in 16 bits: its method in 15, and one that says whether it is a `noSuchMethod`
abbrev pub field_of : Target → ℕ
field_of (Method m) = m.0
field_of (Nsm m) = 32768 + m.0

-- the word of a class with its target: bit 32 is one, the class stands from bit 16 on, and the target in bits 0 to 15
unfoldable pub packed : ℕ → Target → ℕ
packed c t = (65536 + c) * 65536 + field_of t

-- the word is that of this class with this target, whose method has 15 bits
abbrev pub IsEntryOf : ℕ → Entry → Type 0
IsEntryOf word entry = (word ≡ packed entry.class.0 entry.target) × (method_of entry.target < 32768)

-- the word of an empty place, or of a class with 12 bits and its target
abbrev pub IsPacked : ℕ → Type 0
IsPacked word = (word ≡ 0) ⊎ ((c : ℕ) × (t : Target) × (c < 4096) × (method_of t < 32768) × (word ≡ packed c t))
