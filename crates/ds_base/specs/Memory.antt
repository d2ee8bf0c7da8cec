-- The source and the sink in memory: what they hold, and what each call does.
use Rattle.std.specs.Prelude.{ℕ, ◌+◌, ◌-◌, ◌^◌, ◌==◌, ◌||◌, min, Bool, List, ◌++◌, length, take, drop, if◌then◌else◌}
use Rattle.std.specs.List.{list_any}
use Rattle.ds_base.specs.declared.outside.Got.{Got}
use Rattle.ds_base.specs.declared.outside.Got.TheVariants as got
use Rattle.ds_base.specs.declared.outside.Put.{Put}
use Rattle.ds_base.specs.declared.outside.Put.TheVariants as put

-- a count after one more, which stays at its last value
abbrev pub next_count : ℕ → ℕ
next_count n = min (n + 1) (2 ^ 64 - 1)

-- whether the call of this number fails
abbrev pub fails_at : List ℕ → ℕ → Bool
fails_at fails call = list_any (λ n. n == call) fails

-- a source: the bytes that are left, the numbers of the reads that fail, the most that a read moves, the reads so far, and the faults so far
pub record MemoryRest : Type 0 where
  pub rest : List ℕ
  pub fails : List ℕ
  pub chunk : ℕ
  pub calls : ℕ
  pub faults : ℕ

-- the answer of a read into this many bytes
abbrev pub read_answer : MemoryRest → ℕ → Got
read_answer s size =
    if fails_at s.fails s.calls then got.Failed else (if length s.rest == 0 then got.End else got.Bytes (min s.chunk (min size (length s.rest))))

-- the source after a read that answered so
abbrev pub after_read : MemoryRest → Got → MemoryRest
after_read s got.Failed = record s { calls = next_count s.calls; faults = next_count s.faults }
after_read s got.End = record s { calls = next_count s.calls }
after_read s (got.Bytes n) = record s { calls = next_count s.calls; rest = drop n s.rest }

-- a sink: the bytes that it holds, the most that it can hold, the numbers of the writes that fail, the most that a write moves, the writes so far, and the faults so far
pub record MemoryHeld : Type 0 where
  pub bytes : List ℕ
  pub room : ℕ
  pub fails : List ℕ
  pub chunk : ℕ
  pub calls : ℕ
  pub faults : ℕ

-- the answer of a write of this many bytes
abbrev pub write_answer : MemoryHeld → ℕ → Put
write_answer s size =
    if (s.room - length s.bytes == 0) || fails_at s.fails s.calls then put.Failed else put.Took (min s.chunk (min size (s.room - length s.bytes)))

-- the sink after a write of this piece that was answered so
abbrev pub after_write : MemoryHeld → List ℕ → Put → MemoryHeld
after_write s piece put.Failed = record s { calls = next_count s.calls; faults = next_count s.faults }
after_write s piece (put.Took n) = record s { calls = next_count s.calls; bytes = s.bytes ++ take n piece }

-- a source that never fails: the bytes that are left, and the most that a read moves
pub record QuietRest : Type 0 where
  pub rest : List ℕ
  pub chunk : ℕ

-- the answer of a read into this many bytes
abbrev pub quiet_answer : QuietRest → ℕ → Got
quiet_answer s size = if length s.rest == 0 then got.End else got.Bytes (min s.chunk (min size (length s.rest)))

-- the source after a read that answered so
abbrev pub after_quiet : QuietRest → Got → QuietRest
after_quiet s (got.Bytes n) = record s { rest = drop n s.rest }
after_quiet s _ = s
