use Rattle.std.proofs.Common.{◌≡◌, ◌-◌, ◌≤◌, vec_len}
use Rattle.std.specs.Io.KnownBytes.{Consumes}
use Rattle.dart_sites.proofs.reading.read_all.Given as goal

abbrev pub invariant-loop-bytes : goal.invariant-loop-bytes
invariant-loop-bytes g l = record {
  taken : Consumes (g.S.Source.rest l.initial.source) (g.S.Source.rest l.source) l.bytes.items;
  later : g.S.Source.faults l.initial.source ≤ g.S.Source.faults l.source;
  within : vec_len l.bytes ≤ 1048577;
  room : vec_len l.buffer ≡ 65536;
}

abbrev pub decreases-loop-bytes : goal.decreases-loop-bytes
decreases-loop-bytes g l = 1048577 - vec_len l.bytes
