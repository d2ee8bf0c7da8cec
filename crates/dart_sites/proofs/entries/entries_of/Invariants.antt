use Rattle.std.proofs.Common.{◌≡◌, take, drop}
use Rattle.program.specs.Program.{parts_of}
use Rattle.compiled_runs.specs.Compiled.{EachTakesNothing}
use Rattle.dart_sites.specs.Words.{texts}
use Rattle.dart_sites.specs.Runs.{AreEntries, unnamed}
use Rattle.dart_sites.proofs.entries.entries_of.Given as goal

abbrev pub invariant-loop-name : goal.invariant-loop-name
invariant-loop-name l = record {
  named : AreEntries l.program (texts (take l.name-index l.names)) l.entries.items;
  takes : EachTakesNothing (parts_of l.program) l.entries.items;
  rest : unnamed l.program (texts (drop l.name-index l.names)) ≡ unnamed l.program (texts l.names);
}
