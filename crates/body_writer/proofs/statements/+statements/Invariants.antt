-- What is behind a statement is written, and as many variables are open as before it.
use Rattle.std.proofs.Common.{◌≡◌, drop, take}
use Rattle.program_code.specs.Needs.{all_after}
use Rattle.code_writer.specs.Views.{stas_of}
use Rattle.code_writer.specs.EmittedStatements.{emit_stas}
use Rattle.body_writer.proofs.statements.+statements.Given as goal

abbrev pub invariant-emit_statements-loop-i : goal.invariant-emit_statements-loop-i
invariant-emit_statements-loop-i l = (l.variables ≡ all_after l.scope.variables (stas_of (take l.i l.all))) × (l.out ≡ emit_stas l.layout (stas_of (drop l.i l.all)) l.variables l.scope.break_to l.scope.continue_to l.initial.out)
