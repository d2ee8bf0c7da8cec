-- What is behind a part is written.
use Rattle.std.proofs.Common.{◌≡◌, map, drop}
use Rattle.program.specs.Bodies.{exp, exps}
use Rattle.code_writer.specs.Views.{pieces_of, calls_of, links_of}
use Rattle.code_writer.specs.Emitted.{emit_all, emit_pieces, emit_calls, emit_links}
use Rattle.body_writer.proofs.expressions.+emit.Given as goal

abbrev pub invariant-emit_all-loop-i : goal.invariant-emit_all-loop-i
invariant-emit_all-loop-i l = l.out ≡ emit_all l.layout (exps (map exp (drop l.i l.all))) l.initial.out

abbrev pub invariant-emit_pieces-loop-i : goal.invariant-emit_pieces-loop-i
invariant-emit_pieces-loop-i l = l.out ≡ emit_pieces l.layout (pieces_of (drop l.i l.all)) l.initial.out

abbrev pub invariant-emit_calls-loop-i : goal.invariant-emit_calls-loop-i
invariant-emit_calls-loop-i l = l.out ≡ emit_calls l.layout (calls_of (drop l.i l.all)) l.initial.out

abbrev pub invariant-emit_calls-loop-j : goal.invariant-emit_calls-loop-j
invariant-emit_calls-loop-j l = l.out ≡ emit_all l.layout (exps (map exp (drop l.j l.args))) l.initial.out

abbrev pub invariant-emit_links-loop-i : goal.invariant-emit_links-loop-i
invariant-emit_links-loop-i l = l.out ≡ emit_links l.layout (links_of (drop l.i l.all)) l.initial.out
