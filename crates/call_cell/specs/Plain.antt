-- Plain cells, and what lists of calls make of them.
use Rattle.std.specs.Prelude.{◌≡◌, ℕ, List, [], ◌++◌, length, refl}
use Rattle.std.proofs.Common.{sym, ap, ◌∙◌}
use Rattle.std.proofs.lemmas.List.Sums.{fold-append}
use Rattle.program.specs.Program.{parts_of}
use Rattle.method_lookup.specs.declared.linked.Linked.{Linked}
use Rattle.call_cell.specs.declared.plain.PlainCells.{PlainCells}
use Rattle.call_cell.specs.Kept.{Kept, kept_in, after_call, after_calls}

-- the program that the cells were made for
abbrev pub linked_of : PlainCells → Linked
linked_of cells = cells.linked.value

-- what the cells keep of each site and each selector
abbrev pub kept : PlainCells → Kept
kept cells = kept_in (length cells.linked.value.program.classes) cells.cells.items cells.tables.items

-- the cells after a list of calls
pub record After (old : PlainCells) (calls : List (ℕ × ℕ)) (new : PlainCells) : Type 0 where
  pub program : linked_of new ≡ linked_of old
  pub kept_is : kept new ≡ after_calls (parts_of (linked_of old).program) (kept old) calls

-- no call
pub after_none : (cells : PlainCells) → After cells [] cells
unfolding after_calls
after_none cells = record { program = refl; kept_is = refl }

-- calls that follow each other
pub after_both : (a b c : PlainCells) (first second : List (ℕ × ℕ)) → After a first b → After b second c → After a (first ++ second) c
unfolding after_calls
after_both a b c first second p q = record {
  program = q.program ∙ p.program;
  kept_is = q.kept_is
      ∙ ap (λ (l : Linked). after_calls (parts_of l.program) (kept b) second) p.program
      ∙ ap (λ k. after_calls (parts_of (linked_of a).program) k second) p.kept_is
      ∙ sym (fold-append (after_call (parts_of (linked_of a).program)) (kept a) first second);
}
