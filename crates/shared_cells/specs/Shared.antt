-- What a list of calls does to shared cells.
use Rattle.std.specs.Prelude.{◌≡◌, ℕ, List, [], ◌++◌, map, refl}
use Rattle.std.proofs.Common.{subst, sym, ◌∙◌}
use Rattle.std.proofs.lemmas.List.{map-append}
use Rattle.cell_rule.specs.declared.view.Asked.{Asked}
use Rattle.cell_rule.specs.declared.view.View.{View}
use Rattle.cell_rule.specs.Histories.{call}
use Rattle.shared_cells.specs.declared.table.CellTable.{CellTable}
use Rattle.shared_cells.specs.Calls.{Called, called_none, called_both}

-- calls, each a site and a class, as a pass keeps them
abbrev pub asked_of : List (ℕ × ℕ) → List Asked
asked_of calls = map (λ c. call c.0 c.1) calls

-- the table is the same, and the pass opened the calls, in order
pub record AfterCalls (s : CellTable) (v : View) (calls : List (ℕ × ℕ)) (t : CellTable) (w : View) : Type 0 where
  pub table : t ≡ s
  pub called : Called (asked_of calls) v w

pub after_calls_none : (s : CellTable) (v : View) → AfterCalls s v [] s v
after_calls_none s v = record { table = refl; called = called_none v }

pub after_calls_both : (r s t : CellTable) (u v w : View) (first second : List (ℕ × ℕ)) → AfterCalls r u first s v → AfterCalls s v second t w → AfterCalls r u (first ++ second) t w
after_calls_both r s t u v w first second p q = record {
  table = q.table ∙ p.table;
  called = subst (λ (l : List Asked). Called l u w) (sym (map-append (λ (c : ℕ × ℕ). call c.0 c.1) first second)) (called_both (asked_of first) (asked_of second) u v w p.called q.called);
}
