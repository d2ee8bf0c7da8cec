-- The states of plain cells name classes of their program.
use Rattle.std.proofs.Common.{◌≡◌, ℕ, ◌<◌, IsTrue, List, [], ◌∷◌, length, Option, Some, slice_get, sym, subst, arith}
use Rattle.std.specs.List.{AllByRecursion}
use Rattle.std.specs.Coded.{le_prop}
use Rattle.std.proofs.Math.Logic.{∥∥₁_elim}
use Rattle.std.proofs.Props.{props}
use Rattle.program.specs.declared.numbered.Target.{Target}
use Rattle.program.specs.Parts.{Parts}
use Rattle.program.specs.Program.{parts_of}
use Rattle.method_lookup.specs.declared.linked.Linked.{Linked}
use Rattle.miss_handler.specs.declared.state.CallState.{CallState}
use Rattle.miss_handler.specs.declared.state.CallState.TheVariants.{Unlinked, Mono, Single, Cached, Mega}
use Rattle.miss_handler.specs.States.{Receivers, LawfulState, SiteCell}
use Rattle.miss_handler.specs.Sites.{receivers, IsNamed}
use Rattle.miss_handler.proofs.Places.{classes_at, concrete_within}
use Rattle.miss_handler.proofs.Runs.{Among, alone_lawful}
use Rattle.call_cell.specs.declared.cell.Cell.{Cell}
use Rattle.call_cell.specs.Kept.{site_cell, WasCalled, IsKept}

small_all : (p : Parts) (s : ℕ) (l : List ℕ) → AllByRecursion (λ c. IsTrue ((receivers p s).concrete c)) l → Among (λ c. c < (receivers p s).classes) l
small_all p s [] h = tt
small_all p s (c ∷ l) h = (concrete_within p s c h.0, small_all p s l h.1)

-- a site that was called on concrete classes names one of them, if any
called_named : (p : Parts) (s : ℕ) (cell : SiteCell) → WasCalled (receivers p s) cell → LawfulState (receivers p s) cell.state
called_named p s cell w =
    let r = receivers p s in
    subst (λ (z : SiteCell). LawfulState r z.state) (sym w.is) (alone_lawful r w.classes (small_all p s w.classes w.concrete)).named

lawful_named : (r : Receivers) (n : ℕ) (s : CallState) → r.classes ≡ n → LawfulState r s → IsNamed n s
lawful_named r n Unlinked e l = tt
lawful_named r n (Mono a) e l = omega arith
lawful_named r n (Single lo hi t) e l = tt
lawful_named r n Cached e l = tt
lawful_named r n Mega e l = tt

named_prop : (n : ℕ) (s : CallState) → IsProp (IsNamed n s)
named_prop n Unlinked = hlevel props
named_prop n (Mono a) = le_prop
named_prop n (Single lo hi t) = hlevel props
named_prop n Cached = hlevel props
named_prop n Mega = hlevel props

pub cell_named : (linked : Linked) (cells : List Cell) (tables : List (Option Target)) → ∥ IsKept linked cells tables ∥₁ → (s : ℕ) (k : Cell) → slice_get cells s ≡ Some k →
    IsNamed (length linked.program.classes) k.state
cell_named linked cells tables sound s k here =
    ∥∥₁_elim sound (named_prop (length linked.program.classes) k.state) (λ i.
    lawful_named (receivers (parts_of linked.program) s) (length linked.program.classes) k.state (classes_at (parts_of linked.program) s)
    (called_named (parts_of linked.program) s (site_cell k) (i.called s k here)))
