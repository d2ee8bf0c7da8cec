-- Numbers of classes by their names, and what is kept by numbers.
use Rattle.std.proofs.Common.{◌≡◌, ◌<◌, ℕ, zero, suc, Bool, true, false, not, nat_eq, List, [], ◌∷◌, ◌++◌, Option, None, Some, is_some, option_map, if◌then◌else◌, length, get_or, refl, sym, subst, ◌∙◌, ap, bytes_eq, arith}
use Rattle.std.specs.Option.{option_and_then}
use Rattle.std.specs.List.{slice_get}
use Rattle.std.specs.Borrow.{Bor}
use Rattle.std.proofs.Math.ListN.{set}
use Rattle.std.proofs.lemmas.Bool.Decides.{nat_tests}
use Rattle.std.proofs.lemmas.List.{get_or-set_same, get_or-set_other}
use Rattle.std.proofs.lemmas.Option.{unwrap_or-slice_get}
use Rattle.dart_syntax.specs.declared.tree.ClassDecl as src
use Rattle.dart_syntax.specs.Syntax.{ClassDecl}
use Rattle.dart_syntax.specs.Bytes.{Text}
use Rattle.dart_meaning.specs.Classes.{if_so}
use Rattle.static_rules.specs.Places.{Fault}
use Rattle.declaration_rules.specs.Finding.{or_first}
use Rattle.declaration_rules.specs.Seen.{class_of}
use Rattle.declaration_rules.proofs.Finding.{keep_new}
use Rattle.class_chains.specs.Descending.{HoldAll}

abbrev numbered : List (Bor src.ClassDecl) → Option ℕ → Option ClassDecl
numbered all o = option_and_then (λ n. option_map class_of (slice_get all n)) o

either_number : (all : List (Bor src.ClassDecl)) (b : Bool) (i : ℕ) (c : Bor src.ClassDecl) (o : Option ℕ) → slice_get all i ≡ Some c → numbered all (if b then Some i else o) ≡ (if b then Some (class_of c) else numbered all o)
either_number all true i c o is = ap (option_map class_of) is
either_number all false i c o is = refl

-- a name that had no class gets a number
pub kept_number : (all : List (Bor src.ClassDecl)) (get : Text → Option ℕ) (n q : Text) (i : ℕ) (c : Bor src.ClassDecl) (now : Option ℕ) → slice_get all i ≡ Some c → is_some (numbered all (get n)) ≡ false → now ≡ (if bytes_eq n q then Some i else get q)
    → numbered all now ≡ or_first (numbered all (get q)) (if_so (bytes_eq n q) (class_of c))
kept_number all get n q i c now at none is =
    ap (numbered all) is ∙ either_number all (bytes_eq n q) i c (get q) at ∙ keep_new (λ t. numbered all (get t)) n q (class_of c) none

pub some_map : {A B : Type 0} (f : A → B) (o : Option A) → is_some (option_map f o) ≡ is_some o
some_map f None = refl
some_map f (Some x) = refl

pub no_some : {A : Type 0} (o : Option A) → is_some o ≡ false → o ≡ None
no_some None h = refl
no_some (Some x) h = absurd cc

pub not_ne : (b r : Bool) → r ≡ not b → r ≡ false → b ≡ true
not_ne true r h e = refl
not_ne false r h e = absurd cc

pub some_inj : {A : Type 0} (a b : A) → Some a ≡ Some b → a ≡ b
some_inj a b h = cc

same_number : (i j : ℕ) → nat_eq i j ≡ true → j ≡ i
same_number i j h = grind (arith, nat_tests)

other_number : (i j : ℕ) → nat_eq i j ≡ false → j ≡ i → ⊥
other_number i j h e = grind (arith, nat_tests)

-- one more place
pub place_noted : (places : List (Option Fault)) (i : ℕ) (at : Fault) (P : ℕ → Fault → Type 0) → i < length places → P i at → HoldAll P places → HoldAll P (set places i (Some at))
place_noted places i at P lt here all j found is =
    let now = sym (unwrap_or-slice_get (set places i (Some at)) j None) ∙ is in
    elim (nat_eq i j) as (λ b. nat_eq i j ≡ b → P j found) [
      | true ↦ λ e. (
          let same = same_number i j e in
          let got : Some at ≡ Some found = sym (get_or-set_same places i (Some at) None lt) ∙ sym (ap (λ k. get_or (set places i (Some at)) k None) same) ∙ now in
          subst (λ k. P k found) (sym same) (subst (P i) (some_inj at found got) here)
          )
      | false ↦ λ e. all j found (unwrap_or-slice_get places j None ∙ sym (get_or-set_other places i j (Some at) None (other_number i j e)) ∙ now)
    ] refl

-- one more number without a place
pub no_place_more : (places : List (Option Fault)) (P : ℕ → Fault → Type 0) → HoldAll P places → HoldAll P (places ++ None ∷ [])
no_place_more [] P all zero at is = absurd cc
no_place_more [] P all (suc i) at is = absurd cc
no_place_more (x ∷ places) P all zero at is = all zero at is
no_place_more (x ∷ places) P all (suc i) at is = no_place_more places (λ n. P (suc n)) (λ n. all (suc n)) i at is
