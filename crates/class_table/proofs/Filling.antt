-- How the sets are made one after the other.
use Rattle.std.proofs.Common.{◌≡◌, ℕ, zero, suc, ◌+◌, ◌-◌, ◌<◌, ◌≤◌, inl, inr, Bool, ◌||◌, nat_eq, List, [], ◌∷◌, length, slice_index, slice_index_or, slice_get, get_or, Some, IsTrue, sym, ◌∙◌, ap, subst, arith}
use Rattle.std.proofs.lemmas.Bool.{cases_eq}
use Rattle.std.proofs.lemmas.Option.{slice_get-get_or, slice_get_within, get_or_from_slice_get}
use Rattle.std.specs.List.{list_any, list_all}
use Rattle.program.specs.Hierarchy.{Supers, supers_in, ends_within}
use Rattle.program.proofs.Each.{and_both}
use Rattle.class_table.specs.Rows.{AllEnd, AreWithin, AreRows, IsRow, IsFilled, row_of, holds, word_count}
use Rattle.class_table.proofs.Ways.{joined_right, row_right, row_is}

all_at : (t : ℕ → Bool) (xs : List ℕ) (i : ℕ) → IsTrue (list_all t xs) → i < length xs → IsTrue (t (slice_index xs i))
all_at t [] i h lt = absurd (omega arith)
all_at t (x ∷ xs) zero h lt = (and_both (t x) (list_all t xs) h).0
all_at t (x ∷ xs) (suc i) h lt = all_at t xs i (and_both (t x) (list_all t xs) h).1 (omega arith)

-- a class that c names, and what is left of the way up
pub record IsNext (named : Supers) (left e : ℕ) : Type 0 where
  pub some : 0 < left
  pub there : e < length named
  pub ends : IsTrue (ends_within (left - 1) named e)

next_by : (named : Supers) (c left i : ℕ) → AreWithin named → IsTrue (ends_within left named c) → i < length (supers_in named c) → IsNext named left (slice_index (supers_in named c) i)
next_by named c zero i within ends lt = absurd (cc)
next_by named c (suc n) i within ends lt =
    let same : suc n - 1 ≡ n = omega arith in
    record {
      some = omega arith;
      there = within c i 0 lt;
      ends = subst (λ (k : ℕ). IsTrue (ends_within k named (slice_index (supers_in named c) i))) (sym same) (all_at (ends_within n named) (supers_in named c) i ends lt);
    }

pub next_is : (named : Supers) (items : List ℕ) (c left i : ℕ) → row_of named c ≡ items → AreWithin named → IsTrue (ends_within left named c) → i < length items → IsNext named left (slice_index items i)
next_is named items c left i is within ends lt =
    subst (λ (xs : List ℕ). i < length xs → IsNext named left (slice_index xs i)) is (next_by named c left i within ends) lt

-- One more class that c names has its set.
pub filled_more : (items : List ℕ) (i : ℕ) (old new : List (List ℕ)) → ((d : ℕ) → IsFilled old d → IsFilled new d) → IsFilled new (slice_index items i)
    → ((at e : ℕ) → at < i → slice_get items at ≡ Some e → IsFilled old e) → (at e : ℕ) → at < i + 1 → slice_get items at ≡ Some e → IsFilled new e
filled_more items i old new kept here before at e lt is = elim (cases_eq at i) [
  | inl same ↦
      let value : slice_index items at ≡ e = get_or_from_slice_get items at e 0 is in
      subst (IsFilled new) (ap (slice_index items) (sym same) ∙ value) here
  | inr ne ↦ kept e (before at e (omega arith) is)
]

-- All classes that c names have their sets.
pub filled_all : (named : Supers) (items : List ℕ) (rows : List (List ℕ)) (c i : ℕ) → row_of named c ≡ items → length items ≤ i
    → ((at e : ℕ) → at < i → slice_get items at ≡ Some e → IsFilled rows e) → (at e : ℕ) → slice_get (supers_in named c) at ≡ Some e → IsFilled rows e
filled_all named items rows c i is le before at e here =
    let there : slice_get items at ≡ Some e = subst (λ (xs : List ℕ). slice_get xs at ≡ Some e) is here in
    let low : at < length items = slice_get_within items at e there in
    before at e (omega arith) there

pub words_of : (named : Supers) (rows shown : List (List ℕ)) (items : List ℕ) (c : ℕ) → shown ≡ rows → row_of named c ≡ items → length rows ≡ length named → AreRows named rows
    → ((at e : ℕ) → slice_get (supers_in named c) at ≡ Some e → IsFilled rows e) → (k d : ℕ) → k < length items → length (row_of shown (slice_index_or items k d)) ≡ word_count (length shown)
words_of named rows shown items c shows is same right filled k d lt =
    let here : slice_get (supers_in named c) k ≡ Some (get_or items k d) = subst (λ (xs : List ℕ). slice_get xs k ≡ Some (get_or items k d)) (sym is) (slice_get-get_or items k d lt) in
    let row = (row_right named rows (get_or items k d) right (filled k (get_or items k d) here)).same in
    ap (λ (xs : List (List ℕ)). length (row_of xs (get_or items k d))) shows ∙ row ∙ ap word_count (sym same) ∙ ap (λ (xs : List (List ℕ)). word_count (length xs)) (sym shows)

-- The set made for c is right.
pub row_done : (named : Supers) (rows shown : List (List ℕ)) (items row : List ℕ) (c : ℕ) → shown ≡ rows → row_of named c ≡ items → length rows ≡ length named → AllEnd named → AreRows named rows
    → ((at e : ℕ) → slice_get (supers_in named c) at ≡ Some e → IsFilled rows e) → length row ≡ word_count (length shown)
    → ((d : ℕ) → holds row d ≡ (nat_eq c d || list_any (λ e. holds (row_of shown e) d) items)) → IsRow named c row
row_done named rows shown items row c shows is same end right filled len each =
    joined_right named rows c row end right filled
    (len ∙ ap (λ (xs : List (List ℕ)). word_count (length xs)) shows ∙ ap word_count same)
    (λ d. each d ∙ ap (λ (xs : List (List ℕ)). nat_eq c d || list_any (λ e. holds (row_of xs e) d) items) shows ∙ ap (λ (es : List ℕ). nat_eq c d || list_any (λ e. holds (row_of rows e) d) es) (sym is))

pub some_words : (n k : ℕ) → n ≡ word_count k → 0 < n
some_words n k e = omega arith

-- One more class has its set.
pub filled_next : (rows : List (List ℕ)) (new : List (List ℕ)) (c : ℕ) → ((d : ℕ) → IsFilled rows d → IsFilled new d) → IsFilled new c → ((d : ℕ) → d < c → IsFilled rows d) → (d : ℕ) → d < c + 1 → IsFilled new d
filled_next rows new c kept here before d lt = elim (cases_eq d c) [
  | inl same ↦ subst (IsFilled new) (sym same) here
  | inr ne ↦ kept d (before d (omega arith))
]

-- The set of a class as it is read is right.
pub row_at : (named : Supers) (rows : List (List ℕ)) (a : ℕ) (words : List ℕ) → AreRows named rows → IsFilled rows a → a < length rows → words ≡ get_or rows a words → IsRow named a words
row_at named rows a words right filled lt is = subst (IsRow named a) (row_is rows a words lt is) (row_right named rows a right filled)
