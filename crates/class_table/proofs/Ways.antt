-- The set of a class from the sets of those that it names.
use Rattle.std.proofs.Common.{◌≡◌, ℕ, zero, suc, ◌+◌, ◌<◌, ◌≤◌, inl, inr, Bool, true, false, ◌||◌, nat_eq, List, [], ◌∷◌, length, drop, slice_index, slice_set, slice_get, get_or, unwrap_or, Some, refl, sym, ◌∙◌, ap, subst, arith, add-one, drop-cons}
use Rattle.std.proofs.lemmas.Bool.{cases_eq}
use Rattle.std.proofs.lemmas.Option.{slice_get_read}
use Rattle.std.specs.List.{list_any}
use Rattle.program.specs.Hierarchy.{Supers, supers_in, is_subtype}
use Rattle.program.proofs.Subtypes.{reaches_same, ends_more}
use Rattle.class_table.specs.Rows.{AllEnd, AreRows, IsRow, IsFilled, row_of, holds, word_count}

-- A class is a subtype of itself, and of what one that it names is a subtype of.
pub subtype_step : (named : Supers) (c d : ℕ) → AllEnd named → is_subtype named c d ≡ (nat_eq c d || list_any (λ e. is_subtype named e d) (supers_in named c))
unfolding is_subtype
subtype_step named c d all = reaches_same named (length named) (suc (length named)) c d (all c) (ends_more named (length named) (suc (length named)) c (omega arith) (all c))

or_assoc : (a b c : Bool) → ((a || b) || c) ≡ (a || (b || c))
or_assoc true b c = refl
or_assoc false b c = refl

-- one more of a list joined
pub or_next : (t : ℕ → Bool) (a : Bool) (xs : List ℕ) (i : ℕ) → i < length xs → ((a || t (slice_index xs i)) || list_any t (drop (i + 1) xs)) ≡ (a || list_any t (drop i xs))
or_next t a xs i lt =
    or_assoc a (t (slice_index xs i)) (list_any t (drop (i + 1) xs))
    ∙ ap (λ (ys : List ℕ). a || list_any t ys) (sym (drop-cons xs i 0 lt ∙ ap (λ (n : ℕ). slice_index xs i ∷ drop n xs) (sym (add-one i))))

pub row_is : (rows : List (List ℕ)) (e : ℕ) (row : List ℕ) → e < length rows → row ≡ get_or rows e row → row_of rows e ≡ row
row_is rows e row lt is = ap (λ o. unwrap_or o []) (slice_get_read rows (length rows) e row refl lt is)

-- where the sets of these classes are there, they are right
pub row_right : (named : Supers) (rows : List (List ℕ)) (e : ℕ) → AreRows named rows → IsFilled rows e → IsRow named e (row_of rows e)
row_right named rows e right filled =
    let here : row_of rows e ≡ filled.0 = ap (λ o. unwrap_or o []) filled.1 in
    subst (IsRow named e) (sym here) (right e filled.0 filled.1 filled.2)

all_same : (named : Supers) (rows : List (List ℕ)) (d : ℕ) → AreRows named rows → d < length named → (es : List ℕ) → ((at : ℕ) (e : ℕ) → slice_get es at ≡ Some e → IsFilled rows e)
    → list_any (λ e. holds (row_of rows e) d) es ≡ list_any (λ e. is_subtype named e d) es
all_same named rows d right lt [] filled = refl
all_same named rows d right lt (e ∷ es) filled =
    ap (λ b. b || list_any (λ e. holds (row_of rows e) d) es) ((row_right named rows e right (filled 0 e refl)).each d lt)
    ∙ ap (λ b. is_subtype named e d || b) (all_same named rows d right lt es (λ at x here. filled (suc at) x here))

-- The joined set is right.
pub joined_right : (named : Supers) (rows : List (List ℕ)) (c : ℕ) (words : List ℕ) → AllEnd named → AreRows named rows → ((at e : ℕ) → slice_get (supers_in named c) at ≡ Some e → IsFilled rows e)
    → length words ≡ word_count (length named) → ((d : ℕ) → holds words d ≡ (nat_eq c d || list_any (λ e. holds (row_of rows e) d) (supers_in named c))) → IsRow named c words
joined_right named rows c words end right filled same each = record {
  same = same;
  each = λ d lt. each d ∙ ap (λ b. nat_eq c d || b) (all_same named rows d right lt (supers_in named c) filled) ∙ sym (subtype_step named c d end);
}

get_set_here : {A : Type 0} (xs : List A) (c : ℕ) (x : A) → c < length xs → slice_get (slice_set xs c x) c ≡ Some x
get_set_here [] c x lt = absurd (omega arith)
get_set_here (y ∷ xs) zero x lt = refl
get_set_here (y ∷ xs) (suc c) x lt = get_set_here xs c x (omega arith)

get_set_else : {A : Type 0} (xs : List A) (c d : ℕ) (x : A) → (d ≡ c → ⊥) → slice_get (slice_set xs c x) d ≡ slice_get xs d
get_set_else [] c d x ne = refl
get_set_else (y ∷ xs) zero zero x ne = absurd (ne refl)
get_set_else (y ∷ xs) zero (suc d) x ne = refl
get_set_else (y ∷ xs) (suc c) zero x ne = refl
get_set_else (y ∷ xs) (suc c) (suc d) x ne = get_set_else xs c d x (λ e. ne (ap suc e))

-- A set is put in its place.
pub put_right : (named : Supers) (rows : List (List ℕ)) (c : ℕ) (words : List ℕ) → c < length rows → AreRows named rows → IsRow named c words → AreRows named (slice_set rows c words)
put_right named rows c words lt right row = λ d found here more. elim (cases_eq d c) [
  | inl is ↦
      let same : words ≡ found = (let w : slice_get (slice_set rows c words) d ≡ Some words = ap (slice_get (slice_set rows c words)) is ∙ get_set_here rows c words lt in cc) in
      subst (λ (n : ℕ). IsRow named n found) (sym is) (subst (IsRow named c) same row)
  | inr ne ↦ right d found (sym (get_set_else rows c d words ne) ∙ here) more
]

pub put_filled : (rows : List (List ℕ)) (c : ℕ) (words : List ℕ) → c < length rows → 0 < length words → IsFilled (slice_set rows c words) c
put_filled rows c words lt more = (words, get_set_here rows c words lt, more)

pub put_kept : (rows : List (List ℕ)) (c d : ℕ) (words : List ℕ) → c < length rows → 0 < length words → IsFilled rows d → IsFilled (slice_set rows c words) d
put_kept rows c d words lt more filled = elim (cases_eq d c) [
  | inl is ↦ subst (λ (n : ℕ). IsFilled (slice_set rows c words) n) (sym is) (put_filled rows c words lt more)
  | inr ne ↦ (filled.0, get_set_else rows c d words ne ∙ filled.1, filled.2)
]

pub or_none : (a b : Bool) → b ≡ false → (a || b) ≡ a
or_none true b e = refl
or_none false b e = e

-- One more set is joined.
pub joined_next : (rows : List (List ℕ)) (supers old new row : List ℕ) (c i : ℕ) → i < length supers → row_of rows (slice_index supers i) ≡ row
    → ((k : ℕ) → holds new k ≡ (holds old k || holds row k))
    → ((d : ℕ) → (holds old d || list_any (λ e. holds (row_of rows e) d) (drop i supers)) ≡ (nat_eq c d || list_any (λ e. holds (row_of rows e) d) supers))
    → (d : ℕ) → (holds new d || list_any (λ e. holds (row_of rows e) d) (drop (i + 1) supers)) ≡ (nat_eq c d || list_any (λ e. holds (row_of rows e) d) supers)
joined_next rows supers old new row c i lt is bits each d =
    ap (λ b. b || list_any (λ e. holds (row_of rows e) d) (drop (i + 1) supers)) (bits d ∙ ap (λ (r : List ℕ). holds old d || holds r d) (sym is))
    ∙ or_next (λ e. holds (row_of rows e) d) (holds old d) supers i lt
    ∙ each d

drop_all : (xs : List ℕ) (i : ℕ) → length xs ≤ i → drop i xs ≡ []
drop_all [] zero le = refl
drop_all [] (suc i) le = refl
drop_all (x ∷ xs) zero le = absurd (omega arith)
drop_all (x ∷ xs) (suc i) le = drop_all xs i (omega arith)

-- All are joined.
pub joined_all : (rows : List (List ℕ)) (supers words result : List ℕ) (c i : ℕ) → length supers ≤ i → result ≡ words
    → ((d : ℕ) → (holds words d || list_any (λ e. holds (row_of rows e) d) (drop i supers)) ≡ (nat_eq c d || list_any (λ e. holds (row_of rows e) d) supers))
    → (d : ℕ) → holds result d ≡ (nat_eq c d || list_any (λ e. holds (row_of rows e) d) supers)
joined_all rows supers words result c i le is each d =
    ap (λ (w : List ℕ). holds w d) is
    ∙ sym (or_none (holds words d) false refl)
    ∙ ap (λ (es : List ℕ). holds words d || list_any (λ e. holds (row_of rows e) d) es) (sym (drop_all supers i le))
    ∙ each d
