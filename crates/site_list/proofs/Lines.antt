-- The line and the column of the byte behind a byte.
use Rattle.std.proofs.Common.{◌≡◌, ℕ, zero, suc, ◌+◌, ◌<◌, ◌≤◌, ◌==◌, Bool, true, false, not, cond, List, [], ◌∷◌, ◌++◌, length, take, reverse, get_or, min, inl, inr, subst, refl, sym, ◌∙◌, ap, arith}
use Rattle.std.specs.Prelude.{count_by, take_while}
use Rattle.std.specs.List.{prefix_len}
use Rattle.std.proofs.lemmas.Bool.Decides.{nat_tests}
use Rattle.std.proofs.lemmas.Bool.{cases_lt, cases_eq}
use Rattle.std.proofs.lemmas.List.{reverse-append}
use Rattle.std.proofs.lemmas.List.Sums.{count_by_more_yes, count_by_more_no, count_by-le-length}
use Rattle.dart_syntax.specs.Places.{line_at, column_at}

abbrev is_feed : ℕ → Bool
is_feed b = b == 10

abbrev in_line : ℕ → Bool
in_line b = not (b == 10)

feed_yes : (b : ℕ) → b ≡ 10 → is_feed b ≡ true
feed_yes b e = grind (arith, nat_tests)

feed_no : (b : ℕ) → (b ≡ 10 → ⊥) → is_feed b ≡ false
feed_no b e = grind (arith, nat_tests)

pub line_behind_feed : (text : List ℕ) (i : ℕ) → i < length text → get_or text i 0 ≡ 10 → line_at text (i + 1) ≡ line_at text i + 1
line_behind_feed text i lt e = let h = count_by_more_yes is_feed text i 0 lt (feed_yes (get_or text i 0) e) in omega (arith, h)

pub line_behind : (text : List ℕ) (i : ℕ) → i < length text → (get_or text i 0 ≡ 10 → ⊥) → line_at text (i + 1) ≡ line_at text i
line_behind text i lt e = let h = count_by_more_no is_feed text i 0 lt (feed_no (get_or text i 0) e) in omega (arith, h)

take_last : (xs : List ℕ) (i : ℕ) → i < length xs → take (i + 1) xs ≡ take i xs ++ get_or xs i 0 ∷ []
take_last [] i lt = absurd (omega arith)
take_last (x ∷ xs) zero lt = refl
take_last (x ∷ xs) (suc i) lt = let e : suc i + 1 ≡ suc (i + 1) = omega arith in ap (λ n. take n (x ∷ xs)) e ∙ ap (λ ys. x ∷ ys) (take_last xs i (omega arith))

last_first : (xs : List ℕ) (i : ℕ) → i < length xs → reverse (take (i + 1) xs) ≡ get_or xs i 0 ∷ reverse (take i xs)
last_first xs i lt = ap reverse (take_last xs i lt) ∙ reverse-append (take i xs) (get_or xs i 0 ∷ [])

taken : (ys : List ℕ) → length (take_while in_line ys) ≡ prefix_len in_line ys
taken [] = refl
taken (y ∷ ys) = (elim (in_line y) as (λ b. length (take (cond b (1 + prefix_len in_line ys) 0) (y ∷ ys)) ≡ cond b (1 + prefix_len in_line ys) 0) [
  | true ↦ (let e : 1 + prefix_len in_line ys ≡ suc (prefix_len in_line ys) = omega arith in
      ap (λ n. length (take n (y ∷ ys))) e ∙ ap suc (taken ys) ∙ sym e)
  | false ↦ refl
])

column_by : (text : List ℕ) (i : ℕ) → column_at text i ≡ 1 + prefix_len in_line (reverse (take i text))
column_by text i = ap (λ n. 1 + n) (taken (reverse (take i text)))

column_next : (text : List ℕ) (i : ℕ) (b : Bool) → i < length text → in_line (get_or text i 0) ≡ b → column_at text (i + 1) ≡ 1 + cond b (1 + prefix_len in_line (reverse (take i text))) 0
column_next text i b lt e =
    column_by text (i + 1) ∙ ap (λ ys. 1 + prefix_len in_line ys) (last_first text i lt) ∙ ap (λ c. 1 + cond c (1 + prefix_len in_line (reverse (take i text))) 0) e

pub column_behind_feed : (text : List ℕ) (i : ℕ) → i < length text → get_or text i 0 ≡ 10 → column_at text (i + 1) ≡ 1
column_behind_feed text i lt e = column_next text i false lt (ap not (feed_yes (get_or text i 0) e))

pub column_behind : (text : List ℕ) (i : ℕ) → i < length text → (get_or text i 0 ≡ 10 → ⊥) → column_at text (i + 1) ≡ column_at text i + 1
column_behind text i lt e =
    let h = column_next text i true lt (ap not (feed_no (get_or text i 0) e)) in
    let k = column_by text i in
    omega (arith, h, k)

take_most : (n : ℕ) (xs : List ℕ) → length (take n xs) ≤ n
take_most zero xs = omega arith
take_most (suc n) [] = omega arith
take_most (suc n) (x ∷ xs) = let h = take_most n xs in omega (arith, h)

pub line_most : (text : List ℕ) (i : ℕ) → line_at text i ≤ 1 + i
line_most text i = let h = count_by-le-length is_feed (take i text) in let k = take_most i text in omega (arith, h, k)

pub column_most : (text : List ℕ) (i : ℕ) → i ≤ length text → column_at text i ≤ 1 + i
column_most text zero le = omega arith
column_most text (suc i) le =
    let before = column_most text i (omega arith) in
    let e : i + 1 ≡ suc i = omega arith in
    let step : column_at text (i + 1) ≤ 1 + suc i = elim (cases_eq (get_or text i 0) 10) [
      | inl is ↦ (let h = column_behind_feed text i (omega arith) is in omega (arith, h))
      | inr ne ↦ (let h = column_behind text i (omega arith) ne in omega (arith, h, before))
    ] in
    subst (λ n. column_at text n ≤ 1 + suc i) e step

-- A byte behind the end has the place of the end.
pub take_all : (n : ℕ) (xs : List ℕ) → length xs ≤ n → take n xs ≡ xs
take_all zero [] le = refl
take_all zero (x ∷ xs) le = absurd (omega arith)
take_all (suc n) [] le = refl
take_all (suc n) (x ∷ xs) le = ap (λ ys. x ∷ ys) (take_all n xs (omega arith))

pub take_end : (xs : List ℕ) (n : ℕ) → take (min (length xs) n) xs ≡ take n xs
take_end xs n = elim (cases_lt n (length xs)) [
  | inl lt ↦ (let e : min (length xs) n ≡ n = omega arith in ap (λ k. take k xs) e)
  | inr ge ↦ (let e : min (length xs) n ≡ length xs = omega arith in ap (λ k. take k xs) e ∙ take_all (length xs) xs (omega arith) ∙ sym (take_all n xs ge))
]

pub line_end : (text : List ℕ) (n : ℕ) → line_at text (min (length text) n) ≡ line_at text n
line_end text n = ap (λ ys. 1 + count_by is_feed ys) (take_end text n)

pub column_end : (text : List ℕ) (n : ℕ) → column_at text (min (length text) n) ≡ column_at text n
column_end text n = ap (λ ys. 1 + length (take_while in_line (reverse ys))) (take_end text n)
