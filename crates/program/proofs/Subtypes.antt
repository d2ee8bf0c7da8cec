-- Ways up by `extends` and `implements`: their bound does not matter once each of them ends.
use Rattle.std.proofs.Common.{◌≡◌, ℕ, zero, suc, ◌<◌, ◌≤◌, ◌||◌, nat_eq, nat_lt, List, [], ◌∷◌, length, IsTrue, refl, ◌∙◌, ap, arith}
use Rattle.std.proofs.lemmas.Bool.Decides.{nat_tests}
use Rattle.std.specs.List.{list_any, list_all}
use Rattle.program.specs.Hierarchy.{Supers, supers_in, ends_within, reaches, is_subtype}
use Rattle.program.proofs.Each.{and_both, both_and}

rank_all : (named : Supers) (rank : ℕ → ℕ) (n r : ℕ) → r < suc n → ((e : ℕ) → rank e < n → IsTrue (ends_within n named e))
    → (es : List ℕ) → IsTrue (list_all (λ e. nat_lt (rank e) r) es) → IsTrue (list_all (ends_within n named) es)
rank_all named rank n r lt below [] h = refl
rank_all named rank n r lt below (e ∷ es) h =
    let a = and_both (nat_lt (rank e) r) (list_all (λ e. nat_lt (rank e) r) es) h in
    let low : rank e < n = (let t = a.0 in grind (arith, nat_tests)) in
    both_and (ends_within n named e) (list_all (ends_within n named) es) (below e low) (rank_all named rank n r lt below es a.1)

-- Where each class has a rank, and those that it names have lower ones, each way up from a class ends within its rank.
pub ends_by_rank : (named : Supers) (rank : ℕ → ℕ) → ((c : ℕ) → IsTrue (list_all (λ e. nat_lt (rank e) (rank c)) (supers_in named c))) → (n c : ℕ) → rank c < n → IsTrue (ends_within n named c)
ends_by_rank named rank falls zero c lt = absurd (omega arith)
ends_by_rank named rank falls (suc n) c lt = rank_all named rank n (rank c) lt (ends_by_rank named rank falls n) (supers_in named c) (falls c)

same_all : (named : Supers) (n m d : ℕ) → ((e : ℕ) → IsTrue (ends_within n named e) → IsTrue (ends_within m named e) → reaches n named e d ≡ reaches m named e d)
    → (es : List ℕ) → IsTrue (list_all (ends_within n named) es) → IsTrue (list_all (ends_within m named) es) → list_any (λ e. reaches n named e d) es ≡ list_any (λ e. reaches m named e d) es
same_all named n m d same [] h k = refl
same_all named n m d same (e ∷ es) h k =
    let a = and_both (ends_within n named e) (list_all (ends_within n named) es) h in
    let b = and_both (ends_within m named e) (list_all (ends_within m named) es) k in
    ap (λ x. x || list_any (λ e. reaches n named e d) es) (same e a.0 b.0) ∙ ap (λ x. reaches m named e d || x) (same_all named n m d same es a.1 b.1)

-- The bound does not matter.
pub reaches_same : (named : Supers) (n m c d : ℕ) → IsTrue (ends_within n named c) → IsTrue (ends_within m named c) → reaches n named c d ≡ reaches m named c d
reaches_same named zero m c d h k = absurd (cc)
reaches_same named (suc n) zero c d h k = absurd (cc)
reaches_same named (suc n) (suc m) c d h k = ap (λ x. nat_eq c d || x) (same_all named n m d (λ e. reaches_same named n m e d) (supers_in named c) h k)

-- Each way up ends within so many classes, so within the number of all of them.
more_all : (named : Supers) (n m : ℕ) → ((e : ℕ) → IsTrue (ends_within n named e) → IsTrue (ends_within m named e)) → (es : List ℕ) → IsTrue (list_all (ends_within n named) es) → IsTrue (list_all (ends_within m named) es)
more_all named n m more [] h = refl
more_all named n m more (e ∷ es) h =
    let a = and_both (ends_within n named e) (list_all (ends_within n named) es) h in
    both_and (ends_within m named e) (list_all (ends_within m named) es) (more e a.0) (more_all named n m more es a.1)

pub ends_more : (named : Supers) (n m c : ℕ) → n ≤ m → IsTrue (ends_within n named c) → IsTrue (ends_within m named c)
ends_more named zero m c le h = absurd (cc)
ends_more named (suc n) zero c le h = absurd (omega arith)
ends_more named (suc n) (suc m) c le h = more_all named n m (λ e. ends_more named n m e (omega arith)) (supers_in named c) h

-- what is said of subtypes: a class is one of itself, and of each that is one of a class that it names
pub subtype_step : (named : Supers) (n c d : ℕ) → IsTrue (ends_within (suc n) named c) → IsTrue (ends_within (length named) named c)
    → is_subtype named c d ≡ (nat_eq c d || list_any (λ e. reaches n named e d) (supers_in named c))
unfolding is_subtype
subtype_step named n c d h all = reaches_same named (length named) (suc n) c d all h
