-- Lists in the order of a number of each item.
use Rattle.std.proofs.Common.{◌≡◌, ℕ, zero, suc, ◌+◌, ◌<◌, ◌≤◌, Bool, true, false, cond, nat_eq, nat_lt, nat_le, List, [], ◌∷◌, length, map, Some, slice_get, get_or, refl, sym, ◌∙◌, ap, subst, arith}
use Rattle.std.specs.Prelude.{count_by, filter}
use Rattle.std.specs.List.{list_any}
use Rattle.std.specs.List.Sorted.{IsPermutation, IsNonDecreasingBy}
use Rattle.std.proofs.lemmas.Bool.Decides.{nat_tests}
use Rattle.std.proofs.lemmas.List.Sums.{sum_by-cons}
use Rattle.std.proofs.lemmas.List.Sorted.{IsPermutation-refl, IsPermutation-sym, IsPermutation-cons, IsPermutation-middle, IsPermutation-trans, sum_by-IsPermutation, list_any-IsPermutation}

module _ {X : Type 0} (n : X → ℕ) where
  -- puts an item among others that stand in order, and puts items in order
  abbrev pub put_in : X → List X → List X
  put_in s [] = s ∷ []
  put_in s (x ∷ more) = cond (nat_le (n s) (n x)) (s ∷ x ∷ more) (x ∷ put_in s more)

  abbrev pub in_line : List X → List X
  in_line [] = []
  in_line (s ∷ more) = put_in s (in_line more)

  -- the number is at most that of each item, or below it
  abbrev pub Least : ℕ → List X → Type 0
  Least m [] = Unit {0}
  Least m (x ∷ more) = (m ≤ n x) × Least m more

  abbrev pub Below : ℕ → List X → Type 0
  Below m [] = Unit {0}
  Below m (x ∷ more) = (m < n x) × Below m more

  abbrev pub Ordered : List X → Type 0
  Ordered [] = Unit {0}
  Ordered (x ∷ more) = Least (n x) more × Ordered more

  abbrev pub Rising : List X → Type 0
  Rising [] = Unit {0}
  Rising (x ∷ more) = Below (n x) more × Rising more

  -- no two items have one number
  abbrev pub Differ : List X → Type 0
  Differ [] = Unit {0}
  Differ (x ∷ more) = (list_any (λ y. nat_eq (n x) (n y)) more ≡ false) × Differ more

  -- the items of a number
  abbrev pub at : ℕ → List X → List X
  at m xs = filter (λ y. nat_eq m (n y)) xs

  -- ---- order

  least_weaker : (m k : ℕ) (xs : List X) → m ≤ k → Least k xs → Least m xs
  least_weaker m k [] le h = tt
  least_weaker m k (x ∷ xs) le h = (omega (arith, h.0), least_weaker m k xs le h.1)

  least_put : (m : ℕ) (s : X) (xs : List X) → m ≤ n s → Least m xs → Least m (put_in s xs)
  least_put m s [] le h = (le, tt)
  least_put m s (x ∷ more) le h = (elim (nat_le (n s) (n x)) as (λ b. Least m (cond b (s ∷ x ∷ more) (x ∷ put_in s more))) [
    | true ↦ (le, h)
    | false ↦ (h.0, least_put m s more le h.1)
  ])

  ordered_put : (s : X) (xs : List X) → Ordered xs → Ordered (put_in s xs)
  ordered_put s [] h = (tt, tt)
  ordered_put s (x ∷ more) h = (elim (nat_le (n s) (n x)) as (λ b. nat_le (n s) (n x) ≡ b → Ordered (cond b (s ∷ x ∷ more) (x ∷ put_in s more))) [
    | true ↦ λ is. (let le : n s ≤ n x = grind (arith, nat_tests) in ((le, least_weaker (n s) (n x) more le h.0), h))
    | false ↦ λ is. (let le : n x ≤ n s = grind (arith, nat_tests) in (least_put (n x) s more le h.0, ordered_put s more h.1))
  ]) refl

  pub ordered_line : (xs : List X) → Ordered (in_line xs)
  ordered_line [] = tt
  ordered_line (x ∷ xs) = ordered_put x (in_line xs) (ordered_line xs)

  least_from : (m : ℕ) (xs : List X) → ((j : ℕ) (d : X) → j < length xs → m ≤ n (get_or xs j d)) → Least m xs
  least_from m [] h = tt
  least_from m (x ∷ xs) h = (h 0 x (omega arith), least_from m xs (λ j d lt. h (suc j) d (omega arith)))

  pub ordered_from : (xs : List X) → IsNonDecreasingBy n xs → Ordered xs
  ordered_from [] h = tt
  ordered_from (x ∷ xs) h = (least_from (n x) xs (λ j d lt. h 0 (suc j) d (omega arith) (omega arith)), ordered_from xs (λ i j d le lt. h (suc i) (suc j) d (omega arith) (omega arith)))

  -- ---- the same items

  put_moves : (s : X) (xs : List X) → IsPermutation (s ∷ xs) (put_in s xs)
  put_moves s [] = IsPermutation-refl (s ∷ [])
  put_moves s (x ∷ more) = (elim (nat_le (n s) (n x)) as (λ b. IsPermutation (s ∷ x ∷ more) (cond b (s ∷ x ∷ more) (x ∷ put_in s more))) [
    | true ↦ IsPermutation-refl (s ∷ x ∷ more)
    | false ↦ IsPermutation-trans (s ∷ x ∷ more) (x ∷ s ∷ more) (x ∷ put_in s more)
        (IsPermutation-sym (x ∷ s ∷ more) (s ∷ x ∷ more) (IsPermutation-middle (x ∷ []) s more))
        (IsPermutation-cons x (s ∷ more) (put_in s more) (put_moves s more))
  ])

  pub line_moves : (xs : List X) → IsPermutation xs (in_line xs)
  line_moves [] = IsPermutation-refl []
  line_moves (x ∷ xs) = IsPermutation-trans (x ∷ xs) (x ∷ in_line xs) (put_in x (in_line xs)) (IsPermutation-cons x xs (in_line xs) (line_moves xs)) (put_moves x (in_line xs))

  -- an item that is there is there in order
  further : (s a x : X) (more : List X) → ((i : ℕ) → slice_get (s ∷ more) i ≡ Some a → (j : ℕ) × (slice_get (put_in s more) j ≡ Some a)) → (i : ℕ) → slice_get (s ∷ x ∷ more) i ≡ Some a → (j : ℕ) × (slice_get (x ∷ put_in s more) j ≡ Some a)
  further s a x more h zero e = let f = h 0 e in (suc f.0, f.1)
  further s a x more h (suc zero) e = (0, e)
  further s a x more h (suc (suc i)) e = let f = h (suc i) e in (suc f.0, f.1)

  put_has : (s a : X) (xs : List X) (i : ℕ) → slice_get (s ∷ xs) i ≡ Some a → (j : ℕ) × (slice_get (put_in s xs) j ≡ Some a)
  put_has s a [] i e = (i, e)
  put_has s a (x ∷ more) i e = (elim (nat_le (n s) (n x)) as (λ b. (j : ℕ) × (slice_get (cond b (s ∷ x ∷ more) (x ∷ put_in s more)) j ≡ Some a)) [
    | true ↦ (i, e)
    | false ↦ further s a x more (λ k f. put_has s a more k f) i e
  ])

  pub line_has : (a : X) (xs : List X) (i : ℕ) → slice_get xs i ≡ Some a → (j : ℕ) × (slice_get (in_line xs) j ≡ Some a)
  line_has a [] i e = absurd (cc)
  line_has a (x ∷ xs) zero e = put_has x a (in_line xs) 0 e
  line_has a (x ∷ xs) (suc i) e = let f = line_has a xs i e in put_has x a (in_line xs) (suc f.0) f.1

  -- ---- items of one number stay in their order

  at_here : (m : ℕ) (x : X) (xs : List X) → m ≡ n x → at m (x ∷ xs) ≡ x ∷ at m xs
  at_here m x xs e = let hit : nat_eq m (n x) ≡ true = grind (arith, nat_tests) in ap (λ b. cond b (x ∷ at m xs) (at m xs)) hit

  at_other : (m : ℕ) (x : X) (xs : List X) → (m ≡ n x → ⊥) → at m (x ∷ xs) ≡ at m xs
  at_other m x xs ne = let miss : nat_eq m (n x) ≡ false = grind (arith, nat_tests) in ap (λ b. cond b (x ∷ at m xs) (at m xs)) miss

  past : (m : ℕ) (s x : X) (more : List X) → n x < n s → at m (x ∷ s ∷ more) ≡ at m (s ∷ x ∷ more)
  past m s x more lt = (elim (nat_eq m (n x)) as (λ b. nat_eq m (n x) ≡ b → cond b (x ∷ at m (s ∷ more)) (at m (s ∷ more)) ≡ cond (nat_eq m (n s)) (s ∷ cond b (x ∷ at m more) (at m more)) (cond b (x ∷ at m more) (at m more))) [
    | true ↦ λ is. (let miss : nat_eq m (n s) ≡ false = grind (arith, nat_tests) in
        ap (λ ys. x ∷ ys) (ap (λ b. cond b (s ∷ at m more) (at m more)) miss) ∙ sym (ap (λ b. cond b (s ∷ x ∷ at m more) (x ∷ at m more)) miss))
    | false ↦ λ is. refl
  ]) refl

  at_put : (m : ℕ) (s : X) (xs : List X) → at m (put_in s xs) ≡ at m (s ∷ xs)
  at_put m s [] = refl
  at_put m s (x ∷ more) = (elim (nat_le (n s) (n x)) as (λ b. nat_le (n s) (n x) ≡ b → at m (cond b (s ∷ x ∷ more) (x ∷ put_in s more)) ≡ at m (s ∷ x ∷ more)) [
    | true ↦ λ is. refl
    | false ↦ λ is. (let lt : n x < n s = grind (arith, nat_tests) in
        ap (λ ys. cond (nat_eq m (n x)) (x ∷ ys) ys) (at_put m s more) ∙ past m s x more lt)
  ]) refl

  pub at_line : (m : ℕ) (xs : List X) → at m (in_line xs) ≡ at m xs
  at_line m [] = refl
  at_line m (x ∷ xs) = at_put m x (in_line xs) ∙ ap (λ ys. cond (nat_eq m (n x)) (x ∷ ys) ys) (at_line m xs)

  -- ---- Lists in order that have the same items of each number are one list.

  least_of : (m k : ℕ) (a : X) (rest xs : List X) → Least m xs → at k xs ≡ a ∷ rest → m ≤ k
  least_of m k a rest [] h e = absurd (cc)
  least_of m k a rest (x ∷ xs) h e = (elim (nat_eq k (n x)) as (λ b. nat_eq k (n x) ≡ b → cond b (x ∷ at k xs) (at k xs) ≡ a ∷ rest → m ≤ k) [
    | true ↦ λ is f. (let le : m ≤ n x = h.0 in grind (arith, nat_tests))
    | false ↦ λ is f. least_of m k a rest xs h.1 f
  ]) refl e

  same_rest : (m : ℕ) (x : X) (xs ys : List X) → at m (x ∷ xs) ≡ at m (x ∷ ys) → at m xs ≡ at m ys
  same_rest m x xs ys e = (elim (nat_eq m (n x)) as (λ b. cond b (x ∷ at m xs) (at m xs) ≡ cond b (x ∷ at m ys) (at m ys) → at m xs ≡ at m ys) [
    | true ↦ λ f. cc
    | false ↦ λ f. f
  ]) e

  pub one_line : (xs ys : List X) → Ordered xs → Ordered ys → ((z : X) → at (n z) xs ≡ at (n z) ys) → xs ≡ ys
  one_line [] [] o p h = refl
  one_line [] (y ∷ ys) o p h = let f = h y in let g = at_here (n y) y ys refl in absurd (cc)
  one_line (x ∷ xs) [] o p h = let f = h x in let g = at_here (n x) x xs refl in absurd (cc)
  one_line (x ∷ xs) (y ∷ ys) o p h =
      let here = at_here (n x) x xs refl in
      let there = at_here (n y) y ys refl in
      let le : n y ≤ n x = least_of (n y) (n x) x (at (n x) xs) (y ∷ ys) (omega arith, p.0) (sym (h x) ∙ here) in
      let ge : n x ≤ n y = least_of (n x) (n y) y (at (n y) ys) (x ∷ xs) (omega arith, o.0) (h y ∙ there) in
      let number : n x ≡ n y = omega arith in
      let there_too = at_here (n x) y ys number in
      let both : x ∷ at (n x) xs ≡ y ∷ at (n x) ys = sym here ∙ h x ∙ there_too in
      let same : x ≡ y = cc in
      let rest = one_line xs ys o.1 p.1 (λ z. same_rest (n z) x xs ys (h z ∙ ap (λ w. at (n z) (w ∷ ys)) (sym same))) in
      ap (λ w. w ∷ xs) same ∙ ap (λ zs. y ∷ zs) rest

  pub line_is : (xs ys : List X) → Ordered ys → ((z : X) → at (n z) ys ≡ at (n z) xs) → ys ≡ in_line xs
  line_is xs ys o h = one_line ys (in_line xs) o (ordered_line xs) (λ z. h z ∙ sym (at_line (n z) xs))

  -- ---- places

  any_at : (t : X → Bool) (xs : List X) → list_any t xs ≡ true → (i : ℕ) × (x : X) × (slice_get xs i ≡ Some x) × (t x ≡ true)
  any_at t [] h = absurd (cc)
  any_at t (x ∷ xs) h = (elim (t x) as (λ b. t x ≡ b → (i : ℕ) × (y : X) × (slice_get (x ∷ xs) i ≡ Some y) × (t y ≡ true)) [
    | true ↦ λ is. (0, x, refl, is)
    | false ↦ λ is. (let more : list_any t xs ≡ true = grind (arith, nat_tests) in let f = any_at t xs more in (suc f.0, f.1, f.2, f.3))
  ]) refl

  get_number : (xs : List X) (i : ℕ) (x : X) → slice_get xs i ≡ Some x → slice_get (map n xs) i ≡ Some (n x)
  get_number [] i x e = absurd (cc)
  get_number (y ∷ ys) zero x e = let is : y ≡ x = cc in ap (λ z. Some (n z)) is
  get_number (y ∷ ys) (suc i) x e = get_number ys i x e

  pub differ_from : (xs : List X) → ((i j k : ℕ) → slice_get (map n xs) i ≡ Some k → slice_get (map n xs) j ≡ Some k → i ≡ j) → Differ xs
  differ_from [] h = tt
  differ_from (x ∷ xs) h =
      let miss : list_any (λ y. nat_eq (n x) (n y)) xs ≡ false = (elim (list_any (λ y. nat_eq (n x) (n y)) xs) as (λ b. list_any (λ y. nat_eq (n x) (n y)) xs ≡ b → b ≡ false) [
        | true ↦ λ is. (let f = any_at (λ y. nat_eq (n x) (n y)) xs is in
            let one : n f.1 ≡ n x = (let t = f.3 in grind (arith, nat_tests)) in
            let place : 0 ≡ suc f.0 = h 0 (suc f.0) (n x) refl (get_number xs f.0 f.1 f.2 ∙ ap Some one) in
            absurd (omega (arith, place)))
        | false ↦ λ is. refl
      ]) refl in
      (miss, differ_from xs (λ i j k a b. let e : suc i ≡ suc j = h (suc i) (suc j) k a b in omega arith))

  differ_put : (s : X) (xs : List X) → list_any (λ y. nat_eq (n s) (n y)) xs ≡ false → Differ xs → Differ (put_in s xs)
  differ_put s [] h d = (refl, tt)
  differ_put s (x ∷ more) h d = (elim (nat_le (n s) (n x)) as (λ b. Differ (cond b (s ∷ x ∷ more) (x ∷ put_in s more))) [
    | true ↦ (h, d)
    | false ↦
        (let rest : list_any (λ y. nat_eq (n s) (n y)) more ≡ false = grind (arith, nat_tests) in
        let swap : nat_eq (n x) (n s) ≡ false = grind (arith, nat_tests) in
        let moved = list_any-IsPermutation (λ y. nat_eq (n x) (n y)) (s ∷ more) (put_in s more) (put_moves s more) in
        let two : list_any (λ y. nat_eq (n x) (n y)) (s ∷ more) ≡ false = (let e = d.0 in grind (arith, nat_tests)) in
        (sym moved ∙ two, differ_put s more rest d.1))
  ])

  differ_line : (xs : List X) → Differ xs → Differ (in_line xs)
  differ_line [] d = tt
  differ_line (x ∷ xs) d = differ_put x (in_line xs) (sym (list_any-IsPermutation (λ y. nat_eq (n x) (n y)) xs (in_line xs) (line_moves xs)) ∙ d.0) (differ_line xs d.1)

  below_from : (m : ℕ) (xs : List X) → Least m xs → list_any (λ y. nat_eq m (n y)) xs ≡ false → Below m xs
  below_from m [] h d = tt
  below_from m (x ∷ xs) h d =
      let le : m ≤ n x = h.0 in
      let here : m < n x = grind (arith, nat_tests) in
      let rest : list_any (λ y. nat_eq m (n y)) xs ≡ false = grind (arith, nat_tests) in
      (here, below_from m xs h.1 rest)

  rising_from : (xs : List X) → Ordered xs → Differ xs → Rising xs
  rising_from [] o d = tt
  rising_from (x ∷ xs) o d = (below_from (n x) xs o.0 d.0, rising_from xs o.1 d.1)

  pub rising_line : (xs : List X) → Differ xs → Rising (in_line xs)
  rising_line xs d = rising_from (in_line xs) (ordered_line xs) (differ_line xs d)

  abbrev pub bit : Bool → ℕ
  bit b = cond b 1 0

  -- how many items have a lower number
  abbrev pub rank : ℕ → List X → ℕ
  rank m xs = count_by (λ y. nat_lt (n y) m) xs

  rank_lower : (m : ℕ) (x : X) (xs : List X) → n x < m → rank m (x ∷ xs) ≡ suc (rank m xs)
  rank_lower m x xs lt =
      let hit : nat_lt (n x) m ≡ true = grind (arith, nat_tests) in
      let e : rank m (x ∷ xs) ≡ bit (nat_lt (n x) m) + rank m xs = sum_by-cons (λ y. cond (nat_lt (n y) m) 1 0) x xs in
      let f : bit (nat_lt (n x) m) ≡ 1 = ap bit hit in
      omega (arith, e, f)

  rank_higher : (m : ℕ) (x : X) (xs : List X) → m ≤ n x → rank m (x ∷ xs) ≡ rank m xs
  rank_higher m x xs le =
      let miss : nat_lt (n x) m ≡ false = grind (arith, nat_tests) in
      let e : rank m (x ∷ xs) ≡ bit (nat_lt (n x) m) + rank m xs = sum_by-cons (λ y. cond (nat_lt (n y) m) 1 0) x xs in
      let f : bit (nat_lt (n x) m) ≡ 0 = ap bit miss in
      omega (arith, e, f)

  rank_none : (m : ℕ) (xs : List X) → Below m xs → rank m xs ≡ 0
  rank_none m [] h = refl
  rank_none m (x ∷ xs) h = rank_higher m x xs (omega (arith, h.0)) ∙ rank_none m xs h.1

  below_at : (m : ℕ) (xs : List X) (i : ℕ) (s : X) → Below m xs → slice_get xs i ≡ Some s → m < n s
  below_at m [] i s h e = absurd (cc)
  below_at m (x ∷ xs) zero s h e = let is : x ≡ s = cc in subst (λ y. m < n y) is h.0
  below_at m (x ∷ xs) (suc i) s h e = below_at m xs i s h.1 e

  rank_at : (xs : List X) → Rising xs → (i : ℕ) (s : X) → slice_get xs i ≡ Some s → rank (n s) xs ≡ i
  rank_at [] r i s e = absurd (cc)
  rank_at (x ∷ xs) r zero s e = let is : x ≡ s = cc in subst (λ y. rank (n y) (x ∷ xs) ≡ 0) is (rank_higher (n x) x xs (omega arith) ∙ rank_none (n x) xs r.0)
  rank_at (x ∷ xs) r (suc i) s e = rank_lower (n s) x xs (below_at (n x) xs i s r.0 e) ∙ ap suc (rank_at xs r.1 i s e)

  -- In order, an item stands behind as many as have a lower number.
  pub line_at : (xs : List X) → Differ xs → (i : ℕ) (s : X) → slice_get xs i ≡ Some s → slice_get (in_line xs) (rank (n s) xs) ≡ Some s
  line_at xs d i s e =
      let f = line_has s xs i e in
      let there = rank_at (in_line xs) (rising_line xs d) f.0 s f.1 in
      let same : rank (n s) (in_line xs) ≡ rank (n s) xs = sum_by-IsPermutation (λ y. cond (nat_lt (n y) (n s)) 1 0) xs (in_line xs) (line_moves xs) in
      ap (slice_get (in_line xs)) (sym same ∙ there) ∙ f.1

-- Items that are read from others are put in order as those are.
map_put : {X Y : Type 0} (n : Y → ℕ) (f : X → Y) (s : X) (xs : List X) → map f (put_in (λ x. n (f x)) s xs) ≡ put_in n (f s) (map f xs)
map_put n f s [] = refl
map_put n f s (x ∷ more) = (elim (nat_le (n (f s)) (n (f x))) as (λ b. map f (cond b (s ∷ x ∷ more) (x ∷ put_in (λ x. n (f x)) s more)) ≡ cond b (f s ∷ f x ∷ map f more) (f x ∷ put_in n (f s) (map f more))) [
  | true ↦ refl
  | false ↦ ap (λ ys. f x ∷ ys) (map_put n f s more)
])

pub map_line : {X Y : Type 0} (n : Y → ℕ) (f : X → Y) (xs : List X) → map f (in_line (λ x. n (f x)) xs) ≡ in_line n (map f xs)
map_line n f [] = refl
map_line n f (x ∷ xs) = map_put n f x (in_line (λ x. n (f x)) xs) ∙ ap (put_in n (f x)) (map_line n f xs)
