-- Code read from one place on: its depths, what is stated of them, and what is fine at each instruction.
use Rattle.std.proofs.Common.{◌≡◌, ℕ, zero, suc, ◌+◌, ◌-◌, ◌<◌, ◌≤◌, List, [], ◌∷◌, ◌++◌, length, slice_get, Some, refl, sym, ap, ◌∙◌, subst, arith}
use Rattle.std.specs.Prelude.{IfSome}
use Rattle.code_unit.specs.declared.instr.Instr.{Instr}
use Rattle.code_unit.specs.Effects.{effect}
use Rattle.program_code.specs.Depths.{depth_behind as behind, depths_from}

-- the depth behind code that begins with d operands
abbrev pub end_of : ℕ → List Instr → ℕ
end_of d [] = d
end_of d (i ∷ more) = end_of (behind i d) more

pub then_end : (d : ℕ) (a b : List Instr) {e f : ℕ} → end_of d a ≡ e → end_of e b ≡ f → end_of d (a ++ b) ≡ f
then_end d [] b x y = ap (λ n. end_of n b) x ∙ y
then_end d (i ∷ a) b x y = then_end (behind i d) a b x y

-- code that is not empty
abbrev pub IsSome : List Instr → Type 0
IsSome [] = ⊥
IsSome (i ∷ more) = Unit {0}

pub some_left : (a b : List Instr) → IsSome a → IsSome (a ++ b)
some_left [] b h = absurd h
some_left (i ∷ a) b h = tt

pub some_right : (a b : List Instr) → IsSome b → IsSome (a ++ b)
some_right [] b h = h
some_right (i ∷ a) b h = tt

-- `depths` are those of a whole unit, which has so many slots.
module _ (depths : List ℕ) (locals : ℕ) where
  -- so many operands are stated for a place
  abbrev pub At : ℕ → ℕ → Type 0
  At t d = slice_get depths t ≡ Some d

  -- from place t on the depths are those of this code
  abbrev pub States : ℕ → ℕ → List Instr → Type 0
  States t d [] = Unit {0}
  States t d (i ∷ more) = At t d × States (t + 1) (behind i d) more

  -- with d operands, the instruction has those that it takes, its slot, and the depth of the place that it may jump to
  pub record Fine (d : ℕ) (i : Instr) : Type 0 where
    pub operands : (effect i).takes ≤ d
    pub slot : IfSome (effect i).slot (λ k. k < locals)
    pub jump : IfSome (effect i).jump (λ to. At to (d - (effect i).takes))

  abbrev pub AllFine : ℕ → List Instr → Type 0
  AllFine d [] = Unit {0}
  AllFine d (i ∷ more) = Fine d i × AllFine (behind i d) more

  pub at_place : {t u d : ℕ} → t ≡ u → At t d → At u d
  at_place {d = d} e h = subst (λ n. At n d) e h

  pub at_depth : (t : ℕ) {d e : ℕ} → d ≡ e → At t d → At t e
  at_depth t e h = h ∙ ap Some e

  pub front : (t d : ℕ) (a b : List Instr) → States t d (a ++ b) → States t d a
  front t d [] b h = tt
  front t d (i ∷ a) b h = (h.0, front (t + 1) (behind i d) a b h.1)

  -- What is stated of the second part; its place and its depth are u and e.
  pub back : (u e t d : ℕ) (a b : List Instr) → t + length a ≡ u → end_of d a ≡ e → States t d (a ++ b) → States u e b
  back u e t d [] b x y h = let k : t ≡ u = omega (arith, x) in subst (λ n. States n e b) k (subst (λ m. States t m b) y h)
  back u e t d (i ∷ a) b x y h = back u e (t + 1) (behind i d) a b (omega (arith, x)) y h.1

  pub starts : (t d : ℕ) (a : List Instr) → IsSome a → States t d a → At t d
  starts t d [] s h = absurd s
  starts t d (i ∷ a) s h = h.0

  -- Code that leaves the depth as it was begins with it, where the place behind it has it.
  pub starts_or_next : (u t d : ℕ) (a : List Instr) → t + length a ≡ u → States t d a → At u d → At t d
  starts_or_next u t d [] x h next = at_place (omega (arith, x)) next
  starts_or_next u t d (i ∷ a) x h next = h.0

  pub fine_both : (e d : ℕ) (a b : List Instr) → end_of d a ≡ e → AllFine d a → AllFine e b → AllFine d (a ++ b)
  fine_both e d [] b x h k = subst (λ m. AllFine m b) (sym x) k
  fine_both e d (i ∷ a) b x h k = (h.0, fine_both e (behind i d) a b x h.1 k)

  -- ---- one instruction of code

  -- what is known of the instruction at a place
  pub record Known (last : ℕ) (t : ℕ) (i : Instr) : Type 0 where
    pub depth : ℕ
    pub here : At t depth
    pub fine : Fine depth i
    pub next : t + 1 < last → At (t + 1) (behind i depth)

  pub known : (t d : ℕ) (xs : List Instr) (k : ℕ) (i : Instr) → States t d xs → AllFine d xs → slice_get xs k ≡ Some i → Known (t + length xs) (t + k) i
  known t d [] k i h f e = cc
  known t d (x ∷ xs) zero i h f e =
      let same : x ≡ i = cc in
      let at : t ≡ t + 0 = omega arith in
      subst (λ y. Known (t + suc (length xs)) (t + 0) y) same (record {
        depth = d;
        here = at_place at h.0;
        fine = f.0;
        next = λ lt. at_place (omega arith) (starts (t + 1) (behind x d) xs (some_more xs (omega (arith, lt))) h.1);
      })
    where
      some_more : (ys : List Instr) → 0 < length ys → IsSome ys
      some_more [] lt = absurd (omega (arith, lt))
      some_more (y ∷ ys) lt = tt
  known t d (x ∷ xs) (suc k) i h f e =
      let place : t + 1 + k ≡ t + suc k = omega arith in
      let end : t + 1 + length xs ≡ t + suc (length xs) = omega arith in
      subst (λ n. Known n (t + suc k) i) end (subst (λ n. Known (t + 1 + length xs) n i) place (known (t + 1) (behind x d) xs k i h.1 f.1 e))

-- ---- whole units

pub depths_length : (d : ℕ) (xs : List Instr) → length (depths_from d xs) ≡ length xs
depths_length d [] = refl
depths_length d (x ∷ xs) = ap suc (depths_length (behind x d) xs)

get_behind : (pre : List ℕ) (d : ℕ) (more : List ℕ) → slice_get (pre ++ d ∷ more) (length pre) ≡ Some d
get_behind [] d more = refl
get_behind (x ∷ pre) d more = get_behind pre d more

regroup : (pre : List ℕ) (d : ℕ) (more : List ℕ) → (pre ++ d ∷ []) ++ more ≡ pre ++ d ∷ more
regroup [] d more = refl
regroup (x ∷ pre) d more = ap (λ l. x ∷ l) (regroup pre d more)

one_more : (pre : List ℕ) (d : ℕ) → length (pre ++ d ∷ []) ≡ length pre + 1
one_more [] d = refl
one_more (x ∷ pre) d = omega (arith, one_more pre d)

pub stated_from : (depths : List ℕ) (locals : ℕ) (pre : List ℕ) (d : ℕ) (xs : List Instr) → depths ≡ pre ++ depths_from d xs → States depths locals (length pre) d xs
stated_from depths locals pre d [] e = tt
stated_from depths locals pre d (x ∷ xs) e = (
  ap (λ l. slice_get l (length pre)) e ∙ get_behind pre d (depths_from (behind x d) xs),
  subst (λ n. States depths locals n (behind x d) xs) (one_more pre d) (stated_from depths locals (pre ++ d ∷ []) (behind x d) xs (e ∙ sym (regroup pre d (depths_from (behind x d) xs)))),
)
