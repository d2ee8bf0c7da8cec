-- What makes a unit sound; and one whose code is fine from its first place on, and ends with an instruction that does not go on, is.
use Rattle.std.proofs.Common.{◌≡◌, ℕ, zero, suc, ◌+◌, ◌-◌, ◌<◌, List, [], ◌∷◌, ◌++◌, length, slice_get, refl, sym, ap, subst, ◌∙◌, arith}
use Rattle.std.specs.Prelude.{Bool, true, false, Option, Some, None, IfSome}
use Rattle.std.specs.Bool.{OnTrue}
use Rattle.code_unit.specs.declared.instr.Instr.{Instr}
use Rattle.code_unit.specs.declared.instr.Instr.TheVariants.{Jump, Return, Throw}
use Rattle.code_unit.specs.declared.unit.Unit as code_unit
use Rattle.code_unit.specs.Effects.{effect}
use Rattle.code_unit.specs.Sound.{IsAt, IsDepth, DepthsAgreeAt, IsSound}
use Rattle.program_code.specs.Depths.{depth_behind as behind, depths_from}
use Rattle.sound_code.proofs.Scans.{IsSome, At, States, Fine, AllFine, Known, known, starts, depths_length, stated_from}

-- The last instruction does not go on.
abbrev pub EndsWell : List Instr → Type 0
EndsWell [] = ⊥
EndsWell (i ∷ []) = (effect i).goes_on ≡ false
EndsWell (i ∷ j ∷ more) = EndsWell (j ∷ more)

pub ends_right : (a b : List Instr) → EndsWell b → EndsWell (a ++ b)
ends_right [] b h = h
ends_right (i ∷ []) [] h = absurd h
ends_right (i ∷ []) (j ∷ b) h = h
ends_right (i ∷ k ∷ a) b h = ends_right (k ∷ a) b h

not_last : (xs : List Instr) (k : ℕ) (i : Instr) → EndsWell xs → slice_get xs k ≡ Some i → (effect i).goes_on ≡ true → k + 1 < length xs
not_last [] k i h e on = absurd h
not_last (x ∷ []) zero i h e on = let same : x ≡ i = cc in absurd (differ (sym h ∙ ap (λ y. (effect y).goes_on) same ∙ on))
  where
    differ : false ≡ true → ⊥
    differ e = cc
not_last (x ∷ []) (suc k) i h e on = cc
not_last (x ∷ y ∷ more) zero i h e on = omega arith
not_last (x ∷ y ∷ more) (suc k) i h e on = omega (arith, not_last (y ∷ more) k i h e on)

-- ---- lists and options

there : {A : Type 0} (xs : List A) (k : ℕ) (x : A) → slice_get xs k ≡ Some x → k < length xs
there [] k x e = cc
there (y ∷ ys) zero x e = omega arith
there (y ∷ ys) (suc k) x e = omega (arith, there ys k x e)

one_value : {a b : ℕ} → ◌≡◌ {A = Option ℕ} (Some a) (Some b) → a ≡ b
one_value e = cc

if_map : (o : Option ℕ) (P Q : ℕ → Type 0) → ((k : ℕ) → P k → Q k) → IfSome o P → IfSome o Q
if_map None P Q f h = h
if_map (Some k) P Q f h = f k h

on_true : (b : Bool) (P : Type 0) → (b ≡ true → P) → OnTrue b P
on_true true P f = f refl
on_true false P f = tt

-- where an instruction goes on, the next place has what it leaves
leaves : (i : Instr) (d : ℕ) → (effect i).goes_on ≡ true → behind i d ≡ d - (effect i).takes + (effect i).leaves
leaves (Jump t) d e = cc
leaves Return d e = cc
leaves Throw d e = cc
leaves _ d e = refl

-- ---- what makes a unit sound

-- what is known of the instruction at a place: its depth, and what it leads to
pub record Seen (depths : List ℕ) (locals : ℕ) (t : ℕ) (i : Instr) : Type 0 where
  pub depth : ℕ
  pub here : At depths locals t depth
  pub fine : Fine depths locals depth i
  pub on : (effect i).goes_on ≡ true → At depths locals (t + 1) (depth - (effect i).takes + (effect i).leaves)

-- of each instruction from a place on
abbrev pub AllSeen : List ℕ → ℕ → ℕ → List Instr → Type 0
AllSeen depths locals t [] = Unit {0}
AllSeen depths locals t (i ∷ more) = Seen depths locals t i × AllSeen depths locals (t + 1) more

seen_at : (depths : List ℕ) (locals t : ℕ) (xs : List Instr) (k : ℕ) (i : Instr) → AllSeen depths locals t xs → slice_get xs k ≡ Some i → Seen depths locals (t + k) i
seen_at depths locals t [] k i h e = cc
seen_at depths locals t (x ∷ xs) zero i h e =
    let same : x ≡ i = cc in
    let place : t ≡ t + 0 = omega arith in
    subst (Seen depths locals (t + 0)) same (subst (λ n. Seen depths locals n x) place h.0)
seen_at depths locals t (x ∷ xs) (suc k) i h e = let place : t + 1 + k ≡ t + suc k = omega arith in subst (λ n. Seen depths locals n i) place (seen_at depths locals (t + 1) xs k i h.1 e)

module _ (u : code_unit.Unit) (stated : length u.depths ≡ length u.code) (some : 0 < length u.code) (first : IsDepth u 0 0) (at : (t : ℕ) (i : Instr) → IsAt u t i → Seen u.depths u.locals t i) where
  in_code : (t d : ℕ) → At u.depths u.locals t d → t < length u.code
  in_code t d h = let lt = there u.depths t d h in omega (arith, lt, stated)

  step : (t : ℕ) (i : Instr) (d : ℕ) → IsAt u t i → IsDepth u t d → DepthsAgreeAt u (t + 1) d (effect i)
  step t i d e h =
      let k = at t i e in
      let same : k.depth ≡ d = one_value (sym k.here ∙ h) in
      subst (λ n. DepthsAgreeAt u (t + 1) n (effect i)) same (record {
        operands = k.fine.operands;
        on = on_true (effect i).goes_on (IsDepth u (t + 1) (k.depth - (effect i).takes + (effect i).leaves)) k.on;
        jump = k.fine.jump;
      })

  pub is_sound : IsSound u
  is_sound = record {
    jumps = λ t i e. let k = at t i e in if_map (effect i).jump (λ to. At u.depths u.locals to (k.depth - (effect i).takes)) (λ to. to < length u.code) (λ to h. in_code to (k.depth - (effect i).takes) h) k.fine.jump;
    no_end = (some, λ t i e. let k = at t i e in on_true (effect i).goes_on (t + 1 < length u.code) (λ on. in_code (t + 1) (k.depth - (effect i).takes + (effect i).leaves) (k.on on)));
    slots = λ t i e. (at t i e).fine.slot;
    depths = record { stated = stated; first = first; steps = step };
  }

-- ---- units with the depths of their code

some_code : (xs : List Instr) → EndsWell xs → IsSome xs
some_code [] h = absurd h
some_code (x ∷ xs) h = tt

some_length : (xs : List Instr) → EndsWell xs → 0 < length xs
some_length [] h = absurd h
some_length (x ∷ xs) h = omega arith

seen : (u : code_unit.Unit) → States u.depths u.locals 0 0 u.code → AllFine u.depths u.locals 0 u.code → EndsWell u.code → (t : ℕ) (i : Instr) → IsAt u t i → Seen u.depths u.locals t i
seen u holds fine ends t i e =
    let end : 0 + length u.code ≡ length u.code = omega arith in
    let place : 0 + t ≡ t = omega arith in
    let k : Known u.depths u.locals (length u.code) t i =
    subst (λ n. Known u.depths u.locals n t i) end (subst (λ k. Known u.depths u.locals (0 + length u.code) k i) place (known u.depths u.locals 0 0 u.code t i holds fine e)) in
    record { depth = k.depth; here = k.here; fine = k.fine; on = λ on. k.next (not_last u.code t i ends e on) ∙ ap Some (leaves i k.depth on) }

pub sound_by : (u : code_unit.Unit) (xs : List Instr) → u.code ≡ xs → u.depths ≡ depths_from 0 u.code → EndsWell xs → (States u.depths u.locals 0 0 xs → AllFine u.depths u.locals 0 xs) → IsSound u
sound_by u xs e depths ends fine =
    let holds : States u.depths u.locals 0 0 u.code = stated_from u.depths u.locals [] 0 u.code depths in
    let well : EndsWell u.code = subst EndsWell (sym e) ends in
    let all : AllFine u.depths u.locals 0 u.code = subst (AllFine u.depths u.locals 0) (sym e) (fine (subst (States u.depths u.locals 0 0) e holds)) in
    is_sound u (ap length depths ∙ depths_length 0 u.code) (some_length u.code well) (starts u.depths u.locals 0 0 u.code (some_code u.code well) holds) (seen u holds all well)

-- with other depths, each instruction seen
pub sound_seen : (u : code_unit.Unit) (depths : List ℕ) (xs : List Instr) → u.code ≡ xs → u.depths ≡ depths → length depths ≡ length xs → 0 < length xs → slice_get depths 0 ≡ Some 0 → AllSeen depths u.locals 0 xs → IsSound u
sound_seen u depths xs e f same some first all =
    let seen_all : AllSeen u.depths u.locals 0 u.code = subst (λ l. AllSeen l u.locals 0 u.code) (sym f) (subst (AllSeen depths u.locals 0) (sym e) all) in
    is_sound u (ap length f ∙ same ∙ sym (ap length e)) (subst (λ l. 0 < length l) (sym e) some) (ap (λ l. slice_get l 0) f ∙ first)
    (λ t i there. let place : 0 + t ≡ t = omega arith in subst (λ k. Seen u.depths u.locals k i) place (seen_at u.depths u.locals 0 u.code t i seen_all there))
