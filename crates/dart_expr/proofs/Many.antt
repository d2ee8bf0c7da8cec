-- Items while there are some: a step reads one or answers None.
use Rattle.std.proofs.Common.{◌≡◌, ℕ, zero, suc, ◌+◌, ◌<◌, ◌≤◌, List, [], ◌∷◌, ◌++◌, length, Option, Some, None, Ok, sym, ◌∙◌, arith, append-nil, append_assoc}
use Rattle.dart_syntax.specs.Words.{Tokens}
use Rattle.dart_syntax.specs.Grammar.{Reading, Many, none, more}
use Rattle.dart_expr.specs.Input.{Parser, many_from, went_on}
use Rattle.dart_expr.proofs.Facts.{bind_ok, same_ok}

pub record GoodStep {A : Type 0} (R : Reading A) (step : Parser (Option A)) (Stop Follow : Tokens → Type 0) : Type 0 where
  pub complete : {ts rest : Tokens} {x : A} → R ts x rest → Follow rest → step ts ≡ Ok (Some x, rest)
  pub stops : (ts : Tokens) → Stop ts → step ts ≡ Ok (None, ts)
  pub sound : (ts : Tokens) {x : A} {rest : Tokens} → step ts ≡ Ok (Some x, rest) → R ts x rest
  pub sound_none : (ts : Tokens) {rest : Tokens} → step ts ≡ Ok (None, rest) → rest ≡ ts
  pub shorter : {ts rest : Tokens} {x : A} → R ts x rest → length rest < length ts
  pub begins : {ts rest : Tokens} {x : A} → R ts x rest → Follow ts
  pub lower : (ts : Tokens) → Stop ts → Follow ts

module _ {A : Type 0} (R : Reading A) (step : Parser (Option A)) (Stop Follow : Tokens → Type 0) (good : GoodStep R step Stop Follow) where
  pub many_shorter : {ts rest : Tokens} {xs : List A} → Many R ts xs rest → length xs + length rest ≤ length ts
  many_shorter none = omega arith
  many_shorter (more d ds) = omega (arith, good.shorter d, many_shorter ds)

  pub many_grip : {ts rest : Tokens} {xs : List A} → Many R ts xs rest → Stop rest → Follow ts
  many_grip (none {ts}) h = good.lower ts h
  many_grip (more d ds) h = good.begins d

  pub many_complete : (n : ℕ) (found : List A) {ts rest : Tokens} {xs : List A} → Many R ts xs rest → Stop rest → length xs ≤ n → many_from step n found ts ≡ Ok (found ++ xs, rest)
  many_complete zero found none h room = rw (append-nil found)
  many_complete (suc n) found (none {ts}) h room = rw (good.stops ts h, append-nil found)
  many_complete zero found (more d ds) h room = absurd (omega arith)
  many_complete (suc n) found (more {x} {xs} d ds) h room =
      rw (good.complete d (many_grip ds h), many_complete n (found ++ x ∷ []) ds h (omega arith), append_assoc found (x ∷ []) xs)

  -- what the parser finds, behind what was found before
  pub record Finds (n : ℕ) (found : List A) (ts : Tokens) (ys : List A) (rest : Tokens) : Type 0 where
    pub xs : List A
    pub is : ys ≡ found ++ xs
    pub reads : Many R ts xs rest
    pub few : length xs ≤ n

  pub many_sound : (n : ℕ) (found : List A) (ts : Tokens) {ys : List A} {rest : Tokens} → many_from step n found ts ≡ Ok (ys, rest) → Finds n found ts ys rest
  many_sound zero found ts {ys} {rest} e =
      same_ok (λ ys rest. Finds zero found ts ys rest) e (record { xs = []; is = sym (append-nil found); reads = none; few = omega arith })
  many_sound (suc n) found ts {ys} {rest} e =
      let (o, mid, first, then) = bind_ok (step ts) (λ o. went_on o found (many_from step n)) e in go o mid first then (λ x mid e. many_sound n (found ++ x ∷ []) mid e)
    where
      go : (o : Option A) (mid : Tokens) → step ts ≡ Ok (o, mid) → went_on o found (many_from step n) mid ≡ Ok (ys, rest)
          → ((x : A) (mid : Tokens) → many_from step n (found ++ x ∷ []) mid ≡ Ok (ys, rest) → Finds n (found ++ x ∷ []) mid ys rest) → Finds (suc n) found ts ys rest
      go None mid first then more_sound =
          let at : mid ≡ ts = good.sound_none ts first in
          same_ok (λ ys rest. Finds (suc n) found ts ys rest) then (record { xs = []; is = sym (append-nil found); reads = rw at none; few = omega arith })
      go (Some x) mid first then more_sound =
          let f = more_sound x mid then in
          record { xs = x ∷ f.xs; is = f.is ∙ append_assoc found (x ∷ []) f.xs; reads = more (good.sound ts first) f.reads; few = omega (arith, f.few) }

  -- the same, towards any goal: what is bound by a λ can be rewritten
  pub many_via : {G : Type 0} (n : ℕ) (ts : Tokens) {ys : List A} {rest : Tokens} → many_from step n [] ts ≡ Ok (ys, rest)
      → ((xs : List A) → ys ≡ xs → Many R ts xs rest → length xs ≤ n → G) → G
  many_via n ts e go = let f = many_sound n [] ts e in go f.xs f.is f.reads f.few

  pub many_after : {G : Type 0} (n : ℕ) (found : List A) (ts : Tokens) {ys : List A} {rest : Tokens} → many_from step n found ts ≡ Ok (ys, rest)
      → ((xs : List A) → ys ≡ found ++ xs → Many R ts xs rest → G) → G
  many_after n found ts e go = let f = many_sound n found ts e in go f.xs f.is f.reads
