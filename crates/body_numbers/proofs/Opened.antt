-- Variables that are opened and closed.
use Rattle.std.proofs.Common.{◌≡◌, ℕ, suc, ◌+◌, ◌-◌, ◌<◌, true, false, if◌then◌else◌, List, [], ◌∷◌, ◌++◌, Option, Some, None, option_map, length, reverse, drop, take, refl, sym, ap, subst, ◌∙◌, bytes_eq, arith, append_assoc, length-append}
use Rattle.std.proofs.lemmas.List.{reverse-append, length-map, length-reverse}
use Rattle.std.proofs.Math.Seq.{take-append_seam, drop-append_seam}
use Rattle.std.specs.HashMap.{HashMap}
use Rattle.std.specs.Borrow.{Bor}
use Rattle.dart_syntax.specs.Bytes.{Text}
use Rattle.dart_syntax.specs.Syntax as t
use Rattle.dart_syntax.specs.Syntax.{Sta, First}
use Rattle.body_numbers.specs.Maps.{in_map, with_meaning, nothing}
use Rattle.body_numbers.proofs.Maps.{set_and_back}
use Rattle.dart_meaning.specs.Numbering.{index_of, after, after_first}
use Rattle.body_numbers.specs.declared.slots.Open.{Open}
use Rattle.body_numbers.specs.Open.{slots, names_of, IsKept, Grown}

one_further : (n : ℕ) (o : Option ℕ) → option_map (λ k. n - suc k) o ≡ option_map (λ k. suc n - suc k) (option_map suc o)
one_further n None = refl
one_further n (Some k) = ap Some (omega arith)

pub slots_next : (n : Text) (names : List Text) → with_meaning n (Some (length names)) (slots names) ≡ slots (n ∷ names)
unfolding slots
slots_next n names = λ i q. same q i
  where
    first : Some (length names) ≡ option_map (λ k. length (n ∷ names) - suc k) (Some 0)
    first = ap Some (omega arith)

    same : (q : Text) → with_meaning n (Some (length names)) (slots names) q ≡ slots (n ∷ names) q
    same q = elim (bytes_eq n q) as (λ b. (if b then Some (length names) else option_map (λ k. length names - suc k) (index_of q names)) ≡ option_map (λ k. length (n ∷ names) - suc k) (if b then Some 0 else option_map suc (index_of q names))) [
      | true ↦ first
      | false ↦ one_further (length names) (index_of q names)
    ]

-- no variable
pub kept_none : {S : Type 0} (known : HashMap (Bor Text) ℕ S) (stack : List Open) → in_map known ≡ nothing → stack ≡ [] → IsKept known (reverse stack)
unfolding slots
kept_none known stack none is = subst (λ xs. IsKept known (reverse xs)) (sym is) (record { agrees = none; before = tt })

-- one more variable
pub kept_open : {S : Type 0} (known new : HashMap (Bor Text) ℕ S) (stack grown : List Open) (o : Open) (slot : ℕ) → grown ≡ stack ++ o ∷ [] → IsKept known (reverse stack) → o.was ≡ in_map known o.name.now → slot ≡ length stack → in_map new ≡ with_meaning o.name.now (Some slot) (in_map known) → IsKept new (reverse grown)
kept_open known new stack grown o slot is kept was slot_is put =
    let more = reverse stack in
    let names : length (names_of more) ≡ length stack = length-map more (λ (o : Open). o.name.now) ∙ length-reverse stack in
    subst (IsKept new) (sym (ap reverse is ∙ reverse-append stack (o ∷ []))) (record {
      agrees = put ∙ ap (λ m. with_meaning o.name.now (Some slot) m) kept.agrees ∙ ap (λ k. with_meaning o.name.now (Some k) (slots (names_of more))) (slot_is ∙ sym names) ∙ slots_next o.name.now (names_of more);
      before = (was ∙ (λ i. kept.agrees i o.name.now), kept.before);
    })

-- the newest variable closed
pub kept_close : {S : Type 0} (known new : HashMap (Bor Text) ℕ S) (stack : List Open) (o : Open) → IsKept known (reverse (stack ++ o ∷ [])) → in_map new ≡ with_meaning o.name.now o.was (in_map known) → IsKept new (reverse stack)
kept_close known new stack o kept put = closed (subst (IsKept known) (reverse-append stack (o ∷ [])) kept)
  where
    closed : IsKept known (o ∷ reverse stack) → IsKept new (reverse stack)
    closed k =
        let more = reverse stack in
        record {
          agrees = put ∙ ap (with_meaning o.name.now o.was) (k.agrees ∙ sym (slots_next o.name.now (names_of more)))
              ∙ ap (λ w. with_meaning o.name.now w (with_meaning o.name.now (Some (length (names_of more))) (slots (names_of more)))) k.before.0
              ∙ set_and_back o.name.now (Some (length (names_of more))) (slots (names_of more));
          before = k.before.1;
        }

pub kept_pop : {S : Type 0} (known new : HashMap (Bor Text) ℕ S) (stack rest popped : List Open) (o : Open) (n : ℕ) → IsKept known (reverse stack) → stack ≡ rest ++ o ∷ [] → n ≡ length stack → popped ≡ take (n - 1) stack → in_map new ≡ with_meaning o.name.now o.was (in_map known) → IsKept new (reverse popped)
kept_pop known new stack rest popped o n kept is count taken put =
    let more : length stack ≡ length rest + 1 = ap length is ∙ length-append rest (o ∷ []) in
    let less : n - 1 ≡ length rest = omega arith in
    let same : popped ≡ rest = taken ∙ ap (λ k. take k stack) less ∙ ap (take (length rest)) is ∙ take-append_seam rest (o ∷ []) in
    subst (λ xs. IsKept new (reverse xs)) (sym same) (kept_close known new rest o (subst (λ xs. IsKept known (reverse xs)) is kept) put)

-- one turn of closing
pub close_next : (old new whole : List Text) (count : ℕ) → new ≡ drop 1 old → count < length old → drop (length old - count) old ≡ whole → drop (length new - count) new ≡ whole
close_next [] new whole count is lt was = absurd (omega arith)
close_next (x ∷ xs) new whole count is lt was =
    let e : length (x ∷ xs) - count ≡ suc (length xs - count) = omega arith in
    ap (λ ys. drop (length ys - count) ys) is ∙ sym (ap (λ n. drop n (x ∷ xs)) e) ∙ was

-- ---- what was open, and more

pub grown_none : (names : List Text) → Grown names names
unfolding Grown
grown_none names = ([], refl)

pub grown_twice : (a b c : List Text) → Grown a b → Grown b c → Grown a c
unfolding Grown
grown_twice a b c h k = (k.0 ++ h.0, k.1 ∙ ap (λ xs. k.0 ++ xs) h.1 ∙ sym (append_assoc k.0 h.0 a))

pub grown_same : (a b c : List Text) → Grown a b → c ≡ b → Grown a c
grown_same a b c h same = subst (Grown a) (sym same) h

pub grown_after : (names : List Text) (x : Sta) → Grown names (after names x)
unfolding Grown
grown_after names (t.local x) = (x.name.text ∷ [], refl)
grown_after names (t.block all) = ([], refl)
grown_after names (t.run e) = ([], refl)
grown_after names t.empty = ([], refl)
grown_after names (t.when e x) = ([], refl)
grown_after names (t.when_else e x y) = ([], refl)
grown_after names (t.while e x) = ([], refl)
grown_after names (t.do_while x e) = ([], refl)
grown_after names (t.for start e last x) = ([], refl)
grown_after names (t.break span) = ([], refl)
grown_after names (t.continue span) = ([], refl)
grown_after names (t.return span e) = ([], refl)

pub grown_first : (names : List Text) (x : First) → Grown names (after_first names x)
unfolding Grown
grown_first names (t.local_first x) = (x.name.text ∷ [], refl)
grown_first names t.nothing = ([], refl)
grown_first names (t.run_first e) = ([], refl)

-- What was open is open again, once the newer ones are closed.
pub grown_back : (old new closed : List Text) (count : ℕ) → Grown old new → count ≡ length old → closed ≡ drop (length new - count) new → closed ≡ old
unfolding Grown
grown_back old new closed count h is back =
    let more : length new - count ≡ length h.0 = rw (h.1, is, length-append h.0 old) (omega arith) in
    back ∙ ap (λ n. drop n new) more ∙ ap (drop (length h.0)) h.1 ∙ drop-append_seam h.0 old
