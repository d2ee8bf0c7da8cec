-- What is set and put back.
use Rattle.std.proofs.Common.{◌≡◌, ◌≤◌, ◌<◌, ◌+◌, ℕ, true, false, if◌then◌else◌, List, [], ◌∷◌, ◌++◌, Option, length, take, drop, refl, sym, ap, ◌∙◌, bytes_eq, arith, append_assoc, length-append}
use Rattle.std.proofs.lemmas.Slice.Eq.{bytes_eq-Decides}
use Rattle.std.proofs.lemmas.List.{take-append-le, drop-append-le, take-append-drop, take_all, drop_all}
use Rattle.std.proofs.Math.Seq.{take-append_seam, drop-append_seam}
use Rattle.dart_syntax.specs.Bytes.{Text}
use Rattle.name_uses.specs.Undo.{Meanings, with_meaning, put_back, meaning, before, Extends}
use Rattle.name_uses.specs.declared.scope.Before.{Before}
use Rattle.name_uses.specs.declared.scope.Scope.{Scope}

-- Where a name gets a meaning and then the one that it had, nothing has changed.
pub set_and_back : {V : Type 0} (n : Text) (v : Option V) (m : Meanings V) → with_meaning n (m n) (with_meaning n v m) ≡ m
set_and_back n v m = λ i q. same q i
  where
    same : (q : Text) → with_meaning n (m n) (with_meaning n v m) q ≡ m q
    same q = elim (bytes_eq n q) as (λ b. bytes_eq n q ≡ b → (if b then m n else (if b then v else m q)) ≡ m q) [
      | true ↦ λ h. ap m ((bytes_eq-Decides n q).0 h)
      | false ↦ λ h. refl
    ] refl

pub put_back_last : {V : Type 0} (bs : List (Before V)) (b : Before V) (m : Meanings V) → put_back (bs ++ b ∷ []) m ≡ put_back bs (with_meaning b.name.now b.was m)
unfolding put_back
put_back_last [] b m = refl
put_back_last (x ∷ bs) b m = ap (with_meaning x.name.now x.was) (put_back_last bs b m)

pub put_back_both : {V : Type 0} (bs cs : List (Before V)) (m : Meanings V) → put_back (bs ++ cs) m ≡ put_back bs (put_back cs m)
unfolding put_back
put_back_both [] cs m = refl
put_back_both (x ∷ bs) cs m = ap (with_meaning x.name.now x.was) (put_back_both bs cs m)

-- a scope where one more name was set
pub extends_by_one : {V : Type 0} (old new : Scope V) (b : Before V) (v : Option V) → b.was ≡ meaning old b.name.now → new.undo.items ≡ old.undo.items ++ b ∷ [] → meaning new ≡ with_meaning b.name.now v (meaning old) → Extends old new
unfolding Extends put_back
extends_by_one old new b v was grown now = (
  ap (take (length old.undo.items)) grown ∙ take-append_seam old.undo.items (b ∷ []),
  ap (λ bs. put_back bs (meaning new)) (ap (drop (length old.undo.items)) grown ∙ drop-append_seam old.undo.items (b ∷ []))
      ∙ ap (with_meaning b.name.now b.was) now ∙ ap (λ w. with_meaning b.name.now w (with_meaning b.name.now v (meaning old))) was ∙ set_and_back b.name.now v (meaning old),
)

pub extends_same : {V : Type 0} (old new : Scope V) → new.undo.items ≡ old.undo.items → meaning new ≡ meaning old → Extends old new
unfolding Extends put_back
extends_same old new same now = (
  ap (take (length old.undo.items)) same ∙ take_all (length old.undo.items) old.undo.items (omega arith),
  ap (λ bs. put_back bs (meaning new)) (ap (drop (length old.undo.items)) same ∙ drop_all (length old.undo.items) old.undo.items (omega arith)) ∙ now,
)

-- a list that begins with another is that and more
begins : {A : Type 0} (xs ys : List A) → take (length xs) ys ≡ xs → ys ≡ xs ++ drop (length xs) ys
begins xs ys h = sym (take-append-drop (length xs) ys) ∙ ap (λ zs. zs ++ drop (length xs) ys) h

pub extends_twice : {V : Type 0} (a b c : Scope V) → Extends a b → Extends b c → Extends a c
unfolding Extends
extends_twice a b c h k =
    let xs = a.undo.items in
    let ys = drop (length xs) b.undo.items in
    let zs = drop (length b.undo.items) c.undo.items in
    let b_is : b.undo.items ≡ xs ++ ys = begins xs b.undo.items h.0 in
    let c_is : c.undo.items ≡ xs ++ (ys ++ zs) = begins b.undo.items c.undo.items k.0 ∙ ap (λ bs. bs ++ zs) b_is ∙ append_assoc xs ys zs in (
      ap (take (length xs)) c_is ∙ take-append_seam xs (ys ++ zs),
      ap (λ bs. put_back bs (meaning c)) (ap (drop (length xs)) c_is ∙ drop-append_seam xs (ys ++ zs)) ∙ put_back_both ys zs (meaning c) ∙ ap (put_back ys) k.1 ∙ h.1,
    )

pub extends_none : {V : Type 0} (s : Scope V) → Extends s s
extends_none s = extends_same s s refl refl

-- A scope that extended another is that again, once all behind the other's mark is put back.
pub closed_means : {V : Type 0} (old new closed : Scope V) (mark : ℕ) → mark ≡ length old.undo.items → Extends old new → meaning closed ≡ before new mark → meaning closed ≡ meaning old
unfolding Extends
closed_means old new closed mark at h is = is ∙ ap (before new) at ∙ h.1

pub closed_undo : {V : Type 0} (old new closed : Scope V) (mark : ℕ) → mark ≡ length old.undo.items → Extends old new → closed.undo.items ≡ take mark new.undo.items → closed.undo.items ≡ old.undo.items
unfolding Extends
closed_undo old new closed mark at h is = is ∙ ap (λ n. take n new.undo.items) at ∙ h.0

-- Of two meanings of one name the later counts.
pub set_twice : {V : Type 0} (n : Text) (v w : Option V) (m : Meanings V) → with_meaning n v (with_meaning n w m) ≡ with_meaning n v m
set_twice n v w m = λ i q. same q i
  where
    same : (q : Text) → with_meaning n v (with_meaning n w m) q ≡ with_meaning n v m q
    same q = elim (bytes_eq n q) as (λ b. (if b then v else (if b then w else m q)) ≡ (if b then v else m q)) [
      | true ↦ refl
      | false ↦ refl
    ]

-- one turn of putting back
longer : {A : Type 0} (xs items : List A) (b : A) (mark : ℕ) → items ≡ xs ++ b ∷ [] → mark < length items → mark ≤ length xs
longer xs items b mark is lt = let l : length items ≡ length xs + 1 = ap length is ∙ length-append xs (b ∷ []) in omega arith

pub back_by_one : {V : Type 0} (xs items : List (Before V)) (b : Before V) (mark : ℕ) (old new : Meanings V) → items ≡ xs ++ b ∷ [] → mark < length items → new ≡ with_meaning b.name.now b.was old → put_back (drop mark xs) new ≡ put_back (drop mark items) old
back_by_one xs items b mark old new is lt now =
    ap (put_back (drop mark xs)) now ∙ sym (put_back_last (drop mark xs) b old)
    ∙ sym (ap (λ bs. put_back bs old) (ap (drop mark) is ∙ drop-append-le mark xs (b ∷ []) (longer xs items b mark is lt)))

pub undo_by_one : {A : Type 0} (xs items : List A) (b : A) (mark : ℕ) → items ≡ xs ++ b ∷ [] → mark < length items → take mark xs ≡ take mark items
undo_by_one xs items b mark is lt = sym (ap (take mark) is ∙ take-append-le mark xs (b ∷ []) (longer xs items b mark is lt))

pub nothing_left : {V : Type 0} (items : List (Before V)) (mark : ℕ) (m : Meanings V) → length items ≤ mark → put_back (drop mark items) m ≡ m
unfolding put_back
nothing_left items mark m le = ap (λ bs. put_back bs m) (drop_all mark items le)
