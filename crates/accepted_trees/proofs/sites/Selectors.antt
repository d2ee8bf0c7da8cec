-- Selectors, each once: how many there are, and at which place one stands.
use Rattle.std.proofs.Common.{◌≡◌, ℕ, suc, ◌+◌, ◌<◌, ◌≤◌, Bool, true, false, not, ◌&&◌, ◌||◌, cond, nat_eq, nat_lt, List, [], ◌∷◌, ◌++◌, length, Some, None, slice_get, unwrap_or, position, refl, sym, ◌∙◌, ap, arith}
use Rattle.std.specs.Prelude.{filter}
use Rattle.std.specs.List.{list_any, position_or_len}
use Rattle.std.specs.Str.{bytes_eq}
use Rattle.std.proofs.lemmas.Bool.Decides.{nat_tests}
use Rattle.std.proofs.lemmas.List.Folds.{list_any-append}
use Rattle.program.specs.declared.numbered.Selector.{Selector}
use Rattle.program.specs.declared.numbered.SelectorKind.{SelectorKind}
use Rattle.program.specs.declared.numbered.SelectorKind.TheVariants.{Call, Get, Set}
use Rattle.program.specs.Lookup.{same_kind}
use Rattle.program.proofs.BuiltInSound.{bytes_same, same_bytes}
use Rattle.dart_meaning.specs.Sites.{same_selector, also_used, each_once}

-- ---- a test of equality

kinds_one : (a b : SelectorKind) → same_kind a b ≡ true → a ≡ b
kinds_one Call Call h = refl
kinds_one Get Get h = refl
kinds_one Set Set h = refl
kinds_one Call Get h = absurd (cc)
kinds_one Call Set h = absurd (cc)
kinds_one Get Call h = absurd (cc)
kinds_one Get Set h = absurd (cc)
kinds_one Set Call h = absurd (cc)
kinds_one Set Get h = absurd (cc)

kind_self : (a : SelectorKind) → same_kind a a ≡ true
kind_self Call = refl
kind_self Get = refl
kind_self Set = refl

number_one : (a b : ℕ) → nat_eq a b ≡ true → a ≡ b
number_one a b h = grind (arith, nat_tests)

number_self : (a : ℕ) → nat_eq a a ≡ true
number_self a = grind (arith, nat_tests)

all_three : (a b c : Bool) → a ≡ true → b ≡ true → c ≡ true → (a && b && c) ≡ true
all_three true true true x y z = refl
all_three false b c x y z = absurd (cc)
all_three true false c x y z = absurd (cc)
all_three true true false x y z = absurd (cc)

of_three : (a b c : Bool) → (a && b && c) ≡ true → (a ≡ true) × (b ≡ true) × (c ≡ true)
of_three true true true h = (refl, refl, refl)
of_three false b c h = absurd (cc)
of_three true false c h = absurd (cc)
of_three true true false h = absurd (cc)

abbrev made : SelectorKind → List ℕ → ℕ → Selector
made kind name count = record { kind = kind; name = name; count = count }

selector_by : (a b : SelectorKind) (m n : List ℕ) (j k : ℕ) → a ≡ b → m ≡ n → j ≡ k → made a m j ≡ made b n k
selector_by a b m n j k p q r = λ i. made (p i) (q i) (r i)

pub selectors_one : (x y : Selector) → same_selector x y ≡ true → x ≡ y
selectors_one x y h =
    let f = of_three (same_kind x.kind y.kind) (bytes_eq x.name y.name) (nat_eq x.count y.count) h in
    selector_by x.kind y.kind x.name y.name x.count y.count (kinds_one x.kind y.kind f.0) (bytes_same x.name y.name f.1) (number_one x.count y.count f.2)

pub selector_self : (x : Selector) → same_selector x x ≡ true
selector_self x = all_three (same_kind x.kind x.kind) (bytes_eq x.name x.name) (nat_eq x.count x.count) (kind_self x.kind) (same_bytes x.name x.name refl) (number_self x.count)

-- ---- lists that have each item once

module _ {X : Type 0} (same : X → X → Bool) (one : (x y : X) → same x y ≡ true → x ≡ y) (self : (x : X) → same x x ≡ true) where
  abbrev pub has : X → List X → Bool
  has x xs = list_any (same x) xs

  abbrev pub Once : List X → Type 0
  Once [] = Unit {0}
  Once (x ∷ more) = (has x more ≡ false) × Once more

  abbrev pub others : X → List X → List X
  others x ys = filter (λ y. not (same x y)) ys

  fewer : (x : X) (ys : List X) → length (others x ys) ≤ length ys
  fewer x [] = omega arith
  fewer x (y ∷ ys) = let h = fewer x ys in (elim (same x y) as (λ b. length (cond (not b) (y ∷ others x ys) (others x ys)) ≤ length (y ∷ ys)) [ true ↦ omega (arith, h) | false ↦ omega (arith, h) ])

  one_fewer : (x : X) (ys : List X) → has x ys ≡ true → suc (length (others x ys)) ≤ length ys
  one_fewer x [] h = absurd (cc)
  one_fewer x (y ∷ ys) h = (elim (same x y) as (λ b. (b || has x ys) ≡ true → suc (length (cond (not b) (y ∷ others x ys) (others x ys))) ≤ length (y ∷ ys)) [
    | true ↦ λ f. (let g = fewer x ys in omega (arith, g))
    | false ↦ λ f. (let g = one_fewer x ys f in omega (arith, g))
  ]) h

  -- what differs from x stays among the others
  stays : (x z : X) (ys : List X) → same x z ≡ false → has z ys ≡ true → has z (others x ys) ≡ true
  stays x z [] ne h = absurd (cc)
  stays x z (y ∷ ys) ne h = (elim (same z y) as (λ b. same z y ≡ b → (b || has z ys) ≡ true → has z (others x (y ∷ ys)) ≡ true) [
    | true ↦ λ is f.
        (let e : z ≡ y = one z y is in
        let miss : same x y ≡ false = ap (same x) (sym e) ∙ ne in
        ap (λ b. has z (cond (not b) (y ∷ others x ys) (others x ys))) miss ∙ ap (λ b. b || has z (others x ys)) is)
    | false ↦ λ is f.
        (let rest = stays x z ys ne f in
        (elim (same x y) as (λ b. has z (cond (not b) (y ∷ others x ys) (others x ys)) ≡ true) [
          | true ↦ rest
          | false ↦ ap (λ b. b || has z (others x ys)) is ∙ rest
        ]))
  ]) refl h

  either : (a b : Bool) → b ≡ true → (a || b) ≡ true
  either true b h = refl
  either false b h = h

  pub no_more : (xs ys : List X) → Once xs → ((z : X) → has z xs ≡ true → has z ys ≡ true) → length xs ≤ length ys
  no_more [] ys o h = omega arith
  no_more (x ∷ xs) ys o h =
      let here : has x ys ≡ true = h x (ap (λ b. b || has x xs) (self x)) in
      let less = one_fewer x ys here in
      let rest = no_more xs (others x ys) o.1 (λ z there.
      stays x z ys
      ((elim (same x z) as (λ b. same x z ≡ b → b ≡ false) [
        | true ↦ λ is. (let e : x ≡ z = one x z is in let f : has x xs ≡ true = ap (λ w. has w xs) e ∙ there in sym f ∙ o.0)
        | false ↦ λ is. refl
      ]) refl)
      (h z (either (same z x) (has z xs) there))) in
      omega (arith, less, rest)

  pub same_length : (xs ys : List X) → Once xs → Once ys → ((z : X) → has z xs ≡ has z ys) → length xs ≡ length ys
  same_length xs ys o p h =
      let le = no_more xs ys o (λ z f. sym (h z) ∙ f) in
      let ge = no_more ys xs p (λ z f. h z ∙ f) in
      omega (arith, le, ge)

  once_last : (x : X) (xs : List X) → Once xs → has x xs ≡ false → Once (xs ++ x ∷ [])
  once_last x [] o h = (refl, tt)
  once_last x (y ∷ ys) o h =
      let rest : has x ys ≡ false = grind (arith, nat_tests) in
      let miss : same y x ≡ false = ((elim (same y x) as (λ b. same y x ≡ b → b ≡ false) [
        | true ↦ λ is. (let e : y ≡ x = one y x is in let f : has x (y ∷ ys) ≡ true = ap (λ w. same x w || has x ys) e ∙ ap (λ b. b || has x ys) (self x) in sym f ∙ h)
        | false ↦ λ is. refl
      ]) refl) in
      let here : has y (ys ++ x ∷ []) ≡ false = list_any-append (same y) ys (x ∷ []) ∙ ap (λ b. b || (same y x || false)) o.0 ∙ ap (λ b. b || false) miss in
      (here, once_last x ys o.1 rest)

or_false : (b : Bool) → (b || false) ≡ b
or_false true = refl
or_false false = refl

or_assoc : (a b c : Bool) → ((a || b) || c) ≡ (a || (b || c))
or_assoc true b c = refl
or_assoc false b c = refl

or_true : (b : Bool) → (b || true) ≡ true
or_true true = refl
or_true false = refl

regroup : {A : Type 0} (xs : List A) (y : A) (ys : List A) → (xs ++ y ∷ []) ++ ys ≡ xs ++ y ∷ ys
regroup [] y ys = refl
regroup (x ∷ xs) y ys = ap (λ zs. x ∷ zs) (regroup xs y ys)

append_none : {A : Type 0} (xs : List A) → xs ++ [] ≡ xs
append_none [] = refl
append_none (x ∷ xs) = ap (λ ys. x ∷ ys) (append_none xs)

-- ---- selectors, each where it is used first

abbrev pub is_in : Selector → List Selector → Bool
is_in x xs = list_any (same_selector x) xs

abbrev pub with_one : List Selector → Selector → List Selector
with_one known sel = cond (is_in sel known) known (known ++ sel ∷ [])

in_with : (x sel : Selector) (known : List Selector) → is_in x (with_one known sel) ≡ (is_in x known || same_selector x sel)
in_with x sel known = (elim (is_in sel known) as (λ b. is_in sel known ≡ b → is_in x (cond b known (known ++ sel ∷ [])) ≡ (is_in x known || same_selector x sel)) [
  | true ↦ λ is.
      (elim (same_selector x sel) as (λ b. same_selector x sel ≡ b → is_in x known ≡ (is_in x known || b)) [
        | true ↦ λ e. (let same = selectors_one x sel e in let f : is_in x known ≡ true = ap (λ w. is_in w known) same ∙ is in f ∙ sym (ap (λ b. b || true) f))
        | false ↦ λ e. sym (or_false (is_in x known))
      ]) refl
  | false ↦ λ is. list_any-append (same_selector x) known (sel ∷ []) ∙ ap (λ b. is_in x known || b) (or_false (same_selector x sel))
]) refl

pub in_used : (x : Selector) (known uses : List Selector) → is_in x (also_used known uses) ≡ (is_in x known || is_in x uses)
in_used x known [] = sym (or_false (is_in x known))
in_used x known (sel ∷ more) =
    in_used x (with_one known sel) more ∙ ap (λ b. b || is_in x more) (in_with x sel known) ∙ or_assoc (is_in x known) (same_selector x sel) (is_in x more)

once_with : (sel : Selector) (known : List Selector) → Once same_selector selectors_one selector_self known → Once same_selector selectors_one selector_self (with_one known sel)
once_with sel known o = (elim (is_in sel known) as (λ b. is_in sel known ≡ b → Once same_selector selectors_one selector_self (cond b known (known ++ sel ∷ []))) [
  | true ↦ λ is. o
  | false ↦ λ is. once_last same_selector selectors_one selector_self sel known o is
]) refl

once_used : (known uses : List Selector) → Once same_selector selectors_one selector_self known → Once same_selector selectors_one selector_self (also_used known uses)
once_used known [] o = o
once_used known (sel ∷ more) o = once_used (with_one known sel) more (once_with sel known o)

-- Lists with the same selectors, in whatever order: there are as many.
pub as_many : (xs ys : List Selector) → ((x : Selector) → is_in x xs ≡ is_in x ys) → length (each_once xs) ≡ length (each_once ys)
as_many xs ys h = same_length same_selector selectors_one selector_self (each_once xs) (each_once ys) (once_used [] xs tt) (once_used [] ys tt) (λ x. in_used x [] xs ∙ h x ∙ sym (in_used x [] ys))

pub used_append : (known xs ys : List Selector) → also_used (also_used known xs) ys ≡ also_used known (xs ++ ys)
used_append known [] ys = refl
used_append known (x ∷ xs) ys = used_append (with_one known x) xs ys

-- A selector that is used again adds nothing.
pub used_twice : (known : List Selector) (x : Selector) → also_used known (x ∷ x ∷ []) ≡ also_used known (x ∷ [])
used_twice known x =
    let there : is_in x (with_one known x) ≡ true = in_with x x known ∙ ap (λ b. is_in x known || b) (selector_self x) ∙ or_true (is_in x known) in
    ap (λ b. cond b (with_one known x) (with_one known x ++ x ∷ [])) there

-- ---- places

-- the first that passes is there
pub first_there : {A : Type 0} (p : A → Bool) (xs : List A) → list_any p xs ≡ true → (x : A) × (position_or_len p xs < length xs) × (slice_get xs (position_or_len p xs) ≡ Some x) × (p x ≡ true)
first_there p [] h = absurd (cc)
first_there p (x ∷ xs) h = (elim (p x) as (λ b. p x ≡ b → (b || list_any p xs) ≡ true → (y : _) × (cond (not b) (1 + position_or_len p xs) 0 < suc (length xs)) × (slice_get (x ∷ xs) (cond (not b) (1 + position_or_len p xs) 0) ≡ Some y) × (p y ≡ true)) [
  | true ↦ λ is f. (x, omega arith, refl, is)
  | false ↦ λ is f.
      (let g = first_there p xs f in
      let e : 1 + position_or_len p xs ≡ suc (position_or_len p xs) = omega arith in
      (g.0, omega (arith, g.1), ap (slice_get (x ∷ xs)) e ∙ g.2, g.3))
]) refl h

pub position_there : {A : Type 0} (p : A → Bool) (xs : List A) → list_any p xs ≡ true → position p xs ≡ Some (position_or_len p xs)
position_there p xs h =
    let f = first_there p xs h in
    let lt : nat_lt (position_or_len p xs) (length xs) ≡ true = (let g = f.1 in grind (arith, nat_tests)) in
    ap (λ b. cond b (Some (position_or_len p xs)) None) lt

-- the selector at the number that it has
pub selector_there : (xs : List Selector) (sel : Selector) → is_in sel xs ≡ true → slice_get xs (unwrap_or (position (same_selector sel) xs) 0) ≡ Some sel
selector_there xs sel h =
    let f = first_there (same_selector sel) xs h in
    let e : unwrap_or (position (same_selector sel) xs) 0 ≡ position_or_len (same_selector sel) xs = ap (λ o. unwrap_or o 0) (position_there (same_selector sel) xs h) in
    ap (slice_get xs) e ∙ f.2 ∙ ap Some (sym (selectors_one sel f.0 f.3))

-- the place in the front, or the one behind it
place_front : {A : Type 0} (p : A → Bool) (xs ys : List A) → list_any p xs ≡ true → position_or_len p (xs ++ ys) ≡ position_or_len p xs
place_front p [] ys h = absurd (cc)
place_front p (x ∷ xs) ys h = (elim (p x) as (λ b. (b || list_any p xs) ≡ true → cond (not b) (1 + position_or_len p (xs ++ ys)) 0 ≡ cond (not b) (1 + position_or_len p xs) 0) [
  | true ↦ λ f. refl
  | false ↦ λ f. ap (λ k. 1 + k) (place_front p xs ys f)
]) h

place_behind : {A : Type 0} (p : A → Bool) (xs : List A) (y : A) (ys : List A) → list_any p xs ≡ false → p y ≡ true → position_or_len p (xs ++ y ∷ ys) ≡ position_or_len p xs
place_behind p [] y ys h is = ap (λ b. cond (not b) (1 + position_or_len p ys) 0) is
place_behind p (x ∷ xs) y ys h is = (elim (p x) as (λ b. (b || list_any p xs) ≡ false → cond (not b) (1 + position_or_len p (xs ++ y ∷ ys)) 0 ≡ cond (not b) (1 + position_or_len p xs) 0) [
  | true ↦ λ f. absurd (cc)
  | false ↦ λ f. ap (λ k. 1 + k) (place_behind p xs y ys f is)
]) h

-- what is known stays at the front
used_front : (known uses : List Selector) → (rest : List Selector) × (also_used known uses ≡ known ++ rest)
used_front known [] = ([], sym (append_none known))
used_front known (sel ∷ more) = (elim (is_in sel known) as (λ b. (rest : List Selector) × (also_used (cond b known (known ++ sel ∷ [])) more ≡ known ++ rest)) [
  | true ↦ used_front known more
  | false ↦ (let f = used_front (known ++ sel ∷ []) more in (sel ∷ f.0, f.1 ∙ regroup known sel f.0))
])

-- A selector that is used next has its number by what is known before.
pub used_place : (known : List Selector) (sel : Selector) (more : List Selector) → position_or_len (same_selector sel) (also_used known (sel ∷ more)) ≡ position_or_len (same_selector sel) known
used_place known sel more = (elim (is_in sel known) as (λ b. is_in sel known ≡ b → position_or_len (same_selector sel) (also_used (cond b known (known ++ sel ∷ [])) more) ≡ position_or_len (same_selector sel) known) [
  | true ↦ λ is. (let f = used_front known more in ap (position_or_len (same_selector sel)) f.1 ∙ place_front (same_selector sel) known f.0 is)
  | false ↦ λ is. (let f = used_front (known ++ sel ∷ []) more in
      ap (position_or_len (same_selector sel)) (f.1 ∙ regroup known sel f.0) ∙ place_behind (same_selector sel) known sel f.0 is (selector_self sel))
]) refl

length_both : {A : Type 0} (xs ys : List A) → length (xs ++ ys) ≡ length xs + length ys
length_both [] ys = omega arith
length_both (x ∷ xs) ys = let h = length_both xs ys in omega (arith, h)

-- What is known stays, and keeps its numbers.
pub used_longer : (known uses : List Selector) → length known ≤ length (also_used known uses)
used_longer known uses = let f = used_front known uses in let e : length (also_used known uses) ≡ length known + length f.0 = ap length f.1 ∙ length_both known f.0 in omega (arith, e)

pub used_kept : (sel : Selector) (known uses : List Selector) → is_in sel known ≡ true → position_or_len (same_selector sel) (also_used known uses) ≡ position_or_len (same_selector sel) known
used_kept sel known uses h = let f = used_front known uses in ap (position_or_len (same_selector sel)) f.1 ∙ place_front (same_selector sel) known f.0 h
