-- What a walk down keeps.
use Rattle.std.proofs.Common.{◌≡◌, ◌<◌, ◌≤◌, ◌+◌, ◌-◌, ℕ, zero, suc, Bool, true, false, ◌&&◌, nat_eq, List, [], ◌∷◌, ◌++◌, Option, None, Some, is_some, option_map, if◌then◌else◌, length, map, drop, get_or, refl, sym, ◌∙◌, ap, bytes_eq, arith}
use Rattle.std.specs.Prelude.{filter_map, find}
use Rattle.std.specs.Option.{option_and_then}
use Rattle.std.proofs.lemmas.Slice.Eq.{bytes_eq-Decides}
use Rattle.std.proofs.lemmas.List.{drop_all}
use Rattle.dart_syntax.specs.Syntax as t
use Rattle.dart_syntax.specs.Syntax.{ClassDecl, Member}
use Rattle.dart_syntax.specs.Bytes.{Text}
use Rattle.program.specs.declared.numbered.Method.{Method}
use Rattle.program.specs.declared.numbered.SelectorKind.TheVariants.{Call}
use Rattle.program.specs.Lookup.{is_declared_by, same_kind}
use Rattle.dart_meaning.specs.Classes.{object, parent_of, first_some, if_so}
use Rattle.static_rules.specs.BadOverride.{own_count}
use Rattle.declaration_rules.specs.Finding.{Find}
use Rattle.class_chains.specs.declared.chains.Chains.{Chains}
use Rattle.class_chains.specs.declared.nearest.Before.{Before}
use Rattle.class_chains.specs.declared.descent.Step.{Step}
use Rattle.class_chains.specs.Overriding.{find_in, own_in, count_found, built_in_by, required_of, or_above, count_up, from_up, above}
use Rattle.class_chains.specs.Descending.{Counts, no_count, with_count, put_pair, own_pair, built_in_pair, own_or, built_in_or, saved, before_of, put_all, ends_at, ends, AreSteps, IsStep}
use Rattle.declaration_rules.proofs.Firsts.{cut}
use Rattle.class_chains.proofs.Overriding.{first_is}

or_above_assoc : (a b c : Option ℕ) → or_above (or_above a b) c ≡ or_above a (or_above b c)
or_above_assoc None b c = refl
or_above_assoc (Some a) b c = refl

or_above_none : (a : Option ℕ) → or_above a None ≡ a
or_above_none None = refl
or_above_none (Some a) = refl

none_is : (o : Option ℕ) → is_some o ≡ false → o ≡ None
none_is None h = refl
none_is (Some c) h = absurd cc

-- ---- counts by name

-- one member
pub own_one : (m : Member) (f : Counts) → put_pair (own_pair m) f ≡ own_or (m ∷ []) f
unfolding own_or
own_one (t.method n params b) f = λ i q. either (bytes_eq n.text q) (f q) i
  where
    either : (b : Bool) (o : Option ℕ) → (if b then Some (length params) else o) ≡ or_above (if_so b (length params)) o
    either true o = refl
    either false o = refl
own_one (t.field l) f = refl
own_one (t.getter n b) f = refl
own_one (t.setter n param b) f = refl
own_one (t.operator op at params b) f = refl
own_one (t.constructor n params passed b) f = refl

-- one more member before others
pub own_more : (m : Member) (ms : List Member) (f now : Counts) (g : Counts) → now ≡ own_or (m ∷ []) g → g ≡ own_or ms f → now ≡ own_or (m ∷ ms) f
unfolding own_or
own_more m ms f now g step was = step ∙ ap (own_or (m ∷ [])) was

last_one : (n m : ℕ) → 0 < n → n ≤ m → n - 1 < m
last_one n m some le = omega arith

back : (n : ℕ) → 0 < n → n - 1 + 1 ≡ n
back n some = omega arith

no_drop : {A : Type 0} (xs : List A) (n : ℕ) → n ≡ length xs → drop n xs ≡ []
no_drop xs n is = drop_all n xs (omega arith)

cut_back : {A : Type 0} (xs : List A) (n : ℕ) (x : A) → 0 < n → n ≤ length xs → x ≡ get_or xs (n - 1) x → drop (n - 1) xs ≡ x ∷ drop n xs
cut_back xs n x some le is = cut xs (n - 1) x (last_one n (length xs) some le) is ∙ ap (λ m. x ∷ drop m xs) (back n some)

-- turns from the last on
pub own_begin : {A : Type 0} (v : A → Member) (xs : List A) (n : ℕ) (first : Counts) → n ≡ length xs → first ≡ own_or (map v (drop n xs)) first
unfolding own_or
own_begin v xs n first len = sym (ap (λ ys. own_or (map v ys) first) (no_drop xs n len))

pub own_turn : {A : Type 0} (v : A → Member) (xs : List A) (n : ℕ) (x : A) (old new first : Counts) → 0 < n → n ≤ length xs → x ≡ get_or xs (n - 1) x → new ≡ own_or (v x ∷ []) old → old ≡ own_or (map v (drop n xs)) first → new ≡ own_or (map v (drop (n - 1) xs)) first
own_turn v xs n x old new first some le is step was =
    own_more (v x) (map v (drop n xs)) first new old step was ∙ sym (ap (λ ys. own_or (map v ys) first) (cut_back xs n x some le is))

own_or_is : (ms : List Member) (f : Counts) (q : Text) → own_or ms f q ≡ or_above (first_some (map (own_count q) ms)) (f q)
unfolding own_or
own_or_is [] f q = refl
own_or_is (m ∷ ms) f q =
    let own = own_count q m in
    let more = map (own_count q) ms in
    ap (or_above own) (own_or_is ms f q) ∙ sym (or_above_assoc own (first_some more) (f q)) ∙ sym (ap (λ o. or_above o (f q)) (first_is own more))

and_three : (a b c : Bool) → (a && (b && c)) ≡ ((a && b) && c)
and_three true b c = refl
and_three false b c = refl

pub built_in_one : (number : ℕ) (m : Method) (f : Counts) → put_pair (built_in_pair number m) f ≡ built_in_or number (m ∷ []) f
unfolding built_in_or
built_in_one number m f = λ i q. same q i
  where
    same : (q : Text) → put_pair (built_in_pair number m) f q ≡ built_in_or number (m ∷ []) f q
    same q =
        elim (nat_eq m.owner.0 number && same_kind m.role Call) as (λ b. put_pair (if b then Some (m.name, Some m.required) else None) f q ≡ (if b && bytes_eq m.name q then Some m.required else f q)) [
          | true ↦ refl
          | false ↦ refl
        ]
        ∙ sym (ap (λ b. if b then Some m.required else f q) (and_three (nat_eq m.owner.0 number) (same_kind m.role Call) (bytes_eq m.name q)))

pub built_in_more : (number : ℕ) (m : Method) (ms : List Method) (f now g : Counts) → now ≡ built_in_or number (m ∷ []) g → g ≡ built_in_or number ms f → now ≡ built_in_or number (m ∷ ms) f
unfolding built_in_or
built_in_more number m ms f now g step was = step ∙ ap (built_in_or number (m ∷ [])) was

pub built_in_begin : (number : ℕ) (xs : List Method) (n : ℕ) (first : Counts) → n ≡ length xs → first ≡ built_in_or number (drop n xs) first
unfolding built_in_or
built_in_begin number xs n first len = sym (ap (λ ys. built_in_or number ys first) (no_drop xs n len))

pub built_in_turn : (number : ℕ) (xs : List Method) (n : ℕ) (x : Method) (old new first : Counts) → 0 < n → n ≤ length xs → x ≡ get_or xs (n - 1) x → new ≡ built_in_or number (x ∷ []) old → old ≡ built_in_or number (drop n xs) first → new ≡ built_in_or number (drop (n - 1) xs) first
built_in_turn number xs n x old new first some le is step was =
    built_in_more number x (drop n xs) first new old step was ∙ sym (ap (λ ys. built_in_or number ys first) (cut_back xs n x some le is))

pub built_in_is : (number : ℕ) (ms : List Method) (q : Text) → built_in_or number ms no_count q ≡ required_of ms number q
unfolding built_in_or
built_in_is number [] q = refl
built_in_is number (m ∷ ms) q =
    elim (is_declared_by number Call q m) as (λ b. (if b then Some m.required else built_in_or number ms no_count q) ≡ option_map (λ (n : Method). n.required) (if b then Some m else find (is_declared_by number Call q) ms)) [
      | true ↦ refl
      | false ↦ built_in_is number ms q
    ]

-- one more that is put back
pub put_back_one : (bs : List Before) (i : ℕ) (b : Before) (old new whole : Counts) → i < length bs → b ≡ get_or bs i b → new ≡ with_count b.name.now b.count old → put_all (map before_of (drop i bs)) old ≡ whole → put_all (map before_of (drop (i + 1) bs)) new ≡ whole
put_back_one bs i b old new whole lt is step was =
    ap (put_all (map before_of (drop (i + 1) bs))) step ∙ sym (ap (λ xs. put_all (map before_of xs) old) (cut bs i b lt is)) ∙ was

-- ---- the way up

-- more steps than the way has change nothing
enough : (count : Text → Option ℕ) (find : Find) (h n : ℕ) (class : Text) → h ≤ n → ends find h class ≡ true → count_up count find n class ≡ count_up count find h class
enough count find zero n class le e = absurd cc
enough count find (suc m) zero class le e = absurd (omega arith)
enough count find (suc m) (suc n) class le e =
    let less : m ≤ n = omega arith in
    ap (or_above (count class))
    (elim (parent_of (find class) class) as (λ o. ends_at (ends find m) o ≡ true → option_and_then (count_up count find n) o ≡ option_and_then (count_up count find m) o) [
      | None ↦ λ _. refl
      | Some up ↦ λ h. enough count find m n up less h
    ] e)

one_less : (m h : ℕ) → h < m → suc (m - 1) ≡ m
one_less m h lt = omega arith

at_most : (m h : ℕ) → h < m → h ≤ m - 1
at_most m h lt = omega arith

no_more : (m h : ℕ) → h < m → h ≤ m
no_more m h lt = omega arith

module _ (k : Chains) (class up : Text) (some : parent_of (find_in k class) class ≡ Some up) where
  -- what counts from a class up, by what does from the class above it
  from_parent : (h : ℕ) (name : Text) → ends (find_in k) h up ≡ true → h < k.most → from_up k class name ≡ or_above (own_in k name class) (from_up k up name)
  unfolding from_up
  from_parent h name e lt =
      let count = own_in k name in
      let find = find_in k in
      sym (ap (λ m. count_up count find m class) (one_less k.most h lt))
      ∙ ap (λ o. or_above (count class) (option_and_then (count_up count find (k.most - 1)) o)) some
      ∙ ap (or_above (count class)) (enough count find h (k.most - 1) up (at_most k.most h lt) e ∙ sym (enough count find h k.most up (no_more k.most h lt) e))

  pub above_is : above k class ≡ from_up k up
  unfolding above from_up
  above_is = λ i name. ap (option_and_then (count_up (own_in k name) (find_in k) k.most)) some i

  own_is : (c : ClassDecl) (name : Text) → find_in k class ≡ Some c → own_in k name class ≡ first_some (map (own_count name) c.members)
  own_is c name is = ap (count_found k.built_in.now.classes k.built_in.now.methods name class) is

  -- down by one class
  pub down_counts : (c : ClassDecl) (h : ℕ) (old new : Counts) → find_in k class ≡ Some c → ends (find_in k) h up ≡ true → h < k.most → old ≡ from_up k up → new ≡ own_or c.members old → new ≡ from_up k class
  down_counts c h old new is e lt was now =
      now ∙ ap (own_or c.members) was
      ∙ (λ i q. (own_or_is c.members (from_up k up) q ∙ ap (λ o. or_above o (from_up k up q)) (sym (own_is c q is)) ∙ sym (from_parent h q e lt)) i)

  pub down_ends : (h : ℕ) → ends (find_in k) h up ≡ true → ends (find_in k) (h + 1) class ≡ true
  down_ends h e =
      let more : h + 1 ≡ suc h = omega arith in
      ap (λ n. ends (find_in k) n class) more ∙ ap (ends_at (ends (find_in k) h)) some ∙ e

  -- up by one
  pub up_ends : (h : ℕ) → ends (find_in k) h class ≡ true → ends (find_in k) (h - 1) up ≡ true
  up_ends zero e = absurd cc
  up_ends (suc h) e =
      let less : suc h - 1 ≡ h = omega arith in
      ap (λ n. ends (find_in k) n up) less ∙ sym (ap (ends_at (ends (find_in k) h)) some) ∙ e

-- each name that none of these members counts has its count
IsBut : Counts → List Member → Counts → Type 0
IsBut f ms g = (q : Text) → is_some (first_some (map (own_count q) ms)) ≡ false → g q ≡ f q

put_all_is : (f : Counts) (ms : List Member) (g : Counts) → IsBut f ms g → put_all (filter_map (saved f) ms) g ≡ f
unfolding IsBut
put_all_is f [] g but = λ i q. but q refl i
put_all_is f (t.method n params b ∷ ms) g but =
    put_all_is f ms (with_count n.text (f n.text) g)
    (λ q none. elim (bytes_eq n.text q) as (λ b. bytes_eq n.text q ≡ b → (if b then f n.text else g q) ≡ f q) [
      | true ↦ λ e. ap f ((bytes_eq-Decides n.text q).0 e)
      | false ↦ λ e. but q (ap (λ b. is_some (first_some (if_so b (length params) ∷ map (own_count q) ms))) e ∙ none)
    ] refl)
put_all_is f (t.field l ∷ ms) g but = put_all_is f ms g but
put_all_is f (t.getter n b ∷ ms) g but = put_all_is f ms g but
put_all_is f (t.setter n param b ∷ ms) g but = put_all_is f ms g but
put_all_is f (t.operator op at params b ∷ ms) g but = put_all_is f ms g but
put_all_is f (t.constructor n params passed b ∷ ms) g but = put_all_is f ms g but

pub up_counts : (k : Chains) (class up : Text) (c : ClassDecl) (h : ℕ) (was : List (Text × Option ℕ)) (old new : Counts) → parent_of (find_in k class) class ≡ Some up → find_in k class ≡ Some c → ends (find_in k) h up ≡ true → h < k.most
    → was ≡ filter_map (saved (above k class)) c.members → old ≡ from_up k class → new ≡ put_all was old → new ≡ from_up k up
unfolding IsBut
up_counts k class up c h was old new some is e lt saved_is old_is now =
    let over = above_is k class up some in
    now ∙ ap (λ w. put_all w old) saved_is
    ∙ put_all_is (above k class) c.members old (λ q none.
    ap (λ (f : Counts). f q) old_is ∙ from_parent k class up some h q e lt
    ∙ ap (λ o. or_above o (from_up k up q)) (own_is k class up some c q is ∙ none_is (first_some (map (own_count q) c.members)) none)
    ∙ sym (ap (λ (f : Counts). f q) over))
    ∙ over

-- ---- at Object

above_object : (k : Chains) (q : Text) → find_in k object ≡ None → 1 < k.most → from_up k object q ≡ built_in_by k.built_in.now.classes k.built_in.now.methods object q
unfolding from_up
above_object k q none lt =
    let count = own_in k q in
    let find = find_in k in
    sym (ap (λ m. count_up count find m object) (one_less k.most 1 lt))
    ∙ ap (λ o. or_above (count_found k.built_in.now.classes k.built_in.now.methods q object o) (option_and_then (count_up count find (k.most - 1)) (parent_of o object))) none
    ∙ or_above_none (built_in_by k.built_in.now.classes k.built_in.now.methods object q)

pub object_counts : (k : Chains) (counts : Counts) → find_in k object ≡ None → 1 < k.most → ((q : Text) → counts q ≡ built_in_by k.built_in.now.classes k.built_in.now.methods object q) → counts ≡ from_up k object
object_counts k counts none lt each = λ i q. (each q ∙ sym (above_object k q none lt)) i

pub object_ends : (k : Chains) → find_in k object ≡ None → ends (find_in k) 1 object ≡ true
object_ends k none = ap (λ o. ends_at (ends (find_in k) 0) (parent_of o object)) none

-- ---- the classes on the way

pub way_more : (k : Chains) (os : List Step) (o : Step) → AreSteps k os → IsStep k o → AreSteps k (os ++ o ∷ [])
way_more k [] o h is = (is, tt)
way_more k (x ∷ os) o h is = (h.0, way_more k os o h.1 is)

pub way_less : (k : Chains) (os : List Step) (o : Step) → AreSteps k (os ++ o ∷ []) → AreSteps k os × IsStep k o
way_less k [] o h = (tt, h.0)
way_less k (x ∷ os) o h = let rest = way_less k os o h.1 in ((h.0, rest.0), rest.1)
