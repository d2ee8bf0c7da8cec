-- The member that a call finds: by numbers and by the meaning, and what it takes.
use Rattle.std.proofs.Common.{◌≡◌, ℕ, ◌<◌, Bool, true, false, ◌||◌, nat_eq, List, [], ◌∷◌, length, slice_get, Option, None, Some, IsTrue, refl, sym, ◌∙◌, ap, subst, arith, option_and_then, if◌then◌else◌}
use Rattle.std.specs.Prelude.{option_map, unwrap_or}
use Rattle.std.specs.List.{list_any}
use Rattle.std.proofs.lemmas.Bool.Decides.{nat_tests}
use Rattle.program.specs.declared.numbered.Method.{Method}
use Rattle.program.specs.declared.numbered.Selector.{Selector}
use Rattle.program.specs.declared.numbered.SelectorKind.{SelectorKind}
use Rattle.program.specs.Hierarchy.{chain}
use Rattle.program.specs.Lookup as numbers
use Rattle.program.specs.Lookup.{is_declared_by, declared, or_above, first_declared, accepts, if_accepts, found_by}
use Rattle.program.specs.Parts.{Parts, parents}
use Rattle.program.specs.Sound.{Accepts}
use Rattle.program.specs.Whole.{IsSound}
use Rattle.program.proofs.Always.{declared_is, kind_and_name, always}
use Rattle.program.proofs.Each.{slice_get-take}
use Rattle.dart_meaning.specs.Numbered.{Code, of_numbered, method_at, method_found}
use Rattle.dart_meaning.specs.Program.{Found, built_in, member, missing, resolve, target_or, no_such_method}
use Rattle.meaning_laws.specs.Laws.{target_of, CallsGoByNumbers, Answers, TargetAnswers, TargetsTakeTheCall}

here : (d : ℕ) (more : List ℕ) → IsTrue (nat_eq d d || list_any (nat_eq d) more)
here d more = by (nat_eq d d) (list_any (nat_eq d) more) (grind (arith, nat_tests))
  where
    by : (b x : Bool) → IsTrue b → IsTrue (b || x)
    by true x h = refl
    by false x h = absurd (cc)

further : (b x : Bool) → IsTrue x → IsTrue (b || x)
further true x h = refl
further false x h = h

-- the member that the walk finds, and the class where it is found
pub walk_finds : (methods : List Method) (kind : SelectorKind) (name : List ℕ) (cs : List ℕ) (m : ℕ) → first_declared methods kind name cs ≡ Some m
    → (d : ℕ) × (k : Method) × (slice_get methods m ≡ Some k) × (is_declared_by d kind name k ≡ true) × IsTrue (list_any (nat_eq d) cs)
walk_finds methods kind name [] m e = absurd (cc)
walk_finds methods kind name (d ∷ more) m e =
    (elim (declared methods d kind name) as (λ o. declared methods d kind name ≡ o → or_above o (first_declared methods kind name more) ≡ Some m → (c : ℕ) × (k : Method) × (slice_get methods m ≡ Some k) × (is_declared_by c kind name k ≡ true) × IsTrue (list_any (nat_eq c) (d ∷ more))) [
      | Some j ↦ λ at is. let f = declared_is methods d kind name m (at ∙ is) in (d, f.0, f.2, f.3, here d more)
      | None ↦ λ at is. let f = walk_finds methods kind name more m is in (f.0, f.1, f.2, f.3, further (nat_eq f.0 d) (list_any (nat_eq f.0) more) f.4)
    ]) refl e

takes : (n : ℕ) (k : Method) → accepts n k ≡ true → Accepts k.required (length k.defaults) n
takes n k h = grind (arith, nat_tests)

-- what the arguments leave of a member that is there
accepted : (n m j : ℕ) (k : Method) → if_accepts n m (Some k) ≡ Some j → (m ≡ j) × (accepts n k ≡ true)
accepted n m j k h = by (accepts n k) refl h
  where
    by : (b : Bool) → accepts n k ≡ b → (if b then Some m else None) ≡ Some j → (m ≡ j) × (accepts n k ≡ true)
    by true e is = (cc, e)
    by false e is = absurd (cc)

module _ (p : Parts) where
  found_answers : (class : ℕ) (sel : Selector) (m : ℕ) (o : Option ℕ) → first_declared p.methods sel.kind sel.name (chain (parents p.classes) class) ≡ o
      → option_and_then (λ i. if_accepts sel.count i (slice_get p.methods i)) o ≡ Some m → Answers p class sel m
  found_answers class sel m None e h = absurd (cc)
  found_answers class sel m (Some i) e h =
      let walk = walk_finds p.methods sel.kind sel.name (chain (parents p.classes) class) i e in
      let fits = accepted sel.count i m walk.1 (ap (if_accepts sel.count i) (sym walk.2) ∙ h) in
      let is = kind_and_name walk.0 sel.kind sel.name walk.1 walk.3 in
      record {
        method = walk.1;
        there = ap (slice_get p.methods) (sym fits.0) ∙ walk.2;
        owner = subst (λ d. IsTrue (list_any (nat_eq d) (chain (parents p.classes) class))) (sym is.0) walk.4;
        role = is.1;
        name = is.2;
        takes = takes sel.count walk.1 fits.1;
      }

  -- what a class finds for a selector
  pub found_takes : (class : ℕ) (sel : Selector) (m : ℕ) → found_by p class sel ≡ Some m → Answers p class sel m
  found_takes class sel m h = found_answers class sel m (first_declared p.methods sel.kind sel.name (chain (parents p.classes) class)) refl h

  -- ---- by numbers and by the meaning

  IsThere : Option ℕ → Type 0
  IsThere None = Unit {0}
  IsThere (Some m) = (f : Found Code) × (method_at p m ≡ Some f)

  there : (class : ℕ) (sel : Selector) (o : Option ℕ) → found_by p class sel ≡ o → IsThere o
  unfolding IsThere
  there class sel None e = tt
  there class sel (Some m) e =
      let found = found_takes class sel m e in
      (method_found m found.method.body, ap (option_map (λ (k : Method). method_found m k.body)) found.there)

  -- Object's own is member 2.
  second : IsSound p → method_at p 2 ≡ Some (built_in 2)
  second sound = ap (option_map (λ (k : Method). method_found 2 k.body)) (sym (slice_get-take p.methods 49 2 (omega arith)) ∙ ap (λ (xs : List Method). slice_get xs 2) sound.built_in_members)

  same : IsSound p → (o x : Option ℕ) → IsThere o → IsThere x
      → target_of p (numbers.target_or o x) ≡ Some (target_or (option_and_then (method_at p) o) (option_and_then (method_at p) x))
  unfolding IsThere
  same sound (Some m) x h k = subst (λ (f : Option (Found Code)). option_map member f ≡ Some (target_or f (option_and_then (method_at p) x))) (sym h.1) refl
  same sound None (Some m) h k = subst (λ (f : Option (Found Code)). option_map missing f ≡ Some (missing (unwrap_or f (built_in 2)))) (sym k.1) refl
  same sound None None h k = ap (option_map missing) (second sound)

pub calls_go_by_numbers : CallsGoByNumbers
unfolding numbers.resolve numbers.lookup numbers.no_such_method
calls_go_by_numbers p sound class s sel e =
    subst (λ (o : Option Selector). target_of p (numbers.target_or (option_and_then (found_by p class) o) (found_by p class no_such_method)) ≡ Some (resolve (of_numbered p) class sel)) (sym e)
    (same p sound (found_by p class sel) (found_by p class no_such_method) (there p class sel _ refl) (there p class no_such_method _ refl))

target_answers : (p : Parts) → IsSound p → (class : ℕ) (sel : Selector) → class < length p.classes → (o x : Option ℕ) → found_by p class sel ≡ o → found_by p class no_such_method ≡ x
    → TargetAnswers p class sel (numbers.target_or o x)
unfolding numbers.no_such_method
target_answers p sound class sel lt (Some m) x e f = found_takes p class sel m e
target_answers p sound class sel lt None (Some m) e f = found_takes p class no_such_method m f
target_answers p sound class sel lt None None e f = let found = always p sound class lt in absurd (cc)

pub targets_take_the_call : TargetsTakeTheCall
unfolding numbers.resolve numbers.lookup numbers.no_such_method
targets_take_the_call p sound class s sel lt e =
    subst (λ (o : Option Selector). TargetAnswers p class sel (numbers.target_or (option_and_then (found_by p class) o) (found_by p class no_such_method))) (sym e)
    (target_answers p sound class sel lt (found_by p class sel) (found_by p class no_such_method) refl refl)
