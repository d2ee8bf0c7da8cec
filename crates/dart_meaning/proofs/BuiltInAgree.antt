-- The program of the built-in classes and members stands for the tree that declares nothing.
use Rattle.std.proofs.Common.{◌≡◌, ℕ, ◌+◌, ◌<◌, suc, zero, List, [], ◌∷◌, length, refl, ap, sym, subst, arith}
use Rattle.std.specs.Prelude.{Bool, true, false, ◌&&◌, nat_eq, nat_le, if◌then◌else◌, IsTrue, slice_get, Option, Some, None, unwrap_or}
use Rattle.std.specs.Option.{option_map, option_and_then}
use Rattle.std.specs.List.{position_from}
use Rattle.std.proofs.lemmas.Bool.Decides.{nat_tests}
use Rattle.dart_syntax.specs.Syntax.{Tree}
use Rattle.program.specs.declared.numbered.Method.{Method}
use Rattle.program.specs.declared.numbered.MethodBody.{MethodBody}
use Rattle.program.specs.declared.numbered.MethodBody.TheVariants as does
use Rattle.program.specs.declared.numbered.Selector.{Selector}
use Rattle.program.specs.Parts.{Parts}
use Rattle.program.specs.BuiltIn.{built_in_members, built_in_parts}
use Rattle.program.specs.Hierarchy.{chain, is_subtype}
use Rattle.program.specs.Lookup.{declared, is_declared_by, or_above, accepts, if_accepts}
use Rattle.program.proofs.Each.{tested, and_both}
use Rattle.program.proofs.Entries.{found_at}
use Rattle.dart_meaning.specs.Place.{Place}
use Rattle.dart_meaning.specs.Program.{Found, built_in}
use Rattle.dart_meaning.specs.Classes.{Code, Taking, agrees, built_in_taking, first_some, if_so, of_tree}
use Rattle.dart_meaning.specs.Numbered as n
use Rattle.dart_meaning.specs.Numbered.{method_at, method_found, of_numbered}
use Rattle.dart_meaning.specs.Sites.{site_of, text_sites}
use Rattle.dart_meaning.specs.Agree.{BothOrNone, IsFound, IsCode, nothing, BuiltInStandsForNothing}

-- a built-in member has no defaults, and the native body of its own number
abbrev is_own : ℕ → MethodBody → Bool
is_own m (does.Native k) = nat_eq k.0 m
is_own m _ = false

abbrev is_plain : ℕ → Method → Bool
is_plain m k = nat_eq (length k.defaults) 0 && is_own m k.body

abbrev Plain : ℕ → Option Method → Type 0
Plain m None = Unit {0}
Plain m (Some k) = (length k.defaults ≡ 0) × IsTrue (is_own m k.body)

zero_is : (k : ℕ) → IsTrue (nat_eq k 0) → k ≡ 0
zero_is k h = grind (arith, nat_tests)

plain : (m : ℕ) → Plain m (slice_get built_in_members m)
plain m = tested is_plain Plain (λ i. tt) (λ i k h. let both = and_both (nat_eq (length k.defaults) 0) (is_own i k.body) h in (zero_is (length k.defaults) both.0, both.1)) built_in_members refl m

module _ (tree : Tree) (site : Place → ℕ) (p : Parts) where
  abbrev Both : Option (Found Code) → Option (Found n.Code) → Type 0
  Both x y = BothOrNone (IsFound tree site p) x y

  same_number : (a m : ℕ) → IsTrue (nat_eq a m) → a ≡ m
  same_number a m h = grind (arith, nat_tests)

  body_is : (m : ℕ) (b : MethodBody) → IsTrue (is_own m b) → Both (Some (built_in m)) (Some (method_found m b))
  body_is m (does.Native j) h = same_number j.0 m h
  body_is m (does.ReadField f) h = absurd (cc)
  body_is m (does.WriteField f) h = absurd (cc)
  body_is m (does.Code b) h = absurd (cc)

  by_test : (m : ℕ) (f : ℕ → Option (Found n.Code)) (b c : Bool) → c ≡ b → Both (Some (built_in m)) (f m) → Both (if_so b (built_in m)) (option_and_then f (if c then Some m else None))
  by_test m f true true e h = h
  by_test m f false false e h = tt
  by_test m f true false e h = absurd (cc)
  by_test m f false true e h = absurd (cc)

  more_none : (r d count : ℕ) → d ≡ 0 → (nat_le r count && nat_le count (r + d)) ≡ (nat_le r count && nat_le count r)
  more_none r d count e = ap (λ x. nat_le r count && nat_le count x) (omega (arith, e))

  method_is : (m : ℕ) (k : Method) → slice_get built_in_members m ≡ Some k → Plain m (Some k) → Both (Some (built_in m)) (method_at built_in_parts m)
  method_is m k at is = subst (λ o. Both (Some (built_in m)) (option_map (λ (j : Method). method_found m j.body) o)) (sym at) (body_is m k.body is.1)

  single : (m count : ℕ) (k : Method) → slice_get built_in_members m ≡ Some k
      → Both (option_and_then (λ (x : Taking). if_so (agrees count x) x.found) (Some (built_in_taking m))) (option_and_then (method_at built_in_parts) (if_accepts count m (slice_get built_in_members m)))
  single m count k at =
      let is : Plain m (Some k) = subst (Plain m) at (plain m) in
      subst
      (λ o. Both (if_so (nat_le (unwrap_or (option_map (λ (j : Method). j.required) o) 0) count && nat_le count (unwrap_or (option_map (λ (j : Method). j.required) o) 0)) (built_in m)) (option_and_then (method_at built_in_parts) (if_accepts count m o)))
      (sym at)
      (by_test m (method_at built_in_parts) (nat_le k.required count && nat_le count k.required) (accepts count k) (more_none k.required (length k.defaults) count is.0) (method_is m k at is))

  abbrev IsThere : Option ℕ → Type 0
  IsThere None = Unit {0}
  IsThere (Some m) = (k : Method) × (slice_get built_in_members m ≡ Some k)

  there : (q : Method → Bool) (o : Option ℕ) → position_from q 0 built_in_members ≡ o → IsThere o
  there q None e = tt
  there q (Some m) e = let f = found_at q built_in_members m e in (f.0, f.2)

  abbrev finds : ℕ → List (Option Taking) → Option (Found Code)
  finds count all = option_and_then (λ (x : Taking). if_so (agrees count x) x.found) (first_some all)

  abbrev calls : ℕ → Option ℕ → Option (Found n.Code)
  calls count o = option_and_then (method_at built_in_parts) (option_and_then (λ m. if_accepts count m (slice_get built_in_members m)) o)

  one_found : (count : ℕ) (o : Option ℕ) → IsThere o → Both (finds count (option_map built_in_taking o ∷ [])) (calls count (or_above o None))
  one_found count None h = tt
  one_found count (Some m) (k, at) = single m count k at

  two_found : (count : ℕ) (o u : Option ℕ) → IsThere o → IsThere u → Both (finds count (option_map built_in_taking o ∷ option_map built_in_taking u ∷ [])) (calls count (or_above o (or_above u None)))
  two_found count None u h j = one_found count u j
  two_found count (Some m) u (k, at) j = single m count k at

  pub each_class : (P : ℕ → Type 0) → P 0 → P 1 → P 2 → P 3 → P 4 → P 5 → P 6 → (c : ℕ) → c < 7 → P c
  each_class P a b c d e f g zero h = a
  each_class P a b c d e f g (suc zero) h = b
  each_class P a b c d e f g (suc (suc zero)) h = c
  each_class P a b c d e f g (suc (suc (suc zero))) h = d
  each_class P a b c d e f g (suc (suc (suc (suc zero)))) h = e
  each_class P a b c d e f g (suc (suc (suc (suc (suc zero))))) h = f
  each_class P a b c d e f g (suc (suc (suc (suc (suc (suc zero)))))) h = g
  each_class P a b c d e f g (suc (suc (suc (suc (suc (suc (suc k))))))) h = absurd (omega (arith, h))

  pub looks_up : (sel : Selector) (c : ℕ) → c < 7 → Both ((of_tree nothing).lookup c sel) ((of_numbered built_in_parts).lookup c sel)
  unfolding chain
  looks_up sel =
      let at : (c : ℕ) → IsThere (declared built_in_members c sel.kind sel.name) = λ c. there (is_declared_by c sel.kind sel.name) (declared built_in_members c sel.kind sel.name) refl in
      let two : (c : ℕ) → Both (finds sel.count (option_map built_in_taking (declared built_in_members c sel.kind sel.name) ∷ option_map built_in_taking (declared built_in_members 0 sel.kind sel.name) ∷ [])) (calls sel.count (or_above (declared built_in_members c sel.kind sel.name) (or_above (declared built_in_members 0 sel.kind sel.name) None)))
      = λ c. two_found sel.count (declared built_in_members c sel.kind sel.name) (declared built_in_members 0 sel.kind sel.name) (at c) (at 0) in
      each_class (λ c. Both ((of_tree nothing).lookup c sel) ((of_numbered built_in_parts).lookup c sel))
      (one_found sel.count (declared built_in_members 0 sel.kind sel.name) (at 0)) (two 1) (two 2) (two 3) (two 4) (two 5) (two 6)

  pub name_of : (c : ℕ) → (of_numbered built_in_parts).class_name c ≡ (of_tree nothing).class_name c
  name_of zero = refl
  name_of (suc zero) = refl
  name_of (suc (suc zero)) = refl
  name_of (suc (suc (suc zero))) = refl
  name_of (suc (suc (suc (suc zero)))) = refl
  name_of (suc (suc (suc (suc (suc zero))))) = refl
  name_of (suc (suc (suc (suc (suc (suc zero)))))) = refl
  name_of (suc (suc (suc (suc (suc (suc (suc k))))))) = refl

  pub subtypes : (c : ℕ) → c < 7 → (d : ℕ) → d < 7 → (of_numbered built_in_parts).is_subtype c d ≡ (of_tree nothing).is_subtype c d
  unfolding is_subtype
  subtypes =
      each_class (λ c. (d : ℕ) → d < 7 → (of_numbered built_in_parts).is_subtype c d ≡ (of_tree nothing).is_subtype c d)
      (each_class (λ d. (of_numbered built_in_parts).is_subtype 0 d ≡ (of_tree nothing).is_subtype 0 d) refl refl refl refl refl refl refl)
      (each_class (λ d. (of_numbered built_in_parts).is_subtype 1 d ≡ (of_tree nothing).is_subtype 1 d) refl refl refl refl refl refl refl)
      (each_class (λ d. (of_numbered built_in_parts).is_subtype 2 d ≡ (of_tree nothing).is_subtype 2 d) refl refl refl refl refl refl refl)
      (each_class (λ d. (of_numbered built_in_parts).is_subtype 3 d ≡ (of_tree nothing).is_subtype 3 d) refl refl refl refl refl refl refl)
      (each_class (λ d. (of_numbered built_in_parts).is_subtype 4 d ≡ (of_tree nothing).is_subtype 4 d) refl refl refl refl refl refl refl)
      (each_class (λ d. (of_numbered built_in_parts).is_subtype 5 d ≡ (of_tree nothing).is_subtype 5 d) refl refl refl refl refl refl refl)
      (each_class (λ d. (of_numbered built_in_parts).is_subtype 6 d ≡ (of_tree nothing).is_subtype 6 d) refl refl refl refl refl refl refl)

  pub no_fields : (c : ℕ) → c < 7 → (of_numbered built_in_parts).fields c ≡ (of_tree nothing).fields c
  unfolding chain
  no_fields = each_class (λ c. (of_numbered built_in_parts).fields c ≡ (of_tree nothing).fields c) refl refl refl refl refl refl refl

constructors : (c : ℕ) → c < 7 → BothOrNone (IsCode nothing (site_of nothing) built_in_parts) ((of_tree nothing).constructor c) ((of_numbered built_in_parts).constructor c)
constructors =
    each_class nothing (site_of nothing) built_in_parts (λ c. BothOrNone (IsCode nothing (site_of nothing) built_in_parts) ((of_tree nothing).constructor c) ((of_numbered built_in_parts).constructor c))
    tt (refl, refl) (refl, refl) (refl, refl) (refl, refl) (refl, refl) (refl, refl)

pub built_in_agrees : BuiltInStandsForNothing
unfolding text_sites
built_in_agrees = record {
  lookup = λ c h sel. looks_up nothing (site_of nothing) built_in_parts sel c h;
  class_name = λ i c. name_of nothing (site_of nothing) built_in_parts c i;
  is_subtype = λ c d h k. subtypes nothing (site_of nothing) built_in_parts c h d k;
  fields = λ c h. no_fields nothing (site_of nothing) built_in_parts c h;
  constructor = λ c h. constructors c h;
  functions = λ f. tt;
  globals = refl;
  print_site = refl;
  list_site = refl;
}
