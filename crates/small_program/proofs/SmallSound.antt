-- The numbered program of a small program is sound.
use Rattle.std.proofs.Common.{◌≡◌, ℕ, zero, suc, ◌+◌, ◌^◌, ◌<◌, ◌≤◌, List, [], ◌∷◌, length, slice_get, refl, ◌∙◌, ap, arith, lit≤}
use Rattle.std.proofs.lemmas.List.Sums.{sum_by-append, sum_by-cons}
use Rattle.std.specs.List.{AllByRecursion, sum_by}
use Rattle.program.specs.declared.numbered.Class.{Class}
use Rattle.program.specs.declared.numbered.Function.{Function}
use Rattle.program.specs.declared.numbered.Method.{Method}
use Rattle.program.specs.declared.numbered.Selector.{Selector}
use Rattle.program.specs.declared.numbered.Site.{Site}
use Rattle.program.specs.declared.literal.Literal.{Literal}
use Rattle.program.specs.BuiltIn.{built_in_members}
use Rattle.program.specs.Parts.{Parts, parts}
use Rattle.program.specs.Sizes.{size, method_size, function_size, constructor_size}
use Rattle.program.specs.Whole.{IsSound, IsFunction, AreDistinct, same_name}
use Rattle.small_program.specs.declared.small.Small.{Small}
use Rattle.small_program.specs.Small.{IsSmall}
use Rattle.small_program.specs.Numbering.{classes_of, methods_of, main_of, selectors_of, sites_of, parts_of_small, names_called, methods_from}
use Rattle.small_program.proofs.ClassFacts.{order, acyclic, classes_sound, makes, length-all, IsPlain, all_plain}
use Rattle.small_program.proofs.MethodFacts.{methods_sound, methods_differ, length-all_methods, size-methods}
use Rattle.small_program.proofs.SiteFacts.{IsCall, Has, all_calls, has_each, few_noted, selectors_sound, names_ascii, length-names, length-sites, sites_sound, main_sound, size-statements}

no_constructors : (cs : List Class) → AllByRecursion IsPlain cs → sum_by (λ (k : Class). constructor_size k.constructor) cs ≡ 0
no_constructors [] h = refl
no_constructors (k ∷ cs) h =
    sum_by-cons (λ (q : Class). constructor_size q.constructor) k cs ∙ omega (arith, ap constructor_size h.0.none_written, no_constructors cs h.1)

module _ (s : Small) (is : IsSmall s) where
  abbrev pub p : Parts
  p = parts_of_small s

  pub calls : AllByRecursion IsCall (selectors_of s)
  calls = all_calls [] (names_called s.prints) tt (names_ascii (length s.classes) s.prints is.prints)

  pub has : AllByRecursion (Has (selectors_of s)) (names_called s.prints)
  has = has_each [] (names_called s.prints)

  functions : (f : ℕ) → IsFunction p (slice_get (main_of s ∷ []) f)
  functions zero = main_sound p s.prints refl calls has (makes s.classes) (length s.classes) (omega (arith, length-all s.classes)) is.prints
  functions (suc f) = tt

  functions_differ : AreDistinct same_name (main_of s ∷ [])
  functions_differ zero zero a b e f h = refl
  functions_differ zero (suc j) a b e f h = absurd cc
  functions_differ (suc i) j a b e f h = absurd cc

  size_is : size p ≡ sum_by method_size (methods_of s) + sum_by function_size (main_of s ∷ []) + sum_by (λ (k : Class). constructor_size k.constructor) (classes_of s) + 0
  unfolding size
  size_is = refl

  few_nodes : size p < 2 ^ 26
  few_nodes =
      let built_in : sum_by method_size built_in_members ≤ 100 = lit≤ tt in
      omega (
        arith,
        size_is,
        built_in,
        sum_by-append method_size built_in_members (methods_from 7 s.classes),
        size-methods 7 s.classes,
        sum_by-cons function_size (main_of s) [],
        size-statements 0 s.prints,
        no_constructors (classes_of s) (all_plain s.classes),
        is.few_methods,
        is.few_prints,
      )

  pub small_sound : IsSound p
  small_sound = record {
    order = order s.classes;
    built_in_classes = refl;
    classes = classes_sound p s.classes refl is.classes;
    acyclic = acyclic s.classes;
    built_in_members = refl;
    methods = methods_sound p s.classes (omega (arith, length-all s.classes)) is.classes;
    methods_differ = methods_differ s.classes is.classes;
    functions = functions;
    functions_differ = functions_differ;
    selectors = selectors_sound (selectors_of s) calls;
    prelude = omega (arith, length-sites (selectors_of s) s.prints);
    sites = sites_sound p s.prints refl calls has;
    few_classes = omega (arith, length-all s.classes, is.few_classes);
    few_methods = omega (arith, length-all_methods s.classes, is.few_methods);
    few_functions = omega (arith, length-all s.classes, is.few_classes);
    few_selectors = omega (arith, few_noted [] (names_called s.prints), length-names s.prints, is.few_prints);
    few_sites = omega (arith, length-sites (selectors_of s) s.prints, is.few_prints);
    few_nodes = few_nodes;
  }

-- the same of lists that are these
pub sound_of : (s : Small) → IsSmall s → {classes : List Class} {methods : List Method} {functions : List Function} {selectors : List Selector} {sites : List Site} {globals : List Literal}
    → classes ≡ classes_of s → methods ≡ methods_of s → functions ≡ main_of s ∷ [] → selectors ≡ selectors_of s → sites ≡ sites_of s → globals ≡ []
    → ∥ IsSound (parts classes methods functions selectors sites globals) ∥₁
sound_of s is a b c d e f = rw (a, b, c, d, e, f) (∣ small_sound s is ∣₁)

pub few_selectors : (s : Small) → IsSmall s → length (selectors_of s) ≤ 2048
few_selectors s is = omega (arith, few_noted [] (names_called s.prints), length-names s.prints, is.few_prints)
