-- The counts of texts, and the limits.
use Rattle.std.proofs.Common.{◌≡◌, refl}
use Rattle.std.specs.Prelude.{[], ◌∷◌, Some, None, codes, true, false, pos}
use Rattle.dart_syntax.specs.declared.tree.Binary.TheVariants as b
use Rattle.dart_syntax.specs.declared.tree.Assignment.TheVariants as a
use Rattle.dart_syntax.specs.declared.tree.Operator.TheVariants as o
use Rattle.dart_syntax.specs.Syntax as t
use Rattle.dart_syntax.specs.Syntax.{exps, links, selectors, stas, a_local, a_link, a_param, function_of, class_of, tree_of}
use Rattle.static_rules.specs.declared.rule.Limit.TheVariants as limit
use Rattle.static_rules.specs.Accepted.{Counts, counts, exceeded}
use Rattle.dart_meaning.specs.Sites.{text_sites}
use Rattle.std.specs.Prelude.{ℕ}
use Rattle.static_rules.proofs.cases.Words.{n, sp}

-- (nothing)
empty_source_check : counts (tree_of []) ≡ record { classes = 7; methods = 49; functions = 0; selectors = 1; sites = 2 }
unfolding text_sites
empty_source_check = refl

-- class A { m() => 7; }
-- main() { print(A().m()); }
first_run_check : counts (tree_of
    (t.a_class (class_of false (n (codes "A") 6) None [] (t.method (n (codes "m") 10) [] (Some (t.arrow (t.int (pos 7) (sp 17 1)))) ∷ []))
    ∷ t.a_function
    (function_of false (n (codes "main") 22) []
    (t.code
    (stas
    (t.run
    (t.call (n (codes "print") 31) (exps (t.postfix (t.call (n (codes "A") 37) (exps [])) (selectors (t.send (n (codes "m") 41) (exps []) ∷ [])) ∷ [])))
    ∷ []))))
    ∷ [])) ≡ record { classes = 8; methods = 50; functions = 2; selectors = 2; sites = 3 }
unfolding text_sites
first_run_check = refl

-- class A { var x; final y = 1; m() {} } abstract class B { n(); get z => 1; set z(v); }
fields_are_methods : counts (tree_of
    (t.a_class
    (class_of false (n (codes "A") 6) None []
    (t.field (a_local false (n (codes "x") 14) None)
    ∷ t.field (a_local true (n (codes "y") 23) (Some (t.int (pos 1) (sp 27 1))))
    ∷ t.method (n (codes "m") 30) [] (Some (t.code (stas [])))
    ∷ []))
    ∷ t.a_class
    (class_of true (n (codes "B") 54) None []
    (t.method (n (codes "n") 58) [] None
    ∷ t.getter (n (codes "z") 67) (Some (t.arrow (t.int (pos 1) (sp 72 1))))
    ∷ t.setter (n (codes "z") 79) (a_param false false (n (codes "v") 81)) None
    ∷ []))
    ∷ [])) ≡ record { classes = 9; methods = 54; functions = 2; selectors = 1; sites = 2 }
unfolding text_sites
fields_are_methods = refl

-- f(a) { a.m(1); a.m(2); a.m(); a.m; a.m = 1; print(a + 1 + 2); }
one_selector_for_many_sites : counts (tree_of
    (t.a_function
    (function_of false (n (codes "f") 0)
    (a_param false false (n (codes "a") 2) ∷ [])
    (t.code
    (stas
    (t.run (t.postfix (t.bare (n (codes "a") 7)) (selectors (t.send (n (codes "m") 9) (exps (t.int (pos 1) (sp 11 1) ∷ [])) ∷ [])))
    ∷ t.run (t.postfix (t.bare (n (codes "a") 15)) (selectors (t.send (n (codes "m") 17) (exps (t.int (pos 2) (sp 19 1) ∷ [])) ∷ [])))
    ∷ t.run (t.postfix (t.bare (n (codes "a") 23)) (selectors (t.send (n (codes "m") 25) (exps []) ∷ [])))
    ∷ t.run (t.postfix (t.bare (n (codes "a") 30)) (selectors (t.get (n (codes "m") 32) ∷ [])))
    ∷ t.run (t.assign (t.postfix (t.bare (n (codes "a") 35)) (selectors (t.get (n (codes "m") 37) ∷ []))) a.Plain (sp 39 1) (t.int (pos 1) (sp 41 1)))
    ∷ t.run
    (t.call (n (codes "print") 44)
    (exps
    (t.chain (t.bare (n (codes "a") 50))
    (links (a_link b.Add (sp 52 1) (t.int (pos 1) (sp 54 1)) ∷ a_link b.Add (sp 56 1) (t.int (pos 2) (sp 58 1)) ∷ []))
    ∷ [])))
    ∷ []))))
    ∷ [])) ≡ record { classes = 7; methods = 49; functions = 1; selectors = 6; sites = 9 }
unfolding text_sites
one_selector_for_many_sites = refl

-- class A { A(); operator -() => 1; operator -(x) => 2; operator [](i) => 3; }
a_constructor_is_no_method : counts (tree_of
    (t.a_class
    (class_of false (n (codes "A") 6) None []
    (t.constructor (n (codes "A") 10) [] None None
    ∷ t.operator o.Subtract (sp 24 1) [] (Some (t.arrow (t.int (pos 1) (sp 31 1))))
    ∷ t.operator o.Subtract (sp 43 1) (a_param false false (n (codes "x") 45) ∷ []) (Some (t.arrow (t.int (pos 2) (sp 51 1))))
    ∷ t.operator o.Get (sp 63 1) (a_param false false (n (codes "i") 66) ∷ []) (Some (t.arrow (t.int (pos 3) (sp 72 1))))
    ∷ []))
    ∷ [])) ≡ record { classes = 8; methods = 52; functions = 1; selectors = 1; sites = 2 }
unfolding text_sites
a_constructor_is_no_method = refl

-- what is counted, in the order of the limits

abbrev of : ℕ → ℕ → ℕ → ℕ → ℕ → Counts
of c m f s t = record { classes = c; methods = m; functions = f; selectors = s; sites = t }

all_at_their_limits : exceeded (of 2048 32767 32767 2048 65536) ≡ None
all_at_their_limits = refl

classes_first : exceeded (of 2049 32768 32768 2049 65537) ≡ Some (limit.Classes, 2049)
classes_first = refl

methods_second : exceeded (of 2048 32768 32768 2049 65537) ≡ Some (limit.Methods, 32768)
methods_second = refl

functions_third : exceeded (of 2048 32767 32768 2049 65537) ≡ Some (limit.Functions, 32768)
functions_third = refl

selectors_fourth : exceeded (of 2048 32767 32767 2049 65537) ≡ Some (limit.Selectors, 2049)
selectors_fourth = refl

sites_last : exceeded (of 2048 32767 32767 2048 65537) ≡ Some (limit.Sites, 65537)
sites_last = refl
