-- The rules, by what src/ knows of names.
use Rattle.std.proofs.Common.{◌≡◌, Bool, not, ◌||◌, List, sym, ◌∙◌, ap, map}
use Rattle.dart_syntax.specs.Bytes.{Text}
use Rattle.dart_syntax.specs.Syntax.{ClassDecl, Tree}
use Rattle.dart_meaning.specs.Classes.{classes, built_in_names}
use Rattle.dart_meaning.specs.Means.{top_name, is_class}
use Rattle.declaration_rules.specs.declared.supers.SuperRule.TheVariants as rule
use Rattle.static_rules.specs.Places.{Fault, at_if, ◌or_else◌, first_in}
use Rattle.static_rules.specs.Repeats.{Before, repeated}
use Rattle.static_rules.specs.DuplicateName.{duplicate_name, in_top}
use Rattle.static_rules.specs.Supers.{supers, unknown_super, super_is_builtin}
use Rattle.declaration_rules.specs.Known.{breaks_in, is_one_of, is_built_in_of, is_declared}
use Rattle.declaration_rules.proofs.Names.{declared_named}

pub duplicate_name_is : (tree : Tree) (names : List Text) → names ≡ built_in_names
    → (repeated (is_built_in_of names) (map top_name tree.tops) or_else first_in in_top tree.tops) ≡ duplicate_name tree
unfolding duplicate_name
duplicate_name_is tree names is = ap (λ ns. repeated (is_built_in_of ns) (map top_name tree.tops) or_else first_in in_top tree.tops) is

pub unknown_super_is : (tree : Tree) (known : Before) (names : List Text) (cs : List ClassDecl) → cs ≡ classes tree → ((q : _) → known q ≡ is_declared cs q) → names ≡ built_in_names
    → first_in (breaks_in rule.Unknown known (is_one_of names)) cs ≡ unknown_super tree
unfolding unknown_super
unknown_super_is tree known names cs all same is =
    let known_is : known ≡ (λ q. is_declared cs q) = (λ i q. same q i) in
    let class_is : (λ (q : Text). is_declared (classes tree) q || is_one_of built_in_names q) ≡ is_class tree = (λ i q. ap (λ b. b || is_one_of built_in_names q) (sym (declared_named tree q)) i) in
    ap (λ k. first_in (breaks_in rule.Unknown k (is_one_of names)) cs) known_is
    ∙ ap (λ ns. first_in (breaks_in rule.Unknown (is_declared cs) (is_one_of ns)) cs) is
    ∙ ap (λ ds. first_in (breaks_in rule.Unknown (is_declared ds) (is_one_of built_in_names)) ds) all
    ∙ ap (λ (f : Text → Bool). first_in (λ (c : ClassDecl). first_in (λ n. at_if (not (f n.text)) n.span) (supers c)) (classes tree)) class_is

pub super_is_builtin_is : (tree : Tree) (known : Before) (names : List Text) (cs : List ClassDecl) → cs ≡ classes tree → names ≡ built_in_names
    → first_in (breaks_in rule.BuiltIn known (is_one_of names)) cs ≡ super_is_builtin tree
unfolding super_is_builtin
super_is_builtin_is tree known names cs all is =
    ap (λ ns. first_in (breaks_in rule.BuiltIn known (is_one_of ns)) cs) is
    ∙ ap (λ ds. first_in (breaks_in rule.BuiltIn known (is_one_of built_in_names)) ds) all

-- five places, one behind the other
pub five : (a b c d e a1 b1 c1 d1 e1 x y z r : Fault) → x ≡ (d or_else e) → y ≡ (c or_else x) → z ≡ (b or_else y) → r ≡ (a or_else z)
    → a ≡ a1 → b ≡ b1 → c ≡ c1 → d ≡ d1 → e ≡ e1 → r ≡ (a1 or_else (b1 or_else (c1 or_else (d1 or_else e1))))
five a b c d e a1 b1 c1 d1 e1 x y z r hx hy hz hr ha hb hc hd he =
    hr ∙ ap (λ o. o or_else z) ha ∙ ap (λ o. a1 or_else o)
    (hz ∙ ap (λ o. o or_else y) hb ∙ ap (λ o. b1 or_else o)
    (hy ∙ ap (λ o. o or_else x) hc ∙ ap (λ o. c1 or_else o)
    (hx ∙ ap (λ o. o or_else e) hd ∙ ap (λ o. d1 or_else o) he)))
