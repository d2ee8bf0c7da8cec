-- Where no two declarations have one name, each class is the one that its name stands for.
use Rattle.std.proofs.Common.{◌≡◌, Bool, true, false, ◌||◌, if◌then◌else◌, List, [], ◌∷◌, ◌++◌, map, Option, None, Some, refl, sym, ◌∙◌, ap, bytes_eq}
use Rattle.std.specs.Prelude.{filter_map, flat_map}
use Rattle.std.specs.List.{list_any}
use Rattle.std.proofs.lemmas.List.{map-append}
use Rattle.std.proofs.lemmas.Slice.Eq.{bytes_eq-Decides}
use Rattle.dart_syntax.specs.declared.token.Span.{Span}
use Rattle.dart_syntax.specs.Bytes.{Text}
use Rattle.dart_syntax.specs.Syntax as t
use Rattle.dart_syntax.specs.Syntax.{ClassDecl, Member, Param, Body, Passed, Stas, Top, Tree}
use Rattle.dart_meaning.specs.Classes.{class_at, class_named, first_some, if_so}
use Rattle.dart_meaning.specs.Means.{top_name, is_built_in}
use Rattle.dart_meaning.specs.Uses as u
use Rattle.static_rules.specs.Places.{Fault, at_if, ◌or_else◌, first_in}
use Rattle.static_rules.specs.Repeats.{Before, repeated, with_name}
use Rattle.static_rules.specs.DuplicateName.{duplicate_name, in_top}
use Rattle.name_uses.specs.Looked.{looked_class, looked}

-- the first class of a name among these declarations
abbrev class_in : List Top → Text → Option ClassDecl
class_in ts q = first_some (map (λ (c : ClassDecl). if_so (bytes_eq c.name.text q) c) (filter_map class_at ts))

no_fault : (a b : Fault) → (a or_else b) ≡ None → (a ≡ None) × (b ≡ None)
no_fault None b h = (refl, h)
no_fault (Some a) None h = absurd cc
no_fault (Some a) (Some b) h = absurd cc

not_wrong : (b : Bool) (place : Span) → at_if b place ≡ None → b ≡ false
not_wrong true place h = absurd cc
not_wrong false place h = refl

neither : (a b : Bool) → (a || b) ≡ false → (a ≡ false) × (b ≡ false)
neither true b h = absurd cc
neither false b h = (refl, h)

-- ---- the parts of one class

module _ (tree : Tree) (c : ClassDecl) (known : class_named tree c.name.text ≡ Some c) where
  one_same : (kind : u.Kind) (uses : List u.Use) → looked tree (u.part kind (Some c) uses) ≡ u.part kind (Some c) uses
  one_same kind uses = ap (λ o. u.part kind o uses) known

  body_same : (params : List Param) (b : Option Body) → map (looked tree) (u.member_part c params b) ≡ u.member_part c params b
  body_same params None = refl
  body_same params (Some b) = ap (λ p. p ∷ []) (one_same u.of_member (u.body_uses (u.with_params params u.nothing_seen) b))

  constructor_same : (params : List Param) (passed : Option Passed) (b : Option Stas) → map (looked tree) (u.constructor_parts c params passed b) ≡ u.constructor_parts c params passed b
  constructor_same params passed b =
      let first = u.passed_uses c params passed in
      let second = u.field_uses params ++ u.some_block_uses (u.with_params params u.nothing_seen) b in
      ap (λ p. p ∷ looked tree (u.part u.of_constructor (Some c) second) ∷ []) (one_same u.of_passed first)
      ∙ ap (λ p. u.part u.of_passed (Some c) first ∷ p ∷ []) (one_same u.of_constructor second)

  member_same : (m : Member) → map (looked tree) (u.member_parts c m) ≡ u.member_parts c m
  member_same (t.field l) = refl
  member_same (t.method n params b) = body_same params b
  member_same (t.getter n b) = body_same [] b
  member_same (t.setter n param b) = body_same (param ∷ []) b
  member_same (t.operator op at params b) = body_same params b
  member_same (t.constructor n params passed b) = constructor_same params passed b

  members_same : (ms : List Member) → map (looked tree) (flat_map (u.member_parts c) ms) ≡ flat_map (u.member_parts c) ms
  members_same [] = refl
  members_same (m ∷ ms) =
      map-append (looked tree) (u.member_parts c m) (flat_map (u.member_parts c) ms)
      ∙ ap (λ ps. ps ++ map (looked tree) (flat_map (u.member_parts c) ms)) (member_same m)
      ∙ ap (λ ps. u.member_parts c m ++ ps) (members_same ms)

  class_same : map (looked tree) (u.class_parts c) ≡ u.class_parts c
  class_same =
      let own = flat_map (u.member_parts c) c.members in
      let without = u.constructor_parts c [] None None in
      elim (list_any u.is_constructor c.members) as (λ b. map (looked tree) (if b then own else without ++ own) ≡ (if b then own else without ++ own)) [
        | true ↦ members_same c.members
        | false ↦
            map-append (looked tree) without own
            ∙ ap (λ ps. ps ++ map (looked tree) own) (constructor_same [] None None)
            ∙ ap (λ ps. without ++ ps) (members_same c.members)
      ]

-- ---- the parts of all declarations

-- a declaration of another name
skipped : (t : Top) (more : List Top) (q : Text) → bytes_eq (top_name t).text q ≡ false → class_in (t ∷ more) q ≡ class_in more q
skipped (t.a_class c) more q h = ap (λ b. first_some (if_so b c ∷ map (λ (c : ClassDecl). if_so (bytes_eq c.name.text q) c) (filter_map class_at more))) h
skipped (t.a_function f) more q h = refl
skipped (t.a_variable v) more q h = refl

found_here : (c : ClassDecl) (more : List Top) → class_in (t.a_class c ∷ more) c.name.text ≡ Some c
found_here c more = ap (λ b. first_some (if_so b c ∷ map (λ (d : ClassDecl). if_so (bytes_eq d.name.text c.name.text) d) (filter_map class_at more))) ((bytes_eq-Decides c.name.text c.name.text).1 refl)

top_same : (tree : Tree) (t : Top) (more : List Top) → class_named tree (top_name t).text ≡ class_in (t ∷ more) (top_name t).text → map (looked tree) (u.top_parts t) ≡ u.top_parts t
top_same tree (t.a_class c) more known = class_same tree c (known ∙ found_here c more)
top_same tree (t.a_function f) more known = refl
top_same tree (t.a_variable v) more known = refl

-- The names that were there before are those of the declarations before, at least.
tops_same : (tree : Tree) (seen : Before) (ts : List Top) → repeated seen (map top_name ts) ≡ None → ((q : Text) → seen q ≡ false → class_named tree q ≡ class_in ts q) → map (looked tree) (flat_map u.top_parts ts) ≡ flat_map u.top_parts ts
tops_same tree seen [] h known = refl
tops_same tree seen (t ∷ ts) h known =
    let n = top_name t in
    let parts = no_fault (at_if (seen n.text) n.span) (repeated (with_name n.text seen) (map top_name ts)) h in
    let fresh = not_wrong (seen n.text) n.span parts.0 in
    let next : (q : Text) → with_name n.text seen q ≡ false → class_named tree q ≡ class_in ts q = (λ q other. (let apart = neither (bytes_eq n.text q) (seen q) other in known q apart.1 ∙ skipped t ts q apart.0)) in
    map-append (looked tree) (u.top_parts t) (flat_map u.top_parts ts)
    ∙ ap (λ ps. ps ++ map (looked tree) (flat_map u.top_parts ts)) (top_same tree t ts (known n.text fresh))
    ∙ ap (λ ps. u.top_parts t ++ ps) (tops_same tree (with_name n.text seen) ts parts.1 next)

pub looked_parts : (tree : Tree) → duplicate_name tree ≡ None → map (looked tree) (u.parts tree) ≡ u.parts tree
unfolding duplicate_name
looked_parts tree h = tops_same tree is_built_in tree.tops (no_fault (repeated is_built_in (map top_name tree.tops)) (first_in in_top tree.tops) h).0 (λ q other. refl)
