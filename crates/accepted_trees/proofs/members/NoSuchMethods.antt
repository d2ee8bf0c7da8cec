-- Where overrides keep the number of parameters, each `noSuchMethod` has one.
use Rattle.std.proofs.Common.{◌≡◌, ℕ, ◌⊎◌, inl, inr, Bool, true, false, nat_eq, IsTrue, List, [], ◌∷◌, length, map, Option, None, Some, bytes_eq, refl, sym, ◌∙◌, ap, subst, arith, codes}
use Rattle.std.specs.List.{list_all}
use Rattle.std.proofs.lemmas.Bool.Decides.{nat_tests}
use Rattle.dart_syntax.specs.declared.tree.Name.{Name}
use Rattle.dart_syntax.specs.Syntax as t
use Rattle.dart_syntax.specs.Syntax.{Tree, Param, Body, Member, ClassDecl}
use Rattle.program.proofs.Each.{and_both}
use Rattle.dart_values.specs.Values.{Text}
use Rattle.dart_meaning.specs.Classes.{classes, class_named, built_in_names, object, parent, chain, first_some, if_so}
use Rattle.static_rules.specs.BadOverride.{own_count, built_in_count, count_in, count_above, differs, in_member, bad_override}
use Rattle.static_rules.specs.Places.{first_in}
use Rattle.accepted_trees.proofs.classes.Lists.{In, in_either, from_map, same_text}
use Rattle.accepted_trees.proofs.classes.ClassRules.{KeepsClasses, name_of, user_names, named_none, none_in, none_if, not_false}
use Rattle.accepted_trees.proofs.classes.WaysEnd.{Known, user_class, user_known}
use Rattle.accepted_trees.proofs.classes.Chains.{parent_known, chain_of, chain_some, above_step, by_parents, chain_object}
use Rattle.accepted_trees.proofs.classes.EachClassOnce.{user_parent}
use Rattle.accepted_trees.proofs.classes.Numbers.{built_in_parent}
use Rattle.accepted_trees.proofs.members.Declared.{class_user}

abbrev missing : Text
missing = codes "noSuchMethod"

abbrev is_one : Option ℕ → Bool
is_one None = true
is_one (Some n) = nat_eq n 1

one_or_none : (o : Option ℕ) → IsTrue (is_one o) → (o ≡ None) ⊎ (o ≡ Some 1)
one_or_none None h = inl refl
one_or_none (Some n) h = inr (ap Some (one n h))
  where
    one : (n : ℕ) → IsTrue (nat_eq n 1) → n ≡ 1
    one n h = grind (arith, nat_tests)

all_ones : (xs : List Text) → IsTrue (list_all (λ x. is_one (built_in_count x missing)) xs) → (x : Text) → In x xs → IsTrue (is_one (built_in_count x missing))
all_ones [] h x m = absurd m
all_ones (y ∷ xs) h x m = elim m [
  | inl e ↦ subst (λ z. IsTrue (is_one (built_in_count z missing))) e (and_both (is_one (built_in_count y missing)) (list_all (λ x. is_one (built_in_count x missing)) xs) h).0
  | inr k ↦ all_ones xs (and_both (is_one (built_in_count y missing)) (list_all (λ x. is_one (built_in_count x missing)) xs) h).1 x k
]

same_count : (n k : ℕ) → differs (Some n) k ≡ false → k ≡ n
same_count n k h = let e = not_false (nat_eq n k) h in is n k e
  where
    is : (n k : ℕ) → nat_eq n k ≡ true → k ≡ n
    is n k e = grind (arith, nat_tests)

-- a method with the name is among these
counted : (name : Text) (ms : List Member) (k : ℕ) → first_some (map (own_count name) ms) ≡ Some k → (n : Name) × (params : List Param) × (b : Option Body) × In (t.method n params b) ms × (n.text ≡ name) × (length params ≡ k)
counted name [] k e = absurd cc
counted name (m ∷ ms) k e = by_member m e (counted name ms k)
  where
    further : (m : Member) → ((n : Name) × (params : List Param) × (b : Option Body) × In (t.method n params b) ms × (n.text ≡ name) × (length params ≡ k)) → (n : Name) × (params : List Param) × (b : Option Body) × In (t.method n params b) (m ∷ ms) × (n.text ≡ name) × (length params ≡ k)
    further m r = (r.0, r.1, r.2, inr r.3, r.4, r.5)

    by_member : (m : Member) → first_some (own_count name m ∷ map (own_count name) ms) ≡ Some k → (first_some (map (own_count name) ms) ≡ Some k → (n : Name) × (params : List Param) × (b : Option Body) × In (t.method n params b) ms × (n.text ≡ name) × (length params ≡ k))
        → (n : Name) × (params : List Param) × (b : Option Body) × In (t.method n params b) (m ∷ ms) × (n.text ≡ name) × (length params ≡ k)
    by_member (t.field l) e more = further (t.field l) (more e)
    by_member (t.getter n b) e more = further (t.getter n b) (more e)
    by_member (t.setter n p b) e more = further (t.setter n p b) (more e)
    by_member (t.operator op at ps b) e more = further (t.operator op at ps b) (more e)
    by_member (t.constructor n ps passed b) e more = further (t.constructor n ps passed b) (more e)
    by_member (t.method n params b) e more = (elim (bytes_eq n.text name) as (λ s. bytes_eq n.text name ≡ s → first_some (if_so s (length params) ∷ map (own_count name) ms) ≡ Some k
        → (n' : Name) × (params' : List Param) × (b' : Option Body) × In (t.method n' params' b') (t.method n params b ∷ ms) × (n'.text ≡ name) × (length params' ≡ k)) [
          | true ↦ λ s is. (n, params, b, inl refl, same_text n.text name s, cc)
          | false ↦ λ s is. further (t.method n params b) (more is)
        ]) refl e

module _ (tree : Tree) (keeps : KeepsClasses tree) (kept : bad_override tree ≡ None) where
  abbrev count_of : Text → Option ℕ
  count_of x = count_in x missing (class_named tree x)

  -- the rule at one method
  at_method : (c : ClassDecl) (n : Name) (params : List Param) (b : Option Body) → In c (classes tree) → In (t.method n params b) c.members → differs (count_above tree c.name.text n.text) (length params) ≡ false
  unfolding bad_override
  at_method c n params b among m =
      none_if (differs (count_above tree c.name.text n.text) (length params)) n.span
      (none_in (in_member tree c) c.members (none_in (λ (c : ClassDecl). first_in (in_member tree c) c.members) (classes tree) kept c among) (t.method n params b) m)

  above_count : (c : ClassDecl) → In c (classes tree) → (z : Text) → parent tree c.name.text ≡ Some z → count_above tree c.name.text missing ≡ first_some (map count_of (chain tree z))
  above_count c among z e =
      ap (λ cs. first_some (map count_of cs)) (above_step tree keeps c.name.text (user_known tree keeps c.name.text (class_user tree keeps c among)) ∙ ap (chain_of tree) e)

  with_above : (c : ClassDecl) (n : Name) (params : List Param) (b : Option Body) → In c (classes tree) → In (t.method n params b) c.members → n.text ≡ missing
      → (z : Text) → parent tree c.name.text ≡ Some z → first_some (map count_of (chain tree z)) ≡ Some 1 → length params ≡ 1
  with_above c n params b among m named z e one =
      same_count 1 (length params)
      (sym (ap (λ o. differs o (length params)) (ap (count_above tree c.name.text) named ∙ above_count c among z e ∙ one)) ∙ at_method c n params b among m)

  first_one : (o : Option ℕ) (rest : List (Option ℕ)) → (o ≡ None) ⊎ (o ≡ Some 1) → first_some rest ≡ Some 1 → first_some (o ∷ rest) ≡ Some 1
  first_one None rest h e = e
  first_one (Some n) rest h e = elim h [ inl bad ↦ absurd cc | inr is ↦ is ]

  object_counts : first_some (map count_of (chain tree object)) ≡ Some 1
  object_counts =
      ap (λ cs. first_some (map count_of cs)) (chain_object tree keeps)
      ∙ ap (λ o. first_some (count_in object missing o ∷ [])) (named_none (classes tree) object (λ user. keeps.apart object user (inl refl)))

  -- The nearest `noSuchMethod` from a class up has one parameter.
  counts_one : (x : Text) → Known tree x → first_some (map count_of (chain tree x)) ≡ Some 1
  counts_one = by_parents tree keeps (λ x. first_some (map count_of (chain tree x)) ≡ Some 1)
      (λ x known up. elim (in_either x built_in_names (user_names tree) known) [
        | inl m ↦ (elim (bytes_eq x object) as (λ b. bytes_eq x object ≡ b → first_some (map count_of (chain tree x)) ≡ Some 1) [
          | true ↦ λ e. ap (λ z. first_some (map count_of (chain tree z))) (same_text x object e) ∙ object_counts
          | false ↦ λ e.
              let p = built_in_parent tree keeps x m e in
              let none = named_none (classes tree) x (λ user. keeps.apart x user m) in
              ap (λ cs. first_some (map count_of cs)) (chain_some tree keeps x object known p)
              ∙ first_one (count_of x) (map count_of (chain tree object)) (subst (λ o. (count_in x missing o ≡ None) ⊎ (count_in x missing o ≡ Some 1)) (sym none) (one_or_none (built_in_count x missing) (all_ones built_in_names refl x m))) object_counts
        ]) refl
        | inr m ↦
            let r = from_map name_of x (classes tree) m in
            let p = user_parent tree keeps x m in
            let one = up p.0 p.1 in
            let named : class_named tree x ≡ Some r.0 = ap (class_named tree) (sym r.2) ∙ user_class tree keeps r.0 r.1 in
            ap (λ cs. first_some (map count_of cs)) (chain_some tree keeps x p.0 known p.1)
            ∙ first_one (count_of x) (map count_of (chain tree p.0))
            (subst (λ o. (count_in x missing o ≡ None) ⊎ (count_in x missing o ≡ Some 1)) (sym named) (own_one r.0 r.1 p.0 (ap (parent tree) r.2 ∙ p.1) one (first_some (map (own_count missing) r.0.members)) refl)) one
      ])
    where
      own_one : (c : ClassDecl) → In c (classes tree) → (z : Text) → parent tree c.name.text ≡ Some z → first_some (map count_of (chain tree z)) ≡ Some 1 → (o : Option ℕ) → first_some (map (own_count missing) c.members) ≡ o → (first_some (map (own_count missing) c.members) ≡ None) ⊎ (first_some (map (own_count missing) c.members) ≡ Some 1)
      own_one c among z e one None is = inl is
      own_one c among z e one (Some k) is =
          let r = counted missing c.members k is in
          inr (is ∙ ap Some (sym r.5 ∙ with_above c r.0 r.1 r.2 among r.3 r.4 z e one))

  -- Each `noSuchMethod` of the user's has one parameter.
  pub one_parameter : (c : ClassDecl) (n : Name) (params : List Param) (b : Option Body) → In c (classes tree) → In (t.method n params b) c.members → n.text ≡ codes "noSuchMethod" → length params ≡ 1
  one_parameter c n params b among m named =
      let p = user_parent tree keeps c.name.text (class_user tree keeps c among) in
      with_above c n params b among m named p.0 p.1 (counts_one p.0 (parent_known tree keeps c.name.text p.0 p.1))
