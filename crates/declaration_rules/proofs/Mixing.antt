-- Members that are taken one by one.
use Rattle.std.proofs.Common.{◌≡◌, Bool, true, false, not, ◌||◌, ◌&&◌, if◌then◌else◌, List, [], ◌∷◌, ◌++◌, Option, None, Some, refl, sym, ◌∙◌, ap, bytes_eq}
use Rattle.std.specs.List.{cons_option}
use Rattle.dart_syntax.specs.Syntax.{Tree}
use Rattle.dart_meaning.specs.Classes.{classes}
use Rattle.program.specs.declared.numbered.Method.{Method}
use Rattle.program.specs.BuiltIn.{built_in_members}
use Rattle.declaration_rules.specs.declared.mixed.Kinds.{Kinds}
use Rattle.static_rules.specs.Places.{at_if, ◌or_else◌}
use Rattle.static_rules.specs.Members.{Declared, user_members, is_method_of, is_accessor_of}
use Rattle.static_rules.specs.MixedName.{mixed, mixed_name, differs}
use Rattle.declaration_rules.specs.Mixing.{with_name_if, mixed_by, mixed_in, is_mixed, left}
use Rattle.declaration_rules.specs.Seen.{has}
use Rattle.declaration_rules.proofs.Firsts.{or_else_assoc}

one_more : (a b r : Bool) → ((a && b) || r) ≡ (if b then (a || r) else r)
one_more true true r = refl
one_more true false r = refl
one_more false true r = refl
one_more false false r = refl

methods_more : (d : Declared) (before : List Declared) → is_method_of (d ∷ before) ≡ with_name_if d.is_method d.name.text (is_method_of before)
methods_more d before = λ i q. one_more (bytes_eq d.name.text q) d.is_method (is_method_of before q) i

accessors_more : (d : Declared) (before : List Declared) → is_accessor_of (d ∷ before) ≡ with_name_if (not d.is_method) d.name.text (is_accessor_of before)
accessors_more d before = λ i q. one_more (bytes_eq d.name.text q) (not d.is_method) (is_accessor_of before q) i

mixed_same : (before more : List Declared) → mixed before more ≡ mixed_by built_in_members (is_method_of before) (is_accessor_of before) more
mixed_same before [] = refl
mixed_same before (d ∷ more) =
    ap (λ o. at_if (differs before d) d.name.span or_else o)
    (mixed_same (d ∷ before) more
    ∙ ap (λ m. mixed_by built_in_members m (is_accessor_of (d ∷ before)) more) (methods_more d before)
    ∙ ap (λ a. mixed_by built_in_members (with_name_if d.is_method d.name.text (is_method_of before)) a more) (accessors_more d before))

-- the rule, by two sets
pub mixed_name_is : (tree : Tree) → mixed_in built_in_members (classes tree) ≡ mixed_name tree
unfolding mixed_name
mixed_name_is tree = sym (mixed_same [] (user_members tree))

-- one more member
pub take_one : (built_in : List Method) (old new : Kinds) (d : Declared) (more : List Declared)
    → new.at ≡ (old.at or_else at_if (is_mixed built_in old d) d.name.span)
    → ((q : _) → has new.methods q ≡ with_name_if d.is_method d.name.text (has old.methods) q)
    → ((q : _) → has new.accessors q ≡ with_name_if (not d.is_method) d.name.text (has old.accessors) q)
    → left built_in new more ≡ left built_in old (d ∷ more)
take_one built_in old new d more place methods accessors =
    let wrong = at_if (is_mixed built_in old d) d.name.span in
    let m = with_name_if d.is_method d.name.text (has old.methods) in
    let a = with_name_if (not d.is_method) d.name.text (has old.accessors) in
    let methods_is : has new.methods ≡ m = (λ i q. methods q i) in
    let accessors_is : has new.accessors ≡ a = (λ i q. accessors q i) in
    ap (λ o. o or_else mixed_by built_in (has new.methods) (has new.accessors) more) place
    ∙ ap (λ s. (old.at or_else wrong) or_else mixed_by built_in s (has new.accessors) more) methods_is
    ∙ ap (λ s. (old.at or_else wrong) or_else mixed_by built_in m s more) accessors_is
    ∙ or_else_assoc old.at wrong (mixed_by built_in m a more)

pub appended : {A : Type 0} (o : Option A) (xs ys : List A) → cons_option o xs ++ ys ≡ cons_option o (xs ++ ys)
appended None xs ys = refl
appended (Some x) xs ys = refl
