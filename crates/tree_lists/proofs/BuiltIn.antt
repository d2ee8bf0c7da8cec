-- The first classes of a numbered program are the built-in ones, where the text declares none of their names.
use Rattle.std.proofs.Common.{◌≡◌, ℕ, Bool, true, false, cond, nat_lt, List, [], ◌∷◌, ◌++◌, length, map, take, option_map, unwrap_or, Option, None, Some, refl, ◌∙◌, ap}
use Rattle.std.specs.Prelude.{filter_map, flat_map, codes}
use Rattle.std.specs.Option.{option_and_then}
use Rattle.dart_syntax.specs.declared.tree.Name.{Name}
use Rattle.dart_syntax.specs.Syntax.{Tree, ClassDecl}
use Rattle.program.specs.declared.ids.ClassId.{ClassId}
use Rattle.program.specs.declared.numbered.Class.{Class}
use Rattle.program.specs.BuiltIn.{built_in_classes}
use Rattle.dart_values.specs.Values.{Text}
use Rattle.dart_meaning.specs.Classes.{children, preorder, class_count, class_named, class_names, class_number, parent_of, declared_fields, first_some, constructor_in, built_in_names}
use Rattle.dart_meaning.specs.Forms.{ClassForm, class_form}
use Rattle.dart_meaning.specs.NumberedForm.{numbered_class, numbered_field, numbered_constructor}

-- ---- a class that has nothing of its own is known by its form

none_mapped : {A B : Type 0} (f : A → B) (xs : List A) → map f xs ≡ [] → xs ≡ []
none_mapped f [] e = refl
none_mapped f (x ∷ xs) e = absurd cc

no_option : {A B : Type 0} (f : A → B) (o : Option A) → option_map f o ≡ None → o ≡ None
no_option f None e = refl
no_option f (Some a) e = absurd cc

number_of : Option ClassId → ℕ
number_of None = 0
number_of (Some d) = d.0

same_parent : (a b : Option ClassId) → option_map (λ (d : ClassId). d.0) a ≡ option_map (λ (d : ClassId). d.0) b → a ≡ b
same_parent None None e = refl
same_parent None (Some d) e = absurd cc
same_parent (Some d) None e = absurd cc
same_parent (Some d) (Some c) e = λ i. Some (record { 0 = unwrap_or (e i) 0 })

abbrev bare : Text → Option ClassId → Class
bare name parent = record { name = name; parent = parent; interfaces = []; is_abstract = false; fields = []; constructor = None }

known_by_form : (k : Class) (name : Text) (parent : Option ClassId) → class_form k ≡ class_form (bare name parent) → k ≡ bare name parent
known_by_form k name parent e =
    let parents = same_parent k.parent parent (ap (λ (f : ClassForm). f.parent) e) in
    let interfaces = none_mapped _ k.interfaces (ap (λ (f : ClassForm). f.interfaces) e) in
    let fields = none_mapped _ k.fields (ap (λ (f : ClassForm). f.fields) e) in
    let constructors = no_option _ k.constructor (ap (λ (f : ClassForm). f.constructor) e) in
    λ i. record { name = (e i).name; parent = parents i; interfaces = interfaces i; is_abstract = (e i).is_abstract; fields = fields i; constructor = constructors i }

abbrev Bares : Type 0
Bares = List (Text × Option ClassId)

abbrev bares : Bares → List Class
bares [] = []
bares (b ∷ more) = bare b.0 b.1 ∷ bares more

abbrev head_or : ClassForm → List ClassForm → ClassForm
head_or d [] = d
head_or d (x ∷ xs) = x

abbrev tail_of : List ClassForm → List ClassForm
tail_of [] = []
tail_of (x ∷ xs) = xs

front_is : (ks : List Class) (bs : Bares) (rest : List ClassForm) → map class_form ks ≡ map class_form (bares bs) ++ rest → take (length bs) ks ≡ bares bs
front_is ks [] rest e = refl
front_is [] (b ∷ bs) rest e = absurd cc
front_is (k ∷ ks) (b ∷ bs) rest e = λ i. known_by_form k b.0 b.1 (ap (head_or (class_form k)) e) i ∷ front_is ks bs rest (ap tail_of e) i

-- ---- the forms of the built-in classes

abbrev form_of : Tree → Text → Option ClassDecl → ClassForm
form_of tree name o = record {
  name = name;
  parent = option_map (class_number tree) (parent_of o name);
  interfaces = map (class_number tree) (unwrap_or (option_map (λ (c : ClassDecl). map (λ (n : Name). n.text) c.interfaces) o) []);
  is_abstract = unwrap_or (option_map (λ (c : ClassDecl). c.is_abstract) o) false;
  fields = map (numbered_field tree) (declared_fields o);
  constructor = option_map (numbered_constructor tree name) (option_and_then (λ (c : ClassDecl). first_some (map constructor_in c.members)) o);
}

undeclared : (tree : Tree) (name : Text) → class_named tree name ≡ None → numbered_class tree name ≡ form_of tree name None
undeclared tree name e = ap (form_of tree name) e

abbrev pub Undeclared : Tree → List Text → Type 0
Undeclared tree [] = Unit {0}
Undeclared tree (name ∷ more) = (class_named tree name ≡ None) × Undeclared tree more

all_undeclared : (tree : Tree) (names : List Text) → Undeclared tree names → map (numbered_class tree) names ≡ map (λ name. form_of tree name None) names
all_undeclared tree [] h = refl
all_undeclared tree (name ∷ more) h = λ i. undeclared tree name h.0 i ∷ all_undeclared tree more h.1 i

abbrev form_by : Text → Option ℕ → ClassForm
form_by name parent = record { name = name; parent = parent; interfaces = []; is_abstract = false; fields = []; constructor = None }

-- the built-in classes, where Object has the number n
abbrev forms_by : ℕ → List ClassForm
forms_by n =
    form_by (codes "Object") None ∷ form_by (codes "Null") (Some n) ∷ form_by (codes "bool") (Some n) ∷ form_by (codes "int") (Some n)
    ∷ form_by (codes "String") (Some n) ∷ form_by (codes "List") (Some n) ∷ form_by (codes "Invocation") (Some n) ∷ []

abbrev number_or_none : Bool → ℕ
number_or_none b = unwrap_or (cond b (Some 0) None) 0

first_or_none : (b : Bool) → number_or_none b ≡ 0
first_or_none true = refl
first_or_none false = refl

object_is_first : (tree : Tree) → class_number tree (codes "Object") ≡ 0
object_is_first tree = first_or_none (nat_lt 0 (length (class_names tree)))

abbrev below : Text → Text × Option ClassId
below name = (name, Some (record { 0 = 0 }))

abbrev seven : Bares
seven = (codes "Object", None) ∷ below (codes "Null") ∷ below (codes "bool") ∷ below (codes "int") ∷ below (codes "String") ∷ below (codes "List") ∷ below (codes "Invocation") ∷ []

abbrev user_forms : Tree → List ClassForm
user_forms tree = map (numbered_class tree) (flat_map (preorder (class_count tree) tree) (children tree (codes "Object")))

-- the first seven classes
pub built_in_are : (tree : Tree) (ks : List Class) → map class_form ks ≡ map (numbered_class tree) (class_names tree) → Undeclared tree built_in_names → take 7 ks ≡ built_in_classes
built_in_are tree ks e h =
    front_is ks seven (user_forms tree)
    (e ∙ ap (λ front. front ++ user_forms tree) (all_undeclared tree built_in_names h) ∙ ap (λ n. forms_by n ++ user_forms tree) (object_is_first tree))
