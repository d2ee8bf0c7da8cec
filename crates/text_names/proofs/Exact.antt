-- What is held of a tree is what the tree has.
use Rattle.std.proofs.Common.{◌≡◌, ◌||◌, Bool, List, length, unwrap_or, map, option_map, is_some, Option, None, Some, refl, ◌∙◌, ap}
use Rattle.std.proofs.Math.Logic.{∥∥₁_elim}
use Rattle.std.proofs.Props.{props}
use Rattle.dart_syntax.specs.Syntax.{ClassDecl, Top, Tree}
use Rattle.dart_syntax.specs.Bytes.{Text}
use Rattle.program.specs.declared.numbered.Class.{Class}
use Rattle.program.specs.declared.numbered.Method.{Method}
use Rattle.program.specs.declared.numbered.SelectorKind.{SelectorKind}
use Rattle.program.specs.BuiltIn.{built_in_classes, built_in_members}
use Rattle.dart_meaning.specs.Classes.{is_own_member, classes, class_named, parent}
use Rattle.dart_meaning.specs.Means.{super_member, top_named, is_top, is_class}
use Rattle.std.specs.Option.{option_and_then}
use Rattle.dart_syntax.specs.Syntax as t
use Rattle.dart_syntax.specs.Syntax.{Member}
use Rattle.dart_meaning.specs.Classes.{Constructor, constructor_in, no_constructor, first_some}
use Rattle.static_rules.specs.Statics.{static_of, static_named, Static, a_variable, a_function, a_class, a_built_in}
use Rattle.static_rules.specs.WrongArgumentsOfStatic.{constructor_count, static_count, super_count}
use Rattle.text_names.specs.Reached.{params_in, takes_of}
use Rattle.text_names.proofs.Reaching.{firsts}
use Rattle.name_uses.specs.Looked.{looked_class}
use Rattle.static_rules.specs.Members.{is_method, is_accessor, is_built_in_method, is_built_in_accessor}
use Rattle.static_rules.specs.UndefinedName.{has_field}
use Rattle.static_rules.specs.FinalWritten.{is_initialised}
use Rattle.declaration_rules.specs.Known.{is_built_in_of, is_one_of, class_names}
use Rattle.declaration_rules.specs.Mixing.{is_method_in, is_accessor_in}
use Rattle.text_names.specs.declared.noted.Sort.TheVariants as sort
use Rattle.text_names.specs.declared.names.Within.TheVariants as within
use Rattle.text_names.specs.Maps.{Names, no_names, Known, nothing_known}
use Rattle.text_names.specs.Noted.{also_noted_in}
use Rattle.text_names.specs.Around.{Around, around, also_classes}
use Rattle.text_names.specs.Tops.{also_tops}
use Rattle.text_names.specs.Exact.{IsExact}
use Rattle.text_names.specs.Asked.{is_within, params_of, count_of}
use Rattle.text_names.specs.Above.{own_takes, own_of, parent_in, named_around, super_by, count_by_class}
use Rattle.text_names.proofs.Taken as taken
use Rattle.text_names.proofs.Noting as noting
use Rattle.text_names.proofs.Classes as named

-- what was built is exact
pub exact_of : (tree : Tree) (tops : Known Top) (known : Known Around) (methods accessors : Names) (ks : List Class) (ms : List Method) (cs : List ClassDecl) (ts : List Top)
    → ts ≡ tree.tops → cs ≡ classes tree → tops ≡ also_tops ts nothing_known → known ≡ also_classes cs nothing_known
    → methods ≡ also_noted_in sort.Method cs no_names → accessors ≡ also_noted_in sort.Accessor cs no_names → ks ≡ built_in_classes → ms ≡ built_in_members
    → IsExact tree tops known methods accessors ks ms
exact_of tree tops known methods accessors ks ms cs ts all_tops all_classes a b c d e f = record {
  tops_are = λ q. ap (λ (g : Known Top). g q) a ∙ ap (λ xs. also_tops xs nothing_known q) all_tops ∙ named.tops_are tree.tops q;
  classes_are = λ q. ap (λ (g : Known Around). g q) b ∙ ap (λ xs. also_classes xs nothing_known q) all_classes ∙ named.classes_are (classes tree) q;
  methods_are = λ q. ap (λ (g : Names). g q) c ∙ ap (λ xs. also_noted_in sort.Method xs no_names q) all_classes ∙ noting.methods_are tree q;
  accessors_are = λ q. ap (λ (g : Names). g q) d ∙ ap (λ xs. also_noted_in sort.Accessor xs no_names q) all_classes ∙ noting.accessors_are tree q;
  built_in_classes_are = e;
  built_in_members_are = f;
}

members_in : (o : Option ClassDecl) (q : Text) → is_within within.Members (option_map around o) q ≡ is_own_member o q
members_in None q = refl
members_in (Some c) q = noting.members_are q c.members

fields_in : (o : Option ClassDecl) (q : Text) → is_within within.Fields (option_map around o) q ≡ has_field o q
fields_in None q = refl
fields_in (Some c) q = noting.fields_are c q

initialised_in : (o : Option ClassDecl) (q : Text) → is_within within.Initialised (option_map around o) q ≡ is_initialised o q
initialised_in None q = refl
initialised_in (Some c) q = noting.initialised_are c q

-- ---- constructors

params_member : (m : Member) → params_in m ≡ option_map (λ (k : Constructor). length k.params) (constructor_in m)
params_member (t.field l) = refl
params_member (t.method n params b) = refl
params_member (t.getter n b) = refl
params_member (t.setter n param b) = refl
params_member (t.operator op at params b) = refl
params_member (t.constructor n params passed b) = refl

some_count : (o : Option Constructor) → unwrap_or (option_map (λ (k : Constructor). length k.params) o) 0 ≡ length (unwrap_or o no_constructor).params
some_count None = refl
some_count (Some k) = refl

params_are : (o : Option ClassDecl) → params_of (option_map around o) ≡ length (unwrap_or (option_and_then (λ (c : ClassDecl). first_some (map constructor_in c.members)) o) no_constructor).params
params_are None = refl
params_are (Some c) = ap (λ o. unwrap_or o 0) (firsts (λ (k : Constructor). length k.params) params_in constructor_in c.members params_member) ∙ some_count (first_some (map constructor_in c.members))

pub counts_are : (tree : Tree) (q : Text) (s : Static) → count_of (constructor_count tree q) q s ≡ static_count tree q s
counts_are tree q (a_variable v) = refl
counts_are tree q (a_function f) = refl
counts_are tree q (a_class c) = refl
counts_are tree q a_built_in = refl

some_around : (o : Option ClassDecl) → is_some (option_map around o) ≡ is_some o
some_around None = refl
some_around (Some c) = refl

module _ (tree : Tree) (tops : Known Top) (known : Known Around) (methods accessors : Names) (ks : List Class) (ms : List Method) (exact : ∥ IsExact tree tops known methods accessors ks ms ∥₁) where
  pub method_is : (q : Text) → (is_method_in ms q || methods q) ≡ is_method tree q
  method_is q = ∥∥₁_elim exact (hlevel props) (λ e. ap (λ ds. is_method_in ds q || methods q) e.built_in_members_are ∙ ap (λ b. is_built_in_method q || b) (e.methods_are q))

  pub accessor_is : (q : Text) → (is_accessor_in ms q || accessors q) ≡ is_accessor tree q
  accessor_is q = ∥∥₁_elim exact (hlevel props) (λ e. ap (λ ds. is_accessor_in ds q || accessors q) e.built_in_members_are ∙ ap (λ b. is_built_in_accessor q || b) (e.accessors_are q))

  pub own_member_is : (o : Option ClassDecl) (q : Text) → is_within within.Members (named_around known o) q ≡ is_own_member (looked_class tree o) q
  own_member_is None q = refl
  own_member_is (Some c) q = ∥∥₁_elim exact (hlevel props) (λ e. ap (λ o. is_within within.Members o q) (e.classes_are c.name.text) ∙ members_in (class_named tree c.name.text) q)

  pub field_is : (o : Option ClassDecl) (q : Text) → is_within within.Fields (named_around known o) q ≡ has_field (looked_class tree o) q
  field_is None q = refl
  field_is (Some c) q = ∥∥₁_elim exact (hlevel props) (λ e. ap (λ o. is_within within.Fields o q) (e.classes_are c.name.text) ∙ fields_in (class_named tree c.name.text) q)

  pub initialised_is : (o : Option ClassDecl) (q : Text) → is_within within.Initialised (named_around known o) q ≡ is_initialised (looked_class tree o) q
  initialised_is None q = refl
  initialised_is (Some c) q = ∥∥₁_elim exact (hlevel props) (λ e. ap (λ o. is_within within.Initialised o q) (e.classes_are c.name.text) ∙ initialised_in (class_named tree c.name.text) q)

  pub super_is : (kind : SelectorKind) (name : Text) (o : Option ClassDecl) → super_by tree kind name (named_around known o) ≡ option_map takes_of (super_member tree (looked_class tree o) kind name)
  super_is kind name None = refl
  super_is kind name (Some c) = ∥∥₁_elim exact (hlevel props) (λ e. ap (super_by tree kind name) (e.classes_are c.name.text) ∙ taken.super_is tree kind name (class_named tree c.name.text))

  pub super_count_is : (o : Option ClassDecl) → count_by_class tree (named_around known o) ≡ super_count tree (looked_class tree o)
  super_count_is None = refl
  super_count_is (Some c) = ∥∥₁_elim exact (hlevel props) (λ e. ap (count_by_class tree) (e.classes_are c.name.text) ∙ taken.count_is tree (class_named tree c.name.text))

  pub own_takes_is : (kind : SelectorKind) (class q : Text) → own_takes ks ms (known class) class kind q ≡ own_of tree kind q class
  own_takes_is kind class q = ∥∥₁_elim exact (hlevel props) (λ e.
      ap (λ o. own_takes ks ms o class kind q) (e.classes_are class)
      ∙ ap (λ cs. own_takes cs ms (option_map around (class_named tree class)) class kind q) e.built_in_classes_are
      ∙ ap (λ ds. own_takes built_in_classes ds (option_map around (class_named tree class)) class kind q) e.built_in_members_are
      ∙ taken.own_is tree class kind q (class_named tree class))

  pub parent_is : (class : Text) → parent_in (known class) class ≡ parent tree class
  parent_is class = ∥∥₁_elim exact (hlevel props) (λ e. ap (λ o. parent_in o class) (e.classes_are class) ∙ taken.parent_is class (class_named tree class))

  -- what is asked of the declaration that a name stands for
  pub top_is : (f : Option Top → Bool) (q : Text) → f (tops q) ≡ f (top_named tree q)
  top_is f q = ∥∥₁_elim exact (hlevel props) (λ e. ap f (e.tops_are q))

  pub is_top_is : (q : Text) → (is_some (tops q) || is_built_in_of (class_names ks) q) ≡ is_top tree q
  is_top_is q = ∥∥₁_elim exact (hlevel props) (λ e. ap (λ o. is_some o || is_built_in_of (class_names ks) q) (e.tops_are q) ∙ ap (λ xs. is_some (top_named tree q) || is_built_in_of (class_names xs) q) e.built_in_classes_are)

  pub is_class_is : (q : Text) → (is_some (known q) || is_one_of (class_names ks) q) ≡ is_class tree q
  is_class_is q = ∥∥₁_elim exact (hlevel props) (λ e.
      ap (λ o. is_some o || is_one_of (class_names ks) q) (e.classes_are q)
      ∙ ap (λ b. b || is_one_of (class_names ks) q) (some_around (class_named tree q))
      ∙ ap (λ xs. is_some (class_named tree q) || is_one_of (class_names xs) q) e.built_in_classes_are)

  pub constructor_is : (class : Text) → params_of (known class) ≡ constructor_count tree class
  constructor_is class = ∥∥₁_elim exact (hlevel props) (λ e. ap params_of (e.classes_are class) ∙ params_are (class_named tree class))

  pub count_is : (q : Text) (o : Option Top) → o ≡ tops q → count_of (constructor_count tree q) q (static_of o) ≡ static_count tree q (static_named tree q)
  count_is q o h = ∥∥₁_elim exact (hlevel props) (λ e. ap (λ x. count_of (constructor_count tree q) q (static_of x)) (h ∙ e.tops_are q) ∙ counts_are tree q (static_named tree q))
