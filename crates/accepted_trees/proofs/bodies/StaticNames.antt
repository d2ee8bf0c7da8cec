-- What a name stands for that no local has: a declaration of the text, a built-in class or `print`.
use Rattle.std.proofs.Common.{◌≡◌, ℕ, ◌+◌, Bool, true, false, not, cond, IsTrue, ◌&&◌, ◌||◌, List, [], ◌∷◌, map, length, find, filter_map, refl, ap, sym, ◌∙◌, subst, arith, nat_eq, slice_get, codes}
use Rattle.std.specs.Prelude.{Option, Some, None, is_some, if◌then◌else◌}
use Rattle.std.specs.List.{position_from, list_any}
use Rattle.std.specs.Str.{bytes_eq}
use Rattle.std.proofs.lemmas.Bool.Decides.{nat_tests}
use Rattle.std.proofs.lemmas.Iterator.Adapters.{position_from-zero}
use Rattle.std.proofs.lemmas.Slice.Eq.{bytes_eq-Decides}
use Rattle.dart_syntax.specs.declared.tree.Name.{Name}
use Rattle.dart_syntax.specs.Syntax as t
use Rattle.dart_syntax.specs.Syntax.{Tree, Top, Local, ClassDecl}
use Rattle.program.specs.BuiltIn.{is_open}
use Rattle.program.specs.Parts.{Parts}
use Rattle.program.specs.Sound.{FunctionAccepts, MakeAccepts}
use Rattle.dart_values.specs.Values.{Text}
use Rattle.dart_meaning.specs.Place.{reading}
use Rattle.dart_meaning.specs.Program.{calling}
use Rattle.dart_meaning.specs.Classes.{built_in_names, class_at, class_named, class_number, first_some, function_at, functions, if_so, is_abstract, is_constructed, object, variable_at, variable_place, variables}
use Rattle.dart_meaning.specs.Means.{is_built_in, is_top, print_name, top_name, top_named}
use Rattle.dart_meaning.specs.Numbering as num
use Rattle.static_rules.specs.AbstractMade.{is_unmade}
use Rattle.static_rules.specs.Statics.{is_variable, static_of}
use Rattle.static_rules.specs.WrongArgumentsOfStatic.{constructor_count, differs, static_count}
use Rattle.accepted_trees.proofs.bodies.Tables.{Tables, Makes}
use Rattle.accepted_trees.proofs.bodies.Fine.{AsksThis, FineCall}

pub or_false : (a b : Bool) → (a || b) ≡ false → (a ≡ false) × (b ≡ false)
or_false true b h = absurd cc
or_false false b h = (refl, h)

pub not_false : (b : Bool) → not b ≡ false → b ≡ true
not_false true h = refl
not_false false h = absurd cc

bytes_back : (x y : Text) → bytes_eq x y ≡ false → bytes_eq y x ≡ false
bytes_back x y h = by (bytes_eq y x) refl where
  by : (b : Bool) → bytes_eq y x ≡ b → b ≡ false
  by false e = refl
  by true e = absurd (apart ((bytes_eq-Decides x y).1 (sym ((bytes_eq-Decides y x).0 e)))) where
    apart : bytes_eq x y ≡ true → ⊥
    apart g = cc

-- ---- a name that the text does not declare

pub cond_none : {A : Type 0} (b : Bool) (x : A) (o : Option A) → cond b (Some x) o ≡ None → (b ≡ false) × (o ≡ None)
cond_none true x o h = absurd cc
cond_none false x o h = (refl, h)

none_again : {A : Type 0} (b : Bool) (x : A) (o : Option A) → b ≡ false → o ≡ None → cond b (Some x) o ≡ None
none_again true x o h k = absurd cc
none_again false x o h k = k

abbrev pub has_name : Text → Top → Bool
has_name q top = bytes_eq (top_name top).text q

pub no_function : (q : Text) (tops : List Top) (n : ℕ) → find (has_name q) tops ≡ None → position_from (λ (f : t.Function). bytes_eq f.name.text q) n (filter_map function_at tops) ≡ None
no_function q [] n h = refl
no_function q (t.a_function f ∷ more) n h =
    none_again (bytes_eq f.name.text q) n (position_from (λ (g : t.Function). bytes_eq g.name.text q) (n + 1) (filter_map function_at more)) (cond_none (bytes_eq f.name.text q) (t.a_function f) (find (has_name q) more) h).0
    (no_function q more (n + 1) (cond_none (bytes_eq f.name.text q) (t.a_function f) (find (has_name q) more) h).1)
no_function q (t.a_class c ∷ more) n h = no_function q more n (cond_none (bytes_eq c.name.text q) (t.a_class c) (find (has_name q) more) h).1
no_function q (t.a_variable v ∷ more) n h = no_function q more n (cond_none (bytes_eq v.name.text q) (t.a_variable v) (find (has_name q) more) h).1

no_variable : (q : Text) (tops : List Top) (n : ℕ) → find (has_name q) tops ≡ None → position_from (λ (v : Local). bytes_eq v.name.text q) n (filter_map variable_at tops) ≡ None
no_variable q [] n h = refl
no_variable q (t.a_variable f ∷ more) n h =
    none_again (bytes_eq f.name.text q) n (position_from (λ (g : Local). bytes_eq g.name.text q) (n + 1) (filter_map variable_at more)) (cond_none (bytes_eq f.name.text q) (t.a_variable f) (find (has_name q) more) h).0
    (no_variable q more (n + 1) (cond_none (bytes_eq f.name.text q) (t.a_variable f) (find (has_name q) more) h).1)
no_variable q (t.a_class c ∷ more) n h = no_variable q more n (cond_none (bytes_eq c.name.text q) (t.a_class c) (find (has_name q) more) h).1
no_variable q (t.a_function v ∷ more) n h = no_variable q more n (cond_none (bytes_eq v.name.text q) (t.a_function v) (find (has_name q) more) h).1

first_none : {A : Type 0} (b : Bool) (x : A) (more : List (Option A)) → b ≡ false → first_some more ≡ None → first_some (if_so b x ∷ more) ≡ None
first_none true x more h k = absurd cc
first_none false x more h k = k

pub no_class : (q : Text) (tops : List Top) → find (has_name q) tops ≡ None → first_some (map (λ (c : ClassDecl). if_so (bytes_eq c.name.text q) c) (filter_map class_at tops)) ≡ None
no_class q [] h = refl
no_class q (t.a_class f ∷ more) h =
    first_none (bytes_eq f.name.text q) f (map (λ (c : ClassDecl). if_so (bytes_eq c.name.text q) c) (filter_map class_at more)) (cond_none (bytes_eq f.name.text q) (t.a_class f) (find (has_name q) more) h).0
    (no_class q more (cond_none (bytes_eq f.name.text q) (t.a_class f) (find (has_name q) more) h).1)
no_class q (t.a_variable c ∷ more) h = no_class q more (cond_none (bytes_eq c.name.text q) (t.a_variable c) (find (has_name q) more) h).1
no_class q (t.a_function v ∷ more) h = no_class q more (cond_none (bytes_eq v.name.text q) (t.a_function v) (find (has_name q) more) h).1

none_is : {A : Type 0} (o : Option A) → is_some o ≡ false → o ≡ None
none_is None h = refl
none_is (Some x) h = absurd cc

pub made_of : (b : Bool) (o : Option ClassDecl) (x : Bool) → b ≡ false → o ≡ None → (b || is_some o && x) ≡ false
made_of true o x h k = absurd cc
made_of false None x h k = refl
made_of false (Some c) x h k = absurd cc

pub record Unknown (tree : Tree) (name : Text) : Type 0 where
  pub function : num.function_number tree name ≡ None
  pub variable : is_some (variable_place tree name) ≡ false
  pub class : is_constructed tree name ≡ false
  pub print : bytes_eq name (codes "print") ≡ false

pub unknown : (tree : Tree) (name : Text) → is_top tree name ≡ false → Unknown tree name
unknown tree name h =
    let parts : (is_some (top_named tree name) ≡ false) × (is_built_in name ≡ false) = or_false (is_some (top_named tree name)) (is_built_in name) h in
    let none : top_named tree name ≡ None = none_is (top_named tree name) parts.0 in
    let outer : (list_any (bytes_eq name) built_in_names ≡ false) × (bytes_eq print_name name ≡ false) = or_false (list_any (bytes_eq name) built_in_names) (bytes_eq print_name name) parts.1 in
    record {
      function = position_from-zero (λ (f : t.Function). bytes_eq f.name.text name) (functions tree) ∙ no_function name tree.tops 0 none;
      variable = ap is_some (position_from-zero (λ (v : Local). bytes_eq v.name.text name) (variables tree) ∙ no_variable name tree.tops 0 none);
      class = made_of (bytes_eq name object) (class_named tree name) (not (is_abstract tree name)) (or_false (bytes_eq name object) _ outer.0).0 (no_class name tree.tops none);
      print = bytes_back print_name name outer.1;
    }

-- ---- variables

pub variable_is : (o : Option Top) → is_variable (static_of o) ≡ true → (v : Local) × (o ≡ Some (t.a_variable v))
variable_is None h = absurd cc
variable_is (Some (t.a_class c)) h = absurd cc
variable_is (Some (t.a_function f)) h = absurd cc
variable_is (Some (t.a_variable v)) h = (v, refl)

-- ---- names that are called

module _ (tree : Tree) (p : Parts) (here : Option Text) (me : Option ℕ) (answers : Bool) (n : Name) (k : ℕ) where
  abbrev FineBy : Option ℕ → Bool → Bool → Type 0
  FineBy f is_class is_print = FineCall tree p here me answers false f is_class is_print n k

  fine_print : (f : Option ℕ) (is_class is_print : Bool) → f ≡ None → is_class ≡ false → is_print ≡ true → k ≡ 1 → FineBy f is_class is_print
  fine_print None false true a b d e = e
  fine_print None false false a b d e = absurd cc
  fine_print None true is_print a b d e = absurd cc
  fine_print (Some i) is_class is_print a b d e = absurd cc

  fine_made : (f : Option ℕ) (is_class is_print : Bool) → f ≡ None → is_class ≡ true → IsTrue (is_open (class_number tree n.text)) × MakeAccepts k (slice_get p.classes (class_number tree n.text)) → FineBy f is_class is_print
  fine_made None true is_print a b e = e
  fine_made None false is_print a b e = absurd cc
  fine_made (Some i) is_class is_print a b e = absurd cc

  pub fine_this : (f : Option ℕ) (is_class is_print : Bool) → f ≡ None → is_class ≡ false → is_print ≡ false → AsksThis tree p here me answers (reading n.span.start) (calling n.text k) → FineBy f is_class is_print
  fine_this None false false a b d e = e
  fine_this None false true a b d e = absurd cc
  fine_this None true is_print a b d e = absurd cc
  fine_this (Some i) is_class is_print a b d e = absurd cc

  same_number : (x : ℕ) → differs k (Some x) ≡ false → k ≡ x
  same_number x h = grind (arith, nat_tests, not_false (nat_eq k x) h)

  abbrev Here : Type 0
  Here = FineBy (num.function_number tree n.text) (is_constructed tree n.text) (bytes_eq n.text (codes "print"))

  made_here : (count : ℕ) → k ≡ count → Makes tree p n.text count → Here
  made_here count e (f, made, is_class, accepts) =
      fine_made (num.function_number tree n.text) (is_constructed tree n.text) (bytes_eq n.text (codes "print")) f made
      (is_class, subst (λ i. MakeAccepts i (slice_get p.classes (class_number tree n.text))) (sym e) accepts)

  built_in : (tables : Tables tree p) → top_named tree n.text ≡ None → (a b : Bool) → bytes_eq n.text print_name ≡ a → bytes_eq n.text object ≡ b → (not a && not b) ≡ false → differs k (Some (if a then 1 else 0)) ≡ false → Here
  built_in tables none true b is_print is_object h d =
      let same : n.text ≡ print_name = (bytes_eq-Decides n.text print_name).0 is_print in
      fine_print (num.function_number tree n.text) (is_constructed tree n.text) (bytes_eq n.text (codes "print")) (ap (num.function_number tree) same ∙ tables.print.0) (ap (is_constructed tree) same ∙ tables.print.1) is_print (same_number 1 d)
  built_in tables none false true is_print is_object h d =
      let same : n.text ≡ object = (bytes_eq-Decides n.text object).0 is_object in
      made_here 0 (same_number 0 d) (subst (λ x. Makes tree p x 0) (sym same) (tables.makes_object (subst (λ x. top_named tree x ≡ None) same none)))
  built_in tables none false false is_print is_object h d = absurd cc

  pub fine_top : (tables : Tables tree p) (o : Option Top) → top_named tree n.text ≡ o → is_variable (static_of o) ≡ false → is_unmade n.text (static_of o) ≡ false → differs k (static_count tree n.text (static_of o)) ≡ false → Here
  fine_top tables (Some (t.a_variable v)) e torn made d = absurd cc
  fine_top tables (Some (t.a_function f)) e torn made d =
      called (tables.functions n.text f e) where
        called : (i : ℕ) × (num.function_number tree n.text ≡ Some i) × FunctionAccepts (length f.params) (slice_get p.functions i) → Here
        called (i, at, accepts) =
            subst (λ o. FineBy o (is_constructed tree n.text) (bytes_eq n.text (codes "print"))) (sym at) (subst (λ x. FunctionAccepts x (slice_get p.functions i)) (sym (same_number (length f.params) d)) accepts)
  fine_top tables (Some (t.a_class c)) e torn made d = made_here (constructor_count tree n.text) (same_number (constructor_count tree n.text) d) (tables.makes n.text c e made)
  fine_top tables None e torn made d = built_in tables e (bytes_eq n.text print_name) (bytes_eq n.text object) refl refl made d
