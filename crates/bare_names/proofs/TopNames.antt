-- What the text declares by a name, as the run finds it.
use Rattle.std.proofs.Common.{◌≡◌, ℕ, ◌+◌, Bool, true, false, not, cond, ◌&&◌, ◌||◌, List, [], ◌∷◌, map, find, filter_map, refl, ap, ◌∙◌, codes}
use Rattle.std.specs.Prelude.{Option, Some, None, is_some, unwrap_or, if◌then◌else◌}
use Rattle.std.specs.Option.{option_map}
use Rattle.std.specs.List.{position_from}
use Rattle.std.specs.Str.{bytes_eq}
use Rattle.std.proofs.lemmas.Iterator.Adapters.{position_from-zero}
use Rattle.dart_syntax.specs.declared.tree.Name.{Name}
use Rattle.dart_syntax.specs.Syntax as t
use Rattle.dart_syntax.specs.Syntax.{Tree, Top, Local, ClassDecl}
use Rattle.dart_values.specs.Values.{Text, Value}
use Rattle.dart_meaning.specs.Place.{Place}
use Rattle.dart_meaning.specs.Program.{Entry}
use Rattle.dart_meaning.specs.Run.{M, choose}
use Rattle.dart_meaning.specs.Classes.{Code, class_at, class_declares, class_named, first_some, function_at, function_named, if_so, is_abstract, is_constructed, object, variable_at, variable_place, variables}
use Rattle.dart_meaning.specs.Meaning.{Bound, Owner, of_this, of_unit, call_this, call_unit}
use Rattle.dart_meaning.specs.Means.{is_built_in, is_top, print_name, top_named}
use Rattle.static_rules.specs.AbstractMade.{is_unmade}
use Rattle.static_rules.specs.Statics.{is_variable, static_of}
use Rattle.accepted_trees.proofs.bodies.StaticNames.{has_name, cond_none, or_false, unknown}
use Rattle.bare_names.specs.Owners.{CallsItsCallee, is_callable}

-- ---- the first declaration of a name, among those of its kind

skip : (b : Bool) (top want : Top) (rest : Option Top) → (top ≡ want → ⊥) → cond b (Some top) rest ≡ Some want → rest ≡ Some want
skip true top want rest apart e = absurd (apart cc)
skip false top want rest apart e = e

abbrev functions_of : Text → List Top → List (Option t.Function)
functions_of q tops = map (λ (f : t.Function). if_so (bytes_eq f.name.text q) f) (filter_map function_at tops)

abbrev classes_of : Text → List Top → List (Option ClassDecl)
classes_of q tops = map (λ (c : ClassDecl). if_so (bytes_eq c.name.text q) c) (filter_map class_at tops)

abbrev variable_of : Text → Local → Bool
variable_of q v = bytes_eq v.name.text q

function_step : (b : Bool) (g f : t.Function) (rest : Option Top) (more : List (Option t.Function)) → cond b (Some (t.a_function g)) rest ≡ Some (t.a_function f)
    → (rest ≡ Some (t.a_function f) → is_some (first_some more) ≡ true) → is_some (first_some (if_so b g ∷ more)) ≡ true
function_step true g f rest more e h = refl
function_step false g f rest more e h = h e

function_there : (q : Text) (f : t.Function) (tops : List Top) → find (has_name q) tops ≡ Some (t.a_function f) → is_some (first_some (functions_of q tops)) ≡ true
function_there q f [] e = absurd cc
function_there q f (t.a_function g ∷ more) e = function_step (bytes_eq g.name.text q) g f (find (has_name q) more) (functions_of q more) e (λ h. function_there q f more h)
function_there q f (t.a_class c ∷ more) e = function_there q f more (skip (bytes_eq c.name.text q) (t.a_class c) (t.a_function f) (find (has_name q) more) (λ h. absurd cc) e)
function_there q f (t.a_variable v ∷ more) e = function_there q f more (skip (bytes_eq v.name.text q) (t.a_variable v) (t.a_function f) (find (has_name q) more) (λ h. absurd cc) e)

class_step : (b : Bool) (d c : ClassDecl) (rest : Option Top) (more : List (Option ClassDecl)) → cond b (Some (t.a_class d)) rest ≡ Some (t.a_class c)
    → (rest ≡ Some (t.a_class c) → first_some more ≡ Some c) → first_some (if_so b d ∷ more) ≡ Some c
class_step true d c rest more e h = let same : d ≡ c = cc in ap Some same
class_step false d c rest more e h = h e

class_there : (q : Text) (c : ClassDecl) (tops : List Top) → find (has_name q) tops ≡ Some (t.a_class c) → first_some (classes_of q tops) ≡ Some c
class_there q c [] e = absurd cc
class_there q c (t.a_class d ∷ more) e = class_step (bytes_eq d.name.text q) d c (find (has_name q) more) (classes_of q more) e (λ h. class_there q c more h)
class_there q c (t.a_function f ∷ more) e = class_there q c more (skip (bytes_eq f.name.text q) (t.a_function f) (t.a_class c) (find (has_name q) more) (λ h. absurd cc) e)
class_there q c (t.a_variable v ∷ more) e = class_there q c more (skip (bytes_eq v.name.text q) (t.a_variable v) (t.a_class c) (find (has_name q) more) (λ h. absurd cc) e)

variable_step : (b : Bool) (w v : Local) (rest : Option Top) (n : ℕ) (o : Option ℕ) → cond b (Some (t.a_variable w)) rest ≡ Some (t.a_variable v)
    → (rest ≡ Some (t.a_variable v) → is_some o ≡ true) → is_some (cond b (Some n) o) ≡ true
variable_step true w v rest n o e h = refl
variable_step false w v rest n o e h = h e

variable_there : (q : Text) (v : Local) (tops : List Top) (n : ℕ) → find (has_name q) tops ≡ Some (t.a_variable v) → is_some (position_from (variable_of q) n (filter_map variable_at tops)) ≡ true
variable_there q v [] n e = absurd cc
variable_there q v (t.a_variable w ∷ more) n e =
    variable_step (bytes_eq w.name.text q) w v (find (has_name q) more) n (position_from (variable_of q) (n + 1) (filter_map variable_at more)) e (λ h. variable_there q v more (n + 1) h)
variable_there q v (t.a_class c ∷ more) n e = variable_there q v more n (skip (bytes_eq c.name.text q) (t.a_class c) (t.a_variable v) (find (has_name q) more) (λ h. absurd cc) e)
variable_there q v (t.a_function f ∷ more) n e = variable_there q v more n (skip (bytes_eq f.name.text q) (t.a_function f) (t.a_variable v) (find (has_name q) more) (λ h. absurd cc) e)

pub variable_is_there : (tree : Tree) (name : Text) (v : Local) → top_named tree name ≡ Some (t.a_variable v) → is_some (variable_place tree name) ≡ true
variable_is_there tree name v e = ap is_some (position_from-zero (variable_of name) (variables tree)) ∙ variable_there name v tree.tops 0 e

none_step : {A : Type 0} (b : Bool) (x : A) (more : List (Option A)) → b ≡ false → first_some more ≡ None → first_some (if_so b x ∷ more) ≡ None
none_step true x more h k = absurd cc
none_step false x more h k = k

no_function : (q : Text) (tops : List Top) → find (has_name q) tops ≡ None → first_some (functions_of q tops) ≡ None
no_function q [] h = refl
no_function q (t.a_function f ∷ more) h =
    none_step (bytes_eq f.name.text q) f (functions_of q more) (cond_none (bytes_eq f.name.text q) (t.a_function f) (find (has_name q) more) h).0
    (no_function q more (cond_none (bytes_eq f.name.text q) (t.a_function f) (find (has_name q) more) h).1)
no_function q (t.a_class c ∷ more) h = no_function q more (cond_none (bytes_eq c.name.text q) (t.a_class c) (find (has_name q) more) h).1
no_function q (t.a_variable v ∷ more) h = no_function q more (cond_none (bytes_eq v.name.text q) (t.a_variable v) (find (has_name q) more) h).1

-- ---- what can be called

or_right : (a b : Bool) → b ≡ true → (a || b) ≡ true
or_right true b h = refl
or_right false b h = h

or_left : (a b : Bool) → a ≡ true → (a || b) ≡ true
or_left true b h = refl
or_left false b h = absurd cc

made : (b : Bool) (o : Option ClassDecl) (c : ClassDecl) → o ≡ Some c → c.is_abstract ≡ false → (b || is_some o && not (unwrap_or (option_map (λ (k : ClassDecl). k.is_abstract) o) false)) ≡ true
made true o c e h = refl
made false None c e h = absurd cc
made false (Some d) c e h = let same : d ≡ c = cc in ap not (ap (λ (k : ClassDecl). k.is_abstract) same ∙ h)

built_in : (f object_is other print_is : Bool) → (not print_is && not object_is) ≡ false → (f || ((object_is || other) || print_is)) ≡ true
built_in true a b c h = refl
built_in false true b c h = refl
built_in false false true c h = refl
built_in false false false true h = refl
built_in false false false false h = absurd cc

pub callable : (tree : Tree) (name : Text) (o : Option Top) → top_named tree name ≡ o → is_variable (static_of o) ≡ false → is_unmade name (static_of o) ≡ false → is_callable tree name ≡ true
callable tree name (Some (t.a_variable v)) e torn unmade = absurd cc
callable tree name (Some (t.a_function f)) e torn unmade =
    or_left (is_some (function_named tree name)) (is_constructed tree name || bytes_eq name print_name) (function_there name f tree.tops e)
callable tree name (Some (t.a_class c)) e torn unmade =
    or_right (is_some (function_named tree name)) (is_constructed tree name || bytes_eq name print_name)
    (or_left (is_constructed tree name) (bytes_eq name print_name) (made (bytes_eq name object) (class_named tree name) c (class_there name c tree.tops e) unmade))
callable tree name None e torn unmade =
    built_in (is_some (function_named tree name)) (bytes_eq name object) (is_some (class_named tree name) && not (is_abstract tree name)) (bytes_eq name print_name) unmade

none_is : {A : Type 0} (o : Option A) → is_some o ≡ false → o ≡ None
none_is None h = refl
none_is (Some x) h = absurd cc

all_false : (a b c : Bool) → a ≡ false → b ≡ false → c ≡ false → (a || (b || c)) ≡ false
all_false false false false e f g = refl
all_false false false true e f g = absurd cc
all_false false true c e f g = absurd cc
all_false true b c e f g = absurd cc

pub not_callable : (tree : Tree) (name : Text) → is_top tree name ≡ false → is_callable tree name ≡ false
not_callable tree name h =
    let none : top_named tree name ≡ None = none_is (top_named tree name) (or_false (is_some (top_named tree name)) (is_built_in name) h).0 in
    let nothing = unknown tree name h in
    all_false (is_some (function_named tree name)) (is_constructed tree name) (bytes_eq name print_name) (ap is_some (no_function name tree.tops none)) nothing.class nothing.print

-- ---- what a bare call calls

abbrev callee_by : Bool → Bool → Owner
callee_by declares callable = if declares then of_this else (if callable then of_unit else of_this)

no_unit : (f : Option t.Function) (made shown : Bool) → callee_by false (is_some f || (made || shown)) ≡ of_this → (f ≡ None) × (made ≡ false) × (shown ≡ false)
no_unit (Some f) made shown e = absurd cc
no_unit None true shown e = absurd cc
no_unit None false true e = absurd cc
no_unit None false false e = (refl, refl, refl)

module _ (tree : Tree) (site_of : Place → ℕ) (here : Option Text) (enter : Entry Code → M Bound Value) (n : Name) (k : ℕ) (args : M Bound (List Value)) where
  abbrev this_call : M Bound Value
  this_call = call_this tree site_of here enter n k args

  abbrev unit_call : Option t.Function → M Bound Value
  unit_call f = call_unit tree site_of here enter n k args f

  unit_is_this : (f : Option t.Function) → f ≡ None → is_constructed tree n.text ≡ false → bytes_eq n.text (codes "print") ≡ false → unit_call f ≡ this_call
  unit_is_this (Some f) e made shown = absurd cc
  unit_is_this None e made shown = rw (made, shown) refl

  to_this : (declares : Bool) → callee_by declares (is_callable tree n.text) ≡ of_this → choose declares this_call (unit_call (function_named tree n.text)) ≡ this_call
  to_this true e = refl
  to_this false e =
      let none = no_unit (function_named tree n.text) (is_constructed tree n.text) (bytes_eq n.text (codes "print")) e in
      unit_is_this (function_named tree n.text) none.0 none.1 none.2

  to_unit : (declares : Bool) → callee_by declares (is_callable tree n.text) ≡ of_unit → choose declares this_call (unit_call (function_named tree n.text)) ≡ unit_call (function_named tree n.text)
  to_unit true e = absurd cc
  to_unit false e = refl

pub calls_its_callee : CallsItsCallee
calls_its_callee tree site_of here enter n k args = (to_this tree site_of here enter n k args (class_declares tree here n.text), to_unit tree site_of here enter n k args (class_declares tree here n.text))
