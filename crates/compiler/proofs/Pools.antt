-- The pool of the units of functions, constructors and members is the code of the program.
use Rattle.std.proofs.Common.{◌≡◌, ℕ, zero, suc, ◌+◌, ◌-◌, ◌<◌, ◌≤◌, Bool, true, false, List, [], ◌∷◌, ◌++◌, length, map, drop, refl, sym, ◌∙◌, ap, subst, arith}
use Rattle.std.specs.Prelude.{slice_get, Option, Some, None, nat_eq}
use Rattle.std.proofs.lemmas.Option.{slice_get_within}
use Rattle.program.specs.declared.ids.UnitId.{UnitId}
use Rattle.program.specs.declared.ids.SelectorId.{SelectorId}
use Rattle.program.specs.declared.literal.Literal.{Literal}
use Rattle.program.specs.declared.numbered.Class.{Class}
use Rattle.program.specs.declared.numbered.Function.{Function}
use Rattle.program.specs.declared.numbered.Method.{Method}
use Rattle.program.specs.declared.numbered.MethodBody as program_body
use Rattle.program.specs.declared.numbered.MethodBody.TheVariants as does
use Rattle.program.specs.Parts.{Parts}
use Rattle.dart_meaning.specs.Numbered as n
use Rattle.code_unit.specs.declared.unit.Unit as declared_unit
use Rattle.code_pool.specs.declared.pool.MethodBody as pool_body
use Rattle.code_pool.specs.Pool.{Pool}
use Rattle.program_code.specs.IsCode.{HasCode, IsCode, HasUnit, MethodCode, LiteralsThere, BodyCode, ConstructorCode, ListCode, unit_id, selector_of}
use Rattle.code_writer.specs.declared.layout.Layout.{Layout}
use Rattle.code_writer.specs.Constants.{number_in}
use Rattle.code_writer.specs.Laws.{IsLayout}
use Rattle.compiler.specs.Units.{IsBodyUnit, IsConstructorUnit, IsListUnit, HasListLiterals, Grows, HasItem, Built, FunctionHas, ClassHas, MemberHas, MethodHas}
use Rattle.compiler.proofs.Growing.{get_front, grows_on, grows_self, function_grows, class_grows}

append_nothing : {A : Type 0} (xs : List A) → xs ++ [] ≡ xs
append_nothing [] = refl
append_nothing (x ∷ xs) = ap (λ ys. x ∷ ys) (append_nothing xs)

get_in_front : {A : Type 0} (xs ys : List A) (i : ℕ) → i < length xs → slice_get (xs ++ ys) i ≡ slice_get xs i
get_in_front [] ys i h = absurd (omega (arith, h))
get_in_front (x ∷ xs) ys zero h = refl
get_in_front (x ∷ xs) ys (suc i) h = get_in_front xs ys i (omega (arith, h))

pub get_behind : {A : Type 0} (xs ys : List A) (i : ℕ) → slice_get (xs ++ ys) (length xs + i) ≡ slice_get ys i
get_behind [] ys i = let e : 0 + i ≡ i = omega arith in ap (slice_get ys) e
get_behind (x ∷ xs) ys i = let e : suc (length xs) + i ≡ suc (length xs + i) = omega arith in ap (slice_get (x ∷ (xs ++ ys))) e ∙ get_behind xs ys i

pub get_some : {A : Type 0} (xs : List A) (i : ℕ) → i < length xs → (x : A) × (slice_get xs i ≡ Some x)
get_some [] i h = absurd (omega (arith, h))
get_some (x ∷ xs) zero h = (x, refl)
get_some (x ∷ xs) (suc i) h = get_some xs i (omega (arith, h))

pub get_dropped : {A : Type 0} (m : ℕ) (xs : List A) (i : ℕ) → slice_get (drop m xs) i ≡ slice_get xs (m + i)
get_dropped zero xs i = let e : i ≡ 0 + i = omega arith in ap (slice_get xs) e
get_dropped (suc m) [] i = refl
get_dropped (suc m) (x ∷ xs) i = let e : suc (m + i) ≡ suc m + i = omega arith in get_dropped m xs i ∙ ap (slice_get (x ∷ xs)) e

module _ (p : Parts) (base : Layout) (is_layout : IsLayout p base) (list_site : ℕ) (site_is : list_site ≡ length p.sites - 1)
    (us1 us2 us3 us4 : List declared_unit.Unit) (ts1 ts2 ts3 ts4 : List Literal) (entries constructors : List UnitId) (text : UnitId) (methods : List pool_body.MethodBody) (pool : Pool)
    (functions_built : Built (FunctionHas base us1 ts1) p.functions (length p.functions) entries)
    (grows1 : Grows us1 ts1 us2 ts2)
    (classes_built : Built (ClassHas base us2 ts2) (drop 7 p.classes) (length (drop 7 p.classes)) constructors)
    (grows2 : Grows us2 ts2 us3 ts3)
    (text_has : HasItem us3 text (IsListUnit list_site ts3))
    (grows3 : Grows us3 ts3 us4 ts4)
    (methods_built : Built (MethodHas base us4 ts4 text) p.methods (length p.methods) methods)
    (units_are : pool.units ≡ us4) (constants_are : pool.constants ≡ ts4) (statics_are : pool.statics ≡ entries ++ constructors)
    (sites_are : pool.sites ≡ map selector_of p.sites) (entries_are : pool.entries ≡ entries) (methods_are : pool.methods ≡ methods) where
  abbrev constant : Literal → ℕ
  constant = number_in pool.constants

  -- the constants of the end, with none to come
  all_here : ts4 ++ [] ≡ pool.constants
  all_here = append_nothing ts4 ∙ sym constants_are

  there4 : (id : UnitId) (u : declared_unit.Unit) → slice_get us4 id.0 ≡ Some u → slice_get pool.units id.0 ≡ Some u
  there4 id u e = ap (λ us. slice_get us id.0) units_are ∙ e

  has_body : (of_this : Bool) (b : _) (required : ℕ) (defaults : List Literal) (id : UnitId) → HasItem us4 id (IsBodyUnit base ts4 of_this b required defaults)
      → HasUnit p pool constant id.0 (BodyCode p pool.constants constant of_this b required defaults)
  has_body of_this b required defaults id h = record {
    unit = h.unit;
    there = there4 id h.unit h.there;
    is = subst (λ all. BodyCode p all (number_in all) of_this b required defaults h.unit) all_here (h.is p is_layout []);
  }

  functions_there : (g : ℕ) (k : Function) → slice_get p.functions g ≡ Some k
      → (u : ℕ) × (slice_get pool.statics g ≡ Some (unit_id u)) × HasUnit p pool constant u (BodyCode p pool.constants constant false k.body k.required k.defaults)
  functions_there g k there =
      let f = functions_built.each g k (slice_get_within p.functions g k there) there in
      let h = function_grows base (grows_on grows1 (grows_on grows2 grows3)) k f.0 f.2 in
      (f.0.0, ap (λ xs. slice_get xs g) statics_are ∙ get_front entries constructors g f.0 f.1, has_body false k.body k.required k.defaults f.0 h)

  entries_there : (g : ℕ) → g < length p.functions → slice_get pool.entries g ≡ slice_get pool.statics g
  entries_there g h =
      ap (λ xs. slice_get xs g) entries_are ∙ sym (get_in_front entries constructors g (omega (arith, h, functions_built.as_many))) ∙ ap (λ xs. slice_get xs g) (sym statics_are)

  constructor_at : (class : ℕ) → 7 ≤ class → (k : Class) → slice_get p.classes class ≡ Some k
      → (u : ℕ) × (slice_get pool.statics (length p.functions + (class - 7)) ≡ Some (unit_id u)) × HasUnit p pool constant u (ConstructorCode p pool.constants constant class (n.constructor_of p class))
  constructor_at class big k there =
      let e : 7 + (class - 7) ≡ class = omega (arith, big) in
      let dropped : slice_get (drop 7 p.classes) (class - 7) ≡ Some k = get_dropped 7 p.classes (class - 7) ∙ ap (slice_get p.classes) e ∙ there in
      let f = classes_built.each (class - 7) k (slice_get_within (drop 7 p.classes) (class - 7) k dropped) dropped in
      let h = class_grows base (grows_on grows2 grows3) k f.0 f.2 in (
        f.0.0,
        ap (λ xs. slice_get xs (length p.functions + (class - 7))) statics_are
            ∙ ap (λ i. slice_get (entries ++ constructors) (i + (class - 7))) (sym functions_built.as_many)
            ∙ get_behind entries constructors (class - 7) ∙ f.1,
        record {
          unit = h.unit;
          there = there4 f.0 h.unit h.there;
          is = subst (λ all. ConstructorCode p all (number_in all) class (n.constructor_of p class) h.unit) all_here (h.is p is_layout [] class there);
        },
      )

  list_literals : HasListLiterals pool.constants
  list_literals = subst HasListLiterals (sym grows3.begins ∙ sym constants_are) (text_has.is p site_is grows3.more).1

  list_there : HasUnit p pool constant text.0 (ListCode p pool.constants constant)
  list_there = record {
    unit = text_has.unit;
    there = there4 text text_has.unit (ap (λ us. slice_get us text.0) grows3.units_are ∙ get_front us3 grows3.more_units text.0 text_has.unit text_has.there);
    is = subst (λ all. ListCode p all (number_in all) text_has.unit) (sym grows3.begins ∙ sym constants_are) (text_has.is p site_is grows3.more).0;
  }

  member_is : (m : ℕ) (k : Method) (b : program_body.MethodBody) (r : pool_body.MethodBody) → slice_get pool.methods m ≡ Some r → MemberHas base us4 ts4 text b k r → MethodCode p pool constant m k b
  member_is m k (does.Native x) r there h = ((λ e. there ∙ ap Some (h.0 e)), (λ e. (text.0, there ∙ ap Some (h.1 e), list_there)))
  member_is m k (does.ReadField field) r there h = there ∙ ap Some h
  member_is m k (does.WriteField field) r there h = there ∙ ap Some h
  member_is m k (does.Code b) r there h = (h.0.0, there ∙ ap Some h.1, has_body true b k.required k.defaults h.0 h.2)

  methods_there : (m : ℕ) (k : Method) → slice_get p.methods m ≡ Some k → MethodCode p pool constant m k k.body
  methods_there m k there =
      let f = methods_built.each m k (slice_get_within p.methods m k there) there in
      member_is m k k.body f.0 (ap (λ xs. slice_get xs m) methods_are ∙ f.1) f.2

  pub pool_is_code : HasCode p pool
  pool_is_code = record {
    constant = constant;
    is_code = record {
      literals_there = record {
        null = list_literals.null;
        open_bracket = list_literals.open_bracket;
        zero = list_literals.zero;
        no_text = list_literals.no_text;
        comma = list_literals.comma;
        close_bracket = list_literals.close_bracket;
      };
      sites = sites_are;
      functions = functions_there;
      entries = entries_there;
      methods = methods_there;
      constructors = λ class big small. let k = get_some p.classes class small in constructor_at class big k.0 k.1;
    };
  }
