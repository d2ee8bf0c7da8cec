-- Units and constants that grow keep what is known of those that are there.
use Rattle.std.proofs.Common.{◌≡◌, ℕ, zero, suc, ◌+◌, ◌<◌, Bool, true, false, List, [], ◌∷◌, ◌++◌, length, refl, sym, ◌∙◌, ap, subst, arith}
use Rattle.std.specs.Prelude.{slice_get, Option, Some, None, unwrap_or, nat_lt}
use Rattle.std.proofs.lemmas.Bool.Decides.{nat_tests}
use Rattle.std.proofs.lemmas.List.{append_assoc, length-append}
use Rattle.program.specs.declared.ids.UnitId.{UnitId}
use Rattle.program.specs.declared.literal.Literal.{Literal}
use Rattle.program.specs.declared.body.Body.{Body}
use Rattle.program.specs.declared.numbered.Class.{Class}
use Rattle.program.specs.declared.numbered.Function.{Function}
use Rattle.program.specs.declared.numbered.Method.{Method}
use Rattle.program.specs.declared.numbered.MethodBody as program_body
use Rattle.program.specs.declared.numbered.MethodBody.TheVariants as does
use Rattle.program.specs.Parts.{Parts}
use Rattle.dart_meaning.specs.Numbered as n
use Rattle.code_unit.specs.declared.unit.Unit as declared_unit
use Rattle.code_pool.specs.declared.pool.MethodBody as pool_body
use Rattle.program_code.specs.IsCode.{BodyCode, ConstructorCode}
use Rattle.code_writer.specs.declared.layout.Layout.{Layout}
use Rattle.code_writer.specs.Constants.{number_in}
use Rattle.code_writer.specs.Laws.{IsLayout}
use Rattle.compiler.specs.Units.{IsBodyUnit, IsConstructorUnit, Grows, HasItem, Built, FunctionHas, ClassHas, MemberHas, MethodHas, BeginsWith}

append_nothing : {A : Type 0} (xs : List A) → xs ++ [] ≡ xs
append_nothing [] = refl
append_nothing (x ∷ xs) = ap (λ ys. x ∷ ys) (append_nothing xs)

pub get_front : {A : Type 0} (xs ys : List A) (i : ℕ) (x : A) → slice_get xs i ≡ Some x → slice_get (xs ++ ys) i ≡ Some x
get_front [] ys i x e = absurd (cc)
get_front (y ∷ xs) ys zero x e = e
get_front (y ∷ xs) ys (suc i) x e = get_front xs ys i x e

pub get_last : {A : Type 0} (xs : List A) (x : A) → slice_get (xs ++ x ∷ []) (length xs) ≡ Some x
get_last [] x = refl
get_last (y ∷ xs) x = get_last xs x

pub grows_self : (us : List declared_unit.Unit) (ts : List Literal) → Grows us ts us ts
grows_self us ts = record { more_units = []; units_are = sym (append_nothing us); more = []; begins = sym (append_nothing ts) }

pub grows_on : {us vs ws : List declared_unit.Unit} {ts ss rs : List Literal} → Grows us ts vs ss → Grows vs ss ws rs → Grows us ts ws rs
grows_on {us} {vs} {ws} {ts} a b = record {
  more_units = a.more_units ++ b.more_units;
  units_are = b.units_are ∙ ap (λ xs. xs ++ b.more_units) a.units_are ∙ append_assoc us a.more_units b.more_units;
  more = a.more ++ b.more;
  begins = b.begins ∙ ap (λ xs. xs ++ b.more) a.begins ∙ append_assoc ts a.more b.more;
}

-- one more unit, and the constants that it brought
pub grows_by : (us vs : List declared_unit.Unit) (u : declared_unit.Unit) (ts ss : List Literal) → vs ≡ us ++ u ∷ [] → BeginsWith ts ss → Grows us ts vs ss
grows_by us vs u ts ss e b = record { more_units = u ∷ []; units_are = e; more = b.more; begins = b.is }

-- the unit that was added last
pub item_last : (us vs : List declared_unit.Unit) (u : declared_unit.Unit) (id : UnitId) (P : declared_unit.Unit → Type 0) → vs ≡ us ++ u ∷ [] → id.0 ≡ length us → P u → HasItem vs id P
item_last us vs u id P e n h = record { unit = u; there = ap (λ xs. slice_get xs id.0) e ∙ ap (slice_get (us ++ u ∷ [])) n ∙ get_last us u; is = h }

module _ (base : Layout) where
  -- what comes later is read in parts
  later : (ts ss m more : List Literal) → ss ≡ ts ++ m → ts ++ (m ++ more) ≡ ss ++ more
  later ts ss m more e = sym (append_assoc ts m more) ∙ ap (λ xs. xs ++ more) (sym e)

  body_grows : (ts ss m : List Literal) → ss ≡ ts ++ m → (of_this : Bool) (b : Body) (required : ℕ) (defaults : List Literal) (u : declared_unit.Unit)
      → IsBodyUnit base ts of_this b required defaults u → IsBodyUnit base ss of_this b required defaults u
  body_grows ts ss m e of_this b required defaults u f = λ p h more.
      subst (λ all. BodyCode p all (number_in all) of_this b required defaults u) (later ts ss m more e) (f p h (m ++ more))

  constructor_grows : (ts ss m : List Literal) → ss ≡ ts ++ m → (k : Class) (u : declared_unit.Unit) → IsConstructorUnit base ts k u → IsConstructorUnit base ss k u
  constructor_grows ts ss m e k u f = λ p h more class there.
      subst (λ all. ConstructorCode p all (number_in all) class (n.constructor_of p class) u) (later ts ss m more e) (f p h (m ++ more) class there)

  pub item_grows : {us vs : List declared_unit.Unit} {ts ss : List Literal} → Grows us ts vs ss → (id : UnitId) (P Q : declared_unit.Unit → Type 0) → ((u : declared_unit.Unit) → P u → Q u) → HasItem us id P → HasItem vs id Q
  item_grows {us} {vs} g id P Q f h = record {
    unit = h.unit;
    there = ap (λ xs. slice_get xs id.0) g.units_are ∙ get_front us g.more_units id.0 h.unit h.there;
    is = f h.unit h.is;
  }

  pub function_grows : {us vs : List declared_unit.Unit} {ts ss : List Literal} → Grows us ts vs ss → (k : Function) (id : UnitId) → FunctionHas base us ts k id → FunctionHas base vs ss k id
  function_grows {us} {vs} {ts} {ss} g k id = item_grows g id _ _ (λ u. body_grows ts ss g.more g.begins false k.body k.required k.defaults u)

  pub class_grows : {us vs : List declared_unit.Unit} {ts ss : List Literal} → Grows us ts vs ss → (k : Class) (id : UnitId) → ClassHas base us ts k id → ClassHas base vs ss k id
  class_grows {us} {vs} {ts} {ss} g k id = item_grows g id _ _ (λ u. constructor_grows ts ss g.more g.begins k u)

  member_grows : {us vs : List declared_unit.Unit} {ts ss : List Literal} → Grows us ts vs ss → (text : UnitId) (b : program_body.MethodBody) (k : Method) (r : pool_body.MethodBody) → MemberHas base us ts text b k r → MemberHas base vs ss text b k r
  member_grows g text (does.Native x) k r h = h
  member_grows g text (does.ReadField field) k r h = h
  member_grows g text (does.WriteField field) k r h = h
  member_grows {us} {vs} {ts} {ss} g text (does.Code b) k r h =
      (h.0, h.1, item_grows g h.0 _ _ (λ u. body_grows ts ss g.more g.begins true b k.required k.defaults u) h.2)

  pub method_grows : {us vs : List declared_unit.Unit} {ts ss : List Literal} → Grows us ts vs ss → (text : UnitId) (k : Method) (r : pool_body.MethodBody) → MethodHas base us ts text k r → MethodHas base vs ss text k r
  method_grows g text k r h = member_grows g text k.body k r h

pub built_none : {A B : Type 0} (P : A → B → Type 0) (sources : List A) → Built P sources 0 []
built_none P sources = record { as_many = refl; each = λ g k small there. absurd (omega (arith, small)) }

-- One more source has its answer, and those before keep theirs.
module _ {A B : Type 0} (P Q : A → B → Type 0) (keep : (k : A) (r : B) → P k r → Q k r) (sources : List A) (i : ℕ) (k : A) (answers : List B) (r : B) (there : slice_get sources i ≡ Some k) (has : Q k r)
    (built : Built P sources i answers) where
  each_next : (g : ℕ) (x : A) → g < i + 1 → slice_get sources g ≡ Some x → (b : Bool) → nat_lt g i ≡ b → (y : B) × (slice_get (answers ++ r ∷ []) g ≡ Some y) × Q x y
  each_next g x small is true e =
      let old = built.each g x (grind (arith, nat_tests)) is in
      (old.0, get_front answers (r ∷ []) g old.0 old.1, keep x old.0 old.2)
  each_next g x small is false e =
      let here : g ≡ i = grind (arith, nat_tests) in
      let same : k ≡ x = ap (λ o. unwrap_or o k) (sym there ∙ ap (slice_get sources) (sym here) ∙ is) in
      (r, ap (slice_get (answers ++ r ∷ [])) (here ∙ sym built.as_many) ∙ get_last answers r, subst (λ z. Q z r) same has)

  pub built_next : Built Q sources (i + 1) (answers ++ r ∷ [])
  built_next = record {
    as_many = length-append answers (r ∷ []) ∙ ap (λ n. n + 1) built.as_many;
    each = λ g x small is. each_next g x small is (nat_lt g i) refl;
  }
