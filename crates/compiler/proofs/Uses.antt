-- Each unit of the pool is that of a function, a constructor or a member.
use Rattle.std.proofs.Common.{◌≡◌, ℕ, zero, suc, ◌+◌, ◌-◌, ◌<◌, ◌≤◌, Bool, true, false, List, [], ◌∷◌, ◌++◌, length, drop, refl, sym, ◌∙◌, ap, subst, arith}
use Rattle.std.specs.Prelude.{slice_get, Option, Some, None, nat_eq, nat_lt, take}
use Rattle.std.proofs.lemmas.Bool.Decides.{nat_tests}
use Rattle.std.proofs.lemmas.List.{length-append}
use Rattle.std.proofs.lemmas.Option.{slice_get_within}
use Rattle.std.proofs.Math.Logic.{∥∥₁_elim}
use Rattle.std.proofs.Math.Bool.{Bool-set}
use Rattle.program.specs.declared.ids.UnitId.{UnitId}
use Rattle.program.specs.declared.literal.Literal.{Literal}
use Rattle.program.specs.declared.numbered.Class.{Class}
use Rattle.program.specs.declared.numbered.Function.{Function}
use Rattle.program.specs.declared.numbered.Method.{Method}
use Rattle.program.specs.declared.numbered.MethodBody as program_body
use Rattle.program.specs.declared.numbered.MethodBody.TheVariants as does
use Rattle.program.specs.BuiltIn.{built_in_members}
use Rattle.program.specs.Parts.{Parts}
use Rattle.program.specs.Whole.{IsSound}
use Rattle.dart_meaning.specs.Calls.{list_to_string}
use Rattle.code_unit.specs.declared.unit.Unit as declared_unit
use Rattle.code_pool.specs.declared.pool.MethodBody as pool_body
use Rattle.code_pool.specs.Pool.{Pool}
use Rattle.program_code.specs.IsCode.{HasUse, HasNoOtherUnit, of_function, of_constructor, of_member, unit_id}
use Rattle.code_writer.specs.declared.layout.Layout.{Layout}
use Rattle.compiler.specs.Units.{Built, FunctionHas, ClassHas, MethodHas, MemberHas, Reaches, IsFor, code_of}
use Rattle.compiler.proofs.Growing.{get_front, get_last}
use Rattle.compiler.proofs.Pools.{get_behind, get_dropped, get_some}

pub reaches_none : {B : Type 0} (item : ℕ → B) (n : ℕ) → Reaches item [] n n
reaches_none item n = record { on = omega arith; each = λ u low high. absurd (omega (arith, low, high)) }

-- One more answer, for the units that came with it.
module _ {B : Type 0} (item : ℕ → B) (answers : List B) (r : B) (from mid to : ℕ) (before : Reaches item answers from mid) (now : IsFor item r mid to) where
  each_next : (u : ℕ) → from ≤ u → u < to → (b : Bool) → nat_lt u mid ≡ b → (i : ℕ) × (slice_get (answers ++ r ∷ []) i ≡ Some (item u))
  each_next u low high true e = let old = before.each u low (grind (arith, nat_tests)) in (old.0, get_front answers (r ∷ []) old.0 (item u) old.1)
  each_next u low high false e =
      let above : mid ≤ u = grind (arith, nat_tests) in
      (length answers, get_last answers r ∙ ap Some (now.each u above high))

  pub reaches_next : Reaches item (answers ++ r ∷ []) from to
  reaches_next = record { on = omega (arith, before.on, now.on); each = λ u low high. each_next u low high (nat_lt u mid) refl }

-- the one unit that was added
pub is_for_one : (us vs : List declared_unit.Unit) (u : declared_unit.Unit) (id : UnitId) → vs ≡ us ++ u ∷ [] → id.0 ≡ length us → IsFor unit_id id (length us) (length vs)
is_for_one us vs u id e n =
    let more : length vs ≡ length us + 1 = ap length e ∙ length-append us (u ∷ []) in
    record { on = omega (arith, more); each = λ k low high. ap unit_id (let here : id.0 ≡ k = omega (arith, n, low, high, more) in here) }

-- the same of a member
pub is_for_code : (us vs : List declared_unit.Unit) (u : declared_unit.Unit) (id : UnitId) → vs ≡ us ++ u ∷ [] → id.0 ≡ length us → IsFor code_of (code_of id.0) (length us) (length vs)
is_for_code us vs u id e n =
    let more : length vs ≡ length us + 1 = ap length e ∙ length-append us (u ∷ []) in
    record { on = omega (arith, more); each = λ k low high. ap code_of (let here : id.0 ≡ k = omega (arith, n, low, high, more) in here) }

-- no unit was added
pub is_for_none : {B : Type 0} (item : ℕ → B) (r : B) (n : ℕ) → IsFor item r n n
is_for_none item r n = record { on = omega arith; each = λ u low high. absurd (omega (arith, low, high)) }

get_taken : {A : Type 0} (n : ℕ) (xs : List A) (i : ℕ) → i < n → slice_get (take n xs) i ≡ slice_get xs i
get_taken zero xs i h = absurd (omega (arith, h))
get_taken (suc n) [] i h = refl
get_taken (suc n) (x ∷ xs) zero h = refl
get_taken (suc n) (x ∷ xs) (suc i) h = get_taken n xs i (omega (arith, h))

-- the body of the member that makes the text of a list
abbrev is_text_body : program_body.MethodBody → Bool
is_text_body (does.Native x) = nat_eq x.0 list_to_string
is_text_body _ = false

abbrev is_text_member : Option Method → Bool
is_text_member None = false
is_text_member (Some k) = is_text_body k.body

text_member_of : (p : Parts) → IsSound p → is_text_member (slice_get p.methods 43) ≡ true
text_member_of p s = ap is_text_member (sym (get_taken 49 p.methods 43 (omega arith)) ∙ ap (λ ms. slice_get ms 43) s.built_in_members)

-- such a member has the unit of the text
member_has_text : (base : Layout) (us : List declared_unit.Unit) (ts : List Literal) (text : UnitId) (b : program_body.MethodBody) (k : Method) (r : pool_body.MethodBody)
    → is_text_body b ≡ true → MemberHas base us ts text b k r → r ≡ code_of text.0
member_has_text base us ts text (does.Native x) k r e h = h.1 e
member_has_text base us ts text (does.ReadField field) k r e h = absurd (cc)
member_has_text base us ts text (does.WriteField field) k r e h = absurd (cc)
member_has_text base us ts text (does.Code b) k r e h = absurd (cc)

module _ (p : Parts) (sound : ∥ IsSound p ∥₁) (base : Layout) (us : List declared_unit.Unit) (ts : List Literal)
    (entries constructors : List UnitId) (text : UnitId) (methods : List pool_body.MethodBody) (pool : Pool) (n1 n2 : ℕ)
    (functions_many : length entries ≡ length p.functions) (functions_reach : Reaches unit_id entries 0 n1)
    (classes_many : length constructors ≡ length (drop 7 p.classes)) (classes_reach : Reaches unit_id constructors n1 n2)
    (text_is : text.0 ≡ n2)
    (methods_built : Built (MethodHas base us ts text) p.methods (length p.methods) methods) (methods_reach : Reaches code_of methods (n2 + 1) (length us))
    (units_are : pool.units ≡ us) (statics_are : pool.statics ≡ entries ++ constructors) (methods_are : pool.methods ≡ methods) where
  text_there : (o : Option Method) → slice_get p.methods 43 ≡ o → is_text_member o ≡ true → slice_get pool.methods 43 ≡ Some (code_of text.0)
  text_there None there is = absurd (cc)
  text_there (Some k) there is =
      let f = methods_built.each 43 k (slice_get_within p.methods 43 k there) there in
      ap (λ ms. slice_get ms 43) methods_are ∙ f.1 ∙ ap Some (member_has_text base us ts text k.body k f.0 is f.2)

  in_text : slice_get pool.methods 43 ≡ Some (code_of text.0)
  in_text = text_there (slice_get p.methods 43) refl (∥∥₁_elim sound (Bool-set _ _) (text_member_of p))

  text_within : 43 < length p.methods
  text_within = let h = slice_get_within methods 43 (code_of text.0) (sym (ap (λ ms. slice_get ms 43) methods_are) ∙ in_text) in omega (arith, h, methods_built.as_many)

  use_of_function : (u : ℕ) → u < n1 → HasUse p pool u
  use_of_function u low =
      let f = functions_reach.each u (omega arith) low in
      let within = slice_get_within entries f.0 (unit_id u) f.1 in
      of_function f.0 (omega (arith, within, functions_many)) (ap (λ xs. slice_get xs f.0) statics_are ∙ get_front entries constructors f.0 (unit_id u) f.1)

  use_of_constructor : (u : ℕ) → n1 ≤ u → u < n2 → HasUse p pool u
  use_of_constructor u low high =
      let f = classes_reach.each u low high in
      let within = slice_get_within constructors f.0 (unit_id u) f.1 in
      let k = get_some (drop 7 p.classes) f.0 (omega (arith, within, classes_many)) in
      let inside = slice_get_within p.classes (7 + f.0) k.0 (sym (get_dropped 7 p.classes f.0) ∙ k.1) in
      let back : length p.functions + (7 + f.0 - 7) ≡ length entries + f.0 = omega (arith, functions_many) in
      of_constructor (7 + f.0) (omega arith) inside (ap (λ xs. slice_get xs (length p.functions + (7 + f.0 - 7))) statics_are ∙ ap (slice_get (entries ++ constructors)) back ∙ get_behind entries constructors f.0 ∙ f.1)

  use_of_member : (u : ℕ) → n2 + 1 ≤ u → u < length us → HasUse p pool u
  use_of_member u low high =
      let f = methods_reach.each u low high in
      let within = slice_get_within methods f.0 (code_of u) f.1 in
      of_member f.0 (omega (arith, within, methods_built.as_many)) (ap (λ ms. slice_get ms f.0) methods_are ∙ f.1)

  use_of_text : (u : ℕ) → u ≡ n2 → HasUse p pool u
  use_of_text u e = of_member 43 text_within (in_text ∙ ap (λ k. Some (code_of k)) (text_is ∙ sym e))

  use_by : (u : ℕ) → u < length us → (b c d : Bool) → nat_lt u n1 ≡ b → nat_lt u n2 ≡ c → nat_eq u n2 ≡ d → HasUse p pool u
  use_by u high true c d e f g = use_of_function u (grind (arith, nat_tests))
  use_by u high false true d e f g = use_of_constructor u (grind (arith, nat_tests)) (grind (arith, nat_tests))
  use_by u high false false true e f g = use_of_text u (grind (arith, nat_tests))
  use_by u high false false false e f g = use_of_member u (grind (arith, nat_tests)) high

  pub no_other_unit : HasNoOtherUnit p pool
  no_other_unit u high = use_by u (subst (λ all. u < length all) units_are high) (nat_lt u n1) (nat_lt u n2) (nat_eq u n2) refl refl refl
