-- What is true of each unit of the code of a function, a member, a constructor and a list's text is true of each unit that has a use.
use Rattle.std.proofs.Common.{◌≡◌, ℕ, zero, suc, ◌<◌, Bool, true, false, List, [], ◌∷◌, length, slice_get, refl, sym, ap, subst, ◌∙◌, arith}
use Rattle.std.specs.Prelude.{nat_eq, Option, Some}
use Rattle.program.specs.declared.ids.UnitId.{UnitId}
use Rattle.program.specs.declared.literal.Literal.{Literal}
use Rattle.program.specs.declared.body.Body.{Body}
use Rattle.program.specs.declared.numbered.Function.{Function}
use Rattle.program.specs.declared.numbered.Method.{Method}
use Rattle.program.specs.declared.numbered.MethodBody as numbered
use Rattle.program.specs.declared.numbered.MethodBody.TheVariants as does
use Rattle.program.specs.Parts.{Parts}
use Rattle.dart_meaning.specs.Calls.{list_to_string}
use Rattle.dart_meaning.specs.Numbered.{constructor_of}
use Rattle.code_unit.specs.declared.unit.Unit.{Unit}
use Rattle.code_pool.specs.declared.pool.MethodBody.{MethodBody}
use Rattle.code_pool.specs.declared.pool.MethodBody.TheVariants.{Native, ReadField, WriteField, Code}
use Rattle.code_pool.specs.Pool.{Pool}
use Rattle.program_code.specs.IsCode.{IsCode, HasUse, of_function, of_constructor, of_member, BodyCode, ConstructorCode, ListCode, MethodCode}

-- ---- lists

pub there : {A : Type 0} (xs : List A) (k : ℕ) (x : A) → slice_get xs k ≡ Some x → k < length xs
there [] k x e = cc
there (y ∷ ys) zero x e = omega arith
there (y ∷ ys) (suc k) x e = omega (arith, there ys k x e)

get_there : {A : Type 0} (xs : List A) (k : ℕ) → k < length xs → (x : A) × (slice_get xs k ≡ Some x)
get_there [] k lt = absurd (omega (arith, lt))
get_there (x ∷ xs) zero lt = (x, refl)
get_there (x ∷ xs) (suc k) lt = get_there xs k (omega (arith, lt))

some_is : {A : Type 0} {a b : A} → ◌≡◌ {A = Option A} (Some a) (Some b) → a ≡ b
some_is e = cc

one_number : {u v : ℕ} {o : Option UnitId} → o ≡ Some (record { 0 = u }) → o ≡ Some (record { 0 = v }) → u ≡ v
one_number e f = ap (λ (i : UnitId). i.0) (some_is (sym e ∙ f))

abbrev unit_of : MethodBody → ℕ
unit_of (Code u) = u.0
unit_of _ = 0

one_code : {u v : ℕ} {o : Option MethodBody} → o ≡ Some (Code (record { 0 = u })) → o ≡ Some (Code (record { 0 = v })) → u ≡ v
one_code e f = ap unit_of (some_is (sym e ∙ f))

-- ---- a program

module _ (p : Parts) (pool : Pool) (constant : Literal → ℕ) (P : Unit → Type 0) where
  -- P holds of the code of each function, member and constructor, and of that of a list's text.
  pub record HoldsOfCode : Type 0 where
    pub functions : (f : ℕ) (k : Function) (unit : Unit) → slice_get p.functions f ≡ Some k → BodyCode p pool.constants constant false k.body k.required k.defaults unit → P unit
    pub members : (m : ℕ) (k : Method) (b : Body) (unit : Unit) → slice_get p.methods m ≡ Some k → k.body ≡ does.Code b → BodyCode p pool.constants constant true b k.required k.defaults unit → P unit
    pub constructors : (class : ℕ) (unit : Unit) → ConstructorCode p pool.constants constant class (constructor_of p class) unit → P unit
    pub list_text : (unit : Unit) → ListCode p pool.constants constant unit → P unit

  module _ (code : IsCode p pool constant) (h : HoldsOfCode) where
    same_unit : {u v : ℕ} (unit other : Unit) → u ≡ v → slice_get pool.units u ≡ Some unit → slice_get pool.units v ≡ Some other → P other → P unit
    same_unit unit other e x y holds = subst P (some_is (sym y ∙ ap (slice_get pool.units) (sym e) ∙ x)) holds

    member : (m u : ℕ) (k : Method) (b : numbered.MethodBody) (unit : Unit) → slice_get p.methods m ≡ Some k → k.body ≡ b → MethodCode p pool constant m k b → slice_get pool.methods m ≡ Some (Code (record { 0 = u })) → slice_get pool.units u ≡ Some unit → P unit
    member m u k (does.Native x) unit at is (alone, listed) e here = native (nat_eq x.0 list_to_string) refl
      where
        native : (is_list : Bool) → nat_eq x.0 list_to_string ≡ is_list → P unit
        native false is = let g : ◌≡◌ {A = Option MethodBody} (Some (Native x)) (Some (Code (record { 0 = u }))) = sym (alone is) ∙ e in cc
        native true is = let c = listed is in same_unit unit c.2.unit (one_code e c.1) here c.2.there (h.list_text c.2.unit c.2.is)
    member m u k (does.ReadField field) unit at is c e here = let g : ◌≡◌ {A = Option MethodBody} (Some (ReadField field)) (Some (Code (record { 0 = u }))) = sym c ∙ e in cc
    member m u k (does.WriteField field) unit at is c e here = let g : ◌≡◌ {A = Option MethodBody} (Some (WriteField field)) (Some (Code (record { 0 = u }))) = sym c ∙ e in cc
    member m u k (does.Code b) unit at is (v, f, code) e here = same_unit unit code.unit (one_code e f) here code.there (h.members m k b code.unit at is code.is)

    pub holds_of_used : (u : ℕ) (unit : Unit) → HasUse p pool u → slice_get pool.units u ≡ Some unit → P unit
    holds_of_used u unit (of_function f lt e) here =
        let g = get_there p.functions f lt in
        let c = code.functions f g.0 g.1 in
        same_unit unit c.2.unit (one_number e c.1) here c.2.there (h.functions f g.0 c.2.unit g.1 c.2.is)
    holds_of_used u unit (of_constructor class user lt e) here =
        let c = code.constructors class user lt in same_unit unit c.2.unit (one_number e c.1) here c.2.there (h.constructors class c.2.unit c.2.is)
    holds_of_used u unit (of_member m lt e) here =
        let g = get_there p.methods m lt in member m u g.0 g.0.body unit g.1 refl (code.methods m g.0 g.1) e here
