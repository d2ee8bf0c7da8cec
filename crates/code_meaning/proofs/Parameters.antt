-- What a unit begins with: its parameters, each with its argument or its default, `this` before them, and nulls behind.
use Rattle.std.proofs.Common.{◌≡◌, ℕ, zero, suc, ◌+◌, ◌-◌, ◌<◌, ◌≤◌, List, [], ◌∷◌, ◌++◌, length, drop, reverse, map, refl, sym, ap, ◌∙◌, subst, arith, length-append}
use Rattle.std.specs.Prelude.{Bool, true, false, ◌&&◌, replicate, slice_get, Some}
use Rattle.std.proofs.lemmas.Bool.{le-leb}
use Rattle.std.proofs.lemmas.List.{length-replicate, length-reverse, length-map}
use Rattle.program.specs.declared.literal.Literal.{Literal}
use Rattle.dart_values.specs.Values.{Value, null}
use Rattle.dart_meaning.specs.Literals.{literal}
use Rattle.dart_meaning.specs.Numbered.{filled, parameters}
use Rattle.dart_meaning.specs.Run.{Run}
use Rattle.meaning_laws.specs.BodyLaws.{Follows}
use Rattle.meaning_laws.proofs.Follows.{follows}
use Rattle.code_unit.specs.declared.unit.Unit.{Unit as CodeUnit}
use Rattle.code_pool.specs.Machine.{accepts, filled_in}
use Rattle.program_code.specs.IsCode.{first_of}
use Rattle.machine_runs.proofs.Lists.{get_left, get_reverse}
use Rattle.machine_runs.proofs.Loaded.{Loaded}
use Rattle.machine_runs.proofs.Points.{opens, none_kept, Activation, Fits}

-- ---- arguments and defaults

filled_none : (ds : List Value) → filled ds [] ≡ ds
filled_none [] = refl
filled_none (d ∷ ds) = ap (λ l. d ∷ l) (filled_none ds)

filled_first : (ds args : List Value) → length args ≤ length ds → filled ds args ≡ args ++ drop (length args) ds
filled_first ds [] h = filled_none ds
filled_first [] (v ∷ args) h = absurd (omega (arith, h))
filled_first (d ∷ ds) (v ∷ args) h = ap (λ l. v ∷ l) (filled_first ds args (omega (arith, h)))

-- the arguments, and behind them the defaults of those that are missing
filled_is : (required : ℕ) (ds args : List Value) → required ≤ length args → length args ≤ required + length ds → filled (replicate required null ++ ds) args ≡ args ++ drop (length args - required) ds
filled_is zero ds args low high = filled_first ds args (omega (arith, high)) ∙ ap (λ k. args ++ drop k ds) (omega arith)
filled_is (suc k) ds [] low high = absurd (omega (arith, low))
filled_is (suc k) ds (v ∷ args) low high =
    let e : length args - k ≡ length (v ∷ args) - suc k = omega arith in
    ap (λ l. v ∷ l) (filled_is k ds args (omega (arith, low)) (omega (arith, high)) ∙ ap (λ i. args ++ drop i ds) e)

filled_length : (ds args : List Value) → length args ≤ length ds → length (filled ds args) ≡ length ds
filled_length [] [] h = refl
filled_length [] (v ∷ args) h = absurd (omega (arith, h))
filled_length (d ∷ ds) [] h = ap suc (filled_length ds [] (omega arith))
filled_length (d ∷ ds) (v ∷ args) h = ap suc (filled_length ds args (omega (arith, h)))

pub parameters_length : (required : ℕ) (defaults : List Literal) (args : List Value) → length args ≤ required + length defaults → length (parameters required defaults args) ≡ required + length defaults
parameters_length required defaults args h =
    let n : length (replicate required null ++ map literal defaults) ≡ required + length defaults = length-append (replicate required null) (map literal defaults) ∙ omega (arith, length-replicate required null, length-map defaults literal) in
    filled_length (replicate required null ++ map literal defaults) args (omega (arith, n, h)) ∙ n

-- ---- slots

-- `this` stands before the parameters, where there is one
abbrev pub slots_of : Bool → Value → List Value → List Value
slots_of true me args = me ∷ args
slots_of false me args = args

slots_of_length : (of_this : Bool) (me : Value) (args : List Value) → length (slots_of of_this me args) ≡ first_of of_this + length args
slots_of_length true me args = omega arith
slots_of_length false me args = omega arith

pub slot_of : (of_this : Bool) (me : Value) (args rest : List Value) (k : ℕ) → k < length args → slice_get (slots_of of_this me args ++ rest) (first_of of_this + k) ≡ slice_get args k
slot_of true me args rest k h = let e : 1 + k ≡ suc k = omega arith in ap (slice_get (me ∷ (args ++ rest))) e ∙ get_left args rest k h
slot_of false me args rest k h = let e : 0 + k ≡ k = omega arith in ap (slice_get (args ++ rest)) e ∙ get_left args rest k h

and_true : (a b : Bool) → a ≡ true → b ≡ true → (a && b) ≡ true
and_true a b e d = rw (e, d) refl

-- the unit has so many parameters and these defaults
pub record Takes (of_this : Bool) (unit : CodeUnit) (required : ℕ) (defaults : List Literal) : Type 0 where
  pub params : unit.params ≡ first_of of_this + (required + length defaults)
  pub defaults_are : unit.defaults ≡ defaults
  pub enough : unit.params ≤ unit.locals

module _ (of_this : Bool) (unit : CodeUnit) (required : ℕ) (defaults : List Literal) (t : Takes of_this unit required defaults) (me : Value) (args : List Value) (low : required ≤ length args) (high : length args ≤ required + length defaults) where
  -- it accepts the values
  pub takes_them : accepts unit (length (slots_of of_this me args)) ≡ true
  takes_them =
      let n : length unit.defaults ≡ length defaults = ap length t.defaults_are in
      let l : length (slots_of of_this me args) ≡ first_of of_this + length args = slots_of_length of_this me args in
      and_true _ _ (le-leb (length (slots_of of_this me args)) unit.params (omega (arith, t.params, high, l)))
      (le-leb unit.params (length (slots_of of_this me args) + length unit.defaults) (omega (arith, t.params, low, l, n)))

  -- and fills in the defaults that the meaning fills in
  pub fills_them : filled_in unit (slots_of of_this me args) ≡ slots_of of_this me (parameters required defaults args)
  fills_them =
      let n : length unit.defaults ≡ length defaults = ap length t.defaults_are in
      let m : length (map literal defaults) ≡ length defaults = length-map defaults literal in
      let l : length (slots_of of_this me args) ≡ first_of of_this + length args = slots_of_length of_this me args in
      let k : length (slots_of of_this me args) + length unit.defaults - unit.params ≡ length args - required = omega (arith, t.params, low, high, l, n) in
      ap (λ i. slots_of of_this me args ++ drop i (map literal unit.defaults)) k
      ∙ ap (λ ds. slots_of of_this me args ++ drop (length args - required) (map literal ds)) t.defaults_are
      ∙ behind of_this (drop (length args - required) (map literal defaults))
      ∙ ap (slots_of of_this me) (sym (filled_is required (map literal defaults) args low (omega (arith, high, m))))
    where
      behind : (b : Bool) (rest : List Value) → slots_of b me args ++ rest ≡ slots_of b me (args ++ rest)
      behind true rest = refl
      behind false rest = refl

-- ---- a body begins

-- the slots behind the parameters
abbrev pub nulls : CodeUnit → List Value
nulls unit = replicate (unit.locals - unit.params) null

pub starts : (prog : Loaded) (f : Activation prog) (of_this : Bool) (args : List Value) (params : ℕ) (r : Run Value) → f.of_this ≡ of_this → f.first ≡ first_of of_this → f.begun ≡ r.store → length args ≡ params
    → f.unit.params ≡ first_of of_this + params → f.unit.params ≤ f.unit.locals → Fits prog f (opens params) (slots_of of_this f.me args ++ nulls f.unit) (record r { vars = reverse args; this = f.me })
starts prog f of_this args params r is first begun len takes enough = record {
  size = length-append (slots_of of_this f.me args) (nulls f.unit) ∙ omega (arith, slots_of_length of_this f.me args, length-replicate (f.unit.locals - f.unit.params) null, takes, enough, len);
  count = length-reverse args ∙ len;
  vars = λ k h.
      let w : k < length args = omega (arith, h, len) in
      ap (λ i. slice_get (slots_of of_this f.me args ++ nulls f.unit) (i + k)) first
      ∙ slot_of of_this f.me args (nulls f.unit) k w ∙ sym (get_reverse args k w) ∙ ap (λ i. slice_get (reverse args) (i - suc k)) len;
  kept = λ i v e. none_kept i v e;
  this = λ e. this_at of_this (sym is ∙ e);
  self = refl;
  follows = subst (λ s. Follows prog.p f.begun s) begun ((follows prog.p).same f.begun);
}
  where
    this_at : (t : Bool) → t ≡ true → slice_get (slots_of t f.me args ++ nulls f.unit) 0 ≡ Some f.me
    this_at true e = refl
    this_at false e = let no_this : ◌≡◌ {A = Bool} false true = e in cc
