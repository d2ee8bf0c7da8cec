-- The layout of a body: the numbers of its literals, and its slots. Calls through sites, operators, and what `print` prints.
use Rattle.std.proofs.Common.{◌≡◌, ℕ, ◌+◌, ◌-◌, ◌≤◌, List, [], ◌∷◌, ◌++◌, length, refl, sym, ap, subst, arith, append_assoc}
use Rattle.std.specs.Prelude.{Bool, true, false, not, ◌&&◌, ◌||◌, slice_get, unwrap_or, codes, Option, Some, None}
use Rattle.program.specs.declared.ids.SiteId.{SiteId}
use Rattle.program.specs.declared.body.BinaryOperator.{BinaryOperator}
use Rattle.program.specs.declared.body.BinaryOperator.TheVariants as b
use Rattle.program.specs.declared.body.Joint.{Joint}
use Rattle.program.specs.declared.body.Joint.TheVariants as joint
use Rattle.program.specs.declared.body.OperatorCall.{OperatorCall}
use Rattle.program.specs.declared.literal.Literal.{Literal}
use Rattle.program.specs.declared.literal.Literal.TheVariants as literals
use Rattle.program.specs.declared.numbered.Selector.{Selector}
use Rattle.program.specs.declared.numbered.SelectorKind.{SelectorKind}
use Rattle.program.specs.declared.numbered.SelectorKind.TheVariants as kind
use Rattle.program.specs.Bodies.{Exp, Exps}
use Rattle.program.specs.Parts.{selector_at}
use Rattle.program.specs.Sound.{Is, IsOf, Asks, Joins, binary_name}
use Rattle.program.proofs.Facts.{print_site}
use Rattle.dart_values.specs.Values.{Value, null, bool}
use Rattle.dart_meaning.specs.Calls as calls
use Rattle.dart_meaning.specs.Calls.{is_null}
use Rattle.dart_meaning.specs.Numbered as n
use Rattle.dart_meaning.specs.Program.{to_string, calling}
use Rattle.dart_meaning.specs.Run.{Run, M, ◌>>=◌, pure, choose, need_bool}
use Rattle.code_unit.specs.declared.instr.Instr.{Instr}
use Rattle.code_unit.specs.declared.instr.Instr.TheVariants.{Const, Pop, JumpIfFalse, ExpectBool, Call, Equal, ExpectString, Emit}
use Rattle.program_code.specs.Code as d
use Rattle.program_code.specs.IsCode.{Known}
use Rattle.program_code.specs.Sizes.{size, sizes, operator_size, joint_size}
use Rattle.program_code.proofs.Lengths.{code_length, codes_length}
use Rattle.machine_runs.proofs.Loaded.{Loaded}
use Rattle.machine_runs.proofs.Points.{Open, opens, Point, point, same_point, Activation, Does, Stands, stands_front, stands_back, bool_is, does_bind, does_then, does_more, does_from, does_where, does_pure, ends_at, given_at}
use Rattle.machine_runs.proofs.Instructions.{does_const, does_pop, does_dup, does_test, does_not, does_expect_bool, does_expect_text, does_emit}
use Rattle.machine_runs.proofs.BodyCalls as run
use Rattle.machine_runs.proofs.BodyCalls.{entered, does_send, does_equal}

-- The numbers of the literals, the most variables that are open, and the most arguments of a construction.
pub record Layout (prog : Loaded) (f : Activation prog) : Type 0 where
  pub constant : Literal → ℕ
  pub null_known : Known prog.p prog.pool.constants constant literals.Null
  pub most : ℕ
  pub room : ℕ
  pub apart : f.first + most ≤ f.scratch
  pub spares : f.scratch + 1 ≤ f.unit.locals
  pub rooms : f.scratch + room ≤ f.unit.locals

-- ---- selectors

-- what a site calls, with so many arguments
pub asks_some : (k : ℕ) (o : Option Selector) → Asks k o → (sel : Selector) × (o ≡ Some sel) × (sel.count ≡ k)
asks_some k (Some sel) h = (sel, refl, h.1)
asks_some k None h = absurd h

pub of_kind : (kind : SelectorKind) (k : ℕ) (o : Option Selector) → IsOf kind k o → (sel : Selector) × (o ≡ Some sel) × (sel.count ≡ k)
of_kind kind k (Some sel) h = (sel, refl, h.1)
of_kind kind k None h = absurd h

-- the selector that is meant
pub it_is : (kind : SelectorKind) (name : List ℕ) (k : ℕ) (o : Option Selector) → Is kind name k o → o ≡ Some (record { kind = kind; name = name; count = k })
it_is kind name k (Some sel) h = λ i. Some (record { kind = h.0 i; name = h.1 i; count = h.2 i })
it_is kind name k None h = absurd h

-- `==` tests that its answer is a bool, where a cell was asked
equals_is : (q x : Bool) (k : M Value Value) (r : Run Value) → (choose q (pure (bool x)) k >>= need_bool) r ≡ choose q (pure x) (k >>= need_bool) r
equals_is true x k r = refl
equals_is false x k r = refl

module _ {prog : Loaded} {f : Activation prog} where
  -- one of two evaluations, from one of two points
  pub chosen : {A : Type 0} (go : Bool) {a b : ℕ} {x z : Point} {k l : M Value A} {w : A → Point} → Does prog f a x k w → Does prog f b z l w → Does prog f (a + b) (choose go x z) (choose go k l) w
  chosen true d e = does_more (omega arith) d
  chosen false d e = does_more (omega arith) e

  -- ---- calls through sites

  -- a call as a body says it, by the selector of its site
  pub sends_n : (o : Open) (t : ℕ) (ops : List Value) (v : Value) (args : List Value) (site count : ℕ) (sel : Selector) → selector_at prog.p site ≡ Some sel → sel.count ≡ count → length args ≡ count
      → slice_get f.unit.code t ≡ Some (Call (d.site site) count) → Does prog f 1 (point o t (ops ++ v ∷ args)) (n.send prog.p (entered prog f) site v args) (λ w. point o (t + 1) (ops ++ w ∷ []))
  sends_n o t ops v args site count sel is c len at =
      subst (λ x. Does prog f 1 (point o t (ops ++ v ∷ args)) (calls.send (run.calling prog f) site (unwrap_or x to_string) v args) (λ w. point o (t + 1) (ops ++ w ∷ []))) (sym is)
      (does_send o t ops v args (d.site site) sel count is c len at)

  -- the call of an operator's member
  pub operates : (o : Open) (t : ℕ) (ops : List Value) (v u : Value) (k : OperatorCall) → Is kind.Call (binary_name k.operator) 1 (selector_at prog.p k.site.0) → slice_get f.unit.code t ≡ Some (Call k.site 1)
      → Does prog f 1 (point o t ((ops ++ v ∷ []) ++ u ∷ [])) (calls.operate (run.calling prog f) k v u) (λ w. point o (t + 1) (ops ++ w ∷ []))
  operates o t ops v u k is at =
      does_from (same_point o refl (sym (append_assoc ops (v ∷ []) (u ∷ []))))
      (does_send o t ops v (u ∷ []) k.site (calling (binary_name k.operator) 1) 1 (it_is kind.Call (binary_name k.operator) 1 (selector_at prog.p k.site.0) is) refl refl at)

  -- `==`, and the test that its answer is a bool
  pub equals : (o : Open) (t : ℕ) (ops : List Value) (v u : Value) (s : SiteId) → Is kind.Call (codes "==") 1 (selector_at prog.p s.0) → slice_get f.unit.code t ≡ Some (Equal s) → slice_get f.unit.code (t + 1) ≡ Some ExpectBool
      → Does prog f 2 (point o t ((ops ++ v ∷ []) ++ u ∷ [])) (calls.equals (run.calling prog f) s.0 v u) (λ x. point o (t + 1 + 1) (ops ++ bool x ∷ []))
  equals o t ops v u s is at expect =
      subst (λ m. Does prog f 2 (point o t ((ops ++ v ∷ []) ++ u ∷ [])) m (λ x. point o (t + 1 + 1) (ops ++ bool x ∷ [])))
      (λ j r. equals_is (is_null v || is_null u) (is_null v && is_null u) (calls.send (run.calling prog f) s.0 (calling (codes "==") 1) v (u ∷ [])) r j)
      (does_bind
      (does_from (same_point o refl (sym (append_assoc ops (v ∷ []) (u ∷ []))))
      (does_equal o t ops v u s (calling (codes "==") 1) (it_is kind.Call (codes "==") 1 (selector_at prog.p s.0) is) refl at))
      (λ w. does_expect_bool o (t + 1) ops w expect))

-- ---- operators

module _ {prog : Loaded} {f : Activation prog} (y : Layout prog f) where
  abbrev pub combined : BinaryOperator → SiteId → List Instr
  combined = d.combined prog.p y.constant f.first f.scratch

  abbrev pub linked : Joint → ℕ → List Instr → ℕ → List Instr
  linked = d.linked prog.p y.constant f.first f.scratch

  abbrev pub right_at : Joint → ℕ → ℕ
  right_at = d.right_at prog.p y.constant f.first f.scratch

  pub code_len : (e : Exp) (t : ℕ) → t + length (d.code prog.p y.constant f.first f.scratch e t) ≡ t + size e
  code_len e t = ap (λ k. t + k) (code_length prog.p y.constant f.first f.scratch e t)

  pub codes_len : (es : Exps) (t : ℕ) → t + length (d.codes_of prog.p y.constant f.first f.scratch es t) ≡ t + sizes es
  codes_len es t = ap (λ k. t + k) (codes_length prog.p y.constant f.first f.scratch es t)

  -- an operator, with both operands there
  combines_by : (op : BinaryOperator) (k : OperatorCall) → k.operator ≡ op → Is kind.Call (binary_name k.operator) 1 (selector_at prog.p k.site.0) → (o : Open) (t : ℕ) (ops : List Value) (v u : Value)
      → Stands prog f t (combined op k.site) → Does prog f (operator_size op) (point o t ((ops ++ v ∷ []) ++ u ∷ [])) (calls.combine_by (run.calling prog f) op k v u) (λ w. point o (t + operator_size op) (ops ++ w ∷ []))
  combines_by b.Equal k e is o t ops v u h =
      ends_at (omega arith) (λ w. same_point o {t = t + 1 + 1} {u = t + 2} (omega arith) refl)
      (does_bind (equals o t ops v u k.site (subst (λ x. Is kind.Call (binary_name x) 1 (selector_at prog.p k.site.0)) e is) h.0 h.1.0) (λ x. given_at o (t + 1 + 1) ops (bool x)))
  combines_by b.NotEqual k e is o t ops v u h =
      ends_at (omega arith) (λ w. same_point o {t = t + 1 + 1 + 1} {u = t + 3} (omega arith) refl)
      (does_bind (equals o t ops v u k.site (subst (λ x. Is kind.Call (binary_name x) 1 (selector_at prog.p k.site.0)) e is) h.0 h.1.0)
      (λ x. does_bind (does_not o (t + 1 + 1) ops (bool x) h.1.1.0) (λ z. given_at o (t + 1 + 1 + 1) ops (bool (not z)))))
  combines_by op k e is o t ops v u h = operates o t ops v u k is h.0

  pub right_stands : (op : Joint) (t : ℕ) (right : List Instr) (k : ℕ) → Stands prog f t (linked op t right k) → Stands prog f (right_at op t) right
  right_stands joint.And t right k h = let e : t + 1 + 1 + 1 ≡ t + 3 = omega arith in subst (λ u. Stands prog f u right) e (stands_front prog f (t + 1 + 1 + 1) right _ h.1.1.1)
  right_stands joint.Or t right k h = let e : t + 1 + 1 + 1 + 1 ≡ t + 4 = omega arith in subst (λ u. Stands prog f u right) e (stands_front prog f (t + 1 + 1 + 1 + 1) right _ h.1.1.1.1)
  right_stands (joint.Operator op) t right k h = stands_front prog f t right _ h

  -- `right`, which has to be a bool
  truth_of : (m t : ℕ) (ops : List Value) (k : ℕ) (right : M Value Value) → Does prog f k (point (opens m) t ops) right (λ w. point (opens m) (t + k) (ops ++ w ∷ [])) → slice_get f.unit.code (t + k) ≡ Some ExpectBool
      → Does prog f (k + 1) (point (opens m) t ops) (calls.truth (run.calling prog f) right) (λ w. point (opens m) (t + k + 1) (ops ++ w ∷ []))
  truth_of m t ops k right d at = ends_at (omega arith) (λ v. refl) (does_bind (does_bind d (λ w. does_expect_bool (opens m) (t + k) ops w at)) (λ b. does_pure (bool b)))

  and_case : (go : Bool) (m t : ℕ) (ops : List Value) (v : Value) (k : ℕ) (right : M Value Value) → v ≡ bool go → slice_get f.unit.code (t + 1 + 1) ≡ Some Pop → slice_get f.unit.code (t + 3 + k) ≡ Some ExpectBool
      → Does prog f k (point (opens m) (t + 3) ops) right (λ w. point (opens m) (t + 3 + k) (ops ++ w ∷ []))
      → Does prog f (k + 2) (choose go (point (opens m) (t + 1 + 1) (ops ++ v ∷ [])) (point (opens m) (t + 3 + k + 1) (ops ++ v ∷ []))) (choose go (calls.truth (run.calling prog f) right) (pure (bool false)))
      (λ w. point (opens m) (t + (k + 4)) (ops ++ w ∷ []))
  and_case true m t ops v k right is pop expect d =
      ends_at (omega arith) (λ w. same_point (opens m) (omega arith) refl)
      (does_then (does_pop (opens m) (t + 1 + 1) ops v null pop) (λ _. does_from (same_point (opens m) (omega arith) refl) (truth_of m (t + 3) ops k right d expect)))
  and_case false m t ops v k right is pop expect d =
      ends_at (omega arith) (λ w. refl)
      (does_from (same_point (opens m) (omega arith) (ap (λ u. ops ++ u ∷ []) (sym is))) (does_pure {t = λ w. point (opens m) (t + (k + 4)) (ops ++ w ∷ [])} (bool false)))

  or_case : (go : Bool) (m t : ℕ) (ops : List Value) (v : Value) (k : ℕ) (right : M Value Value) → v ≡ bool go → slice_get f.unit.code (t + 1 + 1) ≡ Some (JumpIfFalse (t + 4 + k + 1))
      → slice_get f.unit.code (t + 1 + 1 + 1) ≡ Some Pop → slice_get f.unit.code (t + 4 + k) ≡ Some ExpectBool → Does prog f k (point (opens m) (t + 4) ops) right (λ w. point (opens m) (t + 4 + k) (ops ++ w ∷ []))
      → Does prog f (k + 3) (point (opens m) (t + 1 + 1) ((ops ++ v ∷ []) ++ bool (not go) ∷ [])) (choose go (pure (bool true)) (calls.truth (run.calling prog f) right)) (λ w. point (opens m) (t + (k + 5)) (ops ++ w ∷ []))
  or_case true m t ops v k right is test pop expect d =
      ends_at (omega arith) (λ w. refl)
      (does_where (λ c. c ≡ false) {g = λ _. pure (bool true)} (does_test (opens m) (t + 1 + 1) (t + 4 + k + 1) (ops ++ v ∷ []) (bool false) test) (λ r. refl)
      (λ c e. does_from (sym (ap (λ c. choose c (point (opens m) (t + 1 + 1 + 1) (ops ++ v ∷ [])) (point (opens m) (t + 4 + k + 1) (ops ++ v ∷ []))) e))
      (does_from (same_point (opens m) (omega arith) (ap (λ u. ops ++ u ∷ []) (sym is))) (does_pure {t = λ w. point (opens m) (t + (k + 5)) (ops ++ w ∷ [])} (bool true)))))
  or_case false m t ops v k right is test pop expect d =
      ends_at (omega arith) (λ w. same_point (opens m) (omega arith) refl)
      (does_where (λ c. c ≡ true) {g = λ _. calls.truth (run.calling prog f) right} (does_test (opens m) (t + 1 + 1) (t + 4 + k + 1) (ops ++ v ∷ []) (bool true) test) (λ r. refl)
      (λ c e. does_from (sym (ap (λ c. choose c (point (opens m) (t + 1 + 1 + 1) (ops ++ v ∷ [])) (point (opens m) (t + 4 + k + 1) (ops ++ v ∷ []))) e))
      (does_then (does_pop (opens m) (t + 1 + 1 + 1) ops v null pop) (λ _. does_from (same_point (opens m) (omega arith) refl) (truth_of m (t + 4) ops k right d expect)))))

  -- one operator, with the value on its left
  pub combines : (op : Joint) (m t : ℕ) (ops : List Value) (v : Value) (k : ℕ) (right : M Value Value) (rc : List Instr) → length rc ≡ k → Joins prog.p f.here op → Stands prog f t (linked op t rc k)
      → ((ops' : List Value) → Does prog f k (point (opens m) (right_at op t) ops') right (λ w. point (opens m) (right_at op t + k) (ops' ++ w ∷ [])))
      → Does prog f (k + joint_size op) (point (opens m) t (ops ++ v ∷ [])) (calls.combine (run.calling prog f) op v right) (λ w. point (opens m) (t + (k + joint_size op)) (ops ++ w ∷ []))
  combines joint.And m t ops v k right rc len is h d =
      let expect = (stands_back prog f (t + 1 + 1 + 1) (t + 3 + k) rc _ (omega (arith, len)) h.1.1.1).0 in
      ends_at (omega arith) (λ w. refl)
      (does_then (does_dup (opens m) t ops v null h.0)
      (λ _. does_where (λ go. v ≡ bool go) (does_test (opens m) (t + 1) (t + 3 + k + 1) (ops ++ v ∷ []) v h.1.0) (bool_is v)
      (λ go e. and_case go m t ops v k right e h.1.1.0 expect (d ops))))
  combines joint.Or m t ops v k right rc len is h d =
      let expect = (stands_back prog f (t + 1 + 1 + 1 + 1) (t + 4 + k) rc _ (omega (arith, len)) h.1.1.1.1).0 in
      ends_at (omega arith) (λ w. refl)
      (does_then (does_dup (opens m) t ops v null h.0)
      (λ _. does_where (λ go. v ≡ bool go) (does_not (opens m) (t + 1) (ops ++ v ∷ []) v h.1.0) (bool_is v)
      (λ go e. or_case go m t ops v k right e h.1.1.0 h.1.1.1.0 expect (d ops))))
  combines (joint.Operator op) m t ops v k right rc len is h d =
      let at = stands_back prog f t (t + k) rc _ (omega (arith, len)) h in
      ends_at (omega arith) (λ w. same_point (opens m) {t = t + k + operator_size op.operator} {u = t + (k + operator_size op.operator)} (omega arith) refl)
      (does_bind (d (ops ++ v ∷ [])) (λ u. combines_by op.operator op refl is (opens m) (t + k) ops v u at))

  -- `print`, with its value there
  pub printed : (m t : ℕ) (ops : List Value) (v : Value) → Stands prog f t (Call (d.site (length prog.p.sites - 2)) 0 ∷ ExpectString ∷ Emit ∷ Const (y.constant literals.Null) ∷ [])
      → Does prog f 4 (point (opens m) t (ops ++ v ∷ [])) (calls.print (run.calling prog f) v) (λ v. point (opens m) (t + 4) (ops ++ v ∷ []))
  printed m t ops v h =
      let last : (length prog.p.sites - 2) + 2 ≡ length prog.p.sites = omega (arith, prog.sound.prelude) in
      let is : selector_at prog.p (length prog.p.sites - 2) ≡ Some to_string =
      it_is kind.Call (codes "toString") 0 (selector_at prog.p (length prog.p.sites - 2)) (print_site prog.p ∣ prog.sound ∣₁ (length prog.p.sites - 2) last) in
      ends_at (omega arith) (λ w. same_point (opens m) {t = t + 1 + 1 + 1 + 1} {u = t + 4} (omega arith) refl)
      (does_then
      (does_bind (does_bind (does_send (opens m) t ops v [] (d.site (length prog.p.sites - 2)) to_string 0 is refl refl h.0) (λ w. does_expect_text (opens m) (t + 1) ops w h.1.0))
      (λ u. does_emit (opens m) (t + 1 + 1) ops u h.1.1.0))
      (λ _. does_const (opens m) (t + 1 + 1 + 1) ops (y.constant literals.Null) literals.Null h.1.1.1.0 y.null_known))
