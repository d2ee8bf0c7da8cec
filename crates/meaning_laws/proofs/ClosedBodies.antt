-- What holds of each step, and of steps put together, holds of the expressions and statements of a sound numbered program.
use Rattle.std.proofs.Common.{◌≡◌, ℕ, ◌<◌, subst, List, [], ◌∷◌, ◌++◌, refl}
use Rattle.std.specs.Prelude.{◌-◌, Bool, true, false, not, length, map, slice_get, drop, IsTrue, Option, Some, None, pos}
use Rattle.std.proofs.lemmas.Option.{slice_get_within}
use Rattle.program.specs.declared.body.OperatorCall.{OperatorCall}
use Rattle.program.specs.declared.body.Body.{Body}
use Rattle.program.specs.declared.body.Body.TheVariants as body
use Rattle.program.specs.declared.numbered.Class.{Class}
use Rattle.program.specs.Bodies as c
use Rattle.program.specs.Bodies.{Exp, Exps, Pieces, Calls, Links, Target, Update, First, Sta, Stas, count}
use Rattle.program.specs.BuiltIn.{is_open}
use Rattle.program.specs.declared.numbered.Selector.{Selector}
use Rattle.program.specs.Parts.{Parts}
use Rattle.program.specs.Sound.{AboveAccepts, MakeAccepts, Sound, AllSound, SoundPieces, SoundCalls, SoundLinks, SoundTarget, SoundUpdate, SoundFirst, Returns, SoundSta, SoundStas, SoundBody, after, after_first}
use Rattle.dart_values.specs.Values.{Value, null, bool, num, text, list}
use Rattle.dart_meaning.specs.Literals.{literal}
use Rattle.dart_meaning.specs.Program.{running}
use Rattle.dart_meaning.specs.Run.{Result, went, ended, and_then, M, ◌>>=◌, pure, change, choose, declare, scoped, onward, broke, continued, returned, answer}
use Rattle.dart_meaning.specs.Calls as calls
use Rattle.dart_meaning.specs.Numbered as n
use Rattle.dart_meaning.specs.Numbered.{Code, the_function, the_method, the_constructor, of_numbered, method_at, constructor_at, constructor_of, class_above, with_code, function_coded, Coded, coded_at, parameters, Destination, at_local, at_global, at_super, at_member, at_element, world, enter}
use Rattle.meaning_laws.proofs.Closed.{By, ClosedBy}
use Rattle.meaning_laws.proofs.Closed as h

-- ---- what a body does

-- P holds of each step of a body that a class holds, and of what it calls.
pub record ClosedCalls (p : Parts) (here : Option ℕ) (P : (A : Type 0) → By A → Type 0) : Type 1 where
  pub steps : ClosedBy p P
  pub sends : (site : ℕ) (sel : Selector) (v : Value) (args : List Value) → P _ (λ x. calls.send (world p x) site sel v args)
  pub functions : (f : ℕ) (args : List Value) → P _ (λ x. x (running (the_function f) null args))
  pub news : (class : ℕ) (args : List Value) → IsTrue (is_open class) → class < length p.classes → P _ (λ x. calls.make (world p x) class args)
  pub supers : (m count : ℕ) (args : List Value) → AboveAccepts p here m count (slice_get p.methods m) → P _ (λ x. n.above p x m args)

-- the same evaluation, with its parts bound in another order
in_order : {A B C : Type 0} (x : Result Value A) (g : A → M Value B) (f : B → M Value C) → and_then x (λ a r. and_then (g a r) f) ≡ and_then (and_then x g) f
in_order (went a r) g f = refl
in_order (ended e r) g f = refl

-- a member of `super` that a body reads, with no argument, or writes, with one
abbrev pub IsDestination : Parts → Option ℕ → ℕ → Destination → Type 0
IsDestination p here count (at_super m) = AboveAccepts p here m count (slice_get p.methods m)
IsDestination p here count (at_local slot) = Unit {0}
IsDestination p here count (at_global k) = Unit {0}
IsDestination p here count (at_member v k) = Unit {0}
IsDestination p here count (at_element v i k) = Unit {0}

module _ {p : Parts} {here : Option ℕ} {P : (A : Type 0) → By A → Type 0} (k : ClosedCalls p here P) where
  abbrev s : ClosedBy p P
  s = k.steps

  this_holds : P _ (λ x. n.this p x)
  this_holds = s.looks (λ r. r.this)

  send_holds : (site : ℕ) (v : Value) (args : List Value) → P _ (λ x. n.send p x site v args)
  send_holds site v args = k.sends site _ v args

  read_holds : (at : Destination) → IsDestination p here 0 at → P _ (λ x. n.read p x at)
  read_holds (at_local slot) ok = s.looks _
  read_holds (at_global g) ok = s.looks _
  read_holds (at_super m) ok = k.supers m 0 [] ok
  read_holds (at_member v site) ok = send_holds site v []
  read_holds (at_element v i site) ok = send_holds site v (i ∷ [])

  write_holds : (at : Destination) (w : Value) → IsDestination p here 1 at → P _ (λ x. n.write p x at w)
  write_holds (at_local slot) w ok = h.then_holds s (s.locals slot w) (s.answers null)
  write_holds (at_global g) w ok = h.then_holds s (s.globals g w) (s.answers null)
  write_holds (at_super m) w ok = k.supers m 1 (w ∷ []) ok
  write_holds (at_member v site) w ok = send_holds site v (w ∷ [])
  write_holds (at_element v i site) w ok = send_holds site v (i ∷ w ∷ [])

  assign_holds : {right : By Value} → P _ right → (to : Destination) → IsDestination p here 1 to → P _ (λ x. n.assign p x (right x) to)
  assign_holds r to ok = s.binds r (λ v. h.then_holds s (write_holds to v ok) (s.answers v))

  compound_assign_holds : (op : OperatorCall) {right : By Value} → P _ right → (at : Destination × Destination) → IsDestination p here 0 at.0 → IsDestination p here 1 at.1
      → P _ (λ x. n.compound_assign p x op (right x) at)
  compound_assign_holds op r at ok good =
      s.binds (read_holds at.0 ok) (λ old. s.binds r (λ v. s.binds (h.operate_holds s k.sends op old v) (λ w. h.then_holds s (write_holds at.1 w good) (s.answers w))))

  increment_holds : (is_before : Bool) (op : OperatorCall) (at : Destination × Destination) → IsDestination p here 0 at.0 → IsDestination p here 1 at.1
      → P _ (λ x. n.increment p x is_before op at)
  increment_holds is_before op at ok good =
      s.binds (read_holds at.0 ok) (λ old. s.binds (h.operate_holds s k.sends op old (num (pos 1))) (λ w. h.then_holds s (write_holds at.1 w good) (s.answers (choose is_before w old))))

  there : (class i : ℕ) (o : Option Class) → slice_get p.classes class ≡ o → MakeAccepts i o → class < length p.classes
  there class i (Some c) e a = slice_get_within p.classes class c e
  there class i None e a = absurd a

  mutual
    pub value : (e : Exp) (slots : ℕ) → Sound p here slots e → P _ (λ x. n.value p x e)
    value (c.constant l) slots ok = s.answers (literal l)
    value c.this slots ok = this_holds
    value (c.local slot) slots ok = s.looks _
    value (c.global g) slots ok = s.looks _
    value (c.interpolation units more) slots ok = s.binds (texts more slots ok) (λ rest. s.answers (text (units ++ rest)))
    value (c.call_function f args) slots ok = s.binds (values args slots ok.1) (λ vs. k.functions f vs)
    value (c.print e) slots ok = s.binds (value e slots ok) (h.print_holds s k.sends)
    value (c.new class args) slots ok =
        s.binds (values args slots ok.2) (λ vs. k.news class vs ok.0 (there class (count args) (slice_get p.classes class) refl ok.1))
    value (c.super m args) slots ok = s.binds (values args slots ok.2) (λ vs. k.supers m (count args) vs ok.1)
    value (c.list_of items) slots ok = s.binds (values items slots ok) (λ vs. s.makes (list vs) tt)
    value (c.postfix e more) slots ok = s.binds (value e slots ok.0) (λ v. called more slots v ok.1)
    value (c.chain e more) slots ok = s.binds (value e slots ok.0) (λ v. linked more slots v ok.1)
    value (c.not e) slots ok = s.binds (s.binds (value e slots ok) (h.need_bool_holds s)) (λ b. s.answers (bool (not b)))
    value (c.is e denied class) slots ok =
        s.binds (s.binds (value e slots ok.1) (λ v. h.is_of_holds s (of_numbered p) v class)) (λ holds. s.answers (bool (choose denied (not holds) holds)))
    value (c.conditional e y z) slots ok =
        s.binds (s.binds (value e slots ok.0) (h.need_bool_holds s)) (λ go. h.choose_holds s go (value y slots ok.1) (value z slots ok.2))
    value (c.assign to e) slots ok = destined to slots ok.0 (λ at x. n.assign p x (n.value p x e) at) (assign_holds (value e slots ok.1))
    value (c.compound_assign to op e) slots ok =
        updated to slots ok.0 (λ at x. n.compound_assign p x op (n.value p x e) at) (compound_assign_holds op (value e slots ok.2))
    value (c.increment is_before op to) slots ok = updated to slots ok.0 (λ at x. n.increment p x is_before op at) (increment_holds is_before op)
    value (c.throw e) slots ok = s.binds (value e slots ok) (h.throw_holds s (of_numbered p))

    pub values : (es : Exps) (slots : ℕ) → AllSound p here slots es → P _ (λ x. n.values p x es)
    values c.no_more slots ok = s.answers []
    values (c.also e more) slots ok = s.binds (value e slots ok.0) (λ v. s.binds (values more slots ok.1) (λ vs. s.answers (v ∷ vs)))

    texts : (ps : Pieces) (slots : ℕ) → SoundPieces p here slots ps → P _ (λ x. n.texts p x ps)
    texts c.no_piece slots ok = s.answers []
    texts (c.piece site e after more) slots ok =
        s.binds (value e slots ok.1) (λ v. s.binds (h.to_text_holds s k.sends site v) (λ shown. s.binds (texts more slots ok.2) (λ rest. s.answers (shown ++ (after ++ rest)))))

    called : (ks : Calls) (slots : ℕ) (v : Value) → SoundCalls p here slots ks → P _ (λ x. n.called p x v ks)
    called c.no_call slots v ok = s.answers v
    called (c.call site args more) slots v ok = s.binds (s.binds (values args slots ok.1) (send_holds site v)) (λ w. called more slots w ok.2)

    linked : (ls : Links) (slots : ℕ) (v : Value) → SoundLinks p here slots ls → P _ (λ x. n.linked p x v ls)
    linked c.no_link slots v ok = s.answers v
    linked (c.link op e more) slots v ok = s.binds (h.combine_holds s k.sends op v (value e slots ok.1)) (λ w. linked more slots w ok.2)

    -- what is done where a target leads
    destined : (to : Target) (slots : ℕ) → SoundTarget p here slots to → (f : Destination → By Value) → ((at : Destination) → IsDestination p here 1 at → P _ (f at))
        → P _ (λ x. n.destination p x to >>= (λ at. f at x))
    destined (c.to_local slot) slots ok f go = go (at_local slot) tt
    destined (c.to_global g) slots ok f go = go (at_global g) tt
    destined (c.to_super m) slots ok f go = go (at_super m) ok.1
    destined (c.to_member e site) slots ok f go =
        subst (P Value) (λ j x r. in_order (n.value p x e r) (λ v. pure (at_member v site)) (λ at. f at x) j) (s.binds (value e slots ok.1) (λ v. go (at_member v site) tt))
    destined (c.to_element e i site) slots ok f go =
        subst (P Value) (λ j x r. in_order (n.value p x e r) (λ v. n.value p x i >>= (λ w. pure (at_element v w site))) (λ at. f at x) j) (s.binds (value e slots ok.1) (λ v.
        subst (P Value) (λ j x r. in_order (n.value p x i r) (λ w. pure (at_element v w site)) (λ at. f at x) j) (s.binds (value i slots ok.2) (λ w. go (at_element v w site) tt))))

    updated : (to : Update) (slots : ℕ) → SoundUpdate p here slots to → (f : Destination × Destination → By Value)
        → ((at : Destination × Destination) → IsDestination p here 0 at.0 → IsDestination p here 1 at.1 → P _ (f at)) → P _ (λ x. n.destinations p x to >>= (λ at. f at x))
    updated (c.of_local slot) slots ok f go = go (at_local slot, at_local slot) tt tt
    updated (c.of_global g) slots ok f go = go (at_global g, at_global g) tt tt
    updated (c.of_super g m) slots ok f go = go (at_super g, at_super m) ok.0.1 ok.1.1
    updated (c.of_member e g m) slots ok f go =
        subst (P Value) (λ j x r. in_order (n.value p x e r) (λ v. pure (at_member v g, at_member v m)) (λ at. f at x) j) (s.binds (value e slots ok.2) (λ v. go (at_member v g, at_member v m) tt tt))
    updated (c.of_element e i g m) slots ok f go =
        subst (P Value) (λ j x r. in_order (n.value p x e r) (λ v. n.value p x i >>= (λ w. pure (at_element v w g, at_element v w m))) (λ at. f at x) j) (s.binds (value e slots ok.2) (λ v.
        subst (P Value) (λ j x r. in_order (n.value p x i r) (λ w. pure (at_element v w g, at_element v w m)) (λ at. f at x) j)
        (s.binds (value i slots ok.3) (λ w. go (at_element v w g, at_element v w m) tt tt))))

  pub test : (e : Exp) (slots : ℕ) → Sound p here slots e → P _ (λ x. n.test p x e)
  test e slots ok = s.binds (value e slots ok) (h.need_bool_holds s)

  -- `return` answers null in a constructor
  pub returns : (e : Exp) (answers : Bool) (slots : ℕ) → Returns p here answers slots e → P _ (λ x. n.value p x e)
  returns e true slots ok = value e slots ok
  returns (c.constant l) false slots ok = s.answers (literal l)
  returns _ false slots ok = absurd ok

  -- ---- statements

  module _ (varies : (g : List Value → List Value) → P _ (λ _. change (λ r. record r { vars = g r.vars }))) where
    declare_holds : (v : Value) → P _ (λ _. declare v)
    declare_holds v = varies (λ vars. v ∷ vars)

    scoped_holds : {A : Type 0} {m : By A} → P _ m → P _ (λ x. scoped (m x))
    scoped_holds m = s.binds (s.looks _) (λ before. s.binds m (λ a. s.binds (varies (λ vars. drop (length vars - before) vars)) (λ _. s.answers a)))

    first : (f : First) (slots : ℕ) → SoundFirst p here slots f → P _ (λ x. n.first p x f)
    first c.no_first slots ok = s.answers tt
    first (c.first_declares e) slots ok = s.binds (value e slots ok) declare_holds
    first (c.first_runs e) slots ok = h.then_holds s (value e slots ok) (s.answers tt)

    module _ (answers : Bool) where
      mutual
        pub doing : (y : Sta) (slots : ℕ) (loops : Bool) → SoundSta p here answers slots loops y → P _ (λ x. n.doing p x y)
        doing (c.block all) slots loops ok = scoped_holds (doing_all all slots loops ok)
        doing (c.declare e) slots loops ok = h.then_holds s (s.binds (value e slots ok) declare_holds) (s.answers onward)
        doing (c.run e) slots loops ok = h.then_holds s (value e slots ok) (s.answers onward)
        doing c.empty slots loops ok = s.answers onward
        doing (c.when e y) slots loops ok = s.binds (test e slots ok.0) (λ go. h.choose_holds s go (scoped_holds (doing y slots loops ok.1)) (s.answers onward))
        doing (c.when_else e y z) slots loops ok =
            s.binds (test e slots ok.0) (λ go. h.choose_holds s go (scoped_holds (doing y slots loops ok.1)) (scoped_holds (doing z slots loops ok.2)))
        doing (c.while e y) slots loops ok = h.while_holds s (test e slots ok.0) (scoped_holds (doing y slots true ok.1)) (s.answers tt)
        doing (c.do_while y e) slots loops ok = h.do_holds s (scoped_holds (doing y slots true ok.0)) (test e slots ok.1)
        doing (c.for start e last y) slots loops ok =
            scoped_holds (h.then_holds s (first start slots ok.0)
            (h.while_holds s (test e (after_first slots start) ok.1) (scoped_holds (doing y (after_first slots start) true ok.3))
            (h.then_holds s (values last (after_first slots start) ok.2) (s.answers tt))))
        doing c.break slots loops ok = s.answers broke
        doing c.continue slots loops ok = s.answers continued
        doing (c.return e) slots loops ok = s.binds (returns e answers slots ok) (λ v. s.answers (returned v))

        pub doing_all : (ys : Stas) (slots : ℕ) (loops : Bool) → SoundStas p here answers slots loops ys → P _ (λ x. n.doing_all p x ys)
        doing_all c.end_of slots loops ok = s.answers onward
        doing_all (c.next y more) slots loops ok = s.binds (doing y slots loops ok.0) (λ flow. h.if_onward_holds s flow (doing_all more (after slots y) loops ok.1))

    pub body_value : (b : Body) (slots : ℕ) → SoundBody p here slots b → P _ (λ x. n.body_value p x b)
    body_value (body.Arrow e) slots ok = value (c.exp e) slots ok
    body_value (body.Block all) slots ok = s.binds (doing_all true (c.stas (map c.sta all)) slots false ok) (λ flow. s.answers (answer flow))
