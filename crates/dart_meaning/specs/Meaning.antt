-- What a tree does, by names: the meaning of its expressions, statements and bodies.
use Rattle.std.specs.Prelude.{ℕ, suc, pos, Bool, true, false, not, if◌then◌else◌, List, [], ◌∷◌, ◌++◌, reverse, slice_index_or, slice_set, Option, Some, None, is_some, unwrap_or, codes}
use Rattle.std.specs.Option.{option_map, option_and_then}
use Rattle.std.specs.Str.{bytes_eq}
use Rattle.dart_syntax.specs.declared.token.Span.{Span}
use Rattle.dart_syntax.specs.declared.tree.Name.{Name}
use Rattle.dart_syntax.specs.declared.tree.Unary.{Unary}
use Rattle.dart_syntax.specs.declared.tree.Unary.TheVariants as u
use Rattle.dart_syntax.specs.Syntax as t
use Rattle.dart_syntax.specs.Syntax.{Tree, Exp, Exps, Pieces, Links, Selectors, Selector as Selecting, Local, First, Sta, Stas, Param, Body, Function}
use Rattle.program.specs.declared.numbered.Selector.{Selector}
use Rattle.program.specs.declared.body.BinaryOperator.{BinaryOperator}
use Rattle.dart_syntax.specs.declared.tree.Assignment.{Assignment}
use Rattle.dart_values.specs.declared.fault.Trap.TheVariants as trap
use Rattle.dart_values.specs.Values.{Text, Value, null, bool, num, text, list}
use Rattle.dart_meaning.specs.Place.{Place, reading, writing, in_print, in_list}
use Rattle.dart_meaning.specs.Operators.{joint_of, operator_call, compound, step_operator}
use Rattle.dart_meaning.specs.Literals.{literal, negated, literal_or_null}
use Rattle.dart_meaning.specs.Program.{Entry, running, resolve, calling, getting, setting}
use Rattle.dart_meaning.specs.Classes.{Code, body_of, Constructor, object, parent, class_declares, class_number, is_constructed, field_place, function_named, variable_place, of_tree}
use Rattle.dart_meaning.specs.Run.{Run, M, ◌>>=◌, ◌>>◌, pure, trapped, look, change, choose, need_bool, new, set_field, declare, scoped, framed, in_store, Flow, onward, broke, continued, returned, if_onward, answer, while_loop, do_loop}
use Rattle.dart_meaning.specs.Calls as calls
use Rattle.dart_meaning.specs.Calls.{World}

-- a variable of a body
pub record Bound : Type 0 where
  pub name : Text
  pub holds : Value

abbrev pub bound : Text → Value → Bound
bound name v = record { name = name; holds = v }

-- what the newest variable of a name holds
abbrev pub find : Text → List Bound → Option Value
find name [] = None
find name (b ∷ more) = if bytes_eq b.name name then Some b.holds else find name more

-- the newest variable of a name holds v now
abbrev pub put : Text → Value → List Bound → List Bound
put name v [] = []
put name v (b ∷ more) = if bytes_eq b.name name then record b { holds = v } ∷ more else b ∷ put name v more

-- Each parameter is bound to its argument, or to its default where no argument stands.
abbrev pub bind : List Param → List Value → List Bound
bind [] args = []
bind (p ∷ more) [] = bound p.name.text (literal_or_null p.default) ∷ bind more []
bind (p ∷ more) (v ∷ args) = bound p.name.text v ∷ bind more args

-- how many arguments there are
abbrev pub count : Exps → ℕ
count t.no_more = 0
count (t.also e more) = suc (count more)

-- What a bare name is of: the body, as a local or a parameter; `this`, as a member; the unit, as a variable.
pub data Owner : Type 0 where
  of_body of_this of_unit : Owner

-- A local or a parameter comes first, then a member that the enclosing class declares, then a variable; else the name is one of `this`.
abbrev pub owner_by : Bool → Bool → Bool → Owner
owner_by true is_member is_variable = of_body
owner_by false true is_variable = of_this
owner_by false false true = of_unit
owner_by false false false = of_this

-- what is read or written, with its receiver and index evaluated
pub data Destination : Type 0 where
  at_local at_unit at_super : Name → Destination
  at_member : Value → Name → Destination
  at_element : Value → Span → Value → Destination

-- In a constructor's body the name of a parameter `this.x` means the field, so the variable has no name there. The last parameter is the newest variable.
abbrev pub unnamed : List Param → List Bound → List Bound
unnamed (p ∷ more) (b ∷ vars) = choose p.is_field (record b { name = [] }) b ∷ unnamed more vars
unnamed _ vars = vars

-- `site_of` numbers the sites. `here` is the class that holds the text, if any. `enter` does what stands one level deeper.
module _ (tree : Tree) (site_of : Place → ℕ) (here : Option Text) (enter : Entry Code → M Bound Value) where
  -- the tree as calls see it, with the two sites of the prelude
  abbrev pub world : World Bound Code
  world = record { program = of_tree tree; print_site = site_of in_print; list_site = site_of in_list; enter = enter }

  abbrev pub this : M Bound Value
  this = look (λ r. r.this)

  -- ---- calls through sites

  -- the site at a token
  abbrev pub site : Span → ℕ
  site span = site_of (reading span.start)

  -- the site at a token that is written
  abbrev pub writing_site : Span → ℕ
  writing_site span = site_of (writing span.start)

  -- a member that is read
  abbrev pub get : Name → Value → M Bound Value
  get n v = calls.send world (site n.span) (getting n.text) v []

  -- a member that is called with k arguments
  abbrev pub call_member : Name → ℕ → Value → List Value → M Bound Value
  call_member n k v args = calls.send world (site n.span) (calling n.text k) v args

  -- an index that is read, at its bracket
  abbrev pub element : Span → Value → Value → M Bound Value
  element span v i = calls.send world (site span) (calling (codes "[]") 1) v (i ∷ [])

  -- an operator before its operand; `!` calls none
  abbrev pub prefixed : Unary → Span → Value → M Bound Value
  prefixed u.Minus span v = calls.send world (site span) (calling (codes "unary-") 0) v []
  prefixed u.Complement span v = calls.send world (site span) (calling (codes "~") 0) v []
  prefixed u.Not span v = need_bool v >>= (λ x. pure (bool (not x)))

  -- A member of `super` is the first one with a body above the class that holds the text. No cell is asked.
  abbrev pub class_above : ℕ
  class_above = class_number tree (unwrap_or (option_and_then (parent tree) here) object)

  abbrev pub super_member : Selector → List Value → M Bound Value
  super_member sel args = this >>= (λ me. calls.reach world (resolve (of_tree tree) class_above sel) sel me args)

  -- ---- names and what is assigned to

  abbrev pub owner_of : Run Bound → Text → Owner
  owner_of r name = owner_by (is_some (find name r.vars)) (class_declares tree here name) (is_some (variable_place tree name))

  abbrev pub destination_of : Owner → Name → M Bound Destination
  destination_of of_body n = pure (at_local n)
  destination_of of_unit n = pure (at_unit n)
  destination_of of_this n = this >>= (λ me. pure (at_member me n))

  -- what a bare name reads or writes, by the variables that are open now
  abbrev pub bare : Name → M Bound Destination
  bare n = look (λ r. owner_of r n.text) >>= (λ owner. destination_of owner n)

  -- the place of a variable of the unit
  abbrev pub variable : Name → ℕ
  variable n = unwrap_or (variable_place tree n.text) 0

  abbrev pub read : Destination → M Bound Value
  read (at_local n) = look (λ r. unwrap_or (find n.text r.vars) null)
  read (at_unit n) = look (λ r. slice_index_or r.store.globals (variable n) null)
  read (at_super n) = super_member (getting n.text) []
  read (at_member v n) = get n v
  read (at_element v span i) = element span v i

  -- What a setter, `[]=` or `noSuchMethod` answers is dropped.
  abbrev pub write : Destination → Value → M Bound Value
  write (at_local n) w = change (λ r. record r { vars = put n.text w r.vars }) >> pure null
  write (at_unit n) w = change (in_store (λ s. record s { globals = slice_set s.globals (variable n) w })) >> pure null
  write (at_super n) w = super_member (setting n.text) (w ∷ [])
  write (at_member v n) w = calls.send world (writing_site n.span) (setting n.text) v (w ∷ [])
  write (at_element v span i) w = calls.send world (writing_site span) (calling (codes "[]=") 2) v (i ∷ w ∷ [])

  -- A compound assignment reads, evaluates the right side, calls the operator, and writes; its value is the operator's answer.
  abbrev pub assign : Option BinaryOperator → Span → Destination → M Bound Value → M Bound Value
  assign None span to right = do
    v ← right
    write to v
    pure v
  assign (Some op) span to right = do
    old ← read to
    v ← right
    w ← calls.operate world (operator_call op (site span)) old v
    write to w
    pure w

  -- `++` and `--` add or take 1; the value is the new one before the target, and the old one behind it.
  abbrev pub increment : Bool → BinaryOperator → Span → Destination → M Bound Value
  increment is_before op span to = do
    old ← read to
    w ← calls.operate world (operator_call op (site span)) old (num (pos 1))
    write to w
    pure (choose is_before w old)

  -- ---- bare calls

  -- a call of a member of `this`; the arguments are evaluated behind it
  abbrev pub call_this : Name → ℕ → M Bound (List Value) → M Bound Value
  call_this n k args = this >>= (λ me. args >>= call_member n k me)

  -- a function, else a class, else `print`, else a member of `this`
  abbrev pub call_unit : Name → ℕ → M Bound (List Value) → Option Function → M Bound Value
  call_unit n k args (Some f) = args >>= (λ vs. enter (running (body_of None f.params f.body) null vs))
  call_unit n k args None =
      choose (is_constructed tree n.text) (args >>= calls.make world (class_number tree n.text))
      (choose (bytes_eq n.text (codes "print")) (args >>= (λ vs. calls.print world (calls.argument 0 vs))) (call_this n k args))

  -- A member that the enclosing class declares comes before all of these.
  abbrev pub call_bare : Name → ℕ → M Bound (List Value) → M Bound Value
  call_bare n k args = choose (class_declares tree here n.text) (call_this n k args) (call_unit n k args (function_named tree n.text))

  -- ---- expressions

  -- No tree has an assignment to anything else.
  abbrev pub no_destination : M Bound Destination
  no_destination = trapped trap.TypeFault

  abbrev mutual
    pub value : Exp → M Bound Value
    value (t.null span) = pure null
    value (t.bool x span) = pure (bool x)
    value (t.int n span) = pure (num n)
    value (t.min_int span) = pure null
    value (t.this span) = this
    value (t.str units span) = pure (text units)
    value (t.joined units span more) = texts span more >>= (λ rest. pure (text (units ++ rest)))
    value (t.bare n) = bare n >>= read
    value (t.call n args) = call_bare n (count args) (values args)
    value (t.super_get span n) = super_member (getting n.text) []
    value (t.super_call span n args) = values args >>= super_member (calling n.text (count args))
    value (t.paren e) = value e
    value (t.list span items) = values items >>= (λ vs. new (list vs))
    value (t.postfix e more) = value e >>= (λ v. selected v more)
    value (t.step is_before op span to) = destination to >>= increment is_before (step_operator op) span
    value (t.unary op span e) = unwrap_or (option_map (λ k. pure (literal k)) (negated op e)) (value e >>= prefixed op span)
    value (t.chain e more) = value e >>= (λ v. linked v more)
    value (t.is e denied span n) =
        value e >>= (λ v. calls.is_of (of_tree tree) v (class_number tree n.text)) >>= (λ holds. pure (bool (choose denied (not holds) holds)))
    value (t.choice c x y) = value c >>= need_bool >>= (λ go. choose go (value x) (value y))
    value (t.assign to op span e) = destination to >>= (λ at. assign (compound op) span at (value e))
    value (t.throw span e) = value e >>= calls.throw (of_tree tree)

    -- from left to right
    pub values : Exps → M Bound (List Value)
    values t.no_more = pure []
    values (t.also e more) = value e >>= (λ v. values more >>= (λ vs. pure (v ∷ vs)))

    -- Each interpolation is evaluated, and its `toString` is called at once. Its site stands at the piece of the string before it.
    pub texts : Span → Pieces → M Bound Text
    texts span t.no_piece = pure []
    texts span (t.piece e after next more) = do
      v ← value e
      shown ← calls.to_text world (site span) v
      rest ← texts next more
      pure (shown ++ (after ++ rest))

    -- the operators of a chain
    pub linked : Value → Links → M Bound Value
    linked v t.no_link = pure v
    linked v (t.link op span e more) = calls.combine world (joint_of op (site span)) v (value e) >>= (λ w. linked w more)

    -- selectors, each on what the one before it answered
    pub selected : Value → Selectors → M Bound Value
    selected v t.no_selector = pure v
    selected v (t.select s more) = select s v >>= (λ w. selected w more)

    pub select : Selecting → Value → M Bound Value
    select (t.get n) v = get n v
    select (t.send n args) v = values args >>= call_member n (count args) v
    select (t.index span e) v = value e >>= element span v

    -- a name, a member of `super`, or what the last selector names
    pub destination : Exp → M Bound Destination
    destination (t.bare n) = bare n
    destination (t.super_get span n) = pure (at_super n)
    destination (t.postfix e more) = value e >>= (λ v. last_of v more)
    destination _ = no_destination

    -- what the last selector names, on what those before it answer
    pub last_of : Value → Selectors → M Bound Destination
    last_of v t.no_selector = no_destination
    last_of v (t.select s t.no_selector) = named_by s v
    last_of v (t.select s (t.select x more)) = select s v >>= (λ w. last_of w (t.select x more))

    pub named_by : Selecting → Value → M Bound Destination
    named_by (t.get n) v = pure (at_member v n)
    named_by (t.send n args) v = no_destination
    named_by (t.index span e) v = value e >>= (λ i. pure (at_element v span i))

  -- a condition has to be a bool
  abbrev pub test : Exp → M Bound Bool
  test e = value e >>= need_bool

  -- null where nothing stands
  abbrev pub value_if : Option Exp → M Bound Value
  value_if None = pure null
  value_if (Some e) = value e

  -- A `for` without a condition goes on.
  abbrev pub test_if : Option Exp → M Bound Bool
  test_if None = pure true
  test_if (Some e) = test e

  -- ---- statements

  -- without a value it holds null
  abbrev pub local : Local → M Bound (Unit {0})
  local l = value_if l.value >>= (λ v. declare (bound l.name.text v))

  abbrev pub first : First → M Bound (Unit {0})
  first t.nothing = pure tt
  first (t.local_first l) = local l
  first (t.run_first e) = value e >> pure tt

  -- A block drops its locals. A branch and a loop's body are blocks, and so is a `for` with its first part.
  abbrev mutual
    pub doing : Sta → M Bound Flow
    doing (t.block all) = scoped (doing_all all)
    doing (t.local l) = local l >> pure onward
    doing (t.run e) = value e >> pure onward
    doing t.empty = pure onward
    doing (t.when c x) = test c >>= (λ go. choose go (scoped (doing x)) (pure onward))
    doing (t.when_else c x y) = test c >>= (λ go. choose go (scoped (doing x)) (scoped (doing y)))
    doing (t.while c body) = while_loop (test c) (scoped (doing body)) (pure tt)
    doing (t.do_while body c) = do_loop (scoped (doing body)) (test c)
    doing (t.for start c last body) = scoped (first start >> while_loop (test_if c) (scoped (doing body)) (values last >> pure tt))
    doing (t.break span) = pure broke
    doing (t.continue span) = pure continued
    doing (t.return span e) = value_if e >>= (λ v. pure (returned v))

    pub doing_all : Stas → M Bound Flow
    doing_all t.done = pure onward
    doing_all (t.next x more) = doing x >>= (λ f. if_onward f (doing_all more))

  -- ---- bodies

  -- An arrow answers its expression; a block what it returns, and else null.
  abbrev pub body_value : Body → M Bound Value
  body_value (t.arrow e) = value e
  body_value (t.code all) = doing_all all >>= (λ f. pure (answer f))

  -- The parameters `this.x` set their fields.
  abbrev pub set_fields : Text → Value → List Param → List Bound → M Bound (Unit {0})
  set_fields class me (p ∷ more) (b ∷ vars) =
      choose p.is_field (set_field me (field_place tree class p.name.text) b.holds) (pure tt) >> set_fields class me more vars
  set_fields class me _ _ = pure tt

  -- All that a constructor does has one frame, with each parameter as a variable. It sets its fields, evaluates what it passes on, enters the superclass's constructor, and runs its body.
  abbrev pub building : Text → Constructor → Value → List Bound → M Bound Value
  building class c me vars = do
    set_fields class me c.params vars
    passed ← values c.passes
    calls.construct world ((of_tree tree).constructor class_above) me passed
    change (λ r. record r { vars = unnamed (reverse c.params) r.vars })
    doing_all c.body
    pure me

  -- a constructor with a frame of its own
  abbrev pub build : Text → Constructor → Value → List Bound → M Bound Value
  build class c me vars = framed (reverse vars) me (building class c me vars)
