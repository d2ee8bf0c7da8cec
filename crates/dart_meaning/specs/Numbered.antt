-- What a numbered program does: the same meaning, with slots and numbers in place of names.
use Rattle.std.specs.Prelude.{ℕ, zero, suc, ◌-◌, pos, Bool, not, nat_eq, List, [], ◌∷◌, ◌++◌, length, map, flat_map, reverse, replicate, slice_get, slice_set, slice_index_or, Option, Some, None, unwrap_or}
use Rattle.std.specs.Option.{option_map, option_and_then}
use Rattle.program.specs.declared.literal.Literal.{Literal}
use Rattle.program.specs.declared.body.OperatorCall.{OperatorCall}
use Rattle.program.specs.declared.body.Body.{Body}
use Rattle.program.specs.declared.body.Body.TheVariants as body
use Rattle.program.specs.declared.numbered.Class.{Class}
use Rattle.program.specs.declared.numbered.Constructor.{Constructor}
use Rattle.program.specs.declared.numbered.Field.{Field}
use Rattle.program.specs.declared.numbered.Function.{Function}
use Rattle.program.specs.declared.numbered.Method.{Method}
use Rattle.program.specs.declared.numbered.MethodBody.{MethodBody}
use Rattle.program.specs.declared.numbered.MethodBody.TheVariants as does
use Rattle.program.specs.Bodies as c
use Rattle.program.specs.Bodies.{Exp, Exps, Pieces, Calls, Links, Target, Update, First, Sta, Stas}
use Rattle.program.specs.Hierarchy as hierarchy
use Rattle.program.specs.Lookup.{found_by}
use Rattle.program.specs.Parts.{Parts, parents, supers, selector_at}
use Rattle.dart_values.specs.Values.{Text, Value, null, bool, num, text, list}
use Rattle.dart_values.specs.Reads.{class_name}
use Rattle.dart_meaning.specs.Program.{Program, Found, built_in, reads, writes, coded, Entry, running, listing, to_string}
use Rattle.dart_meaning.specs.Run.{Result, M, ◌>>=◌, ◌>>◌, pure, stop, stack_overflow, look, change, choose, spend, need_bool, new, set_field, declare, scoped, framed, in_store, Flow, onward, broke, continued, returned, if_onward, answer, while_loop, do_loop}
use Rattle.dart_meaning.specs.Calls as calls
use Rattle.dart_meaning.specs.Calls.{World}
use Rattle.dart_meaning.specs.Classes.{if_so}
use Rattle.dart_meaning.specs.Literals.{literal}
use Rattle.dart_meaning.specs.Entry.{Meaning, seen, start, greatest_depth}

-- The code of a function, of a member, or of a class's constructor, by its number.
pub data Code : Type 0 where
  the_function the_method the_constructor : ℕ → Code

-- ---- a program, as calls see it

-- what member m does
abbrev pub method_found : ℕ → MethodBody → Found Code
method_found m (does.Native n) = built_in n.0
method_found m (does.ReadField field) = reads field
method_found m (does.WriteField field) = writes field
method_found m (does.Code b) = coded (the_method m)

-- what member number m does, if there is one
abbrev pub method_at : Parts → ℕ → Option (Found Code)
method_at p m = option_map (λ (k : Method). method_found m k.body) (slice_get p.methods m)

-- what the fields begin with that a class itself declares
abbrev pub own_values : Parts → ℕ → List Value
own_values p class = unwrap_or (option_map (λ (k : Class). map (λ (f : Field). literal f.value) k.fields) (slice_get p.classes class)) []

-- the fields of a new object, the highest class's before all
abbrev pub fields : Parts → ℕ → List Value
fields p class = flat_map (own_values p) (reverse (hierarchy.chain (parents p.classes) class))

-- the constructor of a class, by the class's number; Object's is not entered
abbrev pub constructor_at : ℕ → Option Code
constructor_at class = if_so (not (nat_eq class 0)) (the_constructor class)

-- what calls ask of a numbered program
abbrev pub of_numbered : Parts → Program Code
of_numbered p = record {
  lookup = λ class sel. option_and_then (method_at p) (found_by p class sel);
  class_name = class_name p.classes;
  is_subtype = λ a b. hierarchy.is_subtype (supers p.classes) a b;
  fields = fields p;
  constructor = constructor_at;
}

-- a written constructor, if there is one
abbrev pub constructor_of : Parts → ℕ → Option Constructor
constructor_of p class = option_and_then (λ (k : Class). k.constructor) (slice_get p.classes class)

-- a body with its parameters: the number of the required ones, and the defaults of the others
pub record Coded : Type 0 where
  pub required : ℕ
  pub defaults : List Literal
  pub body : Body

-- a member's code with its parameters; a built-in member and a field have none
abbrev pub with_code : ℕ → List Literal → MethodBody → Option Coded
with_code required defaults (does.Code b) = Some (record { required = required; defaults = defaults; body = b })
with_code required defaults _ = None

-- a function's body with its parameters
abbrev pub function_coded : Function → Coded
function_coded k = record { required = k.required; defaults = k.defaults; body = k.body }

-- the body of a function or a member; a constructor has one of another form
abbrev pub coded_at : Parts → Code → Option Coded
coded_at p (the_function f) = option_map function_coded (slice_get p.functions f)
coded_at p (the_method m) = option_and_then (λ (k : Method). with_code k.required k.defaults k.body) (slice_get p.methods m)
coded_at p (the_constructor class) = None

-- the number of the class directly above one
abbrev pub class_above : Parts → ℕ → ℕ
class_above p class = unwrap_or (hierarchy.parent_in (parents p.classes) class) 0

-- ---- variables

-- each parameter's argument, or its default where no argument stands
abbrev pub filled : List Value → List Value → List Value
filled [] args = []
filled (d ∷ defaults) [] = d ∷ filled defaults []
filled (d ∷ defaults) (v ∷ args) = v ∷ filled defaults args

-- what a body's parameters hold: the arguments, and then the defaults of those that are left
abbrev pub parameters : ℕ → List Literal → List Value → List Value
parameters required defaults args = filled (replicate required null ++ map literal defaults) args

-- the place of a slot, which is counted from the oldest variable
abbrev pub place_of_slot : List Value → ℕ → ℕ
place_of_slot vars slot = length vars - suc slot

-- what is read or written, with its receiver and index evaluated: a member of `super` by its number, and else the site that calls
pub data Destination : Type 0 where
  at_local at_global at_super : ℕ → Destination
  at_member : Value → ℕ → Destination
  at_element : Value → Value → ℕ → Destination

module _ (p : Parts) (enter : Entry Code → M Value Value) where
  -- The last two sites are those of `print` and of a list's text.
  abbrev pub world : World Value Code
  world = record { program = of_numbered p; print_site = length p.sites - 2; list_site = length p.sites - 1; enter = enter }

  abbrev pub this : M Value Value
  this = look (λ r. r.this)

  -- a call through a site, by the site's selector
  abbrev pub send : ℕ → Value → List Value → M Value Value
  send site v args = calls.send world site (unwrap_or (selector_at p site) to_string) v args

  -- a member of the superclass, by its number; no cell is asked
  abbrev pub member_if : Option (Found Code) → List Value → M Value Value
  member_if None args = pure null
  member_if (Some found) args = this >>= (λ me. calls.do_member world found me args)

  abbrev pub above : ℕ → List Value → M Value Value
  above m args = member_if (method_at p m) args

  abbrev pub local : ℕ → M Value Value
  local slot = look (λ r. slice_index_or r.vars (place_of_slot r.vars slot) null)

  abbrev pub global : ℕ → M Value Value
  global k = look (λ r. slice_index_or r.store.globals k null)

  abbrev pub read : Destination → M Value Value
  read (at_local slot) = local slot
  read (at_global k) = global k
  read (at_super m) = above m []
  read (at_member v s) = send s v []
  read (at_element v i s) = send s v (i ∷ [])

  abbrev pub write : Destination → Value → M Value Value
  write (at_local slot) w = change (λ r. record r { vars = slice_set r.vars (place_of_slot r.vars slot) w }) >> pure null
  write (at_global k) w = change (in_store (λ s. record s { globals = slice_set s.globals k w })) >> pure null
  write (at_super m) w = above m (w ∷ [])
  write (at_member v s) w = send s v (w ∷ [])
  write (at_element v i s) w = send s v (i ∷ w ∷ [])

  abbrev pub assign : M Value Value → Destination → M Value Value
  assign right to = do
    v ← right
    write to v
    pure v

  -- `at` is where it is read and where it is written.
  abbrev pub compound_assign : OperatorCall → M Value Value → Destination × Destination → M Value Value
  compound_assign op right at = do
    old ← read at.0
    v ← right
    w ← calls.operate world op old v
    write at.1 w
    pure w

  abbrev pub increment : Bool → OperatorCall → Destination × Destination → M Value Value
  increment is_before op at = do
    old ← read at.0
    w ← calls.operate world op old (num (pos 1))
    write at.1 w
    pure (choose is_before w old)

  abbrev mutual
    pub value : Exp → M Value Value
    value (c.constant k) = pure (literal k)
    value c.this = this
    value (c.local slot) = local slot
    value (c.global k) = global k
    value (c.interpolation units more) = texts more >>= (λ rest. pure (text (units ++ rest)))
    value (c.call_function f args) = values args >>= (λ vs. enter (running (the_function f) null vs))
    value (c.print e) = value e >>= calls.print world
    value (c.new class args) = values args >>= calls.make world class
    value (c.super m args) = values args >>= above m
    value (c.list_of items) = values items >>= (λ vs. new (list vs))
    value (c.postfix e more) = value e >>= (λ v. called v more)
    value (c.chain e more) = value e >>= (λ v. linked v more)
    value (c.not e) = value e >>= need_bool >>= (λ x. pure (bool (not x)))
    value (c.is e denied class) =
        value e >>= (λ v. calls.is_of (of_numbered p) v class) >>= (λ holds. pure (bool (choose denied (not holds) holds)))
    value (c.conditional x y z) = value x >>= need_bool >>= (λ go. choose go (value y) (value z))
    value (c.assign to e) = destination to >>= assign (value e)
    value (c.compound_assign to op e) = destinations to >>= compound_assign op (value e)
    value (c.increment is_before op to) = destinations to >>= increment is_before op
    value (c.throw e) = value e >>= calls.throw (of_numbered p)

    pub values : Exps → M Value (List Value)
    values c.no_more = pure []
    values (c.also e more) = value e >>= (λ v. values more >>= (λ vs. pure (v ∷ vs)))

    pub texts : Pieces → M Value Text
    texts c.no_piece = pure []
    texts (c.piece site e after more) = do
      v ← value e
      shown ← calls.to_text world site v
      rest ← texts more
      pure (shown ++ (after ++ rest))

    -- calls, each on what the one before it answered
    pub called : Value → Calls → M Value Value
    called v c.no_call = pure v
    called v (c.call site args more) = values args >>= send site v >>= (λ w. called w more)

    pub linked : Value → Links → M Value Value
    linked v c.no_link = pure v
    linked v (c.link op e more) = calls.combine world op v (value e) >>= (λ w. linked w more)

    pub destination : Target → M Value Destination
    destination (c.to_local slot) = pure (at_local slot)
    destination (c.to_global k) = pure (at_global k)
    destination (c.to_super m) = pure (at_super m)
    destination (c.to_member e s) = value e >>= (λ v. pure (at_member v s))
    destination (c.to_element e i s) = value e >>= (λ v. value i >>= (λ w. pure (at_element v w s)))

    -- where it is read, and where it is written; receiver and index are evaluated once
    pub destinations : Update → M Value (Destination × Destination)
    destinations (c.of_local slot) = pure (at_local slot, at_local slot)
    destinations (c.of_global k) = pure (at_global k, at_global k)
    destinations (c.of_super g m) = pure (at_super g, at_super m)
    destinations (c.of_member e g s) = value e >>= (λ v. pure (at_member v g, at_member v s))
    destinations (c.of_element e i g s) = value e >>= (λ v. value i >>= (λ w. pure (at_element v w g, at_element v w s)))

  -- a condition has to be a bool
  abbrev pub test : Exp → M Value Bool
  test e = value e >>= need_bool

  abbrev pub first : First → M Value (Unit {0})
  first c.no_first = pure tt
  first (c.first_declares e) = value e >>= declare
  first (c.first_runs e) = value e >> pure tt

  abbrev mutual
    pub doing : Sta → M Value Flow
    doing (c.block all) = scoped (doing_all all)
    doing (c.declare e) = value e >>= declare >> pure onward
    doing (c.run e) = value e >> pure onward
    doing c.empty = pure onward
    doing (c.when e x) = test e >>= (λ go. choose go (scoped (doing x)) (pure onward))
    doing (c.when_else e x y) = test e >>= (λ go. choose go (scoped (doing x)) (scoped (doing y)))
    doing (c.while e x) = while_loop (test e) (scoped (doing x)) (pure tt)
    doing (c.do_while x e) = do_loop (scoped (doing x)) (test e)
    doing (c.for start e last x) = scoped (first start >> while_loop (test e) (scoped (doing x)) (values last >> pure tt))
    doing c.break = pure broke
    doing c.continue = pure continued
    doing (c.return e) = value e >>= (λ v. pure (returned v))

    pub doing_all : Stas → M Value Flow
    doing_all c.end_of = pure onward
    doing_all (c.next x more) = doing x >>= (λ f. if_onward f (doing_all more))

  abbrev pub body_value : Body → M Value Value
  body_value (body.Arrow e) = value (c.exp e)
  body_value (body.Block all) = doing_all (c.stas (map c.sta all)) >>= (λ f. pure (answer f))

  -- The parameters `this.x` set their fields.
  abbrev pub set_fields : Value → List (Option ℕ) → List Value → M Value (Unit {0})
  set_fields me (Some field ∷ more) (v ∷ args) = set_field me field v >> set_fields me more args
  set_fields me (None ∷ more) (v ∷ args) = set_fields me more args
  set_fields me _ _ = pure tt

  -- A constructor sets its fields, evaluates what it passes on, enters the superclass's constructor, and runs its body, all in one frame.
  abbrev pub building : ℕ → List (Option ℕ) → Exps → Stas → Value → List Value → M Value Value
  building class sets passes all me vars = do
    set_fields me sets vars
    passed ← values passes
    calls.construct world (constructor_at (class_above p class)) me passed
    doing_all all
    pure me

  -- a constructor with a frame of its own
  abbrev pub build : ℕ → List (Option ℕ) → Exps → Stas → Value → List Value → M Value Value
  build class sets passes all me vars = framed (reverse vars) me (building class sets passes all me vars)

  -- Without a written constructor there is one without parameters.
  abbrev pub construct : ℕ → Option Constructor → Value → List Value → M Value Value
  construct class None me args = build class [] c.no_more c.end_of me []
  construct class (Some b) me args = build class b.sets (c.exps (map c.exp b.passes)) (c.stas (map c.sta b.body)) me (parameters b.required b.defaults args)

  -- A sound program has the body of each code that is entered.
  abbrev pub run_coded : Option Coded → Value → List Value → M Value Value
  run_coded None me args = pure null
  run_coded (Some k) me args = framed (reverse (parameters k.required k.defaults args)) me (body_value k.body)

  -- what an entry does once its turn is spent
  abbrev pub inside : Entry Code → M Value Value
  inside (running (the_function f) me args) = run_coded (coded_at p (the_function f)) me args
  inside (running (the_method m) me args) = run_coded (coded_at p (the_method m)) me args
  inside (running (the_constructor class) me args) = construct class (constructor_of p class) me args
  inside (listing v) = framed [] v (calls.list_text world v)

-- What stands so many levels above the greatest depth.
unfoldable pub enter : Parts → ℕ → Entry Code → M Value Value
enter p zero x = spend >> stop stack_overflow
enter p (suc left) x = spend >> inside p (enter p left) x

-- a function by its number, with a greatest depth and a number of turns
abbrev pub entry_run : Parts → ℕ → ℕ → ℕ → Result Value Value
entry_run p depth f turns = enter p depth (running (the_function f) null []) (start (map literal p.globals) turns)

-- what an entry does; nothing where there is no such function
abbrev pub entry_meaning_n : Parts → ℕ → ℕ → Option Meaning
entry_meaning_n p f turns = option_map (λ _. seen (entry_run p greatest_depth f turns)) (slice_get p.functions f)
