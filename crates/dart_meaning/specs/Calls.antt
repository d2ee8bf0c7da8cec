-- Calls, over any form of a program, with lookup at each of them: what a site, an operator, `print`, a list's text or a construction does.
use Rattle.std.specs.Prelude.{ℕ, ◌+◌, Bool, true, false, not, ◌&&◌, ◌||◌, nat_eq, nat_lt, List, [], ◌∷◌, ◌++◌, length, slice_index_or, Option, Some, None, codes}
use Rattle.program.specs.declared.numbered.Selector.{Selector}
use Rattle.program.specs.declared.numbered.SelectorKind.{SelectorKind}
use Rattle.program.specs.declared.numbered.SelectorKind.TheVariants.{Set}
use Rattle.program.specs.declared.body.BinaryOperator.{BinaryOperator}
use Rattle.program.specs.declared.body.BinaryOperator.TheVariants as b
use Rattle.program.specs.declared.body.Joint.{Joint}
use Rattle.program.specs.declared.body.Joint.TheVariants as joint
use Rattle.program.specs.declared.body.OperatorCall.{OperatorCall}
use Rattle.program.specs.Sound.{binary_name}
use Rattle.program.specs.BuiltIn as class
use Rattle.dart_values.specs.declared.fault.Trap.TheVariants as trap
use Rattle.dart_values.specs.Values.{Text, Value, null, bool, text, object, list, invocation, Given, gives, traps, class_of}
use Rattle.dart_values.specs.Natives.{native, thing_at}
use Rattle.dart_values.specs.Reads.{field_of, items_in, thrown_text}
use Rattle.dart_meaning.specs.Program.{Program, Found, built_in, reads, writes, coded, Target, member, missing, resolve, Entry, running, listing, calling, to_string}
use Rattle.dart_meaning.specs.Run.{went, M, ◌>>=◌, ◌>>◌, pure, trapped, look, choose, Next, again, leaves, looping, need_bool, need_text, new, set_field, ask, note_test, add_line, in_store}

-- What a call needs: the program, the sites of `print` and of a list's text, and what enters a body, one level deeper.
pub record World (V Code : Type 0) : Type 0 where
  pub program : Program Code
  pub print_site : ℕ
  pub list_site : ℕ
  pub enter : Entry Code → M V Value

abbrev pub is_null : Value → Bool
is_null null = true
is_null _ = false

-- argument number k, from 0
abbrev pub argument : ℕ → List Value → Value
argument k args = slice_index_or args k null

-- the name that an Invocation tells: that of a setter has a `=` behind it
abbrev pub told_name : SelectorKind → Text → Text
told_name Set name = name ++ codes "="
told_name _ name = name

-- the number of `List.toString`, which calls the `toString` of each element
abbrev pub list_to_string : ℕ
list_to_string = 43

-- what a built-in member gives
abbrev pub given : {V : Type 0} → Given → M V Value
given (gives heap v) = λ r. went v (in_store (λ s. record s { heap = heap }) r)
given (traps t) = trapped t

-- The Invocation of a call that finds no member: a list of the arguments, and what was called.
abbrev pub invoked : {V : Type 0} → Selector → List Value → M V Value
invoked sel args = new (list args) >>= (λ all. new (invocation (told_name sel.kind sel.name) all sel.kind))

-- what stands before element i in the text of a list
abbrev pub comma_before : ℕ → Text
comma_before i = choose (nat_eq i 0) [] (codes ", ")

module _ {V Code : Type 0} (program : Program Code) where
  -- a built-in member but `List.toString`
  abbrev pub natively : ℕ → Value → List Value → M V Value
  natively n v args = λ r. given (native program.class_name n r.store.heap v args) r

  -- Null is of class Null alone, and no test is counted for it.
  abbrev pub is_of : Value → ℕ → M V Bool
  is_of v c =
      choose (is_null v) (pure (nat_eq c class.null))
      (look (λ r. class_of r.store.heap v) >>= (λ own. note_test own c >> pure (program.is_subtype own c)))

  -- `throw` of null is a TypeFault.
  abbrev pub throw : Value → M V Value
  throw v =
      choose (is_null v) (trapped trap.TypeFault) (look (λ r. thrown_text program.class_name r.store.heap v) >>= (λ s. trapped (trap.Thrown s)))

module _ {V Code : Type 0} (w : World V Code) where
  -- Code, and the text of a list, spend a turn and count for depth; other members do not.
  abbrev pub do_member : Found Code → Value → List Value → M V Value
  do_member (built_in n) v args = choose (nat_eq n list_to_string) (w.enter (listing v)) (natively w.program n v args)
  do_member (reads k) v args = look (λ r. field_of r.store.heap v k)
  do_member (writes k) v args = set_field v k (argument 0 args) >> pure null
  do_member (coded code) v args = w.enter (running code v args)

  -- A call that finds no member makes an Invocation, and calls the receiver's `noSuchMethod` with it.
  abbrev pub reach : Target Code → Selector → Value → List Value → M V Value
  reach (member found) sel v args = do_member found v args
  reach (missing found) sel v args = invoked sel args >>= (λ i. do_member found v (i ∷ []))

  -- a call through the cell of a site
  abbrev pub send : ℕ → Selector → Value → List Value → M V Value
  send site sel v args = ask site v >>= (λ c. reach (resolve w.program c sel) sel v args)

  -- what is no String is a TypeFault
  abbrev pub to_text : ℕ → Value → M V Text
  to_text site v = send site to_string v [] >>= need_text

  -- `a == b`: with null on either side no cell is asked
  abbrev pub equals : ℕ → Value → Value → M V Bool
  equals site v u =
      choose (is_null v || is_null u) (pure (is_null v && is_null u)) (send site (calling (codes "==") 1) v (u ∷ []) >>= need_bool)

  -- an operator's member, by its name
  abbrev pub operate : OperatorCall → Value → Value → M V Value
  operate k v u = send k.site.0 (calling (binary_name k.operator) 1) v (u ∷ [])

  -- `!=` is the negation of `==`.
  abbrev pub combine_by : BinaryOperator → OperatorCall → Value → Value → M V Value
  combine_by b.Equal k v u = equals k.site.0 v u >>= (λ same. pure (bool same))
  combine_by b.NotEqual k v u = equals k.site.0 v u >>= (λ same. pure (bool (not same)))
  combine_by _ k v u = operate k v u

  -- a right side of `&&` or `||`, which has to be a bool
  abbrev pub truth : M V Value → M V Value
  truth m = m >>= need_bool >>= (λ x. pure (bool x))

  -- What joins two operands, with the value on its left and the evaluation of its right side. `&&` and `||` evaluate that only where it is needed.
  abbrev pub combine : Joint → Value → M V Value → M V Value
  combine joint.And v right = need_bool v >>= (λ go. choose go (truth right) (pure (bool false)))
  combine joint.Or v right = need_bool v >>= (λ go. choose go (pure (bool true)) (truth right))
  combine (joint.Operator k) v right = right >>= combine_by k.operator k v

  -- Object's constructor is not entered.
  abbrev pub construct : Option Code → Value → List Value → M V Value
  construct None v args = pure null
  construct (Some code) v args = w.enter (running code v args)

  -- The object comes with the literals of its fields, and then its class's constructor is entered.
  abbrev pub make : ℕ → List Value → M V Value
  make c args = new (object c (w.program.fields c)) >>= (λ v. construct (w.program.constructor c) v args >> pure v)

  -- `print` answers null.
  abbrev pub print : Value → M V Value
  print v = to_text w.print_site v >>= add_line >> pure null

  -- The text of a list, up to element i: it goes on while i is below the list's present length.
  abbrev pub list_goes_on : Value → ℕ × Text → M V (Next (ℕ × Text) Value)
  list_goes_on v s =
      look (λ r. choose (nat_lt s.0 (length (items_in (thing_at r.store.heap v)))) (again s) (leaves (text (s.1 ++ codes "]"))))

  abbrev pub list_element : Value → ℕ × Text → M V (Next (ℕ × Text) Value)
  list_element v s =
      look (λ r. slice_index_or (items_in (thing_at r.store.heap v)) s.0 null) >>= to_text w.list_site
      >>= (λ shown. pure (again (s.0 + 1, s.1 ++ (comma_before s.0 ++ shown))))

  -- the text of a list, from its bracket on
  abbrev pub list_text : Value → M V Value
  list_text v = looping (list_goes_on v) (list_element v) (0, codes "[")
