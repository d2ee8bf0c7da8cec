-- An expression and its numbered form do the same.
use Rattle.std.proofs.Common.{◌≡◌, ℕ, ◌-◌, ◌+◌, ◌<◌, suc, List, [], ◌∷◌, ◌++◌, map, length, refl, ap, sym, ◌∙◌, subst, arith}
use Rattle.std.specs.Prelude.{Bool, true, false, not, cond, if◌then◌else◌, pos, Option, Some, None, unwrap_or, is_some, slice_index_or, slice_set, slice_get, codes}
use Rattle.std.specs.Option.{option_map, option_and_then}
use Rattle.std.specs.Str.{bytes_eq}
use Rattle.std.specs.List.{position_from}
use Rattle.std.proofs.lemmas.Iterator.Adapters.{position_from-zero}
use Rattle.dart_syntax.specs.declared.token.Span.{Span}
use Rattle.dart_syntax.specs.declared.tree.Name.{Name}
use Rattle.dart_syntax.specs.declared.tree.Unary.{Unary}
use Rattle.dart_syntax.specs.declared.tree.Unary.TheVariants as u
use Rattle.dart_syntax.specs.Syntax as t
use Rattle.dart_syntax.specs.Syntax.{Tree}
use Rattle.program.specs.declared.literal.Literal.{Literal}
use Rattle.program.specs.declared.body.BinaryOperator.{BinaryOperator}
use Rattle.program.specs.declared.numbered.Function.{Function}
use Rattle.program.specs.declared.numbered.Selector.{Selector}
use Rattle.program.specs.declared.numbered.SelectorKind.TheVariants.{Get, Set}
use Rattle.program.specs.Bodies as c
use Rattle.program.specs.Parts.{Parts}
use Rattle.dart_values.specs.Values.{Text, Value, null}
use Rattle.dart_values.specs.Values as v
use Rattle.dart_meaning.specs.Place.{Place, reading, writing}
use Rattle.dart_meaning.specs.Operators.{operator_call, joint_of, compound, step_operator}
use Rattle.dart_meaning.specs.Literals.{literal, negated}
use Rattle.dart_meaning.specs.Program.{Found, Entry, running, target_or, no_such_method, to_string, calling, getting, setting}
use Rattle.dart_meaning.specs.Run.{Run, Result, M, went, ended, and_then, ◌>>=◌, pure, look, change, choose, need_bool, in_store}
use Rattle.dart_meaning.specs.Calls as calls
use Rattle.dart_meaning.specs.Calls.{World}
use Rattle.dart_meaning.specs.Classes as classes
use Rattle.dart_meaning.specs.Classes.{Code, body_of, first_some, if_so, of_tree, class_number, class_declares, functions, function_named, is_constructed, variable_place}
use Rattle.dart_meaning.specs.Meaning.{Bound, find, put, count, owner_by, Owner}
use Rattle.dart_meaning.specs.Meaning as m
use Rattle.dart_meaning.specs.Numbered as n
use Rattle.dart_meaning.specs.Numbered.{of_numbered}
use Rattle.dart_meaning.specs.Numbering as num
use Rattle.dart_meaning.specs.Numbering.{index_of}
use Rattle.dart_meaning.specs.Agree.{Agree, IsCoded, BothOrNone, Where, IsFound, IsFunction, above, CallsAt, FindsAbove, BareCalls, BareCallCalls, PrefixCalls, ExpCalls, ExpsCall, PiecesCall, LinksCall, SelectorsCall, SelectCalls, SpotCalls, LastCalls, LastCall}
use Rattle.dart_meaning.proofs.Slots.{FoundAt, found_at, slot_place, put_is, put_names}
use Rattle.dart_meaning.proofs.Simulation.{Sim, SimBy, SameBy, Stands, names_of, erase, sim_from, sim_to, sim_pure_by, sim_change, sim_pure, sim_bind, sim_then, sim_look, sim_choose, sim_need_bool, sim_new, sim_regroup, sim_regroup_tree, sim_on, sim_by_on, sim_regroup_by, sim_ends}
use Rattle.dart_meaning.proofs.CallsAgree as agreeing
use Rattle.dart_meaning.proofs.CallsAgree.{Enters, user_classes, number_in}

-- ---- the function of a name, and its place

abbrev pub IsAt : {A : Type 0} → ℕ → List A → A → ℕ → Type 0
IsAt n xs x i = (j : ℕ) × (i ≡ n + j) × (slice_get xs j ≡ Some x)

shift : {A : Type 0} (n : ℕ) (x : A) (xs : List A) (o : Option A) (i : Option ℕ) → BothOrNone (IsAt (n + 1) xs) o i → BothOrNone (IsAt n (x ∷ xs)) o i
shift n x xs None None h = tt
shift n x xs (Some y) (Some i) (j, e, at) = (suc j, omega (arith, e), at)
shift n x xs (Some y) None h = absurd h
shift n x xs None (Some i) h = absurd h

place_step : {A : Type 0} (n : ℕ) (x : A) (xs : List A) (b : Bool) (more : List (Option A)) (i : Option ℕ) → BothOrNone (IsAt (n + 1) xs) (first_some more) i
    → BothOrNone (IsAt n (x ∷ xs)) (first_some (if_so b x ∷ more)) (cond b (Some n) i)
place_step n x xs true more i h = (0, omega arith, refl)
place_step n x xs false more i h = shift n x xs (first_some more) i h

pub first_place : {A : Type 0} (q : A → Bool) (n : ℕ) (xs : List A) → BothOrNone (IsAt n xs) (first_some (map (λ x. if_so (q x) x) xs)) (position_from q n xs)
first_place q n [] = tt
first_place q n (x ∷ xs) = place_step n x xs (q x) (map (λ y. if_so (q y) y) xs) (position_from q (n + 1) xs) (first_place q (n + 1) xs)

abbrev pub StandsAt : {A : Type 0} → List A → A → ℕ → Type 0
StandsAt xs x i = slice_get xs i ≡ Some x

pub from_front : {A : Type 0} (xs : List A) (o : Option A) (i : Option ℕ) → BothOrNone (IsAt 0 xs) o i → BothOrNone (StandsAt xs) o i
from_front xs None None h = tt
from_front xs (Some y) (Some i) (j, e, at) = let same : j ≡ i = omega (arith, e) in subst (λ k. slice_get xs k ≡ Some y) same at
from_front xs (Some y) None h = absurd h
from_front xs None (Some i) h = absurd h

function_at : (tree : Tree) (name : Text) → BothOrNone (StandsAt (functions tree)) (function_named tree name) (num.function_number tree name)
function_at tree name =
    from_front (functions tree) (function_named tree name) (num.function_number tree name)
    (subst (λ i. BothOrNone (IsAt 0 (functions tree)) (function_named tree name) i) (sym (position_from-zero (λ (f : t.Function). bytes_eq f.name.text name) (functions tree)))
    (first_place (λ (f : t.Function). bytes_eq f.name.text name) 0 (functions tree)))

-- what is assigned to, with receiver and index evaluated, before it is known whether it is read, written or both
data Located : Type 0 where
  l_local l_global : ℕ → Located
  l_super : Text → Located
  l_member : Value → Span → Located
  l_element : Value → Value → Span → Located

module _ (tree : Tree) (site_of : Place → ℕ) (p : Parts) (agree : Agree tree site_of p)
    (enter : Entry Code → M Bound Value) (enter' : Entry n.Code → M Value Value) (enters : Enters tree site_of p enter enter') (here : Option Text) where
  abbrev w : World Bound Code
  w = m.world tree site_of here enter

  abbrev w' : World Value n.Code
  w' = n.world p enter'

  abbrev Same : {A : Type 0} → List Text → M Bound A → M Value A → Type 0
  Same names x y = Sim (user_classes tree) names x y

  abbrev tree_value : t.Exp → M Bound Value
  tree_value = m.value tree site_of here enter

  abbrev tree_values : t.Exps → M Bound (List Value)
  tree_values = m.values tree site_of here enter

  abbrev code_value : c.Exp → M Value Value
  code_value = n.value p enter'

  abbrev code_values : c.Exps → M Value (List Value)
  code_values = n.values p enter'

  abbrev number : List Text → t.Exp → c.Exp
  number = num.exp tree site_of here

  sim_send : (names : List Text) (place : Place) (sel : Selector) → CallsAt tree site_of p place sel → (x : Value) (args : List Value)
      → Same names (calls.send w (site_of place) sel x args) (n.send p enter' (site_of place) x args)
  sim_send names place sel is x args =
      subst (λ o. Same names (calls.send w (site_of place) sel x args) (calls.send w' (site_of place) (unwrap_or o to_string) x args)) (sym is)
      (agreeing.sim_send tree site_of p agree enter enter' enters here names (site_of place) sel x args)

  -- ---- members of `super`

  sim_found : (names : List Text) (o : Option (Found Code)) (found : Found n.Code) → BothOrNone (IsFound tree site_of p) o (Some found) → (other : Option (Found Code)) (sel : Selector) (me : Value) (args : List Value)
      → Same names (calls.reach w (target_or o other) sel me args) (calls.do_member w' found me args)
  sim_found names (Some f) found is other sel me args = agreeing.sim_do_member tree site_of p agree enter enter' enters here names f found is me args
  sim_found names None found is other sel me args = absurd is

  above_in : above tree here < classes.class_numbers tree
  above_in = number_in tree (unwrap_or (option_and_then (classes.parent tree) here) classes.object)

  sim_super : (names : List Text) (sel : Selector) → FindsAbove tree site_of p here sel → (args : List Value)
      → Same names (m.super_member tree site_of here enter sel args) (n.above p enter' (num.super_number tree site_of here sel.kind sel.name) args)
  sim_super names sel (found, at, looks) args =
      subst (λ o. Same names (m.super_member tree site_of here enter sel args) (n.member_if p enter' o args)) (sym at)
      (sim_bind (sim_look (λ r. refl)) (λ me.
      sim_found names ((of_tree tree).lookup (above tree here) sel) found (subst (λ o. BothOrNone (IsFound tree site_of p) ((of_tree tree).lookup (above tree here) sel) o) looks (agree.lookup (above tree here) above_in sel))
      ((of_tree tree).lookup (above tree here) no_such_method) sel me args))

  -- ---- bare calls

  sim_this : (names : List Text) (x : Name) (k : ℕ) → CallsAt tree site_of p (reading x.span.start) (calling x.text k) → {a : M Bound (List Value)} (args : c.Exps) → Same names a (code_values args)
      → Same names (m.call_this tree site_of here enter x k a) (code_value (num.one_call tree site_of here x.span c.this args))
  sim_this names x k is args s =
      sim_bind (sim_look (λ r. refl)) (λ me. sim_ends (sim_bind s (λ vs. sim_send names (reading x.span.start) (calling x.text k) is me vs)))

  coded_function : (f : t.Function) (o : Option Function) → BothOrNone (IsFunction tree site_of p) (Some f) o → IsCoded tree site_of p None f.params f.body (option_map n.function_coded o)
  coded_function f (Some k) is = is
  coded_function f None is = absurd is

  sim_function : (names : List Text) (f : t.Function) (i : ℕ) → slice_get (functions tree) i ≡ Some f → (vs : List Value)
      → Same names (enter (running (body_of None f.params f.body) null vs)) (enter' (running (n.the_function i) null vs))
  sim_function names f i at vs =
      enters.codes (body_of None f.params f.body) (n.the_function i) (coded_function f (slice_get p.functions i) (subst (λ o. BothOrNone (IsFunction tree site_of p) o (slice_get p.functions i)) at (agree.functions i))) null vs names

  -- what `print` prints is its one argument
  abbrev Prints : List Text → t.Exps → Type 0
  Prints names args =
      count args ≡ 1
      → Same names (tree_values args >>= (λ vs. calls.print w (calls.argument 0 vs))) (code_value (num.printed (num.exps tree site_of here names args)) >>= calls.print w')

  sim_no_function : (names : List Text) (x : Name) (args : t.Exps) (is_class is_print : Bool) → BareCallCalls tree site_of p here false None is_class is_print (reading x.span.start) (calling x.text (count args))
      → Prints names args
      → Same names (tree_values args) (code_values (num.exps tree site_of here names args))
      → Same names (choose is_class (tree_values args >>= calls.make w (class_number tree x.text)) (choose is_print (tree_values args >>= (λ vs. calls.print w (calls.argument 0 vs))) (m.call_this tree site_of here enter x (count args) (tree_values args))))
      (code_value (if is_class then c.new (class_number tree x.text) (num.exps tree site_of here names args) else (if is_print then c.print (num.printed (num.exps tree site_of here names args)) else num.one_call tree site_of here x.span c.this (num.exps tree site_of here names args))))
  sim_no_function names x args true is_print is prints s = sim_bind s (agreeing.sim_make tree site_of p agree enter enter' enters here names (class_number tree x.text) (number_in tree x.text))
  sim_no_function names x args false true is prints s = prints is
  sim_no_function names x args false false is prints s = sim_this names x (count args) is (num.exps tree site_of here names args) s

  sim_unit : (names : List Text) (x : Name) (args : t.Exps) (o : Option t.Function) (i : Option ℕ) → BothOrNone (StandsAt (functions tree)) o i
      → BareCallCalls tree site_of p here false i (is_constructed tree x.text) (bytes_eq x.text (codes "print")) (reading x.span.start) (calling x.text (count args))
      → Prints names args
      → Same names (tree_values args) (code_values (num.exps tree site_of here names args))
      → Same names (m.call_unit tree site_of here enter x (count args) (tree_values args) o) (code_value (num.call_unit tree site_of here x (num.exps tree site_of here names args) i))
  sim_unit names x args (Some f) (Some i) at is prints s = sim_bind s (sim_function names f i at)
  sim_unit names x args None None at is prints s = sim_no_function names x args (is_constructed tree x.text) (bytes_eq x.text (codes "print")) is prints s
  sim_unit names x args (Some f) None at is prints s = absurd at
  sim_unit names x args None (Some i) at is prints s = absurd at

  sim_call : (names : List Text) (x : Name) (args : t.Exps) (declared : Bool)
      → BareCallCalls tree site_of p here declared (num.function_number tree x.text) (is_constructed tree x.text) (bytes_eq x.text (codes "print")) (reading x.span.start) (calling x.text (count args))
      → Prints names args
      → Same names (tree_values args) (code_values (num.exps tree site_of here names args))
      → Same names (choose declared (m.call_this tree site_of here enter x (count args) (tree_values args)) (m.call_unit tree site_of here enter x (count args) (tree_values args) (function_named tree x.text)))
      (code_value (if declared then num.one_call tree site_of here x.span c.this (num.exps tree site_of here names args) else num.call_unit tree site_of here x (num.exps tree site_of here names args) (num.function_number tree x.text)))
  sim_call names x args true is prints s = sim_this names x (count args) is (num.exps tree site_of here names args) s
  sim_call names x args false is prints s = sim_unit names x args (function_named tree x.text) (num.function_number tree x.text) (function_at tree x.text) is prints s

  -- ---- operators before an operand

  sim_prefixed : (names : List Text) (op : Unary) (span : Span) → PrefixCalls tree site_of p here op span → {x : M Bound Value} (y : c.Exp) → Same names x (code_value y)
      → Same names (x >>= m.prefixed tree site_of here enter op span) (code_value (num.prefixed tree site_of here op span y))
  sim_prefixed names u.Minus span is y s = sim_bind s (λ x. sim_ends (sim_send names (reading span.start) (calling (codes "unary-") 0) is x []))
  sim_prefixed names u.Complement span is y s = sim_bind s (λ x. sim_ends (sim_send names (reading span.start) (calling (codes "~") 0) is x []))
  sim_prefixed names u.Not span is y s = sim_regroup (code_value y) need_bool (λ b. pure (v.bool (not b))) (sim_bind s (λ x. sim_bind (sim_need_bool x) (λ b. sim_pure (v.bool (not b)))))

  sim_unary : (names : List Text) (o : Option Literal) (op : Unary) (span : Span) → Where (not (is_some o)) (PrefixCalls tree site_of p here op span) → {x : M Bound Value} (y : c.Exp) → Same names x (code_value y)
      → Same names (unwrap_or (option_map (λ k. pure (literal k)) o) (x >>= m.prefixed tree site_of here enter op span)) (code_value (num.unary tree site_of here o (num.prefixed tree site_of here op span y)))
  sim_unary names None op span is y s = sim_prefixed names op span is y s
  sim_unary names (Some k) op span is y s = sim_pure (literal k)

  -- ---- what is assigned to, and names that are read

  -- what an `Assignable` leads to: the operands evaluated
  abbrev located : num.Assignable → M Value Located
  located (num.a_local k) = pure (l_local k)
  located (num.a_global k) = pure (l_global k)
  located (num.a_super name) = pure (l_super name)
  located (num.a_member e span) = code_value e >>= (λ z. pure (l_member z span))
  located (num.an_element e i span) = code_value e >>= (λ z. code_value i >>= (λ k. pure (l_element z k span)))

  -- where it is read, and where it is written
  abbrev read_end : Located → n.Destination
  read_end (l_local k) = n.at_local k
  read_end (l_global k) = n.at_global k
  read_end (l_super name) = n.at_super (num.super_number tree site_of here Get name)
  read_end (l_member z span) = n.at_member z (num.site tree site_of here span)
  read_end (l_element z k span) = n.at_element z k (num.site tree site_of here span)

  abbrev write_end : Located → n.Destination
  write_end (l_local k) = n.at_local k
  write_end (l_global k) = n.at_global k
  write_end (l_super name) = n.at_super (num.super_number tree site_of here Set name)
  write_end (l_member z span) = n.at_member z (num.writing_site tree site_of here span)
  write_end (l_element z k span) = n.at_element z k (num.writing_site tree site_of here span)

  one_moved : {A B C : Type 0} (x : Result Value A) (f : A → B) (g : A → Located) (h : B → M Value C) (k : Located → M Value C) → ((a : A) → h (f a) ≡ k (g a))
      → and_then (and_then x (λ a. pure (f a))) h ≡ and_then (and_then x (λ a. pure (g a))) k
  one_moved (went a r) f g h k e = λ i. e a i r
  one_moved (ended z r) f g h k e = refl

  two_moved : {A B C : Type 0} (x : Result Value A) (y : M Value A) (f : A → A → B) (g : A → A → Located) (h : B → M Value C) (k : Located → M Value C) → ((a b : A) → h (f a b) ≡ k (g a b))
      → and_then (and_then x (λ a. y >>= (λ b. pure (f a b)))) h ≡ and_then (and_then x (λ a. y >>= (λ b. pure (g a b)))) k
  two_moved (went a r) y f g h k e = one_moved (y r) (f a) (g a) h k (e a)
  two_moved (ended z r) y f g h k e = refl

  -- a target, from what is assigned to
  target_then : {A : Type 0} (a : num.Assignable) (g : n.Destination → M Value A) (r : Run Value)
      → and_then (n.destination p enter' (num.target_of tree site_of here a) r) g ≡ and_then (located a r) (λ l. g (write_end l))
  target_then (num.a_local k) g r = refl
  target_then (num.a_global k) g r = refl
  target_then (num.a_super name) g r = refl
  target_then (num.a_member e span) g r =
      one_moved (code_value e r) (λ z. n.at_member z (num.writing_site tree site_of here span)) (λ z. l_member z span) g (λ l. g (write_end l)) (λ z. refl)
  target_then (num.an_element e i span) g r =
      two_moved (code_value e r) (code_value i) (λ z k. n.at_element z k (num.writing_site tree site_of here span)) (λ z k. l_element z k span) g (λ l. g (write_end l)) (λ z k. refl)

  update_then : {A : Type 0} (a : num.Assignable) (g : n.Destination × n.Destination → M Value A) (r : Run Value)
      → and_then (n.destinations p enter' (num.update_of tree site_of here a) r) g ≡ and_then (located a r) (λ l. g (read_end l, write_end l))
  update_then (num.a_local k) g r = refl
  update_then (num.a_global k) g r = refl
  update_then (num.a_super name) g r = refl
  update_then (num.a_member e span) g r =
      one_moved (code_value e r) (λ z. (n.at_member z (num.site tree site_of here span), n.at_member z (num.writing_site tree site_of here span)))
      (λ z. l_member z span) g (λ l. g (read_end l, write_end l)) (λ z. refl)
  update_then (num.an_element e i span) g r =
      two_moved (code_value e r) (code_value i) (λ z k. (n.at_element z k (num.site tree site_of here span), n.at_element z k (num.writing_site tree site_of here span)))
      (λ z k. l_element z k span) g (λ l. g (read_end l, write_end l)) (λ z k. refl)

  -- The place of a name is that of its slot.
  abbrev IsAtEnd : List Text → m.Destination → Located → Type 0
  IsAtEnd names (m.at_local x) l = (k : ℕ) × (index_of x.text names ≡ Some k) × (l ≡ l_local (length names - suc k))
  IsAtEnd names (m.at_unit x) l = l ≡ l_global (m.variable tree site_of here enter x)
  IsAtEnd names (m.at_super x) l = l ≡ l_super x.text
  IsAtEnd names (m.at_member me x) l = l ≡ l_member me x.span
  IsAtEnd names (m.at_element me span i) l = l ≡ l_element me i span

  -- What is read or written through a site has its selector.
  abbrev CanRead : m.Destination → Type 0
  CanRead (m.at_super x) = FindsAbove tree site_of p here (getting x.text)
  CanRead (m.at_member me x) = CallsAt tree site_of p (reading x.span.start) (getting x.text)
  CanRead (m.at_element me span i) = CallsAt tree site_of p (reading span.start) (calling (codes "[]") 1)
  CanRead _ = Unit {0}

  abbrev CanWrite : m.Destination → Type 0
  CanWrite (m.at_super x) = FindsAbove tree site_of p here (setting x.text)
  CanWrite (m.at_member me x) = CallsAt tree site_of p (writing x.span.start) (setting x.text)
  CanWrite (m.at_element me span i) = CallsAt tree site_of p (writing span.start) (calling (codes "[]=") 2)
  CanWrite _ = Unit {0}

  abbrev SpotIs : List Text → Bool → Bool → m.Destination → Located → Type 0
  SpotIs names is_read is_written d l = IsAtEnd names d l × Where is_read (CanRead d) × Where is_written (CanWrite d)

  abbrev Leads : List Text → Bool → Bool → M Bound m.Destination → M Value Located → Type 0
  Leads names is_read is_written x y = SimBy (SpotIs names is_read is_written) (user_classes tree) names x y

  whatever : (b : Bool) → Where b (Unit {0})
  whatever true = tt
  whatever false = tt

  sim_own : (names : List Text) (is_read is_written : Bool) (x : Name) → Where is_read (CallsAt tree site_of p (reading x.span.start) (getting x.text))
      → Where is_written (CallsAt tree site_of p (writing x.span.start) (setting x.text))
      → Leads names is_read is_written (m.destination_of tree site_of here enter m.of_this x) (located (num.bare_assignable tree site_of here names m.of_this x))
  sim_own names is_read is_written x a b = sim_to (sim_look (λ r. refl)) (λ me. sim_pure_by (m.at_member me x) _ (refl, a, b))

  bare_case : (names : List Text) (is_read is_written : Bool) (x : Name) (r : Run Bound) → Stands (user_classes tree) names r → (o : Option ℕ) → index_of x.text names ≡ o
      → FoundAt (find x.text r.vars) (map (λ b. b.holds) r.vars) o → (declared top : Bool)
      → Where is_read (BareCalls tree site_of p here (owner_by (is_some o) declared top) (reading x.span.start) (getting x.text))
      → Where is_written (BareCalls tree site_of p here (owner_by (is_some o) declared top) (writing x.span.start) (setting x.text))
      → SameBy (SpotIs names is_read is_written) (user_classes tree) names (m.destination_of tree site_of here enter (owner_by (is_some (find x.text r.vars)) declared top) x r)
      (located (num.bare_assignable tree site_of here names (owner_by (is_some o) declared top) x) (erase r))
  bare_case names is_read is_written x r h (Some k) eo (lt, found, e) declared top a b =
      rw found (l_local (num.slot tree site_of here names x.text), refl, h, ((k, eo, rw eo refl), whatever is_read, whatever is_written))
  bare_case names is_read is_written x r h None eo fo true top a b = rw fo ((sim_own names is_read is_written x a b).same r h)
  bare_case names is_read is_written x r h None eo fo false true a b = rw fo (l_global (m.variable tree site_of here enter x), refl, h, (refl, whatever is_read, whatever is_written))
  bare_case names is_read is_written x r h None eo fo false false a b = rw fo ((sim_own names is_read is_written x a b).same r h)

  sim_bare : (names : List Text) (is_read is_written : Bool) (x : Name)
      → Where is_read (BareCalls tree site_of p here (num.owner tree site_of here names x.text) (reading x.span.start) (getting x.text))
      → Where is_written (BareCalls tree site_of p here (num.owner tree site_of here names x.text) (writing x.span.start) (setting x.text))
      → Leads names is_read is_written (m.bare tree site_of here enter x) (located (num.bare_assignable tree site_of here names (num.owner tree site_of here names x.text) x))
  sim_bare names is_read is_written x a b = record {
    same = λ r h.
        bare_case names is_read is_written x r h (index_of x.text names) refl (subst (λ all. FoundAt (find x.text r.vars) (map (λ b. b.holds) r.vars) (index_of x.text all)) h.0 (found_at x.text r.vars))
        (class_declares tree here x.text) (is_some (variable_place tree x.text)) a b;
  }

  bare_value : (names : List Text) (owner : Owner) (x : Name) {a : M Bound Value}
      → Same names a (located (num.bare_assignable tree site_of here names owner x) >>= (λ l. n.read p enter' (read_end l))) → Same names a (code_value (num.bare tree site_of here names owner x))
  bare_value names m.of_body x s = s
  bare_value names m.of_unit x s = s
  bare_value names m.of_this x s = sim_ends s

  place_in : (names : List Text) (x : Name) (k : ℕ) → index_of x.text names ≡ Some k → (r : Run Bound) → names_of r ≡ names
      → (k < length (map (λ b. b.holds) r.vars)) × (is_some (find x.text r.vars) ≡ true) × (unwrap_or (find x.text r.vars) null ≡ slice_index_or (map (λ b. b.holds) r.vars) k null)
  place_in names x k e r h = subst (λ o. FoundAt (find x.text r.vars) (map (λ b. b.holds) r.vars) o) (ap (index_of x.text) h ∙ e) (found_at x.text r.vars)

  place_is : (names : List Text) (x : Name) (k : ℕ) → index_of x.text names ≡ Some k → (r : Run Bound) → names_of r ≡ names → k < length (map (λ b. b.holds) r.vars)
      → n.place_of_slot (map (λ b. b.holds) r.vars) (length names - suc k) ≡ k
  place_is names x k e r h lt = ap (λ o. n.place_of_slot (map (λ b. b.holds) r.vars) (length names - suc (unwrap_or o 0))) (sym e) ∙ slot_place x.text r.vars names k h e lt

  sim_read_local : (names : List Text) (x : Name) (k : ℕ) → index_of x.text names ≡ Some k
      → Same names (m.read tree site_of here enter (m.at_local x)) (n.read p enter' (n.at_local (length names - suc k)))
  sim_read_local names x k e = record {
    same = λ r h.
        let (lt, found, is) = place_in names x k e r h.0 in
        (ap (λ z. went z (erase r)) (ap (λ i. slice_index_or (map (λ b. b.holds) r.vars) i null) (place_is names x k e r h.0 lt) ∙ sym is), h);
  }

  sim_read : (names : List Text) (d : m.Destination) (l : Located) → IsAtEnd names d l → CanRead d → Same names (m.read tree site_of here enter d) (n.read p enter' (read_end l))
  sim_read names (m.at_local x) l (k, e, is) can = rw is (sim_read_local names x k e)
  sim_read names (m.at_unit x) l is can = rw is (sim_look (λ r. refl))
  sim_read names (m.at_super x) l is can = rw is (sim_super names (getting x.text) can [])
  sim_read names (m.at_member me x) l is can = rw is (sim_send names (reading x.span.start) (getting x.text) can me [])
  sim_read names (m.at_element me span i) l is can = rw is (sim_send names (reading span.start) (calling (codes "[]") 1) can me (i ∷ []))

  sim_put : (names : List Text) (x : Name) (k : ℕ) (z : Value) → index_of x.text names ≡ Some k
      → Same names (change (λ (r : Run Bound). record r { vars = put x.text z r.vars })) (change (λ (r : Run Value). record r { vars = slice_set r.vars (n.place_of_slot r.vars (length names - suc k)) z }))
  sim_put names x k z e = record {
    same = λ r h.
        let (lt, found, is) = place_in names x k e r h.0 in (
          ap (λ vars. went tt (record (erase r) { vars = vars })) (ap (λ i. slice_set (map (λ b. b.holds) r.vars) i z) (place_is names x k e r h.0 lt)
              ∙ sym (put_is x.text r.vars z k (ap (index_of x.text) h.0 ∙ e))),
          (put_names x.text r.vars z ∙ h.0, h.1),
        );
  }

  sim_put_global : (names : List Text) (at : ℕ) (z : Value)
      → Same names (change (in_store (λ s. record s { globals = slice_set s.globals at z }))) (change (in_store (λ s. record s { globals = slice_set s.globals at z })))
  sim_put_global names at z = sim_change (λ r. refl) (λ r. refl) (λ r. refl)

  sim_write : (names : List Text) (d : m.Destination) (l : Located) (z : Value) → IsAtEnd names d l → CanWrite d
      → Same names (m.write tree site_of here enter d z) (n.write p enter' (write_end l) z)
  sim_write names (m.at_local x) l z (k, e, is) can = rw is (sim_then (sim_put names x k z e) (sim_pure null))
  sim_write names (m.at_unit x) l z is can = rw is (sim_then (sim_put_global names (m.variable tree site_of here enter x) z) (sim_pure null))
  sim_write names (m.at_super x) l z is can = rw is (sim_super names (setting x.text) can (z ∷ []))
  sim_write names (m.at_member me x) l z is can = rw is (sim_send names (writing x.span.start) (setting x.text) can me (z ∷ []))
  sim_write names (m.at_element me span i) l z is can = rw is (sim_send names (writing span.start) (calling (codes "[]=") 2) can me (i ∷ z ∷ []))

  sim_operate : (names : List Text) (op : BinaryOperator) (span : Span) (x y : Value)
      → Same names (calls.operate w (operator_call op (site_of (reading span.start))) x y) (calls.operate w' (operator_call op (num.site tree site_of here span)) x y)
  sim_operate names op span x y = agreeing.sim_operate tree site_of p agree enter enter' enters here names (operator_call op (site_of (reading span.start))) x y

  sim_assign : (names : List Text) (op : Option BinaryOperator) (span : Span) (a : num.Assignable) {to : M Bound m.Destination} → Leads names (is_some op) true to (located a)
      → {x : M Bound Value} (e : c.Exp) → Same names x (code_value e)
      → Same names (to >>= (λ at. m.assign tree site_of here enter op span at x)) (code_value (num.assigned tree site_of here op span a e))
  sim_assign names None span a leads e s =
      sim_on (target_then a (n.assign p enter' (code_value e)))
      (sim_from leads (λ d l is. sim_bind s (λ z. sim_then (sim_write names d l z is.0 is.2) (sim_pure z))))
  sim_assign names (Some op) span a leads e s =
      sim_on (update_then a (n.compound_assign p enter' (operator_call op (num.site tree site_of here span)) (code_value e)))
      (sim_from leads (λ d l is. sim_bind (sim_read names d l is.0 is.1) (λ old. sim_bind s (λ z.
      sim_bind (sim_operate names op span old z) (λ new. sim_then (sim_write names d l new is.0 is.2) (sim_pure new))))))

  sim_increment : (names : List Text) (is_before : Bool) (op : BinaryOperator) (span : Span) (a : num.Assignable) {to : M Bound m.Destination} → Leads names true true to (located a)
      → Same names (to >>= m.increment tree site_of here enter is_before op span)
      (code_value (c.increment is_before (operator_call op (num.site tree site_of here span)) (num.update_of tree site_of here a)))
  sim_increment names is_before op span a leads =
      sim_on (update_then a (n.increment p enter' is_before (operator_call op (num.site tree site_of here span))))
      (sim_from leads (λ d l is. sim_bind (sim_read names d l is.0 is.1) (λ old.
      sim_bind (sim_operate names op span old (v.num (pos 1))) (λ new. sim_then (sim_write names d l new is.0 is.2) (sim_pure (choose is_before new old))))))

  -- ---- selectors

  -- the first of the calls that a selector becomes
  abbrev first_call : List Text → t.Selector → Value → M Value Value
  first_call names (t.get x) z = n.send p enter' (num.site tree site_of here x.span) z []
  first_call names (t.send x args) z = code_values (num.exps tree site_of here names args) >>= n.send p enter' (num.site tree site_of here x.span) z
  first_call names (t.index span i) z = code_values (c.also (number names i) c.no_more) >>= n.send p enter' (num.site tree site_of here span) z

  called_first : (names : List Text) (s : t.Selector) (more : c.Calls) (z : Value) (r : Run Value)
      → n.called p enter' z (num.select tree site_of here names s more) r ≡ (first_call names s z >>= (λ y. n.called p enter' y more)) r
  called_first names (t.get x) more z r = refl
  called_first names (t.send x args) more z r = refl
  called_first names (t.index span i) more z r = refl

  -- what the last selector leads to, on the receiver's value
  abbrev ending : List Text → t.Selectors → Value → M Value Located
  ending names t.no_selector z = pure (l_local 0)
  ending names (t.select (t.get x) t.no_selector) z = pure (l_member z x.span)
  ending names (t.select (t.send x args) t.no_selector) z = pure (l_local 0)
  ending names (t.select (t.index span i) t.no_selector) z = code_value (number names i) >>= (λ k. pure (l_element z k span))
  ending names (t.select s (t.select x more)) z = ending names (t.select x more) z

  -- The receiver is evaluated, and then the last selector.
  located_last : (names : List Text) (is_read : Bool) (more : t.Selectors) → LastCalls tree site_of p here names is_read more → (e : c.Exp) (r : Run Value)
      → located (num.last_of tree site_of here names e more) r ≡ (code_value e >>= ending names more) r
  located_last names is_read t.no_selector is e r = absurd is
  located_last names is_read (t.select (t.get x) t.no_selector) is e r = refl
  located_last names is_read (t.select (t.send x args) t.no_selector) is e r = absurd is
  located_last names is_read (t.select (t.index span i) t.no_selector) is e r = refl
  located_last names is_read (t.select s (t.select x more)) is e r = located_last names is_read (t.select x more) is.1 e r

  -- ---- expressions

  mutual
    pub sim_exp : (e : t.Exp) (names : List Text) → ExpCalls tree site_of p here names e → Same names (tree_value e) (code_value (number names e))
    sim_exp (t.null span) names is = sim_pure null
    sim_exp (t.bool x span) names is = sim_pure (v.bool x)
    sim_exp (t.int k span) names is = sim_pure (v.num k)
    sim_exp (t.min_int span) names is = sim_pure null
    sim_exp (t.this span) names is = sim_look (λ r. refl)
    sim_exp (t.str units span) names is = sim_pure (v.text units)
    sim_exp (t.joined units span more) names is = sim_bind (sim_pieces more names span is) (λ rest. sim_pure (v.text (units ++ rest)))
    sim_exp (t.bare x) names is =
        bare_value names (num.owner tree site_of here names x.text) x (sim_from (sim_bare names true false x is tt) (λ d l at. sim_read names d l at.0 at.1))
    sim_exp (t.call x args) names (a, b) = sim_call names x args (class_declares tree here x.text) a (sim_printed args names b) (sim_exps args names b)
    sim_exp (t.super_get span x) names is = sim_super names (getting x.text) is []
    sim_exp (t.super_call span x args) names (a, b) = sim_bind (sim_exps args names b) (sim_super names (calling x.text (count args)) a)
    sim_exp (t.paren e) names is = sim_exp e names is
    sim_exp (t.list span items) names is = sim_bind (sim_exps items names is) (λ vs. sim_new (v.list vs) tt)
    sim_exp (t.postfix e more) names (a, b) = sim_bind (sim_exp e names a) (sim_selected more names b)
    sim_exp (t.step is_before op span to) names is =
        sim_increment names is_before (step_operator op) span (num.assignable tree site_of here names to) (sim_assignable to names true is)
    sim_exp (t.unary op span e) names (a, b) = sim_unary names (negated op e) op span a (number names e) (sim_exp e names b)
    sim_exp (t.chain e more) names (a, b) = sim_bind (sim_exp e names a) (sim_links more names b)
    sim_exp (t.is e denied span x) names is = sim_bind (sim_bind (sim_exp e names is) (λ z.
        agreeing.sim_is_of tree site_of p agree enter enter' enters here names z (class_number tree x.text) (number_in tree x.text))) (λ holds. sim_pure (v.bool (choose denied (not holds) holds)))
    sim_exp (t.choice x y z) names (a, b, d) = sim_bind (sim_bind (sim_exp x names a) sim_need_bool) (λ go. sim_choose go (sim_exp y names b) (sim_exp z names d))
    sim_exp (t.assign to op span e) names (a, b) =
        sim_assign names (compound op) span (num.assignable tree site_of here names to) (sim_assignable to names (is_some (compound op)) a) (number names e) (sim_exp e names b)
    sim_exp (t.throw span e) names is = sim_bind (sim_exp e names is) (agreeing.sim_throw tree site_of p agree enter enter' enters here names)

    pub sim_exps : (e : t.Exps) (names : List Text) → ExpsCall tree site_of p here names e → Same names (tree_values e) (code_values (num.exps tree site_of here names e))
    sim_exps t.no_more names is = sim_pure []
    sim_exps (t.also e more) names (a, b) = sim_bind (sim_exp e names a) (λ z. sim_bind (sim_exps more names b) (λ zs. sim_pure (z ∷ zs)))

    sim_printed : (e : t.Exps) (names : List Text) → ExpsCall tree site_of p here names e → Prints names e
    sim_printed t.no_more names is one = absurd (omega (arith, one))
    sim_printed (t.also e t.no_more) names (a, b) one =
        sim_regroup_tree (tree_value e) (λ z. tree_values t.no_more >>= (λ zs. pure (z ∷ zs))) (λ zs. calls.print w (calls.argument 0 zs))
        (sim_bind (sim_exp e names a) (agreeing.sim_print tree site_of p agree enter enter' enters here names))
    sim_printed (t.also e (t.also f more)) names is one = absurd (omega (arith, one))

    sim_pieces : (e : t.Pieces) (names : List Text) (span : Span) → PiecesCall tree site_of p here names e → Same names (m.texts tree site_of here enter span e) (n.texts p enter' (num.pieces tree site_of here names span e))
    sim_pieces t.no_piece names span is = sim_pure []
    sim_pieces (t.piece e after next more) names span (a, b) = sim_bind (sim_exp e names a) (λ z.
        sim_bind (agreeing.sim_to_text tree site_of p agree enter enter' enters here names (site_of (reading span.start)) z) (λ shown.
        sim_bind (sim_pieces more names next b) (λ rest. sim_pure (shown ++ (after ++ rest)))))

    sim_links : (e : t.Links) (names : List Text) → LinksCall tree site_of p here names e → (z : Value) → Same names (m.linked tree site_of here enter z e) (n.linked p enter' z (num.links tree site_of here names e))
    sim_links t.no_link names is z = sim_pure z
    sim_links (t.link op span e more) names (a, b) z =
        sim_bind (agreeing.sim_combine tree site_of p agree enter enter' enters here names (joint_of op (site_of (reading span.start))) z (sim_exp e names a)) (sim_links more names b)

    sim_selected : (e : t.Selectors) (names : List Text) → SelectorsCall tree site_of p here names e → (z : Value)
        → Same names (m.selected tree site_of here enter z e) (n.called p enter' z (num.selected tree site_of here names e))
    sim_selected t.no_selector names is z = sim_pure z
    sim_selected (t.select s more) names (a, b) z =
        sim_on (called_first names s (num.selected tree site_of here names more) z) (sim_bind (sim_select s names a z) (sim_selected more names b))

    sim_select : (e : t.Selector) (names : List Text) → SelectCalls tree site_of p here names e → (z : Value) → Same names (m.select tree site_of here enter e z) (first_call names e z)
    sim_select (t.get x) names is z = sim_send names (reading x.span.start) (getting x.text) is z []
    sim_select (t.send x args) names (a, b) z = sim_bind (sim_exps args names b) (sim_send names (reading x.span.start) (calling x.text (count args)) a z)
    sim_select (t.index span i) names (a, b) z =
        sim_regroup (code_value (number names i)) (λ k. pure (k ∷ [])) (n.send p enter' (site_of (reading span.start)) z)
        (sim_bind (sim_exp i names b) (λ k. sim_send names (reading span.start) (calling (codes "[]") 1) a z (k ∷ [])))

    sim_assignable : (e : t.Exp) (names : List Text) (is_read : Bool) → SpotCalls tree site_of p here names is_read e
        → Leads names is_read true (m.destination tree site_of here enter e) (located (num.assignable tree site_of here names e))
    sim_assignable (t.bare x) names is_read (a, b) = sim_bare names is_read true x a b
    sim_assignable (t.super_get span x) names is_read (a, b) = sim_pure_by (m.at_super x) _ (refl, a, b)
    sim_assignable (t.postfix e more) names is_read (a, b) =
        sim_by_on (located_last names is_read more b (c.postfix (number names e) (num.all_but_last tree site_of here names more)))
        (sim_regroup_by (code_value (number names e)) (λ z. n.called p enter' z (num.all_but_last tree site_of here names more)) (ending names more)
        (sim_to (sim_exp e names a) (sim_last more names is_read b)))
    sim_assignable _ names is_read is = absurd is

    sim_last : (e : t.Selectors) (names : List Text) (is_read : Bool) → LastCalls tree site_of p here names is_read e → (z : Value)
        → Leads names is_read true (m.last_of tree site_of here enter z e) (n.called p enter' z (num.all_but_last tree site_of here names e) >>= ending names e)
    sim_last t.no_selector names is_read is z = absurd is
    sim_last (t.select one t.no_selector) names is_read is z = sim_named_by one names is_read is z
    sim_last (t.select one (t.select two more)) names is_read (a, b) z =
        let rest : c.Calls = num.all_but_last tree site_of here names (t.select two more) in
        sim_by_on (λ r. ap (λ x. and_then x (ending names (t.select two more))) (called_first names one rest z r))
        (sim_regroup_by (first_call names one z) (λ y. n.called p enter' y rest) (ending names (t.select two more))
        (sim_to (sim_select one names a z) (sim_last (t.select two more) names is_read b)))

    sim_named_by : (e : t.Selector) (names : List Text) (is_read : Bool) → LastCall tree site_of p here names is_read e → (z : Value)
        → Leads names is_read true (m.named_by tree site_of here enter e z) (ending names (t.select e t.no_selector) z)
    sim_named_by (t.get x) names is_read (a, b) z = sim_pure_by (m.at_member z x) _ (refl, a, b)
    sim_named_by (t.send x args) names is_read is z = absurd is
    sim_named_by (t.index span i) names is_read (d, a, b) z = sim_to (sim_exp i names d) (λ k. sim_pure_by (m.at_element z span k) _ (refl, a, b))
