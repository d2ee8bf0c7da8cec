-- What holds of each step, and of steps put together, holds of all that an entry of a tree does.
use Rattle.std.proofs.Common.{◌≡◌, ℕ, List, [], ◌∷◌, ◌++◌, refl, zero, suc}
use Rattle.std.specs.Prelude.{Bool, true, not, reverse, slice_set, Option, Some, None, unwrap_or, codes, pos}
use Rattle.std.specs.Option.{option_map}
use Rattle.std.specs.Str.{bytes_eq}
use Rattle.dart_syntax.specs.declared.token.Span.{Span}
use Rattle.dart_syntax.specs.declared.tree.Name.{Name}
use Rattle.dart_syntax.specs.declared.tree.Unary.{Unary}
use Rattle.dart_syntax.specs.declared.tree.Unary.TheVariants as u
use Rattle.dart_syntax.specs.Syntax as t
use Rattle.dart_syntax.specs.Syntax.{Tree, Exp, Exps, Pieces, Links, Selectors, Selector as Selecting, Local, First, Sta, Stas, Param, Body, Function}
use Rattle.program.specs.declared.numbered.Selector.{Selector}
use Rattle.dart_syntax.specs.declared.tree.Binary.{Binary}
use Rattle.dart_syntax.specs.declared.tree.Binary.TheVariants as sign
use Rattle.program.specs.declared.literal.Literal.{Literal}
use Rattle.program.specs.declared.body.BinaryOperator.{BinaryOperator}
use Rattle.dart_values.specs.declared.fault.Trap.TheVariants as trap
use Rattle.dart_values.specs.Values.{Text, Value, null, bool, num, text, list}
use Rattle.dart_meaning.specs.Place.{Place, reading, writing, in_print, in_list}
use Rattle.dart_meaning.specs.Operators.{operator_of, operator_call, joint_by, joint_of, compound, step_operator}
use Rattle.dart_meaning.specs.Literals.{literal, negated}
use Rattle.dart_meaning.specs.Program.{Entry, running, listing, resolve, calling, getting, setting}
use Rattle.dart_meaning.specs.Classes.{Code, body_of, constructing, Constructor, class_declares, class_number, is_constructed, field_place, function_named, of_tree}
use Rattle.dart_meaning.specs.Run.{M, ◌>>=◌, pure, choose, Flow, onward, broke, continued, returned, answer}
use Rattle.dart_meaning.specs.Calls as calls
use Rattle.dart_meaning.specs.Calls.{World}
use Rattle.dart_meaning.specs.Meaning as m
use Rattle.dart_meaning.specs.Meaning.{Bound, bound, bind, put, count, Owner, of_body, of_this, of_unit, Destination, at_local, at_unit, at_super, at_member, at_element, unnamed}
use Rattle.dart_meaning.specs.Entry as e
use Rattle.dart_meaning.specs.Entry.{enter}
use Rattle.dart_meaning.proofs.Closed.{Closed}
use Rattle.dart_meaning.proofs.Closed as h

-- each place has a number of a site, and a class that is constructed may be made
pub record Fits (tree : Tree) (site_of : Place → ℕ) (IsSite IsMade : ℕ → Type 0) : Type 0 where
  pub sites : (place : Place) → IsSite (site_of place)
  pub made : (name : Text) → is_constructed tree name ≡ true → IsMade (class_number tree name)

module _ {IsSite IsMade : ℕ → Type 0} {P : (A : Type 0) → M Bound A → Type 0} (c : Closed Bound IsSite IsMade P) (tree : Tree) (site_of : Place → ℕ) (fits : Fits tree site_of IsSite IsMade) where
  module _ (here : Option Text) (enter : Entry Code → M Bound Value) (enters : (x : Entry Code) → P Value (enter x)) where
    abbrev w : World Bound Code
    w = m.world tree site_of here enter

    this_holds : P Value (m.this tree site_of here enter)
    this_holds = c.looks (λ r. r.this) (λ r n. refl)

    sends : (place : Place) (sel : Selector) (v : Value) (args : List Value) → P Value (calls.send w (site_of place) sel v args)
    sends place sel v args = h.send_holds c w (fits.sites in_print) (fits.sites in_list) enters (site_of place) sel v args (fits.sites place)

    reaches_above : (sel : Selector) (args : List Value) → P Value (m.super_member tree site_of here enter sel args)
    reaches_above sel args = c.binds this_holds (λ me. h.reach_holds c w (fits.sites in_print) (fits.sites in_list) enters (resolve (of_tree tree) (m.class_above tree site_of here enter) sel) sel me args)

    prefixed_holds : (op : Unary) (span : Span) (v : Value) → P Value (m.prefixed tree site_of here enter op span v)
    prefixed_holds u.Minus span v = sends (reading span.start) _ v []
    prefixed_holds u.Complement span v = sends (reading span.start) _ v []
    prefixed_holds u.Not span v = c.binds (h.need_bool_holds c v) (λ x. c.answers (bool (not x)))

    destination_of_holds : (owner : Owner) (n : Name) → P Destination (m.destination_of tree site_of here enter owner n)
    destination_of_holds of_body n = c.answers (at_local n)
    destination_of_holds of_unit n = c.answers (at_unit n)
    destination_of_holds of_this n = c.binds this_holds (λ me. c.answers (at_member me n))

    bare_holds : (n : Name) → P Destination (m.bare tree site_of here enter n)
    bare_holds n = c.binds (c.looks (λ r. m.owner_of tree site_of here enter r n.text) (λ r k. refl)) (λ owner. destination_of_holds owner n)

    read_holds : (at : Destination) → P Value (m.read tree site_of here enter at)
    read_holds (at_local n) = c.looks _ (λ r k. refl)
    read_holds (at_unit n) = c.looks _ (λ r k. refl)
    read_holds (at_super n) = reaches_above (getting n.text) []
    read_holds (at_member v n) = sends (reading n.span.start) _ v []
    read_holds (at_element v span i) = sends (reading span.start) _ v (i ∷ [])

    write_holds : (at : Destination) (x : Value) → P Value (m.write tree site_of here enter at x)
    write_holds (at_local n) x = h.then_holds c (c.changes (h.plain_vars (put n.text x))) (c.answers null)
    write_holds (at_unit n) x = h.then_holds c (c.changes (h.plain_globals (λ all. slice_set all (m.variable tree site_of here enter n) x))) (c.answers null)
    write_holds (at_super n) x = reaches_above (setting n.text) (x ∷ [])
    write_holds (at_member v n) x = sends (writing n.span.start) _ v (x ∷ [])
    write_holds (at_element v span i) x = sends (writing span.start) _ v (i ∷ x ∷ [])

    operates : (span : Span) (op : BinaryOperator) (v x : Value) → P Value (calls.operate w (operator_call op (site_of (reading span.start))) v x)
    operates span op v x = sends (reading span.start) _ v (x ∷ [])

    assign_holds : (op : Option BinaryOperator) (span : Span) (to : Destination) {right : M Bound Value} → P Value right → P Value (m.assign tree site_of here enter op span to right)
    assign_holds None span to r = c.binds r (λ v. h.then_holds c (write_holds to v) (c.answers v))
    assign_holds (Some op) span to r =
        c.binds (read_holds to) (λ old. c.binds r (λ v. c.binds (operates span op old v) (λ x. h.then_holds c (write_holds to x) (c.answers x))))

    increment_holds : (is_before : Bool) (op : BinaryOperator) (span : Span) (to : Destination) → P Value (m.increment tree site_of here enter is_before op span to)
    increment_holds is_before op span to =
        c.binds (read_holds to) (λ old. c.binds (operates span op old (num (pos 1))) (λ x. h.then_holds c (write_holds to x) (c.answers (choose is_before x old))))

    joins : (op : Binary) (called : Option BinaryOperator) (span : Span) → h.IsCalledAt IsSite (joint_by op called (site_of (reading span.start)))
    joins op (Some called) span = fits.sites (reading span.start)
    joins sign.Or None span = tt
    joins _ None span = tt

    call_this_holds : (n : Name) (k : ℕ) {args : M Bound (List Value)} → P (List Value) args → P Value (m.call_this tree site_of here enter n k args)
    call_this_holds n k a = c.binds this_holds (λ me. c.binds a (λ vs. sends (reading n.span.start) (calling n.text k) me vs))

    call_unit_holds : (n : Name) (k : ℕ) {args : M Bound (List Value)} (f : Option Function) → P (List Value) args → P Value (m.call_unit tree site_of here enter n k args f)
    call_unit_holds n k (Some f) a = c.binds a (λ vs. enters (running (body_of None f.params f.body) null vs))
    call_unit_holds n k None a =
        h.choose_if c (is_constructed tree n.text)
        (λ made. c.binds a (λ vs. h.make_holds c w (fits.sites in_print) (fits.sites in_list) enters (class_number tree n.text) vs (fits.made n.text made)))
        (h.choose_holds c (bytes_eq n.text (codes "print")) (c.binds a (λ vs. h.print_holds c w (fits.sites in_print) (fits.sites in_list) enters (calls.argument 0 vs))) (call_this_holds n k a))

    call_holds : (n : Name) (k : ℕ) {args : M Bound (List Value)} → P (List Value) args → P Value (m.call_bare tree site_of here enter n k args)
    call_holds n k a = h.choose_holds c (class_declares tree here n.text) (call_this_holds n k a) (call_unit_holds n k (function_named tree n.text) a)

    unary_holds : (op : Unary) (span : Span) (number : Option Literal) {right : M Bound Value} → P Value right → P Value (unwrap_or (option_map (λ k. pure (literal k)) number) (right >>= m.prefixed tree site_of here enter op span))
    unary_holds op span None r = c.binds r (prefixed_holds op span)
    unary_holds op span (Some k) r = c.answers (literal k)

    mutual
      pub exp : (x : Exp) → P Value (m.value tree site_of here enter x)
      exp (t.null span) = c.answers null
      exp (t.bool x span) = c.answers (bool x)
      exp (t.int n span) = c.answers (num n)
      exp (t.min_int span) = c.answers null
      exp (t.this span) = this_holds
      exp (t.str units span) = c.answers (text units)
      exp (t.joined units span more) = c.binds (pieces span more) (λ rest. c.answers (text (units ++ rest)))
      exp (t.bare n) = c.binds (bare_holds n) read_holds
      exp (t.call n args) = call_holds n (count args) (exps args)
      exp (t.super_get span n) = reaches_above (getting n.text) []
      exp (t.super_call span n args) = c.binds (exps args) (reaches_above (calling n.text (count args)))
      exp (t.paren x) = exp x
      exp (t.list span items) = c.binds (exps items) (λ vs. c.makes (list vs) tt)
      exp (t.postfix x more) = c.binds (exp x) (λ v. selected v more)
      exp (t.step is_before op span to) = c.binds (destination to) (increment_holds is_before (step_operator op) span)
      exp (t.unary op span x) = unary_holds op span (negated op x) (exp x)
      exp (t.chain x more) = c.binds (exp x) (λ v. linked v more)
      exp (t.is x denied span n) =
          c.binds (c.binds (exp x) (λ v. h.is_of_holds c (of_tree tree) v (class_number tree n.text))) (λ holds. c.answers (bool (choose denied (not holds) holds)))
      exp (t.choice x y z) = c.binds (c.binds (exp x) (h.need_bool_holds c)) (λ go. h.choose_holds c go (exp y) (exp z))
      exp (t.assign to op span x) = c.binds (destination to) (λ at. assign_holds (compound op) span at (exp x))
      exp (t.throw span x) = c.binds (exp x) (h.throw_holds c (of_tree tree))

      pub exps : (xs : Exps) → P (List Value) (m.values tree site_of here enter xs)
      exps t.no_more = c.answers []
      exps (t.also x more) = c.binds (exp x) (λ v. c.binds (exps more) (λ vs. c.answers (v ∷ vs)))

      pub pieces : (span : Span) (xs : Pieces) → P Text (m.texts tree site_of here enter span xs)
      pieces span t.no_piece = c.answers []
      pieces span (t.piece x after next more) =
          c.binds (exp x) (λ v. c.binds (h.to_text_holds c w (fits.sites in_print) (fits.sites in_list) enters (site_of (reading span.start)) v (fits.sites (reading span.start)))
          (λ shown. c.binds (pieces next more) (λ rest. c.answers (shown ++ (after ++ rest)))))

      pub linked : (v : Value) (xs : Links) → P Value (m.linked tree site_of here enter v xs)
      linked v t.no_link = c.answers v
      linked v (t.link op span x more) =
          c.binds (h.combine_holds c w (fits.sites in_print) (fits.sites in_list) enters (joint_of op (site_of (reading span.start))) v (joins op (operator_of op) span) (exp x)) (λ y. linked y more)

      pub selected : (v : Value) (xs : Selectors) → P Value (m.selected tree site_of here enter v xs)
      selected v t.no_selector = c.answers v
      selected v (t.select s more) = c.binds (select s v) (λ y. selected y more)

      pub select : (s : Selecting) (v : Value) → P Value (m.select tree site_of here enter s v)
      select (t.get n) v = sends (reading n.span.start) _ v []
      select (t.send n args) v = c.binds (exps args) (sends (reading n.span.start) (calling n.text (count args)) v)
      select (t.index span x) v = c.binds (exp x) (λ i. sends (reading span.start) _ v (i ∷ []))

      pub destination : (x : Exp) → P Destination (m.destination tree site_of here enter x)
      destination (t.bare n) = bare_holds n
      destination (t.super_get span n) = c.answers (at_super n)
      destination (t.postfix x more) = c.binds (exp x) (λ v. last_of v more)
      destination _ = c.traps trap.TypeFault

      pub last_of : (v : Value) (xs : Selectors) → P Destination (m.last_of tree site_of here enter v xs)
      last_of v t.no_selector = c.traps trap.TypeFault
      last_of v (t.select s t.no_selector) = named_by s v
      last_of v (t.select s (t.select x more)) = c.binds (select s v) (λ y. last_of y (t.select x more))

      pub named_by : (s : Selecting) (v : Value) → P Destination (m.named_by tree site_of here enter s v)
      named_by (t.get n) v = c.answers (at_member v n)
      named_by (t.send n args) v = c.traps trap.TypeFault
      named_by (t.index span x) v = c.binds (exp x) (λ i. c.answers (at_element v span i))

    test : (x : Exp) → P Bool (m.test tree site_of here enter x)
    test x = c.binds (exp x) (h.need_bool_holds c)

    value_if : (x : Option Exp) → P Value (m.value_if tree site_of here enter x)
    value_if None = c.answers null
    value_if (Some x) = exp x

    test_if : (x : Option Exp) → P Bool (m.test_if tree site_of here enter x)
    test_if None = c.answers true
    test_if (Some x) = test x

    local : (l : Local) → P (Unit {0}) (m.local tree site_of here enter l)
    local l = c.binds (value_if l.value) (λ v. h.declare_holds c (bound l.name.text v))

    first : (x : First) → P (Unit {0}) (m.first tree site_of here enter x)
    first t.nothing = c.answers tt
    first (t.local_first l) = local l
    first (t.run_first x) = h.then_holds c (exp x) (c.answers tt)

    mutual
      pub sta : (x : Sta) → P Flow (m.doing tree site_of here enter x)
      sta (t.block all) = h.scoped_holds c (stas all)
      sta (t.local l) = h.then_holds c (local l) (c.answers onward)
      sta (t.run x) = h.then_holds c (exp x) (c.answers onward)
      sta t.empty = c.answers onward
      sta (t.when x y) = c.binds (test x) (λ go. h.choose_holds c go (h.scoped_holds c (sta y)) (c.answers onward))
      sta (t.when_else x y z) = c.binds (test x) (λ go. h.choose_holds c go (h.scoped_holds c (sta y)) (h.scoped_holds c (sta z)))
      sta (t.while x body) = h.while_holds c (test x) (h.scoped_holds c (sta body)) (c.answers tt)
      sta (t.do_while body x) = h.do_holds c (h.scoped_holds c (sta body)) (test x)
      sta (t.for start x last body) =
          h.scoped_holds c (h.then_holds c (first start) (h.while_holds c (test_if x) (h.scoped_holds c (sta body)) (h.then_holds c (exps last) (c.answers tt))))
      sta (t.break span) = c.answers broke
      sta (t.continue span) = c.answers continued
      sta (t.return span x) = c.binds (value_if x) (λ v. c.answers (returned v))

      pub stas : (xs : Stas) → P Flow (m.doing_all tree site_of here enter xs)
      stas t.done = c.answers onward
      stas (t.next x more) = c.binds (sta x) (λ f. h.if_onward_holds c f (stas more))

    body_value : (b : Body) → P Value (m.body_value tree site_of here enter b)
    body_value (t.arrow x) = exp x
    body_value (t.code all) = c.binds (stas all) (λ f. c.answers (answer f))

    set_fields : (class : Text) (me : Value) (params : List Param) (vars : List Bound) → P (Unit {0}) (m.set_fields tree site_of here enter class me params vars)
    set_fields class me (p ∷ more) (b ∷ vars) =
        h.then_holds c (h.choose_holds c p.is_field (c.changes (h.plain_field me (field_place tree class p.name.text) b.holds)) (c.answers tt)) (set_fields class me more vars)
    set_fields class me [] vars = c.answers tt
    set_fields class me (p ∷ more) [] = c.answers tt

    building : (class : Text) (k : Constructor) (me : Value) (vars : List Bound) → P Value (m.building tree site_of here enter class k me vars)
    building class k me vars =
        h.then_holds c (set_fields class me k.params vars)
        (c.binds (exps k.passes) (λ passed.
        h.then_holds c (h.construct_holds c w (fits.sites in_print) (fits.sites in_list) enters ((of_tree tree).constructor (m.class_above tree site_of here enter)) me passed)
        (h.then_holds c (c.changes (h.plain_vars (unnamed (reverse k.params)))) (h.then_holds c (stas k.body) (c.answers me)))))

    build : (class : Text) (k : Constructor) (me : Value) (vars : List Bound) → P Value (m.build tree site_of here enter class k me vars)
    build class k me vars = h.framed_holds c (reverse vars) me (building class k me vars)

  inside_holds : (enter : Entry Code → M Bound Value) → ((x : Entry Code) → P Value (enter x)) → (x : Entry Code) → P Value (e.inside tree site_of enter x)
  inside_holds enter enters (running (body_of here params body) me args) = h.framed_holds c (reverse (bind params args)) me (body_value here enter enters body)
  inside_holds enter enters (running (constructing class k) me args) = build (Some class) enter enters class k me (bind k.params args)
  inside_holds enter enters (listing v) = h.framed_holds c [] v (h.list_text_holds c (m.world tree site_of None enter) (fits.sites in_print) (fits.sites in_list) enters v)

  -- whatever the depth is
  pub enter_holds : (left : ℕ) (x : Entry Code) → P Value (enter tree site_of left x)
  unfolding enter
  enter_holds zero x = h.then_holds c c.spends c.overflows
  enter_holds (suc left) x = h.then_holds c c.spends (inside_holds (enter tree site_of left) (enter_holds left) x)
