-- The numbered form of the bodies of a tree: slots for variables, numbers for static targets, and sites by number.
use Rattle.std.specs.Prelude.{ℕ, suc, ◌-◌, Bool, true, if◌then◌else◌, ◌&&◌, List, [], ◌∷◌, ◌++◌, length, map, reverse, flat_map, find, position, Option, Some, None, is_some, unwrap_or, codes}
use Rattle.std.specs.Option.{option_map}
use Rattle.std.specs.Str.{bytes_eq}
use Rattle.dart_syntax.specs.declared.token.Span.{Span}
use Rattle.dart_syntax.specs.declared.tree.Name.{Name}
use Rattle.dart_syntax.specs.declared.tree.Unary.{Unary}
use Rattle.dart_syntax.specs.declared.tree.Unary.TheVariants as u
use Rattle.dart_syntax.specs.Syntax as t
use Rattle.dart_syntax.specs.Syntax.{Tree, Param, ClassDecl, Member, Function}
use Rattle.program.specs.declared.literal.Literal.{Literal}
use Rattle.program.specs.declared.literal.Literal.TheVariants as l
use Rattle.program.specs.declared.body.BinaryOperator.{BinaryOperator}
use Rattle.program.specs.declared.numbered.Method.{Method}
use Rattle.program.specs.declared.numbered.SelectorKind.{SelectorKind}
use Rattle.program.specs.declared.numbered.SelectorKind.TheVariants.{Call, Get, Set}
use Rattle.program.specs.Bodies as c
use Rattle.program.specs.BuiltIn.{built_in_members}
use Rattle.program.specs.Lookup.{same_kind}
use Rattle.dart_values.specs.Values.{Text}
use Rattle.dart_meaning.specs.Place.{Place, reading, writing}
use Rattle.dart_meaning.specs.Operators.{joint_of, operator_call, compound, step_operator, operator_name}
use Rattle.dart_meaning.specs.Literals.{negated}
use Rattle.dart_meaning.specs.Classes.{classes, functions, own, chain_above, class_number, class_name, class_declares, is_constructed, variable_place, field_place}
use Rattle.dart_meaning.specs.Meaning.{Owner, of_body, of_this, of_unit, owner_by}

-- ---- the numbers of members

-- what one member is: the class that declares it, its kind and its name
pub record Key : Type 0 where
  pub class : Text
  pub kind : SelectorKind
  pub name : Text

abbrev pub key : Text → SelectorKind → Text → Key
key class kind name = record { class = class; kind = kind; name = name }

-- two keys of one member
abbrev pub same_key : Key → Key → Bool
same_key x y = bytes_eq x.class y.class && (same_kind x.kind y.kind && bytes_eq x.name y.name)

-- A field gives its getter and then, unless it is final, its setter. An abstract declaration gives nothing.
abbrev pub member_keys : Text → Member → List Key
member_keys class (t.field f) = key class Get f.name.text ∷ (if f.is_final then [] else key class Set f.name.text ∷ [])
member_keys class (t.method n params body) = if is_some body then key class Call n.text ∷ [] else []
member_keys class (t.getter n body) = if is_some body then key class Get n.text ∷ [] else []
member_keys class (t.setter n param body) = if is_some body then key class Set n.text ∷ [] else []
member_keys class (t.operator op span params body) = if is_some body then key class Call (operator_name op params) ∷ [] else []
member_keys class (t.constructor n params passed body) = []

-- the key of a built-in member
abbrev pub built_in_key : Tree → Method → Key
built_in_key tree m = key (class_name tree m.owner.0) m.role m.name

-- the built-in members, and then those of the user's in the order of the text
abbrev pub all_keys : Tree → List Key
all_keys tree = map (built_in_key tree) built_in_members ++ flat_map (λ (k : ClassDecl). flat_map (member_keys k.name.text) k.members) (classes tree)

-- the number of a member: how many keys stand before its own
abbrev pub member_number : Tree → Text → SelectorKind → Text → ℕ
member_number tree class kind name = unwrap_or (position (same_key (key class kind name)) (all_keys tree)) 0

-- the number of a function: how many functions stand before it in the text
abbrev pub function_number : Tree → Text → Option ℕ
function_number tree name = position (λ (f : Function). bytes_eq f.name.text name) (functions tree)

-- how many names stand before one
abbrev pub index_of : Text → List Text → Option ℕ
index_of name [] = None
index_of name (x ∷ more) = if bytes_eq x name then Some 0 else option_map suc (index_of name more)

-- the names that are open behind the first part of a `for`, and behind a statement
abbrev pub after_first : List Text → t.First → List Text
after_first names (t.local_first x) = x.name.text ∷ names
after_first names _ = names

-- the same behind a statement
abbrev pub after : List Text → t.Sta → List Text
after names (t.local x) = x.name.text ∷ names
after names _ = names

-- What is assigned to, by its slot or number, its name, or its receiver and index; an assignment writes it, and a compound one reads it before.
pub data Assignable : Type 0 where
  a_local a_global : ℕ → Assignable
  a_super : Text → Assignable
  a_member : c.Exp → Span → Assignable
  an_element : c.Exp → c.Exp → Span → Assignable

-- what `print` prints
abbrev pub printed : c.Exps → c.Exp
printed c.no_more = c.constant l.Null
printed (c.also e more) = e

module _ (tree : Tree) (site_of : Place → ℕ) (here : Option Text) where
  -- the site at a token
  abbrev pub site : Span → ℕ
  site span = site_of (reading span.start)

  -- the site at a token that is written
  abbrev pub writing_site : Span → ℕ
  writing_site span = site_of (writing span.start)

  -- the first class above with such a member
  abbrev pub super_class : SelectorKind → Text → Text
  super_class kind name = unwrap_or (find (λ class. is_some (own tree class kind name)) (unwrap_or (option_map (chain_above tree) here) [])) []

  -- the number of the member that `super` reaches
  abbrev pub super_number : SelectorKind → Text → ℕ
  super_number kind name = member_number tree (super_class kind name) kind name

  -- `names` are the variables that are open, the newest first.
  abbrev pub slot : List Text → Text → ℕ
  slot names name = length names - suc (unwrap_or (index_of name names) 0)

  -- what a bare name is of, where these variables are open
  abbrev pub owner : List Text → Text → Owner
  owner names name = owner_by (is_some (index_of name names)) (class_declares tree here name) (is_some (variable_place tree name))

  -- the number of a variable of the unit
  abbrev pub variable : Text → ℕ
  variable name = unwrap_or (variable_place tree name) 0

  -- one call on a receiver
  abbrev pub one_call : Span → c.Exp → c.Exps → c.Exp
  one_call span e args = c.postfix e (c.call (site span) args c.no_call)

  -- a bare name that is read
  abbrev pub bare : List Text → Owner → Name → c.Exp
  bare names of_body x = c.local (slot names x.text)
  bare names of_unit x = c.global (variable x.text)
  bare names of_this x = one_call x.span c.this c.no_more

  -- an operator before its operand; `!` calls none
  abbrev pub prefixed : Unary → Span → c.Exp → c.Exp
  prefixed u.Minus span e = one_call span e c.no_more
  prefixed u.Complement span e = one_call span e c.no_more
  prefixed u.Not span e = c.not e

  -- a minus directly before a number is a constant
  abbrev pub unary : Option Literal → c.Exp → c.Exp
  unary None e = e
  unary (Some k) e = c.constant k

  -- a function, else a class, else `print`, else a member of `this`
  abbrev pub call_unit : Name → c.Exps → Option ℕ → c.Exp
  call_unit x args (Some f) = c.call_function f args
  call_unit x args None =
      if is_constructed tree x.text then c.new (class_number tree x.text) args
      else (if bytes_eq x.text (codes "print") then c.print (printed args) else one_call x.span c.this args)

  -- A member that the enclosing class declares comes before all of these.
  abbrev pub call : Name → c.Exps → c.Exp
  call x args = if class_declares tree here x.text then one_call x.span c.this args else call_unit x args (function_number tree x.text)

  -- ---- what is assigned to

  -- where an assignment writes
  abbrev pub target_of : Assignable → c.Target
  target_of (a_local k) = c.to_local k
  target_of (a_global k) = c.to_global k
  target_of (a_super name) = c.to_super (super_number Set name)
  target_of (a_member e span) = c.to_member e (writing_site span)
  target_of (an_element e i span) = c.to_element e i (writing_site span)

  -- where a compound assignment reads, and where it writes
  abbrev pub update_of : Assignable → c.Update
  update_of (a_local k) = c.of_local k
  update_of (a_global k) = c.of_global k
  update_of (a_super name) = c.of_super (super_number Get name) (super_number Set name)
  update_of (a_member e span) = c.of_member e (site span) (writing_site span)
  update_of (an_element e i span) = c.of_element e i (site span) (writing_site span)

  -- an assignment, alone or with an operator
  abbrev pub assigned : Option BinaryOperator → Span → Assignable → c.Exp → c.Exp
  assigned None span to e = c.assign (target_of to) e
  assigned (Some op) span to e = c.compound_assign (update_of to) (operator_call op (site span)) e

  abbrev pub bare_assignable : List Text → Owner → Name → Assignable
  bare_assignable names of_body x = a_local (slot names x.text)
  bare_assignable names of_unit x = a_global (variable x.text)
  bare_assignable names of_this x = a_member c.this x.span

  -- No tree has another target.
  abbrev pub no_target : Assignable
  no_target = a_local 0

  abbrev mutual
    pub exp : List Text → t.Exp → c.Exp
    exp names (t.null span) = c.constant l.Null
    exp names (t.bool x span) = c.constant (l.Bool x)
    exp names (t.int n span) = c.constant (l.Int n)
    exp names (t.min_int span) = c.constant l.Null
    exp names (t.this span) = c.this
    exp names (t.str units span) = c.constant (l.Str units)
    exp names (t.joined units span more) = c.interpolation units (pieces names span more)
    exp names (t.bare x) = bare names (owner names x.text) x
    exp names (t.call x args) = call x (exps names args)
    exp names (t.super_get span x) = c.super (super_number Get x.text) c.no_more
    exp names (t.super_call span x args) = c.super (super_number Call x.text) (exps names args)
    exp names (t.paren e) = exp names e
    exp names (t.list span items) = c.list_of (exps names items)
    exp names (t.postfix e more) = c.postfix (exp names e) (selected names more)
    exp names (t.step is_before op span to) = c.increment is_before (operator_call (step_operator op) (site span)) (update_of (assignable names to))
    exp names (t.unary op span e) = unary (negated op e) (prefixed op span (exp names e))
    exp names (t.chain e more) = c.chain (exp names e) (links names more)
    exp names (t.is e denied span x) = c.is (exp names e) denied (class_number tree x.text)
    exp names (t.choice x y z) = c.conditional (exp names x) (exp names y) (exp names z)
    exp names (t.assign to op span e) = assigned (compound op) span (assignable names to) (exp names e)
    exp names (t.throw span e) = c.throw (exp names e)

    pub exps : List Text → t.Exps → c.Exps
    exps names t.no_more = c.no_more
    exps names (t.also e more) = c.also (exp names e) (exps names more)

    pub pieces : List Text → Span → t.Pieces → c.Pieces
    pieces names span t.no_piece = c.no_piece
    pieces names span (t.piece e after next more) = c.piece (site span) (exp names e) after (pieces names next more)

    pub links : List Text → t.Links → c.Links
    links names t.no_link = c.no_link
    links names (t.link op span e more) = c.link (joint_of op (site span)) (exp names e) (links names more)

    pub selected : List Text → t.Selectors → c.Calls
    selected names t.no_selector = c.no_call
    selected names (t.select s more) = select names s (selected names more)

    -- a selector, and then these calls
    pub select : List Text → t.Selector → c.Calls → c.Calls
    select names (t.get x) more = c.call (site x.span) c.no_more more
    select names (t.send x args) more = c.call (site x.span) (exps names args) more
    select names (t.index span i) more = c.call (site span) (c.also (exp names i) c.no_more) more

    pub assignable : List Text → t.Exp → Assignable
    assignable names (t.bare x) = bare_assignable names (owner names x.text) x
    assignable names (t.super_get span x) = a_super x.text
    assignable names (t.postfix e more) = last_of names (c.postfix (exp names e) (all_but_last names more)) more
    assignable names _ = no_target

    pub all_but_last : List Text → t.Selectors → c.Calls
    all_but_last names t.no_selector = c.no_call
    all_but_last names (t.select s t.no_selector) = c.no_call
    all_but_last names (t.select s (t.select x more)) = select names s (all_but_last names (t.select x more))

    -- what the last selector names, on a receiver
    pub last_of : List Text → c.Exp → t.Selectors → Assignable
    last_of names e t.no_selector = no_target
    last_of names e (t.select s t.no_selector) = named_by names e s
    last_of names e (t.select s (t.select x more)) = last_of names e (t.select x more)

    pub named_by : List Text → c.Exp → t.Selector → Assignable
    named_by names e (t.get x) = a_member e x.span
    named_by names e (t.send x args) = no_target
    named_by names e (t.index span i) = an_element e (exp names i) span

  -- an expression, or a constant where none stands
  abbrev pub exp_or : List Text → Literal → Option t.Exp → c.Exp
  exp_or names other None = c.constant other
  exp_or names other (Some e) = exp names e

  abbrev pub first : List Text → t.First → c.First
  first names t.nothing = c.no_first
  first names (t.local_first x) = c.first_declares (exp_or names l.Null x.value)
  first names (t.run_first e) = c.first_runs (exp names e)

  abbrev mutual
    pub sta : List Text → t.Sta → c.Sta
    sta names (t.block all) = c.block (stas names all)
    sta names (t.local x) = c.declare (exp_or names l.Null x.value)
    sta names (t.run e) = c.run (exp names e)
    sta names t.empty = c.empty
    sta names (t.when e x) = c.when (exp names e) (sta names x)
    sta names (t.when_else e x y) = c.when_else (exp names e) (sta names x) (sta names y)
    sta names (t.while e x) = c.while (exp names e) (sta names x)
    sta names (t.do_while x e) = c.do_while (sta names x) (exp names e)
    sta names (t.for start e last x) =
        c.for (first names start) (exp_or (after_first names start) (l.Bool true) e) (exps (after_first names start) last) (sta (after_first names start) x)
    sta names (t.break span) = c.break
    sta names (t.continue span) = c.continue
    sta names (t.return span e) = c.return (exp_or names l.Null e)

    pub stas : List Text → t.Stas → c.Stas
    stas names t.done = c.end_of
    stas names (t.next x more) = c.next (sta names x) (stas (after names x) more)

-- ---- bodies

-- the names of parameters, of which the first is the oldest
abbrev pub param_names : List Param → List Text
param_names params = reverse (map (λ (p : Param). p.name.text) params)

-- in a constructor's body a `this.x` has no name, since x means the field there
abbrev pub body_name : Param → Text
body_name p = if p.is_field then [] else p.name.text

-- the names that a constructor's body knows, the newest first
abbrev pub body_names : List Param → List Text
body_names params = reverse (map body_name params)

-- the fields that a constructor's parameters set
abbrev pub sets : Tree → Text → List Param → List (Option ℕ)
sets tree class params = map (λ (p : Param). if p.is_field then Some (field_place tree class p.name.text) else None) params
