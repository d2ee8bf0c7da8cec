-- What the bodies of a tree use: each name, member, operator and statement that a static rule or a call site speaks of. One walk by scope gives them, and says of a bare name what is known of it there.
use Rattle.std.specs.Prelude.{ℕ, suc, Bool, true, false, ◌||◌, if◌then◌else◌, List, [], ◌∷◌, ◌++◌, flat_map, Option, None, Some, is_some}
use Rattle.std.specs.List.{list_any}
use Rattle.std.specs.Str.{bytes_eq}
use Rattle.dart_syntax.specs.declared.token.Span.{Span}
use Rattle.dart_syntax.specs.declared.tree.Name.{Name}
use Rattle.dart_syntax.specs.declared.tree.Unary.{Unary}
use Rattle.dart_syntax.specs.declared.tree.Unary.TheVariants as unary
use Rattle.program.specs.declared.body.BinaryOperator.{BinaryOperator}
use Rattle.dart_syntax.specs.Bytes.{Text}
use Rattle.dart_syntax.specs.Syntax as t
use Rattle.dart_syntax.specs.Syntax.{Exp, Exps, Pieces, Links, Selectors, Selector, First, Sta, Stas, Param, Body, Passed, Member, ClassDecl, Top, Tree}
use Rattle.dart_meaning.specs.Operators.{operator_of, compound, step_operator}
use Rattle.dart_meaning.specs.declared.seen.Seen.{Seen}
use Rattle.dart_meaning.specs.declared.seen.Seen.TheVariants.{Late, Ready}

-- ---- scopes

-- What a place of a body knows of each name: nothing, or a local or a parameter of that name.
abbrev pub Scope : Type 0
Scope = Text → Option Seen

-- outside of all bodies no name is a local
abbrev pub nothing_seen : Scope
nothing_seen q = None

-- the scope in which this is known of one name more
abbrev pub with_seen : Name → Seen → Scope → Scope
with_seen n seen scope q = if bytes_eq n.text q then Some seen else scope q

-- the name that a statement declares in its block
abbrev pub declared : Sta → List Name
declared (t.local l) = l.name ∷ []
declared _ = []

-- the names that the statements of one block declare
abbrev pub locals : Stas → List Name
locals t.done = []
locals (t.next s more) = declared s ++ locals more

-- A local belongs to its whole block, and can be used behind its declaration.
abbrev pub opened : List Name → Scope → Scope
opened [] scope = scope
opened (n ∷ more) scope = opened more (with_seen n Late scope)

-- the scope behind a statement
abbrev pub after : Sta → Scope → Scope
after (t.local l) scope = with_seen l.name (Ready l.is_final) scope
after _ scope = scope

-- the same behind the first part of a `for`
abbrev pub after_first : First → Scope → Scope
after_first (t.local_first l) scope = with_seen l.name (Ready l.is_final) scope
after_first _ scope = scope

-- In a body the name of a parameter `this.x` means the field.
abbrev pub with_param : Param → Scope → Scope
with_param p scope = if p.is_field then scope else with_seen p.name (Ready p.is_final) scope

-- the scope of a body with these parameters, of which a later one hides an earlier one
abbrev pub with_params : List Param → Scope → Scope
with_params [] scope = scope
with_params (p ∷ more) scope = with_params more (with_param p scope)

-- In what a constructor passes to its superclass it means the parameter, which is final there.
abbrev pub with_passed : List Param → Scope → Scope
with_passed [] scope = scope
with_passed (p ∷ more) scope = with_passed more (with_seen p.name (Ready (p.is_field || p.is_final)) scope)

-- ---- uses

-- one thing that a body does with a name, member or operator, with its place
pub data Use : Type 0 where
  -- a bare name, and what is known of it; `calls` with so many arguments
  reads writes : Name → Option Seen → Use
  calls : Name → Option Seen → ℕ → Use
  -- the word `this`
  this_at : Span → Use
  -- a member of `super`, behind that word
  super_reads super_writes : Span → Name → Use
  super_calls : Span → Name → ℕ → Use
  -- a member behind a `.`
  member_reads member_writes : Name → Use
  member_calls : Name → ℕ → Use
  -- an index, at its bracket
  index_reads index_writes : Span → Use
  -- an operator between two operands, also the one of a compound assignment
  operates : BinaryOperator → Span → Use
  prefixes : Unary → Span → Use
  -- an interpolation, at the piece of the string before it
  shows : Span → Use
  -- the name behind `is`
  names_class : Name → Use
  -- a local, and what its name means outside of its block
  declares : Name → Option Seen → Use
  -- `break` or `continue`, and whether a loop is open
  leaves_loop : Span → Bool → Use
  -- a `return` with a value
  returns_value : Span → Use
  -- a parameter `this.x` of a constructor
  sets_field : Name → Use
  -- the constructor of the superclass, with so many arguments, at the word `super` or else at the class's name
  enters_super : Span → ℕ → Use

-- how many arguments there are
abbrev pub count : Exps → ℕ
count t.no_more = 0
count (t.also e more) = suc (count more)

-- the operator that is called, if any
abbrev pub operator_use : Option BinaryOperator → Span → List Use
operator_use None at = []
operator_use (Some op) at = operates op at ∷ []

-- an integer as it stands in the text
abbrev pub is_number : Exp → Bool
is_number (t.int n at) = true
is_number (t.min_int at) = true
is_number _ = false

-- `!` calls nothing, and a minus directly before a number neither.
abbrev pub prefix_use : Unary → Span → Exp → List Use
prefix_use unary.Not at e = []
prefix_use unary.Minus at e = if is_number e then [] else prefixes unary.Minus at ∷ []
prefix_use unary.Complement at e = prefixes unary.Complement at ∷ []

-- what is assigned to, and read before where the assignment is compound
abbrev pub changes : Bool → Use → Use → List Use
changes false read write = write ∷ []
changes true read write = read ∷ write ∷ []

-- whether there is a selector
abbrev pub has_more : Selectors → Bool
has_more t.no_selector = false
has_more (t.select s more) = true

module _ (scope : Scope) where
  abbrev mutual
    pub exp : Exp → List Use
    exp (t.this at) = this_at at ∷ []
    exp (t.joined units at more) = pieces at more
    exp (t.bare n) = reads n (scope n.text) ∷ []
    exp (t.call n args) = calls n (scope n.text) (count args) ∷ exps args
    exp (t.super_get at n) = super_reads at n ∷ []
    exp (t.super_call at n args) = super_calls at n (count args) ∷ exps args
    exp (t.paren e) = exp e
    exp (t.list at items) = exps items
    exp (t.postfix e more) = exp e ++ selectors more
    exp (t.step before op at to) = target true to ++ operates (step_operator op) at ∷ []
    exp (t.unary op at e) = prefix_use op at e ++ exp e
    exp (t.chain e more) = exp e ++ links more
    exp (t.is e denied at n) = exp e ++ names_class n ∷ []
    exp (t.choice c x y) = exp c ++ (exp x ++ exp y)
    exp (t.assign to op at e) = target (is_some (compound op)) to ++ (operator_use (compound op) at ++ exp e)
    exp (t.throw at e) = exp e
    exp _ = []

    pub exps : Exps → List Use
    exps t.no_more = []
    exps (t.also e more) = exp e ++ exps more

    -- behind the piece of a string that stands at this place
    pub pieces : Span → Pieces → List Use
    pieces at t.no_piece = []
    pieces at (t.piece e units next more) = shows at ∷ (exp e ++ pieces next more)

    pub links : Links → List Use
    links t.no_link = []
    links (t.link op at e more) = operator_use (operator_of op) at ++ (exp e ++ links more)

    pub selector : Selector → List Use
    selector (t.get n) = member_reads n ∷ []
    selector (t.send n args) = member_calls n (count args) ∷ exps args
    selector (t.index at e) = index_reads at ∷ exp e

    pub selectors : Selectors → List Use
    selectors t.no_selector = []
    selectors (t.select s more) = selector s ++ selectors more

    -- the last selector of a target
    pub changed : Bool → Selector → List Use
    changed reads_too (t.get n) = changes reads_too (member_reads n) (member_writes n)
    changed reads_too (t.send n args) = []
    changed reads_too (t.index at e) = exp e ++ changes reads_too (index_reads at) (index_writes at)

    -- the selectors of a target; the last one is written
    pub up_to_changed : Bool → Selectors → List Use
    up_to_changed reads_too t.no_selector = []
    up_to_changed reads_too (t.select s more) = if has_more more then selector s ++ up_to_changed reads_too more else changed reads_too s

    -- what is assigned to; no other expression may be
    pub target : Bool → Exp → List Use
    target reads_too (t.bare n) = changes reads_too (reads n (scope n.text)) (writes n (scope n.text))
    target reads_too (t.super_get at n) = changes reads_too (super_reads at n) (super_writes at n)
    target reads_too (t.postfix e more) = exp e ++ up_to_changed reads_too more
    target reads_too _ = []

  -- what may be left out
  abbrev pub exp_if : Option Exp → List Use
  exp_if None = []
  exp_if (Some e) = exp e

-- the locals of a block, each with what its name means outside of the block
abbrev pub declared_uses : Scope → List Name → List Use
declared_uses scope [] = []
declared_uses scope (n ∷ more) = declares n (scope n.text) ∷ declared_uses scope more

-- what the first part of a `for` declares and uses
abbrev pub first_uses : Scope → First → List Use
first_uses scope t.nothing = []
first_uses scope (t.local_first l) = declares l.name (scope l.name.text) ∷ exp_if (with_seen l.name Late scope) l.value
first_uses scope (t.run_first e) = exp scope e

-- `loops` says whether a loop is open. A branch or a loop's body is a block of its own, and so is a `for` with its parts and its body.
abbrev mutual
  pub sta : Bool → Scope → Sta → List Use
  sta loops scope (t.block all) = declared_uses scope (locals all) ++ stas loops (opened (locals all) scope) all
  sta loops scope (t.local l) = exp_if scope l.value
  sta loops scope (t.run e) = exp scope e
  sta loops scope t.empty = []
  sta loops scope (t.when c x) = exp scope c ++ (declared_uses scope (declared x) ++ sta loops (opened (declared x) scope) x)
  sta loops scope (t.when_else c x y) =
      exp scope c
      ++ (declared_uses scope (declared x) ++ (sta loops (opened (declared x) scope) x
      ++ (declared_uses scope (declared y) ++ sta loops (opened (declared y) scope) y)))
  sta loops scope (t.while c x) = exp scope c ++ (declared_uses scope (declared x) ++ sta true (opened (declared x) scope) x)
  sta loops scope (t.do_while x c) = declared_uses scope (declared x) ++ (sta true (opened (declared x) scope) x ++ exp scope c)
  sta loops scope (t.for first c last x) =
      first_uses scope first
      ++ (exp_if (after_first first scope) c
      ++ (exps (after_first first scope) last
      ++ (declared_uses (after_first first scope) (declared x) ++ sta true (opened (declared x) (after_first first scope)) x)))
  sta loops scope (t.break at) = leaves_loop at loops ∷ []
  sta loops scope (t.continue at) = leaves_loop at loops ∷ []
  sta loops scope (t.return at None) = []
  sta loops scope (t.return at (Some e)) = returns_value at ∷ exp scope e

  pub stas : Bool → Scope → Stas → List Use
  stas loops scope t.done = []
  stas loops scope (t.next x more) = sta loops scope x ++ stas loops (after x scope) more

-- what a body's block declares and uses, outside of any loop
abbrev pub block_uses : Scope → Stas → List Use
block_uses scope all = declared_uses scope (locals all) ++ stas false (opened (locals all) scope) all

-- what an arrow or a block uses
abbrev pub body_uses : Scope → Body → List Use
body_uses scope (t.arrow e) = exp scope e
body_uses scope (t.code all) = block_uses scope all

-- ---- the parts of a tree that use something

-- `this` stands for an object in the bodies of members, but neither in functions nor in what a constructor passes to its superclass.
pub data Kind : Type 0 where
  of_function of_member of_passed of_constructor : Kind

-- a part of a tree, the class that holds it, and what it uses
pub record Part : Type 0 where
  pub kind : Kind
  pub class : Option ClassDecl
  pub uses : List Use

-- a part of this kind, in this class if in any
abbrev pub part : Kind → Option ClassDecl → List Use → Part
part kind class uses = record { kind = kind; class = class; uses = uses }

-- a member's body; an abstract member has no part
abbrev pub member_part : ClassDecl → List Param → Option Body → List Part
member_part c params None = []
member_part c params (Some b) = part of_member (Some c) (body_uses (with_params params nothing_seen) b) ∷ []

-- Where a constructor says nothing of its superclass, it passes nothing to it; that stands at the name in the class's head.
abbrev pub passed_uses : ClassDecl → List Param → Option Passed → List Use
passed_uses c params None = enters_super c.name.span 0 ∷ []
passed_uses c params (Some p) = enters_super p.at (count p.args) ∷ exps (with_passed params nothing_seen) p.args

-- the parameters `this.x`, each of which sets a field
abbrev pub field_uses : List Param → List Use
field_uses [] = []
field_uses (p ∷ more) = if p.is_field then sets_field p.name ∷ field_uses more else field_uses more

-- what a constructor's block uses, if it has one
abbrev pub some_block_uses : Scope → Option Stas → List Use
some_block_uses scope None = []
some_block_uses scope (Some all) = block_uses scope all

-- what is passed to the superclass, and then the fields that are set and the body
abbrev pub constructor_parts : ClassDecl → List Param → Option Passed → Option Stas → List Part
constructor_parts c params passed body =
    part of_passed (Some c) (passed_uses c params passed)
    ∷ part of_constructor (Some c) (field_uses params ++ some_block_uses (with_params params nothing_seen) body)
    ∷ []

-- the parts of one member; a field's literal uses nothing
abbrev pub member_parts : ClassDecl → Member → List Part
member_parts c (t.field l) = []
member_parts c (t.method n params b) = member_part c params b
member_parts c (t.getter n b) = member_part c [] b
member_parts c (t.setter n param b) = member_part c (param ∷ []) b
member_parts c (t.operator op at params b) = member_part c params b
member_parts c (t.constructor n params passed b) = constructor_parts c params passed b

-- whether a member is a constructor
abbrev pub is_constructor : Member → Bool
is_constructor (t.constructor n params passed b) = true
is_constructor _ = false

-- A class without a constructor has one without parameters.
abbrev pub class_parts : ClassDecl → List Part
class_parts c = if list_any is_constructor c.members then flat_map (member_parts c) c.members else constructor_parts c [] None None ++ flat_map (member_parts c) c.members

-- the parts of one declaration; a variable's literal uses nothing
abbrev pub top_parts : Top → List Part
top_parts (t.a_class c) = class_parts c
top_parts (t.a_function f) = part of_function None (body_uses (with_params f.params nothing_seen) f.body) ∷ []
top_parts (t.a_variable v) = []

-- the parts of the whole tree, in the order of the text
abbrev pub parts : Tree → List Part
parts tree = flat_map top_parts tree.tops
