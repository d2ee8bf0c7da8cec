-- When a numbered program stands for a tree: it has the tree's classes and members, each body is the numbered form of the tree's, and each site has the selector that the call there has.
use Rattle.std.specs.Prelude.{◌≡◌, ℕ, ◌<◌, ◌-◌, ◌++◌, Bool, true, false, not, List, [], length, map, replicate, slice_get, Option, Some, None, is_some, unwrap_or, codes}
use Rattle.std.specs.Option.{option_map, option_and_then}
use Rattle.std.specs.Str.{bytes_eq}
use Rattle.dart_syntax.specs.declared.token.Span.{Span}
use Rattle.dart_syntax.specs.declared.tree.Unary.{Unary}
use Rattle.dart_syntax.specs.declared.tree.Unary.TheVariants as u
use Rattle.dart_syntax.specs.Syntax as t
use Rattle.dart_syntax.specs.Syntax.{Tree, Param}
use Rattle.program.specs.declared.literal.Literal.{Literal}
use Rattle.program.specs.declared.body.Body.{Body}
use Rattle.program.specs.declared.body.Body.TheVariants as body
use Rattle.program.specs.declared.numbered.Constructor.{Constructor}
use Rattle.program.specs.declared.numbered.Function.{Function}
use Rattle.program.specs.declared.numbered.Selector.{Selector}
use Rattle.program.specs.Bodies as c
use Rattle.program.specs.Parts.{Parts, selector_at}
use Rattle.program.specs.BuiltIn.{built_in_parts}
use Rattle.dart_meaning.specs.Sites as sites
use Rattle.dart_values.specs.Values.{Text, null}
use Rattle.dart_meaning.specs.Place.{Place, reading, writing, in_print, in_list}
use Rattle.dart_meaning.specs.Operators.{compound}
use Rattle.dart_meaning.specs.Program.{Found, built_in, reads, writes, coded, calling, getting, setting}
use Rattle.dart_meaning.specs.Classes as classes
use Rattle.dart_meaning.specs.Classes.{Code, body_of, constructing, class_declares, class_number, class_numbers, is_constructed, function_named, functions, object, parent, no_constructor, of_tree}
use Rattle.dart_meaning.specs.Meaning.{Owner, of_this, count}
use Rattle.dart_meaning.specs.Entry.{globals_of, entry_meaning}
use Rattle.dart_meaning.specs.Numbered as n
use Rattle.dart_meaning.specs.Literals.{literal, literal_or_null, negated}
use Rattle.dart_meaning.specs.Numbered.{of_numbered, method_at, entry_meaning_n}
use Rattle.dart_meaning.specs.Numbering as num

-- both there and related, or neither there
abbrev pub BothOrNone : {A B : Type 0} → (A → B → Type 0) → Option A → Option B → Type 0
BothOrNone R (Some a) (Some b) = R a b
BothOrNone R None None = Unit {0}
BothOrNone R _ _ = ⊥

-- only where something is so
abbrev pub Where : Bool → Type 0 → Type 0
Where true P = P
Where false P = Unit {0}

-- the class above the one that holds a body
abbrev pub above : Tree → Option Text → ℕ
above tree here = class_number tree (unwrap_or (option_and_then (parent tree) here) object)

module _ (tree : Tree) (site_of : Place → ℕ) (p : Parts) where
  -- ---- sites

  -- the site at a place has this selector
  abbrev pub CallsAt : Place → Selector → Type 0
  CallsAt place sel = selector_at p (site_of place) ≡ Some sel

  module _ (here : Option Text) where
    -- The number of a member of `super` is that of the member which the class above finds.
    abbrev pub FindsAbove : Selector → Type 0
    FindsAbove sel = (found : Found n.Code) × (method_at p (num.super_number tree site_of here sel.kind sel.name) ≡ Some found) × ((of_numbered p).lookup (above tree here) sel ≡ Some found)

    -- a bare name that means a member of `this`
    abbrev pub BareCalls : Owner → Place → Selector → Type 0
    BareCalls of_this place sel = CallsAt place sel
    BareCalls _ place sel = Unit {0}

    -- `f(x)` means `this.f(x)` where the class declares it, and where it is no function, no class and no `print`, which takes one argument.
    abbrev pub BareCallCalls : Bool → Option ℕ → Bool → Bool → Place → Selector → Type 0
    BareCallCalls true f is_class is_print place sel = CallsAt place sel
    BareCallCalls false None false false place sel = CallsAt place sel
    BareCallCalls false None false true place sel = sel.count ≡ 1
    BareCallCalls false _ _ _ place sel = Unit {0}

    abbrev pub PrefixCalls : Unary → Span → Type 0
    PrefixCalls u.Minus span = CallsAt (reading span.start) (calling (codes "unary-") 0)
    PrefixCalls u.Complement span = CallsAt (reading span.start) (calling (codes "~") 0)
    PrefixCalls u.Not span = Unit {0}

    -- Each site of an expression has the selector that its call has, and each member of `super` is found. `names` are the variables that are open.
    abbrev mutual
      pub ExpCalls : List Text → t.Exp → Type 0
      ExpCalls names (t.joined units span more) = PiecesCall names more
      ExpCalls names (t.bare x) = BareCalls (num.owner tree site_of here names x.text) (reading x.span.start) (getting x.text)
      ExpCalls names (t.call x args) =
          BareCallCalls (class_declares tree here x.text) (num.function_number tree x.text) (is_constructed tree x.text) (bytes_eq x.text (codes "print")) (reading x.span.start) (calling x.text (count args))
          × ExpsCall names args
      ExpCalls names (t.super_get span x) = FindsAbove (getting x.text)
      ExpCalls names (t.super_call span x args) = FindsAbove (calling x.text (count args)) × ExpsCall names args
      ExpCalls names (t.paren e) = ExpCalls names e
      ExpCalls names (t.list span items) = ExpsCall names items
      ExpCalls names (t.postfix e more) = ExpCalls names e × SelectorsCall names more
      ExpCalls names (t.step is_before op span to) = SpotCalls names true to
      ExpCalls names (t.unary op span e) = Where (not (is_some (negated op e))) (PrefixCalls op span) × ExpCalls names e
      ExpCalls names (t.chain e more) = ExpCalls names e × LinksCall names more
      ExpCalls names (t.is e denied span x) = ExpCalls names e
      ExpCalls names (t.choice x y z) = ExpCalls names x × ExpCalls names y × ExpCalls names z
      ExpCalls names (t.assign to op span e) = SpotCalls names (is_some (compound op)) to × ExpCalls names e
      ExpCalls names (t.throw span e) = ExpCalls names e
      ExpCalls names _ = Unit {0}

      pub ExpsCall : List Text → t.Exps → Type 0
      ExpsCall names t.no_more = Unit {0}
      ExpsCall names (t.also e more) = ExpCalls names e × ExpsCall names more

      pub PiecesCall : List Text → t.Pieces → Type 0
      PiecesCall names t.no_piece = Unit {0}
      PiecesCall names (t.piece e after next more) = ExpCalls names e × PiecesCall names more

      pub LinksCall : List Text → t.Links → Type 0
      LinksCall names t.no_link = Unit {0}
      LinksCall names (t.link op span e more) = ExpCalls names e × LinksCall names more

      pub SelectorsCall : List Text → t.Selectors → Type 0
      SelectorsCall names t.no_selector = Unit {0}
      SelectorsCall names (t.select s more) = SelectCalls names s × SelectorsCall names more

      pub SelectCalls : List Text → t.Selector → Type 0
      SelectCalls names (t.get x) = CallsAt (reading x.span.start) (getting x.text)
      SelectCalls names (t.send x args) = CallsAt (reading x.span.start) (calling x.text (count args)) × ExpsCall names args
      SelectCalls names (t.index span e) = CallsAt (reading span.start) (calling (codes "[]") 1) × ExpCalls names e

      -- What is assigned to, and whether it is read before. It is a name, a member of `super`, or what a last selector names.
      pub SpotCalls : List Text → Bool → t.Exp → Type 0
      SpotCalls names is_read (t.bare x) =
          Where is_read (BareCalls (num.owner tree site_of here names x.text) (reading x.span.start) (getting x.text))
          × BareCalls (num.owner tree site_of here names x.text) (writing x.span.start) (setting x.text)
      SpotCalls names is_read (t.super_get span x) = Where is_read (FindsAbove (getting x.text)) × FindsAbove (setting x.text)
      SpotCalls names is_read (t.postfix e more) = ExpCalls names e × LastCalls names is_read more
      SpotCalls names is_read _ = ⊥

      pub LastCalls : List Text → Bool → t.Selectors → Type 0
      LastCalls names is_read t.no_selector = ⊥
      LastCalls names is_read (t.select s t.no_selector) = LastCall names is_read s
      LastCalls names is_read (t.select s (t.select x more)) = SelectCalls names s × LastCalls names is_read (t.select x more)

      pub LastCall : List Text → Bool → t.Selector → Type 0
      LastCall names is_read (t.get x) = Where is_read (CallsAt (reading x.span.start) (getting x.text)) × CallsAt (writing x.span.start) (setting x.text)
      LastCall names is_read (t.send x args) = ⊥
      LastCall names is_read (t.index span e) =
          ExpCalls names e × Where is_read (CallsAt (reading span.start) (calling (codes "[]") 1)) × CallsAt (writing span.start) (calling (codes "[]=") 2)

    abbrev pub IfCalls : List Text → Option t.Exp → Type 0
    IfCalls names None = Unit {0}
    IfCalls names (Some e) = ExpCalls names e

    abbrev pub FirstCalls : List Text → t.First → Type 0
    FirstCalls names t.nothing = Unit {0}
    FirstCalls names (t.local_first x) = IfCalls names x.value
    FirstCalls names (t.run_first e) = ExpCalls names e

    -- the same of statements
    abbrev mutual
      pub StaCalls : List Text → t.Sta → Type 0
      StaCalls names (t.block all) = StasCall names all
      StaCalls names (t.local x) = IfCalls names x.value
      StaCalls names (t.run e) = ExpCalls names e
      StaCalls names (t.when e x) = ExpCalls names e × StaCalls names x
      StaCalls names (t.when_else e x y) = ExpCalls names e × StaCalls names x × StaCalls names y
      StaCalls names (t.while e x) = ExpCalls names e × StaCalls names x
      StaCalls names (t.do_while x e) = StaCalls names x × ExpCalls names e
      StaCalls names (t.for start e last x) =
          FirstCalls names start × IfCalls (num.after_first names start) e × ExpsCall (num.after_first names start) last
          × StaCalls (num.after_first names start) x
      StaCalls names (t.return span e) = IfCalls names e
      StaCalls names _ = Unit {0}

      pub StasCall : List Text → t.Stas → Type 0
      StasCall names t.done = Unit {0}
      StasCall names (t.next x more) = StaCalls names x × StasCall (num.after names x) more

    -- ---- bodies

    -- A body with these names open is the numbered form of the tree's.
    abbrev pub IsBody : List Text → t.Body → Body → Type 0
    IsBody names (t.arrow e) (body.Arrow x) = (c.exp x ≡ num.exp tree site_of here names e) × ExpCalls names e
    IsBody names (t.code all) (body.Block x) = (c.stas (map c.sta x) ≡ num.stas tree site_of here names all) × StasCall names all
    IsBody names _ _ = ⊥

  -- Required parameters come first, and have no default.
  abbrev pub AreParams : List Param → ℕ → List Literal → Type 0
  AreParams params required defaults = replicate required null ++ map literal defaults ≡ map (λ (k : Param). literal_or_null k.default) params

  pub record IsConstructor (class : Text) (k : classes.Constructor) (b : Constructor) : Type 0 where
    pub params : AreParams k.params b.required b.defaults
    pub sets : b.sets ≡ num.sets tree class k.params
    pub passes : c.exps (map c.exp b.passes) ≡ num.exps tree site_of (Some class) (num.param_names k.params) k.passes
    pub passes_call : ExpsCall (Some class) (num.param_names k.params) k.passes
    pub body : c.stas (map c.sta b.body) ≡ num.stas tree site_of (Some class) (num.body_names k.params) k.body
    pub body_calls : StasCall (Some class) (num.body_names k.params) k.body

  -- Where none is written, it is the one without parameters.
  abbrev pub MayBeConstructor : Text → classes.Constructor → Option Constructor → Type 0
  MayBeConstructor class k None = k ≡ no_constructor
  MayBeConstructor class k (Some b) = IsConstructor class k b

  -- a body with its parameters
  abbrev pub IsCoded : Option Text → List Param → t.Body → Option n.Coded → Type 0
  IsCoded here params b None = ⊥
  IsCoded here params b (Some k) = AreParams params k.required k.defaults × IsBody here (num.param_names params) b k.body

  abbrev pub IsCode : Code → n.Code → Type 0
  IsCode (body_of here params b) code = IsCoded here params b (n.coded_at p code)
  IsCode (constructing class k) (n.the_constructor number) =
      MayBeConstructor class k (n.constructor_of p number) × (n.class_above p number ≡ above tree (Some class))
  IsCode (constructing class k) _ = ⊥

  abbrev pub IsFound : Found Code → Found n.Code → Type 0
  IsFound (built_in k) (built_in m) = m ≡ k
  IsFound (reads k) (reads m) = m ≡ k
  IsFound (writes k) (writes m) = m ≡ k
  IsFound (coded k) (coded m) = IsCode k m
  IsFound _ _ = ⊥

  abbrev pub IsFunction : t.Function → Function → Type 0
  IsFunction f k = IsCoded None f.params f.body (Some (n.function_coded k))

  -- The numbered program stands for the tree.
  pub record Agree : Type 0 where
    pub lookup : (class : ℕ) → class < class_numbers tree → (sel : Selector) → BothOrNone IsFound ((of_tree tree).lookup class sel) ((of_numbered p).lookup class sel)
    pub class_name : (of_numbered p).class_name ≡ (of_tree tree).class_name
    pub is_subtype : (class other : ℕ) → class < class_numbers tree → other < class_numbers tree → (of_numbered p).is_subtype class other ≡ (of_tree tree).is_subtype class other
    pub fields : (class : ℕ) → class < class_numbers tree → (of_numbered p).fields class ≡ (of_tree tree).fields class
    pub constructor : (class : ℕ) → class < class_numbers tree → BothOrNone IsCode ((of_tree tree).constructor class) ((of_numbered p).constructor class)
    pub functions : (f : ℕ) → BothOrNone IsFunction (slice_get (functions tree) f) (slice_get p.functions f)
    pub globals : map literal p.globals ≡ globals_of tree
    pub print_site : length p.sites - 2 ≡ site_of in_print
    pub list_site : length p.sites - 1 ≡ site_of in_list

-- For every tree and every numbered program that stands for it: each entry does the same, with every number of turns.
abbrev pub NumberedIsSame : Type 0
NumberedIsSame = (tree : Tree) (site_of : Place → ℕ) (p : Parts) → Agree tree site_of p →
    (f turns : ℕ) → entry_meaning_n p f turns ≡ option_map (λ k. entry_meaning tree site_of k turns) (slice_get (functions tree) f)

-- a tree that declares nothing
abbrev pub nothing : Tree
nothing = record { tops = [] }

-- The program of the built-in classes and members stands for it.
abbrev pub BuiltInStandsForNothing : Type 0
BuiltInStandsForNothing = Agree nothing (sites.site_of nothing) built_in_parts
