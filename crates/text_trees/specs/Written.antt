-- What the grammar keeps of the tree of every text.
use Rattle.std.specs.Prelude.{◌≡◌, ℕ, ◌^◌, ◌<◌, true, false, List, [], ◌∷◌, length, map, slice_get, Option, None, Some, IsAscii}
use Rattle.dart_syntax.specs.Bytes.{Text}
use Rattle.dart_syntax.specs.Names.{is_name}
use Rattle.dart_syntax.specs.Syntax as t
use Rattle.dart_syntax.specs.Syntax.{Exp, Exps, Pieces, Links, Selectors, Selector, First, Sta, Stas, Param, Body, Passed, Member, Top, Tree}
use Rattle.dart_meaning.specs.Place.{Place, reading, writing}
use Rattle.dart_meaning.specs.Uses.{Use, reads, writes, calls, member_reads, member_writes, member_calls, Part, parts}
use Rattle.dart_meaning.specs.Sites.{Site, text_sites, key}
use Rattle.text_trees.specs.Nodes.{tree_nodes}

-- ---- what is assigned to

-- Everywhere inside, what is assigned to or stepped is a name, a member of `super`, or a member or an index behind an expression.
abbrev mutual
  pub IsWrittenExp : Exp → Type 0
  IsWrittenExp (t.joined units at more) = AreWrittenPieces more
  IsWrittenExp (t.call n args) = AreWrittenExps args
  IsWrittenExp (t.super_call at n args) = AreWrittenExps args
  IsWrittenExp (t.paren e) = IsWrittenExp e
  IsWrittenExp (t.list at items) = AreWrittenExps items
  IsWrittenExp (t.postfix e more) = IsWrittenExp e × AreWrittenSelectors more
  IsWrittenExp (t.step before op at to) = IsTarget to
  IsWrittenExp (t.unary op at e) = IsWrittenExp e
  IsWrittenExp (t.chain e more) = IsWrittenExp e × AreWrittenLinks more
  IsWrittenExp (t.is e denied at n) = IsWrittenExp e
  IsWrittenExp (t.choice x y z) = IsWrittenExp x × IsWrittenExp y × IsWrittenExp z
  IsWrittenExp (t.assign to op at e) = IsTarget to × IsWrittenExp e
  IsWrittenExp (t.throw at e) = IsWrittenExp e
  IsWrittenExp _ = Unit {0}

  pub AreWrittenExps : Exps → Type 0
  AreWrittenExps t.no_more = Unit {0}
  AreWrittenExps (t.also e more) = IsWrittenExp e × AreWrittenExps more

  pub AreWrittenPieces : Pieces → Type 0
  AreWrittenPieces t.no_piece = Unit {0}
  AreWrittenPieces (t.piece e units at more) = IsWrittenExp e × AreWrittenPieces more

  pub AreWrittenLinks : Links → Type 0
  AreWrittenLinks t.no_link = Unit {0}
  AreWrittenLinks (t.link op at e more) = IsWrittenExp e × AreWrittenLinks more

  pub AreWrittenSelectors : Selectors → Type 0
  AreWrittenSelectors t.no_selector = Unit {0}
  AreWrittenSelectors (t.select s more) = IsWrittenSelector s × AreWrittenSelectors more

  pub IsWrittenSelector : Selector → Type 0
  IsWrittenSelector (t.get n) = Unit {0}
  IsWrittenSelector (t.send n args) = AreWrittenExps args
  IsWrittenSelector (t.index at e) = IsWrittenExp e

  -- what may be assigned to
  pub IsTarget : Exp → Type 0
  IsTarget (t.bare n) = Unit {0}
  IsTarget (t.super_get at n) = Unit {0}
  IsTarget (t.postfix e more) = IsWrittenExp e × EndsAsTarget more
  IsTarget _ = ⊥

  pub EndsAsTarget : Selectors → Type 0
  EndsAsTarget t.no_selector = ⊥
  EndsAsTarget (t.select s t.no_selector) = IsLastOfTarget s
  EndsAsTarget (t.select s (t.select x more)) = IsWrittenSelector s × EndsAsTarget (t.select x more)

  pub IsLastOfTarget : Selector → Type 0
  IsLastOfTarget (t.get n) = Unit {0}
  IsLastOfTarget (t.send n args) = ⊥
  IsLastOfTarget (t.index at e) = IsWrittenExp e

-- the same of what may be left out: a value, a condition, or what `return` answers
abbrev pub IsWrittenValue : Option Exp → Type 0
IsWrittenValue None = Unit {0}
IsWrittenValue (Some e) = IsWrittenExp e

abbrev pub IsWrittenFirst : First → Type 0
IsWrittenFirst t.nothing = Unit {0}
IsWrittenFirst (t.local_first l) = IsWrittenValue l.value
IsWrittenFirst (t.run_first e) = IsWrittenExp e

abbrev mutual
  pub IsWrittenSta : Sta → Type 0
  IsWrittenSta (t.block all) = AreWrittenStas all
  IsWrittenSta (t.local l) = IsWrittenValue l.value
  IsWrittenSta (t.run e) = IsWrittenExp e
  IsWrittenSta (t.when e x) = IsWrittenExp e × IsWrittenSta x
  IsWrittenSta (t.when_else e x y) = IsWrittenExp e × IsWrittenSta x × IsWrittenSta y
  IsWrittenSta (t.while e x) = IsWrittenExp e × IsWrittenSta x
  IsWrittenSta (t.do_while x e) = IsWrittenSta x × IsWrittenExp e
  IsWrittenSta (t.for start e last x) = IsWrittenFirst start × IsWrittenValue e × AreWrittenExps last × IsWrittenSta x
  IsWrittenSta (t.return at e) = IsWrittenValue e
  IsWrittenSta _ = Unit {0}

  pub AreWrittenStas : Stas → Type 0
  AreWrittenStas t.done = Unit {0}
  AreWrittenStas (t.next x more) = IsWrittenSta x × AreWrittenStas more

-- ---- declarations

-- the name of a declaration
pub record IsWrittenName (text : Text) : Type 0 where
  pub name : is_name text ≡ true
  pub ascii : IsAscii text

-- each call has to give it
pub record IsWrittenParam (p : Param) : Type 0 where
  pub required : p.optional ≡ false
  pub no_default : p.default ≡ None

-- and it is no `this.x`, which constructors alone have
pub record IsPlainParam (p : Param) : Type 0 where
  pub written : IsWrittenParam p
  pub no_field : p.is_field ≡ false

-- each item of a list has the property
abbrev pub Each : {A : Type 0} → (A → Type 0) → List A → Type 0
Each P [] = Unit {0}
Each P (x ∷ more) = P x × Each P more

abbrev pub AreWrittenParams : List Param → Type 0
AreWrittenParams = Each IsWrittenParam

abbrev pub ArePlainParams : List Param → Type 0
ArePlainParams = Each IsPlainParam

abbrev pub IsWrittenBody : Body → Type 0
IsWrittenBody (t.arrow e) = IsWrittenExp e
IsWrittenBody (t.code all) = AreWrittenStas all

abbrev pub MayBeWrittenBody : Option Body → Type 0
MayBeWrittenBody None = Unit {0}
MayBeWrittenBody (Some b) = IsWrittenBody b

abbrev pub MayBeWrittenBlock : Option Stas → Type 0
MayBeWrittenBlock None = Unit {0}
MayBeWrittenBlock (Some all) = AreWrittenStas all

abbrev pub MayBeWrittenPassed : Option Passed → Type 0
MayBeWrittenPassed None = Unit {0}
MayBeWrittenPassed (Some p) = AreWrittenExps p.args

-- what the grammar keeps of a member: its name, its parameters and its body
abbrev pub IsWrittenMember : Member → Type 0
IsWrittenMember (t.field l) = IsWrittenName l.name.text × IsWrittenValue l.value
IsWrittenMember (t.method n params b) = IsWrittenName n.text × ArePlainParams params × MayBeWrittenBody b
IsWrittenMember (t.getter n b) = IsWrittenName n.text × MayBeWrittenBody b
IsWrittenMember (t.setter n param b) = IsWrittenName n.text × IsPlainParam param × MayBeWrittenBody b
IsWrittenMember (t.operator op at params b) = ArePlainParams params × MayBeWrittenBody b
IsWrittenMember (t.constructor n params passed b) = AreWrittenParams params × MayBeWrittenPassed passed × MayBeWrittenBlock b

-- what the grammar keeps of a declaration
abbrev pub IsWrittenTop : Top → Type 0
IsWrittenTop (t.a_class c) = IsWrittenName c.name.text × Each IsWrittenMember c.members
IsWrittenTop (t.a_function f) = IsWrittenName f.name.text × ArePlainParams f.params × IsWrittenBody f.body
IsWrittenTop (t.a_variable v) = IsWrittenName v.name.text × IsWrittenValue v.value

-- ---- uses

-- what a use names is a name
abbrev pub IsWrittenUse : Use → Type 0
IsWrittenUse (reads n seen) = IsWrittenName n.text
IsWrittenUse (writes n seen) = IsWrittenName n.text
IsWrittenUse (calls n seen k) = IsWrittenName n.text
IsWrittenUse (member_reads n) = IsWrittenName n.text
IsWrittenUse (member_writes n) = IsWrittenName n.text
IsWrittenUse (member_calls n k) = IsWrittenName n.text
IsWrittenUse _ = Unit {0}

-- so it is in each part of a text
abbrev pub AreWrittenUses : Part → Type 0
AreWrittenUses part = Each IsWrittenUse part.uses

-- ---- call sites

-- it stands in the text, and the name that it calls is ASCII
abbrev pub StandsInText : Place → Type 0
StandsInText (reading byte) = Unit {0}
StandsInText (writing byte) = Unit {0}
StandsInText _ = ⊥

-- what holds of a call site of a text
pub record IsWrittenSite (s : Site) : Type 0 where
  pub stands : StandsInText s.place
  pub ascii : IsAscii s.selector.name

-- the places of the call sites of the text, as numbers
abbrev pub site_keys : Tree → List ℕ
site_keys tree = map (λ (s : Site). key s.place) (text_sites tree)

-- ---- whole trees

-- what holds of the tree of every text
pub record IsWritten (tree : Tree) : Type 0 where
  -- names are ASCII, no parameter can be left out, and what is assigned to can be
  pub tops : Each IsWrittenTop tree.tops
  pub uses : Each AreWrittenUses (parts tree)
  -- no two call sites are at one place
  pub places : (i j k : ℕ) → slice_get (site_keys tree) i ≡ Some k → slice_get (site_keys tree) j ≡ Some k → i ≡ j
  pub sites : (i : ℕ) (s : Site) → slice_get (text_sites tree) i ≡ Some s → IsWrittenSite s
  pub small : tree_nodes tree < 2 ^ 25

-- the byte at which a place is
abbrev pub byte_of : Place → ℕ
byte_of (reading byte) = byte
byte_of (writing byte) = byte
byte_of _ = 0

-- each call site is at a byte of the text
abbrev pub SitesWithin : Text → Tree → Type 0
SitesWithin source tree = (i : ℕ) (s : Site) → slice_get (text_sites tree) i ≡ Some s → byte_of s.place < length source
