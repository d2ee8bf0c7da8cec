-- Each use of an accepted tree is fine.
use Rattle.std.proofs.Common.{◌≡◌, ℕ, ◌<◌, Bool, true, false, not, IsTrue, length, refl, ap, sym, ◌∙◌, subst, codes}
use Rattle.std.specs.Prelude.{Option, Some, None, is_some, unwrap_or}
use Rattle.std.specs.Str.{bytes_eq}
use Rattle.dart_syntax.specs.declared.token.Span.{Span}
use Rattle.dart_syntax.specs.declared.tree.Name.{Name}
use Rattle.dart_syntax.specs.Syntax as t
use Rattle.dart_syntax.specs.Syntax.{Tree, Top, Local}
use Rattle.program.specs.declared.numbered.Selector.{Selector}
use Rattle.program.specs.declared.numbered.SelectorKind.TheVariants.{Call}
use Rattle.program.specs.Parts.{Parts}
use Rattle.dart_values.specs.Values.{Text}
use Rattle.dart_meaning.specs.declared.seen.Seen.{Seen}
use Rattle.dart_meaning.specs.declared.seen.Seen.TheVariants.{Late, Ready}
use Rattle.dart_meaning.specs.Place.{Place, reading, writing}
use Rattle.dart_meaning.specs.Program.{calling, getting, setting}
use Rattle.dart_meaning.specs.Classes.{Taking, agrees, class_declares, is_constructed, is_own_member, variable_place}
use Rattle.dart_meaning.specs.Meaning.{owner_by}
use Rattle.dart_meaning.specs.Means.{a_top, beyond, has_this, is_class, is_of_this, is_top, means, super_member, top_named}
use Rattle.dart_meaning.specs.Numbering as num
use Rattle.dart_meaning.specs.Sites.{Site, site, if_of_this, site_of}
use Rattle.dart_meaning.specs.Uses as uses
use Rattle.dart_meaning.specs.Uses.{Use, Part}
use Rattle.static_rules.specs.AbstractMade.{makes_unmade}
use Rattle.static_rules.specs.BadReturnPlace.{is_constructor_body}
use Rattle.static_rules.specs.FinalWritten.{is_fixed, is_fixed_static}
use Rattle.static_rules.specs.Places.{at_if}
use Rattle.static_rules.specs.Statics.{is_variable, static_named, static_of}
use Rattle.static_rules.specs.TearOff.{is_torn_call, is_torn_read}
use Rattle.static_rules.specs.UndefinedName.{is_undefined, of_super}
use Rattle.static_rules.specs.WrongArgumentsOfStatic.{is_wrong_call, is_wrong_super}
use Rattle.text_trees.specs.Written.{Each}
use Rattle.accepted_trees.proofs.bodies.Tables.{Tables, ReachesAbove}
use Rattle.accepted_trees.proofs.bodies.Fine.{Asks, Fine, FineCall, FineName, FineOutside}
use Rattle.accepted_trees.proofs.bodies.Accessors.{getter_takes, setter_takes}
use Rattle.accepted_trees.proofs.bodies.StaticNames.{unknown, fine_this, fine_top, not_false, variable_is}
use Rattle.accepted_trees.proofs.bodies.RulesAtUses.{HasSelector, Kept, at_none}

-- The part stands in the class `here`, whose number is `me` where there is a `this`, and a `return` may have a value as `answers` says.
pub record Placed (tree : Tree) (p : Parts) (part : Part) (here : Option Text) (me : Option ℕ) (answers : Bool) : Type 0 where
  pub declares : (name : Text) → class_declares tree here name ≡ is_own_member part.class name
  pub this : has_this part.kind ≡ true → IsTrue (is_some me)
  pub above : has_this part.kind ≡ true → (sel : Selector) (m : Taking) → super_member tree part.class sel.kind sel.name ≡ Some m → agrees sel.count m ≡ true → ReachesAbove tree p here me sel
  pub may_answer : is_constructor_body part.kind ≡ false → IsTrue answers

some_is : {A : Type 0} (o : Option A) → is_some o ≡ true → (x : A) × (o ≡ Some x)
some_is None h = absurd cc
some_is (Some x) h = (x, refl)

super_there : (this there : Bool) (at : Span) (n : Name) → of_super this at n there ≡ None → (this ≡ true) × (there ≡ true)
super_there true true at n h = (refl, refl)
super_there true false at n h = absurd cc
super_there false there at n h = absurd cc

fixed_variable : (o : Option Top) → is_fixed_static (static_of o) ≡ false → is_variable (static_of o) ≡ true
fixed_variable None h = absurd cc
fixed_variable (Some (t.a_class c)) h = absurd cc
fixed_variable (Some (t.a_function f)) h = absurd cc
fixed_variable (Some (t.a_variable v)) h = refl

module _ (tree : Tree) (p : Parts) (tables : Tables tree p) (part : Part) (here : Option Text) (me : Option ℕ) (answers : Bool) (placed : Placed tree p part here me answers) where
  abbrev this : Bool
  this = has_this part.kind

  abbrev own : Name → Bool
  own n = is_own_member part.class n.text

  abbrev top : Name → Bool
  top n = is_top tree n.text

  abbrev variable_there : Name → Bool
  variable_there n = is_some (variable_place tree n.text)

  -- a call site for a bare name, where it means a member
  asked : (of_this : Bool) (s : Site) → Each (HasSelector tree p) (if_of_this of_this s) → of_this ≡ true → HasSelector tree p s
  asked true s (h, k) e = h
  asked false s h e = absurd cc

  -- ---- names that are read and written

  abbrev Outside : Bool → Bool → Name → Place → Selector → Type 0
  Outside d v n place sel = FineOutside tree p here me answers (owner_by false d v) n.text place sel

  abbrev Global : Name → Type 0
  Global n = num.variable tree (site_of tree) here n.text < length p.globals

  outside : (d t h v : Bool) (n : Name) (place : Place) (sel : Selector) → (h ≡ true → IsTrue (is_some me)) → is_undefined h (beyond d t h) ≡ false
      → (d ≡ false → t ≡ true → (v ≡ true) × Global n) → (t ≡ false → v ≡ false) → (is_of_this (beyond d t h) ≡ true → Asks tree p here me answers place sel) → Outside d v n place sel
  outside true t true v n place sel is_this defined var none asks = (is_this refl, asks refl)
  outside true t false v n place sel is_this defined var none asks = absurd cc
  outside false true h true n place sel is_this defined var none asks = (var refl refl).1
  outside false true h false n place sel is_this defined var none asks = absurd (wrong (var refl refl).0) where
    wrong : false ≡ true → ⊥
    wrong e = cc
  outside false false true false n place sel is_this defined var none asks = (is_this refl, asks refl)
  outside false false true true n place sel is_this defined var none asks = absurd (wrong (none refl)) where
    wrong : true ≡ false → ⊥
    wrong e = cc
  outside false false false v n place sel is_this defined var none asks = absurd cc

  global_there : (n : Name) → (v : Local) × (top_named tree n.text ≡ Some (t.a_variable v)) → (variable_there n ≡ true) × Global n
  global_there n (v, e) = found (tables.variables n.text v e) where
    found : (k : ℕ) × (variable_place tree n.text ≡ Some k) × (k < length p.globals) → (variable_there n ≡ true) × Global n
    found (k, at, lt) = (ap is_some at, subst (λ o. unwrap_or o 0 < length p.globals) (sym at) lt)

  outside_name : (n : Name) (place : Place) (sel : Selector) → is_undefined this (means tree part n None) ≡ false → (means tree part n None ≡ a_top → is_variable (static_named tree n.text) ≡ true)
      → (is_of_this (means tree part n None) ≡ true → Asks tree p here me answers place sel) → FineName tree p here me answers None n.text place sel
  outside_name n place sel defined var asks =
      subst (λ d. Outside d (variable_there n) n place sel) (sym (placed.declares n.text))
      (outside (own n) (top n) this (variable_there n) n place sel placed.this defined
      (λ d t. global_there n (variable_is (top_named tree n.text) (var (top_is d t)))) (λ t. (unknown tree n.text t).variable) asks) where
        top_is : own n ≡ false → top n ≡ true → beyond (own n) (top n) this ≡ a_top
        top_is d t = ap (λ b. beyond b (top n) this) d ∙ ap (λ b. beyond false b this) t

  fine_read : (n : Name) (seen : Option Seen) → Kept tree p part (uses.reads n seen) → FineName tree p here me answers seen n.text (reading n.span.start) (getting n.text)
  fine_read n (Some Late) (u, rest) = absurd (wrong (at_none true n.span u)) where
    wrong : true ≡ false → ⊥
    wrong e = cc
  fine_read n (Some (Ready is_final)) k = tt
  fine_read n None (u, (torn, (a, (f, (m, (w, sites)))))) =
      outside_name n (reading n.span.start) (getting n.text) (at_none (is_undefined this (means tree part n None)) n.span u)
      (λ e. not_false (is_variable (static_named tree n.text)) (subst (λ x. is_torn_read tree n.text x ≡ false) e (at_none (is_torn_read tree n.text (means tree part n None)) n.span torn)))
      (asked (is_of_this (means tree part n None)) (site (reading n.span.start) (getting n.text)) sites)

  fine_write : (n : Name) (seen : Option Seen) → Kept tree p part (uses.writes n seen) → FineName tree p here me answers seen n.text (writing n.span.start) (setting n.text)
  fine_write n (Some Late) (u, rest) = absurd (wrong (at_none true n.span u)) where
    wrong : true ≡ false → ⊥
    wrong e = cc
  fine_write n (Some (Ready is_final)) k = tt
  fine_write n None (u, (torn, (a, (f, (m, (w, sites)))))) =
      outside_name n (writing n.span.start) (setting n.text) (at_none (is_undefined this (means tree part n None)) n.span u)
      (λ e. fixed_variable (top_named tree n.text) (subst (λ x. is_fixed tree n.text x ≡ false) e (at_none (is_fixed tree n.text (means tree part n None)) n.span f)))
      (asked (is_of_this (means tree part n None)) (site (writing n.span.start) (setting n.text)) sites)

  -- ---- names that are called

  abbrev CallBy : Bool → Name → ℕ → Type 0
  CallBy d n k = FineCall tree p here me answers d (num.function_number tree n.text) (is_constructed tree n.text) (bytes_eq n.text (codes "print")) n k

  call_by : (d t h : Bool) (n : Name) (k : ℕ) → top n ≡ t → (h ≡ true → IsTrue (is_some me)) → is_undefined h (beyond d t h) ≡ false → is_torn_call tree n.text (beyond d t h) ≡ false
      → makes_unmade tree n.text (beyond d t h) ≡ false → is_wrong_call tree n.text k (beyond d t h) ≡ false
      → (is_of_this (beyond d t h) ≡ true → Asks tree p here me answers (reading n.span.start) (calling n.text k)) → CallBy d n k
  call_by true t true n k e is_this u torn a w asks = (is_this refl, asks refl)
  call_by true t false n k e is_this u torn a w asks = absurd cc
  call_by false true h n k e is_this u torn a w asks = fine_top tree p here me answers n k tables (top_named tree n.text) refl torn a w
  call_by false false true n k e is_this u torn a w asks =
      fine_this tree p here me answers n k (num.function_number tree n.text) (is_constructed tree n.text) (bytes_eq n.text (codes "print")) (unknown tree n.text e).function (unknown tree n.text e).class (unknown tree n.text e).print
      (is_this refl, asks refl)
  call_by false false false n k e is_this u torn a w asks = absurd cc

  fine_call : (n : Name) (seen : Option Seen) (k : ℕ) → Kept tree p part (uses.calls n seen k) → CallBy (class_declares tree here n.text) n k
  fine_call n (Some Late) k (u, rest) = absurd (wrong (at_none true n.span u)) where
    wrong : true ≡ false → ⊥
    wrong e = cc
  fine_call n (Some (Ready is_final)) k (u, (torn, rest)) = absurd (wrong (at_none true n.span torn)) where
    wrong : true ≡ false → ⊥
    wrong e = cc
  fine_call n None k (u, (torn, (a, (f, (m, (w, sites)))))) =
      subst (λ d. CallBy d n k) (sym (placed.declares n.text))
      (call_by (own n) (top n) this n k refl placed.this (at_none (is_undefined this (means tree part n None)) n.span u) (at_none (is_torn_call tree n.text (means tree part n None)) n.span torn)
      (at_none (makes_unmade tree n.text (means tree part n None)) n.span a) (at_none (is_wrong_call tree n.text k (means tree part n None)) n.span w)
      (asked (is_of_this (means tree part n None)) (site (reading n.span.start) (calling n.text k)) sites))

  -- ---- members of `super`

  reaches : (sel : Selector) (at : Span) (n : Name) → of_super this at n (is_some (super_member tree part.class sel.kind sel.name)) ≡ None
      → ((m : Taking) → super_member tree part.class sel.kind sel.name ≡ Some m → agrees sel.count m ≡ true) → ReachesAbove tree p here me sel
  reaches sel at n h takes =
      let there : (this ≡ true) × (is_some (super_member tree part.class sel.kind sel.name) ≡ true) = super_there this (is_some (super_member tree part.class sel.kind sel.name)) at n h in
      found there.0 (some_is (super_member tree part.class sel.kind sel.name) there.1) where
        found : this ≡ true → (m : Taking) × (super_member tree part.class sel.kind sel.name ≡ Some m) → ReachesAbove tree p here me sel
        found is_this (m, e) = placed.above is_this sel m e (takes m e)

  call_takes : (n : Name) (k : ℕ) → at_if (is_wrong_super k (super_member tree part.class Call n.text)) n.span ≡ None → (m : Taking) → super_member tree part.class Call n.text ≡ Some m → agrees k m ≡ true
  call_takes n k h m e = not_false (agrees k m) (subst (λ o. is_wrong_super k o ≡ false) e (at_none (is_wrong_super k (super_member tree part.class Call n.text)) n.span h))

  -- ---- all uses

  pub fine_use : (x : Use) → Kept tree p part x → Fine tree p here me answers x
  fine_use (uses.reads n seen) k = fine_read n seen k
  fine_use (uses.writes n seen) k = fine_write n seen k
  fine_use (uses.calls n seen i) k = fine_call n seen i k
  fine_use (uses.this_at at) (u, k) = placed.this (not_false this (at_none (not this) at u))
  fine_use (uses.super_reads at n) (u, k) = reaches (getting n.text) at n u (getter_takes tree part.class n.text)
  fine_use (uses.super_writes at n) (u, k) = reaches (setting n.text) at n u (setter_takes tree part.class n.text)
  fine_use (uses.super_calls at n i) (u, (torn, (a, (f, (m, (w, sites)))))) = reaches (calling n.text i) at n u (call_takes n i w)
  fine_use (uses.member_reads n) (u, (torn, (a, (f, (m, (w, (s, more))))))) = s
  fine_use (uses.member_writes n) (u, (torn, (a, (f, (m, (w, (s, more))))))) = s
  fine_use (uses.member_calls n i) (u, (torn, (a, (f, (m, (w, (s, more))))))) = s
  fine_use (uses.index_reads at) (u, (torn, (a, (f, (m, (w, (s, more))))))) = s
  fine_use (uses.index_writes at) (u, (torn, (a, (f, (m, (w, (s, more))))))) = s
  fine_use (uses.operates op at) (u, (torn, (a, (f, (m, (w, (s, more))))))) = s
  fine_use (uses.prefixes op at) (u, (torn, (a, (f, (m, (w, (s, more))))))) = s
  fine_use (uses.shows at) (u, (torn, (a, (f, (m, (w, (s, more))))))) = s
  fine_use (uses.names_class n) (u, k) = tables.numbers n.text (not_false (is_class tree n.text) (at_none (not (is_class tree n.text)) n.span u))
  fine_use (uses.declares n outside_of) k = tt
  fine_use (uses.leaves_loop at loops) (u, (torn, (a, (f, (m, k))))) = not_false loops (at_none (not loops) at m)
  fine_use (uses.returns_value at) (u, (torn, (a, (f, (m, k))))) = placed.may_answer (at_none (is_constructor_body part.kind) at m)
  fine_use (uses.sets_field n) k = tt
  fine_use (uses.enters_super at i) k = tt
