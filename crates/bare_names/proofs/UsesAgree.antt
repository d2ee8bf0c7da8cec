-- Each use of a bare name that breaks no rule is in the run what the text means by it.
use Rattle.std.proofs.Common.{◌≡◌, ℕ, Bool, true, false, List, [], ◌∷◌, map, refl, ap, sym, ◌∙◌, subst}
use Rattle.std.specs.Prelude.{Option, Some, None, is_some, if◌then◌else◌}
use Rattle.dart_syntax.specs.declared.tree.Name.{Name}
use Rattle.dart_syntax.specs.Names.{is_name}
use Rattle.dart_syntax.specs.Syntax as t
use Rattle.dart_syntax.specs.Syntax.{ClassDecl, Top, Tree}
use Rattle.dart_values.specs.Values.{Text, Value}
use Rattle.dart_meaning.specs.declared.seen.Seen.{Seen}
use Rattle.dart_meaning.specs.declared.seen.Seen.TheVariants.{Late, Ready}
use Rattle.dart_meaning.specs.Run.{Run}
use Rattle.dart_meaning.specs.Classes.{class_declares, is_own_member, variable_place}
use Rattle.dart_meaning.specs.Meaning.{Bound, Owner, of_this, of_unit, find, owner_by}
use Rattle.dart_meaning.specs.Means.{a_top, beyond, has_this, is_top, means, top_named}
use Rattle.dart_meaning.specs.Numbering.{index_of}
use Rattle.dart_meaning.specs.Uses as uses
use Rattle.dart_meaning.specs.Uses.{Kind, Part, Scope, Use, part}
use Rattle.dart_meaning.proofs.Slots.{FoundAt, found_at}
use Rattle.static_rules.specs.AbstractMade.{abstract_in, abstract_made, makes_unmade}
use Rattle.static_rules.specs.FinalWritten.{final_in, final_written, is_fixed, is_fixed_static}
use Rattle.static_rules.specs.InParts.{in_parts}
use Rattle.static_rules.specs.Places.{Fault, first_in}
use Rattle.static_rules.specs.Statics.{is_variable, static_named, static_of}
use Rattle.static_rules.specs.TearOff.{is_torn_call, is_torn_read, tear_off, torn_off}
use Rattle.static_rules.specs.UndefinedName.{is_undefined, undefined_in, undefined_name}
use Rattle.text_trees.specs.Written.{AreWrittenUses, Each, IsWrittenUse}
use Rattle.accepted_trees.proofs.RulesKept.{KeepsRules}
use Rattle.accepted_trees.proofs.bodies.Each.{each_map, each_two}
use Rattle.accepted_trees.proofs.bodies.RulesAtUses.{Throughout, at_none, or_none}
use Rattle.accepted_trees.proofs.bodies.StaticNames.{not_false, unknown, variable_is}
use Rattle.bare_names.specs.Owners.{CallAgrees, NameAgrees, UseAgrees, callee, is_callable, names_of, owner_meant}
use Rattle.bare_names.proofs.OpenNames.{IsNamed, OpenBy, Opens}
use Rattle.bare_names.proofs.SeenUses.{SeenBy}
use Rattle.bare_names.proofs.TopNames.{callable, not_callable, variable_is_there}

-- ---- what an accepted tree keeps at each use

abbrev pub Kept : Tree → Part → Use → Type 0
Kept tree in_part x = IsWrittenUse x × ((undefined_in tree in_part x ≡ None) × ((torn_off tree in_part x ≡ None) × ((abstract_in tree in_part x ≡ None) × (final_in tree in_part x ≡ None))))

none_each : {A : Type 0} (f : A → Fault) (xs : List A) → first_in f xs ≡ None → Each (λ x. f x ≡ None) xs
none_each f [] h = tt
none_each f (x ∷ more) h = let parts = or_none (f x) (first_in f more) h in (parts.0, none_each f more parts.1)

through : (tree : Tree) (rule : Part → Use → Fault) → in_parts rule tree ≡ None → Throughout tree (λ p x. rule p x ≡ None)
through tree rule h =
    each_map (λ (p : Part). first_in (rule p) p.uses ≡ None) (λ (p : Part). Each (λ x. rule p x ≡ None) p.uses) (uses.parts tree) (λ p k. none_each (rule p) p.uses k)
    (none_each (λ (p : Part). first_in (rule p) p.uses) (uses.parts tree) h)

both_throughout : (tree : Tree) (R S : Part → Use → Type 0) → Throughout tree R → Throughout tree S → Throughout tree (λ p x. R p x × S p x)
both_throughout tree R S h k =
    each_map (λ (p : Part). Each (R p) p.uses × Each (S p) p.uses) (λ (p : Part). Each (λ x. R p x × S p x) p.uses) (uses.parts tree)
    (λ p both. each_two (R p) (S p) p.uses both.0 both.1)
    (each_two (λ (p : Part). Each (R p) p.uses) (λ (p : Part). Each (S p) p.uses) (uses.parts tree) h k)

with_rule : (tree : Tree) (rule : Part → Use → Fault) (R : Part → Use → Type 0) → in_parts rule tree ≡ None → Throughout tree R → Throughout tree (λ p x. (rule p x ≡ None) × R p x)
with_rule tree rule R h k = both_throughout tree (λ p x. rule p x ≡ None) R (through tree rule h) k

keeps_four : (tree : Tree) → KeepsRules tree → Throughout tree (λ p x. (undefined_in tree p x ≡ None) × ((torn_off tree p x ≡ None) × ((abstract_in tree p x ≡ None) × (final_in tree p x ≡ None))))
unfolding undefined_name tear_off abstract_made final_written
keeps_four tree rules =
    with_rule tree (undefined_in tree) _ rules.defined
    (with_rule tree (torn_off tree) _ rules.called (with_rule tree (abstract_in tree) _ rules.concrete (through tree (final_in tree) rules.unwritten)))

pub kept : (tree : Tree) → KeepsRules tree → Each AreWrittenUses (uses.parts tree) → Throughout tree (Kept tree)
kept tree rules written = both_throughout tree (λ p. IsWrittenUse) _ written (keeps_four tree rules)

-- ---- open variables

same_open : (found : Option Value) (held : List Value) (o : Option ℕ) → FoundAt found held o → is_some found ≡ is_some o
same_open found held None h = h
same_open found held (Some k) h = h.1

is_open : (x : Text) (names : List Text) (r : Run Bound) → names_of r ≡ names → is_some (find x r.vars) ≡ is_some (index_of x names)
is_open x names r e =
    same_open (find x r.vars) (map (λ b. b.holds) r.vars) (index_of x (names_of r)) (found_at x r.vars) ∙ ap (λ l. is_some (index_of x l)) e

-- ---- by cases of what a name means

wrong : {A : Type 0} → true ≡ false → A
wrong e = absurd (no e) where
  no : true ≡ false → ⊥
  no h = cc

outside : (d t h v : Bool) → is_undefined h (beyond d t h) ≡ false → (d ≡ false → t ≡ true → v ≡ true) → (t ≡ false → v ≡ false) → owner_meant (beyond d t h) ≡ Some (owner_by false d v)
outside true t h v u var none = refl
outside false true h true u var none = refl
outside false true h false u var none = wrong (sym (var refl refl))
outside false false true false u var none = refl
outside false false true true u var none = wrong (none refl)
outside false false false v u var none = absurd cc

abbrev callee_by : Bool → Bool → Owner
callee_by d c = if d then of_this else (if c then of_unit else of_this)

outside_call : (d t h c : Bool) → is_undefined h (beyond d t h) ≡ false → (d ≡ false → t ≡ true → c ≡ true) → (t ≡ false → c ≡ false) → owner_meant (beyond d t h) ≡ Some (callee_by d c)
outside_call true t h c u can none = refl
outside_call false true h true u can none = refl
outside_call false true h false u can none = wrong (sym (can refl refl))
outside_call false false true false u can none = refl
outside_call false false true true u can none = wrong (none refl)
outside_call false false false c u can none = absurd cc

fixed_variable : (o : Option Top) → is_fixed_static (static_of o) ≡ false → is_variable (static_of o) ≡ true
fixed_variable None h = absurd cc
fixed_variable (Some (t.a_class c)) h = absurd cc
fixed_variable (Some (t.a_function f)) h = absurd cc
fixed_variable (Some (t.a_variable v)) h = refl

named : (text : Text) → is_name text ≡ true → IsNamed text
named text h none = wrong (sym h ∙ ap is_name none)

-- ---- in a part

module _ (tree : Tree) (kind : Kind) (class : Option ClassDecl) (all : List Use) (here : Option Text) (declares : (name : Text) → class_declares tree here name ≡ is_own_member class name) where
  abbrev in_part : Part
  in_part = part kind class []

  abbrev this : Bool
  this = has_this kind

  abbrev own : Name → Bool
  own n = is_own_member class n.text

  abbrev top : Name → Bool
  top n = is_top tree n.text

  abbrev variable_there : Name → Bool
  variable_there n = is_some (variable_place tree n.text)

  is_a_top : (n : Name) → own n ≡ false → top n ≡ true → means tree in_part n None ≡ a_top
  is_a_top n d e = ap (λ b. beyond b (top n) this) d ∙ ap (λ b. beyond false b this) e

  a_variable : (n : Name) → (v : t.Local) × (top_named tree n.text ≡ Some (t.a_variable v)) → variable_there n ≡ true
  a_variable n (v, e) = variable_is_there tree n.text v e

  abbrev OwnerIs : Name → Option Seen → Option ℕ → Type 0
  OwnerIs n seen o = owner_meant (means tree in_part n seen) ≡ Some (owner_by (is_some o) (class_declares tree here n.text) (variable_there n))

  owner_is : (n : Name) (seen : Option Seen) (o : Option ℕ) → OpenBy seen o → is_undefined this (means tree in_part n seen) ≡ false
      → (means tree in_part n seen ≡ a_top → is_variable (static_named tree n.text) ≡ true) → OwnerIs n seen o
  owner_is n (Some Late) o h u var = absurd cc
  owner_is n (Some (Ready f)) (Some k) h u var = refl
  owner_is n (Some (Ready f)) None h u var = absurd h
  owner_is n None (Some k) h u var = absurd h
  owner_is n None None h u var =
      subst (λ d. owner_meant (means tree in_part n None) ≡ Some (owner_by false d (variable_there n))) (sym (declares n.text))
      (outside (own n) (top n) this (variable_there n) u
      (λ d e. a_variable n (variable_is (top_named tree n.text) (var (is_a_top n d e)))) (λ e. (unknown tree n.text e).variable))

  module _ (scope : Scope) (names : List Text) (opens : Opens scope names) where
    open_by : (n : Name) (seen : Option Seen) → seen ≡ scope n.text → IsNamed n.text → OpenBy seen (index_of n.text names)
    open_by n seen e ne = subst (λ s. OpenBy s (index_of n.text names)) (sym e) (opens n.text ne)

    name_agrees : (n : Name) (seen : Option Seen) → seen ≡ scope n.text → IsNamed n.text → is_undefined this (means tree in_part n seen) ≡ false
        → (means tree in_part n seen ≡ a_top → is_variable (static_named tree n.text) ≡ true) → NameAgrees tree in_part here names n seen
    name_agrees n seen e ne u var site_of enter r same =
        subst (λ b. owner_meant (means tree in_part n seen) ≡ Some (owner_by b (class_declares tree here n.text) (variable_there n))) (sym (is_open n.text names r same))
        (owner_is n seen (index_of n.text names) (open_by n seen e ne) u var)

    abbrev CalledAs : Name → Option Seen → Type 0
    CalledAs n seen = owner_meant (means tree in_part n seen) ≡ Some (callee tree here n.text)

    called_outside : (n : Name) → is_undefined this (means tree in_part n None) ≡ false → is_torn_call tree n.text (means tree in_part n None) ≡ false
        → makes_unmade tree n.text (means tree in_part n None) ≡ false → CalledAs n None
    called_outside n u torn a =
        subst (λ d. owner_meant (means tree in_part n None) ≡ Some (callee_by d (is_callable tree n.text))) (sym (declares n.text))
        (outside_call (own n) (top n) this (is_callable tree n.text) u can (not_callable tree n.text)) where
          can : own n ≡ false → top n ≡ true → is_callable tree n.text ≡ true
          can d e =
              callable tree n.text (top_named tree n.text) refl
              (subst (λ m. is_torn_call tree n.text m ≡ false) (is_a_top n d e) torn) (subst (λ m. makes_unmade tree n.text m ≡ false) (is_a_top n d e) a)

    closed : (n : Name) (o : Option ℕ) → index_of n.text names ≡ o → OpenBy None o → (r : Run Bound) → names_of r ≡ names → is_some (find n.text r.vars) ≡ false
    closed n None e h r same = is_open n.text names r same ∙ ap is_some e
    closed n (Some k) e h r same = absurd h

    call_agrees : (n : Name) (seen : Option Seen) → seen ≡ scope n.text → IsNamed n.text → is_undefined this (means tree in_part n seen) ≡ false
        → is_torn_call tree n.text (means tree in_part n seen) ≡ false → makes_unmade tree n.text (means tree in_part n seen) ≡ false → CallAgrees tree in_part here names n seen
    call_agrees n (Some Late) e ne u torn a = absurd cc
    call_agrees n (Some (Ready f)) e ne u torn a = absurd cc
    call_agrees n None e ne u torn a = record { no_variable = closed n (index_of n.text names) refl (open_by n None e ne); called = called_outside n u torn a }

    abbrev Known : Use → Type 0
    Known x = Kept tree (part kind class all) x × SeenBy scope x

    use_agrees : (x : Use) → Known x → UseAgrees tree in_part here names x
    use_agrees (uses.reads n seen) ((w, (u, (torn, rest))), e) =
        name_agrees n seen e (named n.text w.name) (at_none (is_undefined this (means tree in_part n seen)) n.span u)
        (λ m. not_false (is_variable (static_named tree n.text)) (subst (λ x. is_torn_read tree n.text x ≡ false) m (at_none (is_torn_read tree n.text (means tree in_part n seen)) n.span torn)))
    use_agrees (uses.writes n seen) ((w, (u, (torn, (a, f)))), e) =
        name_agrees n seen e (named n.text w.name) (at_none (is_undefined this (means tree in_part n seen)) n.span u)
        (λ m. fixed_variable (top_named tree n.text) (subst (λ x. is_fixed tree n.text x ≡ false) m (at_none (is_fixed tree n.text (means tree in_part n seen)) n.span f)))
    use_agrees (uses.calls n seen k) ((w, (u, (torn, (a, f)))), e) =
        call_agrees n seen e (named n.text w.name) (at_none (is_undefined this (means tree in_part n seen)) n.span u) (at_none (is_torn_call tree n.text (means tree in_part n seen)) n.span torn)
        (at_none (makes_unmade tree n.text (means tree in_part n seen)) n.span a)
    use_agrees (uses.this_at at) k = tt
    use_agrees (uses.super_reads at n) k = tt
    use_agrees (uses.super_writes at n) k = tt
    use_agrees (uses.super_calls at n i) k = tt
    use_agrees (uses.member_reads n) k = tt
    use_agrees (uses.member_writes n) k = tt
    use_agrees (uses.member_calls n i) k = tt
    use_agrees (uses.index_reads at) k = tt
    use_agrees (uses.index_writes at) k = tt
    use_agrees (uses.operates op at) k = tt
    use_agrees (uses.prefixes op at) k = tt
    use_agrees (uses.shows at) k = tt
    use_agrees (uses.names_class n) k = tt
    use_agrees (uses.declares n outside_of) k = tt
    use_agrees (uses.leaves_loop at loops) k = tt
    use_agrees (uses.returns_value at) k = tt
    use_agrees (uses.sets_field n) k = tt
    use_agrees (uses.enters_super at i) k = tt

    pub uses_agree : (xs : List Use) → Each (Kept tree (part kind class all)) xs → Each (SeenBy scope) xs → Each (UseAgrees tree in_part here names) xs
    uses_agree xs k s = each_map Known (UseAgrees tree in_part here names) xs use_agrees (each_two (Kept tree (part kind class all)) (SeenBy scope) xs k s)
