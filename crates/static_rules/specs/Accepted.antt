-- What a tree is refused for: the rule with the least number that it breaks, at the first place where it breaks it; and then the first count that is over its limit.
use Rattle.std.specs.Prelude.{◌≡◌, ℕ, ◌+◌, sum_by, Bool, true, false, nat_lt, if◌then◌else◌, List, [], ◌∷◌, length, is_some, Option, None, Some}
use Rattle.dart_syntax.specs.declared.token.Span.{Span}
use Rattle.dart_syntax.specs.Syntax as t
use Rattle.dart_syntax.specs.Syntax.{Member, ClassDecl, Tree}
use Rattle.program.specs.BuiltIn.{built_in_classes, built_in_members}
use Rattle.dart_meaning.specs.Classes.{classes, functions}
use Rattle.dart_meaning.specs.Sites.{sites, selectors}
use Rattle.static_rules.specs.declared.rule.Rule.{Rule}
use Rattle.static_rules.specs.declared.rule.Rule.TheVariants.{DuplicateName, UnknownSuper, CycleInSuper, SuperIsBuiltin, UndefinedName, MixedName, TearOff, BadOverride, AbstractMade, FinalWritten, BadReturnPlace, Shadowed, WrongArgumentsOfStatic}
use Rattle.static_rules.specs.declared.rule.Limit.{Limit}
use Rattle.static_rules.specs.declared.rule.Limit.TheVariants as limit
use Rattle.static_rules.specs.Places.{Fault}
use Rattle.static_rules.specs.DuplicateName.{duplicate_name}
use Rattle.static_rules.specs.Supers.{unknown_super, cycle_in_super, super_is_builtin}
use Rattle.static_rules.specs.UndefinedName.{undefined_name}
use Rattle.static_rules.specs.MixedName.{mixed_name}
use Rattle.static_rules.specs.TearOff.{tear_off}
use Rattle.static_rules.specs.BadOverride.{bad_override}
use Rattle.static_rules.specs.AbstractMade.{abstract_made}
use Rattle.static_rules.specs.FinalWritten.{final_written}
use Rattle.static_rules.specs.BadReturnPlace.{bad_return_place}
use Rattle.static_rules.specs.Shadowed.{shadowed}
use Rattle.static_rules.specs.WrongArgumentsOfStatic.{wrong_arguments_of_static}

-- a rule, and the first place at which it is broken
abbrev pub Finding : Type 0
Finding = Rule × Fault

-- the rules in their order, each with the first place at which the tree breaks it
abbrev pub findings : Tree → List Finding
findings tree =
    (DuplicateName, duplicate_name tree)
    ∷ (UnknownSuper, unknown_super tree)
    ∷ (CycleInSuper, cycle_in_super tree)
    ∷ (SuperIsBuiltin, super_is_builtin tree)
    ∷ (UndefinedName, undefined_name tree)
    ∷ (MixedName, mixed_name tree)
    ∷ (TearOff, tear_off tree)
    ∷ (BadOverride, bad_override tree)
    ∷ (AbstractMade, abstract_made tree)
    ∷ (FinalWritten, final_written tree)
    ∷ (BadReturnPlace, bad_return_place tree)
    ∷ (Shadowed, shadowed tree)
    ∷ (WrongArgumentsOfStatic, wrong_arguments_of_static tree)
    ∷ []

-- the first of these rules that is broken
abbrev pub first_broken : List Finding → Option (Rule × Span)
first_broken [] = None
first_broken ((rule, None) ∷ more) = first_broken more
first_broken ((rule, Some place) ∷ more) = Some (rule, place)

-- the first rule that the tree breaks, and the first place where it does
abbrev pub failing : Tree → Option (Rule × Span)
failing tree = first_broken (findings tree)

-- ---- what is counted

-- what a program has limits for
pub record Counts : Type 0 where
  pub classes : ℕ
  pub methods : ℕ
  pub functions : ℕ
  pub selectors : ℕ
  pub sites : ℕ

abbrev pub one_if : Bool → ℕ
one_if true = 1
one_if false = 0

-- A member with a body is one method; a field is a getter and, unless it is final, a setter.
abbrev pub methods_of : Member → ℕ
methods_of (t.field l) = if l.is_final then 1 else 2
methods_of (t.method n params b) = one_if (is_some b)
methods_of (t.getter n b) = one_if (is_some b)
methods_of (t.setter n param b) = one_if (is_some b)
methods_of (t.operator op at params b) = one_if (is_some b)
methods_of (t.constructor n params passed b) = 0

-- the methods of all classes of the text
abbrev pub user_methods : Tree → ℕ
user_methods tree = sum_by (λ (c : ClassDecl). sum_by methods_of c.members) (classes tree)

-- Built-in classes and members are counted, each class of the text has one constructor, and the two sites of `print` and of a list's text are counted.
abbrev pub counts : Tree → Counts
counts tree = record {
  classes = length built_in_classes + length (classes tree);
  methods = length built_in_members + user_methods tree;
  functions = length (functions tree) + length (classes tree);
  selectors = length (selectors tree);
  sites = length (sites tree);
}

-- ---- limits

-- the greatest count that is accepted
abbrev pub most : Limit → ℕ
most limit.Classes = 2048
most limit.Methods = 32767
most limit.Functions = 32767
most limit.Selectors = 2048
most limit.Sites = 65536

-- the first of these counts that is over its limit
abbrev pub first_over : List (Limit × ℕ) → Option (Limit × ℕ)
first_over [] = None
first_over ((what, count) ∷ more) = if nat_lt (most what) count then Some (what, count) else first_over more

-- the first count that is over its limit, in this order
abbrev pub exceeded : Counts → Option (Limit × ℕ)
exceeded c =
    first_over ((limit.Classes, c.classes) ∷ (limit.Methods, c.methods) ∷ (limit.Functions, c.functions) ∷ (limit.Selectors, c.selectors) ∷ (limit.Sites, c.sites) ∷ [])

-- a tree that breaks no rule, and whose counts keep their limits
pub record IsAccepted (tree : Tree) : Type 0 where
  pub rules : failing tree ≡ None
  pub limits : exceeded (counts tree) ≡ None
