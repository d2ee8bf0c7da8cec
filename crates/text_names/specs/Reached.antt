-- Members with a body, by kind and name, and how many arguments they take.
use Rattle.std.specs.Prelude.{ℕ, ◌+◌, cond, not, ◌&&◌, is_some, List, [], ◌∷◌, length, unwrap_or, map, Option, None, Some}
use Rattle.std.specs.List.{fold}
use Rattle.dart_syntax.specs.Syntax as t
use Rattle.dart_syntax.specs.Syntax.{Member, Local, Param}
use Rattle.dart_syntax.specs.Bytes.{Text}
use Rattle.program.specs.declared.numbered.SelectorKind.{SelectorKind}
use Rattle.program.specs.declared.numbered.SelectorKind.TheVariants.{Call, Get, Set}
use Rattle.program.specs.Lookup.{same_kind}
use Rattle.dart_meaning.specs.Classes.{if_so, required, Taking, first_some}
use Rattle.dart_meaning.specs.Operators.{operator_name}
use Rattle.text_names.specs.declared.reached.Takes.{Takes}
use Rattle.text_names.specs.declared.reached.Reached as src
use Rattle.text_names.specs.Maps.{Known, with_first}

-- how many arguments a member takes, without the member
abbrev pub takes_of : Taking → Takes
takes_of m = record { least = m.least; most = m.most }

-- those that a call has to give, behind so many others
abbrev pub required_from : ℕ → List Param → ℕ
required_from n params = fold (λ a (p : Param). a + cond (not p.optional) 1 0) n params

-- what these parameters take
abbrev pub fixed : List Param → Takes
fixed params = record { least = required params; most = length params }

-- no argument, as for a getter
abbrev pub none_taken : Takes
none_taken = record { least = 0; most = 0 }

-- one argument, as for a setter
abbrev pub one_taken : Takes
one_taken = record { least = 1; most = 1 }

-- a member by its name
pub record Reached : Type 0 where
  pub name : Text
  pub takes : Takes

abbrev pub reaching : Text → Takes → Reached
reaching name takes = record { name = name; takes = takes }

-- such a member, as src/ has it
abbrev pub reached_of : src.Reached → Reached
reached_of r = reaching r.name.now r.takes

-- a field as it is read, and unless it is final as it is written
abbrev pub of_field : SelectorKind → Local → Option Reached
of_field Get l = Some (reaching l.name.text none_taken)
of_field Set l = if_so (not l.is_final) (reaching l.name.text one_taken)
of_field Call l = None

-- what a member is for the kind, if it has a body
abbrev pub reached : SelectorKind → Member → Option Reached
reached kind (t.field l) = of_field kind l
reached kind (t.method n params b) = if_so (same_kind kind Call && is_some b) (reaching n.text (fixed params))
reached kind (t.getter n b) = if_so (same_kind kind Get && is_some b) (reaching n.text none_taken)
reached kind (t.setter n param b) = if_so (same_kind kind Set && is_some b) (reaching n.text (fixed (param ∷ [])))
reached kind (t.operator op at params b) = if_so (same_kind kind Call && is_some b) (reaching (operator_name op params) (fixed params))
reached kind (t.constructor n params passed b) = None

-- one member more, if it is of the kind; the first of a name stays
abbrev pub with_reached : Option Reached → Known Takes → Known Takes
with_reached None known = known
with_reached (Some r) known = with_first r.name r.takes known

-- what was known before, and then the first member of each name
abbrev pub also_reached : SelectorKind → List Member → Known Takes → Known Takes
also_reached kind [] known = known
also_reached kind (m ∷ more) known = also_reached kind more (with_reached (reached kind m) known)

-- how many parameters a constructor has
abbrev pub params_in : Member → Option ℕ
params_in (t.constructor n params passed b) = Some (length params)
params_in (t.field l) = None
params_in (t.method n params b) = None
params_in (t.getter n b) = None
params_in (t.setter n param b) = None
params_in (t.operator op at params b) = None

-- how many parameters the constructor has; without one there are none
abbrev pub constructor_params : List Member → ℕ
constructor_params ms = unwrap_or (first_some (map params_in ms)) 0
