-- What is kept of each class, by its name.
use Rattle.std.specs.Prelude.{ℕ, Bool, true, false, not, ◌&&◌, is_some, List, [], ◌∷◌, length, filter_map, Option, None, Some}
use Rattle.std.specs.Option.{option_map}
use Rattle.std.specs.HashMap.{HashMap}
use Rattle.std.specs.Borrow.{Bor}
use Rattle.dart_syntax.specs.Syntax as t
use Rattle.dart_syntax.specs.Syntax.{ClassDecl, Member, Local}
use Rattle.dart_syntax.specs.View.{class}
use Rattle.dart_syntax.specs.Bytes.{Text}
use Rattle.program.specs.declared.numbered.SelectorKind.{SelectorKind}
use Rattle.program.specs.declared.numbered.SelectorKind.TheVariants.{Call, Get, Set}
use Rattle.program.specs.Lookup.{same_kind}
use Rattle.dart_meaning.specs.Classes.{if_so}
use Rattle.dart_meaning.specs.Operators.{operator_name}
use Rattle.tree_numbers.specs.declared.class_facts.ClassFacts.{ClassFacts}
use Rattle.tree_numbers.specs.Maps.{Names, no_names, with_some, Known, nothing_known, with_first, in_set, in_map}
use Rattle.tree_numbers.specs.Parts.{field_name}
use Rattle.tree_numbers.specs.Places.{also_placed}

-- the name by which a member is read, written or called
abbrev pub named : Member → Option Text
named (t.field l) = Some l.name.text
named (t.method n params b) = Some n.text
named (t.getter n b) = Some n.text
named (t.setter n param b) = Some n.text
named (t.operator op at params b) = None
named (t.constructor n params passed b) = None

-- the names so far, and those of these members
abbrev pub also_named : List Member → Names → Names
also_named [] known = known
also_named (m ∷ more) known = also_named more (with_some (named m) known)

-- a field is read, and unless it is final it is written; it is never called
abbrev pub is_field_for : SelectorKind → Local → Bool
is_field_for Get l = true
is_field_for Set l = not l.is_final
is_field_for Call l = false

-- the name of a member with a body that is of the kind
abbrev pub owned : SelectorKind → Member → Option Text
owned kind (t.field l) = if_so (is_field_for kind l) l.name.text
owned kind (t.method n params b) = if_so (same_kind kind Call && is_some b) n.text
owned kind (t.getter n b) = if_so (same_kind kind Get && is_some b) n.text
owned kind (t.setter n param b) = if_so (same_kind kind Set && is_some b) n.text
owned kind (t.operator op at params b) = if_so (same_kind kind Call && is_some b) (operator_name op params)
owned kind (t.constructor n params passed b) = None

-- the names so far, and those of these members that are of the kind
abbrev pub also_owned : SelectorKind → List Member → Names → Names
also_owned kind [] known = known
also_owned kind (m ∷ more) known = also_owned kind more (with_some (owned kind m) known)

-- a class, the names of its members, the places of its fields and how many they are; and its members with a body, by kind
pub record Facts : Type 0 where
  pub class : ClassDecl
  pub named : Names
  pub fields : Known ℕ
  pub field_count : ℕ
  pub reads : Names
  pub writes : Names
  pub calls : Names

-- what is to be known of a class
abbrev pub facts : ClassDecl → Facts
facts c = record {
  class = c;
  named = also_named c.members no_names;
  fields = also_placed 0 (filter_map field_name c.members) nothing_known;
  field_count = length (filter_map field_name c.members);
  reads = also_owned Get c.members no_names;
  writes = also_owned Set c.members no_names;
  calls = also_owned Call c.members no_names;
}

-- what src/ holds of a class
abbrev pub facts_of : ClassFacts → Facts
facts_of n = record {
  class = class n.decl.now;
  named = in_set n.named;
  fields = in_map n.fields;
  field_count = n.field_count;
  reads = in_set n.reads;
  writes = in_set n.writes;
  calls = in_set n.calls;
}

-- what a map of src/ holds of classes
unfoldable pub knows : {S : Type 0} → HashMap (Bor Text) ClassFacts S → Known Facts
knows m q = option_map facts_of (in_map m q)

-- the first class of each name
abbrev pub also_classes : List ClassDecl → Known Facts → Known Facts
also_classes [] known = known
also_classes (c ∷ more) known = also_classes more (with_first c.name.text (facts c) known)
