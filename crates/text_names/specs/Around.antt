-- What is known of classes, by their names.
use Rattle.std.specs.Prelude.{ℕ, List, [], ◌∷◌, option_map}
use Rattle.std.specs.HashMap.{HashMap}
use Rattle.std.specs.Borrow.{Bor}
use Rattle.dart_syntax.specs.Syntax.{ClassDecl}
use Rattle.dart_syntax.specs.View.{class}
use Rattle.dart_syntax.specs.Bytes.{Text}
use Rattle.program.specs.declared.numbered.SelectorKind.TheVariants.{Call, Get, Set}
use Rattle.text_names.specs.declared.noted.Sort.TheVariants as sort
use Rattle.text_names.specs.declared.reached.Takes.{Takes}
use Rattle.text_names.specs.declared.class_names.ClassNames.{ClassNames}
use Rattle.text_names.specs.Maps.{Names, no_names, Known, nothing_known, with_first, in_set, in_map}
use Rattle.text_names.specs.Noted.{also_noted}
use Rattle.text_names.specs.Reached.{also_reached, constructor_params}

-- a class, the names of its members, of its fields and of those that are final with an initialiser; its members with a body, by kind; and how many parameters its constructor has
pub record Around : Type 0 where
  pub class : ClassDecl
  pub members : Names
  pub fields : Names
  pub initialised : Names
  pub reads : Known Takes
  pub writes : Known Takes
  pub calls : Known Takes
  pub params : ℕ

-- what is to be known of a class
abbrev pub around : ClassDecl → Around
around c = record {
  class = c;
  members = also_noted sort.Named c.members no_names;
  fields = also_noted sort.Field c.members no_names;
  initialised = also_noted sort.Initialised c.members no_names;
  reads = also_reached Get c.members nothing_known;
  writes = also_reached Set c.members nothing_known;
  calls = also_reached Call c.members nothing_known;
  params = constructor_params c.members;
}

-- what src/ holds of a class
abbrev pub around_of : ClassNames → Around
around_of n = record {
  class = class n.decl.now;
  members = in_set n.members;
  fields = in_set n.fields;
  initialised = in_set n.initialised;
  reads = in_map n.reads;
  writes = in_map n.writes;
  calls = in_map n.calls;
  params = n.params;
}

-- what a map of src/ holds of classes
unfoldable pub knows : {S : Type 0} → HashMap (Bor Text) ClassNames S → Known Around
knows m q = option_map around_of (in_map m q)

-- the first class of each name
abbrev pub also_classes : List ClassDecl → Known Around → Known Around
also_classes [] known = known
also_classes (c ∷ more) known = also_classes more (with_first c.name.text (around c) known)
