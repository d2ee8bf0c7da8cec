-- The rules on the names after `extends` and `implements`.
use Rattle.std.specs.Prelude.{Bool, not, ◌&&◌, List, ◌++◌}
use Rattle.std.specs.Option.{option_to_list}
use Rattle.std.specs.List.{list_any}
use Rattle.std.specs.Str.{bytes_eq}
use Rattle.dart_syntax.specs.declared.tree.Name.{Name}
use Rattle.dart_syntax.specs.Syntax.{ClassDecl, Tree}
use Rattle.dart_meaning.specs.Classes.{classes, object, built_in_names, is_subtype}
use Rattle.dart_meaning.specs.Means.{is_class}
use Rattle.static_rules.specs.Places.{Fault, at_if, first_in}

-- the names after `extends` and `implements`
abbrev pub supers : ClassDecl → List Name
supers c = option_to_list c.parent ++ c.interfaces

-- **UnknownSuper.** A name after `extends` or `implements` is no class. The place is that name.
unfoldable pub unknown_super : Tree → Fault
unknown_super tree = first_in (λ (c : ClassDecl). first_in (λ (n : Name). at_if (not (is_class tree n.text)) n.span) (supers c)) (classes tree)

-- a class is above itself by `extends` and `implements`
abbrev pub is_above_itself : Tree → ClassDecl → Bool
is_above_itself tree c = list_any (λ (n : Name). is_subtype tree n.text c.name.text) (supers c)

-- **CycleInSuper.** A class is above itself by `extends` and `implements`. The place is the class's name. A class below such a one does not break the rule.
unfoldable pub cycle_in_super : Tree → Fault
cycle_in_super tree = first_in (λ (c : ClassDecl). at_if (is_above_itself tree c) c.name.span) (classes tree)

-- a built-in class that may be neither extended nor implemented
abbrev pub is_closed : Name → Bool
is_closed n = list_any (bytes_eq n.text) built_in_names && not (bytes_eq n.text object)

-- **SuperIsBuiltin.** A name after `extends` or `implements` is a built-in class other than Object. The place is that name.
unfoldable pub super_is_builtin : Tree → Fault
super_is_builtin tree = first_in (λ (c : ClassDecl). first_in (λ (n : Name). at_if (is_closed n) n.span) (supers c)) (classes tree)
