-- **MixedName.** A member name is a method in one class and a field, a getter or a setter in one class, built-in classes counted. The place is the first declaration of the text that differs from a built-in member or from an earlier one.
use Rattle.std.specs.Prelude.{Bool, ◌||◌, if◌then◌else◌, List, [], ◌∷◌, None}
use Rattle.dart_syntax.specs.Syntax.{Tree}
use Rattle.static_rules.specs.Places.{Fault, at_if, ◌or_else◌}
use Rattle.static_rules.specs.Members.{Declared, user_members, is_method_of, is_accessor_of, is_built_in_method, is_built_in_accessor}

-- it differs from a built-in member of its name, or from one of those before
abbrev pub differs : List Declared → Declared → Bool
differs before d =
    if d.is_method then is_built_in_accessor d.name.text || is_accessor_of before d.name.text
    else is_built_in_method d.name.text || is_method_of before d.name.text

-- the first of these members that differs, behind those before
abbrev pub mixed : List Declared → List Declared → Fault
mixed before [] = None
mixed before (d ∷ more) = at_if (differs before d) d.name.span or_else mixed (d ∷ before) more

-- the first place at which the tree breaks the rule
unfoldable pub mixed_name : Tree → Fault
mixed_name tree = mixed [] (user_members tree)
