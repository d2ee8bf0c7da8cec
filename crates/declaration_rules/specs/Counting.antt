-- Members of one class that are counted.
use Rattle.std.specs.Prelude.{ℕ, sum_by}
use Rattle.dart_syntax.specs.Syntax.{ClassDecl}
use Rattle.static_rules.specs.Accepted.{methods_of}

-- how many methods the members of a class are
abbrev pub in_class : ClassDecl → ℕ
in_class c = sum_by methods_of c.members
