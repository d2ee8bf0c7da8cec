-- Names as src/ holds them, and those that were there before.
use Rattle.std.specs.Prelude.{Option, None, Some}
use Rattle.std.specs.Str.{bytes_eq}
use Rattle.std.specs.HashSet.{HashSet, contains_by}
use Rattle.std.specs.Borrow.{Bor}
use Rattle.dart_syntax.specs.declared.tree.Name.{Name}
use Rattle.dart_syntax.specs.declared.tree.ClassDecl.{ClassDecl}
use Rattle.dart_syntax.specs.Syntax as tree
use Rattle.dart_syntax.specs.View.{class}
use Rattle.dart_syntax.specs.Operators.{named}
use Rattle.dart_syntax.specs.Bytes.{Text}
use Rattle.declaration_rules.specs.declared.repeats.Named.{Named}
use Rattle.static_rules.specs.Places.{Fault, at_if}
use Rattle.static_rules.specs.Repeats.{Before, with_name}

-- whether a set of texts has one
abbrev pub has : {S : Type 0} → HashSet (Bor Text) S → Before
has seen q = contains_by (λ k. bytes_eq q k.now) seen

-- a name of the text, as src/ has it
abbrev pub name_of : Named → Name
name_of n = named n.text.now n.span

-- a name that was there before, if it is one
abbrev pub again : Before → Option Name → Fault
again seen None = None
again seen (Some n) = at_if (seen n.text) n.span

-- one name more, if there is one
abbrev pub with_option : Option Name → Before → Before
with_option None seen q = seen q
with_option (Some n) seen q = with_name n.text seen q

-- the class that a reference leads to
abbrev pub class_of : Bor ClassDecl → tree.ClassDecl
class_of c = class c.now
