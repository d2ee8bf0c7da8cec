-- **UndefinedName.** A bare name that means nothing; a local used in its block before the end of its declaration; a name after `is` that is no class; `this`, `super` or a member without a receiver, where no object is `this`; `this.x` for a field that the class does not declare; a member of `super` that no class above has with a body.
-- The place is the name, or the word `this` or `super` where that word may not stand.
use Rattle.std.specs.Prelude.{Bool, true, false, not, is_some, Option, None, Some, if◌then◌else◌}
use Rattle.std.specs.List.{list_any}
use Rattle.std.specs.Str.{bytes_eq}
use Rattle.dart_syntax.specs.declared.token.Span.{Span}
use Rattle.dart_syntax.specs.declared.tree.Name.{Name}
use Rattle.dart_syntax.specs.Syntax.{ClassDecl, Local, Tree}
use Rattle.program.specs.declared.numbered.SelectorKind.TheVariants.{Call, Get, Set}
use Rattle.dart_values.specs.Values.{Text}
use Rattle.dart_meaning.specs.Classes.{declared_fields}
use Rattle.dart_meaning.specs.Uses.{Use, reads, writes, calls, this_at, super_reads, super_writes, super_calls, names_class, sets_field, Part}
use Rattle.dart_meaning.specs.Means.{Means, too_early, a_member, nothing, means, has_this, is_class, super_member}
use Rattle.static_rules.specs.Places.{Fault, at_if}
use Rattle.static_rules.specs.InParts.{in_parts}

-- A member without a receiver is one of `this`.
abbrev pub is_undefined : Bool → Means → Bool
is_undefined this too_early = true
is_undefined this nothing = true
is_undefined this a_member = not this
is_undefined this _ = false

-- a member of `super` that is not there, or the word itself where no object is `this`
abbrev pub of_super : Bool → Span → Name → Bool → Fault
of_super this at n there = if this then at_if (not there) n.span else Some at

-- the class itself declares a field of this name
abbrev pub has_field : Option ClassDecl → Text → Bool
has_field class name = list_any (λ (f : Local). bytes_eq f.name.text name) (declared_fields class)

-- where one use breaks the rule
abbrev pub undefined_in : Tree → Part → Use → Fault
undefined_in tree part (reads n seen) = at_if (is_undefined (has_this part.kind) (means tree part n seen)) n.span
undefined_in tree part (writes n seen) = at_if (is_undefined (has_this part.kind) (means tree part n seen)) n.span
undefined_in tree part (calls n seen k) = at_if (is_undefined (has_this part.kind) (means tree part n seen)) n.span
undefined_in tree part (this_at at) = at_if (not (has_this part.kind)) at
undefined_in tree part (super_reads at n) = of_super (has_this part.kind) at n (is_some (super_member tree part.class Get n.text))
undefined_in tree part (super_writes at n) = of_super (has_this part.kind) at n (is_some (super_member tree part.class Set n.text))
undefined_in tree part (super_calls at n k) = of_super (has_this part.kind) at n (is_some (super_member tree part.class Call n.text))
undefined_in tree part (names_class n) = at_if (not (is_class tree n.text)) n.span
undefined_in tree part (sets_field n) = at_if (not (has_field part.class n.text)) n.span
undefined_in tree part _ = None

-- the first place at which the tree breaks the rule
unfoldable pub undefined_name : Tree → Fault
undefined_name tree = in_parts (undefined_in tree) tree
