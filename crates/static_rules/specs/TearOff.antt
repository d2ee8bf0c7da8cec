-- **TearOff.** A member read whose name is some method's; a member call whose name is some field's, getter's or setter's; a bare call of a local, a parameter or a variable; the name of a function, of a class or `print` that is used as a value. The place is that name.
use Rattle.std.specs.Prelude.{Bool, true, false, not, None}
use Rattle.dart_syntax.specs.Syntax.{Tree}
use Rattle.dart_values.specs.Values.{Text}
use Rattle.dart_meaning.specs.Uses.{Use, reads, calls, super_reads, super_calls, member_reads, member_calls, Part}
use Rattle.dart_meaning.specs.Means.{Means, too_early, a_local, a_member, a_top, of_this, nothing, means}
use Rattle.static_rules.specs.Places.{Fault, at_if}
use Rattle.static_rules.specs.InParts.{in_parts}
use Rattle.static_rules.specs.Members.{is_method, is_accessor}
use Rattle.static_rules.specs.Statics.{static_named, is_variable}

-- a bare name that is read, by what it means
abbrev pub is_torn_read : Tree → Text → Means → Bool
is_torn_read tree name a_member = is_method tree name
is_torn_read tree name of_this = is_method tree name
is_torn_read tree name a_top = not (is_variable (static_named tree name))
is_torn_read tree name _ = false

-- a bare name that is called
abbrev pub is_torn_call : Tree → Text → Means → Bool
is_torn_call tree name too_early = true
is_torn_call tree name (a_local is_final) = true
is_torn_call tree name a_member = is_accessor tree name
is_torn_call tree name of_this = is_accessor tree name
is_torn_call tree name a_top = is_variable (static_named tree name)
is_torn_call tree name nothing = false

-- where one use breaks the rule
abbrev pub torn_off : Tree → Part → Use → Fault
torn_off tree part (reads n seen) = at_if (is_torn_read tree n.text (means tree part n seen)) n.span
torn_off tree part (calls n seen k) = at_if (is_torn_call tree n.text (means tree part n seen)) n.span
torn_off tree part (super_reads at n) = at_if (is_method tree n.text) n.span
torn_off tree part (super_calls at n k) = at_if (is_accessor tree n.text) n.span
torn_off tree part (member_reads n) = at_if (is_method tree n.text) n.span
torn_off tree part (member_calls n k) = at_if (is_accessor tree n.text) n.span
torn_off tree part _ = None

-- the first place at which the tree breaks the rule
unfoldable pub tear_off : Tree → Fault
tear_off tree = in_parts (torn_off tree) tree
