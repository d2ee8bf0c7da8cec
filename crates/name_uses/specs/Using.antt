-- The uses that src/ lists.
use Rattle.std.specs.Prelude.{Bool, List, ◌++◌, map}
use Rattle.dart_syntax.specs.Syntax.{Sta}
use Rattle.name_uses.specs.declared.list.Use.{Use}
use Rattle.name_uses.specs.declared.list.Use.TheVariants as v
use Rattle.dart_meaning.specs.Uses as u

-- a use, as src/ has it
abbrev pub used : Use → u.Use
used (v.Reads n seen) = u.reads n.now seen
used (v.Writes n seen) = u.writes n.now seen
used (v.Calls n seen k) = u.calls n.now seen k
used (v.This at) = u.this_at at
used (v.SuperReads at n) = u.super_reads at n.now
used (v.SuperWrites at n) = u.super_writes at n.now
used (v.SuperCalls at n k) = u.super_calls at n.now k
used (v.MemberReads n) = u.member_reads n.now
used (v.MemberWrites n) = u.member_writes n.now
used (v.MemberCalls n k) = u.member_calls n.now k
used (v.IndexReads at) = u.index_reads at
used (v.IndexWrites at) = u.index_writes at
used (v.Operates op at) = u.operates op at
used (v.Prefixes op at) = u.prefixes op at
used (v.Shows at) = u.shows at
used (v.NamesClass n) = u.names_class n.now
used (v.Declares n seen) = u.declares n.now seen
used (v.LeavesLoop at loops) = u.leaves_loop at loops
used (v.ReturnsValue at) = u.returns_value at
used (v.SetsField n) = u.sets_field n.now
used (v.EntersSuper at k) = u.enters_super at k

abbrev pub all_used : List Use → List u.Use
all_used = map used

-- A branch is a block of its own.
abbrev pub branch_uses : Bool → u.Scope → Sta → List u.Use
branch_uses loops scope x = u.declared_uses scope (u.declared x) ++ u.sta loops (u.opened (u.declared x) scope) x
