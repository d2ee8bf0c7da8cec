use Rattle.std.proofs.Common.{ℕ, ◌<◌, length, map, sym, ◌∙◌, ap, subst}
use Rattle.program.specs.declared.numbered.Class.{Class}
use Rattle.program.specs.Hierarchy.{Parents, Supers, IsPreorder}
use Rattle.program.specs.Parts.{parents, supers}
use Rattle.program.specs.Program.{parts_of}
use Rattle.program.proofs.Facts.{order}
use Rattle.class_table.specs.Lasts.{AreLasts}
use Rattle.class_table.specs.Rows.{AreWithin, AllEnd, AreRows}
use Rattle.class_table.proofs.Building.{supers_within, supers_end, table_sound}
use Rattle.class_table.proofs.table.ClassTable.build.Goals as goal

pub lasts-requires-clause-order : goal.lasts-requires-clause-order
lasts-requires-clause-order c =
    subst IsPreorder (sym (c.deref.ensures.value ∙ c.in_ok-parents.ensures ∙ ap parents c.as_slice-classes.ensures)) (order (parts_of c.args.program.now) c.args.program.now.sound)

pub all_rows-requires-clause-within : goal.all_rows-requires-clause-within
all_rows-requires-clause-within c =
    subst AreWithin (sym (c.deref-2.ensures.value ∙ c.in_ok-named.ensures ∙ ap supers c.as_slice-classes.ensures)) (supers_within (parts_of c.args.program.now) c.args.program.now.sound)

pub all_rows-requires-clause-all_end : goal.all_rows-requires-clause-all_end
all_rows-requires-clause-all_end c =
    subst AllEnd (sym (c.deref-2.ensures.value ∙ c.in_ok-named.ensures ∙ ap supers c.as_slice-classes.ensures)) (supers_end (parts_of c.args.program.now) c.args.program.now.sound)

pub invariant_of-result : goal.invariant_of-result
invariant_of-result c =
    table_sound (parts_of c.args.program.now) c.args.program.now.sound
    c.in_ok-names.ensures (c.in_ok-parents.ensures ∙ ap parents c.as_slice-classes.ensures) (c.in_ok-abstracts.ensures ∙ ap (map (λ (k : Class). k.is_abstract)) c.as_slice-classes.ensures) (c.in_ok-named.ensures ∙ ap supers c.as_slice-classes.ensures)
    (subst (λ (up : Parents). AreLasts up c.in_ok-last.last.items) c.deref.ensures.value c.in_ok-last.ensures)
    (c.in_ok-above.ensures.same ∙ ap (λ (xs : Supers). length xs) c.deref-2.ensures.value)
    (subst (λ (named : Supers). AreRows named c.in_ok-above.above.items) c.deref-2.ensures.value c.in_ok-above.ensures.right)
    (subst (λ (named : Supers). (d : ℕ) → d < length named → Rattle.class_table.specs.Rows.IsFilled c.in_ok-above.above.items d) c.deref-2.ensures.value c.in_ok-above.ensures.filled)
