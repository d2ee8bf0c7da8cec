use Rattle.std.proofs.Common.{◌+◌, ◌∙◌, ap, sym, map, length}
use Rattle.std.specs.Prelude.{filter_map}
use Rattle.dart_syntax.specs.View.{top, unit}
use Rattle.program.specs.Parts.{Parts}
use Rattle.dart_meaning.specs.Classes.{class_at}
use Rattle.declaration_rules.specs.Seen.{class_of}
use Rattle.text_names.specs.declared.noted.Sort.TheVariants as sort
use Rattle.text_names.specs.Maps.{no_names, nothing_known, in_set}
use Rattle.text_names.specs.Noted.{also_noted_in}
use Rattle.text_names.specs.Around.{knows, also_classes}
use Rattle.text_names.specs.Tops.{stands_for}
use Rattle.text_names.proofs.Taken.{length-mapped}
use Rattle.text_names.proofs.Exact.{exact_of}
use Rattle.text_names.proofs.names.TextNames.of.Goals as goal

pub invariant_of-result : goal.invariant_of-result
invariant_of-result c =
    let b = c.in_ok-built_in.built_in in
    let cs = c.in_ok-decls.decls.items in
    record {
      exact = ∣ exact_of (unit c.args.tree.now) (stands_for c.in_ok-tops.tops) (knows c.in_ok-classes.classes) (in_set c.in_ok-methods.methods) (in_set c.in_ok-accessors.accessors) b.classes b.methods (map class_of cs) (map top c.as_slice-all.result.now)
          (ap (map top) c.as_slice-all.ensures)
          (c.in_ok-decls.ensures ∙ ap (λ ts. filter_map class_at (map top ts)) c.as_slice-all.ensures)
          c.in_ok-tops.ensures
          (c.in_ok-classes.ensures ∙ ap (λ xs. also_classes (map class_of xs) nothing_known) c.deref-3.ensures.value)
          (c.in_ok-methods.ensures ∙ ap (λ xs. also_noted_in sort.Method (map class_of xs) no_names) c.deref.ensures.value)
          (c.in_ok-accessors.ensures ∙ ap (λ xs. also_noted_in sort.Accessor (map class_of xs) no_names) c.deref-2.ensures.value)
          (ap (λ (p : Parts). p.classes) c.in_ok-built_in.ensures) (ap (λ (p : Parts). p.methods) c.in_ok-built_in.ensures) ∣₁;
      bounded =
          c.in_ok-most_above.ensures ∙ ap (λ xs. 6 + length xs) c.deref-4.ensures.value ∙ ap (λ n. 6 + n) (sym (length-mapped class_of cs) ∙ ap length (c.in_ok-decls.ensures ∙ ap (λ ts. filter_map class_at (map top ts)) c.as_slice-all.ensures));
    }
