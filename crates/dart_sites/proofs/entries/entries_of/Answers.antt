use Rattle.std.proofs.Common.{rules, ◌≡◌, ◌+◌, ◌<◌, [], ◌∷◌, ◌++◌, length, take, get_or, Some, ap, sym, subst, ◌∙◌}
use Rattle.std.specs.Prelude.{string_bytes}
use Rattle.std.proofs.lemmas.List.Elements.{All-push}
use Rattle.program.specs.declared.ids.EntryId.{EntryId}
use Rattle.program.specs.Program.{parts_of, entry_named}
use Rattle.code_meaning.specs.Laws.{TakesNothing}
use Rattle.compiled_runs.specs.Compiled.{EachTakesNothing}
use Rattle.dart_sites.specs.Words.{texts}
use Rattle.dart_sites.specs.Runs.{AreEntries}
use Rattle.dart_sites.proofs.EntryNames.{named_more, named_next, takes_nothing}
use Rattle.dart_sites.proofs.entries.entries_of.Goals as goal

pub loop-name-preserved : goal.loop-name-preserved
loop-name-preserved c =
    let p = c.args.program.now in
    let names = c.args.names.now in
    let i = c.loop-name.name-index in
    let name = c.name-item.result in
    let entry = c.in-Some.entry in
    let below : i < length names = search rules in
    let is : entry_named p (string_bytes (get_or names i name)) ≡ Some entry.0 =
    ap (λ x. entry_named p (string_bytes x)) (sym c.name-item.is) ∙ ap (entry_named p) (sym c.as_str.ensures.value) ∙ sym c.in-Some.ensures.entry in
    let pushed : c.push.new.self.items ≡ c.loop-name.entries.items ++ entry ∷ [] = search rules in
    record {
      named = subst (AreEntries p (texts (take (i + 1) names))) (sym pushed) (named_more p names i name c.loop-name.entries.items entry below c.loop-name.invariant.named is);
      takes = subst (EachTakesNothing (parts_of p)) (sym pushed)
          (All-push (λ (e : EntryId). TakesNothing (parts_of p) e.0) c.loop-name.entries.items entry c.loop-name.invariant.takes (takes_nothing p entry.0 (string_bytes (get_or names i name)) is));
      rest = named_next p names i name entry.0 below is ∙ c.loop-name.invariant.rest;
    }
