-- What a request says of a numbered program, said of the source that it was made from.
use Rattle.std.proofs.Common.{◌≡◌, ℕ, List, is_some, sym, ap, ◌∙◌}
use Rattle.dart_syntax.specs.Syntax.{Tree}
use Rattle.program.specs.declared.numbered.Numbered.{Numbered}
use Rattle.program.specs.Program.{parts_of, entry_named}
use Rattle.dart_meaning.specs.Entry.{has_entry}
use Rattle.dart_meaning.specs.NumberedForm.{IsNumberedOf}
use Rattle.static_rules.specs.Accepted as rules
use Rattle.static_rules.specs.Accepted.{counts}
use Rattle.resolver.specs.Counted.{counts_of_parts}
use Rattle.resolver.specs.Entries.{EntriesMean}
use Rattle.dart_sites.specs.Refusals.{check_text}
use Rattle.dart_sites.specs.Source.{IsTreeOf}
use Rattle.dart_sites.specs.Words.{texts, entries}
use Rattle.dart_sites.specs.Runs.{ProgramSays}
use Rattle.dart_sites.specs.Top.{OutcomeSays, no_entry}
use Rattle.dart_sites.specs.declared.words.Request.{Request}
use Rattle.dart_sites.specs.declared.words.Request.TheVariants as request
use Rattle.dart_sites.specs.declared.telling.Outcome.{Outcome}
use Rattle.dart_sites.specs.declared.telling.Outcome.TheVariants as outcome
use Rattle.dart_sites.proofs.EntryNames.{unnamed_missing, each_means, check_same}

pub outcome_says : (asked : Request) (input : List ℕ) (tree : Tree) (p : Numbered) (o : Outcome) → IsTreeOf input tree → rules.IsAccepted tree → IsNumberedOf input tree (parts_of p) →
    counts_of_parts (parts_of p) ≡ counts tree → ((name : List ℕ) → is_some (entry_named p name) ≡ has_entry tree name) → EntriesMean tree p → ProgramSays asked p o → OutcomeSays asked input o
outcome_says request.Check input tree p (outcome.Told told) tree_of accepted numbered counted there mean says =
    record { tree = tree; source = tree_of.source; accepted = accepted; text_is = says.0 ∙ check_same (parts_of p) ∙ ap check_text counted; done_is = says.1 }
outcome_says request.List input tree p (outcome.Told told) tree_of accepted numbered counted there mean says =
    record { tree = tree; source = tree_of.source; accepted = accepted; program = parts_of p; numbered = numbered; text_is = says.0; done_is = says.1 }
outcome_says (request.Run turns names) input tree p (outcome.Told told) tree_of accepted numbered counted there mean says = record {
  tree = tree;
  source = tree_of.source;
  accepted = accepted;
  program = parts_of p;
  numbered = numbered;
  meanings = says.ran.meanings;
  each_means = each_means tree p mean turns (texts names.now) says.entries says.named ∙ says.ran.each_means;
  text_is = says.ran.text_is;
  done_is = says.ran.done_is;
}
outcome_says asked input tree p (outcome.WrongNames line) tree_of accepted numbered counted there mean says =
    record { tree = tree; tree_of = tree_of; wrong = no_entry accepted (sym (unnamed_missing tree p there (entries asked)) ∙ says.first) says.line_is }
outcome_says asked input tree p outcome.NoMemory tree_of accepted numbered counted there mean says = tt
outcome_says asked input tree p (outcome.NoSource line) tree_of accepted numbered counted there mean says = absurd says
outcome_says asked input tree p (outcome.OverLimit line) tree_of accepted numbered counted there mean says = absurd says
