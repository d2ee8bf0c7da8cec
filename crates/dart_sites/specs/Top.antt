-- What each status of the program says.
use Rattle.std.specs.Prelude.{◌≡◌, ℕ, ◌≤◌, ◌<◌, Bool, true, List, length, take, map, Option, MatchOption, IsSomeAnd, codes, Some, None}
use Rattle.std.specs.List.{list_all}
use Rattle.std.specs.Io.KnownBytes.{Appends}
use Rattle.dart_syntax.specs.Syntax.{Tree}
use Rattle.dart_syntax.specs.declared.token.Span.{Span}
use Rattle.static_rules.specs.declared.rule.Rule.{Rule}
use Rattle.static_rules.specs.declared.rule.Limit.{Limit}
use Rattle.static_rules.specs.Accepted as rules
use Rattle.static_rules.specs.Accepted.{failing, exceeded, counts}
use Rattle.program.specs.Parts.{Parts}
use Rattle.dart_meaning.specs.Entry.{Meaning}
use Rattle.dart_meaning.specs.NumberedForm.{IsNumberedOf}
use Rattle.site_report.specs.Report.{list_text_of}
use Rattle.dart_sites.specs.Refusals.{rule_line, limit_line, missing, entry_line, check_text}
use Rattle.dart_sites.specs.declared.source.Refusal.{Refusal}
use Rattle.dart_sites.specs.Source.{IsSource, IsTreeOf, NoTree, IsRefused, refusal_line}
use Rattle.dart_sites.specs.Outside.{HasWritten, ReadAll}
use Rattle.dart_sites.specs.Runs.{means, is_done, text_of_run}
use Rattle.dart_sites.specs.Words.{Asks, texts, entries}
use Rattle.dart_sites.specs.declared.words.Request.{Request}
use Rattle.dart_sites.specs.declared.words.Request.TheVariants as request
use Rattle.dart_sites.specs.declared.telling.Outcome.{Outcome}
use Rattle.dart_sites.specs.declared.telling.Outcome.TheVariants as outcome
use Rattle.dart_sites.specs.declared.status.Status.{Status}
use Rattle.dart_sites.specs.declared.status.Status.TheVariants as status

-- ---- what a request says of the bytes that were read

-- the text of `check` of a source: what it counts
pub record CheckSays (input text : List ℕ) (all_done : Bool) : Type 0 where
  pub tree : Tree
  pub source : IsSource input tree
  pub accepted : rules.IsAccepted tree
  pub text_is : text ≡ check_text (counts tree)
  pub done_is : all_done ≡ true

-- the text of `list` of a source: the classes and the sites of its numbered program
pub record ListSays (input text : List ℕ) (all_done : Bool) : Type 0 where
  pub tree : Tree
  pub source : IsSource input tree
  pub accepted : rules.IsAccepted tree
  pub program : Parts
  pub numbered : IsNumberedOf input tree program
  pub text_is : text ≡ list_text_of program
  pub done_is : all_done ≡ true

-- The text of `run` of a source, and whether each entry that is named was done. What an entry does is its meaning in the tree.
pub record RunSays (turns : ℕ) (names : List (List ℕ)) (input text : List ℕ) (all_done : Bool) : Type 0 where
  pub tree : Tree
  pub source : IsSource input tree
  pub accepted : rules.IsAccepted tree
  pub program : Parts
  pub numbered : IsNumberedOf input tree program
  pub meanings : List Meaning
  pub each_means : map (means tree turns) names ≡ map Some meanings
  pub text_is : text ≡ text_of_run program names meanings
  pub done_is : all_done ≡ list_all (λ (m : Meaning). is_done m.ending) meanings

-- the text that a request defines for the bytes, and whether each of its entries was done
abbrev pub Says : Request → List ℕ → List ℕ → Bool → Type 0
Says request.Check input text all_done = CheckSays input text all_done
Says request.List input text all_done = ListSays input text all_done
Says (request.Run turns names) input text all_done = RunSays turns (texts names.now) input text all_done

-- ---- why the bytes are refused, with this line

-- they are no source
pub record NoSource (input line : List ℕ) : Type 0 where
  pub no_tree : NoTree input
  pub why : Refusal
  pub refused : IsRefused input why
  pub line_is : line ≡ refusal_line input why

-- the tree breaks a rule; or it is accepted, and a name that is asked for is that of no entry point
pub data WrongNames (asked : Request) (tree : Tree) (input line : List ℕ) : Type 0 where
  breaks : {rule : Rule} {at : Span} → failing tree ≡ Some (rule, at) → line ≡ rule_line input rule at → WrongNames asked tree input line
  no_entry : {name : List ℕ} → rules.IsAccepted tree → missing tree (entries asked) ≡ Some name → line ≡ entry_line name → WrongNames asked tree input line

-- they are a source, whose names are refused
pub record NamesRefused (asked : Request) (input line : List ℕ) : Type 0 where
  pub tree : Tree
  pub tree_of : IsTreeOf input tree
  pub wrong : WrongNames asked tree input line

-- they are a source that breaks no rule, and a count is over its limit
pub record OverLimit (input line : List ℕ) : Type 0 where
  pub tree : Tree
  pub tree_of : IsTreeOf input tree
  pub rules : failing tree ≡ None
  pub what : Limit
  pub count : ℕ
  pub over : exceeded (counts tree) ≡ Some (what, count)
  pub line_is : line ≡ limit_line what count

-- what came of the bytes
abbrev pub OutcomeSays : Request → List ℕ → Outcome → Type 0
OutcomeSays asked input (outcome.Told told) = Says asked input told.text.items told.all_done
OutcomeSays asked input (outcome.NoSource line) = NoSource input line.items
OutcomeSays asked input (outcome.WrongNames line) = NamesRefused asked input line.items
OutcomeSays asked input (outcome.OverLimit line) = OverLimit input line.items
OutcomeSays asked input outcome.NoMemory = Unit {0}

-- ---- what was written

-- the words are a request, all bytes that the source held were read, within the limit, and the request says this text of them
pub record Defines (words : List (List ℕ)) (old left : Option (List ℕ)) (text : List ℕ) (all_done : Bool) : Type 0 where
  pub asked : Request
  pub asks : Asks words asked
  pub input : List ℕ
  pub read : ReadAll old left input
  pub says : Says asked input text all_done

-- the defined text was written whole; its entries were all done, or not
pub record WholeWritten (words : List (List ℕ)) (old left held holds : Option (List ℕ)) (all_done : Bool) : Type 0 where
  pub text : List ℕ
  pub defined : Defines words old left text all_done
  pub written : Appends held holds text

-- a proper part of a text was written, from its front
pub record CutShort (held holds : Option (List ℕ)) (text : List ℕ) : Type 0 where
  pub count : ℕ
  pub proper : count < length text
  pub part : Appends held holds (take count text)

-- a proper part of the defined text was written
pub record PartWritten (words : List (List ℕ)) (old left held holds : Option (List ℕ)) : Type 0 where
  pub text : List ℕ
  pub all_done : Bool
  pub defined : Defines words old left text all_done
  pub written : CutShort held holds text

-- ---- refusals

-- the one line of a refusal, but for those of the bytes, which have records of their own
abbrev pub line_of : Status → Option (List ℕ)
line_of status.Done = None
line_of status.EntryFault = None
line_of status.BadWords = Some (codes "refused: words\n")
line_of status.ReadFault = Some (codes "fault: read\n")
line_of status.TooLarge = Some (codes "refused: more than 1048576 bytes\n")
line_of status.SyntaxRefused = None
line_of status.NameRefused = None
line_of status.LimitRefused = None
line_of status.WriteFault = None
line_of status.NoMemory = Some (codes "fault: memory\n")

-- the line was written and nothing else, or a proper part of it, and then the faults of the sink rose
abbrev pub LineWritten : Option (List ℕ) → Option (List ℕ) → ℕ → ℕ → List ℕ → Type 0
LineWritten held holds before now line = (whole : Bool) × HasWritten held holds before now line whole

abbrev pub RefusalWritten : Status → Option (List ℕ) → Option (List ℕ) → ℕ → ℕ → Type 0
RefusalWritten answer held holds before now = MatchOption (line_of answer) (Unit {0}) (LineWritten held holds before now)

-- all bytes that the source held were read, within the limit, and the line that says why they are refused was written
pub record SourceRefused (why : List ℕ → List ℕ → Type 0) (old left held holds : Option (List ℕ)) (before now : ℕ) : Type 0 where
  pub input : List ℕ
  pub read : ReadAll old left input
  pub line : List ℕ
  pub because : why input line
  pub written : LineWritten held holds before now line

-- the same, of a request that the words are
pub record RequestRefused (words : List (List ℕ)) (old left held holds : Option (List ℕ)) (before now : ℕ) : Type 0 where
  pub asked : Request
  pub asks : Asks words asked
  pub refused : SourceRefused (NamesRefused asked) old left held holds before now

-- ---- completeness

-- the words are a request, and the source tells bytes that are accepted, with the entries that are named
pub record IsAccepted (words : List (List ℕ)) (old : Option (List ℕ)) : Type 0 where
  pub asked : Request
  pub asks : Asks words asked
  pub tree : Tree
  pub accepted : rules.IsAccepted tree
  pub named : missing tree (entries asked) ≡ None
  pub source : IsSomeAnd old (λ input. IsSource input tree × length input ≤ 1048576)

-- the answers to what is accepted, where no read and no write fails
abbrev pub IsRunAnswer : Status → Type 0
IsRunAnswer status.Done = Unit {0}
IsRunAnswer status.EntryFault = Unit {0}
IsRunAnswer status.NoMemory = Unit {0}
IsRunAnswer _ = ⊥

-- the answers of writing a text
abbrev pub IsFinish : Status → Type 0
IsFinish status.Done = Unit {0}
IsFinish status.EntryFault = Unit {0}
IsFinish status.WriteFault = Unit {0}
IsFinish _ = ⊥

-- ---- the exit codes

abbrev pub code_of : Status → ℕ
code_of status.Done = 0
code_of status.EntryFault = 1
code_of status.BadWords = 2
code_of status.ReadFault = 3
code_of status.TooLarge = 4
code_of status.SyntaxRefused = 5
code_of status.NameRefused = 6
code_of status.LimitRefused = 7
code_of status.WriteFault = 8
code_of status.NoMemory = 9
