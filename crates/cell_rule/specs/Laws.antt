-- Laws of the definitions.
use Rattle.std.specs.Prelude.{◌≡◌, ℕ, ◌+◌, ◌*◌, ◌<◌, List, [], replicate}
use Rattle.atomic_table.specs.Table.{State, opening}
use Rattle.miss_handler.specs.declared.row.Check.{Check}
use Rattle.cell_rule.specs.declared.words.Info.{Info}
use Rattle.cell_rule.specs.declared.words.Entry.{Entry}
use Rattle.cell_rule.specs.declared.view.View.{View}
use Rattle.cell_rule.specs.Words.{data_word, target_word, check_word, DataFits, TargetFits, CheckFits}
use Rattle.cell_rule.specs.About.{About, Sound}
use Rattle.cell_rule.specs.Rule.{Ruled}
use Rattle.cell_rule.specs.Told.{newcomer}
use Rattle.cell_rule.specs.Runs.{CellStep, Steps, Runs}
use Rattle.cell_rule.specs.Parts.{StartsWithZero, IsShared, Listed}

-- a data word tells its stamp and what it says
abbrev pub DataWordsDiffer : Type 0
DataWordsDiffer = (k : ℕ) (i : Info) (l : ℕ) (j : Info) → DataFits k i → DataFits l j → data_word k i ≡ data_word l j → (k ≡ l) × (i ≡ j)

-- a target word does
abbrev pub TargetWordsDiffer : Type 0
TargetWordsDiffer = (k : ℕ) (e : Entry) (l : ℕ) (f : Entry) → TargetFits k e → TargetFits l f → target_word k e ≡ target_word l f → (k ≡ l) × (e ≡ f)

-- a check tells its class and its target
abbrev pub ChecksDiffer : Type 0
ChecksDiffer = (k l : Check) → CheckFits k → CheckFits l → check_word k ≡ check_word l → k ≡ l

-- where the rule holds, word 0 is 0
abbrev pub RuleStartsWithZero : Type 0
RuleStartsWithZero = (p : About) (s : State (Unit {0}) View) → Ruled p s → StartsWithZero s

-- where it holds, the shares add up
abbrev pub RuleShares : Type 0
RuleShares = (p : About) (s : State (Unit {0}) View) → Ruled p s → IsShared s

-- where it holds, each site has its parts
abbrev pub RuleLists : Type 0
RuleLists = (p : About) (s : State (Unit {0}) View) → Ruled p s → (x : ℕ) → x < p.sites → Listed p s x

-- a step keeps the rule
abbrev pub StepKeeps : Type 0
StepKeeps = (p : About) (e : CellStep) (s t : State (Unit {0}) View) → Ruled p s → Steps p e s t → Ruled p t

-- a run keeps the rule
abbrev pub RunKeeps : Type 0
RunKeeps = (p : About) (es : List CellStep) (s t : State (Unit {0}) View) → Ruled p s → Runs p es s t → Ruled p t

-- a run from words that are all 0 ends under the rule
abbrev pub StartRuns : Type 0
StartRuns = (p : About) → Sound p → (es : List CellStep) (t : State (Unit {0}) View) → Runs p es (opening (replicate (6 * p.sites + 1) 0) [] newcomer) t → Ruled p t
