-- What the texts tell of entries, by what the entries mean.
use Rattle.std.specs.Prelude.{ℕ, List, [], ◌∷◌, map, sum_by, zip}
use Rattle.std.specs.List.{enumerate_from}
use Rattle.program.specs.declared.numbered.Site.{Site}
use Rattle.program.specs.Parts.{Parts}
use Rattle.dart_meaning.specs.Entry.{Meaning}
use Rattle.isolate_run.specs.declared.ended.Ended.{Ended}
use Rattle.isolate_run.specs.Ran.{Tells, calls_at}
use Rattle.site_report.specs.Report.{Told}

-- an entry of this name that does this
abbrev pub meant : List ℕ × Meaning → Told
meant e = record { name = e.0; lines = e.1.lines; ending = e.1.ending }

-- the entries, each with its name
unfoldable pub meant_by : List (List ℕ) → List Meaning → List Told
meant_by names ms = map meant (zip names ms)

-- how often these entries ask the cell of site s
unfoldable pub asked_at : List Meaning → ℕ → ℕ
asked_at ms s = sum_by (λ (m : Meaning). calls_at m.asked s) ms

-- how often an entry asks a cell of the program
abbrev pub asked_by : Parts → Meaning → ℕ
asked_by p m = sum_by (λ (s : ℕ × Site). calls_at m.asked s.0) (enumerate_from 0 p.sites)

-- how often these entries do
unfoldable pub asked_of : Parts → List Meaning → ℕ
asked_of p ms = sum_by (asked_by p) ms

-- each answer tells what its entry does
abbrev pub EachTells : Parts → List Meaning → List Ended → Type 0
EachTells p [] [] = Unit {0}
EachTells p (m ∷ ms) (e ∷ es) = Tells p m e × EachTells p ms es
EachTells p _ _ = ⊥
