-- What a group that ended tells, as the text of `run` shows it.
use Rattle.std.proofs.Common.{◌≡◌, ℕ, suc, List, [], ◌∷◌, length, Option, None, Some, refl, ap, ◌∙◌, subst}
use Rattle.std.specs.Prelude.{slice_get, ◌&&◌}
use Rattle.std.specs.List.{list_all}
use Rattle.std.proofs.lemmas.List.Elements.{All-nil, All-cons}
use Rattle.program.specs.Parts.{Parts}
use Rattle.program.specs.Program.{parts_of}
use Rattle.dart_meaning.specs.Entry.{Meaning}
use Rattle.miss_handler.specs.Sites.{IsNamed}
use Rattle.call_cell.specs.declared.cell.Cell.{Cell}
use Rattle.call_cell.specs.declared.plain.PlainCells.{PlainCells}
use Rattle.call_cell.specs.Kept.{cell_or, site_in}
use Rattle.call_cell.specs.Plain.{linked_of, kept}
use Rattle.isolate_run.specs.declared.ended.Ended.{Ended}
use Rattle.isolate_run.specs.Ran.{ending_of}
use Rattle.group_runner.specs.declared.end.EndCells.TheVariants.{Plain}
use Rattle.group_runner.specs.declared.end.GroupEnd.{GroupEnd}
use Rattle.group_runner.specs.Group.{all_asked, EachTells, AreAlone, CellsEnded, OneEnded}
use Rattle.site_report.specs.Report.{told_by, count_at, AreCounted, AreNamed, report_text}
use Rattle.site_report.specs.Meant as meant
use Rattle.site_report.specs.Meant.{meant_by, asked_at}
use Rattle.site_report.proofs.Meant.{report_same, entries_meant, count_meant}
use Rattle.dart_sites.specs.Runs.{is_done, kept_after, text_of_run}
use Rattle.dart_sites.proofs.PlainStates.{cell_named}

-- ---- entries

pub tells_as_many : (p : Parts) (ms : List Meaning) (es : List Ended) → EachTells p ms es → length es ≡ length ms
tells_as_many p [] [] t = refl
tells_as_many p [] (e ∷ es) t = absurd t
tells_as_many p (m ∷ ms) [] t = absurd t
tells_as_many p (m ∷ ms) (e ∷ es) t = ap suc (tells_as_many p ms es t.1)

-- the same in the words of the texts
same_tells : (p : Parts) (ms : List Meaning) (es : List Ended) → EachTells p ms es → meant.EachTells p ms es
same_tells p [] [] t = tt
same_tells p [] (e ∷ es) t = absurd t
same_tells p (m ∷ ms) [] t = absurd t
same_tells p (m ∷ ms) (e ∷ es) t = (t.0, same_tells p ms es t.1)

pub each_counted : (p : Parts) (ms : List Meaning) (es : List Ended) → EachTells p ms es → AreCounted p es
each_counted p [] [] t = All-nil (λ (e : Ended). length e.calls.items ≡ length p.sites)
each_counted p [] (e ∷ es) t = absurd t
each_counted p (m ∷ ms) [] t = absurd t
each_counted p (m ∷ ms) (e ∷ es) t = All-cons (λ (e : Ended). length e.calls.items ≡ length p.sites) e es t.0.sites (each_counted p ms es t.1)

pub each_done : (p : Parts) (ms : List Meaning) (es : List Ended) → EachTells p ms es → list_all (λ (e : Ended). is_done (ending_of e.ending)) es ≡ list_all (λ (m : Meaning). is_done m.ending) ms
each_done p [] [] t = refl
each_done p [] (e ∷ es) t = absurd t
each_done p (m ∷ ms) [] t = absurd t
each_done p (m ∷ ms) (e ∷ es) t = λ i. is_done (t.0.ending i) && each_done p ms es t.1 i

-- ---- the text

-- the report of a group that ended is the text of its meanings
pub text_same : (p : Parts) (names : List (List ℕ)) (ms : List Meaning) (es : List Ended) (cells : PlainCells) → EachTells p ms es → AreAlone p (all_asked ms) cells →
    report_text p (told_by names es) (count_at es) (λ s. ((kept cells).site s).state) (λ s. ((kept cells).site s).row) ≡ text_of_run p names ms
unfolding text_of_run
text_same p names ms es cells t alone =
    (λ i. report_text p (entries_meant p names ms es (same_tells p ms es t) i) (count_at es) (λ s. ((alone.kept_is i).site s).state) (λ s. ((alone.kept_is i).site s).row))
    ∙ report_same p (count_at es) (asked_at ms) (λ s. ((kept_after p ms).site s).state) (λ s. ((kept_after p ms).site s).state)
    (λ s. ((kept_after p ms).site s).row) (λ s. ((kept_after p ms).site s).row) (meant_by names ms) (count_meant p ms es (same_tells p ms es t)) (λ s below. refl) (λ s below. refl)

-- ---- cells

-- the class of a Mono is one of the program
pub states_named : (p : Parts) (asked : List (ℕ × ℕ)) (cells : PlainCells) → AreAlone p asked cells → AreNamed p (λ s. ((kept cells).site s).state)
unfolding site_in
states_named p asked cells alone s below = subst (λ (q : Parts). IsNamed (length q.classes) ((kept cells).site s).state) alone.program (of (slice_get cells.cells.items s) refl)
  where
    of : (o : Option Cell) → slice_get cells.cells.items s ≡ o → IsNamed (length (parts_of (linked_of cells).program).classes) (cell_or o).state
    of None is = tt
    of (Some k) is = cell_named (linked_of cells) cells.cells.items cells.tables.items cells.sound s k is

-- the cells of one worker
pub one_alone : (p : Parts) (ms : List Meaning) (end : GroupEnd) (cells : PlainCells) → end.cells ≡ Plain cells → OneEnded p ms end → AreAlone p (all_asked ms) cells
one_alone p ms end cells is ended = subst (CellsEnded p (all_asked ms)) is ended.cells
