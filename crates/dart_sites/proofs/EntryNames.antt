-- Entry points of a numbered program and of its tree.
use Rattle.std.proofs.Common.{◌≡◌, ℕ, ◌+◌, ◌<◌, Bool, true, false, not, List, [], ◌∷◌, ◌++◌, length, map, take, drop, get_or, None, Some, is_some, option_map, refl, sym, ap, ◌∙◌, subst, arith, add-one, drop-cons}
use Rattle.std.specs.Prelude.{find, ◌&&◌, cond, String, string_bytes}
use Rattle.std.specs.List.{AllByRecursion}
use Rattle.std.specs.Option.{option_and_then}
use Rattle.std.specs.declared.alloc.Global.{Global}
use Rattle.std.proofs.lemmas.Bool.{eqb-true}
use Rattle.std.proofs.lemmas.List.{take_more, map-append, length-map}
use Rattle.std.proofs.lemmas.List.Elements.{recursion_from_All}
use Rattle.dart_syntax.specs.Syntax.{Tree}
use Rattle.program.specs.declared.ids.EntryId.{EntryId}
use Rattle.program.specs.declared.numbered.Numbered.{Numbered}
use Rattle.program.specs.Parts.{Parts}
use Rattle.program.specs.Program.{parts_of, entry_named, is_entry_named}
use Rattle.program.proofs.Entries.{found_at}
use Rattle.dart_meaning.specs.Entry.{Meaning, seen, greatest_depth, has_entry}
use Rattle.dart_meaning.specs.Numbered.{entry_meaning_n, entry_run}
use Rattle.code_meaning.specs.Laws.{TakesNothing}
use Rattle.compiled_runs.specs.Compiled.{EachTakesNothing, AreMeant}
use Rattle.resolver.specs.Counted.{counts_of_parts}
use Rattle.resolver.specs.Entries.{EntriesMean}
use Rattle.site_report.specs.Report.{check_text_of}
use Rattle.dart_sites.specs.Refusals.{missing, check_text}
use Rattle.dart_sites.specs.Words.{texts}
use Rattle.dart_sites.specs.Runs.{means, AreEntries, unnamed}

-- ---- an entry point takes nothing

both : (a b : Bool) → a && b ≡ true → (a ≡ true) × (b ≡ true)
both true b e = (refl, e)
both false b e = absurd cc

is_empty : {A : Type 0} (xs : List A) → length xs ≡ 0 → xs ≡ []
is_empty [] e = refl
is_empty (x ∷ xs) e = absurd (omega (arith, e))

pub takes_nothing : (p : Numbered) (e : ℕ) (name : List ℕ) → entry_named p name ≡ Some e → TakesNothing (parts_of p) e
unfolding entry_named
takes_nothing p e name is =
    let at = found_at (is_entry_named name) p.functions e is in
    let point = (both _ _ at.3).0 in
    let more = (both _ _ point).1 in
    record { function = at.0; there = at.2; required = eqb-true at.0.required 0 (both _ _ point).0; defaults = is_empty at.0.defaults (eqb-true (length at.0.defaults) 0 (both _ _ more).0) }

-- ---- names, read one after the other

pub item : {A : Type 0} (xs : List A) (i : ℕ) (d : A) → i < length xs → drop i xs ≡ get_or xs i d ∷ drop (i + 1) xs
item xs i d h = rw (add-one, drop-cons xs i d) refl

pub named_more : (p : Numbered) (names : List (String Global)) (i : ℕ) (d : String Global) (entries : List EntryId) (e : EntryId) → i < length names → AreEntries p (texts (take i names)) entries →
    entry_named p (string_bytes (get_or names i d)) ≡ Some e.0 → AreEntries p (texts (take (i + 1) names)) (entries ++ e ∷ [])
named_more p names i d entries e below named is =
    ap (λ l. map (entry_named p) (texts l)) (take_more names i d below)
    ∙ ap (map (entry_named p)) (map-append string_bytes (take i names) (get_or names i d ∷ []))
    ∙ map-append (entry_named p) (texts (take i names)) (string_bytes (get_or names i d) ∷ [])
    ∙ (λ j. named j ++ is j ∷ [])
    ∙ sym (map-append (λ (x : EntryId). Some x.0) entries (e ∷ []))

pub named_next : (p : Numbered) (names : List (String Global)) (i : ℕ) (d : String Global) (e : ℕ) → i < length names → entry_named p (string_bytes (get_or names i d)) ≡ Some e →
    unnamed p (texts (drop (i + 1) names)) ≡ unnamed p (texts (drop i names))
named_next p names i d e below is =
    sym (ap (λ l. unnamed p (texts l)) (item names i d below) ∙ ap (λ o. cond (not (is_some o)) (Some (string_bytes (get_or names i d))) (unnamed p (texts (drop (i + 1) names)))) is)

pub unnamed_next : (p : Numbered) (names : List (String Global)) (i : ℕ) (d : String Global) → i < length names → entry_named p (string_bytes (get_or names i d)) ≡ None →
    unnamed p (texts (drop i names)) ≡ Some (string_bytes (get_or names i d))
unnamed_next p names i d below is =
    ap (λ l. unnamed p (texts l)) (item names i d below) ∙ ap (λ o. cond (not (is_some o)) (Some (string_bytes (get_or names i d))) (unnamed p (texts (drop (i + 1) names)))) is

-- ---- the tree's entries and the program's

pub unnamed_missing : (tree : Tree) (p : Numbered) → ((name : List ℕ) → is_some (entry_named p name) ≡ has_entry tree name) → (names : List (List ℕ)) → unnamed p names ≡ missing tree names
unnamed_missing tree p same names = λ i. find (λ name. not (same name i)) names

one_means : (tree : Tree) (p : Numbered) → EntriesMean tree p → (turns : ℕ) (name : List ℕ) (e : ℕ) → entry_named p name ≡ Some e → means tree turns name ≡ entry_meaning_n (parts_of p) e turns
one_means tree p mean turns name e is = sym (subst (λ o. option_and_then (λ x. entry_meaning_n (parts_of p) x turns) o ≡ means tree turns name) is (mean name turns))

pub each_means : (tree : Tree) (p : Numbered) → EntriesMean tree p → (turns : ℕ) (names : List (List ℕ)) (entries : List EntryId) → AreEntries p names entries →
    map (means tree turns) names ≡ map (λ (e : EntryId). entry_meaning_n (parts_of p) e.0 turns) entries
each_means tree p mean turns [] [] named = refl
each_means tree p mean turns [] (e ∷ es) named = absurd cc
each_means tree p mean turns (n ∷ names) [] named = absurd cc
each_means tree p mean turns (n ∷ names) (e ∷ es) named =
    λ i. one_means tree p mean turns n e.0 (ap (λ l. get_or l 0 None) named) i ∷ each_means tree p mean turns names es (ap (λ l. drop 1 l) named) i

-- ---- what entries that are there do

meant_by : (p : Parts) (turns : ℕ) (entries : List EntryId) → AllByRecursion (λ (e : EntryId). TakesNothing p e.0) entries → (ms : List Meaning) × AreMeant p turns entries ms
meant_by p turns [] all = ([], refl)
meant_by p turns (e ∷ es) all =
    let rest = meant_by p turns es all.1 in
    let this = seen (entry_run p greatest_depth e.0 turns) in
    (this ∷ rest.0, λ i. option_map (λ _. this) (all.0.there i) ∷ rest.1 i)

pub meant : (p : Parts) (turns : ℕ) (entries : List EntryId) → EachTakesNothing p entries → (ms : List Meaning) × AreMeant p turns entries ms
meant p turns entries all = meant_by p turns entries (recursion_from_All (λ (e : EntryId). TakesNothing p e.0) entries all)

pub as_many_meant : (p : Parts) (turns : ℕ) (entries : List EntryId) (ms : List Meaning) → AreMeant p turns entries ms → length entries ≡ length ms
as_many_meant p turns entries ms are = sym (length-map entries (λ (e : EntryId). entry_meaning_n p e.0 turns)) ∙ ap length are ∙ length-map ms Some

pub as_many_named : (p : Numbered) (names : List (String Global)) (entries : List EntryId) → AreEntries p (texts names) entries → length names ≡ length entries
as_many_named p names entries named =
    sym (length-map (texts names) (entry_named p) ∙ length-map names string_bytes) ∙ ap length named ∙ length-map entries (λ (e : EntryId). Some e.0)

-- ---- the counts

pub check_same : (p : Parts) → check_text_of p ≡ check_text (counts_of_parts p)
unfolding check_text_of
check_same p = refl
