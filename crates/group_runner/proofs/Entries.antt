-- What one worker did so far, entry by entry.
use Rattle.std.proofs.Common.{◌≡◌, ℕ, ◌+◌, ◌<◌, ◌≤◌, List, [], ◌∷◌, ◌++◌, length, map, drop, get_or, refl, sym, ap, ◌∙◌, subst, append_assoc, append-nil, add-one, drop-cons}
use Rattle.std.proofs.lemmas.List.{map-append, flat_map_more, drop_all}
use Rattle.program.specs.declared.ids.EntryId.{EntryId}
use Rattle.program.specs.Lookup.{resolve}
use Rattle.program.specs.Parts.{Parts}
use Rattle.program.specs.Program.{parts_of}
use Rattle.dart_meaning.specs.Entry.{Meaning}
use Rattle.method_lookup.specs.declared.linked.Linked.{Linked}
use Rattle.code_pool.specs.Pool.{Pool}
use Rattle.code_pool.specs.Machine.{Outcome, ends, unfinished, is_stuck, machine}
use Rattle.call_cell.specs.declared.plain.PlainCells.{PlainCells}
use Rattle.call_cell.specs.Kept.{Kept, nothing_kept, after_calls}
use Rattle.call_cell.specs.Plain.{linked_of, kept, After, after_none, after_both}
use Rattle.isolate_run.specs.declared.ended.Ended.{Ended}
use Rattle.isolate_run.specs.Ran.{CanRun, Tells, RanFrom}
use Rattle.group_runner.specs.Group.{all_asked, EachTells, AreAlone, EachCanRun, ComeTo}

-- ---- lists

item : {A : Type 0} (xs : List A) (i : ℕ) (d : A) → i < length xs → drop i xs ≡ get_or xs i d ∷ drop (i + 1) xs
item xs i d h = rw (add-one, drop-cons xs i d) refl

-- the meanings of the outcomes that are ends
meanings : List Outcome → List Meaning
meanings [] = []
meanings (ends m ∷ more) = m ∷ meanings more
meanings (unfinished ∷ more) = meanings more
meanings (is_stuck lack ∷ more) = meanings more

meanings_back : (ms : List Meaning) → meanings (map ends ms) ≡ ms
unfolding meanings
meanings_back [] = refl
meanings_back (m ∷ ms) = ap (λ l. m ∷ l) (meanings_back ms)

-- the meanings behind two lists of ends are the same
same_meanings : (a b : List Meaning) → map ends a ≡ map ends b → a ≡ b
same_meanings a b e = sym (meanings_back a) ∙ ap meanings e ∙ meanings_back b

-- one answer more
tells_next : (p : Parts) (ms : List Meaning) (es : List Ended) (m : Meaning) (e : Ended) → EachTells p ms es → Tells p m e → EachTells p (ms ++ m ∷ []) (es ++ e ∷ [])
tells_next p [] [] m e h t = (t, tt)
tells_next p [] (x ∷ es) m e h t = absurd h
tells_next p (y ∷ ms) [] m e h t = absurd h
tells_next p (y ∷ ms) (x ∷ es) m e h t = (h.0, tells_next p ms es m e h.1 t)

-- what is asked with one entry more
asked_next : (ms : List Meaning) (m : Meaning) → all_asked (ms ++ m ∷ []) ≡ all_asked ms ++ m.asked
asked_next ms m = sym (flat_map_more (λ (m : Meaning). m.asked) [] ms m)

-- ---- the entries

-- what the machine comes to from one entry
abbrev pub outcome : Parts → Pool → ℕ → EntryId → Outcome
outcome p pool turns e = machine p pool (resolve p) e.0 turns

-- The machine came to these meanings, and comes to the others from the rest of the entries; the answers tell them, and the cells are as their calls left the first ones.
pub record RanSoFar (p : Parts) (pool : Pool) (turns : ℕ) (entries rest : List EntryId) (first : PlainCells) (done : List Ended) (cells : PlainCells) : Type 0 where
  pub ms : List Meaning
  pub come : map ends ms ++ map (outcome p pool turns) rest ≡ map (outcome p pool turns) entries
  pub tell : EachTells p ms done
  pub led : After first (all_asked ms) cells

module _ (p : Parts) (pool : Pool) (turns : ℕ) (entries : List EntryId) (first : PlainCells) where
  pub none_ran : (done : List Ended) → done ≡ [] → RanSoFar p pool turns entries entries first done first
  none_ran done none = record { ms = []; come = refl; tell = subst (EachTells p []) (sym none) tt; led = after_none first }

  -- one entry more
  pub one_more : (i : ℕ) (d : EntryId) → i < length entries → EachCanRun p pool turns entries → (done then : List Ended) (cells new : PlainCells) (end : Ended) → then ≡ done ++ end ∷ []
      → RanFrom (λ asked. After cells asked new) (λ tests. Unit {0}) p pool (resolve p) (get_or entries i d).0 turns end
      → RanSoFar p pool turns entries (drop i entries) first done cells
      → RanSoFar p pool turns entries (drop (i + 1) entries) first then new
  one_more i d h can done then cells new end grows ran s =
      let e : EntryId = get_or entries i d in
      let f : EntryId → Outcome = outcome p pool turns in
      let able : CanRun p pool (resolve p) e.0 turns = can i d h in
      let m : Meaning = able.means in
      let does = ran m able.comes in
      let rest : List Outcome = map f (drop (i + 1) entries) in
      record {
        ms = s.ms ++ m ∷ [];
        come = ap (λ l. l ++ rest) (map-append ends s.ms (m ∷ [])) ∙ append_assoc (map ends s.ms) (ends m ∷ []) rest
            ∙ ap (λ o. map ends s.ms ++ o ∷ rest) (sym able.comes) ∙ ap (λ l. map ends s.ms ++ map f l) (sym (item entries i d h)) ∙ s.come;
        tell = subst (EachTells p (s.ms ++ m ∷ [])) (sym grows) (tells_next p s.ms done m end s.tell does.tells);
        led = subst (λ l. After first l new) (sym (asked_next s.ms m)) (after_both first cells new (all_asked s.ms) m.asked s.led does.cells);
      }

  -- all entries ran
  pub all_ran : (linked : Linked) → p ≡ parts_of linked.program → linked_of first ≡ linked → kept first ≡ nothing_kept → (i : ℕ) → length entries ≤ i → (done : List Ended) (cells : PlainCells)
      → RanSoFar p pool turns entries (drop i entries) first done cells
      → (ms : List Meaning) → ComeTo p pool turns entries ms → EachTells p ms done × AreAlone p (all_asked ms) cells
  all_ran linked is made new i h done cells s ms come =
      let none : map ends s.ms ≡ map (outcome p pool turns) entries =
      sym (append-nil (map ends s.ms)) ∙ ap (λ l. map ends s.ms ++ map (outcome p pool turns) l) (sym (drop_all i entries h)) ∙ s.come in
      let same : s.ms ≡ ms = same_meanings s.ms ms (none ∙ come) in
      let parts : parts_of (linked_of first).program ≡ p = ap (λ (l : Linked). parts_of l.program) made ∙ sym is in
      let alone : AreAlone p (all_asked s.ms) cells = record {
        program = ap (λ (l : Linked). parts_of l.program) s.led.program ∙ parts;
        kept_is = s.led.kept_is ∙ ap (λ q. after_calls q (kept first) (all_asked s.ms)) parts ∙ ap (λ (k : Kept). after_calls p k (all_asked s.ms)) new;
      } in
      (subst (λ l. EachTells p l done) same s.tell, subst (λ l. AreAlone p (all_asked l) cells) same alone)
