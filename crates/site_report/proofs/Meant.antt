-- The texts show what the entries mean, where each answer tells what its entry does.
use Rattle.std.proofs.Common.{◌≡◌, ℕ, zero, suc, ◌+◌, ◌<◌, List, [], ◌∷◌, ◌++◌, length, map, fold, slice_get, refl, sym, ◌∙◌, ap, arith, codes}
use Rattle.std.specs.Prelude.{slice_index, sum, sum_by}
use Rattle.std.specs.Fmt.{decimal}
use Rattle.std.specs.List.{flat_map, enumerate_from}
use Rattle.program.specs.declared.numbered.Site.{Site}
use Rattle.program.specs.Parts.{Parts}
use Rattle.miss_handler.specs.declared.row.Check.{Check}
use Rattle.miss_handler.specs.declared.state.CallState.{CallState}
use Rattle.dart_meaning.specs.Entry.{Meaning}
use Rattle.isolate_run.specs.declared.ended.Ended.{Ended}
use Rattle.isolate_run.specs.Ran.{Tells, calls_at}
use Rattle.site_report.specs.Report.{Told, told, told_by, count_at, count_of, numbered_line, site_line, entry_text, sites_text, report_text}
use Rattle.site_report.specs.Meant.{meant, meant_by, asked_at, asked_by, asked_of, EachTells}

-- ---- sites that show the same

module _ (p : Parts) (c0 c1 : ℕ → ℕ) (s0 s1 : ℕ → CallState) (r0 r1 : ℕ → List Check) where
  line_same : (j : ℕ) (site : Site) → c0 j ≡ c1 j → s0 j ≡ s1 j → r0 j ≡ r1 j → numbered_line p c0 s0 r0 (j, site) ≡ numbered_line p c1 s1 r1 (j, site)
  line_same j site c s r = rw (c, s, r) refl

  lines_same : (j : ℕ) (sites : List Site) → ((s : ℕ) → s < j + length sites → c0 s ≡ c1 s) → ((s : ℕ) → s < j + length sites → s0 s ≡ s1 s) → ((s : ℕ) → s < j + length sites → r0 s ≡ r1 s) →
      flat_map (numbered_line p c0 s0 r0) (enumerate_from j sites) ≡ flat_map (numbered_line p c1 s1 r1) (enumerate_from j sites)
  lines_same j [] c s r = refl
  lines_same j (site ∷ sites) c s r =
      ap (λ l. l ++ flat_map (numbered_line p c0 s0 r0) (enumerate_from (j + 1) sites)) (line_same j site (c j (omega arith)) (s j (omega arith)) (r j (omega arith)))
      ∙ ap (λ l. numbered_line p c1 s1 r1 (j, site) ++ l) (lines_same (j + 1) sites (λ k lt. c k (omega arith)) (λ k lt. s k (omega arith)) (λ k lt. r k (omega arith)))

  -- texts that show the same counts, states and rows at the sites of the program are the same
  pub report_same : (entries : List Told) → ((s : ℕ) → s < length p.sites → c0 s ≡ c1 s) → ((s : ℕ) → s < length p.sites → s0 s ≡ s1 s) → ((s : ℕ) → s < length p.sites → r0 s ≡ r1 s) →
      report_text p entries c0 s0 r0 ≡ report_text p entries c1 s1 r1
  unfolding report_text sites_text
  report_same entries c s r =
      ap (λ l. flat_map entry_text (enumerate_from 0 entries) ++ (codes "sites " ++ decimal (length p.sites) ++ codes "\n" ++ l))
      (lines_same 0 p.sites (λ k lt. c k (omega arith)) (λ k lt. s k (omega arith)) (λ k lt. r k (omega arith)))

-- ---- answers that tell what entries do

module _ (p : Parts) where
  told_meant : (name : List ℕ) (m : Meaning) (e : Ended) → Tells p m e → told (name, e) ≡ meant (name, m)
  told_meant name m e t = λ i. record { name = name; lines = t.lines i; ending = t.ending i }

  -- the entries
  pub entries_meant : (names : List (List ℕ)) (ms : List Meaning) (es : List Ended) → EachTells p ms es → told_by names es ≡ meant_by names ms
  unfolding told_by meant_by
  entries_meant [] ms es t = refl
  entries_meant (name ∷ names) [] [] t = refl
  entries_meant (name ∷ names) (m ∷ ms) (e ∷ es) t = λ i. told_meant name m e t.0 i ∷ entries_meant names ms es t.1 i
  entries_meant (name ∷ names) [] (e ∷ es) t = absurd t
  entries_meant (name ∷ names) (m ∷ ms) [] t = absurd t

  count_from : (n s : ℕ) (ms : List Meaning) (es : List Ended) → EachTells p ms es → s < length p.sites →
      fold (λ k (e : Ended). k + slice_index e.calls.items s) n es ≡ fold (λ k (m : Meaning). k + calls_at m.asked s) n ms
  count_from n s [] [] t lt = refl
  count_from n s (m ∷ ms) (e ∷ es) t lt =
      ap (λ k. fold (λ k (e : Ended). k + slice_index e.calls.items s) (n + k) es) (t.0.calls s lt) ∙ count_from (n + calls_at m.asked s) s ms es t.1 lt
  count_from n s [] (e ∷ es) t lt = absurd t
  count_from n s (m ∷ ms) [] t lt = absurd t

  -- the count of a site
  pub count_meant : (ms : List Meaning) (es : List Ended) → EachTells p ms es → (s : ℕ) → s < length p.sites → count_at es s ≡ asked_at ms s
  unfolding count_at asked_at
  count_meant ms es t s lt = count_from 0 s ms es t lt

  sum_from : (n j : ℕ) (counts : List ℕ) (sites : List Site) (f : ℕ → ℕ) → length counts ≡ length sites → ((k : ℕ) → k < length sites → slice_index counts k ≡ f (j + k)) →
      fold (λ a c. a + c) n counts ≡ fold (λ a (s : ℕ × Site). a + f s.0) n (enumerate_from j sites)
  sum_from n j [] [] f same each = refl
  sum_from n j (c ∷ counts) (site ∷ sites) f same each =
      let here : j + 0 ≡ j = omega arith in
      ap (λ k. fold (λ a c. a + c) (n + k) counts) (each 0 (omega arith) ∙ ap f here)
      ∙ sum_from (n + f j) (j + 1) counts sites f (omega (arith, same)) (λ k lt. each (suc k) (omega arith) ∙ ap f (omega arith))
  sum_from n j [] (site ∷ sites) f same each = absurd (omega (arith, same))
  sum_from n j (c ∷ counts) [] f same each = absurd (omega (arith, same))

  sum_meant : (m : Meaning) (e : Ended) → Tells p m e → sum e.calls.items ≡ asked_by p m
  sum_meant m e t = sum_from 0 0 e.calls.items p.sites (calls_at m.asked) t.sites (λ k lt. t.calls k lt ∙ ap (calls_at m.asked) (omega arith))

  total_from : (n : ℕ) (ms : List Meaning) (es : List Ended) → EachTells p ms es →
      fold (λ k (e : Ended). k + sum e.calls.items) n es ≡ fold (λ k (m : Meaning). k + asked_by p m) n ms
  total_from n [] [] t = refl
  total_from n (m ∷ ms) (e ∷ es) t =
      ap (λ k. fold (λ k (e : Ended). k + sum e.calls.items) (n + k) es) (sum_meant m e t.0) ∙ total_from (n + asked_by p m) ms es t.1
  total_from n [] (e ∷ es) t = absurd t
  total_from n (m ∷ ms) [] t = absurd t

  -- how often all cells were asked
  pub total_meant : (ms : List Meaning) (es : List Ended) → EachTells p ms es → count_of es ≡ asked_of p ms
  unfolding count_of asked_of
  total_meant ms es t = total_from 0 ms es t
