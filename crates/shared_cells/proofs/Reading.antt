-- Words that are read one after the other.
use Rattle.std.proofs.Common.{◌≡◌, ◌≢◌, ℕ, zero, suc, ◌+◌, ◌<◌, ◌≤◌, Bool, true, false, List, [], ◌∷◌, ◌++◌, sym, refl, ap, ◌∙◌, subst, ⊎_elim, inl, inr, arith, below_more}
use Rattle.program.specs.declared.numbered.Target.{Target}
use Rattle.miss_handler.specs.declared.row.Check.{Check}
use Rattle.miss_handler.specs.declared.state.CallState.{CallState}
use Rattle.miss_handler.specs.declared.state.CallState.TheVariants.{Mono}
use Rattle.miss_handler.specs.States.{check, class_id, IsRight}
use Rattle.cell_rule.specs.declared.words.Info.{Info}
use Rattle.cell_rule.specs.declared.view.Seen.{Seen}
use Rattle.cell_rule.specs.declared.view.Seen.TheVariants.{Head, Data, Set, Empty}
use Rattle.cell_rule.specs.declared.view.View.{View}
use Rattle.cell_rule.specs.declared.table.CellWords.{CellWords}
use Rattle.list_members.specs.Members.{Has}
use Rattle.cell_rule.specs.Words.{CheckFits}
use Rattle.cell_rule.specs.About.{About}
use Rattle.cell_rule.specs.Stamps.{data_stamp}
use Rattle.cell_rule.specs.Histories.{Known}
use Rattle.cell_rule.specs.Told.{goes_on}
use Rattle.cell_rule.specs.Steps.{Place, SameSeat, Knows, IsCurrent, CachedSeen, CallsIt, OthersSeen}
use Rattle.list_members.proofs.MemberFacts.{each_has, has_right}
use Rattle.cell_rule.proofs.Rows.{all_at}
use Rattle.cell_rule.proofs.Effects.{right_fits}
use Rattle.shared_cells.specs.Callings.{CanCall}
use Rattle.shared_cells.specs.Reading.{reads, Others, Standing, Placed}

-- one word more
pub read_more : (v w u : View) (l : List Seen) (s : Seen) → w ≡ reads v l → u ≡ goes_on w s → u ≡ reads v (s ∷ l)
read_more v w u l s is next = next ∙ ap (λ (z : View). goes_on z s) is

pub reach_more : (p : About) (x c : ℕ) (t : CellWords) (a b : Place) (s : Seen) → CanCall p x c t a → SameSeat a b → b.me.0 ≡ goes_on a.me.0 s → CanCall p x c t b
reach_more p x c t a b s r same is = (same.0 ∙ r.0, subst (λ (z : View). 0 < z.share) (sym is) r.1, r.2, r.3)

pub reach_reads : (p : About) (x c : ℕ) (t : CellWords) (a b : Place) → CanCall p x c t a → SameSeat a b → (l : List Seen) → b.me.0 ≡ reads a.me.0 l → CanCall p x c t b
reach_reads p x c t a b r same l is = (same.0 ∙ r.0, subst (λ (z : View). 0 < z.share) (sym is) r.1, r.2, r.3)

pub has_reads : (v w : View) (l : List Seen) (s : Seen) → w ≡ reads v l → Has s v.seen → Has s w.seen
has_reads v w l s is h = subst (λ (z : View). Has s z.seen) (sym is) (has_right l v.seen s h)

pub has_next : (v w : View) (s t : Seen) → w ≡ goes_on v t → Has s v.seen → Has s w.seen
has_next v w s t is h = subst (λ (z : View). Has s z.seen) (sym is) (inr h)

pub newest_has : (v w : View) (s : Seen) → w ≡ goes_on v s → Has s w.seen
newest_has v w s is = subst (λ (z : View). Has s z.seen) (sym is) (inl refl)

pub cached_reads : (x : ℕ) (v w : View) (l : List Seen) → w ≡ reads v l → CachedSeen x v → CachedSeen x w
cached_reads x v w l is c = (c.0, c.1, has_reads v w l _ is c.2, c.3)

pub calls_reads : (x d : ℕ) (v w : View) (l : List Seen) → w ≡ reads v l → CallsIt x d v → CallsIt x d w
calls_reads x d v w l is c = ⊎_elim (λ (z : IsCurrent x d v). inl (z.0, ap (λ (y : View). y.asked) is ∙ z.1))
    (λ (z : (j : ℕ) × (i : Info) × Has (Data x j i) v.seen × (i.state ≡ Mono (class_id d))). inr (z.0, z.1, has_reads v w l _ is z.2, z.3)) c

-- one check more that has another class
pub others_next : (x d q : ℕ) (v w : View) (k : Check) → w ≡ goes_on v (Set x q k) → OthersSeen x d q v → k.class.0 ≢ d → OthersSeen x d (q + 1) w
others_next x d q v w k is before other = below_more (λ (j : ℕ). (a : Check) × Has (Set x j a) w.seen × (a.class.0 ≢ d)) q (λ j lt. (let b = before j lt in (b.0, has_next v w _ _ is b.1, b.2))) (k, newest_has v w _ is, other)

-- what was read in order was seen
others_in : (x c n : ℕ) (l m : List Seen) → Others x c n l → (j : ℕ) → j < n → (a : Check) × Has (Set x j a) (l ++ m) × (a.class.0 ≢ c)
others_in x c zero l m o j lt = absurd (omega arith)
others_in x c (suc n) [] m o j lt = absurd o
others_in x c (suc n) (Head y k e ∷ l) m o j lt = absurd o
others_in x c (suc n) (Data y k i ∷ l) m o j lt = absurd o
others_in x c (suc n) (Empty y q ∷ l) m o j lt = absurd o
others_in x c (suc n) (Set y q k ∷ l) m o j lt =
    below_more (λ (j : ℕ). (a : Check) × Has (Set x j a) (Set y q k ∷ l ++ m) × (a.class.0 ≢ c)) n (λ j lt'. (let r = others_in x c n l m o.3 j lt' in (r.0, inr r.1, r.2)))
    (k, inl (λ i. Set (sym o.0 i) (sym o.1 i) k), o.2) j (omega arith)

pub others_seen : (x c n : ℕ) (v w : View) (l : List Seen) → w ≡ reads v l → Others x c n l → OthersSeen x c n w
others_seen x c n v w l is o = subst (OthersSeen x c n) (sym is) (others_in x c n l v.seen o)

pub others_step : (x c n : ℕ) (k : Check) (l : List Seen) → Others x c n l → k.class.0 ≢ c → Others x c (n + 1) (Set x n k ∷ l)
others_step x c n k l o other = subst (λ (z : ℕ). Others x c z (Set x n k ∷ l)) (let z : suc n ≡ n + 1 = omega arith in z) (refl, refl, other, o)

-- a check that was seen has the program's target
pub check_target : (p : About) (x q c : ℕ) (t : Target) (w : View) → Knows p w → Has (Set x q (check c t)) w.seen → t ≡ (p.at x).resolve c
check_target p x q c t w k has =
    let n : Known p k.0 (Set x q (check c t)) = each_has (Known p k.0) w.seen (Set x q (check c t)) has k.1.known in
    (all_at (IsRight (p.at x)) (k.0 x).row q (check c t) (k.1.good x n.0).lawful.right n.1).1

pub fits_check : (p : About) (x : ℕ) (k : Check) (w : View) → Knows p w → k.class.0 < p.classes → k.target ≡ (p.at x).resolve k.class.0 → CheckFits k
fits_check p x k w knows small is = let same = knows.1.sound.same x in right_fits p x k knows.1.sound (omega arith) is

pub placed_by : (x d : ℕ) (b : Bool) (w : View) → Standing x d b w → Placed x d w
placed_by x d true w s = inl s
placed_by x d false w s = inr (λ q lt. (let a = s q lt in (a.0, a.1)))

pub mono_inj : (a b : ℕ) → Mono (class_id a) ≡ Mono (class_id b) → a ≡ b
mono_inj a b e = ap number e
  where
    number : CallState → ℕ
    number (Mono a) = a.0
    number _ = 0

pub same_on : (a b c : Place) → SameSeat a b → SameSeat b c → SameSeat a c
same_on a b c s t = (t.0 ∙ s.0, t.1 ∙ s.1, t.2 ∙ s.2)

-- words that are seen too lower no stamp
pub stamp_append : (x : ℕ) (m l : List Seen) → data_stamp x l ≤ data_stamp x (m ++ l)
stamp_append x [] l = omega arith
stamp_append x (s ∷ m) l = let more = stamp_append x m l in omega arith
