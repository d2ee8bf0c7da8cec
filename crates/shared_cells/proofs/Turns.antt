-- What the steps of a dispatch give together.
use Rattle.std.proofs.Common.{◌≡◌, ◌≢◌, ◌⊎◌, ℕ, zero, suc, ◌+◌, ◌-◌, ◌*◌, ◌<◌, ◌≤◌, ◌==◌, cond, Bool, true, false, IsTrue, List, [], ◌∷◌, ◌++◌, Some, None, max, sym, refl, ap, ◌∙◌, subst, ⊎_elim, inl, inr, arith, ne_eqb, append_assoc}
use Rattle.std.proofs.lemmas.Bool.{eq-eqb}
use native.Mathlib.Decide.{ℕ_discrete}
use mathlib.Core.Logic.{dite}
use mathlib.Core.Option.{some, some-injective, some-ne-none}
use lib.ListN.{get_elem?}
use Rattle.program.specs.declared.numbered.Target.{Target}
use Rattle.miss_handler.specs.declared.row.Check.{Check}
use Rattle.miss_handler.specs.declared.state.CallState.{CallState}
use Rattle.miss_handler.specs.declared.state.CallState.TheVariants.{Unlinked, Mono, Single, Cached, Mega}
use Rattle.miss_handler.specs.States.{check, Explains, LawfulState, Move, IsCachedOrMega, has}
use Rattle.miss_handler.proofs.Moves.{move_explains, move_lawful_state}
use Rattle.call_cell.specs.declared.cells.How.{How}
use Rattle.call_cell.specs.declared.cells.How.TheVariants.{Hit, Miss}
use Rattle.cell_rule.specs.declared.words.Info.{Info}
use Rattle.cell_rule.specs.declared.words.Entry.{Entry}
use Rattle.cell_rule.specs.declared.view.Seen.{Seen}
use Rattle.cell_rule.specs.declared.view.Seen.TheVariants.{Head, Data, Set, Empty}
use Rattle.cell_rule.specs.declared.view.Change.{Change}
use Rattle.cell_rule.specs.declared.view.View.{View}
use Rattle.list_members.specs.Members.{Each, Has}
use Rattle.cell_rule.specs.Words.{IsSmall, info, no_target, entry_of, DataFits, TargetFits}
use Rattle.cell_rule.specs.About.{About, state_target, LawfulInfo}
use Rattle.cell_rule.specs.Histories.{Histories, Known, RowSeen, Moved}
use Rattle.cell_rule.specs.Stamps.{head_part, data_part, head_stamp, data_stamp, Settled}
use Rattle.cell_rule.specs.Told.{Learnt, sees, goes_on, installs, change, HeadSeen, DataSeen, Won}
use Rattle.cell_rule.specs.Steps.{Knows, OthersSeen}
use Rattle.list_members.proofs.MemberFacts.{each_has, has_left, has_right}
use Rattle.cell_rule.proofs.Rows.{moved_small, none_has}
use Rattle.cell_rule.proofs.Growth.{data_fits, entry_fits}
use Rattle.cell_rule.proofs.Endings.{head_has, data_has, data_known}
use Rattle.shared_cells.specs.declared.answer.Ask.{Ask}
use Rattle.shared_cells.specs.declared.answer.Ask.TheVariants.{Nothing}
use Rattle.shared_cells.specs.declared.answer.Answer.{Answer}
use Rattle.shared_cells.specs.Reading.{reads, Others, InRow, ReadsOn, StandsSeen, FullSeen, Placed, FirstPlaced, MonoSeen}
use Rattle.shared_cells.specs.Runs.{CoversItself, AtSite, Found, pushed, or_else, paired, first_pair, CoversBy, Through, MissesBy, Tried, last_stamp, After, MegaFirst, Kept, IsMove, Running, Looked, Level, Moving}
use Rattle.shared_cells.specs.Dispatches.{HowIs, StoodAs, Answers}
use Rattle.shared_cells.proofs.Reading.{has_reads, others_seen}

-- ---- what a history tells of the words that were seen

module _ (p : About) (x : ℕ) (h : Histories) (w : View) (l : Learnt p h w) where
  pub known : (e : Seen) → Has e w.seen → Known p h e
  known e has = each_has (Known p h) w.seen e has l.known

  pub top_small : x < p.sites → (h x).top < 65000
  top_small inside = let few = (l.good x inside).few in let classes = l.sound.few_classes in omega arith

  pub lawful_seen : (k : ℕ) (i : Info) → Has (Data x k i) w.seen → LawfulInfo (p.at x) i
  lawful_seen k i has = let n : Known p h (Data x k i) = known (Data x k i) has in subst (LawfulInfo (p.at x)) (sym n.2) ((l.good x n.0).infos k n.1)

  pub head_fits : (k : ℕ) (e : Entry) → Has (Head x k e) w.seen → TargetFits k e
  head_fits k e has = let n : Known p h (Head x k e) = known (Head x k e) has in let a = top_small n.0 in let b = n.1 in let c = (l.good x n.0).behind in let i = (h x).at k in
      subst (TargetFits k) (sym n.2) (entry_fits p l.sound x k i (omega arith) ((l.good x n.0).infos k (omega arith)))

  pub entry_fits_seen : (k : ℕ) (i : Info) → Has (Data x k i) w.seen → TargetFits k (entry_of i)
  entry_fits_seen k i has = let n : Known p h (Data x k i) = known (Data x k i) has in let a = top_small n.0 in let b = n.1 in entry_fits p l.sound x k i (omega arith) (lawful_seen k i has)

-- the state's own target is the class's
pub target_is : (p : About) (x c : ℕ) (i : Info) → LawfulInfo (p.at x) i → IsTrue ((p.at x).concrete c) → CoversItself i.state c → i.target ≡ (p.at x).resolve c
target_is p x c i law concrete cover = law.target ∙ by_state i.state law.state cover
  where
    by_state : (s : CallState) → LawfulState (p.at x) s → CoversItself s c → state_target (p.at x) s ≡ (p.at x).resolve c
    by_state Unlinked l e = absurd e
    by_state (Mono a) l e = ap (p.at x).resolve (sym e)
    by_state (Single lo hi own) l e = sym (l.2 c e.0 e.1 concrete)
    by_state Cached l e = absurd e
    by_state Mega l e = absurd e

pub explains_covered : (s : CallState) (c : ℕ) → CoversItself s c → Explains s c
explains_covered Unlinked c e = e
explains_covered (Mono a) c e = e
explains_covered (Single lo hi t) c e = e
explains_covered Cached c e = absurd e
explains_covered Mega c e = absurd e

-- ---- the first pair

-- a pair that was found stays the first one
pub still_first : (s : Seen) (a : Info × List Seen) (l : List Seen) → first_pair l ≡ Some a → first_pair (s ∷ l) ≡ Some (a.0, s ∷ a.1)
still_first s a l e = ap (λ (z : Found). or_else (pushed s z) (paired s l)) e

misses_more : (x c : ℕ) (s : CallState) (e : Seen) (l : List Seen) → MissesBy x c s l → MissesBy x c s (e ∷ l)
misses_more x c Unlinked e l m = tt
misses_more x c (Mono a) e l m = m
misses_more x c (Single lo hi t) e l m = m
misses_more x c Cached e l m = (e ∷ m.0, m.1, ap (λ (z : List Seen). e ∷ z) m.2, m.3)
misses_more x c Mega e l m = tt

pub tried_more : (x c : ℕ) (s : Seen) (l : List Seen) → Tried true x c l → Tried true x c (s ∷ l)
tried_more x c s l t = ((t.0.0, s ∷ t.0.1), still_first s t.0 l t.1, misses_more x c t.0.0.state s t.0.1 t.2)

pub tried_on : (x c : ℕ) (m l : List Seen) → Tried true x c l → Tried true x c (m ++ l)
tried_on x c [] l t = t
tried_on x c (s ∷ m) l t = tried_more x c s (m ++ l) (tried_on x c m l t)

first_on : (a : Info × List Seen) (m l : List Seen) → first_pair l ≡ Some a → first_pair (m ++ l) ≡ Some (a.0, m ++ a.1)
first_on a [] l e = e
first_on a (s ∷ m) l e = still_first s (a.0, m ++ a.1) (m ++ l) (first_on a m l e)

-- a target word makes no pair
tried_head : (x c : ℕ) (b : Bool) (y k : ℕ) (e : Entry) (l : List Seen) → Tried b x c l → Tried b x c (Head y k e ∷ l)
tried_head x c true y k e l t = tried_more x c (Head y k e) l t
tried_head x c false y k e l t = ap (λ (z : Found). or_else (pushed (Head y k e) z) None) t

pair_is : (k j : ℕ) (i : Info) → j ≡ k → cond {A = Found} (j == k) (Some (i, [])) None ≡ Some (i, [])
pair_is k j i e = ap (λ b. cond {A = Found} b (Some (i, [])) None) (eq-eqb j k e)

unpaired : (k j : ℕ) (i : Info) → j ≢ k → cond {A = Found} (j == k) (Some (i, [])) None ≡ None
unpaired k j i n = ap (λ b. cond {A = Found} b (Some (i, [])) None) (ne_eqb j k n)

-- ---- more of a trace

pub after_more : (x c : ℕ) (v w u : View) (s : Seen) (b : Bool) → AtSite x s → u ≡ sees w s b → After x c v w → After x c v u
after_more x c v w u s b here is a = subst (After x c v) (sym is) record { share = a.share; asked = a.asked; seen = ap (λ (z : List Seen). s ∷ z) a.seen; here = (here, a.here) }

after_installs : (x c k : ℕ) (i i' : Info) (v w u : View) → u ≡ installs w x k i i' → After x c v w → After x c v u
after_installs x c k i i' v w u is a = subst (After x c v) (sym is) record { share = a.share; asked = a.asked; seen = ap (λ (z : List Seen). Data x k i' ∷ z) a.seen; here = (refl, a.here) }

row_site : (x : ℕ) (s : Seen) → InRow x s → AtSite x s
row_site x (Head y k e) r = absurd r
row_site x (Data y k i) r = absurd r
row_site x (Set y q j) r = r
row_site x (Empty y q) r = r

rows_at : (x : ℕ) (m l : List Seen) → Each (InRow x) m → Each (AtSite x) l → Each (AtSite x) (m ++ l)
rows_at x [] l r e = e
rows_at x (s ∷ m) l r e = (row_site x s r.0, rows_at x m l r.1 e)

pub after_reads : (x c : ℕ) (v w u : View) (m : List Seen) → u ≡ reads w m → Each (InRow x) m → After x c v w → After x c v u
after_reads x c v w u m is r a = subst (After x c v) (sym is) record { share = a.share; asked = a.asked; seen = ap (λ (z : List Seen). m ++ z) a.seen ∙ sym (append_assoc m w.trace v.seen); here = rows_at x m w.trace r a.here }

-- the checks of a look through the row
pub others_row : (x c n : ℕ) (l : List Seen) → Others x c n l → Each (InRow x) l
others_row x c zero l o = subst (Each (InRow x)) (sym o) tt
others_row x c (suc n) [] o = absurd o
others_row x c (suc n) (Head y k e ∷ l) o = absurd o
others_row x c (suc n) (Data y k i ∷ l) o = absurd o
others_row x c (suc n) (Empty y q ∷ l) o = absurd o
others_row x c (suc n) (Set y q j ∷ l) o = (o.0, others_row x c n l o.3)

row_part : (x y : ℕ) (s : Seen) → InRow x s → data_part y s ≡ 0
row_part x y (Head z k e) r = absurd r
row_part x y (Data z k i) r = absurd r
row_part x y (Set z q j) r = refl
row_part x y (Empty z q) r = refl

row_head_part : (x y : ℕ) (s : Seen) → InRow x s → head_part y s ≡ 0
row_head_part x y (Head z k e) r = absurd r
row_head_part x y (Data z k i) r = absurd r
row_head_part x y (Set z q j) r = refl
row_head_part x y (Empty z q) r = refl

-- checks change no stamp
rows_data : (x y : ℕ) (m l : List Seen) → Each (InRow x) m → data_stamp y (m ++ l) ≡ data_stamp y l
rows_data x y [] l r = refl
rows_data x y (s ∷ m) l r = let a = row_part x y s r.0 in let b = rows_data x y m l r.1 in omega arith

rows_head : (x y : ℕ) (m l : List Seen) → Each (InRow x) m → head_stamp y (m ++ l) ≡ head_stamp y l
rows_head x y [] l r = refl
rows_head x y (s ∷ m) l r = let a = row_head_part x y s r.0 in let b = rows_head x y m l r.1 in omega arith

row_last : (x : ℕ) (s : Seen) (l : List Seen) → InRow x s → last_stamp (s ∷ l) ≡ last_stamp l
row_last x (Head z k e) l r = absurd r
row_last x (Data z k i) l r = absurd r
row_last x (Set z q j) l r = refl
row_last x (Empty z q) l r = refl

rows_last : (x : ℕ) (m l : List Seen) → Each (InRow x) m → last_stamp (m ++ l) ≡ last_stamp l
rows_last x [] l r = refl
rows_last x (s ∷ m) l r = row_last x s (m ++ l) r.0 ∙ rows_last x m l r.1

-- ---- what stays kept

pub placed_more : (x a : ℕ) (u w : View) → ((s : Seen) → Has s u.seen → Has s w.seen) → Placed x a u → Placed x a w
placed_more x a u w more p = ⊎_elim (λ (t : StandsSeen x a u). inl (t.0, t.1, more (Set x t.0 (check a t.1)) t.2))
    (λ (t : FullSeen x u). inr (λ q lt. (let r = t q lt in (r.0, more (Set x q r.0) r.1)))) p

kept_more : (x : ℕ) (l : List Change) (u w : View) → ((s : Seen) → Has s u.seen → Has s w.seen) → Kept x l u → Kept x l w
kept_more x l u w more k a d has from to = placed_more x a u w more (k a d has from to)

sees_more : (w u : View) (s : Seen) (b : Bool) → u ≡ sees w s b → (t : Seen) → Has t w.seen → Has t u.seen
sees_more w u s b is t h = subst (λ (z : View). Has t z.seen) (sym is) (inr h)

kept_sees : (x : ℕ) (w u : View) (s : Seen) (b : Bool) → u ≡ sees w s b → Kept x w.changes w → Kept x u.changes u
kept_sees x w u s b is k = subst (λ (z : List Change). Kept x z u) (sym (ap (λ (z : View). z.changes) is)) (kept_more x w.changes w u (sees_more w u s b is) k)

kept_reads : (x : ℕ) (w u : View) (m : List Seen) → u ≡ reads w m → Kept x w.changes w → Kept x u.changes u
kept_reads x w u m is k = subst (λ (z : List Change). Kept x z u) (sym (ap (λ (z : View). z.changes) is)) (kept_more x w.changes w u (λ s h. has_reads w u m s is h) k)

moves_sees : (p : About) (x c : ℕ) (w u : View) (s : Seen) (b : Bool) → u ≡ sees w s b → Each (IsMove p x c) w.changes → Each (IsMove p x c) u.changes
moves_sees p x c w u s b is m = subst (λ (z : View). Each (IsMove p x c) z.changes) (sym is) m

-- ---- from turn to turn

data_after : (x c k : ℕ) (i : Info) (w u : View) → ((¬ Explains i.state c) × (u ≡ goes_on w (Data x k i))) ⊎ (Explains i.state c × (u ≡ sees w (Data x k i) false)) → (b : Bool) × (u ≡ sees w (Data x k i) b)
data_after x c k i w u d = ⊎_elim (λ (t : (¬ Explains i.state c) × (u ≡ goes_on w (Data x k i))). (w.pending, t.1)) (λ (t : Explains i.state c × (u ≡ sees w (Data x k i) false)). (false, t.1)) d

data_closes : (x c k : ℕ) (i : Info) (w u : View) → ((¬ Explains i.state c) × (u ≡ goes_on w (Data x k i))) ⊎ (Explains i.state c × (u ≡ sees w (Data x k i) false)) → Explains i.state c → u.pending ≡ false
data_closes x c k i w u d e = ⊎_elim (λ (t : (¬ Explains i.state c) × (u ≡ goes_on w (Data x k i))). absurd (t.0 e)) (λ (t : Explains i.state c × (u ≡ sees w (Data x k i) false)). ap (λ (z : View). z.pending) t.1) d

pub has_in_after : (x c : ℕ) (v w : View) (s : Seen) → After x c v w → Has s w.trace → Has s w.seen
has_in_after x c v w s a h = subst (Has s) (sym a.seen) (has_left w.trace v.seen s h)

pub looked : (p : About) (x c k : ℕ) (e : Entry) (newest : ℕ) (b : Bool) (v w : View) (j : ℕ) (i : Info) (u : View) → Running p x c k e newest b v w → DataSeen p x c j i w u → Looked p x c k e newest b v j i u
looked p x c k e newest b v w j i u r d =
    let is = data_after x c j i w u d.after in let a = after_more x c v w u (Data x j i) is.0 refl is.1 r.after in let l = d.learnt in
    let seen_is : u.seen ≡ Data x j i ∷ w.seen = ap (λ (z : View). z.seen) is.1 in
    let has_data : Has (Data x j i) u.seen = subst (Has (Data x j i)) (sym seen_is) (inl refl) in
    let head_in_w : Has (Head x k e) w.seen = has_in_after x c v w (Head x k e) r.after (subst (Has (Head x k e)) (sym r.head.1) (inl refl)) in
    let has_head : Has (Head x k e) u.seen = subst (Has (Head x k e)) (sym seen_is) (inr head_in_w) in
    let nd = known p x d.h u l (Data x j i) has_data in let nh = known p x d.h u l (Head x k e) has_head in
    let top = d.present in let behind = (l.good x nd.0).behind in let low = nh.1 in let small = top_small p x d.h u l nd.0 in
    let newest_le : newest ≤ j = ⊎_elim (λ (z : newest ≡ 0). omega arith)
    (λ (z : (i' : Info) × Has (Data x newest i') w.seen). let n = known p x d.h u l (Data x newest z.0) (subst (Has (Data x newest z.0)) (sym seen_is) (inr z.1)) in let m = n.1 in omega arith) r.data_seen in
    let level = data_known p d.h x u.seen l.known in record {
      after = a;
      h = d.h;
      learnt = l;
      top = d.present;
      fits = omega arith;
      has_data = has_data;
      has_head = has_head;
      k_le = omega arith;
      newest_le = newest_le;
      low_level = data_has x j i u.seen has_data;
      level = omega arith;
      closed = data_closes x c j i w u d.after;
      trace = r.head.0;
      trace_is = ap (λ (z : View). z.trace) is.1 ∙ ap (λ (z : List Seen). Data x j i ∷ z) r.head.1;
      first = subst (Tried b x c) r.head.1 r.first;
      kept = kept_sees x w u (Data x j i) is.0 is.1 r.kept;
      moves = moves_sees p x c w u (Data x j i) is.0 is.1 r.moves;
    }

-- what misses by the state alone
pub misses : (x c : ℕ) (s : CallState) (l : List Seen) → s ≢ Cached → ¬ CoversItself s c → MissesBy x c s l
misses x c Unlinked l n not = tt
misses x c (Mono a) l n not = not
misses x c (Single lo hi t) l n not = not
misses x c Cached l n not = absurd (n refl)
misses x c Mega l n not = tt

pub covers_by : (x c : ℕ) (s : CallState) (l : List Seen) → CoversItself s c → CoversBy x c s l
covers_by x c Unlinked l h = h
covers_by x c (Mono a) l h = h
covers_by x c (Single lo hi t) l h = h
covers_by x c Cached l h = absurd h
covers_by x c Mega l h = h

module _ (p : About) (x c k : ℕ) (e : Entry) (newest : ℕ) (b : Bool) (v : View) (j : ℕ) (i : Info) (u : View) (l : Looked p x c k e newest b v j i u) where
  -- the first pair of the trace, after the words of m
  old_first : (m : List Seen) → Tried true x c (Head x k e ∷ l.trace) → Tried true x c (m ++ u.trace)
  old_first m t = tried_on x c m u.trace (subst (Tried true x c) (sym l.trace_is) (tried_more x c (Data x j i) (Head x k e ∷ l.trace) t))

  now_first : (m : List Seen) → j ≡ k → first_pair (Head x k e ∷ l.trace) ≡ None → first_pair (m ++ u.trace) ≡ Some (i, m ++ [])
  now_first m same f = first_on (i, []) m u.trace (ap first_pair l.trace_is ∙ (ap (λ (z : Found). or_else (pushed (Data x j i) z) (paired (Data x j i) (Head x k e ∷ l.trace))) f ∙ pair_is j k i (sym same)))

  by_flag : (P : Type 0) → (Tried true x c (Head x k e ∷ l.trace) → P) → (first_pair (Head x k e ∷ l.trace) ≡ None → P) → P
  by_flag P if_so if_not = at_flag b l.first
    where
      at_flag : (b' : Bool) → Tried b' x c (Head x k e ∷ l.trace) → P
      at_flag true t = if_so t
      at_flag false t = if_not t

  -- a pair with equal stamps that does not cover the class, with the checks m loaded after it
  pub tried_now : (m : List Seen) → j ≡ k → MissesBy x c i.state (m ++ []) → Tried true x c (m ++ u.trace)
  tried_now m same miss = by_flag (Tried true x c (m ++ u.trace)) (old_first m) (λ f. ((i, m ++ []), now_first m same f, miss))

  tried_other : j ≢ k → Tried b x c u.trace
  tried_other other = at_flag b l.first
    where
      at_flag : (b' : Bool) → Tried b' x c (Head x k e ∷ l.trace) → Tried b' x c u.trace
      at_flag true t = subst (Tried true x c) (sym l.trace_is) (tried_more x c (Data x j i) (Head x k e ∷ l.trace) t)
      at_flag false t = ap first_pair l.trace_is ∙ (ap (λ (z : Found). or_else (pushed (Data x j i) z) (paired (Data x j i) (Head x k e ∷ l.trace))) t ∙ unpaired j k i (λ q. other (sym q)))

  pub mega_first : j ≡ k → i.state ≡ Mega → b ≡ false → MegaFirst true u
  mega_first same mega q = (i, now_first [] same (subst (λ z. Tried z x c (Head x k e ∷ l.trace)) q l.first), mega)

  -- how it was, where this pair covers the class by its state and the checks m
  pub how_now : (m : List Seen) → j ≡ k → CoversBy x c i.state (m ++ []) → (b ≡ false → HowIs Hit x c (m ++ u.trace)) × (b ≡ true → HowIs Miss x c (m ++ u.trace))
  how_now m same cover = (
    λ q. ((i, m ++ []), now_first m same (subst (λ z. Tried z x c (Head x k e ∷ l.trace)) q l.first), cover),
    λ q. inr (old_first m (subst (λ z. Tried z x c (Head x k e ∷ l.trace)) q l.first)),
  )

  head_in : Has (Head x k e) u.trace
  head_in = subst (Has (Head x k e)) (sym l.trace_is) (inr (inl refl))

  data_in : Has (Data x j i) u.trace
  data_in = subst (Has (Data x j i)) (sym l.trace_is) (inl refl)

  pub covered : (d : Answer) → j ≡ k → d.stamp ≡ k → d.target ≡ (p.at x).resolve c → CoversItself i.state c → d.asks ≡ Nothing → HowIs d.how x c u.trace → Answers p x c d v u
  covered d same stamp right cover none how = let a = l.low_level in let b' = l.level in let h = head_has x k e u.seen l.has_head in record {
    answer = right;
    after = l.after;
    closed = l.closed (explains_covered i.state c cover);
    stamp = omega arith;
    last = ap last_stamp l.trace_is ∙ (same ∙ sym stamp);
    level = omega arith;
    how = how;
    stood = subst (λ (z : Ask). StoodAs z x c u) (sym none) (inl (k, e, i, head_in, subst (λ (z : ℕ). Has (Data x z i) u.trace) same data_in, cover));
    kept = l.kept;
    moves = l.moves;
  }

  -- the pair misses, and the checks m were loaded after it
  pub levels : (m : List Seen) (u' : View) → j ≡ k → u' ≡ reads u m → Each (InRow x) m → Knows p u' → MissesBy x c i.state (m ++ []) → Level p x c k e newest i v u'
  levels m u' same is row knows miss =
      let trace_now : u'.trace ≡ m ++ u.trace = ap (λ (z : View). z.trace) is in let top = l.level in let low = l.newest_le in let fits = l.fits in
      let data_same : data_stamp x u'.seen ≡ data_stamp x u.seen = ap (λ (z : View). data_stamp x z.seen) is ∙ rows_data x x m u.seen row in record {
        after = after_reads x c v u u' m is row l.after;
        knows = knows;
        head = subst (Has (Head x k e)) (sym trace_now) (has_right m u.trace (Head x k e) head_in);
        data_word = subst (Has (Data x k i)) (sym trace_now) (has_right m u.trace (Data x k i) (subst (λ (z : ℕ). Has (Data x z i) u.trace) same data_in));
        small = omega arith;
        newest_le = omega arith;
        level = omega arith;
        closed = λ q. ap (λ (z : View). z.pending) is ∙ l.closed q;
        first = subst (Tried true x c) (sym trace_now) (tried_now m same miss);
        last = ap last_stamp trace_now ∙ (rows_last x m u.trace row ∙ (ap last_stamp l.trace_is ∙ same));
        kept = kept_reads x u u' m is l.kept;
        moves = subst (λ (z : View). Each (IsMove p x c) z.changes) (sym is) l.moves;
      }

  -- the class stands in a check loaded after the pair
  pub stands : (d : Answer) (m : List Seen) (q : ℕ) (t : Target) (u' : View) → j ≡ k → u' ≡ reads u m → Each (InRow x) m → Explains i.state c → d.stamp ≡ k → d.target ≡ (p.at x).resolve c → d.asks ≡ Nothing → Has (Set x q (check c t)) u'.seen → HowIs d.how x c (m ++ u.trace) → Answers p x c d v u'
  stands d m q t u' same is row explains stamp right none has how =
      let trace_now : u'.trace ≡ m ++ u.trace = ap (λ (z : View). z.trace) is in let low = l.low_level in let top = l.level in
      let data_same : data_stamp x u'.seen ≡ data_stamp x u.seen = ap (λ (z : View). data_stamp x z.seen) is ∙ rows_data x x m u.seen row in
      let head_same : head_stamp x u'.seen ≡ head_stamp x u.seen = ap (λ (z : View). head_stamp x z.seen) is ∙ rows_head x x m u.seen row in let h = head_has x k e u.seen l.has_head in record {
        answer = right;
        after = after_reads x c v u u' m is row l.after;
        closed = ap (λ (z : View). z.pending) is ∙ l.closed explains;
        stamp = omega arith;
        last = ap last_stamp trace_now ∙ (rows_last x m u.trace row ∙ (ap last_stamp l.trace_is ∙ (same ∙ sym stamp)));
        level = omega arith;
        how = subst (HowIs d.how x c) (sym trace_now) how;
        stood = subst (λ (z : Ask). StoodAs z x c u') (sym none) (inr (inr (q, t, has)));
        kept = kept_reads x u u' m is l.kept;
        moves = subst (λ (z : View). Each (IsMove p x c) z.changes) (sym is) l.moves;
      }

-- from a view that has looked, or more, by a load of the target word to the next turn
pub goes_round : (p : About) (x c : ℕ) (v u : View) → After x c v u → (j : ℕ) (i : Info) → Has (Data x j i) u.seen → (b : Bool) → Tried b x c u.trace → Kept x u.changes u → Each (IsMove p x c) u.changes
    → (m : ℕ) (e' : Entry) (u' : View) → HeadSeen p x m e' (goes_on u) u' → Running p x c m e' j b v u'
goes_round p x c v u a j i has b first kept moves m e' u' done =
    let seen1 : u'.seen ≡ Head x m e' ∷ u.seen = ap (λ (z : View). z.seen) done.after in
    let trace1 : u'.trace ≡ Head x m e' ∷ u.trace = ap (λ (z : View). z.trace) done.after in record {
      after = after_more x c v u u' (Head x m e') u.pending refl done.after a;
      h = done.h;
      learnt = done.learnt;
      head = (u.trace, trace1);
      data_seen = inr (i, subst (Has (Data x j i)) (sym seen1) (inr has));
      first = subst (Tried b x c) (sym trace1) (tried_head x c b x m e' u.trace first);
      kept = kept_sees x u u' (Head x m e') u.pending done.after kept;
      moves = moves_sees p x c u u' (Head x m e') u.pending done.after moves;
    }

-- the target word that is then seen is near each data word seen before, and no older than a target word seen before
pub head_near : (p : About) (x : ℕ) (u : View) (m : ℕ) (e' : Entry) (u' : View) → HeadSeen p x m e' (goes_on u) u' → (j : ℕ) (i : Info) → Has (Data x j i) u.seen → j ≤ m + 1
head_near p x u m e' u' done j i has =
    let seen1 : u'.seen ≡ Head x m e' ∷ u.seen = ap (λ (z : View). z.seen) done.after in
    let n = known p x done.h u' done.learnt (Data x j i) (subst (Has (Data x j i)) (sym seen1) (inr has)) in
    let a = n.1 in let near = (done.learnt.good x n.0).near in let low = done.present in omega arith

pub head_later : (p : About) (x : ℕ) (u : View) (m : ℕ) (e' : Entry) (u' : View) → HeadSeen p x m e' (goes_on u) u' → (k : ℕ) (e : Entry) → Has (Head x k e) u.seen → k ≤ m
head_later p x u m e' u' done k e has =
    let seen1 : u'.seen ≡ Head x m e' ∷ u.seen = ap (λ (z : View). z.seen) done.after in
    let n = known p x done.h u' done.learnt (Head x k e) (subst (Has (Head x k e)) (sym seen1) (inr has)) in
    let a = n.1 in let low = done.present in omega arith

module _ (p : About) (x c k : ℕ) (e : Entry) (newest : ℕ) (b : Bool) (v : View) (j : ℕ) (i : Info) (u : View) (l : Looked p x c k e newest b v j i u) where
  -- the target word was finished
  pub finish_round : j ≢ k → (m : ℕ) (e1 : Entry) (u' : View) → HeadSeen p x m e1 (goes_on u) u' → k < m
      → (q : ℕ) (e' : Entry) (u'' : View) → HeadSeen p x q e' (goes_on u') u'' → Running p x c q e' j b v u'' × (k + newest < q + j)
  finish_round other m e1 u' first_done rose q e' u'' done =
      let a = after_more x c v u u' (Head x m e1) u.pending refl first_done.after l.after in
      let seen1 : u'.seen ≡ Head x m e1 ∷ u.seen = ap (λ (z : View). z.seen) first_done.after in let trace1 : u'.trace ≡ Head x m e1 ∷ u.trace = ap (λ (z : View). z.trace) first_done.after in
      let has : Has (Data x j i) u'.seen = subst (Has (Data x j i)) (sym seen1) (inr l.has_data) in
      let first : Tried b x c u'.trace = subst (Tried b x c) (sym trace1) (tried_head x c b x m e1 u.trace (tried_other p x c k e newest b v j i u l other)) in
      let later = head_later p x u' q e' u'' done m e1 (subst (Has (Head x m e1)) (sym seen1) (inl refl)) in let old = l.newest_le in
      (goes_round p x c v u' a j i has b first (kept_sees x u u' (Head x m e1) u.pending first_done.after l.kept) (moves_sees p x c u u' (Head x m e1) u.pending first_done.after l.moves) q e' u'' done, omega arith)

  -- the data word was far ahead
  pub far_round : j ≢ k → ¬ (j - k ≡ 1) → (q : ℕ) (e' : Entry) (u'' : View) → HeadSeen p x q e' (goes_on u) u'' → Running p x c q e' j b v u'' × (k + newest < q + j)
  far_round other far q e' u'' done =
      let near = head_near p x u q e' u'' done j i l.has_data in let old = l.newest_le in let ahead = l.k_le in
      (goes_round p x c v u l.after j i l.has_data b (tried_other p x c k e newest b v j i u l other) l.kept l.moves q e' u'' done, omega arith)

-- ---- after a pair that does not cover the class

module _ (p : About) (x c k : ℕ) (e : Entry) (newest : ℕ) (i : Info) (v u : View) (l : Level p x c k e newest i v u) where
  pub data_seen_too : Has (Data x k i) u.seen
  data_seen_too = has_in_after x c v u (Data x k i) l.after l.data_word

  pub head_seen_too : Has (Head x k e) u.seen
  head_seen_too = has_in_after x c v u (Head x k e) l.after l.head

  -- more checks were seen
  pub level_reads : (u' : View) → ReadsOn x u u' → Knows p u' → Level p x c k e newest i v u'
  level_reads u' on knows =
      let m = on.0 in let is = on.1 in let row = on.2 in
      let trace_now : u'.trace ≡ m ++ u.trace = ap (λ (z : View). z.trace) is in let top = l.level in
      let data_same : data_stamp x u'.seen ≡ data_stamp x u.seen = ap (λ (z : View). data_stamp x z.seen) is ∙ rows_data x x m u.seen row in record {
        after = after_reads x c v u u' m is row l.after;
        knows = knows;
        head = subst (Has (Head x k e)) (sym trace_now) (has_right m u.trace (Head x k e) l.head);
        data_word = subst (Has (Data x k i)) (sym trace_now) (has_right m u.trace (Data x k i) l.data_word);
        small = l.small;
        newest_le = l.newest_le;
        level = omega arith;
        closed = λ q. ap (λ (z : View). z.pending) is ∙ l.closed q;
        first = subst (Tried true x c) (sym trace_now) (tried_on x c m u.trace l.first);
        last = ap last_stamp trace_now ∙ (rows_last x m u.trace row ∙ l.last);
        kept = kept_reads x u u' m is l.kept;
        moves = subst (λ (z : View). Each (IsMove p x c) z.changes) (sym is) l.moves;
      }

  -- an answer at this stamp
  pub level_answers : (d : Answer) → d.stamp ≡ k → d.target ≡ (p.at x).resolve c → d.how ≡ Miss → Explains i.state c → StoodAs d.asks x c u → Answers p x c d v u
  level_answers d stamp right how explains stood = let top = l.level in let low = data_has x k i u.seen data_seen_too in let h = head_has x k e u.seen head_seen_too in record {
    answer = right;
    after = l.after;
    closed = l.closed explains;
    stamp = omega arith;
    last = l.last ∙ sym stamp;
    level = omega arith;
    how = subst (λ (z : How). HowIs z x c u.trace) (sym how) (inr l.first);
    stood = stood;
    kept = l.kept;
    moves = l.moves;
  }

  -- the advance lost
  pub lost_round : (m : ℕ) (i' : Info) (u' : View) → DataSeen p x c m i' u u' → k < m
      → (q : ℕ) (e' : Entry) (u'' : View) → HeadSeen p x q e' (goes_on u') u'' → Running p x c q e' m true v u'' × (k + newest < q + m)
  lost_round m i' u' lost rose q e' u'' done =
      let is = data_after x c m i' u u' lost.after in let a = after_more x c v u u' (Data x m i') is.0 refl is.1 l.after in
      let seen1 : u'.seen ≡ Data x m i' ∷ u.seen = ap (λ (z : View). z.seen) is.1 in let trace1 : u'.trace ≡ Data x m i' ∷ u.trace = ap (λ (z : View). z.trace) is.1 in
      let has : Has (Data x m i') u'.seen = subst (Has (Data x m i')) (sym seen1) (inl refl) in
      let first : Tried true x c u'.trace = subst (Tried true x c) (sym trace1) (tried_more x c (Data x m i') u.trace l.first) in
      let later = head_later p x u' q e' u'' done k e (subst (Has (Head x k e)) (sym seen1) (inr head_seen_too)) in let old = l.newest_le in
      (goes_round p x c v u' a m i' has true first (kept_sees x u u' (Data x m i') is.0 is.1 l.kept) (moves_sees p x c u u' (Data x m i') is.0 is.1 l.moves) q e' u'' done, omega arith)

  -- an advance that won, and the finish
  pub won : (i' : Info) (u' : View) → Won p x k i i' u u' → IsMove p x c (change (k + 1) i i')
      → (m : ℕ) (e' : Entry) (u'' : View) → HeadSeen p x m e' (goes_on u') u'' → k < m → Moving p x c k newest i i' v u''
  won i' u' did moved m e' u'' done rose =
      let a1 = after_installs x c (k + 1) i i' v u u' did.after l.after in
      let a2 = after_more x c v u' u'' (Head x m e') u'.pending refl done.after a1 in
      let seen1 : u'.seen ≡ Data x (k + 1) i' ∷ u.seen = ap (λ (z : View). z.seen) did.after in
      let seen2 : u''.seen ≡ Head x m e' ∷ u'.seen = ap (λ (z : View). z.seen) done.after in
      let trace1 : u'.trace ≡ Data x (k + 1) i' ∷ u.trace = ap (λ (z : View). z.trace) did.after in
      let trace2 : u''.trace ≡ Head x m e' ∷ u'.trace = ap (λ (z : View). z.trace) done.after in
      let trace12 : u''.trace ≡ Head x m e' ∷ Data x (k + 1) i' ∷ u.trace = trace2 ∙ ap (λ (z : List Seen). Head x m e' ∷ z) trace1 in
      let changes_is : u''.changes ≡ change (k + 1) i i' ∷ u.changes = ap (λ (z : View). z.changes) done.after ∙ ap (λ (z : View). z.changes) did.after in
      let has_head : Has (Head x m e') u''.seen = subst (Has (Head x m e')) (sym seen2) (inl refl) in
      let below = data_known p did.h x u'.seen did.learnt.known in let top = did.present in let high = head_has x m e' u''.seen has_head in
      let data_same : data_stamp x u''.seen ≡ data_stamp x u'.seen = ap (data_stamp x) seen2 ∙ (let z : max 0 (data_stamp x u'.seen) ≡ data_stamp x u'.seen = omega arith in z) in
      let grows : (s : Seen) → Has s u.seen → Has s u''.seen = λ s h. subst (Has s) (sym seen2) (inr (subst (Has s) (sym seen1) (inr h))) in record {
        after = a2;
        knows = (done.h, done.learnt);
        data_word = subst (Has (Data x (k + 1) i')) (sym trace12) (inr (inl refl));
        before = subst (Has (Data x k i)) (sym trace12) (inr (inr l.data_word));
        head = (m, e', subst (Has (Head x m e')) (sym trace12) (inl refl), rose);
        small = l.small;
        newest_le = l.newest_le;
        level = omega arith;
        closed = ap (λ (z : View). z.pending) done.after ∙ ap (λ (z : View). z.pending) did.after;
        first = subst (Tried true x c) (sym trace12) (tried_more x c (Head x m e') (Data x (k + 1) i' ∷ u.trace) (tried_more x c (Data x (k + 1) i') u.trace l.first));
        last = ap last_stamp trace12;
        old = u.changes;
        changes = changes_is;
        kept = kept_more x u.changes u u'' grows l.kept;
        moves = subst (Each (IsMove p x c)) (sym changes_is) (moved, l.moves);
      }

-- ---- after a transition that the call made

module _ (p : About) (x c k newest : ℕ) (i i' : Info) (v u : View) (l : Moving p x c k newest i i' v u) where
  pub moving_reads : (u' : View) → ReadsOn x u u' → Knows p u' → Moving p x c k newest i i' v u'
  moving_reads u' on knows =
      let m = on.0 in let is = on.1 in let row = on.2 in
      let trace_now : u'.trace ≡ m ++ u.trace = ap (λ (z : View). z.trace) is in let top = l.level in
      let data_same : data_stamp x u'.seen ≡ data_stamp x u.seen = ap (λ (z : View). data_stamp x z.seen) is ∙ rows_data x x m u.seen row in
      let head_same : head_stamp x u'.seen ≡ head_stamp x u.seen = ap (λ (z : View). head_stamp x z.seen) is ∙ rows_head x x m u.seen row in record {
        after = after_reads x c v u u' m is row l.after;
        knows = knows;
        data_word = subst (Has (Data x (k + 1) i')) (sym trace_now) (has_right m u.trace (Data x (k + 1) i') l.data_word);
        before = subst (Has (Data x k i)) (sym trace_now) (has_right m u.trace (Data x k i) l.before);
        head = (l.head.0, l.head.1, subst (Has (Head x l.head.0 l.head.1)) (sym trace_now) (has_right m u.trace (Head x l.head.0 l.head.1) l.head.2), l.head.3);
        small = l.small;
        newest_le = l.newest_le;
        level = omega arith;
        closed = ap (λ (z : View). z.pending) is ∙ l.closed;
        first = subst (Tried true x c) (sym trace_now) (tried_on x c m u.trace l.first);
        last = ap last_stamp trace_now ∙ (rows_last x m u.trace row ∙ l.last);
        old = l.old;
        changes = ap (λ (z : View). z.changes) is ∙ l.changes;
        kept = kept_more x l.old u u' (λ s h. has_reads u u' m s is h) l.kept;
        moves = subst (λ (z : View). Each (IsMove p x c) z.changes) (sym is) l.moves;
      }

  -- all that the call's transitions left is kept
  kept_now : (Cached ≡ i'.state → FirstPlaced x i.state u) → Kept x u.changes u
  kept_now new = subst (λ (z : List Change). Kept x z u) (sym l.changes)
      (λ a d has from to. ⊎_elim (λ (q : d ≡ change (k + 1) i i'). new (sym to ∙ ap (λ (z : Change). z.to.state) q) a (sym (ap (λ (z : Change). z.from.state) q) ∙ from)) (λ (q : Has d l.old). l.kept a d q from to) has)

  pub moving_answers : (d : Answer) → d.stamp ≡ k + 1 → d.target ≡ (p.at x).resolve c → d.how ≡ Miss → (Cached ≡ i'.state → FirstPlaced x i.state u) → StoodAs d.asks x c u → Answers p x c d v u
  moving_answers d stamp right how new stood = let low = data_has x (k + 1) i' u.seen (has_in_after x c v u (Data x (k + 1) i') l.after l.data_word) in record {
    answer = right;
    after = l.after;
    closed = l.closed;
    stamp = omega arith;
    last = l.last ∙ sym stamp;
    level = l.level;
    how = subst (λ (z : How). HowIs z x c u.trace) (sym how) (inr l.first);
    stood = stood;
    kept = kept_now new;
    moves = l.moves;
  }

  -- the class finds no place in the row
  pub full_round : (Cached ≡ i'.state → FirstPlaced x i.state u) → (q : ℕ) (e' : Entry) (u' : View) → HeadSeen p x q e' (goes_on u) u' → Running p x c q e' (k + 1) true v u' × (k + newest < q + (k + 1))
  full_round new q e' u' done =
      let later = head_later p x u q e' u' done l.head.0 l.head.1 (has_in_after x c v u (Head x l.head.0 l.head.1) l.after l.head.2) in let rose = l.head.3 in let old = l.newest_le in
      (goes_round p x c v u l.after (k + 1) i' (has_in_after x c v u (Data x (k + 1) i') l.after l.data_word) true l.first (kept_now new) l.moves q e' u' done, omega arith)

-- a state that no check serves is covered after the transition
pub moved_covers : (p : About) (x c : ℕ) (d : Change) → IsMove p x c d → d.to.state ≢ Cached → d.to.state ≢ Mega → CoversItself d.to.state c
moved_covers p x c d m n n' = by_state d.to.state (move_explains (p.at x) d.from.state m.0 c d.to.state m.1) n n'
  where
    by_state : (t : CallState) → Explains t c → t ≢ Cached → t ≢ Mega → CoversItself t c
    by_state Unlinked h _ _ = h
    by_state (Mono a) h _ _ = h
    by_state (Single lo hi t) h _ _ = h
    by_state Cached h n _ = absurd (n refl)
    by_state Mega h _ n = absurd (n refl)

-- ---- other sites

part_apart : (y x k : ℕ) → y ≢ x → cond {A = ℕ} (y == x) k 0 ≡ 0
part_apart y x k n = ap (λ b. cond {A = ℕ} b k 0) (ne_eqb y x n)

data_apart : (x y : ℕ) (s : Seen) → AtSite x s → y ≢ x → data_part y s ≡ 0
data_apart x y (Head z k e) at n = refl
data_apart x y (Set z q j) at n = refl
data_apart x y (Empty z q) at n = refl
data_apart x y (Data z k i) at n = part_apart z y k (λ q. n (sym q ∙ at))

head_apart : (x y : ℕ) (s : Seen) → AtSite x s → y ≢ x → head_part y s ≡ 0
head_apart x y (Head z k e) at n = part_apart z y k (λ q. n (sym q ∙ at))
head_apart x y (Data z k i) at n = refl
head_apart x y (Set z q j) at n = refl
head_apart x y (Empty z q) at n = refl

data_else : (x y : ℕ) (l m : List Seen) → Each (AtSite x) l → y ≢ x → data_stamp y (l ++ m) ≡ data_stamp y m
data_else x y [] m e n = refl
data_else x y (s ∷ l) m e n = let a = data_apart x y s e.0 n in let r = data_else x y l m e.1 n in omega arith

head_else : (x y : ℕ) (l m : List Seen) → Each (AtSite x) l → y ≢ x → head_stamp y (l ++ m) ≡ head_stamp y m
head_else x y [] m e n = refl
head_else x y (s ∷ l) m e n = let a = head_apart x y s e.0 n in let r = head_else x y l m e.1 n in omega arith

pub stays_settled : (x c : ℕ) (v w : View) → After x c v w → Settled v.seen → data_stamp x w.seen ≤ head_stamp x w.seen → Settled w.seen
stays_settled x c v w a settled here y = dite (ℕ_discrete y x) (λ (e : y ≡ x). subst (λ (z : ℕ). data_stamp z w.seen ≤ head_stamp z w.seen) (sym e) here)
    (λ (n : y ≢ x). let d = ap (data_stamp y) a.seen ∙ data_else x y w.trace v.seen a.here n in let h = ap (head_stamp y) a.seen ∙ head_else x y w.trace v.seen a.here n in let s = settled y in omega arith)

-- ---- how many turns

pub running_small : (p : About) (x c k : ℕ) (e : Entry) (newest : ℕ) (b : Bool) (v w : View) → Running p x c k e newest b v w → k + newest ≤ 2 * p.classes + 4
running_small p x c k e newest b v w r =
    let n = known p x r.h w r.learnt (Head x k e) (has_in_after x c v w (Head x k e) r.after (subst (Has (Head x k e)) (sym r.head.1) (inl refl))) in
    let t = r.h x in let ok = r.learnt.good x n.0 in let bound = ok.few in
    let behind = ok.behind in let low = n.1 in
    let newest_le : newest ≤ t.top = ⊎_elim (λ (z : newest ≡ 0). omega arith) (λ (z : (i : Info) × Has (Data x newest i) w.seen). (known p x r.h w r.learnt (Data x newest z.0) z.1).1) r.data_seen in
    omega arith

-- ---- what fits

module _ (p : About) (x c k : ℕ) (e : Entry) (newest : ℕ) (i : Info) (v u : View) (l : Level p x c k e newest i v u) where
  pub level_lawful : LawfulInfo (p.at x) i
  level_lawful = lawful_seen p x l.knows.0 u l.knows.1 k i (data_seen_too p x c k e newest i v u l)

  module _ (concrete : IsTrue ((p.at x).concrete c)) (i' : Info) (m : Moved p x c i i' u.seen) where
    next_lawful : LawfulInfo (p.at x) i'
    next_lawful =
        let sound = l.knows.1.sound in let small = sound.there x c concrete in let same = sound.same x in
        let named = move_lawful_state (p.at x) i.state m.row c i'.state level_lawful.state (omega arith) m.move in
        record {
          state = named;
          target = m.target;
          small = subst IsSmall (sym m.target) (moved_small (p.at x) i.state m.row c i'.state (sound.small x) (subst IsSmall level_lawful.target level_lawful.small) m.move);
        }

    pub level_fits : DataFits k i × DataFits (k + 1) i'
    level_fits = let s = l.small in let sound = l.knows.1.sound in (data_fits p sound x k i (omega arith) level_lawful, data_fits p sound x (k + 1) i' (omega arith) next_lawful)

    pub level_entries : TargetFits k e × TargetFits (k + 1) (entry_of i')
    level_entries = let s = l.small in (head_fits p x l.knows.0 u l.knows.1 k e (head_seen_too p x c k e newest i v u l), entry_fits p l.knows.1.sound x (k + 1) i' (omega arith) next_lawful)

  pub head_after : (i' : Info) (u' : View) → u' ≡ installs u x (k + 1) i i' → Has (Head x k e) u'.seen
  head_after i' u' is = subst (λ (z : View). Has (Head x k e) z.seen) (sym is) (inr (head_seen_too p x c k e newest i v u l))

-- a transition that needs no row
pub moved_bare : (p : About) (x c : ℕ) (i i' : Info) (seen : List Seen) → Move (p.at x) i.state [] c i'.state → i'.target ≡ state_target (p.at x) i'.state → Moved p x c i i' seen
moved_bare p x c i i' seen m t = record { row = []; checks = λ q k e. absurd (some-ne-none k (sym e)); move = m; target = t }

-- the check q was seen with another class
abbrev Other : ℕ → ℕ → View → ℕ → Type 0
Other x c w q = (k : Check) × Has (Set x q k) w.seen × (k.class.0 ≢ c)

-- four checks that were seen with other classes make a site megamorphic
pub moved_full : (p : About) (x c : ℕ) (i : Info) (w : View) → i.state ≡ Cached → OthersSeen x c 4 w → Moved p x c i (info Mega no_target) w.seen
moved_full p x c i w is others =
    let a = others 0 (omega arith) in let b = others 1 (omega arith) in let d = others 2 (omega arith) in let f = others 3 (omega arith) in
    let row : List Check = a.0 ∷ b.0 ∷ d.0 ∷ f.0 ∷ [] in record {
      row = row;
      checks = at_row a b d f;
      move = subst (λ (z : CallState). Move (p.at x) z row c Mega) (sym is) record { uncovered = none_has row c (apart a b d f); changes = refl; leads = refl };
      target = refl;
    }
  where
    at_row : (a : Other x c w 0) (b : Other x c w 1) (d : Other x c w 2) (f : Other x c w 3) → RowSeen x (a.0 ∷ b.0 ∷ d.0 ∷ f.0 ∷ []) w.seen
    at_row a b d f zero k e = subst (λ (z : Check). Has (Set x 0 z) w.seen) (some-injective a.0 k e) a.1
    at_row a b d f (suc zero) k e = subst (λ (z : Check). Has (Set x 1 z) w.seen) (some-injective b.0 k e) b.1
    at_row a b d f (suc (suc zero)) k e = subst (λ (z : Check). Has (Set x 2 z) w.seen) (some-injective d.0 k e) d.1
    at_row a b d f (suc (suc (suc zero))) k e = subst (λ (z : Check). Has (Set x 3 z) w.seen) (some-injective f.0 k e) f.1
    at_row a b d f (suc (suc (suc (suc q)))) k e = absurd (some-ne-none k (sym e))

    apart : (a : Other x c w 0) (b : Other x c w 1) (d : Other x c w 2) (f : Other x c w 3) (q : ℕ) (k : Check) → get_elem? (a.0 ∷ b.0 ∷ d.0 ∷ f.0 ∷ []) q ≡ some k → k.class.0 ≢ c
    apart a b d f zero k e = subst (λ (z : Check). z.class.0 ≢ c) (some-injective a.0 k e) a.2
    apart a b d f (suc zero) k e = subst (λ (z : Check). z.class.0 ≢ c) (some-injective b.0 k e) b.2
    apart a b d f (suc (suc zero)) k e = subst (λ (z : Check). z.class.0 ≢ c) (some-injective d.0 k e) d.2
    apart a b d f (suc (suc (suc zero))) k e = subst (λ (z : Check). z.class.0 ≢ c) (some-injective f.0 k e) f.2
    apart a b d f (suc (suc (suc (suc q)))) k e = absurd (some-ne-none k (sym e))

pub is_move : (p : About) (x c k : ℕ) (i i' : Info) (seen : List Seen) → Moved p x c i i' seen → IsMove p x c (change k i i')
is_move p x c k i i' seen m = (m.row, m.move)

nil_end : {A : Type 0} (m : List A) → m ++ [] ≡ m
nil_end [] = refl
nil_end {A} (a ∷ m) = ap (λ (z : List A). a ∷ z) (nil_end m)

pub cached_misses : (x c : ℕ) (s : CallState) (m : List Seen) → s ≡ Cached → Through x c m → MissesBy x c s (m ++ [])
cached_misses x c s m e t = subst (λ (z : CallState). MissesBy x c z (m ++ [])) (sym e) ([], m, nil_end m, t)

pub cached_covers : (x c q : ℕ) (t : Target) (s : CallState) (m : List Seen) → s ≡ Cached → q < 4 → Others x c q m → CoversBy x c s (Set x q (check c t) ∷ m ++ [])
cached_covers x c q t s m e lt o = subst (λ (z : CallState). CoversBy x c z (Set x q (check c t) ∷ m ++ [])) (sym e) (q, t, m ++ [], lt, refl, subst (Others x c q) (sym (nil_end m)) o)

pub cached_explains : (s : CallState) (c : ℕ) → s ≡ Cached → Explains s c
cached_explains s c e = subst (λ (z : CallState). Explains z c) (sym e) tt

pub mega_explains : (s : CallState) (c : ℕ) → s ≡ Mega → Explains s c
mega_explains s c e = subst (λ (z : CallState). Explains z c) (sym e) tt

pub is_cached : (s : CallState) → s ≡ Cached → IsCachedOrMega s
is_cached s e = subst IsCachedOrMega (sym e) tt

-- what was seen before the newest word
pub others_before : (x c n : ℕ) (v w : View) (s : Seen) (m : List Seen) → w ≡ reads v (s ∷ m) → Others x c n m → OthersSeen x c n w
others_before x c n v w s m is o j lt = let r = others_seen x c n v (reads v m) m refl o j lt in (r.0, subst (λ (z : View). Has (Set x j r.0) z.seen) (sym is) (inr r.1), r.2)

-- a state that covers nothing explains nothing, but Cached and Mega
pub not_explained : (s : CallState) (c : ℕ) → ¬ CoversItself s c → s ≢ Cached → s ≢ Mega → ¬ Explains s c
not_explained Unlinked c n _ _ = n
not_explained (Mono a) c n _ _ = n
not_explained (Single lo hi t) c n _ _ = n
not_explained Cached c _ n _ = absurd (n refl)
not_explained Mega c _ _ n = absurd (n refl)

-- the class of a Mono that was seen
pub mono_seen : (p : About) (x k : ℕ) (i : Info) (u : View) → Knows p u → Has (Data x k i) u.seen → MonoSeen p x i.state u
mono_seen p x k i u knows has a e =
    let law = subst (LawfulState (p.at x)) e (lawful_seen p x knows.0 u knows.1 k i has).state in let same = knows.1.sound.same x in
    (omega arith, (k, i, has, e))
