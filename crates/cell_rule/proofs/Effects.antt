-- Each kind of step keeps the rule, and tells what it tells.
use Rattle.std.proofs.Common.{◌≡◌, ◌≢◌, ◌⊎◌, ℕ, ◌+◌, ◌<◌, ◌≤◌, Bool, true, false, IsTrue, List, [], ◌∷◌, ◌++◌, length, set, get_or, sym, refl, ap, ◌∙◌, subst, ⊎_elim, inl, inr, arith, get_or-set_same, get_or-set_other}
use Rattle.std.proofs.lemmas.Bool.Decides.{nat_tests}
use mathlib.Core.Logic.{dite}
use mathlib.Core.Option.{some, some-injective}
use native.Mathlib.Decide.{ℕ_discrete, dec_le}
use lib.ListN.{get_elem?}
use Rattle.atomic_table.proofs.Lists.{at_last, at_longer}
use Rattle.atomic_table.specs.Table.{State, keeps, stepped, Act, Valid, carried_after}
use Rattle.view_sums.proofs.Sums.{here-set}
use Rattle.miss_handler.specs.declared.row.Check.{Check}
use Rattle.miss_handler.specs.declared.state.CallState.{CallState}
use Rattle.miss_handler.specs.declared.state.CallState.TheVariants.{Unlinked, Mono, Single, Cached, Mega}
use Rattle.miss_handler.specs.States.{check, has, IsRight, Explains, Later, IsCachedOrMega, Lawful, MayHave, Move, Reached}
use Rattle.miss_handler.proofs.Orders.{cached_later, later-refl}
use Rattle.miss_handler.proofs.Moves.{move_explains, move_reached, reached_more, reached_few, move_lawful_state, lawful_added}
use Rattle.cell_rule.specs.declared.words.Info.{Info}
use Rattle.cell_rule.specs.declared.words.Entry.{Entry}
use Rattle.cell_rule.specs.declared.view.Seen.TheVariants.{Head, Data, Set, Empty}
use Rattle.cell_rule.specs.declared.view.Asked.{Asked}
use Rattle.cell_rule.specs.declared.view.View.{View}
use Rattle.list_members.specs.Members.{Each, Has}
use Rattle.cell_rule.specs.Words.{IsSmall, data_word, target_word, check_word, entry_of, DataFits, TargetFits, CheckFits}
use Rattle.cell_rule.specs.About.{About, Sound, LawfulInfo}
use Rattle.cell_rule.specs.Histories.{History, Histories, IsHistory, present, Good, Known, Explained, InRange, settled, call, Called, Moved}
use Rattle.cell_rule.specs.Rule.{head_at, data_at, check_at, row_word, Ruled}
use Rattle.cell_rule.specs.Told.{Sat, sees, begins, goes_on, installs, HeadIs, DataIs, WonAs, CheckSeen}
use Rattle.cell_rule.specs.Steps.{OthersSeen}
use Rattle.list_members.proofs.MemberFacts.{each_append, each_has}
use Rattle.cell_rule.proofs.Packs.{data_inj, entry_inj, check_some}
use Rattle.cell_rule.proofs.Rows.{inside, all_at, row_is, filled, word_at, word_else, row_same, none_has, move_over, moved_over, moved_small}
use Rattle.cell_rule.proofs.Growth.{put, put_here, put_else, put_all, data_fits, entry_fits, Grown, grown-refl, view_grows, extended, finished, extended-grown, extended-ok, finished-grown, finished-ok}
use Rattle.cell_rule.proofs.Ruling.{Wider, called, looks, turns, reached_after, checked_after, over_after, shown_after}

rest_explained : (P : Asked → Type 0) (b : Bool) (a : Asked) (l : List Asked) → Each P (settled b (a ∷ l)) → Each P l
rest_explained P true a l h = h
rest_explained P false a l h = h.1

explains_dec : (s : CallState) (c : ℕ) → Dec (Explains s c)
explains_dec Unlinked c = no (λ h. h)
explains_dec (Mono a) c = ℕ_discrete c a.0
explains_dec (Single lo hi t) c = both (dec_le lo.0 c) (dec_le c hi.0)
  where
    both : Dec (lo.0 ≤ c) → Dec (c ≤ hi.0) → Dec ((lo.0 ≤ c) × (c ≤ hi.0))
    both (yes a) (yes b) = yes (a, b)
    both (yes a) (no b) = no (λ h. b h.1)
    both (no a) d = no (λ h. a h.0)
explains_dec Cached c = yes tt
explains_dec Mega c = yes tt

-- a state with n checks that is Cached or Mega may have one more, where there is room
more_room : (s : CallState) (n : ℕ) → IsCachedOrMega s → MayHave s n → n < 4 → s ≡ Cached
more_room Unlinked n c f lt = absurd c
more_room (Mono a) n c f lt = absurd c
more_room (Single lo hi t) n c f lt = absurd c
more_room Cached n c f lt = refl
more_room Mega n c f lt = absurd (omega arith)

few_checks : (s : CallState) (n : ℕ) → MayHave s n → n ≤ 4
few_checks Unlinked n f = omega arith
few_checks (Mono a) n f = omega arith
few_checks (Single lo hi t) n f = omega arith
few_checks Cached n f = f
few_checks Mega n f = omega arith

module _ (p : About) where
  -- ---- what the words of a site can hold

  module _ (s : State (Unit {0}) View) (r : Ruled p s) (x : ℕ) (l : x < p.sites) where
    pub stamp_small : (k : ℕ) → k ≤ (r.h x).top + 1 → k < 65536
    stamp_small k le = let few = (r.good x l).few in let classes = r.sound.few_classes in omega arith

    pub info_fits : (k : ℕ) → k ≤ (r.h x).top → DataFits k ((r.h x).at k)
    info_fits k le = data_fits p r.sound x k ((r.h x).at k) (stamp_small k (omega arith)) ((r.good x l).infos k le)

    pub head_fits : (k : ℕ) → k ≤ (r.h x).top → TargetFits k (entry_of ((r.h x).at k))
    head_fits k le = entry_fits p r.sound x k ((r.h x).at k) (stamp_small k (omega arith)) ((r.good x l).infos k le)

    -- each class that was called is concrete
    pub concrete_called : (c : ℕ) → Called s.views x c → IsTrue ((p.at x).concrete c)
    concrete_called c m = (each_has (InRange p) m.1.asked (call x c) m.3 (r.each_view m.0 m.1 m.2).in_range).1

  -- a check with a class and its target fits the word
  pub right_fits : (x : ℕ) (k : Check) → Sound p → k.class.0 < (p.at x).classes → k.target ≡ (p.at x).resolve k.class.0 → CheckFits k
  right_fits x k sound small is = let few = sound.few_classes in let same = sound.same x in
      record { class = omega arith; target = subst IsSmall (sym is) (sound.small x k.class.0) }

  -- a step that leaves the word i at m, and tells its seat `told`
  abbrev pub Done : State (Unit {0}) View → ℕ → ℕ → Sat → ℕ → (Sat → Type 0) → Type 0
  Done s i id me m told = (w : View) × (a : Act (Unit {0})) × Valid s.homes me.1 a × Ruled p (stepped s i m id me.1 w a) × told (w, carried_after me.1 a)

  module _ (s : State (Unit {0}) View) (r : Ruled p s) (id : ℕ) (me : Sat) (at : get_elem? s.views id ≡ some me.0) (x : ℕ) (l : x < p.sites) (some_share : 0 < me.0.share) where
    -- the present target word is seen, at the start of a call
    pub opens_done : (c : ℕ) → IsTrue ((p.at x).concrete c) → me.0.pending ≡ false
        → Done s (head_at x) id me (get_or s.words (head_at x) 0) (λ m'. (m'.1 ≡ me.1) × HeadIs p x (get_or s.words (head_at x) 0) (begins me.0 (call x c)) m'.0)
    opens_done c concrete closed =
        let t = r.h x in let k : ℕ = t.low in let e : Entry = entry_of (t.at t.low) in let low : t.low ≤ t.top = (r.good x l).behind in let w : View = begins me.0 (call x c) (Head x k e) in let ok = r.each_view id me.0 at in
        let known : Each (Known p r.h) w.seen = ((l, omega arith, refl), ok.known) in
        let explained : Each (Explained r.h) me.0.asked = subst (λ b. Each (Explained r.h) (settled b me.0.asked)) closed ok.explained in (
          w,
          keeps,
          tt,
          looks p s r id me at (head_at x) w record { seen = λ _ h. inr h; asked = λ _ h. inr h; share = refl }
              record { known = known; in_range = ((l, concrete), ok.in_range); explained = explained; spent = λ z. absurd (omega arith) },
          (refl, (k, e, (r.worded x l).head, record { h = r.h; fits = head_fits s r x l t.low low; after = refl; present = refl; learnt = record { sound = r.sound; good = r.good; known = known; explained = explained } })),
        )

    -- the present target word is seen
    pub head_done : Done s (head_at x) id me (get_or s.words (head_at x) 0) (λ m'. (m'.1 ≡ me.1) × HeadIs p x (get_or s.words (head_at x) 0) (goes_on me.0) m'.0)
    head_done =
        let t = r.h x in let k : ℕ = t.low in let e : Entry = entry_of (t.at t.low) in let low : t.low ≤ t.top = (r.good x l).behind in let w : View = goes_on me.0 (Head x k e) in let ok = r.each_view id me.0 at in
        let known : Each (Known p r.h) w.seen = ((l, omega arith, refl), ok.known) in (
          w,
          keeps,
          tt,
          looks p s r id me at (head_at x) w record { seen = λ _ h. inr h; asked = λ _ h. h; share = refl }
              record { known = known; in_range = ok.in_range; explained = ok.explained; spent = λ z. absurd (omega arith) },
          (refl, (k, e, (r.worded x l).head, record { h = r.h; fits = head_fits s r x l t.low low; after = refl; present = refl; learnt = record { sound = r.sound; good = r.good; known = known; explained = ok.explained } })),
        )

    module _ (c : ℕ) (more : List Asked) (current : me.0.asked ≡ call x c ∷ more) where
      -- the present data word is seen
      pub data_done : Done s (data_at x) id me (get_or s.words (data_at x) 0) (λ m'. (m'.1 ≡ me.1) × DataIs p x c (get_or s.words (data_at x) 0) me.0 m'.0)
      data_done =
          let t = r.h x in let k : ℕ = t.top in let i : Info = t.at t.top in let ok = r.each_view id me.0 at in
          let known : Each (Known p r.h) (Data x k i ∷ me.0.seen) = ((l, omega arith, refl), ok.known) in
          by_class (explains_dec i.state c) known
        where
          by_class : Dec (Explains (present (r.h x)) c) → Each (Known p r.h) (Data x (r.h x).top ((r.h x).at (r.h x).top) ∷ me.0.seen)
              → Done s (data_at x) id me (get_or s.words (data_at x) 0) (λ m'. (m'.1 ≡ me.1) × DataIs p x c (get_or s.words (data_at x) 0) me.0 m'.0)
          by_class (yes d) known = let t = r.h x in let k : ℕ = t.top in let i : Info = t.at t.top in let ok = r.each_view id me.0 at in let w : View = sees me.0 (Data x k i) false in
              let old : Each (Explained r.h) (settled me.0.pending (call x c ∷ more)) = subst (λ (z : List Asked). Each (Explained r.h) (settled me.0.pending z)) current ok.explained in
              let explained : Each (Explained r.h) me.0.asked = subst (Each (Explained r.h)) (sym current) (d, rest_explained (Explained r.h) me.0.pending (call x c) more old) in (
                w,
                keeps,
                tt,
                looks p s r id me at (data_at x) w record { seen = λ _ h. inr h; asked = λ _ h. h; share = refl }
                    record { known = known; in_range = ok.in_range; explained = explained; spent = λ z. absurd (omega arith) },
                (refl, (k, i, (r.worded x l).info, record { h = r.h; fits = info_fits s r x l t.top (omega arith); after = inr (d, refl); present = refl; learnt = record { sound = r.sound; good = r.good; known = known; explained = explained } })),
              )
          by_class (no d) known = let t = r.h x in let k : ℕ = t.top in let i : Info = t.at t.top in let ok = r.each_view id me.0 at in let w : View = goes_on me.0 (Data x k i) in (
            w,
            keeps,
            tt,
            looks p s r id me at (data_at x) w record { seen = λ _ h. inr h; asked = λ _ h. h; share = refl }
                record { known = known; in_range = ok.in_range; explained = ok.explained; spent = λ z. absurd (omega arith) },
            (refl, (k, i, (r.worded x l).info, record { h = r.h; fits = info_fits s r x l t.top (omega arith); after = inl (d, refl); present = refl; learnt = record { sound = r.sound; good = r.good; known = known; explained = ok.explained } })),
          )

      -- the transition is one of the present state over its row
      move_here : (k : ℕ) (i i' : Info) → Has (Data x k i) me.0.seen → k ≡ (r.h x).top → Moved p x c i i' me.0.seen → Move (p.at x) (present (r.h x)) (r.h x).row c i'.state
      move_here k i i' has_data top moved =
          let t = r.h x in let ok = r.each_view id me.0 at in
          let old : Known p r.h (Data x k i) = each_has (Known p r.h) me.0.seen (Data x k i) has_data ok.known in
          let is : i ≡ t.at t.top = old.2 ∙ ap t.at top in
          let short = few_checks (present t) (length t.row) (r.good x l).lawful.size in
          move_over (p.at x) (present t) moved.row t.row c i'.state (subst (λ (z : Info). Move (p.at x) z.state moved.row c i'.state) is moved.move)
          (λ _ many. row_same moved.row t.row (let z : 4 ≤ length moved.row = grind (arith, nat_tests) in omega arith)
          (λ q k e. (each_has (Known p r.h) me.0.seen (Set x q k) (moved.checks q k e) ok.known).1))

      -- an advance that wins
      pub advance_done : (k : ℕ) (i i' : Info) (e : Entry) → Has (Head x k e) me.0.seen → Has (Data x k i) me.0.seen → Moved p x c i i' me.0.seen → get_or s.words (data_at x) 0 ≡ data_word k i
          → Done s (data_at x) id me (data_word (k + 1) i') (λ m'. (m'.1 ≡ me.1) × WonAs p x (data_word k i) (data_word (k + 1) i') me.0 m'.0)
      advance_done k i i' e has_head has_data moved found =
          let t = r.h x in let ok = r.each_view id me.0 at in let good = r.good x l in
          let old_data : Known p r.h (Data x k i) = each_has (Known p r.h) me.0.seen (Data x k i) has_data ok.known in
          let old_head : Known p r.h (Head x k e) = each_has (Known p r.h) me.0.seen (Head x k e) has_head ok.known in
          let fits : DataFits k i = subst (DataFits k) (sym old_data.2) (info_fits s r x l k old_data.1) in
          let same = data_inj t.top (t.at t.top) k i (info_fits s r x l t.top (omega arith)) fits (sym (r.worded x l).info ∙ found) in
          let top_is : t.top ≡ k = same.0 in let k_low = old_head.1 in let behind = good.behind in let level : t.low ≡ t.top = omega arith in
          let move : Move (p.at x) (present t) t.row c i'.state = move_here k i i' has_data (sym top_is) moved in
          let mine : InRange p (call x c) = (subst (Each (InRange p)) current ok.in_range).0 in
          let few = r.sound.there x c mine.1 in let same_classes = r.sound.same x in
          let called_now : Called s.views x c = (id, me.0, at, subst (Has (call x c)) (sym current) (inl refl)) in
          let infos = good.infos t.top (omega arith) in
          let reached : Reached (p.at x) (t.top + 1) i'.state (Called s.views x) =
          move_reached (p.at x) (Called s.views x) (concrete_called s r x l) c called_now t.top (present t) t.row i'.state good.lawful.named (r.reached x l t.top (omega arith)) move in
          let small : IsSmall i'.target = subst IsSmall (sym moved.target) (moved_small (p.at x) (present t) t.row c i'.state (r.sound.small x) (subst IsSmall infos.target infos.small) move) in
          let law : LawfulInfo (p.at x) i' = record { state = move_lawful_state (p.at x) (present t) t.row c i'.state good.lawful.named (omega arith) move; target = moved.target; small = small } in
          let bound : t.top + 1 ≤ p.classes + 2 = (let z = reached_few (p.at x) (t.top + 1) i'.state (Called s.views x) law.state reached in omega arith) in
          let t' : History = extended t i' in let h' : Histories = put r.h x t' in let w : View = installs me.0 x (t.top + 1) (t.at t.top) i' in let n : ℕ = data_word (k + 1) i' in let vs : List View = set s.views id w in
          let here : h' x ≡ t' = put_here r.h x t' in let at_new : t'.at (t.top + 1) ≡ i' = put_here t.at (t.top + 1) i' in
          let grown : Grown t t' = extended-grown p x t good c i' move in let history : IsHistory p x t' = extended-ok p x t good c i' move (omega arith) level bound law in
          let grows : (y : ℕ) → Grown (r.h y) (h' y) = put_all (λ y z. Grown (r.h y) z) r.h x t' grown (λ y _. grown-refl (r.h y)) in
          let old = view_grows p r.h h' r.good grows me.0 ok in
          let known : Each (Known p h') w.seen = (subst (λ (z : History). (x < p.sites) × (t.top + 1 ≤ z.top) × (i' ≡ z.at (t.top + 1))) (sym here) (l, omega arith, sym at_new), old.known) in
          let explains : Explained h' (call x c) = subst (λ (z : History). Explains (present z) c) (sym here) (subst (λ (z : Info). Explains z.state c) (sym at_new) (move_explains (p.at x) (present t) t.row c i'.state move)) in
          let others : Each (Explained h') (settled me.0.pending (call x c ∷ more)) = subst (λ (z : List Asked). Each (Explained h') (settled me.0.pending z)) current old.explained in
          let explained : Each (Explained h') me.0.asked = subst (Each (Explained h')) (sym current) (explains, rest_explained (Explained h') me.0.pending (call x c) more others) in
          let wide = r.size in
          let wider : Wider p s r id me at w = record { seen = λ _ h. inr h; asked = λ _ h. h; share = refl } in
          let called_here : Called vs x c = called p s r id me at w wider x c called_now in
          let new_is : n ≡ data_word (t.top + 1) i' = ap (λ (z : ℕ). data_word (z + 1) i') (sym top_is) in
          let good' : Good p h' = put_all (λ y z. y < p.sites → IsHistory p y z) r.h x t' (λ _. history) (λ y _. r.good y) in
          let fits' : DataFits (t.top + 1) i' = data_fits p r.sound x (t.top + 1) i' (stamp_small s r x l (t.top + 1) (omega arith)) law in (
            w,
            keeps,
            tt,
            turns p s r id me at x (data_at x) n t' w l wider grown history (λ e. omega arith)
                record {
                  head = get_or-set_other s.words (data_at x) (head_at x) n 0 (λ e. omega arith) ∙ ((r.worded x l).head ∙ ap (λ (z : Info). target_word t.low (entry_of z)) (sym (put_else t.at (t.top + 1) i' t.low (λ e. omega arith))));
                  info = get_or-set_same s.words (data_at x) n 0 (omega arith) ∙ (new_is ∙ ap (data_word (t.top + 1)) (sym at_new));
                  checks = λ q lt. get_or-set_other s.words (data_at x) (check_at x q) n 0 (λ e. omega arith) ∙ (r.worded x l).checks q lt;
                }
                (λ y other. ((λ e. omega arith), (λ e. other (omega arith)), λ q lt e. omega arith))
                (put_all (λ j z. j ≤ t.top + 1 → Reached (p.at x) j z.state (Called vs x)) t.at (t.top + 1) i'
                (λ _. reached_more (p.at x) (t.top + 1) i'.state (Called s.views x) (Called vs x) (called p s r id me at w wider x) reached) (λ j n le. reached_after p s r id me at w wider x l j (omega arith)))
                (checked_after p s r id me at w wider x l)
                (λ m. (c, called_here, moved_over (p.at x) (present t) t.row c i'.state move (subst (λ (z : Info). z.state ≡ Mega) at_new m)))
                (λ _. (id, w, here-set s.views id me.0 w at, inl (ap (λ (z : Info). Data x (t.top + 1) z) at_new)))
                record { known = known; in_range = ok.in_range; explained = explained; spent = λ z. absurd (omega arith) },
            (refl, (t.top, t.at t.top, i', info_fits s r x l t.top (omega arith), fits', (λ q. data_word (sym same.0 q) (sym same.1 q)), new_is, record { h = h'; after = refl; present = ap (λ (z : History). z.top) here; learnt = record { sound = r.sound; good = good'; known = known; explained = explained } })),
          )

    -- a finish that wins
    pub finish_done : (k : ℕ) (e : Entry) (i : Info) → Has (Head x k e) me.0.seen → Has (Data x (k + 1) i) me.0.seen → get_or s.words (head_at x) 0 ≡ target_word k e
        → Done s (head_at x) id me (target_word (k + 1) (entry_of i)) (λ m'. (m'.1 ≡ me.1) × HeadIs p x (target_word (k + 1) (entry_of i)) (goes_on me.0) m'.0)
    finish_done k e i has_head has_data found =
        let t = r.h x in let ok = r.each_view id me.0 at in let good = r.good x l in
        let old_data : Known p r.h (Data x (k + 1) i) = each_has (Known p r.h) me.0.seen (Data x (k + 1) i) has_data ok.known in
        let old_head : Known p r.h (Head x k e) = each_has (Known p r.h) me.0.seen (Head x k e) has_head ok.known in
        let behind = good.behind in let near = good.near in let a = old_data.1 in let b = old_head.1 in
        let fits : TargetFits k e = subst (TargetFits k) (sym old_head.2) (head_fits s r x l k (omega arith)) in
        let same = entry_inj t.low (entry_of (t.at t.low)) k e (head_fits s r x l t.low behind) fits (sym (r.worded x l).head ∙ found) in
        let low_is : t.low ≡ k = same.0 in let top_is : t.top ≡ k + 1 = omega arith in
        let info_is : i ≡ t.at t.top = old_data.2 ∙ ap t.at (sym top_is) in
        let t' : History = finished t in let h' : Histories = put r.h x t' in let j : ℕ = t.top in let e' : Entry = entry_of (t.at t.top) in let w : View = goes_on me.0 (Head x j e') in let n : ℕ = target_word (k + 1) (entry_of i) in let vs : List View = set s.views id w in
        let here : h' x ≡ t' = put_here r.h x t' in let grown : Grown t t' = finished-grown p x t good in let history : IsHistory p x t' = finished-ok p x t good in
        let grows : (y : ℕ) → Grown (r.h y) (h' y) = put_all (λ y z. Grown (r.h y) z) r.h x t' grown (λ y _. grown-refl (r.h y)) in
        let old = view_grows p r.h h' r.good grows me.0 ok in
        let known : Each (Known p h') w.seen = (subst (λ (z : History). (x < p.sites) × (j ≤ z.low) × (e' ≡ entry_of (z.at j))) (sym here) (l, omega arith, refl), old.known) in
        let wide = r.size in let wider : Wider p s r id me at w = record { seen = λ _ h. inr h; asked = λ _ h. h; share = refl } in
        let new_is : n ≡ target_word j e' = λ q. target_word (sym top_is q) (entry_of (info_is q)) in
        let good' : Good p h' = put_all (λ y z. y < p.sites → IsHistory p y z) r.h x t' (λ _. history) (λ y _. r.good y) in (
          w,
          keeps,
          tt,
          turns p s r id me at x (head_at x) n t' w l wider grown history (λ e. omega arith)
              record {
                head = get_or-set_same s.words (head_at x) n 0 (omega arith) ∙ new_is;
                info = get_or-set_other s.words (head_at x) (data_at x) n 0 (λ q. omega arith) ∙ (r.worded x l).info;
                checks = λ q lt. get_or-set_other s.words (head_at x) (check_at x q) n 0 (λ e. omega arith) ∙ (r.worded x l).checks q lt;
              }
              (λ y other. ((λ q. other (omega arith)), (λ q. omega arith), λ q lt e. omega arith))
              (reached_after p s r id me at w wider x l)
              (checked_after p s r id me at w wider x l)
              (over_after p s r id me at w wider x l)
              (λ ahead. absurd (omega arith))
              record { known = known; in_range = ok.in_range; explained = old.explained; spent = λ z. absurd (omega arith) },
          (refl, (j, e', new_is, record { h = h'; fits = head_fits s r x l j (omega arith); after = refl; present = ap (λ (z : History). z.low) here; learnt = record { sound = r.sound; good = good'; known = known; explained = old.explained } })),
        )

    -- check i is seen
    pub check_done : (i : ℕ) → i < 4 → Done s (check_at x i) id me (get_or s.words (check_at x i) 0) (λ m'. (m'.1 ≡ me.1) × CheckSeen p x i (get_or s.words (check_at x i) 0) me.0 m'.0)
    check_done i lt = by_row (row_is (r.h x).row i)
      where
        by_row : (((k : Check) × (get_elem? (r.h x).row i ≡ some k) × (row_word (r.h x).row i ≡ check_word k)) ⊎ ((row_word (r.h x).row i ≡ 0) × (length (r.h x).row ≤ i)))
            → Done s (check_at x i) id me (get_or s.words (check_at x i) 0) (λ m'. (m'.1 ≡ me.1) × CheckSeen p x i (get_or s.words (check_at x i) 0) me.0 m'.0)
        by_row (inl q) = let k = q.0 in let ok = r.each_view id me.0 at in let w : View = goes_on me.0 (Set x i k) in let known : Each (Known p r.h) w.seen = ((l, q.1), ok.known) in
            let right = all_at (IsRight (p.at x)) (r.h x).row i k (r.good x l).lawful.right q.1 in (
              w,
              keeps,
              tt,
              looks p s r id me at (check_at x i) w record { seen = λ _ h. inr h; asked = λ _ h. h; share = refl } record { known = known; in_range = ok.in_range; explained = ok.explained; spent = λ z. absurd (omega arith) },
              (refl, record { h = r.h; after = inr (k, right_fits x k r.sound right.0 right.1, (r.worded x l).checks i lt ∙ q.2, refl); learnt = record { sound = r.sound; good = r.good; known = known; explained = ok.explained } }),
            )
        by_row (inr q) = let ok = r.each_view id me.0 at in let w : View = goes_on me.0 (Empty x i) in let known : Each (Known p r.h) w.seen = (l, ok.known) in (
          w,
          keeps,
          tt,
          looks p s r id me at (check_at x i) w record { seen = λ _ h. inr h; asked = λ _ h. h; share = refl } record { known = known; in_range = ok.in_range; explained = ok.explained; spent = λ z. absurd (omega arith) },
          (refl, record { h = r.h; after = inl ((r.worded x l).checks i lt ∙ q.0, refl); learnt = record { sound = r.sound; good = r.good; known = known; explained = ok.explained } }),
        )

    -- a claim that wins: the class was called, and the checks before this one have other classes
    pub claim_done : (i c j : ℕ) (d : Info) → i < 4 → Called s.views x c → Has (Data x j d) me.0.seen → IsCachedOrMega d.state → OthersSeen x c i me.0 → get_or s.words (check_at x i) 0 ≡ 0
        → Done s (check_at x i) id me (check_word (check c ((p.at x).resolve c))) (λ m'. (m'.1 ≡ me.1) × CheckSeen p x i (check_word (check c ((p.at x).resolve c))) me.0 m'.0)
    claim_done i c j d lt was_called has_data cached before found =
        let t = r.h x in let ok = r.each_view id me.0 at in let good = r.good x l in let k : Check = check c ((p.at x).resolve c) in let n : ℕ = check_word k in
        let empty : length t.row ≤ i = ⊎_elim (λ (q : (b : Check) × (get_elem? t.row i ≡ some b) × (row_word t.row i ≡ check_word b)). absurd (check_some q.0 (sym q.2 ∙ (sym ((r.worded x l).checks i lt) ∙ found))))
        (λ (q : (row_word t.row i ≡ 0) × (length t.row ≤ i)). q.1) (row_is t.row i) in
        let before_known : (q : ℕ) → q < i → (b : Check) × (get_elem? t.row q ≡ some b) × (b.class.0 ≢ c) = λ q h. (let f = before q h in (f.0, (each_has (Known p r.h) me.0.seen (Set x q f.0) f.1 ok.known).1, f.2)) in
        let len : length t.row ≡ i = filled t.row i empty (λ q h. (let b = before_known q h in (b.0, b.1))) in
        let old_data : Known p r.h (Data x j d) = each_has (Known p r.h) me.0.seen (Data x j d) has_data ok.known in
        let later : Later d.state (present t) = subst (λ (z : Info). Later z.state (present t)) (sym old_data.2) (good.rising j t.top old_data.1 (omega arith)) in
        let is_cached : present t ≡ Cached = more_room (present t) (length t.row) (cached_later d.state (present t) cached later) good.lawful.size (omega arith) in
        let small = r.sound.there x c (concrete_called s r x l c was_called) in let same_classes = r.sound.same x in
        let apart : has t.row c ≡ false = none_has t.row c (λ q b g is. (let lt' = inside t.row q b g in let o = before_known q (omega arith) in o.2 (ap (λ (z : Check). z.class.0) (some-injective o.0 b (sym o.1 ∙ g)) ∙ is))) in
        let row' : List Check = t.row ++ k ∷ [] in
        let law : Lawful (p.at x) (present t) row' = subst (λ (z : CallState). Lawful (p.at x) z row') (sym is_cached) (lawful_added (p.at x) t.row c (subst (λ (z : CallState). Lawful (p.at x) z t.row) is_cached good.lawful) (omega arith) apart (omega arith)) in
        let t' : History = record { top = t.top; low = t.low; at = t.at; row = row' } in let h' : Histories = put r.h x t' in let w : View = goes_on me.0 (Set x i k) in let vs : List View = set s.views id w in
        let here : h' x ≡ t' = put_here r.h x t' in let at_end : get_elem? row' i ≡ some k = at_last t.row k i len in
        let grown : Grown t t' = record { top = omega arith; low = omega arith; same = λ _ _. refl; row = λ q e g. at_longer t.row (k ∷ []) q e g; later = later-refl (present t) } in
        let history : IsHistory p x t' = record { behind = good.behind; near = good.near; few = good.few; infos = good.infos; lawful = law; rising = good.rising } in
        let grows : (y : ℕ) → Grown (r.h y) (h' y) = put_all (λ y z. Grown (r.h y) z) r.h x t' grown (λ y _. grown-refl (r.h y)) in
        let old = view_grows p r.h h' r.good grows me.0 ok in
        let known : Each (Known p h') w.seen = (subst (λ (z : History). (x < p.sites) × (get_elem? z.row i ≡ some k)) (sym here) (l, at_end), old.known) in
        let wide = r.size in let wider : Wider p s r id me at w = record { seen = λ _ h. inr h; asked = λ _ h. h; share = refl } in
        let good' : Good p h' = put_all (λ y z. y < p.sites → IsHistory p y z) r.h x t' (λ _. history) (λ y _. r.good y) in (
          w,
          keeps,
          tt,
          turns p s r id me at x (check_at x i) n t' w l wider grown history (λ e. omega arith)
              record {
                head = get_or-set_other s.words (check_at x i) (head_at x) n 0 (λ e. omega arith) ∙ (r.worded x l).head;
                info = get_or-set_other s.words (check_at x i) (data_at x) n 0 (λ e. omega arith) ∙ (r.worded x l).info;
                checks = λ q h. dite (ℕ_discrete q i)
                    (λ (e : q ≡ i). ap (λ (z : ℕ). get_or (set s.words (check_at x i) n) (check_at x z) 0) e ∙ (get_or-set_same s.words (check_at x i) n 0 (omega arith) ∙ (sym (word_at row' i k at_end) ∙ ap (row_word row') (sym e))))
                    (λ (e : q ≢ i). get_or-set_other s.words (check_at x i) (check_at x q) n 0 (λ z. e (omega arith)) ∙ ((r.worded x l).checks q h ∙ sym (word_else t.row k q (λ z. e (omega arith)))));
              }
              (λ y other. ((λ e. omega arith), (λ e. omega arith), λ q h e. other (omega arith)))
              (reached_after p s r id me at w wider x l)
              (each_append (λ b. Called vs x b.class.0) t.row (k ∷ []) (checked_after p s r id me at w wider x l) (called p s r id me at w wider x c was_called, tt))
              (λ m. let full = subst (λ (z : CallState). MayHave z (length t.row)) m good.lawful.size in absurd (omega arith))
              (shown_after p s r id me at w wider x l)
              record { known = known; in_range = ok.in_range; explained = old.explained; spent = λ z. absurd (omega arith) },
          (refl, record { h = h'; after = inr (k, right_fits x k r.sound (omega arith) refl, refl, refl); learnt = record { sound = r.sound; good = good'; known = known; explained = old.explained } }),
        )
