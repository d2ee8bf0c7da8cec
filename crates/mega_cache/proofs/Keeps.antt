-- Each step keeps the rule of the region.
use Rattle.std.proofs.Common.{◌≡◌, ◌≢◌, ◌⊎◌, ℕ, zero, suc, ◌+◌, ◌*◌, ◌<◌, ◌≤◌, ◌==◌, List, [], ◌∷◌, ◌++◌, length, set, get_or, sym, refl, ap, ◌∙◌, subst, ⊎_elim, inl, inr, arith, length-set, get_or-set_same, get_or-set_other, replicate}
use mathlib.Core.Logic.{dite}
use mathlib.Core.Option.{none, some, some-injective, some-ne-none}
use native.Mathlib.Decide.{ℕ_discrete}
use prog.Atomic.{either}
use lib.ListN.{get_elem?, length-replicate}
use lib.Seq.{set-get_or}
use Rattle.atomic_table.proofs.Lists.{exchanged, at_set, at_snoc, set_else}
use Rattle.atomic_table.specs.Table.{State, step, Act, Valid, carried_after, keeps, stepped, Allows, Splits, Joins, opening}
use Rattle.mega_cache.specs.declared.view.Sight.{Sight}
use Rattle.mega_cache.specs.declared.view.Sight.TheVariants.{Root, Taken, Empty}
use Rattle.mega_cache.specs.declared.view.MegaView.{MegaView}
use Rattle.list_members.specs.Members.{Each, Has}
use Rattle.mega_cache.specs.Places.{window_place, InGeneration}
use Rattle.mega_cache.specs.Region.{About, Sound, word_at, width_of, entry_of, root_of, Other, Holds, PlaceOk, IsCrowded, Known, RegionOk, Ruled}
use Rattle.mega_cache.specs.Told.{Sat, saw, RootIs, PlaceIs, root_loaded, root_raised, place_loaded, place_claimed, nothing, same, both}
use Rattle.mega_cache.specs.Finds.{SawOthers}
use Rattle.list_members.proofs.MemberFacts.{each_map, each_has, each_append}
use Rattle.mega_cache.proofs.PlaceLaws.{one_gen, spot_in, spot_some, spot_inside, homes, pack_some, pack_inj, at_inj, at_inside, place_back, some_places}

module _ (p : About) where
  pub entry_inj : (words : List ℕ) → RegionOk p words → (e c c' : ℕ) → entry_of p e c ≡ entry_of p e c' → c ≡ c'
  entry_inj words r e c c' is = (pack_inj c (p.resolve c e) c' (p.resolve c' e) (r.sound.few_methods c e) (r.sound.few_methods c' e) is).0

  -- what was set stays, and no root falls
  pub record Grows (words words' : List ℕ) : Type 0 where
    pub place : (e f m : ℕ) → e < p.selectors → 0 < f → f < width_of p → get_or words (word_at p e f) 0 ≡ m → ¬ (m ≡ 0) → get_or words' (word_at p e f) 0 ≡ m
    pub root : (e : ℕ) → e < p.selectors → root_of p words e ≤ root_of p words' e

  module _ (words words' : List ℕ) (g : Grows words words') where
    spot_stays : (e c h d m : ℕ) → e < p.selectors → h ≤ p.last → get_or words (word_at p e (window_place c h d)) 0 ≡ entry_of p e m → get_or words' (word_at p e (window_place c h d)) 0 ≡ entry_of p e m
    spot_stays e c h d m l le is = g.place e (window_place c h d) (entry_of p e m) l (spot_some c h d) (spot_inside p c h d le) is (pack_some m (p.resolve m e))

    pub holds_stays : (e f : ℕ) → e < p.selectors → 0 < f → f < width_of p → root_of p words e ≤ p.last → Holds p words e f → Holds p words' e f
    holds_stays e f l s t low h = let up = g.root e l in let reached = h.reached in record {
      class = h.class;
      range = h.range;
      word = g.place e f (entry_of p e h.class) l s t h.word (pack_some h.class (p.resolve h.class e));
      gen = h.gen;
      reached = omega arith;
      turn = h.turn;
      near = h.near;
      here = h.here;
      before = λ d lt. (let o = h.before d lt in record { class = o.class; range = o.range; word = spot_stays e h.class h.gen d o.class l (omega arith) o.word; other = o.other });
      home = h.home;
    }

    pub known_stays : (t : Sight) → Known p words t → Known p words' t
    known_stays (Root e h) k = let up = g.root e k.0 in let low = k.1 in (k.0, omega arith)
    known_stays (Taken e f c) k = (k.0, k.1, k.2, k.3, g.place e f (entry_of p e c) k.0 k.1 k.2 k.4 (pack_some c (p.resolve c e)))
    known_stays (Empty e f) k = tt

    pub crowded_stays : (e h : ℕ) → e < p.selectors → h ≤ p.last → IsCrowded p words e h → IsCrowded p words' e h
    crowded_stays e h l le c = (c.0, λ d lt. (let k = c.1 d lt in (k.0, spot_stays e c.0 h d k.0 l le k.1)))

  abbrev Done : State (Unit {0}) MegaView → ℕ → ℕ → Sat → ℕ → (Sat → Type 0) → Type 0
  Done s i id me m told = (w : MegaView) × (a : Act (Unit {0})) × Valid s.homes me.1 a × Ruled p (stepped s i m id me.1 w a) × told (w, carried_after me.1 a)

  each_set : (P : MegaView → Type 0) (views : List MegaView) (id : ℕ) (w : MegaView) → P w → ((j : ℕ) (v : MegaView) → get_elem? views j ≡ some v → P v) → (j : ℕ) (v : MegaView) → get_elem? (set views id w) j ≡ some v → P v
  each_set P views id w mine h j v e = ⊎_elim (λ (t : (j ≡ id) × (w ≡ v)). subst P t.1 mine) (λ (t : (j ≢ id) × (get_elem? views j ≡ some v)). h j v t.1) (at_set views id j w v e)

  module _ (s : State (Unit {0}) MegaView) (r : Ruled p s) (id : ℕ) (me : Sat) (here : get_elem? s.views id ≡ some me.0) (e : ℕ) (le : e < p.selectors) where
    -- no word changes
    looks : (i : ℕ) (w : MegaView) → Each (Known p s.words) w.seen → Ruled p (stepped s i (get_or s.words i 0) id me.1 w keeps)
    looks i w known = subst (λ (ws : List ℕ). Ruled p record { words = ws; homes = s.homes; views = set s.views id w }) (sym (set-get_or s.words i 0))
        record { region = r.region; each_view = each_set (λ v. Each (Known p s.words) v.seen) s.views id w known r.each_view }

    root_done : Done s (word_at p e 0) id me (root_of p s.words e) (λ m'. (m'.1 ≡ me.1) × RootIs p e (root_of p s.words e) me.0 m'.0)
    root_done = let n : ℕ = root_of p s.words e in let w : MegaView = saw me.0 (Root e n) in let known : Each (Known p s.words) w.seen = ((le, omega arith), r.each_view id me.0 here) in
        (w, keeps, tt, looks (word_at p e 0) w known, (refl, record { snap = record { words = s.words; region = r.region; known = known }; word = refl; after = refl }))

    place_done : (f : ℕ) → 0 < f → f < width_of p → Done s (word_at p e f) id me (get_or s.words (word_at p e f) 0) (λ m'. (m'.1 ≡ me.1) × PlaceIs p e f (get_or s.words (word_at p e f) 0) me.0 m'.0)
    place_done f l t = by_place (r.region.places e f le l t)
      where
        by_place : PlaceOk p s.words e f → Done s (word_at p e f) id me (get_or s.words (word_at p e f) 0) (λ m'. (m'.1 ≡ me.1) × PlaceIs p e f (get_or s.words (word_at p e f) 0) me.0 m'.0)
        by_place (inl z) = let w : MegaView = saw me.0 (Empty e f) in let known : Each (Known p s.words) w.seen = (tt, r.each_view id me.0 here) in
            (w, keeps, tt, looks (word_at p e f) w known, (refl, record { snap = record { words = s.words; region = r.region; known = known }; word = refl; after = inl (z, refl) }))
        by_place (inr h) = let w : MegaView = saw me.0 (Taken e f h.class) in let known : Each (Known p s.words) w.seen = ((le, l, t, h.range, h.word), r.each_view id me.0 here) in
            (w, keeps, tt, looks (word_at p e f) w known, (refl, record { snap = record { words = s.words; region = r.region; known = known }; word = refl; after = inr (h.class, h.range, h.word, refl) }))

    -- the places before it are taken by others
    others : (c g d : ℕ) → SawOthers e c g d me.0 → (j : ℕ) → j < d → Other p s.words e (window_place c g j) c
    others c g d before j l = let b = before j l in let k : Known p s.words (Taken e (window_place c g j) b.0) = each_has (Known p s.words) me.0.seen (Taken e (window_place c g j) b.0) b.1 (r.each_view id me.0 here) in
        record { class = b.0; range = k.3; word = k.4; other = b.2 }

    -- in the last generation no other class stands word_at a class's home
    home_free : (c : ℕ) → c < p.classes → Other p s.words e (window_place c p.last 0) c → ⊥
    home_free c small o = ⊎_elim (λ (z : get_or s.words (word_at p e (window_place c p.last 0)) 0 ≡ 0). pack_some o.class (p.resolve o.class e) (sym o.word ∙ z)) (λ (h : Holds p s.words e (window_place c p.last 0)). by_holder h)
        (r.region.places e (window_place c p.last 0) le (spot_some c p.last 0) (spot_inside p c p.last 0 (omega arith)))
      where
        by_holder : Holds p s.words e (window_place c p.last 0) → ⊥
        by_holder h =
            let gen : h.gen ≡ p.last = one_gen h.gen p.last (window_place c p.last 0) (subst (InGeneration h.gen) (sym h.here) (spot_in h.class h.gen h.turn)) (spot_in c p.last 0) in
            let at_home : window_place c p.last 0 ≡ window_place h.class p.last 0 = h.here ∙ (λ j. window_place h.class (gen j) (h.home gen j)) in
            let is : c ≡ h.class = homes p c h.class r.region.sound small h.range at_home in
            let same_class : h.class ≡ o.class = entry_inj s.words r.region e h.class o.class (sym h.word ∙ o.word) in o.other (sym (is ∙ same_class))

    -- a claim that wins
    claim_done : (c g d : ℕ) → c < p.classes → d < 8 → Has (Root e g) me.0.seen ⊎ ((k : ℕ) × (g ≤ k) × Has (Root e k) me.0.seen) → SawOthers e c g d me.0 → get_or s.words (word_at p e (window_place c g d)) 0 ≡ 0
        → Done s (word_at p e (window_place c g d)) id me (entry_of p e c) (λ m'. (m'.1 ≡ me.1) × PlaceIs p e (window_place c g d) (entry_of p e c) me.0 m'.0)
    claim_done c g d small near root before empty =
        let f : ℕ = window_place c g d in let i : ℕ = word_at p e f in let n : ℕ = entry_of p e c in let words' : List ℕ = set s.words i n in let q = r.region in let mine = r.each_view id me.0 here in let w : MegaView = saw me.0 (Taken e f c) in
        let reached : g ≤ root_of p s.words e = ⊎_elim (λ (h : Has (Root e g) me.0.seen). (each_has (Known p s.words) me.0.seen (Root e g) h mine).1)
        (λ (h : (k : ℕ) × (g ≤ k) × Has (Root e k) me.0.seen). let a = (each_has (Known p s.words) me.0.seen (Root e h.0) h.2 mine).1 in let b = h.1 in omega arith) root in
        let low = (q.roots e le).within in let some = spot_some c g d in let in_it = spot_inside p c g d (omega arith) in
        let inside : i < length s.words = subst (λ (z : ℕ). i < z) (sym q.size) (at_inside p e f le in_it) in
        let word : get_or words' i 0 ≡ n = get_or-set_same s.words i n 0 inside in
        let root_same : (e' : ℕ) → root_of p words' e' ≡ root_of p s.words e' = λ e'. get_or-set_other s.words i (word_at p e' 0) n 0 (λ x. let z = (at_inj p e' 0 e f (some_places p) in_it x).1 in omega arith) in
        let grows : Grows s.words words' = record {
          place = λ e' f' m l a b is some_word. get_or-set_other s.words i (word_at p e' f') n 0 (λ x. some_word (sym is ∙ (ap (λ (z : ℕ). get_or s.words z 0) x ∙ empty))) ∙ is;
          root = λ e' l. let z = root_same e' in omega arith;
        } in
        let other : (j : ℕ) → j < d → Other p words' e (window_place c g j) c = λ j l. (let o = others c g d before j l in record { class = o.class; range = o.range; word = spot_stays s.words words' grows e c g j o.class le (omega arith) o.word; other = o.other }) in
        let held : Holds p words' e f = record {
          class = c;
          range = small;
          word = word;
          gen = g;
          reached = let z = root_same e in omega arith;
          turn = d;
          near = near;
          here = refl;
          before = other;
          home = λ is. at_home d is (others c g d before);
        } in
        let known : Each (Known p words') w.seen = ((le, some, in_it, small, word), each_map (Known p s.words) (Known p words') me.0.seen (known_stays s.words words' grows) mine) in
        let region : RegionOk p words' = record {
          sound = q.sound;
          size = length-set s.words i n ∙ q.size;
          roots = λ e' l. (let o = q.roots e' l in let z = root_same e' in let w' = o.within in record { within = omega arith; crowded = λ h lt. crowded_stays s.words words' grows e' h l (omega arith) (o.crowded h (omega arith)) });
          places = λ e' f' l a b. dite (ℕ_discrete (word_at p e' f') i)
              (λ (same : word_at p e' f' ≡ i). let eq = at_inj p e' f' e f b in_it same in inr (subst (λ (z : ℕ × ℕ). Holds p words' z.0 z.1) (λ k. (sym eq.0 k, sym eq.1 k)) held))
              (λ (apart : word_at p e' f' ≢ i). ⊎_elim (λ (z : get_or s.words (word_at p e' f') 0 ≡ 0). inl (get_or-set_other s.words i (word_at p e' f') n 0 apart ∙ z)) (λ (z : Holds p s.words e' f'). inr (holds_stays s.words words' grows e' f' l a b (q.roots e' l).within z)) (q.places e' f' l a b));
        } in (
          w,
          keeps,
          tt,
          record { region = region; each_view = each_set (λ v. Each (Known p words') v.seen) s.views id w known (λ j v h. each_map (Known p s.words) (Known p words') v.seen (known_stays s.words words' grows) (r.each_view j v h)) },
          (refl, record { snap = record { words = words'; region = region; known = known }; word = word; after = inr (c, small, refl, refl) }),
        )
      where
        at_home : (d : ℕ) → g ≡ p.last → ((j : ℕ) → j < d → Other p s.words e (window_place c g j) c) → d ≡ 0
        at_home zero is o = refl
        at_home (suc d) is o = absurd (home_free c small (subst (λ (z : ℕ). Other p s.words e (window_place c z 0) c) is (o 0 (omega arith))))

    -- a raise that wins
    raise_done : (c g : ℕ) → c < p.classes → SawOthers e c g 8 me.0 → root_of p s.words e ≡ g → Done s (word_at p e 0) id me (g + 1) (λ m'. (m'.1 ≡ me.1) × RootIs p e (g + 1) me.0 m'.0)
    raise_done c g small before is =
        let i : ℕ = word_at p e 0 in let n : ℕ = g + 1 in let words' : List ℕ = set s.words i n in let q = r.region in let mine = r.each_view id me.0 here in let w : MegaView = saw me.0 (Root e n) in
        let low = (q.roots e le).within in
        let not_last : g ≢ p.last = λ z. home_free c small (subst (λ (y : ℕ). Other p s.words e (window_place c y 0) c) z (others c g 8 before 0 (omega arith))) in
        let inside : i < length s.words = subst (λ (z : ℕ). i < z) (sym q.size) (at_inside p e 0 le (some_places p)) in
        let word : get_or words' i 0 ≡ n = get_or-set_same s.words i n 0 inside in
        let place_same : (e' f' : ℕ) → 0 < f' → f' < width_of p → get_or words' (word_at p e' f') 0 ≡ get_or s.words (word_at p e' f') 0 = λ e' f' a b. get_or-set_other s.words i (word_at p e' f') n 0 (λ x. let z = (at_inj p e' f' e 0 b (some_places p) x).1 in omega arith) in
        let root_here : (e' : ℕ) → Dec (e' ≡ e) → (root_of p words' e' ≡ root_of p s.words e') ⊎ ((e' ≡ e) × (root_of p words' e' ≡ g + 1)) = λ e' d. dite d (λ (z : e' ≡ e). inr (z, ap (root_of p words') z ∙ word))
        (λ (z : e' ≢ e). inl (get_or-set_other s.words i (word_at p e' 0) n 0 (λ x. z (at_inj p e' 0 e 0 (some_places p) (some_places p) x).0))) in
        let grows : Grows s.words words' = record {
          place = λ e' f' m l a b at_it some_word. place_same e' f' a b ∙ at_it;
          root = λ e' l. ⊎_elim (λ (z : root_of p words' e' ≡ root_of p s.words e'). omega arith) (λ (z : (e' ≡ e) × (root_of p words' e' ≡ g + 1)). let a = z.1 in let b = ap (root_of p s.words) z.0 in omega arith) (root_here e' (ℕ_discrete e' e));
        } in
        let full : IsCrowded p s.words e g = (c, λ d lt. (let o = others c g 8 before d lt in (o.class, o.word))) in
        let known : Each (Known p words') w.seen = ((le, (let z = word in omega arith)), each_map (Known p s.words) (Known p words') me.0.seen (known_stays s.words words' grows) mine) in
        let crowd : (e' : ℕ) → e' < p.selectors → (h : ℕ) → h < root_of p words' e' → IsCrowded p s.words e' h = λ e' l h lt. ⊎_elim (λ (z : root_of p words' e' ≡ root_of p s.words e'). (q.roots e' l).crowded h (omega arith))
        (λ (z : (e' ≡ e) × (root_of p words' e' ≡ g + 1)). let a = z.1 in dite (ℕ_discrete h g) (λ (y : h ≡ g). subst (λ (t : ℕ × ℕ). IsCrowded p s.words t.0 t.1) (λ k. (sym z.0 k, sym y k)) full)
        (λ (y : h ≢ g). let b = ap (root_of p s.words) z.0 in (q.roots e' l).crowded h (omega arith))) (root_here e' (ℕ_discrete e' e)) in
        let within : (e' : ℕ) → e' < p.selectors → root_of p words' e' ≤ p.last = λ e' l. ⊎_elim (λ (z : root_of p words' e' ≡ root_of p s.words e'). let a = (q.roots e' l).within in omega arith) (λ (z : (e' ≡ e) × (root_of p words' e' ≡ g + 1)). let a = z.1 in omega arith) (root_here e' (ℕ_discrete e' e)) in
        let region : RegionOk p words' = record {
          sound = q.sound;
          size = length-set s.words i n ∙ q.size;
          roots = λ e' l. record { within = within e' l; crowded = λ h lt. (let a = within e' l in crowded_stays s.words words' grows e' h l (omega arith) (crowd e' l h lt)) };
          places = λ e' f' l a b. ⊎_elim (λ (z : get_or s.words (word_at p e' f') 0 ≡ 0). inl (place_same e' f' a b ∙ z)) (λ (z : Holds p s.words e' f'). inr (holds_stays s.words words' grows e' f' l a b (q.roots e' l).within z)) (q.places e' f' l a b);
        } in (
          w,
          keeps,
          tt,
          record { region = region; each_view = each_set (λ v. Each (Known p words') v.seen) s.views id w known (λ j v h. each_map (Known p s.words) (Known p words') v.seen (known_stays s.words words' grows) (r.each_view j v h)) },
          (refl, record { snap = record { words = words'; region = region; known = known }; word = word; after = refl }),
        )

  pub root_keeps : (slots id : ℕ) (me : Sat) (e : ℕ) → e < p.selectors → Allows (Ruled p) slots id me (word_at p e 0) (λ n. n) (root_loaded p e (step slots (word_at p e 0) 0 0 none) me)
  root_keeps slots id me e le s r _ here _ = root_done s r id me here e le

  pub load_keeps : (slots id : ℕ) (me : Sat) (e f : ℕ) → e < p.selectors → 0 < f → f < width_of p → Allows (Ruled p) slots id me (word_at p e f) (λ n. n) (place_loaded p e (step slots (word_at p e f) 0 0 none) me)
  load_keeps slots id me e f le l t s r _ here _ =
      subst (λ (z : ℕ). Done s (word_at p e f) id me (get_or s.words (word_at p e f) 0) (λ m'. (m'.1 ≡ me.1) × PlaceIs p e z (get_or s.words (word_at p e f) 0) me.0 m'.0)) (sym (place_back p e f)) (place_done s r id me here e le f l t)

  pub claim_keeps : (slots id : ℕ) (me : Sat) (e c g d : ℕ) → e < p.selectors → c < p.classes → d < 8 → g ≤ p.last → Has (Root e g) me.0.seen → SawOthers e c g d me.0
      → Allows (Ruled p) slots id me (word_at p e (window_place c g d)) (λ n. either (n == 0) (entry_of p e c) n) (place_claimed p e (step slots (word_at p e (window_place c g d)) 0 (entry_of p e c) none) me)
  claim_keeps slots id me e c g d le small near low root before s r _ here _ =
      let f : ℕ = window_place c g d in let n : ℕ = get_or s.words (word_at p e f) 0 in let new : ℕ = entry_of p e c in let back = sym (place_back p e f) in
      exchanged n 0 new (λ m. Done s (word_at p e f) id me m (place_claimed p e (step slots (word_at p e f) 0 new none) me n))
      (λ hit. let z = claim_done s r id me here e le c g d small near (inl root) before hit in (z.0, z.1, z.2, z.3, (z.4.0, (λ _. subst (λ (y : ℕ). PlaceIs p e y new me.0 z.0) back z.4.1), λ not. absurd (not hit))))
      (λ miss. let z = place_done s r id me here e le f (spot_some c g d) (spot_inside p c g d low) in (z.0, z.1, z.2, z.3, (z.4.0, (λ hit. absurd (miss hit)), λ _. subst (λ (y : ℕ). PlaceIs p e y n me.0 z.0) back z.4.1)))

  pub raise_keeps : (slots id : ℕ) (me : Sat) (e c g : ℕ) → e < p.selectors → c < p.classes → SawOthers e c g 8 me.0 → Allows (Ruled p) slots id me (word_at p e 0) (λ n. either (n == g) (g + 1) n) (root_raised p e (step slots (word_at p e 0) g (g + 1) none) me)
  raise_keeps slots id me e c g le small before s r _ here _ =
      let n : ℕ = get_or s.words (word_at p e 0) 0 in
      exchanged n g (g + 1) (λ m. Done s (word_at p e 0) id me m (root_raised p e (step slots (word_at p e 0) g (g + 1) none) me n))
      (λ hit. let z = raise_done s r id me here e le c g small before hit in (z.0, z.1, z.2, z.3, (z.4.0, (λ _. z.4.1), λ not. absurd (not hit))))
      (λ miss. let z = root_done s r id me here e le in (z.0, z.1, z.2, z.3, (z.4.0, (λ hit. absurd (miss hit)), λ _. z.4.1)))

  each_snoc : (P : MegaView → Type 0) (views : List MegaView) (w : MegaView) → P w → ((j : ℕ) (v : MegaView) → get_elem? views j ≡ some v → P v) → (j : ℕ) (v : MegaView) → get_elem? (views ++ w ∷ []) j ≡ some v → P v
  each_snoc P views w mine h j v e = ⊎_elim (h j v) (λ (t : w ≡ v). subst P t mine) (at_snoc views w v j e)

  pub splits_keep : (id : ℕ) (v : MegaView) → Splits (Ruled p) id v (same v) (same v)
  splits_keep id v s r here = let known = r.each_view id v here in
      record { region = r.region; each_view = each_snoc (λ u. Each (Known p s.words) u.seen) (set s.views id v) v known (each_set (λ u. Each (Known p s.words) u.seen) s.views id v known r.each_view) }

  pub joins_keep : (id : ℕ) (v : MegaView) (other : ℕ) (w : MegaView) → Joins (Ruled p) id v other w (both v w) nothing
  joins_keep id v other w s r here apart there =
      let P : MegaView → Type 0 = λ u. Each (Known p s.words) u.seen in
      let mine : P (both v w) = each_append (Known p s.words) v.seen w.seen (r.each_view id v here) (r.each_view other w (sym (set_else s.views id other (both v w) apart) ∙ there)) in
      record { region = r.region; each_view = each_set P (set s.views id (both v w)) other nothing tt (each_set P s.views id (both v w) mine r.each_view) }

-- ---- the start

module _ (p : About) where
  zeros : (n i : ℕ) → get_or {A = ℕ} (replicate n 0) i 0 ≡ 0
  zeros zero i = refl
  zeros (suc n) zero = refl
  zeros (suc n) (suc i) = zeros n i

  -- all words are 0
  pub starts : (n : ℕ) → Sound p → n ≡ 1 + p.selectors * width_of p → Ruled p (opening (replicate n 0) [] nothing)
  starts n sound size = let zero_at : (i : ℕ) → get_or {A = ℕ} (replicate n 0) i 0 ≡ 0 = zeros n in record {
    region = record {
      sound = sound;
      size = length-replicate n 0 ∙ size;
      roots = λ e l. (let z = zero_at (word_at p e 0) in record { within = omega arith; crowded = λ g lt. absurd (omega arith) });
      places = λ e f l a b. inl (zero_at (word_at p e f));
    };
    each_view = λ j v e. subst (λ (u : MegaView). Each (Known p (replicate n 0)) u.seen) (at_only nothing j v e) tt;
  }
    where
      at_only : (a : MegaView) (i : ℕ) (b : MegaView) → get_elem? (a ∷ []) i ≡ some b → a ≡ b
      at_only a zero b e = some-injective a b e
      at_only a (suc i) b e = absurd (some-ne-none b (sym e))
