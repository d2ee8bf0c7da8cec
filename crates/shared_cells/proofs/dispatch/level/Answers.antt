use Rattle.std.proofs.Common.{◌≡◌, [], true, sym, refl, ◌∙◌, subst}
use Rattle.shared_cells.specs.Runs.{CoversItself}
use Rattle.miss_handler.specs.declared.state.CallState.TheVariants.{Cached, Mega}
use Rattle.shared_cells.proofs.Names.{call_site, call_class}
use Rattle.shared_cells.proofs.Turns.{levels, level_answers, covered, how_now, covers_by, misses, lawful_seen, target_is, mega_explains, mega_first, not_explained}
use Rattle.shared_cells.proofs.dispatch.level.Goals as goal

cached_mega : Mega ≡ Cached → ⊥
cached_mega e = cc

pub returns-then-at-clause-turned : goal.returns-then-at-clause-turned
returns-then-at-clause-turned g c =
    let p = g.N.Call.about in let x = g.N.Call.site in let k = g.N.Call.class in let i = c.args.info in let u = c.args.seat.now.me.0 in let l = c.requires.looked in
    let cover : CoversItself i.state k = subst (CoversItself i.state) (sym c.requires.named.2) (c.covers_itself.ensures.0 c.if-covers_itself.true) in
    covered p x k _ _ _ _ _ _ i u l _ refl refl (target_is p x k i (lawful_seen p x l.h u l.learnt _ i l.has_data) c.requires.reach.3 cover) cover refl
    ((how_now p x k _ _ _ _ _ _ i u l [] refl (covers_by x k i.state [] cover)).1 c.if-at.true)

pub returns-else-at-clause-turned : goal.returns-else-at-clause-turned
returns-else-at-clause-turned g c =
    let p = g.N.Call.about in let x = g.N.Call.site in let k = g.N.Call.class in let i = c.args.info in let u = c.args.seat.now.me.0 in let l = c.requires.looked in
    let cover : CoversItself i.state k = subst (CoversItself i.state) (sym c.requires.named.2) (c.covers_itself.ensures.0 c.if-covers_itself.true) in
    covered p x k _ _ _ _ _ _ i u l _ refl refl (target_is p x k i (lawful_seen p x l.h u l.learnt _ i l.has_data) c.requires.reach.3 cover) cover refl
    ((how_now p x k _ _ _ _ _ _ i u l [] refl (covers_by x k i.state [] cover)).0 c.if-at.false)

pub returns-then-at-2-clause-turned : goal.returns-then-at-2-clause-turned
returns-then-at-2-clause-turned g c =
    let p = g.N.Call.about in let x = g.N.Call.site in let k = g.N.Call.class in let i = c.args.info in let u = c.args.seat.now.me.0 in let l = c.requires.looked in let n = c.requires.named in
    let right = c.resolve-target.ensures ∙ (λ j. ((sym n.3 j).at (sym n.1 j)).resolve (sym n.2 j)) in
    let not : ¬ CoversItself i.state k = λ z. (let t : c.covers_itself.result ≡ true = c.covers_itself.ensures.1 (subst (CoversItself i.state) n.2 z) in let f = c.if-covers_itself.false in cc) in
    let mega : i.state ≡ Mega = c.if-is_mega.ensures in let v = levels p x k _ _ _ _ _ _ i u l [] u refl refl tt (l.h, l.learnt) (misses x k i.state [] (λ e. cached_mega (sym mega ∙ e)) not) in
    level_answers p x k _ _ _ i _ u v _ refl right refl (mega_explains i.state k mega) ((_, i, v.data_word, mega), tt)

pub returns-else-at-2-clause-turned : goal.returns-else-at-2-clause-turned
returns-else-at-2-clause-turned g c =
    let p = g.N.Call.about in let x = g.N.Call.site in let k = g.N.Call.class in let i = c.args.info in let u = c.args.seat.now.me.0 in let l = c.requires.looked in let n = c.requires.named in
    let right = c.resolve-target.ensures ∙ (λ j. ((sym n.3 j).at (sym n.1 j)).resolve (sym n.2 j)) in
    let not : ¬ CoversItself i.state k = λ z. (let t : c.covers_itself.result ≡ true = c.covers_itself.ensures.1 (subst (CoversItself i.state) n.2 z) in let f = c.if-covers_itself.false in cc) in
    let mega : i.state ≡ Mega = c.if-is_mega.ensures in let v = levels p x k _ _ _ _ _ _ i u l [] u refl refl tt (l.h, l.learnt) (misses x k i.state [] (λ e. cached_mega (sym mega ∙ e)) not) in
    level_answers p x k _ _ _ i _ u v _ refl right refl (mega_explains i.state k mega) ((_, i, v.data_word, mega), mega_first p x k _ _ _ _ _ _ i u l refl mega c.if-at-2.false)

pub moves-requires-clause-level : goal.moves-requires-clause-level
moves-requires-clause-level g c =
    let p = g.N.Call.about in let x = g.N.Call.site in let k = g.N.Call.class in let i = c.args.info in let u = c.args.seat.now.me.0 in let l = c.requires.looked in let n = c.requires.named in
    let not : ¬ CoversItself i.state k = λ z. (let t : c.covers_itself.result ≡ true = c.covers_itself.ensures.1 (subst (CoversItself i.state) n.2 z) in let f = c.if-covers_itself.false in cc) in
    levels p x k _ _ _ _ _ _ i u l [] u refl refl tt (l.h, l.learnt) (misses x k i.state [] c.if-is_cached.ensures not)

pub resolve-target-requires-clause-site : goal.resolve-target-requires-clause-site
resolve-target-requires-clause-site g c = let n = c.requires.named in call_site g.N.Call.about c.args.linked.now g.N.Call.site c.args.site.0 n.3 n.1 c.requires.reach.2

pub resolve-target-requires-clause-class : goal.resolve-target-requires-clause-class
resolve-target-requires-clause-class g c = let n = c.requires.named in call_class g.N.Call.about c.args.linked.now g.N.Call.site g.N.Call.class c.args.class.0 n.3 n.2 c.requires.reach.3

pub moves-requires-clause-unexplained : goal.moves-requires-clause-unexplained
moves-requires-clause-unexplained g c =
    let k = g.N.Call.class in let i = c.args.info in let n = c.requires.named in
    let not : ¬ CoversItself i.state k = λ z. (let t : c.covers_itself.result ≡ true = c.covers_itself.ensures.1 (subst (CoversItself i.state) n.2 z) in let f = c.if-covers_itself.false in cc) in
    not_explained i.state k not c.if-is_cached.ensures c.if-is_mega.ensures
