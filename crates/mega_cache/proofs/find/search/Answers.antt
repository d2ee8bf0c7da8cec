use Rattle.std.proofs.Common.{◌≡◌, ℕ, [], ◌∷◌, get_or, sym, refl, ◌∙◌, ap, subst, arith}
use Rattle.mega_cache.specs.declared.view.Sight.TheVariants.{Root, Taken, Empty}
use Rattle.mega_cache.specs.Places.{window_place}
use Rattle.mega_cache.specs.Region.{word_at}
use Rattle.mega_cache.specs.Told.{saw}
use Rattle.mega_cache.specs.Finds.{SawOthers}
use Rattle.mega_cache.proofs.Reading.{not_full, not_empty}
use Rattle.mega_cache.proofs.Windows.{place_ok, more, window_next, window_before, before_on, stands_on}
use Rattle.mega_cache.proofs.find.search.Goals as goal

pub loop-turn-init : goal.loop-turn-init
loop-turn-init g c = let t = c.load_root-generation.ensures.told in let cost = c.load_root-generation.ensures.cost in record {
  same = c.load_root-generation.ensures.same;
  reach = (c.load_root-generation.ensures.same.0 ∙ c.requires.reach.0, c.requires.reach.1);
  snap = t.0;
  read = (Root g.N.Named.selector c.load_root-generation.result ∷ [], t.2, (refl, refl, refl));
  cost = omega arith;
}

pub load_place-requires-clause-place : goal.load_place-requires-clause-place
load_place-requires-clause-place g c = place_ok g.N.Named.about c.args.class c.load_root-generation.result c.loop-turn.turn c.window_place-place.result c.load_root-generation.ensures.told.1 c.window_place-place.ensures

pub returns-in-None-clause-again : goal.returns-in-None-clause-again
returns-in-None-clause-again g c st =
    let p = g.N.Named.about in let e = g.N.Named.selector in let k = c.args.class in let h = c.load_root-generation.result in let d = c.loop-turn.turn in let i = c.loop-turn.invariant in let told = c.in-None.ensures.told in
    let v = c.args.seat.now.me.0 in let w = c.loop-turn.seat.me.0 in let u = c.load_place.new.seat.me.0 in
    let now = stands_on e k h v u (Empty e c.window_place-place.result ∷ i.read.0) (more v w u i.read.0 (Empty e c.window_place-place.result) i.read.1 told.after.1) st in
    let before : SawOthers e k h d u = before_on e k h d w u _ told.after.1 (window_before e k h d v w i.read.0 i.read.1 i.read.2) in
    not_empty p u told.snap e k h now.0 now.1 now.2 d before (ap (λ (z : ℕ). get_or told.snap.words (word_at p e z) 0) (sym c.window_place-place.ensures) ∙ told.after.0)

pub loop-turn-preserved : goal.loop-turn-preserved
loop-turn-preserved g c =
    let e = g.N.Named.selector in let k = c.args.class in let h = c.load_root-generation.result in let d = c.loop-turn.turn in let i = c.loop-turn.invariant in let told = c.in-Some.ensures.told in let n = c.in-Some.entry.class.0 in
    let v = c.args.seat.now.me.0 in let w = c.loop-turn.seat.me.0 in let u = c.load_place.new.seat.me.0 in let same = c.in-Some.ensures.same in let cost = c.in-Some.ensures.cost in let old = i.cost in
    let is : u ≡ saw w (Taken e (window_place k h d) n) = told.after.1 ∙ ap (λ (z : ℕ). saw w (Taken e z n)) c.window_place-place.ensures in record {
      same = (same.0 ∙ i.same.0, same.1 ∙ i.same.1, same.2 ∙ i.same.2);
      reach = (same.0 ∙ i.reach.0, i.reach.1);
      snap = told.snap;
      read = (Taken e (window_place k h d) n ∷ i.read.0, more v w u i.read.0 (Taken e (window_place k h d) n) i.read.1 is, window_next e k h d n i.read.0 i.read.2 c.if-entry-class.false);
      cost = omega arith;
    }

pub returns-clause-again : goal.returns-clause-again
returns-clause-again g c st =
    let p = g.N.Named.about in let e = g.N.Named.selector in let k = c.args.class in let h = c.load_root-generation.result in let i = c.loop-turn.invariant in let v = c.args.seat.now.me.0 in let w = c.loop-turn.seat.me.0 in
    let now = stands_on e k h v w i.read.0 i.read.1 st in let end : c.loop-turn.turn ≡ 8 = omega arith in
    not_full p w i.snap e k h now.0 now.1 now.2 (subst (λ (z : ℕ). SawOthers e k h z w) end (window_before e k h c.loop-turn.turn v w i.read.0 i.read.1 i.read.2))
