use Rattle.std.proofs.Common.{◌≡◌, ◌<◌, ℕ, List, length, slice_index_or, sym, ap, ◌∙◌, subst, arith, Some}
use Rattle.std.specs.Prelude.{All, option_map}
use Rattle.std.proofs.lemmas.List.Elements.{All-push}
use Rattle.program.specs.declared.ids.ClassId.{ClassId}
use Rattle.program.specs.declared.numbered.Class.{Class}
use Rattle.program.specs.Hierarchy.{Parents, IsPreorder, parent_in, chain}
use Rattle.program.specs.Parts.{parents}
use Rattle.program.specs.Program.{parts_of}
use Rattle.program.proofs.Facts.{order}
use Rattle.program.proofs.Intervals.{before}
use Rattle.isolate_state.proofs.Chains.{number, parent_at, chain_more, chain_less}
use Rattle.isolate_state.proofs.fields.chain_of.Goals as goal

pub loop-at-smaller : goal.loop-at-smaller
loop-at-smaller c =
    let up : Parents = parents c.args.program.now.classes in
    let there = c.loop-at.invariant.there c.in-Some.class c.in-Some.is in
    let parent = ap (λ (cs : List Class). option_map number (slice_index_or cs c.in-Some.class.0 c.index-as_slice-class.result).parent) c.as_slice.ensures
    ∙ parent_at c.args.program.now.classes c.in-Some.class.0 c.index-as_slice-class.result there in
    chain_less up (order (parts_of c.args.program.now) c.args.program.now.sound) c.in-Some.class (option_map number c.loop-at.at) _ (ap (option_map number) c.in-Some.is) parent

pub loop-at-preserved : goal.loop-at-preserved
loop-at-preserved c =
    let up : Parents = parents c.args.program.now.classes in
    let h : IsPreorder up = order (parts_of c.args.program.now) c.args.program.now.sound in
    let there : c.in-Some.class.0 < length c.args.program.now.classes = c.loop-at.invariant.there c.in-Some.class c.in-Some.is in
    let parent = ap (λ (cs : List Class). option_map number (slice_index_or cs c.in-Some.class.0 c.index-as_slice-class.result).parent) c.as_slice.ensures
    ∙ parent_at c.args.program.now.classes c.in-Some.class.0 c.index-as_slice-class.result there in
    record {
      there = λ k is.
          let low : k.0 < c.in-Some.class.0 = before up h c.in-Some.class.0 k.0 (sym parent ∙ ap (option_map number) is) in
          omega (arith, low, there);
      found = subst (All (λ (k : ClassId). k.0 < length c.args.program.now.classes)) (sym c.in_ok-push.ensures.items)
          (All-push (λ (k : ClassId). k.0 < length c.args.program.now.classes) c.loop-at.found.items c.in-Some.class c.loop-at.invariant.found there);
      chain = chain_more up h c.loop-at.found.items c.push.new.self.items c.in-Some.class (option_map number c.loop-at.at) _ (chain up c.args.c.0) (ap (option_map number) c.in-Some.is) parent
          c.in_ok-push.ensures.items c.loop-at.invariant.chain;
    }
