use Rattle.std.proofs.Common.{◌≡◌, ◌||◌, ◌+◌, ◌<◌, ℕ, Bool, List, length, ap, sym, ◌∙◌, drop, get_or}
use Rattle.std.specs.Prelude.{flat_map}
use Rattle.std.specs.List.{list_any}
use Rattle.std.proofs.lemmas.List.{drop_more}
use Rattle.std.proofs.lemmas.List.Folds.{list_any-append}
use Rattle.dart_syntax.specs.Bytes.{Text}
use Rattle.class_chains.specs.declared.reaching.Reached.{Reached}
use Rattle.class_chains.specs.Ranking.{above_of, texts}
use Rattle.declaration_rules.specs.Finding.{found_in}
use Rattle.class_chains.proofs.Steps.{or_three}
use Rattle.class_chains.proofs.reaching.next_level.Goals as goal

level_more : (above : Text → List Text) (level : List Reached) (i : ℕ) (d : Reached) (t : Text) (p : Text → Bool) (old new whole : Bool) → i < length level → t ≡ (get_or level i d).text.now
    → new ≡ (old || list_any p (above t)) → (old || list_any p (flat_map above (texts (drop i level)))) ≡ whole → (new || list_any p (flat_map above (texts (drop (i + 1) level)))) ≡ whole
level_more above level i d t p old new whole lt is step was =
    let x = get_or level i d in
    let rest = flat_map above (texts (drop (i + 1) level)) in
    ap (λ b. b || list_any p rest) (step ∙ ap (λ u. old || list_any p (above u)) is)
    ∙ or_three old (list_any p (above x.text.now)) (list_any p rest)
    ∙ ap (λ b. old || b) (sym (list_any-append p (above x.text.now) rest))
    ∙ sym (ap (λ xs. old || list_any p (flat_map above (texts xs))) (drop_more level i d lt))
    ∙ was

pub loop-i-preserved : goal.loop-i-preserved
loop-i-preserved c =
    record {
      each = c.in_ok-add_above.ensures.each;
      any = λ p.
          level_more (above_of (found_in c.args.known.now)) c.args.level.now c.loop-i.i _ c.bytes_of.result.now p (list_any p (texts c.loop-i.next.names.items)) _ _ c.loop-i-test.true
          c.bytes_of.ensures (c.in_ok-add_above.ensures.any p) (c.loop-i.invariant.any p);
    }
