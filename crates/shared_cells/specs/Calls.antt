-- What a list of calls leaves.
use Rattle.std.specs.Prelude.{◌≡◌, List, [], ◌++◌, reverse, refl}
use Rattle.std.proofs.Common.{sym, ap, ◌∙◌, append_assoc}
use Rattle.std.proofs.lemmas.List.{reverse-append}
use Rattle.cell_rule.specs.declared.view.Seen.{Seen}
use Rattle.cell_rule.specs.declared.view.Asked.{Asked}
use Rattle.cell_rule.specs.declared.view.View.{View}

-- the calls of the list were opened, the newest is first; and nothing that was seen is forgotten
pub record Called (l : List Asked) (v w : View) : Type 0 where
  pub share : w.share ≡ v.share
  pub asked : w.asked ≡ reverse l ++ v.asked
  pub new : List Seen
  pub seen : w.seen ≡ new ++ v.seen

-- no call
pub called_none : (v : View) → Called [] v v
called_none v = record { share = refl; asked = refl; new = []; seen = refl }

-- calls that follow each other
pub called_both : (l m : List Asked) (u v w : View) → Called l u v → Called m v w → Called (l ++ m) u w
called_both l m u v w a b = record {
  share = b.share ∙ a.share;
  asked = b.asked ∙ (ap (λ (z : List Asked). reverse m ++ z) a.asked ∙ (sym (append_assoc (reverse m) (reverse l) u.asked) ∙ ap (λ (z : List Asked). z ++ u.asked) (sym (reverse-append l m))));
  new = b.new ++ a.new;
  seen = b.seen ∙ (ap (λ (z : List Seen). b.new ++ z) a.seen ∙ sym (append_assoc b.new a.new u.seen));
}
