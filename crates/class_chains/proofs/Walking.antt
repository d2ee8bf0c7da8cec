-- Steps of the walk down.
use Rattle.std.proofs.Common.{◌≡◌, ◌<◌, ◌+◌, ◌-◌, ℕ, true, None, Some, map, refl, sym, ◌∙◌, ap, arith}
use Rattle.std.specs.Prelude.{filter_map}
use Rattle.std.specs.List.{slice_get}
use Rattle.std.specs.Borrow.{Bor}
use Rattle.dart_syntax.specs.declared.tree.ClassDecl as src
use Rattle.dart_syntax.specs.Bytes.{Text}
use Rattle.dart_meaning.specs.Classes.{object, parent_of}
use Rattle.static_rules.specs.Places.{Fault}
use Rattle.declaration_rules.specs.Seen.{class_of}
use Rattle.class_chains.specs.declared.chains.Chains.{Chains}
use Rattle.class_chains.specs.declared.nearest.Nearest.{Nearest}
use Rattle.class_chains.specs.declared.descent.Step.{Step}
use Rattle.class_chains.specs.Overriding.{find_in, from_up, built_in_by, overrides_by, overrides_of}
use Rattle.class_chains.specs.Descending.{counted, own_or, saved, before_of, put_all, ends, IsNearest, IsStep, IsPlace}
use Rattle.class_chains.proofs.Descending.{above_is, down_counts, down_ends, up_counts, up_ends, object_counts, object_ends}
use Rattle.class_chains.proofs.Numbers.{some_inj}

less_is : (h m n : ℕ) → n ≡ h → h < m → n < m
less_is h m n is lt = omega arith

one_up : (h m n : ℕ) → n ≡ h - 1 → h < m → n < m
one_up h m n is lt = omega arith

module _ (k : Chains) where
  abbrev name_of : Bor src.ClassDecl → Text
  name_of c = c.now.name.text

  abbrev IsAbove : Text → Text → Type 0
  IsAbove class up = parent_of (find_in k class) class ≡ Some up

  -- what counts at a class tells what its methods override
  pub place_found : (n : Nearest) (number : ℕ) (c : Bor src.ClassDecl) (at : Fault) → IsNearest k n → IsAbove (name_of c) n.class.now → Some c ≡ slice_get k.all.items number → at ≡ overrides_by (counted n.counts) (class_of c) → IsPlace k number at
  place_found n number c at near some is here = λ d there.
      here ∙ ap (λ f. overrides_by f (class_of c)) (near.counts ∙ sym (above_is k (name_of c) n.class.now some))
      ∙ ap (λ e. overrides_of k (class_of e)) (some_inj c d (is ∙ there))

  pub gone_down : (old new : Nearest) (c : Bor src.ClassDecl) → IsNearest k old → IsAbove (name_of c) old.class.now → find_in k (name_of c) ≡ Some (class_of c) → old.height + 1 < k.most
      → counted new.counts ≡ own_or (class_of c).members (counted old.counts) → new.class.now ≡ name_of c → new.height ≡ old.height + 1 → IsNearest k new
  gone_down old new c near some named less now class_is height_is = record {
    counts = down_counts k (name_of c) old.class.now some (class_of c) old.height (counted old.counts) (counted new.counts) named near.ends near.less near.counts now ∙ ap (from_up k) (sym class_is);
    ends = ap (λ t. ends (find_in k) new.height t) class_is ∙ ap (λ h. ends (find_in k) h (name_of c)) height_is ∙ down_ends k (name_of c) old.class.now some old.height near.ends;
    less = less_is (old.height + 1) k.most new.height height_is less;
  }

  pub step_down : (n : Nearest) (s : Step) → IsNearest k n → IsAbove (name_of s.class) n.class.now → find_in k (name_of s.class) ≡ Some (class_of s.class) → map before_of s.was.items ≡ filter_map (saved (counted n.counts)) (class_of s.class).members → IsStep k s
  step_down n s near some named was = record {
    named = named;
    was = was ∙ ap (λ f. filter_map (saved f) (class_of s.class).members) (near.counts ∙ sym (above_is k (name_of s.class) n.class.now some));
  }

  pub gone_up : (old new : Nearest) (s : Step) (up : Text) → IsNearest k old → IsStep k s → name_of s.class ≡ old.class.now → IsAbove (name_of s.class) up
      → counted new.counts ≡ put_all (map before_of s.was.items) (counted old.counts) → new.class.now ≡ up → new.height ≡ old.height - 1 → IsNearest k new
  gone_up old new s up near step here some now class_is height_is =
      let at : ends (find_in k) old.height (name_of s.class) ≡ true = ap (λ t. ends (find_in k) old.height t) here ∙ near.ends in
      let above : ends (find_in k) (old.height - 1) up ≡ true = up_ends k (name_of s.class) up some old.height at in
      record {
        counts = up_counts k (name_of s.class) up (class_of s.class) (old.height - 1) (map before_of s.was.items) (counted old.counts) (counted new.counts) some step.named above (one_up old.height k.most (old.height - 1) refl near.less) step.was (near.counts ∙ ap (from_up k) (sym here)) now ∙ ap (from_up k) (sym class_is);
        ends = ap (λ t. ends (find_in k) new.height t) class_is ∙ ap (λ h. ends (find_in k) h up) height_is ∙ above;
        less = one_up old.height k.most new.height height_is near.less;
      }

  pub begun : (n : Nearest) → find_in k object ≡ None → 1 < k.most → ((q : Text) → counted n.counts q ≡ built_in_by k.built_in.now.classes k.built_in.now.methods object q) → n.class.now ≡ object → n.height ≡ 1 → IsNearest k n
  begun n none less each class_is height_is = record {
    counts = object_counts k (counted n.counts) none less each ∙ ap (from_up k) (sym class_is);
    ends = ap (λ t. ends (find_in k) n.height t) class_is ∙ ap (λ h. ends (find_in k) h object) height_is ∙ object_ends k none;
    less = less_is 1 k.most n.height height_is less;
  }
