-- The numbers of each program fit the words.
use Rattle.std.proofs.Common.{◌≡◌, ℕ, zero, suc, ◌<◌, ◌≤◌, true, false, List, [], ◌∷◌, length, IsTrue, slice_get, Option, None, Some, option_and_then, if◌then◌else◌, refl, arith}
use Rattle.std.proofs.lemmas.Option.{slice_get_within}
use Rattle.program.specs.declared.numbered.Class.{Class}
use Rattle.program.specs.declared.numbered.Method.{Method}
use Rattle.program.specs.declared.numbered.SelectorKind.{SelectorKind}
use Rattle.program.specs.Parts.{Parts, is_concrete}
use Rattle.program.specs.Program.{parts_of}
use Rattle.program.specs.Lookup.{accepts, if_accepts, first_declared, found, found_by, lookup, no_such_method, target_or, resolve}
use Rattle.program.proofs.Facts.{few_classes, few_methods, few_sites}
use Rattle.method_lookup.specs.declared.linked.Linked.{Linked}
use Rattle.miss_handler.specs.Sites.{receivers, selector_of}
use Rattle.cell_rule.specs.Words.{IsSmall}
use Rattle.cell_rule.specs.About.{about_of, Sound}

concrete_there : (cs : List Class) (c : ℕ) → IsTrue (is_concrete cs c) → c < length cs
concrete_there [] c h = absurd cc
concrete_there (k ∷ cs) zero h = omega arith
concrete_there (k ∷ cs) (suc c) h = omega (arith, concrete_there cs c h)

-- none, or a number that fits its field
abbrev Fits : Option ℕ → Type 0
Fits None = Unit {0}
Fits (Some m) = m < 32768

then_fits : {A : Type 0} (f : A → Option ℕ) → ((a : A) → Fits (f a)) → (o : Option A) → Fits (option_and_then f o)
then_fits f h None = tt
then_fits f h (Some a) = h a

accepted_fits : (methods : List Method) (count m : ℕ) → length methods ≤ 32767 → (o : Option Method) → slice_get methods m ≡ o → Fits (if_accepts count m o)
accepted_fits methods count m few None e = tt
accepted_fits methods count m few (Some k) e =
    elim (accepts count k) as (λ b. Fits (if b then Some m else None)) [ true ↦ (let z = slice_get_within methods m k e in omega arith) | false ↦ tt ]

module _ (p : Parts) (few : length p.methods ≤ 32767) where
  found_fits : (c : ℕ) (kind : SelectorKind) (name : List ℕ) (count : ℕ) → Fits (found p c kind name count)
  found_fits c kind name count = then_fits (λ m. if_accepts count m (slice_get p.methods m)) (λ m. accepted_fits p.methods count m few (slice_get p.methods m) refl) (first_declared p.methods kind name _)

  lookup_fits : (c s : ℕ) → Fits (lookup p c s)
  unfolding lookup
  lookup_fits c s = then_fits (found_by p c) (λ sel. found_fits c sel.kind sel.name sel.count) (slice_get p.selectors s)

  missing_fits : (c : ℕ) → Fits (no_such_method p c)
  unfolding no_such_method
  missing_fits c = found_fits c _ _ _

  target_fits : (o missing : Option ℕ) → Fits o → Fits missing → IsSmall (target_or o missing)
  target_fits (Some m) missing f g = f
  target_fits None None f g = omega arith
  target_fits None (Some m) f g = g

  resolve_small : (c s : ℕ) → IsSmall (resolve p c s)
  unfolding resolve
  resolve_small c s = target_fits (lookup p c s) (no_such_method p c) (lookup_fits c s) (missing_fits c)

pub sound_of : (linked : Linked) → Sound (about_of linked)
unfolding receivers
sound_of linked = let p : Parts = parts_of linked.program in let sound = linked.program.sound in record {
  few_classes = few_classes p sound;
  few_sites = few_sites p sound;
  same = λ x. refl;
  there = λ x c h. concrete_there p.classes c h;
  small = λ x c. resolve_small p (few_methods p sound) c (selector_of p.sites x);
}
