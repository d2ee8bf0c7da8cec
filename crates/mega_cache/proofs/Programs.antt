-- What the rule of the table asks of a program holds of each.
use Rattle.std.proofs.Common.{◌≡◌, ℕ, zero, suc, ◌+◌, ◌-◌, ◌*◌, ◌<◌, ◌≤◌, Bool, true, false, nat_le, if◌then◌else◌, List, length, slice_get, Option, None, Some, option_and_then, refl, sym, ap, ◌∙◌, subst, arith, codes}
use Rattle.std.proofs.lemmas.Bool.{leb-true, le-leb}
use Rattle.std.proofs.lemmas.Bool.Decides.{nat_tests}
use Rattle.std.proofs.lemmas.Option.{slice_get_within}
use Rattle.program.specs.declared.numbered.Method.{Method}
use Rattle.program.specs.declared.numbered.SelectorKind.{SelectorKind}
use Rattle.program.specs.declared.numbered.SelectorKind.TheVariants.{Call}
use Rattle.program.specs.declared.numbered.Selector.{Selector}
use Rattle.program.specs.Hierarchy.{chain}
use Rattle.program.specs.Parts.{Parts, parents}
use Rattle.program.specs.Program.{parts_of}
use Rattle.program.specs.Lookup.{accepts, if_accepts, first_declared, found, found_by, lookup, no_such_method, target_or, resolve}
use Rattle.program.proofs.Facts.{few_classes, few_methods}
use Rattle.method_lookup.specs.declared.linked.Linked.{Linked}
use Rattle.mega_cache.specs.Entries.{method_of}
use Rattle.mega_cache.specs.Places.{capacity, first_with_room, last_generation}
use Rattle.mega_cache.specs.Region.{about_of, Sound}

-- Generations.

pub first_room : (n g k h : ℕ) → h ≡ n + g → k ≤ capacity h → k ≤ capacity (first_with_room n g k)
first_room zero g k h is room = let same : h ≡ g = omega arith in subst (λ (z : ℕ). k ≤ capacity z) same room
first_room (suc n) g k h is room =
    elim (nat_le k (capacity g)) as (λ b. nat_le k (capacity g) ≡ b → k ≤ capacity (if b then g else first_with_room n (suc g) k)) [
      | true ↦ λ e. leb-true k (capacity g) e
      | false ↦ λ e. first_room n (suc g) k h (omega arith) room
    ] refl

pub first_low : (n g k : ℕ) → first_with_room n g k ≤ n + g
first_low zero g k = omega arith
first_low (suc n) g k =
    elim (nat_le k (capacity g)) as (λ b. (if b then g else first_with_room n (suc g) k) ≤ suc n + g) [
      | true ↦ omega arith
      | false ↦ (let r = first_low n (suc g) k in omega arith)
    ]

pub room_here : (n m g k : ℕ) → n ≡ suc m → k ≤ capacity g → first_with_room n g k ≡ g
room_here n m g k is room = subst (λ (z : ℕ). first_with_room z g k ≡ g) (sym is) (ap (λ (b : Bool). if b then g else first_with_room m (suc g) k) (le-leb k (capacity g) room))

pub room_later : (n m g k : ℕ) → n ≡ suc m → capacity g < k → first_with_room n g k ≡ first_with_room m (suc g) k
room_later n m g k is less =
    let full : nat_le k (capacity g) ≡ false = grind (arith, nat_tests) in
    subst (λ (z : ℕ). first_with_room z g k ≡ first_with_room m (suc g) k) (sym is) (ap (λ (b : Bool). if b then g else first_with_room m (suc g) k) full)

-- each capacity divides the last one
halves : (d g : ℕ) → d + g ≡ 7 → (rest : ℕ) × (capacity g * rest ≡ 2048)
halves zero g is = let last : 7 ≡ g = omega arith in (1, subst (λ (z : ℕ). capacity z * 1 ≡ 2048) last refl)
halves (suc d) g is = let r = halves d (suc g) (omega arith) in let twice : capacity g * (2 * r.0) ≡ 2 * capacity g * r.0 = grind arith in (2 * r.0, twice ∙ r.1)

-- Targets.

-- a number below n, or none
abbrev IsBelow : ℕ → Option ℕ → Type 0
IsBelow n None = Unit {0}
IsBelow n (Some m) = m < n

accepted_below : (methods : List Method) (n m : ℕ) (x : Option Method) → slice_get methods m ≡ x → IsBelow (length methods) (if_accepts n m x)
accepted_below methods n m None e = tt
accepted_below methods n m (Some k) e =
    elim (accepts n k) as (λ b. IsBelow (length methods) (if b then Some m else None)) [
      | true ↦ slice_get_within methods m k e
      | false ↦ tt
    ]

module _ (p : Parts) where
  each_below : (n : ℕ) (first : Option ℕ) → IsBelow (length p.methods) (option_and_then (λ m. if_accepts n m (slice_get p.methods m)) first)
  each_below n None = tt
  each_below n (Some m) = accepted_below p.methods n m (slice_get p.methods m) refl

  found_below : (c : ℕ) (kind : SelectorKind) (name : List ℕ) (n : ℕ) → IsBelow (length p.methods) (found p c kind name n)
  found_below c kind name n = each_below n (first_declared p.methods kind name (chain (parents p.classes) c))

  selected_below : (c : ℕ) (s : Option Selector) → IsBelow (length p.methods) (option_and_then (found_by p c) s)
  selected_below c None = tt
  selected_below c (Some s) = found_below c s.kind s.name s.count

  target_below : (m missing : Option ℕ) → length p.methods ≤ 32767 → IsBelow (length p.methods) m → IsBelow (length p.methods) missing → method_of (target_or m missing) < 32768
  target_below (Some m) missing few h k = omega arith
  target_below None (Some m) few h k = omega arith
  target_below None None few h k = omega arith

  resolve_below : (c s : ℕ) → length p.methods ≤ 32767 → method_of (resolve p c s) < 32768
  unfolding resolve lookup no_such_method
  resolve_below c s few = target_below (lookup p c s) (no_such_method p c) few (selected_below c (slice_get p.selectors s)) (found_below c Call (codes "noSuchMethod") 1)

pub sound_of : (linked : Linked) → Sound (about_of linked)
unfolding about_of last_generation
sound_of linked =
    let parts = parts_of linked.program in let k : ℕ = length linked.program.classes in let low = first_low 7 0 k in let half = halves (7 - last_generation k) (last_generation k) (omega arith) in
    let room : capacity 7 ≡ 2048 = refl in let few = few_classes parts linked.program.sound in record {
      rest = half.0;
      whole = half.1;
      few_generations = omega arith;
      few_classes = first_room 7 0 k 7 refl (omega arith);
      few_methods = λ c s. resolve_below parts c s (few_methods parts linked.program.sound);
    }
