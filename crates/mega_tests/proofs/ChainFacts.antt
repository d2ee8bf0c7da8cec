-- A chain within the bounds is a small program.
use Rattle.std.proofs.Common.{◌≡◌, ℕ, zero, suc, ◌+◌, ◌<◌, ◌≤◌, List, [], ◌∷◌, ◌++◌, length, replicate, slice_get, Option, Some, refl, sym, ◌∙◌, ap, arith}
use Rattle.std.proofs.lemmas.List.{replicate-append-replicate}
use Rattle.std.proofs.lemmas.Str.Ascii.{IsAscii-nil}
use Rattle.std.specs.List.{AllByRecursion, sum_by}
use Rattle.small_program.specs.declared.small.SmallClass.{SmallClass}
use Rattle.small_program.specs.Small.{IsSmall, IsSmallClass, methods_in}
use Rattle.mega_tests.specs.Chains.{plain_class, chain_of}
use lib.ListN.{length-replicate}

pub chain_next : (n : ℕ) → replicate n plain_class ++ plain_class ∷ [] ≡ replicate (n + 1) plain_class
chain_next n = replicate-append-replicate n 1 plain_class

small_classes : (n : ℕ) → AllByRecursion IsSmallClass (replicate n plain_class)
small_classes zero = tt
small_classes (suc n) = (record { text = IsAscii-nil; methods = tt; differ = λ i j a b e f s. absurd cc }, small_classes n)

no_methods : (n : ℕ) → methods_in (chain_of n) ≡ 0
no_methods zero = refl
no_methods (suc n) = no_methods n

pub chain_is_small : (n : ℕ) → n ≤ 2041 → IsSmall (chain_of n)
chain_is_small n few = let size = length-replicate n plain_class in let none = no_methods n in record {
  classes = small_classes n;
  prints = tt;
  few_classes = omega arith;
  few_methods = omega arith;
  few_prints = omega arith;
}
