-- A ladder within the bounds is a small program.
use Rattle.std.proofs.Common.{rules, pos, ◌≡◌, ◌≢◌, ℕ, zero, suc, ◌+◌, ◌<◌, ◌≤◌, List, [], ◌∷◌, ◌++◌, length, replicate, codes, refl, sym, ◌∙◌, ap, arith}
use Rattle.std.proofs.lemmas.List.{replicate-append-replicate}
use Rattle.std.proofs.lemmas.Str.Ascii.{IsAscii-nil}
use Rattle.std.specs.List.{AllByRecursion, sum_by}
use Rattle.std.proofs.lemmas.List.Sums.{sum_by-cons}
use Rattle.std.specs.Str.{IsAscii}
use Rattle.std.proofs.lemmas.List.Elements.{All-nil, All-cons}
use Rattle.small_program.specs.declared.small.SmallClass.{SmallClass}
use Rattle.program.specs.Whole.{AreDistinct}
use Rattle.small_program.specs.Small.{same_name, IsSmall, IsSmallClass, IsSmallMethod, methods_in}
use Rattle.cell_tests.specs.Ladders.{with_member, bare, ladder_of}
use lib.ListN.{length-replicate}

pub ladder_next : (n : ℕ) → (with_member ∷ bare ∷ replicate n with_member) ++ with_member ∷ [] ≡ with_member ∷ bare ∷ replicate (n + 1) with_member
ladder_next n = ap (λ l. with_member ∷ bare ∷ l) (replicate-append-replicate n 1 with_member)

m_is_ascii : IsAscii (codes "m")
m_is_ascii = search rules

small_method : IsSmallMethod record { name = codes "m"; value = pos 1 }
small_method = record { text = m_is_ascii; named = λ e. absurd cc }

one_differs : AreDistinct same_name with_member.methods
one_differs zero zero a b e f s = refl
one_differs zero (suc j) a b e f s = absurd cc
one_differs (suc i) j a b e f s = absurd cc

member_class : IsSmallClass with_member
member_class = record { text = IsAscii-nil; methods = (small_method, tt); differ = one_differs }

bare_class : IsSmallClass bare
bare_class = record { text = IsAscii-nil; methods = tt; differ = λ i j a b e f s. absurd cc }

more_classes : (n : ℕ) → AllByRecursion IsSmallClass (replicate n with_member)
more_classes zero = tt
more_classes (suc n) = (member_class, more_classes n)

abbrev count_of : SmallClass → ℕ
count_of k = length k.methods

methods_more : (n : ℕ) → sum_by count_of (replicate n with_member) ≡ n
methods_more zero = refl
methods_more (suc n) = let first = sum_by-cons count_of with_member (replicate n with_member) in let rest = methods_more n in omega arith

methods_all : (n : ℕ) → methods_in (ladder_of n) ≡ n + 1
methods_all n =
    let first = sum_by-cons count_of with_member (bare ∷ replicate n with_member) in let second = sum_by-cons count_of bare (replicate n with_member) in let rest = methods_more n in omega arith

pub ladder_is_small : (n : ℕ) → n ≤ 2039 → IsSmall (ladder_of n)
ladder_is_small n few = let size = length-replicate n with_member in let many = methods_all n in record {
  classes = (member_class, (bare_class, more_classes n));
  prints = (record { class = omega arith; text = m_is_ascii }, tt);
  few_classes = omega arith;
  few_methods = omega arith;
  few_prints = omega arith;
}
