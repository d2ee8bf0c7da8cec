-- Worked cases of the built-in members, computed by the definition.
use Rattle.std.proofs.Common.{◌≡◌, ℕ, [], ◌∷◌, map, refl}
use Rattle.std.specs.Prelude.{pos, negsuc, true, codes}
use Rattle.std.specs.Int.{int_wrap}
use Rattle.program.specs.declared.numbered.Method.{Method}
use Rattle.program.specs.BuiltIn.{built_in_members}
use Rattle.dart_values.specs.declared.fault.Trap.TheVariants as trap
use Rattle.dart_values.specs.Values.{Text, bool, num, text, gives, traps}
use Rattle.dart_values.specs.Members.{members, arity}
use Rattle.dart_values.specs.Natives.{native}

names : ℕ → Text
names c = codes "C"

-- each takes as many arguments as the program's table of members says
arities : map (λ (m : Method). m.required) built_in_members ≡ map arity members
arities = refl

-- -7 ~/ 2
towards_zero : native names 11 [] (num (negsuc 6)) (num (pos 2) ∷ []) ≡ gives [] (num (negsuc 2))
unfolding int_wrap
towards_zero = refl

-- the least integer % -1
least_by_minus_one : native names 12 [] (num (negsuc 9223372036854775807)) (num (negsuc 0) ∷ []) ≡ gives [] (num (pos 0))
least_by_minus_one = refl

-- the greatest integer + 1
wraps_round : native names 8 [] (num (pos 9223372036854775807)) (num (pos 1) ∷ []) ≡ gives [] (num (negsuc 9223372036854775807))
unfolding int_wrap
wraps_round = refl

-- -1 >>> 63
sign_comes_down : native names 18 [] (num (negsuc 0)) (num (pos 63) ∷ []) ≡ gives [] (num (pos 1))
sign_comes_down = refl

-- 1 << -1
below_zero : native names 16 [] (num (pos 1)) (num (negsuc 0) ∷ []) ≡ traps trap.NegativeShift
below_zero = refl

-- 1 + true
other_kind : native names 8 [] (num (pos 1)) (bool true ∷ []) ≡ traps trap.TypeFault
other_kind = refl

-- 'abc'.substring(2, 1)
bounds_swapped : native names 36 [] (text (codes "abc")) (num (pos 2) ∷ num (pos 1) ∷ []) ≡ traps trap.RangeFault
bounds_swapped = refl

-- 'A'.codeUnitAt(0)
unit_of_a : native names 35 [] (text (codes "A")) (num (pos 0) ∷ []) ≡ gives [] (num (pos 65))
unit_of_a = refl
