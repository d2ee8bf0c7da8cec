-- Small programs, and the states that calls lead a site through.
use Rattle.std.proofs.Common.{◌≡◌, ℕ, ◌-◌, ◌==◌, not, List, [], ◌∷◌, slice_index_or, refl}
use Rattle.program.specs.declared.numbered.Target.{Target}
use Rattle.program.specs.declared.numbered.Target.TheVariants.{Method}
use Rattle.miss_handler.specs.declared.state.CallState.TheVariants.{Mono, Single, Cached, Mega}
use Rattle.miss_handler.specs.States.{Receivers, class_id, check, one_target, after_calls, alone}

abbrev method : ℕ → Target
method m = Method (record { 0 = m })

-- The classes from 7 on have these targets. One class may be abstract.
abbrev classes : List Target → ℕ → Receivers
classes targets abstract_class = record { classes = 12; concrete = λ c. not (c == abstract_class); resolve = λ c. slice_index_or targets (c - 7) (method 0) }

-- class A { m() => 1; }  class B extends A {}  class C extends A {}
abbrev inherited : Receivers
inherited = classes (method 49 ∷ method 49 ∷ method 49 ∷ []) 0

-- class A { m() => 1; }  class B extends A {}  class C extends A { m() => 2; }  class D extends A {}
abbrev overridden : ℕ → Receivers
overridden = classes (method 49 ∷ method 49 ∷ method 50 ∷ method 49 ∷ [])

-- five classes, each with an m of its own
abbrev each_its_own : Receivers
each_its_own = classes (method 49 ∷ method 50 ∷ method 51 ∷ method 52 ∷ method 53 ∷ []) 0

first_call : alone inherited (8 ∷ []) ≡ record { state = Mono (class_id 8); row = []; stamp = 1 }
unfolding after_calls
first_call = refl

-- B, then C: one target serves the range
single_target : alone inherited (8 ∷ 9 ∷ []) ≡ record { state = Single (class_id 8) (class_id 9) (method 49); row = []; stamp = 2 }
unfolding after_calls one_target
single_target = refl

-- a class in the range changes nothing, and A makes it wider
wider_range : alone inherited (8 ∷ 9 ∷ 8 ∷ 7 ∷ []) ≡ record { state = Single (class_id 7) (class_id 9) (method 49); row = []; stamp = 3 }
unfolding after_calls one_target
wider_range = refl

-- B, then D: C lies between them with a target of its own, so the range is refused
range_with_other_target : alone (overridden 0) (8 ∷ 10 ∷ []) ≡ record { state = Cached; row = check 8 (method 49) ∷ check 10 (method 49) ∷ []; stamp = 2 }
unfolding after_calls one_target
range_with_other_target = refl

-- the same where C is abstract: no call meets it
range_over_an_abstract_class : alone (overridden 9) (8 ∷ 10 ∷ []) ≡ record { state = Single (class_id 8) (class_id 10) (method 49); row = []; stamp = 2 }
unfolding after_calls one_target
range_over_an_abstract_class = refl

-- A, then B: a range; then C ends it
range_given_up : alone (overridden 0) (7 ∷ 8 ∷ 9 ∷ []) ≡ record { state = Cached; row = check 9 (method 50) ∷ []; stamp = 3 }
unfolding after_calls one_target
range_given_up = refl

-- adding a check is no transition
four_classes : alone each_its_own (7 ∷ 8 ∷ 9 ∷ 10 ∷ [])
    ≡ record { state = Cached; row = check 7 (method 49) ∷ check 8 (method 50) ∷ check 9 (method 51) ∷ check 10 (method 52) ∷ []; stamp = 2 }
unfolding after_calls one_target
four_classes = refl

-- the row is full, and the fifth class makes the site megamorphic
five_classes : alone each_its_own (7 ∷ 8 ∷ 9 ∷ 10 ∷ 11 ∷ [])
    ≡ record { state = Mega; row = check 7 (method 49) ∷ check 8 (method 50) ∷ check 9 (method 51) ∷ check 10 (method 52) ∷ []; stamp = 3 }
unfolding after_calls one_target
five_classes = refl
