-- The row has room for what a miss adds.
use Rattle.std.proofs.Common.{◌≡◌, ℕ, ◌<◌, ◌≤◌, true, false, List, [], ◌∷◌, ◌++◌, length, length-append, All, Option, None, Some, IfSome, sym, refl, ◌∙◌, ap, subst, arith, append_assoc}
use Rattle.std.proofs.lemmas.List.Elements.{All-head, All-tail}
use Rattle.program.specs.declared.ids.ClassId.{ClassId}
use Rattle.miss_handler.specs.declared.row.Check.{Check}
use Rattle.miss_handler.specs.declared.state.Advance.{Advance}
use Rattle.miss_handler.specs.declared.state.CallState.{CallState}
use Rattle.miss_handler.specs.declared.state.CallState.TheVariants.{Unlinked, Mono, Single, Cached, Mega}
use Rattle.miss_handler.specs.States.{Receivers, MayHave, Lawful, covers, next, added, check, row_with, row_after}
use Rattle.miss_handler.proofs.Moves.{next_lawful}
use Rattle.call_cell.specs.Kept.{is_mega, IsRow, HasRoom}

pub row_with_all : (s : CallState) (row more : List Check) → is_mega s ≡ false → row_with s row more ≡ row ++ more
row_with_all Unlinked row more h = refl
row_with_all (Mono a) row more h = refl
row_with_all (Single lo hi t) row more h = refl
row_with_all Cached row more h = refl
row_with_all Mega row more h = absurd cc

pub row_with_none : (s : CallState) (row more : List Check) → is_mega s ≡ true → row_with s row more ≡ row
row_with_none Unlinked row more h = absurd cc
row_with_none (Mono a) row more h = absurd cc
row_with_none (Single lo hi t) row more h = absurd cc
row_with_none Cached row more h = absurd cc
row_with_none Mega row more h = refl

few_checks : (s : CallState) (n : ℕ) → MayHave s n → n ≤ 4
few_checks Unlinked n h = omega arith
few_checks (Mono a) n h = omega arith
few_checks (Single lo hi t) n h = omega arith
few_checks Cached n h = h
few_checks Mega n h = omega arith

pub room_after : (r : Receivers) (s : CallState) (row : List Check) (c : ℕ) → Lawful r s row → covers s row c ≡ false → c < r.classes → HasRoom r row (next r s row c)
room_after r s row c l un small not_mega =
    let a : Advance = next r s row c in let after = next_lawful r s row c l un small in
    let whole : IsRow r (row_after r row a) = (few_checks a.state (length (row_after r row a)) after.size, λ k d h. (after.right k d h).0) in
    subst (IsRow r) (row_with_all a.state row (added r a.add_first ++ added r a.add_second) not_mega) whole

module _ (r : Receivers) where
  all_behind : (P : Check → Type 0) (xs ys : List Check) → All P (xs ++ ys) → All P ys
  all_behind P [] ys h = h
  all_behind P (x ∷ xs) ys h = all_behind P xs ys (All-tail P x (xs ++ ys) h)

  pub first_there : (row : List Check) (first second : Option ClassId) → IsRow r (row ++ (added r first ++ added r second)) → IfSome first (λ c. c.0 < r.classes)
  first_there row None second h = tt
  first_there row (Some c) second h =
      let P : Check → Type 0 = λ k. k.class.0 < r.classes in
      All-head P (check c.0 (r.resolve c.0)) (added r second) (all_behind P row (check c.0 (r.resolve c.0) ∷ added r second) h.1)

  pub first_fits : (row : List Check) (first second : Option ClassId) → IsRow r (row ++ (added r first ++ added r second)) → IfSome first (λ c. length row < 4)
  first_fits row None second h = tt
  first_fits row (Some c) second h = let few = h.0 in let size = length-append row (check c.0 (r.resolve c.0) ∷ added r second) in omega arith

  pub second_there : (row : List Check) (first second : Option ClassId) → IsRow r (row ++ (added r first ++ added r second)) → IfSome second (λ c. c.0 < r.classes)
  second_there row first None h = tt
  second_there row first (Some c) h =
      let P : Check → Type 0 = λ k. k.class.0 < r.classes in
      All-head P (check c.0 (r.resolve c.0)) [] (all_behind P (added r first) (check c.0 (r.resolve c.0) ∷ []) (all_behind P row (added r first ++ check c.0 (r.resolve c.0) ∷ []) h.1))

  pub second_fits : (row : List Check) (first second : Option ClassId) → IsRow r (row ++ (added r first ++ added r second)) → IfSome second (λ c. length (row ++ added r first) < 4)
  second_fits row first None h = tt
  second_fits row first (Some c) h =
      let few = h.0 in let size = length-append row (added r first ++ check c.0 (r.resolve c.0) ∷ []) in
      let more = length-append (added r first) (check c.0 (r.resolve c.0) ∷ []) in let front = length-append row (added r first) in omega arith

  pub both_added : (row : List Check) (a : Advance) (one two : List Check) → is_mega a.state ≡ false → one ≡ row ++ added r a.add_first → two ≡ one ++ added r a.add_second → two ≡ row_after r row a
  both_added row a one two not_mega first second =
      second ∙ ap (λ l. l ++ added r a.add_second) first ∙ append_assoc row (added r a.add_first) (added r a.add_second)
      ∙ sym (row_with_all a.state row (added r a.add_first ++ added r a.add_second) not_mega)
