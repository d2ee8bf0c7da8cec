-- The earlier of places, and names that stand a second time.
use Rattle.std.proofs.Common.{◌≡◌, ℕ, List, [], ◌∷◌, ◌||◌, bytes_eq, Option, None, Some, refl, sym, ◌∙◌, ap, arith, map, drop, get_or, length, ◌+◌, ◌++◌, ◌<◌}
use Rattle.std.specs.List.{cons_option}
use Rattle.std.specs.Option.{option_to_list}
use Rattle.std.proofs.lemmas.List.{drop_more}
use Rattle.std.proofs.lemmas.Bool.Decides.{nat_tests}
use Rattle.dart_syntax.specs.declared.token.Span.{Span}
use Rattle.dart_syntax.specs.declared.tree.Name.{Name}
use Rattle.static_rules.specs.Places.{Fault, before, ◌or_else◌, at_if, first_in}
use Rattle.static_rules.specs.Repeats.{Before, repeated, with_name}
use Rattle.declaration_rules.specs.Seen.{again, with_option}
use Rattle.declaration_rules.specs.Known.{also_known}
use Rattle.std.proofs.Math.Bool.{or_assoc}

before_assoc : (a b c : Span) → before (before a b) c ≡ before a (before b c)
before_assoc a b c = grind (arith, nat_tests)

pub or_else_assoc : (a b c : Fault) → (a or_else b) or_else c ≡ a or_else (b or_else c)
or_else_assoc None b c = refl
or_else_assoc (Some a) None c = refl
or_else_assoc (Some a) (Some b) None = refl
or_else_assoc (Some a) (Some b) (Some c) = ap Some (before_assoc a b c)

pub or_else_none : (a : Fault) → (a or_else None) ≡ a
or_else_none None = refl
or_else_none (Some a) = refl

-- one more part of a sequence
pub next_part : (at part rest at_next goal : Fault) → at_next ≡ (at or_else part) → (at or_else (part or_else rest)) ≡ goal → (at_next or_else rest) ≡ goal
next_part at part rest at_next goal step was = ap (λ o. o or_else rest) step ∙ or_else_assoc at part rest ∙ was

-- the names before, where one more may have come
both_parts : (seen : Before) (o : Option Name) (more : List Name) → repeated seen (cons_option o more) ≡ (again seen o or_else repeated (with_option o seen) more)
both_parts seen None more = refl
both_parts seen (Some n) more = refl

-- One more name of a list, where a set stands for the names before it.
pub next_name : (seen next : Before) (o : Option Name) (more : List Name) (at at_next goal : Fault)
    → (at or_else repeated seen (cons_option o more)) ≡ goal
    → at_next ≡ (at or_else again seen o)
    → ((q : _) → next q ≡ with_option o seen q)
    → (at_next or_else repeated next more) ≡ goal
next_name seen next o more at at_next goal was step same =
    let same_next : next ≡ with_option o seen = (λ i q. same q i) in
    ap (λ f. at_next or_else repeated f more) same_next
    ∙ next_part at (again seen o) (repeated (with_option o seen) more) at_next goal step (sym (ap (λ x. at or_else x) (both_parts seen o more)) ∙ was)

-- what is left of a list begins with the element here
pub cut : {A : Type 0} (xs : List A) (i : ℕ) (x : A) → i < length xs → x ≡ get_or xs i x → drop i xs ≡ x ∷ drop (i + 1) xs
cut xs i x lt is = drop_more xs i x lt ∙ ap (λ y. y ∷ drop (i + 1) xs) (sym is)

pub as_list : {A : Type 0} (o : Option A) (more : List A) → option_to_list o ++ more ≡ cons_option o more
as_list None more = refl
as_list (Some x) more = refl

-- one more element of a list
pub next_in : {A B : Type 0} (f : B → Fault) (v : A → B) (xs : List A) (i : ℕ) (x : A) (at at_next goal : Fault) → i < length xs → x ≡ get_or xs i x
    → at_next ≡ (at or_else f (v x)) → (at or_else first_in f (map v (drop i xs))) ≡ goal → (at_next or_else first_in f (map v (drop (i + 1) xs))) ≡ goal
next_in f v xs i x at at_next goal lt is step was =
    next_part at (f (v x)) (first_in f (map v (drop (i + 1) xs))) at_next goal step (sym (ap (λ ys. at or_else first_in f (map v ys)) (cut xs i x lt is)) ∙ was)

pub next_plain : {A : Type 0} (f : A → Fault) (xs : List A) (i : ℕ) (x : A) (at at_next goal : Fault) → i < length xs → x ≡ get_or xs i x
    → at_next ≡ (at or_else f x) → (at or_else first_in f (drop i xs)) ≡ goal → (at_next or_else first_in f (drop (i + 1) xs)) ≡ goal
next_plain f xs i x at at_next goal lt is step was =
    next_part at (f x) (first_in f (drop (i + 1) xs)) at_next goal step (sym (ap (λ ys. at or_else first_in f ys) (cut xs i x lt is)) ∙ was)

pub first_in_append : {A : Type 0} (f : A → Fault) (xs ys : List A) → first_in f (xs ++ ys) ≡ (first_in f xs or_else first_in f ys)
first_in_append f [] ys = refl
first_in_append f (x ∷ xs) ys = ap (λ o. f x or_else o) (first_in_append f xs ys) ∙ sym (or_else_assoc (f x) (first_in f xs) (first_in f ys))

-- One more name, where other names were there in any case.
pub next_known : (f : Before) (seen next : Before) (n : Name) (more : List Name) (at at_next goal : Fault)
    → (at or_else repeated (also_known f seen) (n ∷ more)) ≡ goal
    → at_next ≡ (at or_else at_if (also_known f seen n.text) n.span)
    → ((q : _) → next q ≡ with_name n.text seen q)
    → (at_next or_else repeated (also_known f next) more) ≡ goal
next_known f seen next n more at at_next goal was step same =
    next_name (also_known f seen) (also_known f next) (Some n) more at at_next goal was step
    (λ q. ap (λ b. b || f q) (same q) ∙ or_assoc (bytes_eq n.text q) (seen q) (f q))
