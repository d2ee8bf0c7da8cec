-- The hierarchy of classes: what is above a class, the preorder, and subtypes.
use Rattle.std.specs.Prelude.{◌≡◌, ℕ, zero, suc, ◌-◌, ◌<◌, ◌≤◌, Bool, false, ◌&&◌, ◌||◌, nat_eq, nat_lt, IsTrue, List, [], ◌∷◌, length, slice_get, Option, None, Some, option_and_then, unwrap_or}
use Rattle.std.specs.List.{list_any, list_all}

-- for each class the number of the one above it by `extends`
abbrev pub Parents : Type 0
Parents = List (Option ℕ)

-- the class directly above one; Object has none
abbrev pub parent_in : Parents → ℕ → Option ℕ
parent_in up c = option_and_then (λ p. p) (slice_get up c)

-- a class, if any, and the classes above it, nearest first; at most so many
abbrev pub chain_from : ℕ → Parents → Option ℕ → List ℕ
chain_from n up None = []
chain_from zero up (Some c) = []
chain_from (suc n) up (Some c) = c ∷ chain_from n up (parent_in up c)

-- a class and the classes above it, nearest first; a parent's number is less, so the bound is never met
unfoldable pub chain : Parents → ℕ → List ℕ
chain up c = chain_from (suc c) up (Some c)

-- the same from a class that there need not be
abbrev pub chain_of : Parents → Option ℕ → List ℕ
chain_of up None = []
chain_of up (Some c) = chain up c

-- the classes above a class, nearest first
abbrev pub above_chain : Parents → ℕ → List ℕ
above_chain up c = chain_of up (parent_in up c)

-- a is c or above it
abbrev pub is_above : Parents → ℕ → ℕ → Bool
is_above up a c = list_any (nat_eq a) (chain up c)

-- Object comes first. Each other class comes behind the one above it, and only classes below that one stand between them.
abbrev pub follows : Parents → ℕ → Option ℕ → Bool
follows up c None = nat_eq c 0
follows up c (Some p) = nat_lt p c && is_above up p (c - 1)

-- each class stands before those below it, and these follow it without a gap
pub record IsPreorder (up : Parents) : Type 0 where
  pub some : 0 < length up
  pub each : (c : ℕ) → c < length up → IsTrue (follows up c (parent_in up c))
  pub root : parent_in up 0 ≡ None

-- the greatest number among c and the classes below it
pub record IsLast (up : Parents) (c last : ℕ) : Type 0 where
  pub there : last < length up
  pub below : IsTrue (is_above up c last)
  pub greatest : (d : ℕ) → d < length up → IsTrue (is_above up c d) → d ≤ last

-- Subtypes.

-- for each class the numbers of those that it names behind `extends` and `implements`
abbrev pub Supers : Type 0
Supers = List (List ℕ)

-- the numbers that class c names in its head
abbrev pub supers_in : Supers → ℕ → List ℕ
supers_in named c = unwrap_or (slice_get named c) []

-- Each way up from c ends after at most so many classes; so no class on one is above itself.
abbrev pub ends_within : ℕ → Supers → ℕ → Bool
ends_within zero named c = false
ends_within (suc n) named c = list_all (ends_within n named) (supers_in named c)

-- d is on a way up from c of at most so many classes
abbrev pub reaches : ℕ → Supers → ℕ → ℕ → Bool
reaches zero named c d = false
reaches (suc n) named c d = nat_eq c d || list_any (λ e. reaches n named e d) (supers_in named c)

-- c is d, or d is above it by `extends` and `implements`; where each way up ends, none has more classes than there are
unfoldable pub is_subtype : Supers → ℕ → ℕ → Bool
is_subtype named c d = reaches (length named) named c d
