-- A variable's name and its slot lead to the same value.
use Rattle.std.proofs.Common.{◌≡◌, ℕ, ◌-◌, ◌<◌, suc, zero, List, [], ◌∷◌, map, length, refl, ap, sym, ◌∙◌, arith}
use Rattle.std.specs.Prelude.{Bool, true, false, if◌then◌else◌, Option, Some, None, unwrap_or, is_some, slice_index_or, slice_set}
use Rattle.std.specs.Option.{option_map}
use Rattle.std.specs.Str.{bytes_eq}
use Rattle.std.proofs.lemmas.List.{length-map}
use Rattle.dart_values.specs.Values.{Text, Value, null}
use Rattle.dart_meaning.specs.Meaning.{Bound, find, put}
use Rattle.dart_meaning.specs.Numbering.{index_of}

abbrev pub FoundAt : Option Value → List Value → Option ℕ → Type 0
FoundAt found held (Some k) = (k < length held) × (is_some found ≡ true) × (unwrap_or found null ≡ slice_index_or held k null)
FoundAt found held None = is_some found ≡ false

step : (t : Bool) (w : Value) (found : Option Value) (held : List Value) (o : Option ℕ) → FoundAt found held o
    → FoundAt (if t then Some w else found) (w ∷ held) (if t then Some 0 else option_map suc o)
step true w found held o h = (omega arith, refl, refl)
step false w found held None h = h
step false w found held (Some k) (lt, some, e) = (omega arith, some, e)

pub found_at : (x : Text) (vars : List Bound) → FoundAt (find x vars) (map (λ b. b.holds) vars) (index_of x (map (λ b. b.name) vars))
found_at x [] = refl
found_at x (b ∷ more) = step (bytes_eq b.name x) b.holds (find x more) (map (λ b. b.holds) more) (index_of x (map (λ b. b.name) more)) (found_at x more)

-- the slot of a name, counted from the oldest variable, is its place counted from the newest
pub slot_place : (x : Text) (vars : List Bound) (names : List Text) (k : ℕ) → map (λ b. b.name) vars ≡ names → index_of x names ≡ Some k → k < length (map (λ b. b.holds) vars)
    → length (map (λ b. b.holds) vars) - suc (length names - suc (unwrap_or (index_of x names) 0)) ≡ k
slot_place x vars names k h e lt =
    let a : length (map (λ b. b.holds) vars) ≡ length vars = length-map vars (λ b. b.holds) in
    let c : length names ≡ length vars = ap length (sym h) ∙ length-map vars (λ b. b.name) in
    rw e (omega arith)

-- a write to a name is a write to its place
puts : (t : Bool) (x : Text) (b : Bound) (w : Value) (more : List Bound) (o : Option ℕ) (k : ℕ) → (if t then Some 0 else option_map suc o) ≡ Some k
    → ((j : ℕ) → o ≡ Some j → map (λ b. b.holds) (put x w more) ≡ slice_set (map (λ b. b.holds) more) j w)
    → map (λ b. b.holds) (if t then record b { holds = w } ∷ more else b ∷ put x w more) ≡ slice_set (b.holds ∷ map (λ b. b.holds) more) k w
puts true x b w more o zero e h = refl
puts true x b w more o (suc k) e h = cc
puts false x b w more None k e h = cc
puts false x b w more (Some j) zero e h = cc
puts false x b w more (Some j) (suc k) e h = ap (λ l. b.holds ∷ l) (h k (ap Some (cc)))

pub put_is : (x : Text) (vars : List Bound) (w : Value) (k : ℕ) → index_of x (map (λ b. b.name) vars) ≡ Some k
    → map (λ b. b.holds) (put x w vars) ≡ slice_set (map (λ b. b.holds) vars) k w
put_is x [] w k e = cc
put_is x (b ∷ more) w k e = puts (bytes_eq b.name x) x b w more (index_of x (map (λ b. b.name) more)) k e (λ j h. put_is x more w j h)

put_names_at : (t : Bool) (b : Bound) (w : Value) (more more' : List Bound) → map (λ b. b.name) more' ≡ map (λ b. b.name) more
    → map (λ b. b.name) (if t then record b { holds = w } ∷ more else b ∷ more') ≡ b.name ∷ map (λ b. b.name) more
put_names_at true b w more more' h = refl
put_names_at false b w more more' h = ap (λ l. b.name ∷ l) h

pub put_names : (x : Text) (vars : List Bound) (w : Value) → map (λ b. b.name) (put x w vars) ≡ map (λ b. b.name) vars
put_names x [] w = refl
put_names x (b ∷ more) w = put_names_at (bytes_eq b.name x) b w more (put x w more) (put_names x more w)
