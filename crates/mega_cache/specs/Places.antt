-- Where the words of a selector stand: its root, and then the places of all generations.
use Rattle.std.specs.Prelude.{ℕ, zero, suc, ◌+◌, ◌-◌, ◌*◌, ◌%◌, ◌<◌, ◌≤◌, nat_le, if◌then◌else◌}

-- how many places a generation has
abbrev pub capacity : ℕ → ℕ
capacity zero = 16
capacity (suc g) = 2 * capacity g

-- the first generation with a place for each of k classes, of g and the n that follow it
abbrev pub first_with_room : ℕ → ℕ → ℕ → ℕ
first_with_room zero g k = g
first_with_room (suc n) g k = if nat_le k (capacity g) then g else first_with_room n (suc g) k

-- the last generation for k classes, of which a program has at most 2,048
unfoldable pub last_generation : ℕ → ℕ
last_generation k = first_with_room 7 0 k

-- how many words a selector has where this is the last generation: those before a generation of n places are n - 15
abbrev pub words_up_to : ℕ → ℕ
words_up_to last = 2 * capacity last - 15

-- place d of the window of class c in generation g, counted from the root: it begins at the home, 7 times the class, and goes on at the generation's first place behind its last one
unfoldable pub window_place : ℕ → ℕ → ℕ → ℕ
window_place c g d = (capacity g - 15) + (7 * c + d) % capacity g

-- the place is one of generation g
abbrev pub InGeneration : ℕ → ℕ → Type 0
InGeneration g place = (capacity g ≤ place + 15) × (place + 15 < 2 * capacity g)
