-- The greatest stamps among the words that were seen.
use Rattle.std.specs.Prelude.{ℕ, ◌≤◌, List, [], ◌∷◌, max, cond, ◌==◌}
use Rattle.cell_rule.specs.declared.view.Seen.{Seen}
use Rattle.cell_rule.specs.declared.view.Seen.TheVariants.{Head, Data, Set, Empty}

-- the stamp of a target word of site x, else 0
abbrev pub head_part : ℕ → Seen → ℕ
head_part x (Head y k e) = cond (y == x) k 0
head_part x (Data y k i) = 0
head_part x (Set y q k) = 0
head_part x (Empty y q) = 0

-- the stamp of a data word of site x, else 0
abbrev pub data_part : ℕ → Seen → ℕ
data_part x (Head y k e) = 0
data_part x (Data y k i) = cond (y == x) k 0
data_part x (Set y q k) = 0
data_part x (Empty y q) = 0

-- the greatest stamp of a target word that was seen at site x
abbrev pub head_stamp : ℕ → List Seen → ℕ
head_stamp x [] = 0
head_stamp x (s ∷ l) = max (head_part x s) (head_stamp x l)

-- the same of data words
abbrev pub data_stamp : ℕ → List Seen → ℕ
data_stamp x [] = 0
data_stamp x (s ∷ l) = max (data_part x s) (data_stamp x l)

-- at each site a target word was seen with each stamp of a data word that was seen, or a later one
abbrev pub Settled : List Seen → Type 0
Settled l = (x : ℕ) → data_stamp x l ≤ head_stamp x l
