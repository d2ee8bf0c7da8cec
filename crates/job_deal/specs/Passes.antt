-- What a clause says of a pass.
use Rattle.std.specs.Prelude.{◌≡◌, ℕ, ◌^◌, ◌<◌, ◌≤◌, List, ◌∷◌, length, Option, MatchOption}
use Rattle.job_deal.specs.declared.passes.JobPass.{JobPass}
use Rattle.job_deal.specs.declared.passes.JobTable.{JobTable}
use Rattle.job_deal.specs.Counts.{times, EachOnce, those_below}
use Rattle.job_deal.specs.Dealt.{whole_share}

-- the pass draws from this table
abbrev pub IsPassOf : JobTable → JobPass → Type 0
IsPassOf table pass = pass.seat.table_id ≡ table.table.shared.table_id

-- the share of the pass, at least 1
abbrev pub share_of : JobPass → ℕ
share_of pass = pass.seat.me.0.share

-- the numbers that the pass drew, and those that were joined to it drew
abbrev pub drawn_of : JobPass → List ℕ
drawn_of pass = pass.seat.me.0.drawn

-- A draw has one more number, and answers it exactly where it is a job's.
pub record Draws (jobs : ℕ) (old new : JobPass) (answer : Option ℕ) : Type 0 where
  pub number : ℕ
  pub one_more : drawn_of new ≡ number ∷ drawn_of old
  pub job : MatchOption answer (jobs ≤ number) (λ k. (k ≡ number) × (number < jobs))

-- The numbers drawn are the first ones, each once: so no job was dealt twice.
-- Each job was dealt once, as soon as a number was drawn that is no job's, or as many numbers as there are jobs.
pub record AreDealt (jobs : ℕ) (drawn : List ℕ) : Type 0 where
  pub once : EachOnce (length drawn) drawn
  pub none_left : (n : ℕ) → jobs ≤ n → 0 < times n drawn → EachOnce jobs (those_below jobs drawn)
  pub enough : jobs ≤ length drawn → EachOnce jobs (those_below jobs drawn)

-- what a pass with the whole share tells, while fewer than 2^64 numbers were drawn
abbrev pub TellsAll : ℕ → JobPass → Type 0
TellsAll jobs pass = share_of pass ≡ whole_share → length (drawn_of pass) < 2 ^ 64 → AreDealt jobs (drawn_of pass)
