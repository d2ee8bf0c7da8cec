-- Results, each with its job, and their order.
use Rattle.std.specs.Prelude.{◌≡◌, ℕ, List, length, map, flat_map, fold, slice_get, slice_set, Contains, Option, Some, Vec}

module _ {T : Type 0} where
  -- the results of all parts
  abbrev pub results_in : {A : Type 0} → List (Vec (ℕ × T) A) → List (ℕ × T)
  results_in parts = flat_map (λ part. part.items) parts

  abbrev pub jobs_of : List (ℕ × T) → List ℕ
  jobs_of results = map (λ r. r.0) results

  -- there is one item for each job, and at each place stands the result of its job
  pub record InPlace (jobs : ℕ) (results : List (ℕ × T)) (items : List T) : Type 0 where
    pub one_each : length items ≡ jobs
    pub its_own : (job : ℕ) (x : T) → slice_get items job ≡ Some x → Contains results (job, x)

  -- the places after each result was put in that of its job
  abbrev pub put_all : List (Option T) → List (ℕ × T) → List (Option T)
  put_all places results = fold (λ all r. slice_set all r.0 (Some r.1)) places results
