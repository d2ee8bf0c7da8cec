-- A run of an isolate: its state, how it ends, and the steps that evaluation is made of.
use Rattle.std.specs.Prelude.{ℕ, zero, suc, ◌-◌, Bool, true, false, List, [], ◌∷◌, ◌++◌, length, drop}
use Rattle.dart_values.specs.declared.fault.Trap.{Trap}
use Rattle.dart_values.specs.declared.fault.Trap.TheVariants as trap
use Rattle.dart_values.specs.Values.{Text, Value, null, bool, text, at, Heap, Thing, class_of}
use Rattle.dart_values.specs.Reads.{with_field}

-- What an isolate has beside the variables of the body that runs.
pub record Store : Type 0 where
  pub heap : Heap
  -- the top-level variables
  pub globals : List Value
  pub lines : List Text
  -- how many turns are left
  pub turns : ℕ
  -- the calls that asked a cell: the site, and the receiver's class
  pub asked : List (ℕ × ℕ)
  -- the tests by `is`: the value's class, and the class named
  pub tests : List (ℕ × ℕ)

-- `V` is what a variable is: over trees a name with a value, over numbered programs a value.
pub record Run (V : Type 0) : Type 0 where
  -- the variables of the body that runs, the newest first
  pub vars : List V
  pub this : Value
  pub store : Store

-- a change of the store
abbrev pub in_store : {V : Type 0} → (Store → Store) → Run V → Run V
in_store f r = record r { store = f r.store }

-- There is no other way to end.
pub data Ending : Type 0 where
  done : Ending
  threw : Trap → Ending
  out_of_turns stack_overflow : Ending

-- what an evaluation leads to: an answer, or the end of the isolate
pub data Result (V A : Type 0) : Type 0 where
  went : A → Run V → Result V A
  ended : Ending → Run V → Result V A

-- an evaluation
abbrev pub M : Type 0 → Type 0 → Type 0
M V A = Run V → Result V A

-- What follows an end is not evaluated.
abbrev pub and_then : {V A B : Type 0} → Result V A → (A → M V B) → Result V B
and_then (went a r) f = f a r
and_then (ended e r) f = ended e r

infixl 10 ◌>>=◌
-- one evaluation, then the one that its answer asks for
abbrev pub ◌>>=◌ : {V A B : Type 0} → M V A → (A → M V B) → M V B
m >>= f = λ r. and_then (m r) f

infixl 10 ◌>>◌
-- one evaluation, whose answer is dropped, then another
abbrev pub ◌>>◌ : {V A B : Type 0} → M V A → M V B → M V B
m >> k = λ r. and_then (m r) (λ _. k)

-- an answer that changes nothing
abbrev pub pure : {V A : Type 0} → A → M V A
pure a = λ r. went a r

-- the end of the isolate
abbrev pub stop : {V A : Type 0} → Ending → M V A
stop e = λ r. ended e r

-- the end by a trap
abbrev pub trapped : {V A : Type 0} → Trap → M V A
trapped t = stop (threw t)

-- an answer read off the run, which stays as it is
abbrev pub look : {V A : Type 0} → (Run V → A) → M V A
look f = λ r. went (f r) r

-- a change of the run, with no answer of its own
abbrev pub change : {V : Type 0} → (Run V → Run V) → M V (Unit {0})
change f = λ r. went tt (f r)

-- one of two
abbrev pub choose : {A : Type 0} → Bool → A → A → A
choose true a b = a
choose false a b = b

-- ---- turns

-- one turn, where one is left
abbrev pub spend_from : {V : Type 0} → ℕ → M V (Unit {0})
spend_from zero = stop out_of_turns
spend_from (suc n) = change (in_store (λ s. record s { turns = n }))

-- spends one turn; where none is left the isolate ends
abbrev pub spend : {V : Type 0} → M V (Unit {0})
spend = λ r. spend_from r.store.turns r

-- another turn of a loop, or what the loop answers
pub data Next (S A : Type 0) : Type 0 where
  again : S → Next S A
  leaves : A → Next S A

-- what follows a test or a turn of a loop, unless it leaves the loop
abbrev pub on_again : {V S A : Type 0} → (S → M V A) → Next S A → M V A
on_again f (again s) = f s
on_again f (leaves a) = pure a

-- A loop tests. Where it goes on, it spends a turn, does its turn, and tests again. With no turn left a test that holds is the end.
abbrev pub loop : {V S A : Type 0} → ℕ → (S → M V (Next S A)) → (S → M V (Next S A)) → S → M V A
loop zero test turn s = test s >>= on_again (λ t. stop out_of_turns)
loop (suc n) test turn s = test s >>= on_again (λ t. spend >> (turn t >>= on_again (loop n test turn)))

-- It has no more turns than are left where it begins.
abbrev pub looping : {V S A : Type 0} → (S → M V (Next S A)) → (S → M V (Next S A)) → S → M V A
looping test turn s = look (λ r. r.store.turns) >>= (λ n. loop n test turn s)

-- ---- values of a kind

-- the bool that a value is, or a TypeFault
abbrev pub need_bool : {V : Type 0} → Value → M V Bool
need_bool (bool b) = pure b
need_bool _ = trapped trap.TypeFault

-- the string that a value is, or a TypeFault
abbrev pub need_text : {V : Type 0} → Value → M V Text
need_text (text s) = pure s
need_text _ = trapped trap.TypeFault

-- ---- the heap

-- a new thing on the heap
abbrev pub new : {V : Type 0} → Thing → M V Value
new thing = λ r. went (at (length r.store.heap)) (in_store (λ s. record s { heap = s.heap ++ thing ∷ [] }) r)

-- the object's field k is w now
abbrev pub set_field : {V : Type 0} → Value → ℕ → Value → M V (Unit {0})
set_field v k w = change (in_store (λ s. record s { heap = with_field s.heap v k w }))

-- ---- what is told

-- A cell is asked: the call is counted, before the member runs. The answer is the receiver's class.
abbrev pub ask : {V : Type 0} → ℕ → Value → M V ℕ
ask site v = λ r. went (class_of r.store.heap v) (in_store (λ s. record s { asked = s.asked ++ (site, class_of s.heap v) ∷ [] }) r)

-- counts a test by `is` of a value of the one class for the other
abbrev pub note_test : {V : Type 0} → ℕ → ℕ → M V (Unit {0})
note_test class named = change (in_store (λ s. record s { tests = s.tests ++ (class, named) ∷ [] }))

-- a line that `print` writes
abbrev pub add_line : {V : Type 0} → Text → M V (Unit {0})
add_line line = change (in_store (λ s. record s { lines = s.lines ++ line ∷ [] }))

-- ---- variables

-- a new variable of the body that runs
abbrev pub declare : {V : Type 0} → V → M V (Unit {0})
declare v = change (λ r. record r { vars = v ∷ r.vars })

-- a block: what it declares is dropped at its end
abbrev pub scoped : {V A : Type 0} → M V A → M V A
scoped m = do
  before ← look (λ r. length r.vars)
  a ← m
  change (λ r. record r { vars = drop (length r.vars - before) r.vars })
  pure a

-- a body, with variables and a `this` of its own
abbrev pub framed : {V A : Type 0} → List V → Value → M V A → M V A
framed vars this m = do
  outer_vars ← look (λ r. r.vars)
  outer_this ← look (λ r. r.this)
  change (λ r. record r { vars = vars; this = this })
  a ← m
  change (λ r. record r { vars = outer_vars; this = outer_this })
  pure a

-- ---- statements

-- How a statement ends: it goes on, or leaves a loop, a turn of a loop, or the body.
pub data Flow : Type 0 where
  onward broke continued : Flow
  returned : Value → Flow

-- what follows, where a statement goes on
abbrev pub if_onward : {V : Type 0} → Flow → M V Flow → M V Flow
if_onward onward k = k
if_onward f k = pure f

-- what a body answers
abbrev pub answer : Flow → Value
answer (returned v) = v
answer _ = null

-- Where a condition holds, there is another turn.
abbrev pub going : Bool → Next (Unit {0}) Flow
going go = choose go (again tt) (leaves onward)

-- what follows a loop's body: `continue` goes to the end of the turn, `break` behind the loop
abbrev pub after_body : {V : Type 0} → Flow → M V (Next (Unit {0}) Flow) → M V (Next (Unit {0}) Flow)
after_body onward k = k
after_body continued k = k
after_body broke k = pure (leaves onward)
after_body (returned v) k = pure (leaves (returned v))

-- It tests, spends a turn, and runs its body and then its last part.
abbrev pub while_loop : {V : Type 0} → M V Bool → M V Flow → M V (Unit {0}) → M V Flow
while_loop test body last =
    looping (λ _. test >>= (λ go. pure (going go))) (λ _. body >>= (λ f. after_body f (last >> pure (again tt)))) tt

-- It spends a turn, runs its body, and tests.
abbrev pub do_loop : {V : Type 0} → M V Flow → M V Bool → M V Flow
do_loop body test =
    looping (λ _. pure (again tt)) (λ _. body >>= (λ f. after_body f (test >>= (λ go. pure (going go))))) tt
