-- A body that runs: points of its code, and evaluations that the code from a point on does.
use Rattle.std.proofs.Common.{◌≡◌, ℕ, suc, ◌+◌, ◌-◌, ◌<◌, ◌≤◌, List, [], ◌∷◌, ◌++◌, length, refl, sym, ap, ◌∙◌, subst, arith, length-append, append_assoc}
use Rattle.std.specs.Prelude.{Bool, true, IsTrue, is_some, nat_le, take, drop, slice_get, Option, Some, None}
use Rattle.std.proofs.lemmas.Bool.{le-leb}
use Rattle.dart_values.specs.Values.{Value, bool, Heap}
use Rattle.dart_values.specs.Values as values
use Rattle.dart_meaning.specs.Entry.{greatest_depth}
use Rattle.dart_meaning.specs.Run.{Run, Store, Ending, Result, went, ended, and_then, M, ◌>>=◌, ◌>>◌, pure, need_bool}
use Rattle.meaning_laws.specs.Laws.{last, Runs}
use Rattle.meaning_laws.specs.BodyLaws.{Follows}
use Rattle.meaning_laws.specs.ThisLaws.{IsOf}
use Rattle.meaning_laws.proofs.Follows.{follows}
use Rattle.code_unit.specs.declared.instr.Instr.{Instr}
use Rattle.code_unit.specs.declared.unit.Unit as unit
use Rattle.code_pool.specs.Machine.{Frame, State, Step, to, after, one, two, top, top_one, top_two, slot_count, told, act}
use Rattle.machine_runs.proofs.Lists.{get_right, below_last, the_last}
use Rattle.machine_runs.proofs.Loaded.{Loaded, answers}
use Rattle.machine_runs.proofs.Runs.{worth, worth_mono, goes, Comes, Ends, comes_none, comes_on, comes_to_end, comes_one, ends_one, bare, within, Shared}
use Rattle.machine_runs.proofs.Calls.{runs_on, Enters}

-- How many variables are open, and what the slots beside them keep for a second use.
pub record Open : Type 0 where
  pub vars : ℕ
  pub kept : List Value

-- so many variables, and nothing is kept
abbrev pub opens : ℕ → Open
opens n = record { vars = n; kept = [] }

-- A place in a unit's code, with the operands there, and what is open.
pub record Point : Type 0 where
  pub open_vars : Open
  pub place : ℕ
  pub ops : List Value

abbrev pub point : Open → ℕ → List Value → Point
point n t ops = record { open_vars = n; place = t; ops = ops }

pub same_point : (n : Open) {t u : ℕ} {ops ops' : List Value} → t ≡ u → ops ≡ ops' → point n t ops ≡ point n u ops'
same_point n a b = λ i. point n (a i) (b i)

-- A body that runs.
pub record Activation (prog : Loaded) : Type 0 where
  -- its unit
  pub number : ℕ
  pub unit : unit.Unit
  pub there : slice_get prog.pool.units number ≡ Some unit
  -- a turn pays for its code
  pub paid : length unit.code ≤ prog.pays
  pub slot_count_is : slot_count unit ≡ unit.locals
  -- the slot of its first variable, and the first of those that keep what is used twice
  pub first : ℕ
  pub scratch : ℕ
  -- whether slot 0 is `this`, and the class that holds the body
  pub of_this : Bool
  pub this_first : of_this ≡ true → 1 ≤ first
  pub here : Option ℕ
  pub this_is : IsTrue (is_some here) → of_this ≡ true
  -- its `this`, and the store where it begins
  pub me : Value
  pub begun : Store
  pub me_of : IsOf prog.p begun.heap here me
  pub runs : Runs prog.p (bare begun)
  -- what stands below it, and how much deeper a call may go
  pub below : List Value
  pub callers : List Frame
  pub left : ℕ
  pub depth : length callers + 1 + left ≡ greatest_depth
  pub deep : Enters prog left

-- What holds of an answer.
abbrev pub Post : {A : Type 0} → (A → Type 0) → Result Value A → Type 0
Post P (went v r) = P v
Post P (ended e r) = Unit {0}

pub post_then : {A B : Type 0} (P : B → Type 0) (y : Result Value A) (g : A → M Value B) → ((v : A) (r : Run Value) → Post P (g v r)) → Post P (and_then y g)
post_then P (went v r) g k = k v r
post_then P (ended e r) g k = tt

pub post_where : {A B : Type 0} (P : A → Type 0) (Q : B → Type 0) (y : Result Value A) (g : A → M Value B) → Post P y → ((v : A) (r : Run Value) → P v → Post Q (g v r)) → Post Q (and_then y g)
post_where P Q (went v r) g h k = k v r h
post_where P Q (ended e r) g h k = tt

-- What holds of an answer and the run there.
abbrev pub Holds : {A : Type 0} → (A → Run Value → Type 0) → Result Value A → Type 0
Holds P (went v r) = P v r
Holds P (ended e r) = Unit {0}

pub none_kept : {B : Type 0} (i : ℕ) (v : Value) → slice_get {X = Value} [] i ≡ Some v → B
none_kept i v e = let h : ◌≡◌ {A = Option Value} None (Some v) = e in cc

-- ---- evaluations put together otherwise

pub regrouped : {A B C : Type 0} (y : Result Value A) (h : A → B) (k : B → M Value C) → and_then y (λ v. k (h v)) ≡ and_then (and_then y (λ v. pure (h v))) k
regrouped (went v r) h k = refl
regrouped (ended e r) h k = refl

pub reassociated : {A B C : Type 0} (y : Result Value A) (g : A → M Value B) (h : B → M Value C) → and_then (and_then y g) h ≡ and_then y (λ v r. and_then (g v r) h)
reassociated (went v r) g h = refl
reassociated (ended e r) g h = refl

pub bind_pure : {A : Type 0} (y : Result Value A) → and_then y (λ v. pure v) ≡ y
bind_pure (went v r) = refl
bind_pure (ended e r) = refl

pub bool_is : (v : Value) (r : Run Value) → Post (λ b. v ≡ bool b) (need_bool v r)
bool_is (bool b) r = refl
bool_is values.null r = tt
bool_is (values.num z) r = tt
bool_is (values.text s) r = tt
bool_is (values.at a) r = tt

module _ (prog : Loaded) (f : Activation prog) where
  -- the state at a point, with these slots
  abbrev pub lands : Point → List Value → Store → State
  lands x slots s = record { frame = record { unit = f.number; place = x.place; base = length f.below }; callers = f.callers; values = (f.below ++ slots) ++ x.ops; store = s }

  -- The slots hold the variables, the oldest first, and `this` before them.
  pub record Fits (n : Open) (slots : List Value) (r : Run Value) : Type 0 where
    pub size : length slots ≡ f.unit.locals
    pub count : length r.vars ≡ n.vars
    pub vars : (k : ℕ) → k < n.vars → slice_get slots (f.first + k) ≡ slice_get r.vars (n.vars - suc k)
    pub kept : (i : ℕ) (v : Value) → slice_get n.kept i ≡ Some v → slice_get slots (f.scratch + i) ≡ Some v
    pub this : f.of_this ≡ true → slice_get slots 0 ≡ Some f.me
    pub self : r.this ≡ f.me
    pub follows : Follows prog.p f.begun r.store

  -- the heap and the top-level variables, where a run fits
  pub good_of : {n : Open} {slots : List Value} {r : Run Value} → Fits n slots r → Runs prog.p r
  good_of {r = r} h = runs_on prog.p (bare f.begun) r f.runs h.follows

  -- the machine comes to a point, with what the run holds. What it did is paid for by the size of the code and the turns spent.
  pub record Reaches (size before : ℕ) (s : State) (x : Point) (r : Run Value) : Type 0 where
    pub slots : List Value
    pub count : ℕ
    pub fits : Fits x.open_vars slots r
    pub comes : Comes prog count s (lands x slots r.store)
    pub bound : count + worth prog.pays r.store.turns ≤ size + worth prog.pays before
    pub fewer : r.store.turns ≤ before

  pub record Stops (size before : ℕ) (s : State) (e : Ending) (r : Run Value) : Type 0 where
    pub count : ℕ
    pub ends : Ends prog count s (told e r.store)
    pub bound : count + worth prog.pays r.store.turns ≤ size + worth prog.pays before

  abbrev pub Leads : {A : Type 0} → ℕ → ℕ → State → (A → Point) → Result Value A → Type 0
  Leads size before s t (went v r) = Reaches size before s (t v) r
  Leads size before s t (ended e r) = Stops size before s e r

  -- From every run that fits, the code from one point on does the evaluation, and comes to the point of its answer.
  pub record Does {A : Type 0} (size : ℕ) (x : Point) (m : M Value A) (t : A → Point) : Type 0 where
    pub does : (slots : List Value) (r : Run Value) → Fits x.open_vars slots r → Leads size r.store.turns (lands x slots r.store) t (m r)

  -- ---- one instruction

  -- a greater size
  pub stops_more : (a b before : ℕ) (s : State) (e : Ending) (r : Run Value) → a ≤ b → Stops a before s e r → Stops b before s e r
  stops_more a b before s e r h l = record { count = l.count; ends = l.ends; bound = omega (arith, l.bound) }

  pub leads_more : {A : Type 0} (a b before : ℕ) (s : State) (t : A → Point) → a ≤ b → (y : Result Value A) → Leads a before s t y → Leads b before s t y
  leads_more a b before s t h (went v r) l = record { slots = l.slots; count = l.count; fits = l.fits; comes = l.comes; bound = omega (arith, l.bound); fewer = l.fewer }
  leads_more a b before s t h (ended e r) l = stops_more a b before s e r h l

  -- what the instruction at a point does
  abbrev pub acts : Instr → State → Step
  acts = act prog.p prog.pool (answers prog) f.unit

  pub act_is : (x : Point) (slots : List Value) (s : Store) (i : Instr) → slice_get f.unit.code x.place ≡ Some i → goes prog (lands x slots s) ≡ acts i (lands x slots s)
  act_is x slots s i h = rw (f.there, h) refl

  -- an instruction that goes on, with an answer and a run that it makes of the run
  abbrev pub Moves : {A : Type 0} → Point → (Run Value → A) → (Run Value → Run Value) → (A → Point) → Type 0
  Moves x g h t = (slots : List Value) (r : Run Value) → Fits x.open_vars slots r →
      (new : List Value) × (Fits (t (g r)).open_vars new (h r)) × (goes prog (lands x slots r.store) ≡ to (lands (t (g r)) new (h r).store)) × ((h r).store.turns ≡ r.store.turns)

  -- ---- the code at a place

  -- these instructions stand at the place
  abbrev pub Stands : ℕ → List Instr → Type 0
  Stands t [] = Unit {0}
  Stands t (i ∷ more) = (slice_get f.unit.code t ≡ Some i) × Stands (t + 1) more

  pub stands_front : (t : ℕ) (a b : List Instr) → Stands t (a ++ b) → Stands t a
  stands_front t [] b h = tt
  stands_front t (i ∷ a) b h = (h.0, stands_front (t + 1) a b h.1)

  pub stands_back : (t u : ℕ) (a b : List Instr) → t + length a ≡ u → Stands t (a ++ b) → Stands u b
  stands_back t u [] b e h = let k : t ≡ u = omega (arith, e) in subst (λ n. Stands n b) k h
  stands_back t u (i ∷ a) b e h = stands_back (t + 1) u a b (omega (arith, e)) h.1

  -- the unit's code stands at its beginning
  pub stands_all : (front code : List Instr) → f.unit.code ≡ front ++ code → Stands (length front) code
  stands_all front [] e = tt
  stands_all front (i ∷ more) e =
      let a : slice_get f.unit.code (length front) ≡ Some i =
      ap (λ l. slice_get l (length front)) e ∙ ap (slice_get (front ++ i ∷ more)) (omega arith) ∙ get_right front (i ∷ more) 0 in
      let n : length (front ++ i ∷ []) ≡ length front + 1 = length-append front (i ∷ []) in
      (a, subst (λ t. Stands t more) n (stands_all (front ++ i ∷ []) more (e ∙ sym (append_assoc front (i ∷ []) more))))

  -- ---- values on top

  pub pushed : (slots ops : List Value) (v : Value) → ((f.below ++ slots) ++ ops) ++ v ∷ [] ≡ (f.below ++ slots) ++ (ops ++ v ∷ [])
  pushed slots ops v = append_assoc (f.below ++ slots) ops (v ∷ [])

  -- the last operands, with all that is below them
  pub top_at : (x : Point) (slots : List Value) (s : Store) (n : ℕ) (ops ws : List Value) (go : List Value → List Value → Step) → length slots ≡ f.unit.locals → x.ops ≡ ops ++ ws → length ws ≡ n
      → top n f.unit (lands x slots s) go ≡ go ((f.below ++ slots) ++ ops) ws
  top_at x slots s n ops ws go size e len =
      let values : List Value = (f.below ++ slots) ++ x.ops in
      let vs : List Value = (f.below ++ slots) ++ ops in
      let is : values ≡ vs ++ ws = ap (λ l. (f.below ++ slots) ++ l) e ∙ sym (append_assoc (f.below ++ slots) ops ws) in
      let enough : nat_le (length f.below + slot_count f.unit + n) (length values) ≡ true =
      le-leb (length f.below + slot_count f.unit + n) (length values) (omega (arith, ap length is, length-append vs ws, length-append (f.below ++ slots) ops, length-append f.below slots, size, f.slot_count_is, len)) in
      let front : take (length values - n) values ≡ vs = subst (λ l. take (length l - n) l ≡ vs) (sym is) (below_last vs ws n len) in
      let back : drop (length values - n) values ≡ ws = subst (λ l. drop (length l - n) l ≡ ws) (sym is) (the_last vs ws n len) in
      rw (enough, front, back) refl

  pub top_one_at : (x : Point) (slots : List Value) (s : Store) (ops : List Value) (v : Value) (go : List Value → Value → Step) → length slots ≡ f.unit.locals → x.ops ≡ ops ++ v ∷ []
      → top_one f.unit (lands x slots s) go ≡ go ((f.below ++ slots) ++ ops) v
  top_one_at x slots s ops v go size e = top_at x slots s 1 ops (v ∷ []) (λ below ws. one ws (go below)) size e refl

  pub top_two_at : (x : Point) (slots : List Value) (s : Store) (ops : List Value) (v w : Value) (go : List Value → Value → Value → Step) → length slots ≡ f.unit.locals → x.ops ≡ ops ++ v ∷ w ∷ []
      → top_two f.unit (lands x slots s) go ≡ go ((f.below ++ slots) ++ ops) v w
  top_two_at x slots s ops v w go size e = top_at x slots s 2 ops (v ∷ w ∷ []) (λ below ws. two ws (go below)) size e refl

module _ {prog : Loaded} {f : Activation prog} where
  -- ---- evaluations one behind the other

  pub leads_on : {B : Type 0} (a b before : ℕ) (s : State) (x : Point) (r : Run Value) (w : B → Point) (l : Reaches prog f a before s x r)
      (y : Result Value B) → Leads prog f b r.store.turns (lands prog f x l.slots r.store) w y → Leads prog f (a + b) before s w y
  leads_on a b before s x r w l (went v q) m = record {
    slots = m.slots;
    count = l.count + m.count;
    fits = m.fits;
    comes = comes_on prog l.comes m.comes;
    bound = omega (arith, l.bound, m.bound);
    fewer = omega (arith, l.fewer, m.fewer);
  }
  leads_on a b before s x r w l (ended e q) m = record {
    count = l.count + m.count;
    ends = comes_to_end prog l.comes m.ends;
    bound = omega (arith, l.bound, m.bound);
  }

  leads_then : {A B : Type 0} (a b before : ℕ) (s : State) (t : A → Point) (g : A → M Value B) (w : B → Point) → ((v : A) → Does prog f b (t v) (g v) w)
      → (y : Result Value A) → Leads prog f a before s t y → Leads prog f (a + b) before s w (and_then y g)
  leads_then a b before s t g w k (went v r) l = leads_on a b before s (t v) r w l (g v r) ((k v).does l.slots r l.fits)
  leads_then a b before s t g w k (ended e r) l = stops_more prog f a (a + b) before s e r (omega arith) l

  pub does_bind : {A B : Type 0} {a b : ℕ} {x : Point} {m : M Value A} {t : A → Point} {g : A → M Value B} {w : B → Point}
      → Does prog f a x m t → ((v : A) → Does prog f b (t v) (g v) w) → Does prog f (a + b) x (m >>= g) w
  does_bind {a = a} {b = b} {x = x} {m = m} {t = t} {g = g} {w = w} d k =
      record { does = λ slots r h. leads_then a b r.store.turns (lands prog f x slots r.store) t g w k (m r) (d.does slots r h) }

  pub does_then : {A B : Type 0} {a b : ℕ} {x : Point} {m : M Value A} {t : A → Point} {n : M Value B} {w : B → Point}
      → Does prog f a x m t → ((v : A) → Does prog f b (t v) n w) → Does prog f (a + b) x (m >> n) w
  does_then {a = a} {b = b} {x = x} {m = m} {t = t} {n = n} {w = w} d k =
      record { does = λ slots r h. leads_then a b r.store.turns (lands prog f x slots r.store) t (λ _. n) w k (m r) (d.does slots r h) }

  -- a greater size
  pub does_more : {A : Type 0} {a b : ℕ} {x : Point} {m : M Value A} {t : A → Point} → a ≤ b → Does prog f a x m t → Does prog f b x m t
  does_more {a = a} {b = b} {x = x} {m = m} {t = t} h d =
      record { does = λ slots r fits. leads_more prog f a b r.store.turns (lands prog f x slots r.store) t h (m r) (d.does slots r fits) }

  -- the same point, written otherwise
  pub does_from : {A : Type 0} {a : ℕ} {x y : Point} {m : M Value A} {t : A → Point} → x ≡ y → Does prog f a x m t → Does prog f a y m t
  does_from {a = a} {m = m} {t = t} e d = subst (λ z. Does prog f a z m t) e d

  pub does_to : {A : Type 0} {a : ℕ} {x : Point} {m : M Value A} {t w : A → Point} → ((v : A) → t v ≡ w v) → Does prog f a x m t → Does prog f a x m w
  does_to {a = a} {x = x} {m = m} e d = subst (λ z. Does prog f a x m z) (λ i v. e v i) d

  -- no instruction
  pub does_pure : {A : Type 0} {t : A → Point} (v : A) → Does prog f 0 (t v) (pure v) t
  does_pure {t = t} v = record {
    does = λ slots r h. record { slots = slots; count = 0; fits = h; comes = comes_none prog (lands prog f (t v) slots r.store); bound = omega arith; fewer = omega arith };
  }

  -- at most so many instructions, to the same points
  pub ends_at : {A : Type 0} {a b : ℕ} {x : Point} {m : M Value A} {t u : A → Point} → a ≤ b → ((v : A) → t v ≡ u v) → Does prog f a x m t → Does prog f b x m u
  ends_at h e d = does_more h (does_to e d)

  pub does_regroup : {A B C : Type 0} {a : ℕ} {x : Point} {w : C → Point} (m : M Value A) (h : A → B) (k : B → M Value C) → Does prog f a x (m >>= (λ v. k (h v))) w → Does prog f a x ((m >>= (λ v. pure (h v))) >>= k) w
  does_regroup {a = a} {x = x} {w = w} m h k d = subst (λ l. Does prog f a x l w) (λ i r. regrouped (m r) h k i) d

  pub does_assoc : {A B C : Type 0} {a : ℕ} {x : Point} {w : C → Point} (m : M Value A) (g : A → M Value B) (h : B → M Value C) → Does prog f a x ((m >>= g) >>= h) w → Does prog f a x (m >>= (λ v. g v >>= h)) w
  does_assoc {a = a} {x = x} {w = w} m g h d = subst (λ l. Does prog f a x l w) (λ i r. reassociated (m r) g h i) d

  -- of an answer that is known only its own point counts
  pub known_to : {A : Type 0} {a : ℕ} {x : Point} {t w : A → Point} (v : A) → t v ≡ w v → Does prog f a x (pure v) t → Does prog f a x (pure v) w
  known_to {a = a} {x = x} v e d = record { does = λ slots r h. subst (λ z. Reaches prog f a r.store.turns (lands prog f x slots r.store) z r) e (d.does slots r h) }

  pub given_at : (n : Open) (t : ℕ) (ops : List Value) (v : Value) → Does prog f 0 (point n t (ops ++ v ∷ [])) (pure v) (λ w. point n t (ops ++ w ∷ []))
  given_at n t ops v = does_pure v

  pub leads_where : {A B : Type 0} (P : A → Type 0) (a b before : ℕ) (s : State) (t : A → Point) (g : A → M Value B) (w : B → Point) → ((v : A) → P v → Does prog f b (t v) (g v) w)
      → (y : Result Value A) → Post P y → Leads prog f a before s t y → Leads prog f (a + b) before s w (and_then y g)
  leads_where P a b before s t g w k (went v r) is l = leads_on a b before s (t v) r w l (g v r) ((k v is).does l.slots r l.fits)
  leads_where P a b before s t g w k (ended e r) is l = stops_more prog f a (a + b) before s e r (omega arith) l

  -- what holds of the answer is handed on
  pub does_where : {A B : Type 0} (P : A → Type 0) {a b : ℕ} {x : Point} {m : M Value A} {t : A → Point} {g : A → M Value B} {w : B → Point}
      → Does prog f a x m t → ((r : Run Value) → Post P (m r)) → ((v : A) → P v → Does prog f b (t v) (g v) w) → Does prog f (a + b) x (m >>= g) w
  does_where P {a = a} {b = b} {x = x} {m = m} {t = t} {g = g} {w = w} d is k =
      record { does = λ slots r h. leads_where P a b r.store.turns (lands prog f x slots r.store) t g w k (m r) (is r) (d.does slots r h) }

  leads_when : {A B : Type 0} (P : A → Run Value → Type 0) (a b before : ℕ) (s : State) (t : A → Point) (g : A → M Value B) (w : B → Point)
      → ((v : A) (slots : List Value) (r : Run Value) → Fits prog f (t v).open_vars slots r → P v r → Leads prog f b r.store.turns (lands prog f (t v) slots r.store) w (g v r))
      → (y : Result Value A) → Holds P y → Leads prog f a before s t y → Leads prog f (a + b) before s w (and_then y g)
  leads_when P a b before s t g w k (went v r) is l = leads_on a b before s (t v) r w l (g v r) (k v l.slots r l.fits is)
  leads_when P a b before s t g w k (ended e r) is l = stops_more prog f a (a + b) before s e r (omega arith) l

  -- what holds of the answer and the run there is handed on
  pub does_when : {A B : Type 0} (P : A → Run Value → Type 0) (b : ℕ) (g : A → M Value B) {a : ℕ} {x : Point} {m : M Value A} {t : A → Point} {w : B → Point}
      → Does prog f a x m t → ((r : Run Value) → Holds P (m r))
      → ((v : A) (slots : List Value) (r : Run Value) → Fits prog f (t v).open_vars slots r → P v r → Leads prog f b r.store.turns (lands prog f (t v) slots r.store) w (g v r)) → Does prog f (a + b) x (m >>= g) w
  does_when P b g {a = a} {x = x} {m = m} {t = t} {w = w} d is k =
      record { does = λ slots r h. leads_when P a b r.store.turns (lands prog f x slots r.store) t g w k (m r) (is r) (d.does slots r h) }

  -- instructions behind an evaluation, which change no answer
  pub does_skip : {A : Type 0} {a b : ℕ} {x : Point} {m : M Value A} {t w : A → Point} → Does prog f a x m t → ((v : A) → Does prog f b (t v) (pure v) w) → Does prog f (a + b) x m w
  does_skip {a = a} {b = b} {x = x} {m = m} {w = w} d k = subst (λ n. Does prog f (a + b) x n w) (λ i r. bind_pure (m r) i) (does_bind d k)

  -- what was kept is not needed any more
  pub forgets : {A : Type 0} (m t : ℕ) (ks ops : List Value) (v : A) → Does prog f 0 (point (record { vars = m; kept = ks }) t ops) (pure v) (λ _. point (opens m) t ops)
  forgets m t ks ops v = record {
    does = λ slots r h. record {
      slots = slots;
      count = 0;
      fits = record { size = h.size; count = h.count; vars = h.vars; kept = λ i v e. none_kept i v e; this = h.this; self = h.self; follows = h.follows };
      comes = comes_none prog (lands prog f (point (record { vars = m; kept = ks }) t ops) slots r.store);
      bound = omega arith;
      fewer = omega arith;
    };
  }

  pub does_move : {A : Type 0} {x : Point} {t : A → Point} (g : Run Value → A) (h : Run Value → Run Value) → Moves prog f x g h t → Does prog f 1 x (λ r. went (g r) (h r)) t
  does_move {x = x} {t = t} g h k = record {
    does = λ slots r fits. let m = k slots r fits in record {
      slots = m.0;
      count = 1;
      fits = m.1;
      comes = comes_one prog (lands prog f x slots r.store) (lands prog f (t (g r)) m.0 (h r).store) m.2;
      bound = omega (arith, ap (worth prog.pays) m.3);
      fewer = omega (arith, m.3);
    };
  }

  one_leads : {A : Type 0} (x : Point) (t : A → Point) (slots : List Value) (r : Run Value) (s : State) → Fits prog f x.open_vars slots r → ((v : A) → (t v).open_vars ≡ x.open_vars)
      → (y : Result Value A) → Follows prog.p r.store (last (within r y)).store
      → goes prog (lands prog f x slots r.store) ≡ after s y (λ v q. to (lands prog f (t v) slots q.store)) → Leads prog f 1 r.store.turns (lands prog f x slots r.store) t (within r y)
  one_leads x t slots r s fits same (went v q) f1 e = record {
    slots = slots;
    count = 1;
    fits = record {
      size = fits.size;
      count = fits.count ∙ ap (λ (n : Open). n.vars) (sym (same v));
      vars = subst (λ (n : Open). (k : ℕ) → k < n.vars → slice_get slots (f.first + k) ≡ slice_get r.vars (n.vars - suc k)) (sym (same v)) fits.vars;
      kept = subst (λ (n : Open). (i : ℕ) (w : Value) → slice_get n.kept i ≡ Some w → slice_get slots (f.scratch + i) ≡ Some w) (sym (same v)) fits.kept;
      this = fits.this;
      self = fits.self;
      follows = (follows prog.p).on f.begun r.store q.store fits.follows f1;
    };
    comes = comes_one prog (lands prog f x slots r.store) (lands prog f (t v) slots q.store) e;
    bound = omega (arith, worth_mono prog.pays q.store.turns r.store.turns f1.goes.turns);
    fewer = f1.goes.turns;
  }
  one_leads x t slots r s fits same (ended d q) f1 e = record {
    count = 1;
    ends = ends_one prog (lands prog f x slots r.store) d q.store e;
    bound = omega (arith, worth_mono prog.pays q.store.turns r.store.turns f1.goes.turns);
  }

  -- an instruction that does a step of the meaning on the store alone
  pub does_one : {A : Type 0} {x : Point} {m : M Value A} {t : A → Point} → Shared prog.p m → ((v : A) → (t v).open_vars ≡ x.open_vars)
      → ((slots : List Value) (r : Run Value) → Fits prog f x.open_vars slots r → (s : State) × (goes prog (lands prog f x slots r.store) ≡ after s (m (bare r.store)) (λ v q. to (lands prog f (t v) slots q.store))))
      → Does prog f 1 x m t
  does_one {x = x} {m = m} {t = t} shared same k = record {
    does = λ slots r fits. let e = shared.same r in let i = k slots r fits in
        subst (λ y. Leads prog f 1 r.store.turns (lands prog f x slots r.store) t y) (sym e)
        (one_leads x t slots r i.0 fits same (m (bare r.store)) (subst (λ y. Follows prog.p r.store (last y).store) e (shared.follows r)) i.1);
  }
