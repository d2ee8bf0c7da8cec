-- The laws of entries.
use Rattle.std.proofs.Common.{◌≡◌, ℕ, ◌+◌, ◌<◌, ◌≤◌, [], refl, ap, sym, subst, zero, suc, arith}
use Rattle.std.specs.Prelude.{◌≢◌, ◌-◌, Bool, true, false, not, ◌&&◌, ◌||◌, nat_lt, IsTrue, All, Option, Some, None, length, position, unwrap_or, is_some}
use Rattle.std.specs.Str.{bytes_eq}
use Rattle.std.proofs.lemmas.List.Elements.{All-nil, All-weaker}
use Rattle.std.proofs.lemmas.List.Quantifiers.{position-Some}
use Rattle.std.proofs.lemmas.Bool.{lt-ltb, false≢true}
use Rattle.std.proofs.lemmas.Slice.Eq.{bytes_eq-Decides}
use Rattle.dart_syntax.specs.Syntax.{Tree, Function}
use Rattle.dart_values.specs.Values.{Text, null}
use Rattle.std.proofs.lemmas.List.{length-append}
use Rattle.std.proofs.lemmas.List.Sums.{count_by-le-length}
use Rattle.dart_meaning.specs.Place.{Place, reading, writing, in_print, in_list}
use Rattle.dart_meaning.specs.Sites as Sites
use Rattle.dart_meaning.specs.Sites.{site_of, sites, text_sites, prelude_sites}
use Rattle.dart_meaning.specs.Program.{running}
use Rattle.dart_meaning.specs.Classes.{body_of, object, class_names, class_numbers, class_name, class_named, is_abstract, is_concrete, is_constructed}
use Rattle.dart_meaning.specs.Run.{Run, Store, Ending, done, threw, out_of_turns, stack_overflow, Result, went, ended}
use Rattle.dart_meaning.specs.Entry.{enter, start, globals_of, greatest_depth, entry_run, seen, told, left}
use Rattle.dart_meaning.specs.Laws.{IsBefore, FewerTurnsTellAFront, EnoughTurnsAreEnough, OutOfTurnsSpendsAll, IsCall, AskedAtSites, AskedAtSitesOfTree}
use Rattle.dart_meaning.proofs.ClosedTree.{Fits, enter_holds}
use Rattle.dart_meaning.proofs.Closed.{front_refl}
use Rattle.dart_meaning.proofs.Steady.{Steady, Longer, Told, state, steady}
use Rattle.dart_meaning.proofs.Counted as Counting
use Rattle.dart_meaning.proofs.Counted.{Fair, Counted, counted}

-- ---- more turns

anything : (tree : Tree) (site_of : Place → ℕ) → Fits tree site_of (λ _. Unit {0}) (λ _. Unit {0})
anything tree site_of = record { sites = λ place. tt; made = λ name h. tt }

entry_steady : (tree : Tree) (site_of : Place → ℕ) (f : Function) → Steady (enter tree site_of greatest_depth (running (body_of None f.params f.body) null []))
entry_steady tree site_of f = enter_holds steady tree site_of (anything tree site_of) greatest_depth (running (body_of None f.params f.body) null [])

longer : (tree : Tree) (site_of : Place → ℕ) (f : Function) (n more : ℕ) → Longer more (start (globals_of tree) n) (entry_run tree site_of greatest_depth f n) (entry_run tree site_of greatest_depth f (n + more))
longer tree site_of f n more = (entry_steady tree site_of f).runs more (start (globals_of tree) n)

-- ---- what is told

same_told : (e f : Ending) (s : Store) (n : ℕ) → IsBefore (told e s) (told f (record s { turns = n }))
same_told e f s n = record { lines = front_refl s.lines; asked = front_refl s.asked; tests = front_refl s.tests }

told_before : {V A : Type 0} (e : Ending) (s : Run V) (y : Result V A) → Told s (state y) → IsBefore (told e s.store) (seen y)
told_before e s (went a t) h = record { lines = h.lines; asked = h.asked; tests = h.tests }
told_before e s (ended f t) h = record { lines = h.lines; asked = h.asked; tests = h.tests }

before : {V A : Type 0} (d : ℕ) (r : Run V) (x y : Result V A) → Longer d r x y → IsBefore (seen x) (seen y)
before d r (went a s) y h = subst (λ z. IsBefore (told done s.store) (seen z)) (sym h.1) (same_told done done s.store (s.store.turns + d))
before d r (ended done s) y h = subst (λ z. IsBefore (told done s.store) (seen z)) (sym h.1) (same_told done done s.store (s.store.turns + d))
before d r (ended (threw t) s) y h = subst (λ z. IsBefore (told (threw t) s.store) (seen z)) (sym h.1) (same_told (threw t) (threw t) s.store (s.store.turns + d))
before d r (ended stack_overflow s) y h = subst (λ z. IsBefore (told stack_overflow s.store) (seen z)) (sym h.1) (same_told stack_overflow stack_overflow s.store (s.store.turns + d))
before d r (ended out_of_turns s) y h = told_before out_of_turns s y h.1.1

pub fewer_turns_tell_a_front : FewerTurnsTellAFront
fewer_turns_tell_a_front tree site_of f n more = before more (start (globals_of tree) n) (entry_run tree site_of greatest_depth f n) (entry_run tree site_of greatest_depth f (n + more)) (longer tree site_of f n more)

enough : {V A : Type 0} (d : ℕ) (r : Run V) (x y : Result V A) → Longer d r x y → (seen x).ending ≢ out_of_turns → (seen y ≡ seen x) × (left y ≡ left x + d)
enough d r (went a s) y h e = (ap seen h.1, ap left h.1)
enough d r (ended done s) y h e = (ap seen h.1, ap left h.1)
enough d r (ended (threw t) s) y h e = (ap seen h.1, ap left h.1)
enough d r (ended stack_overflow s) y h e = (ap seen h.1, ap left h.1)
enough d r (ended out_of_turns s) y h e = absurd (e refl)

less_both : (n d x y : ℕ) → y ≡ x + d → n + d - y ≡ n - x
less_both n d x y h = omega (arith, h)

pub enough_turns_are_enough : EnoughTurnsAreEnough
enough_turns_are_enough tree site_of f n more h =
    let both = enough more (start (globals_of tree) n) (entry_run tree site_of greatest_depth f n) (entry_run tree site_of greatest_depth f (n + more)) (longer tree site_of f n more) h in
    (both.0, less_both n more (left (entry_run tree site_of greatest_depth f n)) (left (entry_run tree site_of greatest_depth f (n + more))) both.1)

IsOther : Ending → Type 0
IsOther out_of_turns = ⊥
IsOther _ = Unit {0}

not_out : {B : Type 0} (e : Ending) → IsOther e → e ≡ out_of_turns → B
unfolding IsOther
not_out e h k = absurd (subst IsOther k h)

left_state : {V A : Type 0} (y : Result V A) (n : ℕ) → (state y).store.turns ≤ n → left y ≤ n
left_state (went a t) n h = h
left_state (ended e t) n h = h

out : {V A : Type 0} (d : ℕ) (r : Run V) (x y : Result V A) → Longer d r x y → (seen x).ending ≡ out_of_turns → (left x ≡ 0) × (left y ≤ d - 1)
unfolding IsOther
out d r (went a s) y h e = not_out done tt e
out d r (ended done s) y h e = not_out done tt e
out d r (ended (threw t) s) y h e = not_out (threw t) tt e
out d r (ended stack_overflow s) y h e = not_out stack_overflow tt e
out d r (ended out_of_turns s) y h e = (h.1.0, left_state y (d - 1) h.1.2)

spends_all : (n more x y : ℕ) → x ≡ 0 → y ≤ 1 + more - 1 → (n - x ≡ n) × (n < n + (1 + more) - y)
spends_all n more x y h k = (omega (arith, h), omega (arith, k))

pub out_of_turns_spends_all : OutOfTurnsSpendsAll
out_of_turns_spends_all tree site_of f n more h =
    let both = out (1 + more) (start (globals_of tree) n) (entry_run tree site_of greatest_depth f n) (entry_run tree site_of greatest_depth f (n + (1 + more))) (longer tree site_of f n (1 + more)) h in
    spends_all n more (left (entry_run tree site_of greatest_depth f n)) (left (entry_run tree site_of greatest_depth f (n + (1 + more)))) both.0 both.1

-- ---- calls

-- a class that may be called
abbrev IsCalled : Tree → ℕ → Type 0
IsCalled tree c = (c < class_numbers tree) × IsTrue (is_concrete tree c)

or_left : (a b : Bool) → a ≡ true → (a || b) ≡ true
or_left true b h = refl
or_left false b h = absurd (false≢true h)

or_right : (a b : Bool) → b ≡ true → (a || b) ≡ true
or_right true b h = refl
or_right false b h = h

and_right : (a b : Bool) → (a && b) ≡ true → b ≡ true
and_right true b h = h
and_right false b h = absurd (false≢true h)

some_numbers : (n : ℕ) (c : ℕ) → c < 7 → c < 7 + n
some_numbers n c h = omega (arith, h)

built_in_called : (tree : Tree) (c : ℕ) → c < 7 → IsCalled tree c
built_in_called tree c h = (omega (arith, h), or_left (nat_lt c 7) (not (is_abstract tree (class_name tree c))) (lt-ltb c 7 h))

named_called : (tree : Tree) (name : Text) (c : ℕ) → (bytes_eq name object || (is_some (class_named tree name) && not (is_abstract tree name))) ≡ true → position (bytes_eq name) (class_names tree) ≡ Some c → IsCalled tree c
named_called tree name zero h e = built_in_called tree 0 (omega arith)
named_called tree name (suc c) h e =
    let found = position-Some (bytes_eq name) (class_names tree) (suc c) [] e in
    let same : name ≡ class_name tree (suc c) = (bytes_eq-Decides name (class_name tree (suc c))).0 found.1 in
    let other : bytes_eq name object ≡ false = found.2 0 (omega arith) in
    let concrete : not (is_abstract tree name) ≡ true = and_right (is_some (class_named tree name)) (not (is_abstract tree name)) (subst (λ b. (b || (is_some (class_named tree name) && not (is_abstract tree name))) ≡ true) other h) in
    (found.0, or_right (nat_lt (suc c) 7) (not (is_abstract tree (class_name tree (suc c)))) (subst (λ n. not (is_abstract tree n) ≡ true) same concrete))

numbered_called : (tree : Tree) (name : Text) (o : Option ℕ) → is_constructed tree name ≡ true → position (bytes_eq name) (class_names tree) ≡ o → IsCalled tree (unwrap_or o 0)
numbered_called tree name None h e = built_in_called tree 0 (omega arith)
numbered_called tree name (Some c) h e = named_called tree name c h e

calls_fit : (tree : Tree) (site_of : Place → ℕ) (sites : ℕ) → ((place : Place) → site_of place < sites) → Fits tree site_of (λ s. s < sites) (IsCalled tree)
calls_fit tree site_of sites h = record { sites = h; made = λ name made. numbered_called tree name (position (bytes_eq name) (class_names tree)) made refl }

asked_state : {V A : Type 0} (x : Result V A) → (seen x).asked ≡ (state x).store.asked
asked_state (went a r) = refl
asked_state (ended e r) = refl

module _ (tree : Tree) (sites : ℕ) where
  abbrev IsCounted : ℕ × ℕ → Type 0
  IsCounted = Counting.IsCounted (λ s. s < sites) (IsCalled tree) (built_in_called tree)

  fair : (site_of : Place → ℕ) → ((place : Place) → site_of place < sites) → (f : Function) (n : ℕ) → Fair (λ s. s < sites) (IsCalled tree) (built_in_called tree) (state (entry_run tree site_of greatest_depth f n))
  fair site_of h f n =
      (enter_holds (counted (λ s. s < sites) (IsCalled tree) (built_in_called tree)) tree site_of (calls_fit tree site_of sites h) greatest_depth (running (body_of None f.params f.body) null [])).keeps
      (start (globals_of tree) n) (record { asked = All-nil IsCounted; heap = All-nil (IsCalled tree) })

pub asked_at_sites : AskedAtSites
asked_at_sites tree site_of sites h f n =
    All-weaker (IsCounted tree sites) (IsCall tree sites) (λ call k. (k.0, k.1.0, k.1.1)) _
    (subst (All (IsCounted tree sites)) (sym (asked_state (entry_run tree site_of greatest_depth f n))) (fair tree sites site_of h f n).asked)

-- ---- with the sites of the tree

two_more : (n : ℕ) → (n < n + 2) × (n + 1 < n + 2)
two_more n = (omega arith, omega arith)

few : (k n : ℕ) → k ≤ n → k < n + 2
few k n h = omega (arith, h)

site_of_tree : (tree : Tree) (place : Place) → site_of tree place < length (text_sites tree) + 2
site_of_tree tree (reading byte) = few _ (length (text_sites tree)) (count_by-le-length (λ s. nat_lt (Sites.key s.place) (Sites.key (reading byte))) (text_sites tree))
site_of_tree tree (writing byte) = few _ (length (text_sites tree)) (count_by-le-length (λ s. nat_lt (Sites.key s.place) (Sites.key (writing byte))) (text_sites tree))
site_of_tree tree in_print = (two_more (length (text_sites tree))).0
site_of_tree tree in_list = (two_more (length (text_sites tree))).1

pub asked_at_sites_of_tree : AskedAtSitesOfTree
asked_at_sites_of_tree tree f n =
    asked_at_sites tree (site_of tree) (length (sites tree)) (λ place. subst (λ count. site_of tree place < count) (sym (length-append (text_sites tree) prelude_sites)) (site_of_tree tree place)) f n
