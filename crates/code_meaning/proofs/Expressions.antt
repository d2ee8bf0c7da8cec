-- The code of an expression evaluates it.
use Rattle.std.proofs.Common.{◌≡◌, ℕ, zero, suc, ◌+◌, ◌*◌, ◌≤◌, List, [], ◌∷◌, ◌++◌, length, map, refl, sym, ap, ◌∙◌, subst, arith, append_assoc, append-nil}
use Rattle.std.specs.Prelude.{true, false, not, nat_eq, slice_get, codes, Option, Some, None}
use Rattle.program.specs.declared.literal.Literal.{Literal}
use Rattle.program.specs.declared.literal.Literal.TheVariants as literals
use Rattle.program.specs.declared.numbered.Function.{Function}
use Rattle.program.specs.declared.numbered.SelectorKind.TheVariants as kind
use Rattle.program.specs.Bodies as c
use Rattle.program.specs.Bodies.{Exp, Exps, Pieces, Calls, Links, Target, Update, count}
use Rattle.program.specs.Parts.{selector_at}
use Rattle.program.specs.Sound.{FunctionAccepts, Sound, AllSound, SoundPieces, SoundCalls, SoundLinks, SoundTarget, SoundUpdate}
use Rattle.dart_values.specs.Values as values
use Rattle.dart_values.specs.Values.{Value, null, bool}
use Rattle.dart_meaning.specs.Calls as calls
use Rattle.dart_meaning.specs.Numbered as n
use Rattle.dart_meaning.specs.Numbered.{Destination, at_local, at_global, at_super, at_member, at_element}
use Rattle.dart_meaning.specs.Program.{to_string}
use Rattle.dart_meaning.specs.Run.{Run, Result, went, ended, and_then, M, ◌>>=◌, pure, choose}
use Rattle.code_unit.specs.declared.instr.Instr.{Instr}
use Rattle.code_unit.specs.declared.instr.Instr.TheVariants.{Local, SetLocal, CallStatic, New}
use Rattle.program_code.specs.Code as d
use Rattle.program_code.specs.IsCode.{Known}
use Rattle.program_code.specs.Needs.{Covers, CoversAll, CoversPieces, CoversCalls, CoversLinks, CoversTarget, CoversUpdate}
use Rattle.program_code.specs.Sizes.{size, sizes, pieces_size, pieces_count, calls_size, links_size, joint_size, make_size, place_size, update_size, read_size, keep_size, set_size, written}
use Rattle.program_code.proofs.Lengths.{code_length, pieces_length, linked_length, place_length, update_length, read_length}
use Rattle.machine_runs.proofs.Loaded.{Loaded, constructor_number}
use Rattle.machine_runs.proofs.Points.{opens, point, same_point, Activation, Does, Stands, stands_front, stands_back, Post, post_then, post_where, does_bind, does_then, does_more, does_from, does_to, does_where, does_regroup, does_skip, does_pure, known_to, ends_at, given_at}
use Rattle.machine_runs.proofs.Instructions.{flat, does_const, does_local, does_this, does_me, does_global, does_jump, does_test, does_not, does_expect_text, does_is_class, does_concat, does_list, does_throw}
use Rattle.machine_runs.proofs.Slots.{stash, fetch}
use Rattle.machine_runs.proofs.BodyCalls as run
use Rattle.machine_runs.proofs.BodyCalls.{entered, does_send, does_function}
use Rattle.machine_runs.proofs.Constructions.{make_code, does_make}
use Rattle.code_meaning.proofs.Layouts.{Layout, asks_some, it_is, sends_n, operates, chosen, linked, right_at, code_len, codes_len, right_stands, combines, printed}
use Rattle.code_meaning.proofs.Destinations.{IsAt, AreAt, written_at, written_sound, place_ops, accepts_this, above_at, does_read, writes_at, increments}

-- ---- interpolations, as the texts that the code has on the stack

abbrev parts_of : (prog : Loaded) → Activation prog → Pieces → M Value (List (List ℕ))
parts_of prog f c.no_piece = pure []
parts_of prog f (c.piece site e after more) =
    n.value prog.p (entered prog f) e >>= (λ v. calls.to_text (run.calling prog f) site v >>= (λ shown. parts_of prog f more >>= (λ rest. pure (shown ∷ after ∷ rest))))

through : {A B C : Type 0} (y : Result Value A) (g : A → M Value B) (h : B → M Value C) (k : A → M Value C) → ((v : A) (r : Run Value) → k v r ≡ and_then (g v r) h) → and_then y k ≡ and_then (and_then y g) h
through (went v r) g h k e = e v r
through (ended d r) g h k e = refl

-- the meaning puts them together
parts_are : (prog : Loaded) (f : Activation prog) (ps : Pieces) (r : Run Value) → n.texts prog.p (entered prog f) ps r ≡ and_then (parts_of prog f ps r) (λ l. pure (flat l))
parts_are prog f c.no_piece r = refl
parts_are prog f (c.piece site e after more) r =
    through (n.value prog.p (entered prog f) e r) (λ v. calls.to_text (run.calling prog f) site v >>= (λ shown. parts_of prog f more >>= (λ rest. pure (shown ∷ after ∷ rest)))) (λ l. pure (flat l)) _
    (λ v q. through (calls.to_text (run.calling prog f) site v q) (λ shown. parts_of prog f more >>= (λ rest. pure (shown ∷ after ∷ rest))) (λ l. pure (flat l)) _
    (λ shown s. last_one shown (n.texts prog.p (entered prog f) more s) (parts_of prog f more s) (parts_are prog f more s)))
  where
    last_one : (shown : List ℕ) (x : Result Value (List ℕ)) (y : Result Value (List (List ℕ))) → x ≡ and_then y (λ l. pure (flat l))
        → and_then x (λ rest. pure (shown ++ (after ++ rest))) ≡ and_then (and_then y (λ rest. pure (shown ∷ after ∷ rest))) (λ l. pure (flat l))
    last_one shown x (went l s) h = rw h refl
    last_one shown x (ended d s) h = rw h refl

parts_count : (prog : Loaded) (f : Activation prog) (ps : Pieces) (r : Run Value) → Post (λ l. length (map values.text l) ≡ 2 * pieces_count ps) (parts_of prog f ps r)
parts_count prog f c.no_piece r = refl
parts_count prog f (c.piece site e after more) r =
    post_then (λ l. length (map values.text l) ≡ 2 * suc (pieces_count more)) (n.value prog.p (entered prog f) e r) _
    (λ v q. post_then (λ l. length (map values.text l) ≡ 2 * suc (pieces_count more)) (calls.to_text (run.calling prog f) site v q) _
    (λ shown s. post_where (λ l. length (map values.text l) ≡ 2 * pieces_count more) (λ l. length (map values.text l) ≡ 2 * suc (pieces_count more)) (parts_of prog f more s) _ (parts_count prog f more s) (λ l u h. omega (arith, h))))

-- there are as many values as expressions
pub values_count : (prog : Loaded) (f : Activation prog) (es : Exps) (r : Run Value) → Post (λ vs. length vs ≡ count es) (n.values prog.p (entered prog f) es r)
values_count prog f c.no_more r = refl
values_count prog f (c.also e more) r =
    post_then (λ vs. length vs ≡ suc (count more)) (n.value prog.p (entered prog f) e r) (λ v. n.values prog.p (entered prog f) more >>= (λ vs. pure (v ∷ vs)))
    (λ v s. post_where (λ vs. length vs ≡ count more) (λ vs. length vs ≡ suc (count more)) (n.values prog.p (entered prog f) more s) (λ vs. pure (v ∷ vs)) (values_count prog f more s) (λ vs q h. ap suc h))

-- ---- what is evaluated of a target has its shape

target_is : (prog : Loaded) (f : Activation prog) (to : Target) (r : Run Value) → Post (IsAt to) (n.destination prog.p (entered prog f) to r)
target_is prog f (c.to_local k) r = refl
target_is prog f (c.to_global k) r = refl
target_is prog f (c.to_super m) r = refl
target_is prog f (c.to_member e s) r = post_then (IsAt (c.to_member e s)) (n.value prog.p (entered prog f) e r) (λ v. pure (at_member v s)) (λ v q. (v, refl))
target_is prog f (c.to_element e i s) r =
    post_then (IsAt (c.to_element e i s)) (n.value prog.p (entered prog f) e r) (λ v. n.value prog.p (entered prog f) i >>= (λ w. pure (at_element v w s)))
    (λ v q. post_then (IsAt (c.to_element e i s)) (n.value prog.p (entered prog f) i q) (λ w. pure (at_element v w s)) (λ w x. (v, w, refl)))

update_is : (prog : Loaded) (f : Activation prog) (to : Update) (r : Run Value) → Post (AreAt to) (n.destinations prog.p (entered prog f) to r)
update_is prog f (c.of_local k) r = refl
update_is prog f (c.of_global k) r = refl
update_is prog f (c.of_super g m) r = refl
update_is prog f (c.of_member e g s) r = post_then (AreAt (c.of_member e g s)) (n.value prog.p (entered prog f) e r) (λ v. pure (at_member v g, at_member v s)) (λ v q. (v, refl))
update_is prog f (c.of_element e i g s) r =
    post_then (AreAt (c.of_element e i g s)) (n.value prog.p (entered prog f) e r) (λ v. n.value prog.p (entered prog f) i >>= (λ w. pure (at_element v w g, at_element v w s)))
    (λ v q. post_then (AreAt (c.of_element e i g s)) (n.value prog.p (entered prog f) i q) (λ w. pure (at_element v w g, at_element v w s)) (λ w x. (v, w, refl)))

module _ {prog : Loaded} {f : Activation prog} (y : Layout prog f) where
  abbrev pub co : Exp → ℕ → List Instr
  co = d.code prog.p y.constant f.first f.scratch

  abbrev pub cos : Exps → ℕ → List Instr
  cos = d.codes_of prog.p y.constant f.first f.scratch

  abbrev pub Has : Literal → Type 0
  Has = Known prog.p prog.pool.constants y.constant

  abbrev value : Exp → M Value Value
  value = n.value prog.p (entered prog f)

  -- ---- constructions

  stash_same : (k i : ℕ) → d.stash prog.p y.constant f.first f.scratch k i ≡ stash f.scratch k i
  stash_same k zero = refl
  stash_same k (suc i) = ap (λ l. SetLocal (f.scratch + k) ∷ l) (stash_same (suc k) i)

  fetch_same : (i : ℕ) → d.fetch prog.p y.constant f.first f.scratch i ≡ fetch f.scratch i
  fetch_same zero = refl
  fetch_same (suc i) = ap (λ l. Local (f.scratch + i) ∷ l) (fetch_same i)

  make_same : (class i : ℕ) → d.make prog.p y.constant f.first f.scratch class i ≡ make_code f.scratch (nat_eq class 0) (constructor_number prog.p class) (d.class_id class) i
  make_same class i = λ j. choose (nat_eq class 0) (New (d.class_id class) ∷ [])
      (stash_same 0 i j ++ (New (d.class_id class) ∷ (fetch_same i j ++ CallStatic (constructor_number prog.p class) (suc i) ∷ [])))

  -- ---- a call of a function

  calls_function : (g : ℕ) (args : Exps) (m t : ℕ) (ops : List Value) (o : Option Function) → slice_get prog.p.functions g ≡ o → FunctionAccepts (count args) o
      → Does prog f (sizes args) (point (opens m) t ops) (n.values prog.p (entered prog f) args) (λ vs. point (opens m) (t + sizes args) (ops ++ vs)) → slice_get f.unit.code (t + sizes args) ≡ Some (CallStatic g (count args))
      → Does prog f (size (c.call_function g args)) (point (opens m) t ops) (value (c.call_function g args)) (λ v. point (opens m) (t + size (c.call_function g args)) (ops ++ v ∷ []))
  calls_function g args m t ops None e accepts w at = absurd accepts
  calls_function g args m t ops (Some k) e accepts w at =
      ends_at (omega arith) (λ v. same_point (opens m) {t = t + sizes args + 1} {u = t + (sizes args + 1)} (omega arith) refl)
      (does_where (λ vs. length vs ≡ count args) w (values_count prog f args) (λ vs len. does_function (opens m) (t + sizes args) ops vs g (count args) k at len e accepts))

  -- ---- all expressions

  mutual
    pub does_exp : (e : Exp) (m t : ℕ) (ops : List Value) → m ≤ y.most → Sound prog.p f.here m e → Covers Has y.room e → Stands prog f t (co e t)
        → Does prog f (size e) (point (opens m) t ops) (value e) (λ v. point (opens m) (t + size e) (ops ++ v ∷ []))
    does_exp (c.constant k) m t ops small sound covers h = does_const (opens m) t ops (y.constant k) k h.0 covers
    does_exp c.this m t ops small sound covers h = does_this (opens m) t ops h.0 (f.this_is sound)
    does_exp (c.local k) m t ops small sound covers h = does_local (opens m) t ops k h.0 sound
    does_exp (c.global k) m t ops small sound covers h = does_global (opens m) t ops k h.0 sound
    does_exp (c.interpolation units more) m t ops small sound covers h =
        let parts : M Value (List (List ℕ)) = parts_of prog f more in
        let behind = stands_back prog f (t + 1) (t + 1 + pieces_size more) _ _ (ap (λ k. t + 1 + k) (pieces_length prog.p y.constant f.first f.scratch more (t + 1))) h.1 in
        ends_at (omega arith) (λ v. same_point (opens m) {t = t + 1 + pieces_size more + 1} {u = t + size (c.interpolation units more)} (omega arith) refl)
        (does_then (known_to {w = λ _. point (opens m) (t + 1) (ops ++ values.text units ∷ [])} (values.text units) refl (does_const (opens m) t ops (y.constant (literals.Str units)) (literals.Str units) h.0 covers.0))
        (λ _. subst (λ k. Does prog f (pieces_size more + 1) (point (opens m) (t + 1) (ops ++ values.text units ∷ [])) (k >>= (λ rest. pure (values.text (units ++ rest)))) (λ v. point (opens m) (t + 1 + pieces_size more + 1) (ops ++ v ∷ [])))
        (λ i r. sym (parts_are prog f more r) i)
        (does_regroup parts flat (λ rest. pure (values.text (units ++ rest)))
        (does_where (λ l. length (map values.text l) ≡ 2 * pieces_count more) (does_pieces more m (t + 1) (ops ++ values.text units ∷ []) small sound covers.1 (stands_front prog f (t + 1) _ _ h.1)) (parts_count prog f more)
        (λ l len. does_bind (does_from (same_point (opens m) refl (sym (append_assoc ops (values.text units ∷ []) (map values.text l))))
        (does_concat (opens m) (t + 1 + pieces_size more) ops (units ∷ l) (1 + 2 * pieces_count more) behind.0 (omega (arith, len))))
        (λ s. given_at (opens m) (t + 1 + pieces_size more + 1) ops (values.text s)))))))
    does_exp (c.call_function g args) m t ops small sound covers h =
        calls_function g args m t ops (slice_get prog.p.functions g) refl sound.0 (does_exps args m t ops small sound.1 covers (stands_front prog f t _ _ h)) (stands_back prog f t (t + sizes args) _ _ (codes_len y args t) h).0
    does_exp (c.print e) m t ops small sound covers h =
        ends_at (omega arith) (λ v. same_point (opens m) {t = t + size e + 4} {u = t + size (c.print e)} (omega arith) refl)
        (does_bind (does_exp e m t ops small sound covers (stands_front prog f t _ _ h)) (λ v. printed y m (t + size e) ops v (stands_back prog f t (t + size e) _ _ (code_len y e t) h)))
    does_exp (c.new class args) m t ops small sound covers h =
        ends_at (omega arith) (λ v. same_point (opens m) {t = t + sizes args + make_size class (count args)} {u = t + size (c.new class args)} (omega arith) refl)
        (does_where (λ vs. length vs ≡ count args) (does_exps args m t ops small sound.2 covers.1 (stands_front prog f t _ _ h)) (values_count prog f args)
        (λ vs len. does_make (d.class_id class) m (t + sizes args) ops vs (count args) (nat_eq class 0) refl len (omega (arith, y.apart, small)) (omega (arith, y.rooms, covers.0)) sound.0 sound.1
        (subst (Stands prog f (t + sizes args)) (make_same class (count args)) (stands_back prog f t (t + sizes args) _ _ (codes_len y args t) h))))
    does_exp (c.super k args) m t ops small sound covers h =
        let is : f.of_this ≡ true = accepts_this y k (count args) (slice_get prog.p.methods k) sound.1 in
        let last = stands_back prog f (t + 1) (t + 1 + sizes args) _ _ (codes_len y args (t + 1)) h.1 in
        ends_at (omega arith) (λ v. same_point (opens m) {t = t + 1 + sizes args + 1} {u = t + size (c.super k args)} (omega arith) refl)
        (does_then (does_me (opens m) t ops h.0 is)
        (λ _. does_where (λ vs. length vs ≡ count args) (does_exps args m (t + 1) (ops ++ f.me ∷ []) small sound.2 covers (stands_front prog f (t + 1) _ _ h.1)) (values_count prog f args)
        (λ vs len. does_from (same_point (opens m) refl (sym (append_assoc ops (f.me ∷ []) vs))) (above_at y (opens m) (t + 1 + sizes args) ops vs k (count args) last.0 len sound.1))))
    does_exp (c.list_of items) m t ops small sound covers h =
        ends_at (omega arith) (λ v. same_point (opens m) {t = t + sizes items + 1} {u = t + (sizes items + 1)} (omega arith) refl)
        (does_where (λ vs. length vs ≡ count items) (does_exps items m t ops small sound covers (stands_front prog f t _ _ h)) (values_count prog f items)
        (λ vs len. does_list (opens m) (t + sizes items) ops vs (count items) (stands_back prog f t (t + sizes items) _ _ (codes_len y items t) h).0 len))
    does_exp (c.postfix e more) m t ops small sound covers h =
        ends_at (omega arith) (λ v. same_point (opens m) {t = t + size e + calls_size more} {u = t + (size e + calls_size more)} (omega arith) refl)
        (does_bind (does_exp e m t ops small sound.0 covers.0 (stands_front prog f t _ _ h)) (λ v. does_calls more m (t + size e) ops v small sound.1 covers.1 (stands_back prog f t (t + size e) _ _ (code_len y e t) h)))
    does_exp (c.chain e more) m t ops small sound covers h =
        ends_at (omega arith) (λ v. same_point (opens m) {t = t + size e + links_size more} {u = t + (size e + links_size more)} (omega arith) refl)
        (does_bind (does_exp e m t ops small sound.0 covers.0 (stands_front prog f t _ _ h)) (λ v. does_links more m (t + size e) ops v small sound.1 covers.1 (stands_back prog f t (t + size e) _ _ (code_len y e t) h)))
    does_exp (c.not e) m t ops small sound covers h =
        ends_at (omega arith) (λ v. same_point (opens m) {t = t + size e + 1} {u = t + (size e + 1)} (omega arith) refl)
        (does_bind (does_bind (does_exp e m t ops small sound covers (stands_front prog f t _ _ h)) (λ v. does_not (opens m) (t + size e) ops v (stands_back prog f t (t + size e) _ _ (code_len y e t) h).0))
        (λ b. given_at (opens m) (t + size e + 1) ops (bool (not b))))
    does_exp (c.is e true class) m t ops small sound covers h =
        let at = stands_back prog f t (t + size e) _ _ (code_len y e t) h in
        ends_at (omega arith) (λ v. same_point (opens m) {t = t + size e + 1 + 1} {u = t + (size e + 2)} (omega arith) refl)
        (does_bind (does_bind (does_exp e m t ops small sound.1 covers (stands_front prog f t _ _ h)) (λ v. does_is_class (opens m) (t + size e) ops v (d.class_id class) at.0 sound.0))
        (λ b. does_bind (does_not (opens m) (t + size e + 1) ops (bool b) at.1.0) (λ x. given_at (opens m) (t + size e + 1 + 1) ops (bool (not x)))))
    does_exp (c.is e false class) m t ops small sound covers h =
        let at = stands_back prog f t (t + size e) _ _ (code_len y e t) h in
        ends_at (omega arith) (λ v. same_point (opens m) {t = t + size e + 1} {u = t + (size e + 1)} (omega arith) refl)
        (does_bind (does_bind (does_exp e m t ops small sound.1 covers (stands_front prog f t _ _ h)) (λ v. does_is_class (opens m) (t + size e) ops v (d.class_id class) at.0 sound.0))
        (λ b. given_at (opens m) (t + size e + 1) ops (bool b)))
    does_exp (c.conditional x z w) m t ops small sound covers h =
        let then_at : ℕ = t + size x + 1 in
        let else_at : ℕ = then_at + size z + 1 in
        let test = stands_back prog f t (t + size x) _ _ (code_len y x t) h in
        let jump = stands_back prog f then_at (then_at + size z) _ _ (code_len y z then_at) test.1 in
        ends_at (omega arith) (λ v. refl)
        (does_bind (does_bind (does_exp x m t ops small sound.0 covers.0 (stands_front prog f t _ _ h)) (λ v. does_test (opens m) (t + size x) else_at ops v test.0))
        (λ go. chosen go
        (does_skip {w = λ v. point (opens m) (t + size (c.conditional x z w)) (ops ++ v ∷ [])} (does_exp z m then_at ops small sound.1 covers.1 (stands_front prog f then_at _ _ test.1))
        (λ v. known_to v (same_point (opens m) {t = else_at + size w} {u = t + size (c.conditional x z w)} (omega arith) refl) (does_jump (opens m) (then_at + size z) (else_at + size w) (ops ++ v ∷ []) v jump.0)))
        (does_to (λ v. same_point (opens m) {t = else_at + size w} {u = t + size (c.conditional x z w)} (omega arith) refl) (does_exp w m else_at ops small sound.2 covers.2 jump.1))))
    does_exp (c.assign to e) m t ops small sound covers h =
        let e_at : ℕ = t + place_size to in
        let behind = stands_back prog f t e_at _ _ (ap (λ k. t + k) (place_length prog.p y.constant f.first f.scratch to t)) h in
        let last = stands_back prog f e_at (e_at + size e) _ _ (code_len y e e_at) behind in
        ends_at (omega arith) (λ v. same_point (opens m) {t = e_at + size e + keep_size to + set_size to} {u = t + size (c.assign to e)} (omega arith) refl)
        (does_where (IsAt to) (does_target to m t ops small sound.0 covers.0 (stands_front prog f t _ _ h)) (target_is prog f to)
        (λ q is. does_bind (does_exp e m e_at (ops ++ place_ops y q) small sound.1 covers.1 (stands_front prog f e_at _ _ behind)) (λ w. writes_at y to m (e_at + size e) ops q w is small sound.0 last)))
    does_exp (c.compound_assign to op e) m t ops small sound covers h =
        let read_at : ℕ = t + update_size to in
        let e_at : ℕ = read_at + read_size to in
        let reading = stands_back prog f t read_at _ _ (ap (λ k. t + k) (update_length prog.p y.constant f.first f.scratch to t)) h in
        let behind = stands_back prog f read_at e_at _ _ (ap (λ k. read_at + k) (read_length prog.p y.constant f.first f.scratch to)) reading in
        let last = stands_back prog f e_at (e_at + size e) _ _ (code_len y e e_at) behind in
        ends_at (omega arith) (λ v. same_point (opens m) {t = e_at + size e + 1 + keep_size (written to) + set_size (written to)} {u = t + size (c.compound_assign to op e)} (omega arith) refl)
        (does_where (AreAt to) (does_update to m t ops small sound.0 covers.0 (stands_front prog f t _ _ h)) (update_is prog f to)
        (λ q is. does_bind (does_read y to m read_at ops q is sound.0 (stands_front prog f read_at _ _ reading))
        (λ old. does_bind (does_exp e m e_at ((ops ++ place_ops y q.1) ++ old ∷ []) small sound.2 covers.1 (stands_front prog f e_at _ _ behind))
        (λ v. does_bind (operates (opens m) (e_at + size e) (ops ++ place_ops y q.1) old v op sound.1.1 last.0)
        (λ w. writes_at y (written to) m (e_at + size e + 1) ops q.1 w (written_at to q is) small (written_sound y to m sound.0) last.1)))))
    does_exp (c.increment is_before op to) m t ops small sound covers h =
        let at : ℕ = t + update_size to in
        ends_at (omega arith) (λ v. same_point (opens m) {t = at + (read_size to + (2 + (keep_size (written to) + set_size (written to))))} {u = t + size (c.increment is_before op to)} (omega arith) refl)
        (does_where (AreAt to) (does_update to m t ops small sound.0 covers.1 (stands_front prog f t _ _ h)) (update_is prog f to)
        (λ q is. increments y is_before op to m at ops q is small covers.0 sound.0 sound.1 (stands_back prog f t at _ _ (ap (λ k. t + k) (update_length prog.p y.constant f.first f.scratch to t)) h)))
    does_exp (c.throw e) m t ops small sound covers h =
        ends_at (omega arith) (λ v. same_point (opens m) {t = t + size e + 1} {u = t + (size e + 1)} (omega arith) refl)
        (does_bind (does_exp e m t ops small sound covers (stands_front prog f t _ _ h))
        (λ v. does_throw (opens m) (t + size e) ops v (λ w. point (opens m) (t + size e + 1) (ops ++ w ∷ [])) (stands_back prog f t (t + size e) _ _ (code_len y e t) h).0))

    does_target : (to : Target) (m t : ℕ) (ops : List Value) → m ≤ y.most → SoundTarget prog.p f.here m to → CoversTarget Has y.room to → Stands prog f t (d.place prog.p y.constant f.first f.scratch to t)
        → Does prog f (place_size to) (point (opens m) t ops) (n.destination prog.p (entered prog f) to) (λ q. point (opens m) (t + place_size to) (ops ++ place_ops y q))
    does_target (c.to_local k) m t ops small sound covers h =
        does_from (same_point (opens m) {t = t + 0} {u = t} (omega arith) (append-nil ops)) (does_pure {t = λ q. point (opens m) (t + 0) (ops ++ place_ops y q)} (at_local k))
    does_target (c.to_global k) m t ops small sound covers h =
        does_from (same_point (opens m) {t = t + 0} {u = t} (omega arith) (append-nil ops)) (does_pure {t = λ q. point (opens m) (t + 0) (ops ++ place_ops y q)} (at_global k))
    does_target (c.to_super s) m t ops small sound covers h =
        does_more (omega arith)
        (does_then {n = pure (at_super s)} (does_me (opens m) t ops h.0 (accepts_this y s 1 (slice_get prog.p.methods s) sound.1)) (λ _. does_pure {t = λ q. point (opens m) (t + 1) (ops ++ place_ops y q)} (at_super s)))
    does_target (c.to_member e s) m t ops small sound covers h =
        ends_at (omega arith) (λ _. refl)
        (does_bind (does_exp e m t ops small sound.1 covers h) (λ v. does_pure {t = λ q. point (opens m) (t + size e) (ops ++ place_ops y q)} (at_member v s)))
    does_target (c.to_element e i s) m t ops small sound covers h =
        let behind = stands_back prog f t (t + size e) _ _ (code_len y e t) h in
        ends_at (omega arith) (λ q. same_point (opens m) {t = t + size e + size i} {u = t + (size e + size i)} (omega arith) refl)
        (does_bind (does_exp e m t ops small sound.1 covers.0 (stands_front prog f t _ _ h))
        (λ v. does_bind (does_exp i m (t + size e) (ops ++ v ∷ []) small sound.2 covers.1 behind)
        (λ w. does_from (same_point (opens m) refl (sym (append_assoc ops (v ∷ []) (w ∷ [])))) (does_pure {t = λ q. point (opens m) (t + size e + size i) (ops ++ place_ops y q)} (at_element v w s)))))

    does_update : (to : Update) (m t : ℕ) (ops : List Value) → m ≤ y.most → SoundUpdate prog.p f.here m to → CoversUpdate Has y.room to → Stands prog f t (d.update_place prog.p y.constant f.first f.scratch to t)
        → Does prog f (update_size to) (point (opens m) t ops) (n.destinations prog.p (entered prog f) to) (λ q. point (opens m) (t + update_size to) (ops ++ place_ops y q.1))
    does_update (c.of_local k) m t ops small sound covers h =
        does_from (same_point (opens m) {t = t + 0} {u = t} (omega arith) (append-nil ops)) (does_pure {t = λ q. point (opens m) (t + 0) (ops ++ place_ops y q.1)} (at_local k, at_local k))
    does_update (c.of_global k) m t ops small sound covers h =
        does_from (same_point (opens m) {t = t + 0} {u = t} (omega arith) (append-nil ops)) (does_pure {t = λ q. point (opens m) (t + 0) (ops ++ place_ops y q.1)} (at_global k, at_global k))
    does_update (c.of_super g s) m t ops small sound covers h =
        does_more (omega arith)
        (does_then {n = pure (at_super g, at_super s)} (does_me (opens m) t ops h.0 (accepts_this y s 1 (slice_get prog.p.methods s) sound.1.1)) (λ _. does_pure {t = λ q. point (opens m) (t + 1) (ops ++ place_ops y q.1)} (at_super g, at_super s)))
    does_update (c.of_member e g s) m t ops small sound covers h =
        ends_at (omega arith) (λ _. refl)
        (does_bind (does_exp e m t ops small sound.2 covers h) (λ v. does_pure {t = λ q. point (opens m) (t + size e) (ops ++ place_ops y q.1)} (at_member v g, at_member v s)))
    does_update (c.of_element e i g s) m t ops small sound covers h =
        let behind = stands_back prog f t (t + size e) _ _ (code_len y e t) h in
        ends_at (omega arith) (λ q. same_point (opens m) {t = t + size e + size i} {u = t + (size e + size i)} (omega arith) refl)
        (does_bind (does_exp e m t ops small sound.2 covers.0 (stands_front prog f t _ _ h))
        (λ v. does_bind (does_exp i m (t + size e) (ops ++ v ∷ []) small sound.3 covers.1 behind)
        (λ w. does_from (same_point (opens m) refl (sym (append_assoc ops (v ∷ []) (w ∷ [])))) (does_pure {t = λ q. point (opens m) (t + size e + size i) (ops ++ place_ops y q.1)} (at_element v w g, at_element v w s)))))

    pub does_exps : (es : Exps) (m t : ℕ) (ops : List Value) → m ≤ y.most → AllSound prog.p f.here m es → CoversAll Has y.room es → Stands prog f t (cos es t)
        → Does prog f (sizes es) (point (opens m) t ops) (n.values prog.p (entered prog f) es) (λ vs. point (opens m) (t + sizes es) (ops ++ vs))
    does_exps c.no_more m t ops small sound covers h = does_from (same_point (opens m) {t = t + 0} {u = t} (omega arith) (append-nil ops)) (does_pure {t = λ vs. point (opens m) (t + 0) (ops ++ vs)} [])
    does_exps (c.also e more) m t ops small sound covers h =
        ends_at (omega arith) (λ vs. refl)
        (does_bind (does_exp e m t ops small sound.0 covers.0 (stands_front prog f t _ _ h))
        (λ v. does_bind (does_exps more m (t + size e) (ops ++ v ∷ []) small sound.1 covers.1 (stands_back prog f t (t + size e) _ _ (code_len y e t) h))
        (λ vs. does_from (same_point (opens m) (omega arith) (sym (append_assoc ops (v ∷ []) vs))) (does_pure {t = λ ws. point (opens m) (t + sizes (c.also e more)) (ops ++ ws)} (v ∷ vs)))))

    does_pieces : (ps : Pieces) (m t : ℕ) (ops : List Value) → m ≤ y.most → SoundPieces prog.p f.here m ps → CoversPieces Has y.room ps → Stands prog f t (d.pieces prog.p y.constant f.first f.scratch ps t)
        → Does prog f (pieces_size ps) (point (opens m) t ops) (parts_of prog f ps) (λ l. point (opens m) (t + pieces_size ps) (ops ++ map values.text l))
    does_pieces c.no_piece m t ops small sound covers h = does_from (same_point (opens m) {t = t + 0} {u = t} (omega arith) (append-nil ops)) (does_pure {t = λ l. point (opens m) (t + 0) (ops ++ map values.text l)} [])
    does_pieces (c.piece s e after more) m t ops small sound covers h =
        let behind = stands_back prog f t (t + size e) _ _ (code_len y e t) h in
        let next_at : ℕ = t + size e + 3 in
        let same : t + size e + 1 + 1 + 1 ≡ next_at = omega arith in
        ends_at (omega arith) (λ l. refl)
        (does_bind (does_exp e m t ops small sound.1 covers.1 (stands_front prog f t _ _ h))
        (λ v. does_bind
        (does_bind (does_send (opens m) (t + size e) ops v [] (d.site s) to_string 0 (it_is kind.Call (codes "toString") 0 (selector_at prog.p s) sound.0) refl refl behind.0) (λ w. does_expect_text (opens m) (t + size e + 1) ops w behind.1.0))
        (λ shown. does_then (known_to {w = λ _. point (opens m) (t + size e + 1 + 1 + 1) ((ops ++ values.text shown ∷ []) ++ values.text after ∷ [])} (values.text after) refl
        (does_const (opens m) (t + size e + 1 + 1) (ops ++ values.text shown ∷ []) (y.constant (literals.Str after)) (literals.Str after) behind.1.1.0 covers.0))
        (λ _. does_bind
        (does_from (same_point (opens m) (sym same) refl) (does_pieces more m next_at ((ops ++ values.text shown ∷ []) ++ values.text after ∷ []) small sound.2 covers.2 (subst (λ u. Stands prog f u (d.pieces prog.p y.constant f.first f.scratch more next_at)) same behind.1.1.1)))
        (λ rest. does_from (same_point (opens m) (omega arith) (sym (append_assoc (ops ++ values.text shown ∷ []) (values.text after ∷ []) (map values.text rest) ∙ append_assoc ops (values.text shown ∷ []) (values.text after ∷ map values.text rest))))
        (does_pure {t = λ l. point (opens m) (t + pieces_size (c.piece s e after more)) (ops ++ map values.text l)} (shown ∷ after ∷ rest)))))))

    does_calls : (more : Calls) (m t : ℕ) (ops : List Value) (v : Value) → m ≤ y.most → SoundCalls prog.p f.here m more → CoversCalls Has y.room more → Stands prog f t (d.calls prog.p y.constant f.first f.scratch more t)
        → Does prog f (calls_size more) (point (opens m) t (ops ++ v ∷ [])) (n.called prog.p (entered prog f) v more) (λ w. point (opens m) (t + calls_size more) (ops ++ w ∷ []))
    does_calls c.no_call m t ops v small sound covers h = does_from (same_point (opens m) {t = t + 0} {u = t} (omega arith) refl) (does_pure {t = λ w. point (opens m) (t + 0) (ops ++ w ∷ [])} v)
    does_calls (c.call s args more) m t ops v small sound covers h =
        let a = asks_some (count args) (selector_at prog.p s) sound.0 in
        let behind = stands_back prog f t (t + sizes args) _ _ (codes_len y args t) h in
        ends_at (omega arith) (λ w. same_point (opens m) {t = t + sizes args + 1 + calls_size more} {u = t + (sizes args + (1 + calls_size more))} (omega arith) refl)
        (does_bind
        (does_where (λ vs. length vs ≡ count args) (does_exps args m t (ops ++ v ∷ []) small sound.1 covers.0 (stands_front prog f t _ _ h)) (values_count prog f args)
        (λ vs len. does_from (same_point (opens m) refl (sym (append_assoc ops (v ∷ []) vs))) (sends_n (opens m) (t + sizes args) ops v vs s (count args) a.0 a.1 a.2 len behind.0)))
        (λ w. does_calls more m (t + sizes args + 1) ops w small sound.2 covers.1 behind.1))

    does_links : (more : Links) (m t : ℕ) (ops : List Value) (v : Value) → m ≤ y.most → SoundLinks prog.p f.here m more → CoversLinks Has y.room more → Stands prog f t (d.links prog.p y.constant f.first f.scratch more t)
        → Does prog f (links_size more) (point (opens m) t (ops ++ v ∷ [])) (n.linked prog.p (entered prog f) v more) (λ w. point (opens m) (t + links_size more) (ops ++ w ∷ []))
    does_links c.no_link m t ops v small sound covers h = does_from (same_point (opens m) {t = t + 0} {u = t} (omega arith) refl) (does_pure {t = λ w. point (opens m) (t + 0) (ops ++ w ∷ [])} v)
    does_links (c.link op e more) m t ops v small sound covers h =
        let right : List Instr = co e (right_at y op t) in
        let whole : List Instr = linked y op t right (size e) in
        let len : length right ≡ size e = code_length prog.p y.constant f.first f.scratch e (right_at y op t) in
        let front : Stands prog f t whole = stands_front prog f t _ _ h in
        let behind = stands_back prog f t (t + (size e + joint_size op)) whole _ (ap (λ k. t + k) (linked_length prog.p y.constant f.first f.scratch op t right (size e) len)) h in
        ends_at (omega arith) (λ w. same_point (opens m) {t = t + (size e + joint_size op) + links_size more} {u = t + (size e + (joint_size op + links_size more))} (omega arith) refl)
        (does_bind
        (combines y op m t ops v (size e) (value e) right len sound.0 front (λ ops'. does_exp e m (right_at y op t) ops' small sound.1 covers.0 (right_stands y op t right (size e) front)))
        (λ w. does_links more m (t + (size e + joint_size op)) ops w small sound.2 covers.1 behind))
