-- What is assigned to: its operands, its read, and the two halves of a write. A prefix form keeps its value behind the operator, a postfix form before it.
use Rattle.std.proofs.Common.{◌≡◌, ℕ, suc, ◌+◌, ◌≤◌, List, [], ◌∷◌, ◌++◌, length, refl, sym, ap, subst, arith, append_assoc, append-nil}
use Rattle.std.specs.Prelude.{Bool, true, false, pos, IsTrue, is_some, slice_get, codes, Option, Some, None}
use Rattle.program.specs.declared.body.OperatorCall.{OperatorCall}
use Rattle.program.specs.declared.literal.Literal.TheVariants as literals
use Rattle.program.specs.declared.numbered.Method.{Method}
use Rattle.program.specs.declared.numbered.SelectorKind.{SelectorKind}
use Rattle.program.specs.declared.numbered.SelectorKind.TheVariants as kind
use Rattle.program.specs.Bodies as c
use Rattle.program.specs.Bodies.{Target, Update}
use Rattle.program.specs.Parts.{selector_at}
use Rattle.program.specs.Sound.{AboveAccepts, SoundTarget, SoundUpdate, Operates, steps, super_member}
use Rattle.dart_values.specs.Values as values
use Rattle.dart_values.specs.Values.{Value, null}
use Rattle.dart_meaning.specs.Numbered as n
use Rattle.dart_meaning.specs.Numbered.{Destination, at_local, at_global, at_super, at_member, at_element}
use Rattle.dart_meaning.specs.Run.{M, ◌>>◌, pure}
use Rattle.code_unit.specs.declared.instr.Instr.{Instr}
use Rattle.code_unit.specs.declared.instr.Instr.TheVariants.{Const, Local, SetLocal, Pop, Dup, CallMethod}
use Rattle.program_code.specs.Code as d
use Rattle.program_code.specs.IsCode.{Known}
use Rattle.program_code.specs.Sizes.{written, read_size, keep_size, set_size}
use Rattle.program_code.proofs.Lengths.{read_length, keep_length}
use Rattle.machine_runs.proofs.Loaded.{Loaded}
use Rattle.machine_runs.proofs.Points.{Open, opens, point, same_point, Activation, Does, Stands, stands_front, stands_back, does_bind, does_then, does_from, known_to, ends_at, given_at}
use Rattle.machine_runs.proofs.Instructions.{does_const, does_local, does_global, does_set_global, does_pop, does_dup, does_dup2}
use Rattle.machine_runs.proofs.Slots.{keeping, does_keep, does_take, does_set_local}
use Rattle.machine_runs.proofs.BodyCalls.{entered, does_above}
use Rattle.code_meaning.proofs.Layouts.{Layout, of_kind, it_is, sends_n, operates}

-- what was evaluated of a target
abbrev pub IsAt : Target → Destination → Type 0
IsAt (c.to_local k) q = q ≡ at_local k
IsAt (c.to_global k) q = q ≡ at_global k
IsAt (c.to_super m) q = q ≡ at_super m
IsAt (c.to_member e s) q = (v : Value) × (q ≡ at_member v s)
IsAt (c.to_element e i s) q = (v w : Value) × (q ≡ at_element v w s)

-- and of what is read before
abbrev pub AreAt : Update → Destination × Destination → Type 0
AreAt (c.of_local k) q = q ≡ (at_local k, at_local k)
AreAt (c.of_global k) q = q ≡ (at_global k, at_global k)
AreAt (c.of_super g m) q = q ≡ (at_super g, at_super m)
AreAt (c.of_member e g s) q = (v : Value) × (q ≡ (at_member v g, at_member v s))
AreAt (c.of_element e i g s) q = (v w : Value) × (q ≡ (at_element v w g, at_element v w s))

-- what is written of it
pub written_at : (to : Update) (q : Destination × Destination) → AreAt to q → IsAt (written to) q.1
written_at (c.of_local k) q h = ap (λ (x : Destination × Destination). x.1) h
written_at (c.of_global k) q h = ap (λ (x : Destination × Destination). x.1) h
written_at (c.of_super g m) q h = ap (λ (x : Destination × Destination). x.1) h
written_at (c.of_member e g s) q h = (h.0, ap (λ (x : Destination × Destination). x.1) h.1)
written_at (c.of_element e i g s) q h = (h.0, h.1, ap (λ (x : Destination × Destination). x.1) h.2)

-- `super` means something only where there is a `this`
super_this : (prog : Loaded) (h : Option ℕ) (role : SelectorKind) (name : List ℕ) (m : ℕ) → super_member prog.p h h role name ≡ Some m → IsTrue (is_some h)
super_this prog (Some class) role name m e = refl
super_this prog None role name m e = let no : ◌≡◌ {A = Option ℕ} None (Some m) = e in cc

accepts_in : (prog : Loaded) (h : Option ℕ) (m count : ℕ) (o : Option Method) → AboveAccepts prog.p h m count o → IsTrue (is_some h)
accepts_in prog h m count (Some k) a = super_this prog h k.role k.name m a.0
accepts_in prog h m count None a = absurd a

module _ {prog : Loaded} {f : Activation prog} (y : Layout prog f) where
  pub written_sound : (to : Update) (m : ℕ) → SoundUpdate prog.p f.here m to → SoundTarget prog.p f.here m (written to)
  written_sound (c.of_local k) m h = h
  written_sound (c.of_global k) m h = h
  written_sound (c.of_super g s) m h = h.1
  written_sound (c.of_member e g s) m h = (h.1, h.2)
  written_sound (c.of_element e i g s) m h = (h.1, h.2, h.3)

  -- what stands on the stack of it
  abbrev pub place_ops : Destination → List Value
  place_ops (at_local k) = []
  place_ops (at_global k) = []
  place_ops (at_super m) = f.me ∷ []
  place_ops (at_member v s) = v ∷ []
  place_ops (at_element v i s) = v ∷ i ∷ []

  -- where a member of `super` is named, slot 0 is `this`
  pub accepts_this : (m count : ℕ) (o : Option Method) → AboveAccepts prog.p f.here m count o → f.of_this ≡ true
  accepts_this m count o a = f.this_is (accepts_in prog f.here m count o a)

  -- a member of the superclass, with `this` and its arguments there
  pub above_at : (o : Open) (t : ℕ) (ops vs : List Value) (m count : ℕ) → slice_get f.unit.code t ≡ Some (CallMethod (d.method m) (suc count)) → length vs ≡ count
      → AboveAccepts prog.p f.here m count (slice_get prog.p.methods m) → Does prog f 1 (point o t (ops ++ f.me ∷ vs)) (n.above prog.p (entered prog f) m vs) (λ w. point o (t + 1) (ops ++ w ∷ []))
  above_at o t ops vs m count at len accepts = by f.here refl (slice_get prog.p.methods m) refl accepts
    where
      by : (h : Option ℕ) → f.here ≡ h → (x : Option Method) → slice_get prog.p.methods m ≡ x → AboveAccepts prog.p h m count x
          → Does prog f 1 (point o t (ops ++ f.me ∷ vs)) (n.above prog.p (entered prog f) m vs) (λ w. point o (t + 1) (ops ++ w ∷ []))
      by (Some class) e (Some k) there a = does_above o t ops vs (d.method m) count class k at len e there a
      by None e (Some k) there a = let no : ◌≡◌ {A = Option ℕ} None (Some m) = a.0 in cc
      by (Some class) e None there a = absurd a
      by None e None there a = absurd a

  -- ---- the read

  abbrev pub read : Update → List Instr
  read = d.read prog.p y.constant f.first f.scratch

  abbrev Reads : ℕ → ℕ → ℕ → List Value → Destination × Destination → Type 0
  Reads size m t ops q = Does prog f size (point (opens m) t (ops ++ place_ops q.1)) (n.read prog.p (entered prog f) q.0) (λ v. point (opens m) (t + size) ((ops ++ place_ops q.1) ++ v ∷ []))

  pub does_read : (to : Update) (m t : ℕ) (ops : List Value) (q : Destination × Destination) → AreAt to q → SoundUpdate prog.p f.here m to → Stands prog f t (read to) → Reads (read_size to) m t ops q
  does_read (c.of_local k) m t ops q is sound h = subst (λ q. Reads 1 m t ops q) (sym is) (does_local (opens m) t (ops ++ []) k h.0 sound)
  does_read (c.of_global k) m t ops q is sound h = subst (λ q. Reads 1 m t ops q) (sym is) (does_global (opens m) t (ops ++ []) k h.0 sound)
  does_read (c.of_super g s) m t ops q is sound h =
      subst (λ q. Reads 2 m t ops q) (sym is)
      (ends_at (omega arith) (λ v. same_point (opens m) {t = t + 1 + 1} {u = t + 2} (omega arith) refl)
      (does_then (does_dup (opens m) t ops f.me null h.0) (λ _. above_at (opens m) (t + 1) (ops ++ f.me ∷ []) [] g 0 h.1.0 refl sound.0.1)))
  does_read (c.of_member e g s) m t ops q is sound h =
      let i = of_kind kind.Get 0 (selector_at prog.p g) sound.0 in
      subst (λ q. Reads 2 m t ops q) (sym is.1)
      (ends_at (omega arith) (λ v. same_point (opens m) {t = t + 1 + 1} {u = t + 2} (omega arith) refl)
      (does_then (does_dup (opens m) t ops is.0 null h.0) (λ _. sends_n (opens m) (t + 1) (ops ++ is.0 ∷ []) is.0 [] g 0 i.0 i.1 i.2 refl h.1.0)))
  does_read (c.of_element e i g s) m t ops q is sound h =
      subst (λ q. Reads 2 m t ops q) (sym is.2)
      (ends_at (omega arith) (λ v. same_point (opens m) {t = t + 1 + 1} {u = t + 2} (omega arith) refl)
      (does_then (does_dup2 (opens m) t ops is.0 is.1 null h.0)
      (λ _. sends_n (opens m) (t + 1) (ops ++ is.0 ∷ is.1 ∷ []) is.0 (is.1 ∷ []) g 1 (record { kind = kind.Call; name = codes "[]"; count = 1 }) (it_is kind.Call (codes "[]") 1 (selector_at prog.p g) sound.0) refl refl h.1.0)))

  -- ---- a value is kept

  -- what is open while it is, and what stands on the stack
  abbrev pub held_open : Target → ℕ → Value → Open
  held_open (c.to_local k) m x = opens m
  held_open (c.to_global k) m x = opens m
  held_open _ m x = keeping m (x ∷ [])

  abbrev pub held_ops : Target → List Value → Destination → Value → List Value
  held_ops (c.to_local k) ops q x = ops ++ x ∷ []
  held_ops (c.to_global k) ops q x = ops ++ x ∷ []
  held_ops _ ops q x = ops ++ place_ops q

  abbrev pub keep : Target → List Instr
  keep = d.keep prog.p y.constant f.first f.scratch

  abbrev pub set : Target → List Instr
  set = d.set prog.p y.constant f.first f.scratch

  keep_beside : (m t : ℕ) (ops : List Value) (x : Value) → m ≤ y.most → Stands prog f t (Dup ∷ SetLocal f.scratch ∷ [])
      → Does prog f 2 (point (opens m) t (ops ++ x ∷ [])) (pure x) (λ _. point (keeping m (x ∷ [])) (t + 2) (ops ++ x ∷ []))
  keep_beside m t ops x small h =
      ends_at (omega arith) (λ _. same_point (keeping m (x ∷ [])) {t = t + 1 + 1} {u = t + 2} (omega arith) refl)
      (does_then (does_dup (opens m) t ops x null h.0) (λ _. does_keep m (t + 1) (ops ++ x ∷ []) x x h.1.0 (omega (arith, y.apart, small)) (omega (arith, y.spares))))

  pub does_keep_half : (to : Target) (m t : ℕ) (ops : List Value) (q : Destination) (x : Value) → IsAt to q → m ≤ y.most → Stands prog f t (keep to)
      → Does prog f (keep_size to) (point (opens m) t ((ops ++ place_ops q) ++ x ∷ [])) (pure x) (λ _. point (held_open to m x) (t + keep_size to) (held_ops to ops q x ++ x ∷ []))
  does_keep_half (c.to_local k) m t ops q x is small h =
      subst (λ q. Does prog f 1 (point (opens m) t ((ops ++ place_ops q) ++ x ∷ [])) (pure x) (λ _. point (opens m) (t + 1) ((ops ++ x ∷ []) ++ x ∷ []))) (sym is)
      (does_from (same_point (opens m) refl (ap (λ l. l ++ x ∷ []) (sym (append-nil ops)))) (does_dup (opens m) t ops x x h.0))
  does_keep_half (c.to_global k) m t ops q x is small h =
      subst (λ q. Does prog f 1 (point (opens m) t ((ops ++ place_ops q) ++ x ∷ [])) (pure x) (λ _. point (opens m) (t + 1) ((ops ++ x ∷ []) ++ x ∷ []))) (sym is)
      (does_from (same_point (opens m) refl (ap (λ l. l ++ x ∷ []) (sym (append-nil ops)))) (does_dup (opens m) t ops x x h.0))
  does_keep_half (c.to_super s) m t ops q x is small h = keep_beside m t (ops ++ place_ops q) x small h
  does_keep_half (c.to_member e s) m t ops q x is small h = keep_beside m t (ops ++ place_ops q) x small h
  does_keep_half (c.to_element e i s) m t ops q x is small h = keep_beside m t (ops ++ place_ops q) x small h

  -- ---- and written

  -- behind a call that writes: its answer is dropped, and what was kept comes back
  then_back : (m t : ℕ) (ops : List Value) (x : Value) (call : M Value Value) (from : List Value) → Does prog f 1 (point (keeping m (x ∷ [])) t from) call (λ w. point (keeping m (x ∷ [])) (t + 1) (ops ++ w ∷ []))
      → Stands prog f (t + 1) (Pop ∷ Local f.scratch ∷ []) → Does prog f 3 (point (keeping m (x ∷ [])) t from) (call >> pure x) (λ z. point (opens m) (t + 3) (ops ++ z ∷ []))
  then_back m t ops x call from d h =
      ends_at (omega arith) (λ z. same_point (opens m) {t = t + 1 + 1 + 1} {u = t + 3} (omega arith) refl)
      (does_then d (λ w. does_then (does_pop (keeping m (x ∷ [])) (t + 1) ops w null h.0) (λ _. does_take m (t + 1 + 1) ops x h.1.0)))

  abbrev Writes : ℕ → Open → ℕ → ℕ → List Value → List Value → Destination → Value → Value → Type 0
  Writes size o m t before ops q x w = Does prog f size (point o t (before ++ w ∷ [])) (n.write prog.p (entered prog f) q w >> pure x) (λ z. point (opens m) (t + size) (ops ++ z ∷ []))

  pub does_set_half : (to : Target) (m t : ℕ) (ops : List Value) (q : Destination) (x w : Value) → IsAt to q → m ≤ y.most → SoundTarget prog.p f.here m to → Stands prog f t (set to)
      → Writes (set_size to) (held_open to m x) m t (held_ops to ops q x) ops q x w
  does_set_half (c.to_local k) m t ops q x w is small sound h =
      subst (λ q. Writes 1 (opens m) m t (ops ++ x ∷ []) ops q x w) (sym is)
      (does_then {n = pure null >> pure x} (does_set_local m t (ops ++ x ∷ []) k w h.0 sound (omega (arith, y.apart, y.spares, small))) (λ _. given_at (opens m) (t + 1) ops x))
  does_set_half (c.to_global k) m t ops q x w is small sound h =
      subst (λ q. Writes 1 (opens m) m t (ops ++ x ∷ []) ops q x w) (sym is)
      (does_then {n = pure null >> pure x} (does_set_global (opens m) t (ops ++ x ∷ []) k w h.0 sound) (λ _. given_at (opens m) (t + 1) ops x))
  does_set_half (c.to_super s) m t ops q x w is small sound h =
      subst (λ q. Writes 3 (keeping m (x ∷ [])) m t (ops ++ place_ops q) ops q x w) (sym is)
      (then_back m t ops x (n.above prog.p (entered prog f) s (w ∷ [])) ((ops ++ f.me ∷ []) ++ w ∷ [])
      (does_from (same_point (keeping m (x ∷ [])) refl (sym (append_assoc ops (f.me ∷ []) (w ∷ [])))) (above_at (keeping m (x ∷ [])) t ops (w ∷ []) s 1 h.0 refl sound.1)) h.1)
  does_set_half (c.to_member e s) m t ops q x w is small sound h =
      let i = of_kind kind.Set 1 (selector_at prog.p s) sound.0 in
      subst (λ q. Writes 3 (keeping m (x ∷ [])) m t (ops ++ place_ops q) ops q x w) (sym is.1)
      (then_back m t ops x (n.send prog.p (entered prog f) s is.0 (w ∷ [])) ((ops ++ is.0 ∷ []) ++ w ∷ [])
      (does_from (same_point (keeping m (x ∷ [])) refl (sym (append_assoc ops (is.0 ∷ []) (w ∷ [])))) (sends_n (keeping m (x ∷ [])) t ops is.0 (w ∷ []) s 1 i.0 i.1 i.2 refl h.0)) h.1)
  does_set_half (c.to_element e i s) m t ops q x w is small sound h =
      subst (λ q. Writes 3 (keeping m (x ∷ [])) m t (ops ++ place_ops q) ops q x w) (sym is.2)
      (then_back m t ops x (n.send prog.p (entered prog f) s is.0 (is.1 ∷ w ∷ [])) ((ops ++ is.0 ∷ is.1 ∷ []) ++ w ∷ [])
      (does_from (same_point (keeping m (x ∷ [])) refl (sym (append_assoc ops (is.0 ∷ is.1 ∷ []) (w ∷ []))))
      (sends_n (keeping m (x ∷ [])) t ops is.0 (is.1 ∷ w ∷ []) s 2 (record { kind = kind.Call; name = codes "[]="; count = 2 }) (it_is kind.Call (codes "[]=") 2 (selector_at prog.p s) sound.0) refl refl h.0)) h.1)

  -- a value is kept and written
  pub writes_at : (to : Target) (m t : ℕ) (ops : List Value) (q : Destination) (w : Value) → IsAt to q → m ≤ y.most → SoundTarget prog.p f.here m to → Stands prog f t (keep to ++ set to)
      → Does prog f (keep_size to + set_size to) (point (opens m) t ((ops ++ place_ops q) ++ w ∷ [])) (n.write prog.p (entered prog f) q w >> pure w) (λ z. point (opens m) (t + keep_size to + set_size to) (ops ++ z ∷ []))
  writes_at to m t ops q w is small sound h =
      does_then (does_keep_half to m t ops q w is small (stands_front prog f t _ _ h))
      (λ _. does_set_half to m (t + keep_size to) ops q w w is small sound (stands_back prog f t (t + keep_size to) _ _ (ap (λ k. t + k) (keep_length prog.p y.constant f.first f.scratch to)) h))

  -- ---- `++` and `--`

  -- 1, where it is pushed
  one_at : (o : Open) (t : ℕ) (ops : List Value) → Known prog.p prog.pool.constants y.constant (literals.Int (pos 1)) → slice_get f.unit.code t ≡ Some (Const (y.constant (literals.Int (pos 1))))
      → Does prog f 1 (point o t ops) (pure (values.num (pos 1))) (λ _. point o (t + 1) (ops ++ values.num (pos 1) ∷ []))
  one_at o t ops known at = known_to {w = λ _. point o (t + 1) (ops ++ values.num (pos 1) ∷ [])} (values.num (pos 1)) refl (does_const o t ops (y.constant (literals.Int (pos 1))) (literals.Int (pos 1)) at known)

  pub increments : (is_before : Bool) (op : OperatorCall) (to : Update) (m t : ℕ) (ops : List Value) (q : Destination × Destination) → AreAt to q → m ≤ y.most → Known prog.p prog.pool.constants y.constant (literals.Int (pos 1))
      → SoundUpdate prog.p f.here m to → Operates prog.p f.here steps op → Stands prog f t (d.stepped prog.p y.constant f.first f.scratch is_before op to)
      → Does prog f (read_size to + (2 + (keep_size (written to) + set_size (written to)))) (point (opens m) t (ops ++ place_ops q.1)) (n.increment prog.p (entered prog f) is_before op q)
      (λ z. point (opens m) (t + (read_size to + (2 + (keep_size (written to) + set_size (written to))))) (ops ++ z ∷ []))
  increments true op to m t ops q is small one sound ok h =
      let rs : ℕ = read_size to in
      let behind = stands_back prog f t (t + rs) _ _ (ap (λ k. t + k) (read_length prog.p y.constant f.first f.scratch to)) h in
      ends_at (omega arith) (λ z. same_point (opens m) {t = t + rs + 1 + 1 + keep_size (written to) + set_size (written to)} {u = t + (rs + (2 + (keep_size (written to) + set_size (written to))))} (omega arith) refl)
      (does_bind (does_read to m t ops q is sound (stands_front prog f t _ _ h))
      (λ old. does_then (one_at (opens m) (t + rs) ((ops ++ place_ops q.1) ++ old ∷ []) one behind.0)
      (λ _. does_bind (operates (opens m) (t + rs + 1) (ops ++ place_ops q.1) old (values.num (pos 1)) op ok.1 behind.1.0)
      (λ w. writes_at (written to) m (t + rs + 1 + 1) ops q.1 w (written_at to q is) small (written_sound to m sound) behind.1.1))))
  increments false op to m t ops q is small one sound ok h =
      let rs : ℕ = read_size to in
      let ks : ℕ = keep_size (written to) in
      let behind = stands_back prog f t (t + rs) _ _ (ap (λ k. t + k) (read_length prog.p y.constant f.first f.scratch to)) h in
      let rest = stands_back prog f (t + rs) (t + rs + ks) _ _ (ap (λ k. t + rs + k) (keep_length prog.p y.constant f.first f.scratch (written to))) behind in
      ends_at (omega arith) (λ z. same_point (opens m) {t = t + rs + ks + 1 + 1 + set_size (written to)} {u = t + (rs + (2 + (ks + set_size (written to))))} (omega arith) refl)
      (does_bind (does_read to m t ops q is sound (stands_front prog f t _ _ h))
      (λ old. does_then (does_keep_half (written to) m (t + rs) ops q.1 old (written_at to q is) small (stands_front prog f (t + rs) _ _ behind))
      (λ _. does_then (one_at (held_open (written to) m old) (t + rs + ks) (held_ops (written to) ops q.1 old ++ old ∷ []) one rest.0)
      (λ _. does_bind (operates (held_open (written to) m old) (t + rs + ks + 1) (held_ops (written to) ops q.1 old) old (values.num (pos 1)) op ok.1 rest.1.0)
      (λ w. does_set_half (written to) m (t + rs + ks + 1 + 1) ops q.1 old w (written_at to q is) small (written_sound to m sound) rest.1.1)))))
