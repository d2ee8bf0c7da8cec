-- Each body that is entered has for its `this` an object of the class that holds it, or of one below it.
use Rattle.std.proofs.Common.{◌≡◌, ℕ, zero, suc, List, [], ◌∷◌, ◌++◌, length, refl, sym, ap, ◌∙◌, subst}
use Rattle.std.specs.Prelude.{Bool, true, false, ◌<◌, ◌+◌, nat_eq, IsTrue, map, reverse, slice_get, Option, Some, None}
use Rattle.std.specs.Option.{option_map, option_and_then}
use Rattle.program.specs.declared.numbered.Constructor.{Constructor}
use Rattle.program.specs.declared.numbered.Function.{Function}
use Rattle.program.specs.declared.numbered.Method.{Method}
use Rattle.program.specs.declared.numbered.MethodBody.{MethodBody}
use Rattle.program.specs.declared.numbered.MethodBody.TheVariants as does
use Rattle.program.specs.declared.numbered.Selector.{Selector}
use Rattle.program.specs.Bodies as c
use Rattle.program.specs.Bodies.{Exps, Stas}
use Rattle.program.specs.BuiltIn.{is_open}
use Rattle.program.specs.Lookup.{found_by}
use Rattle.program.specs.Parts.{Parts}
use Rattle.program.specs.Sound.{AboveAccepts, SoundBody}
use Rattle.program.specs.Whole.{IsSound, HasSoundConstructor, IsMethod, SoundCode, IsFunction}
use Rattle.dart_values.specs.Natives.{native}
use Rattle.dart_values.specs.Values.{Text, Value, null, at, Heap, Thing, object, list, invocation, classes, class_of, Given, gives, traps}
use Rattle.dart_meaning.specs.Calls as calls
use Rattle.dart_meaning.specs.Calls.{given}
use Rattle.dart_meaning.specs.Laws.{IsFront}
use Rattle.dart_meaning.specs.Numbered as n
use Rattle.dart_meaning.specs.Numbered.{Code, the_function, the_method, the_constructor, of_numbered, method_at, constructor_at, constructor_of, class_above, with_code, function_coded, Coded, coded_at, parameters, fields, world, enter, inside}
use Rattle.dart_meaning.specs.Program.{Found, built_in, reads, writes, coded, missing, target_or, Entry, running, listing, no_such_method}
use Rattle.dart_meaning.specs.Run.{Run, Store, Result, went, ended, M, and_then, ◌>>◌, pure, change, choose, spend_from, framed, onward}
use Rattle.meaning_laws.specs.Laws.{last, IfWent, SameFrame}
use Rattle.meaning_laws.specs.ThisLaws.{IsOf, MayEnter, Fits, AllEntriesFit}
use Rattle.meaning_laws.proofs.Closed.{By, ClosedBy, IsNew}
use Rattle.meaning_laws.proofs.Closed as h
use Rattle.meaning_laws.proofs.ClosedBodies.{ClosedCalls}
use Rattle.meaning_laws.proofs.ClosedBodies as bodies
use Rattle.meaning_laws.proofs.ClosedEntries.{written}
use Rattle.meaning_laws.proofs.Frames.{entries_leave_the_frame}
use Rattle.meaning_laws.proofs.Heaps.{kinds}
use Rattle.meaning_laws.proofs.Receivers.{calls_may_enter, supers_may_enter, constructors_may_enter, new_objects_may_enter}
use Rattle.meaning_laws.proofs.This.{of_stays, grows}

-- without a class there is no `super`
no_super : (p : Parts) (m count : ℕ) (o : Option Method) → AboveAccepts p None m count o → ⊥
no_super p m count (Some k) ok = let e = ok.0 in absurd (cc)
no_super p m count None ok = ok

module _ (p : Parts) (sound : IsSound p) (depth : ℕ) (other : Entry Code → M Value Value) (same : (x : Entry Code) (r : Run Value) → Fits p r.store.heap x → other x r ≡ enter p depth x r) where
  -- ---- two ways to enter what a body enters, where `here` holds the body, and `me` is its `this`

  module _ (here : Option ℕ) (me : Value) where
    record Ready (r : Run Value) : Type 0 where
      is : r.this ≡ me
      of : IsOf p r.store.heap here me

    -- both lead to the same, and `this` stays
    record Agrees {A : Type 0} (m : By A) : Type 0 where
      agrees : (r : Run Value) → Ready r → (m other r ≡ m (enter p depth) r) × IfWent (m (enter p depth) r) Ready

    moved : (r s : Run Value) → s.this ≡ r.this → IsFront (classes r.store.heap) (classes s.store.heap) → Ready r → Ready s
    moved r s e front ready = record { is = e ∙ ready.is; of = of_stays p sound here r.store.heap s.store.heap me front ready.of }

    then_agrees : {A B : Type 0} (x : Result Value A) (f g : A → M Value B) → IfWent x Ready → ((a : A) (s : Run Value) → Ready s → (g a s ≡ f a s) × IfWent (f a s) Ready)
        → (and_then x g ≡ and_then x f) × IfWent (and_then x f) Ready
    then_agrees (went a s) f g ready k = k a s ready
    then_agrees (ended e s) f g ready k = (refl, tt)

    bind_agrees : {A B : Type 0} (x y : Result Value A) (f g : A → M Value B) → y ≡ x → IfWent x Ready → ((a : A) (s : Run Value) → Ready s → (g a s ≡ f a s) × IfWent (f a s) Ready)
        → (and_then y g ≡ and_then x f) × IfWent (and_then x f) Ready
    bind_agrees x y f g e ready k = let t = then_agrees x f g ready k in (ap (λ z. and_then z g) e ∙ t.0, t.1)

    spend_ready : (k : ℕ) (r : Run Value) → Ready r → IfWent (spend_from k r) Ready
    spend_ready zero r ready = tt
    spend_ready (suc k) r ready = record { is = ready.is; of = ready.of }

    given_ready : (names : ℕ → Text) (k : ℕ) (v : Value) (args : List Value) (r : Run Value) (g : Given) → native names k r.store.heap v args ≡ g → Ready r → IfWent (given g r) Ready
    given_ready names k v args r (gives heap w) e ready = moved r (record r { store = record r.store { heap = heap } }) refl ((kinds p).natives r.store names k v args heap w e) ready
    given_ready names k v args r (traps t) e ready = tt

    steps : ClosedBy p (λ A m. Agrees m)
    steps = record {
      answers = λ a. record { agrees = λ r ready. (refl, ready) };
      stops = λ e. record { agrees = λ r ready. (refl, tt) };
      binds = λ {A} {B} {m} {f} j k. record {
        agrees = λ r ready. bind_agrees (m (enter p depth) r) (m other r) (λ a. f a (enter p depth)) (λ a. f a other) (j.agrees r ready).0 (j.agrees r ready).1 (λ a s. (k a).agrees s);
      };
      looks = λ f. record { agrees = λ r ready. (refl, ready) };
      locals = λ slot w. record { agrees = λ r ready. (refl, record { is = ready.is; of = ready.of }) };
      globals = λ k w. record { agrees = λ r ready. (refl, record { is = ready.is; of = ready.of }) };
      fields = λ v k w. record { agrees = λ r ready. (refl, moved r _ refl ((kinds p).fields r.store v k w) ready) };
      lines = λ line. record { agrees = λ r ready. (refl, record { is = ready.is; of = ready.of }) };
      tests = λ class named. record { agrees = λ r ready. (refl, record { is = ready.is; of = ready.of }) };
      spends = record { agrees = λ r ready. (refl, spend_ready r.store.turns r ready) };
      makes = λ thing new. record { agrees = λ r ready. (refl, moved r _ refl ((kinds p).makes r.store thing new) ready) };
      asks = λ site v. record { agrees = λ r ready. (refl, record { is = ready.is; of = ready.of }) };
      natives = λ names k v args. record { agrees = λ r ready. (refl, given_ready names k v args r (native names k r.store.heap v args) refl ready) };
    }

    -- ---- what is entered fits

    entered : (r : Run Value) (x : Result Value Value) → IfWent x (SameFrame r) → IsFront (classes r.store.heap) (classes (last x).store.heap) → Ready r → IfWent x Ready
    entered r (went v s) frame front ready = moved r s frame.this front ready
    entered r (ended e s) frame front ready = tt

    enters : (x : Entry Code) (r : Run Value) → Ready r → Fits p r.store.heap x → (other x r ≡ enter p depth x r) × IfWent (enter p depth x r) Ready
    enters x r ready fits = (same x r fits, entered r (enter p depth x r) (entries_leave_the_frame p depth x r) ((grows p sound depth x).keeps r) ready)

    -- a member with code may be entered with this value
    Enterable : Heap → Value → Found Code → Type 0
    Enterable heap v found = (code : Code) → found ≡ coded code → MayEnter p heap code v

    natively : (b : Bool) (k : ℕ) (v : Value) (args : List Value) (r : Run Value) → Ready r
        → (choose b (other (listing v)) (calls.natively (of_numbered p) k v args) r ≡ choose b (enter p depth (listing v)) (calls.natively (of_numbered p) k v args) r)
        × IfWent (choose b (enter p depth (listing v)) (calls.natively (of_numbered p) k v args) r) Ready
    natively true k v args r ready = enters (listing v) r ready tt
    natively false k v args r ready = (steps.natives (of_numbered p).class_name k v args).agrees r ready

    members : (found : Found Code) (v : Value) (args : List Value) (r : Run Value) → Ready r → Enterable r.store.heap v found
        → (calls.do_member (world p other) found v args r ≡ calls.do_member (world p (enter p depth)) found v args r) × IfWent (calls.do_member (world p (enter p depth)) found v args r) Ready
    unfolding Enterable
    members (built_in k) v args r ready may = natively (nat_eq k 43) k v args r ready
    members (reads k) v args r ready may = (refl, ready)
    members (writes k) v args r ready may = (h.then_holds steps (steps.fields v k (calls.argument 0 args)) (steps.answers null)).agrees r ready
    members (coded code) v args r ready may = enters (running code v args) r ready (may code refl)

    -- what a class finds
    Finds : Heap → Value → Option (Found Code) → Type 0
    Finds heap v o = (code : Code) → o ≡ Some (coded code) → MayEnter p heap code v

    finds : (heap : Heap) (v : Value) (sel : Selector) (o : Option ℕ) → found_by p (class_of heap v) sel ≡ o → Finds heap v (option_and_then (method_at p) o)
    unfolding Finds
    finds heap v sel (Some m) e code is = calls_may_enter p sound heap v sel m code e is
    finds heap v sel None e code is = absurd (cc)

    missed : (found : Found Code) (sel : Selector) (v : Value) (args : List Value) (r : Run Value) → Ready r → Enterable r.store.heap v found
        → (calls.reach (world p other) (missing found) sel v args r ≡ calls.reach (world p (enter p depth)) (missing found) sel v args r)
        × IfWent (calls.reach (world p (enter p depth)) (missing found) sel v args r) Ready
    unfolding Enterable
    missed found sel v args r ready may =
        let s : Store = record r.store { heap = r.store.heap ++ list args ∷ [] } in
        let told : Thing = invocation (calls.told_name sel.kind sel.name) (at (length r.store.heap)) sel.kind in
        let t : Store = record s { heap = s.heap ++ told ∷ [] } in
        let front = (kinds p).on r.store s t ((kinds p).makes r.store (list args) tt) ((kinds p).makes s told tt) in
        members found v (at (length s.heap) ∷ []) (record r { store = t }) (moved r (record r { store = t }) refl front ready)
        (λ code e. stays code r.store.heap t.heap v front (may code e))
      where
        stays : (code : Code) (old new : Heap) (v : Value) → IsFront (classes old) (classes new) → MayEnter p old code v → MayEnter p new code v
        stays code old new v front may = of_stays p sound (Rattle.meaning_laws.specs.ThisLaws.holder p code) old new v front may

    targets : (l k : Option (Found Code)) (sel : Selector) (v : Value) (args : List Value) (r : Run Value) → Ready r → Finds r.store.heap v l → Finds r.store.heap v k
        → (calls.reach (world p other) (target_or l k) sel v args r ≡ calls.reach (world p (enter p depth)) (target_or l k) sel v args r)
        × IfWent (calls.reach (world p (enter p depth)) (target_or l k) sel v args r) Ready
    unfolding Enterable Finds
    targets (Some found) k sel v args r ready f g = members found v args r ready (λ code e. f code (ap Some e))
    targets None (Some found) sel v args r ready f g = missed found sel v args r ready (λ code e. g code (ap Some e))
    targets None None sel v args r ready f g = missed (built_in 2) sel v args r ready (λ code e. absurd (cc))

    sends : (site : ℕ) (sel : Selector) (v : Value) (args : List Value) → Agrees (λ x. calls.send (world p x) site sel v args)
    sends site sel v args = record {
      agrees = λ r ready.
          targets _ _ sel v args (record r { store = record r.store { asked = r.store.asked ++ (site, class_of r.store.heap v) ∷ [] } }) (record { is = ready.is; of = ready.of })
          (finds r.store.heap v sel _ refl) (finds r.store.heap v no_such_method _ refl);
    }

    constructs : (o : Option Code) (v : Value) (args : List Value) (r : Run Value) → Ready r → ((code : Code) → o ≡ Some code → MayEnter p r.store.heap code v)
        → (calls.construct (world p other) o v args r ≡ calls.construct (world p (enter p depth)) o v args r) × IfWent (calls.construct (world p (enter p depth)) o v args r) Ready
    constructs None v args r ready may = (refl, ready)
    constructs (Some code) v args r ready may = enters (running code v args) r ready (may code refl)

    news : (class : ℕ) (args : List Value) → IsTrue (is_open class) → class < length p.classes → Agrees (λ x. calls.make (world p x) class args)
    news class args ok lt = record {
      agrees = λ r ready.
          let s : Run Value = record r { store = record r.store { heap = r.store.heap ++ object class (fields p class) ∷ [] } } in
          let v : Value = at (length r.store.heap) in
          let made = constructs (constructor_at class) v args s (moved r s refl ((kinds p).makes r.store (object class (fields p class)) (refl, ok, lt)) ready)
          (λ code e. new_objects_may_enter p sound r.store.heap class code ok e) in
          bind_agrees (calls.construct (world p (enter p depth)) (constructor_at class) v args s) (calls.construct (world p other) (constructor_at class) v args s) (λ _. pure v) (λ _. pure v) made.0 made.1
          (λ a t go. (refl, go));
    }

    super_found : (o : Option (Found Code)) (args : List Value) (r : Run Value) → Ready r → ((code : Code) → o ≡ Some (coded code) → MayEnter p r.store.heap code r.this)
        → (n.member_if p other o args r ≡ n.member_if p (enter p depth) o args r) × IfWent (n.member_if p (enter p depth) o args r) Ready
    unfolding Enterable
    super_found None args r ready may = (refl, ready)
    super_found (Some found) args r ready may = members found r.this args r ready (λ code e. may code (ap Some e))

    super_fits : (of : Option ℕ) (m count : ℕ) (heap : Heap) (v : Value) → of ≡ here → IsOf p heap of v → AboveAccepts p of m count (slice_get p.methods m)
        → (code : Code) → method_at p m ≡ Some (coded code) → MayEnter p heap code v
    super_fits None m count heap v e is ok code found = absurd (no_super p m count (slice_get p.methods m) ok)
    super_fits (Some class) m count heap v e is ok code found = supers_may_enter p sound heap v class m count code is ok found

    supers : (m count : ℕ) (args : List Value) → AboveAccepts p here m count (slice_get p.methods m) → Agrees (λ x. n.above p x m args)
    supers m count args ok = record {
      agrees = λ r ready. super_found (method_at p m) args r ready (super_fits here m count r.store.heap r.this refl (subst (IsOf p r.store.heap here) (sym ready.is) ready.of) ok);
    }

    body_calls : ClosedCalls p here (λ A m. Agrees m)
    body_calls = record {
      steps = steps;
      sends = sends;
      functions = λ f args. record { agrees = λ r ready. enters (running (the_function f) null args) r ready tt };
      news = news;
      supers = supers;
    }

    varies : (g : List Value → List Value) → Agrees (λ _. change (λ r. record r { vars = g r.vars }))
    varies g = record { agrees = λ r ready. (refl, record { is = ready.is; of = ready.of }) }

    -- what a constructor passes on has no `super`
    passing_calls : ClosedCalls p None (λ A m. Agrees m)
    passing_calls = record {
      steps = steps;
      sends = sends;
      functions = body_calls.functions;
      news = news;
      supers = λ m count args ok. absurd (no_super p m count (slice_get p.methods m) ok);
    }

    sets_agree : (sets : List (Option ℕ)) (v : Value) (args : List Value) → Agrees (λ x. n.set_fields p x v sets args)
    sets_agree (Some field ∷ more) v (w ∷ args) = h.then_holds steps (steps.fields v field w) (sets_agree more v args)
    sets_agree (None ∷ more) v (w ∷ args) = sets_agree more v args
    sets_agree (Some field ∷ more) v [] = steps.answers tt
    sets_agree (None ∷ more) v [] = steps.answers tt
    sets_agree [] v args = steps.answers tt

  -- ---- bodies, each in its frame

  framed_same : {A : Type 0} (here : Option ℕ) (vars : List Value) (me : Value) (m : By A) (r : Run Value) → IsOf p r.store.heap here me → Agrees here me m
      → framed vars me (m other) r ≡ framed vars me (m (enter p depth)) r
  framed_same here vars me m r fits a =
      ap (λ x. and_then x (λ v. change (λ s. record s { vars = r.vars; this = r.this }) >> pure v)) (a.agrees (record r { vars = vars; this = me }) (record { is = refl; of = fits })).0

  bodies_same : (here : Option ℕ) (k : Coded) (slots : ℕ) (me : Value) (args : List Value) (r : Run Value) → IsOf p r.store.heap here me → SoundBody p here slots k.body
      → n.run_coded p other (Some k) me args r ≡ n.run_coded p (enter p depth) (Some k) me args r
  bodies_same here k slots me args r fits ok =
      framed_same here (reverse (parameters k.required k.defaults args)) me (λ x. n.body_value p x k.body) r fits (bodies.body_value (body_calls here me) (varies here me) k.body slots ok)

  functions_same : (o : Option Function) (me : Value) (args : List Value) (r : Run Value) → IsFunction p o
      → n.run_coded p other (option_map function_coded o) me args r ≡ n.run_coded p (enter p depth) (option_map function_coded o) me args r
  functions_same None me args r ok = refl
  functions_same (Some k) me args r ok = bodies_same None (function_coded k) (k.required + length k.defaults) me args r tt ok

  codes_same : (m : ℕ) (k : Method) (b : MethodBody) (me : Value) (args : List Value) (r : Run Value) → IsOf p r.store.heap (Some k.owner.0) me → SoundCode p m k b
      → n.run_coded p other (with_code k.required k.defaults b) me args r ≡ n.run_coded p (enter p depth) (with_code k.required k.defaults b) me args r
  codes_same m k (does.Code b) me args r fits ok =
      bodies_same (Some k.owner.0) (record { required = k.required; defaults = k.defaults; body = b }) (k.required + length k.defaults) me args r fits ok.1
  codes_same m k (does.Native i) me args r fits ok = refl
  codes_same m k (does.ReadField i) me args r fits ok = refl
  codes_same m k (does.WriteField i) me args r fits ok = refl

  methods_same : (m : ℕ) (o : Option Method) (me : Value) (args : List Value) (r : Run Value) → IsOf p r.store.heap (option_map (λ (k : Method). k.owner.0) o) me → IsMethod p m o
      → n.run_coded p other (option_and_then (λ (k : Method). with_code k.required k.defaults k.body) o) me args r
      ≡ n.run_coded p (enter p depth) (option_and_then (λ (k : Method). with_code k.required k.defaults k.body) o) me args r
  methods_same m None me args r fits ok = refl
  methods_same m (Some k) me args r fits ok = codes_same m k k.body me args r fits ok.code

  above_agrees : (class : ℕ) (me : Value) (passed : List Value) → Agrees (Some class) me (λ x. calls.construct (world p x) (constructor_at (class_above p class)) me passed)
  above_agrees class me passed = record {
    agrees = λ r ready. constructs (Some class) me (constructor_at (class_above p class)) me passed r ready (λ code e. constructors_may_enter p sound r.store.heap me class code ready.of e);
  }

  builds_same : (class : ℕ) (sets : List (Option ℕ)) (passes : Exps) (all : Stas) (me : Value) (vars : List Value) (r : Run Value) → IsOf p r.store.heap (Some class) me
      → Agrees (Some class) me (λ x. n.values p x passes) → Agrees (Some class) me (λ x. n.doing_all p x all)
      → n.build p other class sets passes all me vars r ≡ n.build p (enter p depth) class sets passes all me vars r
  builds_same class sets passes all me vars r fits j k =
      let s = steps (Some class) me in
      framed_same (Some class) (reverse vars) me (λ x. n.building p x class sets passes all me vars) r fits
      (h.then_holds s (sets_agree (Some class) me sets me vars) (s.binds j (λ passed. h.then_holds s (above_agrees class me passed) (h.then_holds s k (s.answers me)))))

  constructors_same : (class : ℕ) (o : Option Constructor) (me : Value) (args : List Value) (r : Run Value) → IsOf p r.store.heap (Some class) me → HasSoundConstructor p class o
      → n.construct p other class o me args r ≡ n.construct p (enter p depth) class o me args r
  constructors_same class None me args r fits ok = builds_same class [] c.no_more c.end_of me [] r fits ((steps (Some class) me).answers []) ((steps (Some class) me).answers onward)
  constructors_same class (Some b) me args r fits ok =
      builds_same class b.sets (c.exps (map c.exp b.passes)) (c.stas (map c.sta b.body)) me (parameters b.required b.defaults args) r fits
      (bodies.values (passing_calls (Some class) me) (c.exps (map c.exp b.passes)) (length b.sets) ok.passes)
      (bodies.doing_all (body_calls (Some class) me) (varies (Some class) me) false (c.stas (map c.sta b.body)) (length b.sets) false ok.body)

  entries_same : (x : Entry Code) (r : Run Value) → Fits p r.store.heap x → inside p other x r ≡ inside p (enter p depth) x r
  entries_same (running (the_function i) me args) r fits = functions_same (slice_get p.functions i) me args r (sound.functions i)
  entries_same (running (the_method m) me args) r fits = methods_same m (slice_get p.methods m) me args r fits (sound.methods m)
  entries_same (running (the_constructor class) me args) r fits =
      constructors_same class (constructor_of p class) me args r fits (written p class (slice_get p.classes class) (sound.classes class))
  entries_same (listing v) r fits = framed_same None [] v (λ x. calls.list_text (world p x) v) r tt (h.list_text_holds (steps None v) (sends None v) v)

pub all_entries_fit : AllEntriesFit
all_entries_fit p sound depth other same x r fits = entries_same p sound depth other same x r fits
