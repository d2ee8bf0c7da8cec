-- What the instructions that ask or test do.
use Rattle.std.proofs.Common.{◌≡◌, ℕ, suc, ◌+◌, ◌-◌, ◌<◌, ◌≤◌, true, false, Bool, ◌&&◌, ◌||◌, nat_lt, List, [], ◌∷◌, ◌++◌, length, take, drop, slice_index_or, refl, sym, ◌∙◌, ap, subst, arith, length-drop}
use Rattle.std.specs.Prelude.{All}
use Rattle.std.proofs.lemmas.List.{append-nil, length-map}
use Rattle.std.proofs.lemmas.List.Elements.{All-push, All-take}
use Rattle.std.proofs.lemmas.Bool.Decides.{nat_tests}
use Rattle.program.specs.Parts.{Parts}
use Rattle.program.specs.declared.ids.SiteId.{SiteId}
use Rattle.program.specs.declared.ids.ClassId.{ClassId}
use Rattle.program.specs.declared.numbered.Target.{Target}
use Rattle.dart_values.specs.declared.value.Value.{Value}
use Rattle.dart_values.specs.declared.value.Value.TheVariants as v
use Rattle.dart_values.specs.Values as shown
use Rattle.dart_values.specs.Values.{bool}
use Rattle.dart_values.specs.Store.{IsOf, value_of, values_of}
use Rattle.dart_meaning.specs.Run.{choose}
use Rattle.dart_meaning.specs.Calls as calls
use Rattle.dart_meaning.specs.Calls.{is_null}
use Rattle.dart_meaning.specs.Numbered.{of_numbered}
use Rattle.code_unit.specs.declared.instr.Instr.{Instr}
use Rattle.code_unit.specs.declared.instr.Instr.TheVariants as instr
use Rattle.code_unit.specs.declared.unit.Unit.{Unit}
use Rattle.code_pool.specs.Pool.{Pool}
use Rattle.code_pool.specs.Machine as m
use Rattle.code_pool.specs.Machine.{State, Step, act, by, on, push, receiver, two, when, no_number}
use Rattle.isolate_state.specs.declared.frame.Frame.{Frame}
use Rattle.isolate_state.specs.declared.frame.Flow.{Flow}
use Rattle.isolate_state.specs.declared.frame.Flow.TheVariants as flow
use Rattle.isolate_state.specs.declared.isolate.Isolate.{Isolate}
use Rattle.isolate_state.specs.State as st
use Rattle.isolate_state.specs.State.{seen, goes, next, below, above, received, IsHeld, Did, Needs}
use Rattle.isolate_state.proofs.Steps.{shown_push, operands, top_one_is, when_holds}
use Rattle.isolate_state.proofs.Held.{with_values, held_values}
use Rattle.isolate_state.proofs.Grown.{top_split}
use Rattle.isolate_state.proofs.Receives.{receiver_split}
use Rattle.isolate_state.proofs.Returns.{last_of}
use Rattle.isolate_state.proofs.Wants.{needs}
use Rattle.isolate_calls.specs.Asking.{Tested}
use Rattle.isolate_calls.specs.Stepping.{counted, CanStep, Stepped}
use Rattle.isolate_calls.specs.Sending.{CanSend, Sent, DidAsk}

module _ (p : Parts) (pool : Pool) (answers : ℕ → ℕ → Target) (site : SiteId) (old : Isolate) (f : Frame) (turns : ℕ) where
  size : (asked tests : List (ℕ × ℕ)) → length (seen old f turns asked tests).values ≡ length old.values.items
  size asked tests = length-map old.values.items (value_of old.heap)

  -- ---- `Call`

  abbrev sends_on : State → List shown.Value → List shown.Value → Step
  sends_on s below vs = receiver vs (m.send p pool answers site.0 s below)

  pub call_operands : (n : ℕ) → CanStep p pool answers (instr.Call site n) old f turns → n + 1 ≤ length old.values.items
  call_operands n can =
      let enough = operands (suc n) can.unit (seen old f turns can.asked can.tests) (sends_on (seen old f turns can.asked can.tests)) can.on in
      omega (arith, enough, size can.asked can.tests)

  call_is : (n : ℕ) (unit : Unit) (asked tests : List (ℕ × ℕ)) → n + 1 ≤ length old.values.items → goes (act p pool answers unit (instr.Call site n) (seen old f turns asked tests)) ≡ true
      → act p pool answers unit (instr.Call site n) (seen old f turns asked tests) ≡ received (n + 1) old (m.send p pool answers site.0 (seen old f turns asked tests))
  call_is n unit asked tests enough h =
      let count : suc n ≡ n + 1 = omega arith in
      top_split (suc n) unit old f turns asked tests (sends_on (seen old f turns asked tests)) (omega (arith, enough)) h
      ∙ ap (λ (j : ℕ). received j old (m.send p pool answers site.0 (seen old f turns asked tests))) count

  pub can_send_call : (n : ℕ) → CanStep p pool answers (instr.Call site n) old f turns → CanSend p pool answers site.0 (n + 1) old f turns
  can_send_call n can = (can.asked, can.tests, ap goes (sym (call_is n can.unit can.asked can.tests (call_operands n can) can.on)) ∙ can.on)

  pub calls_did : {C : Type 0} (after : List (ℕ × ℕ) → C → Type 0) (cells : C) (n : ℕ) (new : Isolate) (g : Frame) (left : ℕ) (fl : Flow) → n + 1 ≤ length old.values.items
      → Sent after cells p pool answers site.0 (n + 1) old f turns fl new g left → DidAsk after cells p pool answers (instr.Call site n) old f turns fl new g left
  calls_did after cells n new g left fl enough sent = record {
    asks = sent.asks;
    after_asks = sent.after_asks;
    led = λ unit asked tests h. call_is n unit asked tests enough h ∙ sent.led unit asked tests (ap goes (sym (call_is n unit asked tests enough h)) ∙ h);
    held = sent.held;
    stays = sent.stays;
    calls = sent.calls;
  }

  -- ---- `Equal`

  abbrev compares : State → List shown.Value → shown.Value → shown.Value → Step
  compares s below v w = choose (is_null v || is_null w) (push s below (bool (is_null v && is_null w))) (m.send p pool answers site.0 s below v (w ∷ []))

  pub equal_operands : CanStep p pool answers (instr.Equal site) old f turns → 2 ≤ length old.values.items
  equal_operands can =
      let s : State = seen old f turns can.asked can.tests in
      let enough = operands 2 can.unit s (λ below vs. two vs (compares s below)) can.on in
      omega (arith, enough, size can.asked can.tests)

  -- the operands are a and b
  module _ (at : ℕ) (a b : Value) (is : at ≡ length old.values.items - 2) (enough : 2 ≤ length old.values.items) (a_is : a ≡ slice_index_or old.values.items at a)
      (b_is : b ≡ slice_index_or old.values.items (at + 1) b) where
    pair : above 2 old ≡ value_of old.heap a ∷ value_of old.heap b ∷ []
    pair =
        let first = receiver_split 2 at old a is (omega arith) enough a_is in
        let last = receiver_split 1 (at + 1) old b (omega (arith, is, enough)) (omega arith) (omega (arith, enough)) b_is in
        let at_last : length old.values.items - 1 ≡ at + 1 = omega (arith, is, enough) in
        let none : drop (at + 1 + 1) old.values.items ≡ [] = no_more (drop (at + 1 + 1) old.values.items) (length-drop (at + 1 + 1) old.values.items ∙ omega (arith, is, enough)) in
        first ∙ ap (λ (k : ℕ). value_of old.heap a ∷ values_of old.heap (drop k old.values.items)) (sym at_last) ∙ ap (λ xs. value_of old.heap a ∷ xs) last
        ∙ ap (λ xs. value_of old.heap a ∷ value_of old.heap b ∷ values_of old.heap xs) none where
          no_more : (xs : List Value) → length xs ≡ 0 → xs ≡ []
          no_more [] e = refl
          no_more (x ∷ xs) e = absurd (omega (arith, e))

    equal_is : (unit : Unit) (asked tests : List (ℕ × ℕ)) → goes (act p pool answers unit (instr.Equal site) (seen old f turns asked tests)) ≡ true
        → act p pool answers unit (instr.Equal site) (seen old f turns asked tests) ≡ compares (seen old f turns asked tests) (below 2 old) (value_of old.heap a) (value_of old.heap b)
    equal_is unit asked tests h =
        let s : State = seen old f turns asked tests in
        top_split 2 unit old f turns asked tests (λ below vs. two vs (compares s below)) enough h ∙ ap (λ vs. two vs (compares s (below 2 old))) pair

    equal_sent : (unit : Unit) (asked tests : List (ℕ × ℕ)) → (is_null (value_of old.heap a) || is_null (value_of old.heap b)) ≡ false
        → goes (act p pool answers unit (instr.Equal site) (seen old f turns asked tests)) ≡ true
        → act p pool answers unit (instr.Equal site) (seen old f turns asked tests) ≡ received 2 old (m.send p pool answers site.0 (seen old f turns asked tests))
    equal_sent unit asked tests none h =
        let s : State = seen old f turns asked tests in
        let bs : List shown.Value = below 2 old in
        let va : shown.Value = value_of old.heap a in
        let vb : shown.Value = value_of old.heap b in
        equal_is unit asked tests h ∙ ap (λ x. choose x (push s bs (bool (is_null va && is_null vb))) (m.send p pool answers site.0 s bs va (vb ∷ []))) none
        ∙ sym (ap (λ xs. receiver xs (m.send p pool answers site.0 s bs)) pair)

    pub can_send_equal : (is_null (value_of old.heap a) || is_null (value_of old.heap b)) ≡ false → CanStep p pool answers (instr.Equal site) old f turns → CanSend p pool answers site.0 2 old f turns
    can_send_equal none can = (can.asked, can.tests, ap goes (sym (equal_sent can.unit can.asked can.tests none can.on)) ∙ can.on)

    pub equal_did : {C : Type 0} (after : List (ℕ × ℕ) → C → Type 0) (cells : C) (new : Isolate) (g : Frame) (left : ℕ) (fl : Flow)
        → (is_null (value_of old.heap a) || is_null (value_of old.heap b)) ≡ false
        → Sent after cells p pool answers site.0 2 old f turns fl new g left → DidAsk after cells p pool answers (instr.Equal site) old f turns fl new g left
    equal_did after cells new g left fl none sent = record {
      asks = sent.asks;
      after_asks = sent.after_asks;
      led = λ unit asked tests h. equal_sent unit asked tests none h ∙ sent.led unit asked tests (ap goes (sym (equal_sent unit asked tests none h)) ∙ h);
      held = sent.held;
      stays = sent.stays;
      calls = sent.calls;
    }

    pub equal_null : {C : Type 0} (after_calls : List (ℕ × ℕ) → C → Type 0) (cells : C) (after : Isolate) (x : Bool) → IsHeld p pool old → after_calls [] cells
        → (is_null (value_of old.heap a) || is_null (value_of old.heap b)) ≡ true → x ≡ (is_null (value_of old.heap a) && is_null (value_of old.heap b))
        → after.values.items ≡ take at old.values.items ++ v.Bool x ∷ []
        → DidAsk after_calls cells p pool answers (instr.Equal site) old f turns flow.Here (with_values old after) (next f) turns
    unfolding counted
    equal_null after_calls cells after x held none null both e =
        let low : List Value = take at old.values.items in
        let low_is : below 2 old ≡ values_of old.heap low = ap (λ (k : ℕ). values_of old.heap (take k old.values.items)) (sym is) in
        let va : shown.Value = value_of old.heap a in
        let vb : shown.Value = value_of old.heap b in
        record {
          asks = [];
          after_asks = none;
          led = λ unit asked tests h.
              let s : State = seen old f turns asked tests in
              equal_is unit asked tests h
              ∙ ap (λ y. choose y (push s (below 2 old) (bool (is_null va && is_null vb))) (m.send p pool answers site.0 s (below 2 old) va (vb ∷ []))) null
              ∙ ap (λ y. push s (below 2 old) (bool y)) (sym both)
              ∙ ap (λ bs. push s bs (bool x)) low_is
              ∙ ap (on s) (sym (shown_push (value_of old.heap) after.values.items low (v.Bool x) e))
              ∙ ap (λ cs. on (record s { store = record s.store { asked = cs } }) (values_of old.heap after.values.items)) (sym (append-nil asked));
          held = held_values p pool old after held (subst (All (IsOf old.heap)) (sym e) (All-push (IsOf old.heap) low (v.Bool x) (All-take (IsOf old.heap) at old.values.items held.values) tt));
          stays = refl;
          calls = refl;
        }

-- ---- `IsClass`

module _ (p : Parts) (pool : Pool) (answers : ℕ → ℕ → Target) (class : ClassId) (old : Isolate) (f : Frame) (turns : ℕ) (can : CanStep p pool answers (instr.IsClass class) old f turns) where
  abbrev s : State
  s = seen old f turns can.asked can.tests

  abbrev tests_on : List shown.Value → shown.Value → Step
  tests_on below v = when no_number (nat_lt class.0 (length p.classes)) (by (calls.is_of (of_numbered p) v class.0) s (λ holds s. push s below (bool holds)))

  pub test_operand : 0 < length old.values.items
  test_operand =
      let enough = operands 1 can.unit s (λ below vs. m.one vs (tests_on below)) can.on in
      omega (arith, enough, length-map old.values.items (value_of old.heap))

  pub test_there : class.0 < length p.classes
  test_there =
      let split = last_of s.values (omega (arith, test_operand, length-map old.values.items (value_of old.heap))) in
      let first : act p pool answers can.unit (instr.IsClass class) s ≡ tests_on split.0 split.1 = top_one_is can.unit s split.0 split.1 tests_on split.2 can.on in
      below_of class.0 (length p.classes) (when_holds no_number (nat_lt class.0 (length p.classes)) _ (ap goes (sym first) ∙ can.on)) where
        below_of : (n k : ℕ) → nat_lt n k ≡ true → n < k
        below_of n k h = grind (arith, nat_tests)

-- ---- any instruction

module _ {C T : Type 0} (after_calls : List (ℕ × ℕ) → C → Type 0) (cells : C) (after_tests : List (ℕ × ℕ) → T → Type 0) (types : T) (p : Parts) (pool : Pool) (answers : ℕ → ℕ → Target)
    (old new : Isolate) (f g : Frame) (turns : ℕ) (fl : Flow) where
  -- what follows, by what was asked and tested
  abbrev leads : ℕ → List (ℕ × ℕ) → List (ℕ × ℕ) → Step
  leads left asked tests = st.led fl new.trap (seen new g left asked tests)

  pub asked_steps : (i : Instr) (left : ℕ) → DidAsk after_calls cells p pool answers i old f turns fl new g left → after_tests [] types
      → Stepped after_calls cells after_tests types p pool answers i old f turns fl new g left
  asked_steps i left did untold = record {
    asks = did.asks;
    told = [];
    after_asks = did.after_asks;
    after_told = untold;
    led = λ unit asked tests h. did.led unit asked tests h ∙ ap (leads left (asked ++ did.asks)) (sym (append-nil tests));
    held = did.held;
    stays = did.stays;
    calls = did.calls;
  }

  pub tested_steps : (c : ClassId) → IsHeld p pool old → Tested after_tests types p c old f fl new g → after_calls [] cells
      → Stepped after_calls cells after_tests types p pool answers (instr.IsClass c) old f turns fl new g turns
  unfolding counted
  tested_steps c held tested unasked = record {
    asks = [];
    told = tested.told;
    after_asks = unasked;
    after_told = tested.after_told;
    led = λ unit asked tests h. tested.led pool unit answers turns asked tests held h ∙ ap (λ cs. leads turns cs (tests ++ tested.told)) (sym (append-nil asked));
    held = tested.held pool held;
    stays = tested.stays;
    calls = tested.calls;
  }

  pub did_steps : (i : Instr) (left : ℕ) → CanStep p pool answers i old f turns → IsHeld p pool old → ((unit : Unit) → IsHeld p pool old → Did p pool unit i old f turns fl new g left)
      → after_calls [] cells → after_tests [] types → Stepped after_calls cells after_tests types p pool answers i old f turns fl new g left
  unfolding counted
  did_steps i left can held did unasked untold = record {
    asks = [];
    told = [];
    after_asks = unasked;
    after_told = untold;
    led = λ unit asked tests h.
        (did unit held).led answers asked tests h ∙ ap (λ cs. leads left cs tests) (sym (append-nil asked)) ∙ ap (leads left (asked ++ [])) (sym (append-nil tests));
    held = (did can.unit held).held;
    stays = (did can.unit held).stays;
    calls = (did can.unit held).calls;
  }

-- what the other instructions need
pub needs_of : (p : Parts) (pool : Pool) (answers : ℕ → ℕ → Target) (i : Instr) (old : Isolate) (f : Frame) (turns : ℕ) → IsHeld p pool old → CanStep p pool answers i old f turns → Needs p pool i old f turns
needs_of p pool answers i old f turns held can = needs p pool can.unit old f turns held i (answers, can.asked, can.tests, can.on)
