-- What a call through a cell does.
use Rattle.std.proofs.Common.{◌≡◌, ℕ, ◌+◌, ◌-◌, ◌<◌, ◌≤◌, ◌%◌, ◌^◌, true, List, [], ◌∷◌, ◌++◌, length, map, drop, slice_get, slice_set, slice_index, slice_index_or, sym, ◌∙◌, ap, subst, arith}
use Rattle.std.specs.Prelude.{Option, Some, None, option_map, unwrap_or, IsTrue}
use Rattle.std.proofs.lemmas.Option.{slice_get_within}
use Rattle.program.specs.Parts.{Parts, is_concrete}
use Rattle.program.specs.declared.ids.SelectorId.{SelectorId}
use Rattle.program.specs.declared.numbered.Site.{Site}
use Rattle.program.specs.declared.numbered.Selector.{Selector}
use Rattle.program.specs.declared.numbered.Target.{Target}
use Rattle.miss_handler.specs.Sites.{selector_of}
use Rattle.dart_values.specs.declared.value.Value.{Value}
use Rattle.dart_values.specs.Values as shown
use Rattle.dart_values.specs.Values.{class_of}
use Rattle.dart_values.specs.Store.{IsOf, value_of, values_of, heap_of}
use Rattle.dart_meaning.specs.Run as run
use Rattle.code_pool.specs.Pool.{Pool}
use Rattle.code_pool.specs.Machine as m
use Rattle.code_pool.specs.Machine.{State, Step, some, no_number, receiver, by}
use Rattle.isolate_state.specs.declared.frame.Frame.{Frame}
use Rattle.isolate_state.specs.declared.frame.Flow.{Flow}
use Rattle.isolate_state.specs.declared.isolate.Isolate.{Isolate}
use Rattle.isolate_state.specs.State.{seen, goes, below, above, received, IsHeld}
use Rattle.isolate_state.proofs.Steps.{some_is}
use Rattle.isolate_state.proofs.Held.{map_get}
use Rattle.isolate_state.proofs.Receives.{receiver_split}
use Rattle.isolate_calls.specs.Stepping.{counted}
use Rattle.isolate_calls.specs.Asking.{HasClasses}
use Rattle.isolate_calls.specs.Sending.{follow, Followed, CanFollow, CanSend, Sent}
use Rattle.isolate_calls.proofs.Tests.{class_concrete}

-- the state in which a cell was asked
abbrev asking : ℕ → ℕ → State → State
asking site c s = record s { store = record s.store { asked = s.store.asked ++ (site, c) ∷ [] } }

abbrev pub has_classes : (p : Parts) (pool : Pool) (i : Isolate) → IsHeld p pool i → HasClasses p i
has_classes p pool i held = record { concrete = held.concrete; built_in = held.built_in }

module _ (p : Parts) (pool : Pool) (answers : ℕ → ℕ → Target) where
  send_is : (site : ℕ) (s : State) (bs : List shown.Value) (v : shown.Value) (args : List shown.Value) → goes (m.send p pool answers site s bs v args) ≡ true
      → (k : SelectorId) × (slice_get pool.sites site ≡ Some k)
      × (m.send p pool answers site s bs v args
      ≡ follow p pool answers (answers (class_of s.store.heap v) k.0) site (class_of s.store.heap v) (asking site (class_of s.store.heap v) s) bs v args)
  send_is site s bs v args h =
      let c : ℕ = class_of s.store.heap v in
      let go : SelectorId → Step = λ k. some no_number (slice_get p.selectors k.0) (λ (sel : Selector). by (run.ask site v) s (λ c s. m.reach p pool answers (answers c k.0) sel c s bs v args)) in
      let k = some_is no_number (slice_get pool.sites site) go h in
      let then : SelectorId → Step = λ j. some no_number (slice_get p.selectors j.0) (λ (sel : Selector). m.reach p pool answers (answers c k.0.0) sel c (asking site c s) bs v args) in
      (k.0, k.1, ap (λ o. some no_number o go) k.1 ∙ sym (ap (λ o. some no_number o then) k.1))

  send_found : (site : ℕ) (s : State) (bs xs : List shown.Value) → goes (receiver xs (m.send p pool answers site s bs)) ≡ true → site < length pool.sites
  send_found site s bs [] h = absurd cc
  send_found site s bs (v ∷ args) h =
      let found = send_is site s bs v args h in
      slice_get_within pool.sites site found.0 found.1

  pub send_there : (site n : ℕ) (i : Isolate) (f : Frame) (turns : ℕ) → CanSend p pool answers site n i f turns → site < length pool.sites
  send_there site n i f turns can = send_found site (seen i f turns can.0 can.1) (below n i) (above n i) can.2

  selector_is : (sites : List Site) (site : ℕ) (k : SelectorId) → pool.sites ≡ map (λ (s : Site). s.selector) sites → slice_get pool.sites site ≡ Some k → selector_of sites site ≡ k.0
  selector_is sites site k e is = of_option (slice_get sites site) (sym (map_get (λ (s : Site). s.selector) sites site) ∙ ap (λ xs. slice_get xs site) (sym e) ∙ is) where
    same_some : (a b : SelectorId) → Some a ≡ Some b → a ≡ b
    same_some a b e = cc

    of_option : (o : Option Site) → option_map (λ (s : Site). s.selector) o ≡ Some k → unwrap_or (option_map (λ (s : Site). s.selector.0) o) 0 ≡ k.0
    of_option None e = absurd cc
    of_option (Some x) e = ap (λ (q : SelectorId). q.0) (same_some x.selector k e)

  -- the receiver is r, of class c, and the cell answered the target
  module _ (sites : List Site) (sites_are : pool.sites ≡ map (λ (s : Site). s.selector) sites) (site n at : ℕ) (old mid : Isolate) (f : Frame) (turns : ℕ) (r : Value) (c : ℕ) (target : Target)
      (is : at ≡ length old.values.items - n) (some_there : 0 < n) (enough : n ≤ length old.values.items) (r_is : r ≡ slice_index_or old.values.items at r)
      (class : c ≡ class_of (heap_of old.heap) (value_of old.heap r)) (target_is : target ≡ answers c (selector_of sites site)) (mid_is : mid ≡ record old { calls = mid.calls }) where
    abbrev asked_of : Isolate
    asked_of = record old { calls = mid.calls }

    sent_is : (asked tests : List (ℕ × ℕ)) → goes (received n old (m.send p pool answers site (seen old f turns asked tests))) ≡ true
        → received n old (m.send p pool answers site (seen old f turns asked tests))
        ≡ received n asked_of (follow p pool answers target site c (seen asked_of f turns (asked ++ (site, c) ∷ []) tests))
    sent_is asked tests h =
        let s : State = seen old f turns asked tests in
        let bs : List shown.Value = below n old in
        let v : shown.Value = value_of old.heap r in
        let own : ℕ = class_of (heap_of old.heap) v in
        let args : List shown.Value = values_of old.heap (drop (at + 1) old.values.items) in
        let split : above n old ≡ v ∷ args = receiver_split n at old r is some_there enough r_is in
        let first : received n old (m.send p pool answers site s) ≡ m.send p pool answers site s bs v args = ap (λ xs. receiver xs (m.send p pool answers site s bs)) split in
        let there = send_is site s bs v args (ap goes (sym first) ∙ h) in
        let selector : selector_of sites site ≡ there.0.0 = selector_is sites site there.0 sites_are there.1 in
        let reached : answers own there.0.0 ≡ target = ap (answers own) (sym selector) ∙ ap (λ (d : ℕ). answers d (selector_of sites site)) (sym class) ∙ sym target_is in
        first ∙ there.2
        ∙ ap (λ (t : Target). follow p pool answers t site own (asking site own s) bs v args) reached
        ∙ ap (λ (d : ℕ). follow p pool answers target site d (asking site d s) bs v args) (sym class)
        ∙ sym (ap (λ xs. receiver xs (follow p pool answers target site c (asking site c s) bs)) split)

    pub can_follow : CanSend p pool answers site n old f turns → CanFollow p pool target site n mid f turns
    can_follow can = subst (λ (i : Isolate). CanFollow p pool target site n i f turns) (sym mid_is)
        (c, (answers, (can.0 ++ (site, c) ∷ []), can.1, ap goes (sym (sent_is can.0 can.1 can.2)) ∙ can.2))

    pub held_asked : IsHeld p pool old → IsHeld p pool mid
    held_asked held = subst (IsHeld p pool) (sym mid_is)
        (record { values = held.values; globals = held.globals; constants = held.constants; literals = held.literals; concrete = held.concrete; built_in = held.built_in })

    pub sends : {C : Type 0} (after : List (ℕ × ℕ) → C → Type 0) (cells : C) (new : Isolate) (g : Frame) (left : ℕ) (fl : Flow) → IsHeld p pool old → after ((site, c) ∷ []) cells
        → mid.calls.items ≡ slice_set old.calls.items site ((slice_index old.calls.items site + 1) % 2 ^ 64)
        → Followed p pool target site n mid f turns fl new g left → Sent after cells p pool answers site n old f turns fl new g left
    unfolding counted
    sends after cells new g left fl held one count followed =
        let w = subst (λ (i : Isolate). Followed p pool target site n i f turns fl new g left) mid_is followed c (subst (IsHeld p pool) mid_is (held_asked held)) in
        record {
          asks = (site, c) ∷ [];
          after_asks = one;
          led = λ unit asked tests h. sent_is asked tests h ∙ w.led answers (asked ++ (site, c) ∷ []) tests (ap goes (sym (sent_is asked tests h)) ∙ h);
          held = w.held;
          stays = w.stays;
          calls = w.calls ∙ count;
        }

-- the class of the receiver is concrete
pub receiver_concrete : (p : Parts) (pool : Pool) (n at : ℕ) (old : Isolate) (r : Value) (c : ℕ) → at ≡ length old.values.items - n → 0 < n → n ≤ length old.values.items
    → r ≡ slice_index_or old.values.items at r → c ≡ class_of (heap_of old.heap) (value_of old.heap r) → IsHeld p pool old → IsTrue (is_concrete p.classes c)
receiver_concrete p pool n at old r c is some enough r_is class held =
    let of_heap : IsOf old.heap r = subst (IsOf old.heap) (sym r_is) (held.values at r (omega (arith, is, some, enough))) in
    subst (λ (k : ℕ). IsTrue (is_concrete p.classes k)) (sym class) (class_concrete p old r (has_classes p pool old held) of_heap)
