-- What follows a cell's answer.
use Rattle.std.proofs.Common.{◌≡◌, ℕ, ◌+◌, ◌<◌, true, List, [], ◌∷◌, ◌++◌, length, slice_get, sym, ◌∙◌, ap, subst, append_assoc, length-append}
use Rattle.std.specs.Prelude.{Some}
use Rattle.std.proofs.lemmas.Option.{slice_get_within}
use Rattle.program.specs.Parts.{Parts}
use Rattle.program.specs.declared.ids.MethodId.{MethodId}
use Rattle.program.specs.declared.ids.SelectorId.{SelectorId}
use Rattle.program.specs.declared.numbered.Selector.{Selector}
use Rattle.program.specs.declared.numbered.Target.{Target}
use Rattle.program.specs.declared.numbered.Target.TheVariants as target
use Rattle.dart_values.specs.Values as shown
use Rattle.dart_values.specs.Values.{at, list, invocation}
use Rattle.dart_values.specs.Store.{values_of, heap_of}
use Rattle.dart_meaning.specs.Calls.{told_name}
use Rattle.code_pool.specs.Pool.{Pool}
use Rattle.code_pool.specs.Machine as m
use Rattle.code_pool.specs.Machine.{State, Step, some, no_number, receiver}
use Rattle.isolate_state.specs.declared.frame.Frame.{Frame}
use Rattle.isolate_state.specs.declared.frame.Flow.{Flow}
use Rattle.isolate_state.specs.declared.isolate.Isolate.{Isolate}
use Rattle.isolate_state.specs.State.{seen, goes, below, above, received, IsHeld, Called, CanCall}
use Rattle.isolate_state.proofs.Steps.{some_is}
use Rattle.isolate_state.proofs.Grown.{with_heap, shown_kept}
use Rattle.isolate_state.proofs.Receives.{called_is}
use Rattle.isolate_calls.specs.Sending.{follow, Followed, CanFollow, Invoked}
use Rattle.isolate_calls.proofs.Free.{call_free}
use Rattle.isolate_calls.proofs.Invocations.{held_invoked}

module _ (p : Parts) (pool : Pool) where
  -- the selector of the site is there
  followed_is : (answers : ℕ → ℕ → Target) (target : Target) (site c : ℕ) (s : State) (bs xs : List shown.Value) → goes (receiver xs (follow p pool answers target site c s bs)) ≡ true
      → (k : SelectorId) × (sel : Selector) × (slice_get pool.sites site ≡ Some k) × (slice_get p.selectors k.0 ≡ Some sel)
      × (receiver xs (follow p pool answers target site c s bs) ≡ receiver xs (m.reach p pool answers target sel c s bs))
  followed_is answers target site c s bs [] h = absurd cc
  followed_is answers target site c s bs (v ∷ args) h =
      let reaches : Selector → Step = λ sel. m.reach p pool answers target sel c s bs v args in
      let go : SelectorId → Step = λ k. some no_number (slice_get p.selectors k.0) reaches in
      let k = some_is no_number (slice_get pool.sites site) go h in
      let first : some no_number (slice_get pool.sites site) go ≡ go k.0 = ap (λ o. some no_number o go) k.1 in
      let sel = some_is no_number (slice_get p.selectors k.0.0) reaches (ap goes (sym first) ∙ h) in
      (k.0, sel.0, k.1, sel.1, first ∙ ap (λ o. some no_number o reaches) sel.1)

  same_some : (a b : SelectorId) → Some a ≡ Some b → a ≡ b
  same_some a b e = cc

  pub selector_found : (target : Target) (site n : ℕ) (i : Isolate) (f : Frame) (turns : ℕ) → CanFollow p pool target site n i f turns → (k : SelectorId) × (slice_get pool.sites site ≡ Some k)
  selector_found target site n i f turns can =
      let found = followed_is can.1.0 target site can.0 (seen i f turns can.1.1 can.1.2) (below n i) (above n i) can.1.3 in
      (found.0, found.2)

  pub site_there : (target : Target) (site n : ℕ) (i : Isolate) (f : Frame) (turns : ℕ) → CanFollow p pool target site n i f turns → site < length pool.sites
  site_there target site n i f turns can =
      let found = followed_is can.1.0 target site can.0 (seen i f turns can.1.1 can.1.2) (below n i) (above n i) can.1.3 in
      slice_get_within pool.sites site found.0 found.2

  pub selector_there : (target : Target) (site n : ℕ) (i : Isolate) (f : Frame) (turns : ℕ) → CanFollow p pool target site n i f turns
      → (k : SelectorId) → slice_get pool.sites site ≡ Some k → k.0 < length p.selectors
  selector_there target site n i f turns can k is =
      let found = followed_is can.1.0 target site can.0 (seen i f turns can.1.1 can.1.2) (below n i) (above n i) can.1.3 in
      let same = same_some found.0 k (sym found.2 ∙ is) in
      subst (λ (k : SelectorId). k.0 < length p.selectors) same (slice_get_within p.selectors found.0.0 found.1 found.3)

  -- ---- a member is found

  pub can_method : (method : MethodId) (site n : ℕ) (i : Isolate) (f : Frame) (turns : ℕ) → CanFollow p pool (target.Method method) site n i f turns
      → (method.0 < length pool.methods) × CanCall p pool method.0 n i f turns
  can_method method site n i f turns can =
      let s : State = seen i f turns can.1.1 can.1.2 in
      let found = followed_is can.1.0 (target.Method method) site can.0 s (below n i) (above n i) can.1.3 in
      let here : goes (received n i (m.call_method p pool can.1.0 method.0 can.0 s)) ≡ true = ap goes (sym found.4) ∙ can.1.3 in
      let there = called_is p pool can.1.0 method.0 can.0 s (below n i) (above n i) here in
      (slice_get_within pool.methods method.0 there.0 there.1, (can.0, (can.1.0, can.1.1, can.1.2, here)))

  pub follows_method : (method : MethodId) (site n : ℕ) (old new : Isolate) (f g : Frame) (turns left : ℕ) (fl : Flow) → Called p pool method.0 n old f turns fl new g left
      → Followed p pool (target.Method method) site n old f turns fl new g left
  follows_method method site n old new f g turns left fl called c held =
      let w = called c held in
      record {
        led = λ answers asked tests h.
            let s : State = seen old f turns asked tests in
            let found = followed_is answers (target.Method method) site c s (below n old) (above n old) h in
            found.4 ∙ w.led answers asked tests (ap goes (sym found.4) ∙ h);
        held = w.held;
        stays = w.stays;
        calls = w.calls;
      }

  -- ---- none is found

  module _ (method : MethodId) (site n : ℕ) (old mid : Isolate) (f : Frame) (turns : ℕ) (k : SelectorId) (sel : Selector) (site_is : slice_get pool.sites site ≡ Some k)
      (sel_is : slice_get p.selectors k.0 ≡ Some sel) (inv : Invoked sel n old mid) (held : IsHeld p pool old) where
    missing_is : (answers : ℕ → ℕ → Target) (c : ℕ) (asked tests : List (ℕ × ℕ))
        → received n old (follow p pool answers (target.Nsm method) site c (seen old f turns asked tests))
        ≡ received 2 (with_heap old mid) (m.call_method p pool answers method.0 c (seen (with_heap old mid) f turns asked tests))
    missing_is answers c asked tests =
        let s : State = seen old f turns asked tests in
        let bs : List shown.Value = below n old in
        let v : shown.Value = inv.receiver in
        let heap : List shown.Thing = heap_of old.heap in
        let a : shown.Thing = list inv.args in
        let b : shown.Thing = invocation (told_name sel.kind sel.name) (at (length heap)) sel.kind in
        let reaches : Selector → Step = λ sel. m.reach p pool answers (target.Nsm method) sel c s bs v inv.args in
        let grown : (heap ++ a ∷ []) ++ b ∷ [] ≡ heap_of mid.heap = append_assoc heap (a ∷ []) (b ∷ []) ∙ sym inv.heap in
        let globals : values_of old.heap old.globals.items ≡ values_of mid.heap old.globals.items = sym (shown_kept old.heap mid.heap inv.keeps old.globals.items held.globals) in
        let over : List shown.Thing → List shown.Value → ℕ → Step = λ hs gs k. m.call_method p pool answers method.0 c (record s { store = record s.store { heap = hs; globals = gs } }) bs v (at k ∷ []) in
        let then : State = seen (with_heap old mid) f turns asked tests in
        ap (λ xs. receiver xs (follow p pool answers (target.Nsm method) site c s bs)) inv.were
        ∙ ap (λ o. some no_number o (λ (k : SelectorId). some no_number (slice_get p.selectors k.0) reaches)) site_is
        ∙ ap (λ o. some no_number o reaches) sel_is
        ∙ ap (λ hs. over hs s.store.globals (length (heap ++ a ∷ []))) grown
        ∙ ap (λ gs. over (heap_of mid.heap) gs (length (heap ++ a ∷ []))) globals
        ∙ ap (over (heap_of mid.heap) (values_of mid.heap old.globals.items)) (length-append heap (a ∷ []))
        ∙ call_free p pool answers c (record s { store = record s.store { heap = heap_of mid.heap; globals = values_of mid.heap old.globals.items } }) then.values bs v method.0 (at (length heap + 1) ∷ [])
        ∙ ap (λ bs. m.call_method p pool answers method.0 c then bs v (at (length heap + 1) ∷ [])) (sym inv.lower)
        ∙ ap (λ xs. receiver xs (m.call_method p pool answers method.0 c then (below 2 mid))) (sym inv.now)

    pub can_missing : CanFollow p pool (target.Nsm method) site n old f turns → (method.0 < length pool.methods) × CanCall p pool method.0 2 mid f turns
    can_missing can =
        let here : goes (received 2 (with_heap old mid) (m.call_method p pool can.1.0 method.0 can.0 (seen (with_heap old mid) f turns can.1.1 can.1.2))) ≡ true =
        ap goes (sym (missing_is can.1.0 can.0 can.1.1 can.1.2)) ∙ can.1.3 in
        let there = called_is p pool can.1.0 method.0 can.0 (seen (with_heap old mid) f turns can.1.1 can.1.2) (below 2 mid) (above 2 mid) here in (
          slice_get_within pool.methods method.0 there.0 there.1,
          subst (λ (i : Isolate). CanCall p pool method.0 2 i f turns) (sym inv.rest) (can.0, (can.1.0, can.1.1, can.1.2, here)),
        )

    pub follows_missing : (new : Isolate) (g : Frame) (left : ℕ) (fl : Flow) → Called p pool method.0 2 mid f turns fl new g left → Followed p pool (target.Nsm method) site n old f turns fl new g left
    follows_missing new g left fl called c held =
        let w = subst (λ (i : Isolate). Called p pool method.0 2 i f turns fl new g left) inv.rest called c (held_invoked p pool sel n old mid inv held) in
        record {
          led = λ answers asked tests h. missing_is answers c asked tests ∙ w.led answers asked tests (ap goes (sym (missing_is answers c asked tests)) ∙ h);
          held = w.held;
          stays = w.stays;
          calls = w.calls;
        }
