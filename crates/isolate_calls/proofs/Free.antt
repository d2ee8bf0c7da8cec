-- What a call does not look at: the values that the state has, since it puts others in their place.
use Rattle.std.proofs.Common.{◌≡◌, ℕ, ◌+◌, nat_eq, nat_lt, List, [], ◌∷◌, length, slice_get, refl, ap}
use Rattle.std.specs.Prelude.{Option, Some, None}
use Rattle.program.specs.Parts.{Parts}
use Rattle.program.specs.BuiltIn.{built_in_members}
use Rattle.program.specs.declared.numbered.Method.{Method}
use Rattle.program.specs.declared.numbered.Target.{Target}
use Rattle.dart_values.specs.Values.{Value, null}
use Rattle.dart_meaning.specs.Run as run
use Rattle.dart_meaning.specs.Calls as calls
use Rattle.dart_meaning.specs.Numbered.{of_numbered}
use Rattle.code_pool.specs.Pool.{Pool}
use Rattle.code_pool.specs.declared.pool.MethodBody.{MethodBody}
use Rattle.code_pool.specs.declared.pool.MethodBody.TheVariants as body
use Rattle.code_pool.specs.Machine as m
use Rattle.code_pool.specs.Machine.{Lack, State, Step, after, by, over, push, some, when, unless, no_number, wrong_count, wrong_kind, wrong_receiver, accepts, begin}

some_same : {A : Type 0} (lack : Lack) (o : Option A) (g h : A → Step) → ((a : A) → g a ≡ h a) → some lack o g ≡ some lack o h
some_same lack None g h e = refl
some_same lack (Some a) g h e = e a

after_free : {A : Type 0} (s : State) (vs : List Value) (r : run.Result Value A) (go : A → State → Step) → ((a : A) (t : State) → go a t ≡ go a (record t { values = vs }))
    → after s r go ≡ after (record s { values = vs }) r go
after_free s vs (run.went a r) go same = same a (record s { store = r.store })
after_free s vs (run.ended e r) go same = refl

module _ (p : Parts) (pool : Pool) (answers : ℕ → ℕ → Target) (c : ℕ) (s : State) (vs bs : List Value) (v : Value) where
  abbrev t : State
  t = record s { values = vs }

  native_free : (n : ℕ) (args : List Value) (k : Method) → m.native_as p pool answers n c s bs v args k ≡ m.native_as p pool answers n c t bs v args k
  native_free n args k =
      ap (λ x. when wrong_receiver (m.is_owned p pool answers c k.owner.0) (when wrong_count (nat_eq (length args) k.required) x))
      (after_free s vs (calls.natively (of_numbered p) n v args (record { vars = []; this = null; store = s.store })) (λ w s. push s bs w) (λ w u. refl))

  enter_free : (u : ℕ) (args : List Value) → m.enter p pool answers u s bs args ≡ m.enter p pool answers u t bs args
  enter_free u args = some_same no_number (slice_get pool.units u)
      (λ unit. when wrong_count (accepts unit (length args)) (by run.spend s (λ _ s. run.choose (nat_lt (length s.callers + 1) 2000) (begin u unit s bs args) (over run.stack_overflow s.store))))
      (λ unit. when wrong_count (accepts unit (length args)) (by run.spend t (λ _ s. run.choose (nat_lt (length s.callers + 1) 2000) (begin u unit s bs args) (over run.stack_overflow s.store))))
      (λ unit. ap (when wrong_count (accepts unit (length args)))
      (after_free s vs (run.spend (record { vars = []; this = null; store = s.store }))
      (λ _ s. run.choose (nat_lt (length s.callers + 1) 2000) (begin u unit s bs args) (over run.stack_overflow s.store)) (λ _ w. refl)))

  perform_free : (does : MethodBody) (args : List Value) → m.perform p pool answers does c s bs v args ≡ m.perform p pool answers does c t bs v args
  perform_free (body.Native n) args =
      ap (unless wrong_kind (nat_eq n.0 43)) (some_same no_number (slice_get built_in_members n.0) (m.native_as p pool answers n.0 c s bs v args) (m.native_as p pool answers n.0 c t bs v args) (native_free n.0 args))
  perform_free (body.ReadField k) [] = refl
  perform_free (body.ReadField k) (w ∷ args) = refl
  perform_free (body.WriteField k) [] = refl
  perform_free (body.WriteField k) (w ∷ []) = refl
  perform_free (body.WriteField k) (w ∷ x ∷ args) = refl
  perform_free (body.Code u) args = enter_free u.0 (v ∷ args)

  -- a method is called alike over other values
  pub call_free : (k : ℕ) (args : List Value) → m.call_method p pool answers k c s bs v args ≡ m.call_method p pool answers k c t bs v args
  call_free k args = some_same no_number (slice_get pool.methods k)
      (λ does. some no_number (slice_get p.methods k) (λ (d : Method). when wrong_receiver (m.is_owned p pool answers c d.owner.0) (m.perform p pool answers does c s bs v args)))
      (λ does. some no_number (slice_get p.methods k) (λ (d : Method). when wrong_receiver (m.is_owned p pool answers c d.owner.0) (m.perform p pool answers does c t bs v args)))
      (λ does. ap (λ x. some no_number (slice_get p.methods k) (λ (d : Method). when wrong_receiver (m.is_owned p pool answers c d.owner.0) x)) (perform_free does args))
