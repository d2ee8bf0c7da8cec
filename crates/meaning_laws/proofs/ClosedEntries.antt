-- What holds of each step, and of steps put together, holds of all that an entry of a sound numbered program does.
use Rattle.std.proofs.Common.{ℕ, zero, suc, List, [], ◌∷◌}
use Rattle.std.specs.Prelude.{◌+◌, false, reverse, length, map, slice_get, Option, Some, None}
use Rattle.std.specs.Option.{option_map, option_and_then}
use Rattle.program.specs.declared.numbered.Class.{Class}
use Rattle.program.specs.declared.numbered.Constructor.{Constructor}
use Rattle.program.specs.declared.numbered.Function.{Function}
use Rattle.program.specs.declared.numbered.Method.{Method}
use Rattle.program.specs.declared.numbered.MethodBody.{MethodBody}
use Rattle.program.specs.declared.numbered.MethodBody.TheVariants as does
use Rattle.program.specs.Bodies as c
use Rattle.program.specs.Bodies.{Exp, Exps, Pieces, Calls, Links, Target, Update, First, Sta, Stas, count}
use Rattle.program.specs.Parts.{Parts}
use Rattle.program.specs.Sound.{SoundBody}
use Rattle.program.specs.Whole.{IsSound, IsClass, HasSoundConstructor, IsMethod, SoundCode, IsFunction}
use Rattle.dart_values.specs.Values.{Value, null}
use Rattle.dart_meaning.specs.Program.{Found, Entry, running, listing}
use Rattle.dart_meaning.specs.Run.{M, stack_overflow, framed, onward}
use Rattle.dart_meaning.specs.Numbered as n
use Rattle.dart_meaning.specs.Numbered.{Code, the_function, the_method, the_constructor, of_numbered, method_at, constructor_at, constructor_of, class_above, with_code, function_coded, Coded, coded_at, parameters, Destination, at_local, at_global, at_super, at_member, at_element, world, enter}
use Rattle.meaning_laws.proofs.Closed.{Closed, ClosedFrames, at_one}
use Rattle.meaning_laws.proofs.Closed as h
use Rattle.meaning_laws.proofs.ClosedBodies.{ClosedCalls}
use Rattle.meaning_laws.proofs.ClosedBodies as bodies

-- what is known of a class's constructor
pub written : (p : Parts) (class : ℕ) (o : Option Class) → IsClass p class o → HasSoundConstructor p class (option_and_then (λ (k : Class). k.constructor) o)
written p class None ok = tt
written p class (Some k) ok = ok.constructor

-- ---- what a body of any class calls, where what enters a body has P

module _ {p : Parts} {P : (A : Type 0) → M Value A → Type 0} (s : Closed p P) (enter : Entry Code → M Value Value) (enters : (x : Entry Code) → P _ (enter x)) where
  above_holds : (found : Option (Found Code)) (args : List Value) → P _ (n.member_if p enter found args)
  above_holds None args = s.answers null
  above_holds (Some found) args = s.binds (s.looks (λ r. r.this)) (λ me. h.do_member_holds (at_one s enter) enters found me args)

  pub calls_of : (here : Option ℕ) → ClosedCalls p here (λ A m. P A (m enter))
  calls_of here = record {
    steps = at_one s enter;
    sends = h.send_holds (at_one s enter) enters;
    functions = λ i args. enters (running (the_function i) null args);
    news = h.make_holds (at_one s enter) enters;
    supers = λ m count args ok. above_holds (method_at p m) args;
  }

-- ---- entries

module _ {p : Parts} {P : (A : Type 0) → M Value A → Type 0} (f : ClosedFrames p P) where
  abbrev s : Closed p P
  s = f.steps

  framed_holds : {A : Type 0} {m : M Value A} (vars : List Value) (this : Value) → P _ m → P _ (framed vars this m)
  framed_holds vars this m =
      s.binds (s.looks _) (λ outer. s.binds (s.looks (λ r. r.this)) (λ me. s.binds (f.frames vars this) (λ _. s.binds m (λ a. s.binds (f.frames outer me) (λ _. s.answers a)))))

  module _ (enter : Entry Code → M Value Value) (enters : (x : Entry Code) → P _ (enter x)) where
    set_fields : (sets : List (Option ℕ)) (me : Value) (args : List Value) → P _ (n.set_fields p enter me sets args)
    set_fields (Some field ∷ more) me (v ∷ args) = h.then_of s (s.fields me field v) (set_fields more me args)
    set_fields (None ∷ more) me (v ∷ args) = set_fields more me args
    set_fields (Some field ∷ more) me [] = s.answers tt
    set_fields (None ∷ more) me [] = s.answers tt
    set_fields [] me args = s.answers tt

    build : (class : ℕ) (sets : List (Option ℕ)) (passes : Exps) (all : Stas) (me : Value) (vars : List Value) → P _ (n.values p enter passes) → P _ (n.doing_all p enter all)
        → P _ (n.build p enter class sets passes all me vars)
    build class sets passes all me vars j k =
        framed_holds (reverse vars) me (h.then_of s (set_fields sets me vars) (s.binds j (λ passed.
        h.then_of s (h.construct_holds (at_one s enter) enters (constructor_at (class_above p class)) me passed) (h.then_of s k (s.answers me)))))

    construct : (class : ℕ) (o : Option Constructor) (me : Value) (args : List Value) → HasSoundConstructor p class o → P _ (n.construct p enter class o me args)
    construct class None me args ok = build class [] c.no_more c.end_of me [] (s.answers []) (s.answers onward)
    construct class (Some b) me args ok =
        build class b.sets (c.exps (map c.exp b.passes)) (c.stas (map c.sta b.body)) me (parameters b.required b.defaults args)
        (bodies.values (calls_of s enter enters None) (c.exps (map c.exp b.passes)) (length b.sets) ok.passes)
        (bodies.doing_all (calls_of s enter enters (Some class)) f.varies false (c.stas (map c.sta b.body)) (length b.sets) false ok.body)

    run_body : (here : Option ℕ) (required : ℕ) (k : Coded) (slots : ℕ) (me : Value) (args : List Value) → SoundBody p here slots k.body → P _ (n.run_coded p enter (Some k) me args)
    run_body here required k slots me args ok = framed_holds (reverse (parameters k.required k.defaults args)) me (bodies.body_value (calls_of s enter enters here) f.varies k.body slots ok)

    function_holds : (o : Option Function) (me : Value) (args : List Value) → IsFunction p o → P _ (n.run_coded p enter (option_map function_coded o) me args)
    function_holds None me args ok = s.answers null
    function_holds (Some k) me args ok = run_body None k.required (function_coded k) (k.required + length k.defaults) me args ok

    code_holds : (m : ℕ) (k : Method) (b : MethodBody) (me : Value) (args : List Value) → SoundCode p m k b → P _ (n.run_coded p enter (with_code k.required k.defaults b) me args)
    code_holds m k (does.Code b) me args ok =
        run_body (Some k.owner.0) k.required (record { required = k.required; defaults = k.defaults; body = b }) (k.required + length k.defaults) me args ok.1
    code_holds m k (does.Native i) me args ok = s.answers null
    code_holds m k (does.ReadField i) me args ok = s.answers null
    code_holds m k (does.WriteField i) me args ok = s.answers null

    method_holds : (m : ℕ) (o : Option Method) (me : Value) (args : List Value) → IsMethod p m o
        → P _ (n.run_coded p enter (option_and_then (λ (k : Method). with_code k.required k.defaults k.body) o) me args)
    method_holds m None me args ok = s.answers null
    method_holds m (Some k) me args ok = code_holds m k k.body me args ok.code

    inside_holds : IsSound p → (x : Entry Code) → P _ (n.inside p enter x)
    inside_holds sound (running (the_function i) me args) = function_holds (slice_get p.functions i) me args (sound.functions i)
    inside_holds sound (running (the_method m) me args) = method_holds m (slice_get p.methods m) me args (sound.methods m)
    inside_holds sound (running (the_constructor class) me args) =
        construct class (constructor_of p class) me args (written p class (slice_get p.classes class) (sound.classes class))
    inside_holds sound (listing v) = framed_holds [] v (h.list_text_holds (at_one s enter) (h.send_holds (at_one s enter) enters) v)

  -- whatever the depth is
  pub enter_holds : IsSound p → (left : ℕ) (x : Entry Code) → P _ (enter p left x)
  unfolding enter
  enter_holds sound zero x = h.then_of s s.spends (s.stops stack_overflow)
  enter_holds sound (suc left) x = h.then_of s s.spends (inside_holds (enter p left) (enter_holds sound left) sound x)
