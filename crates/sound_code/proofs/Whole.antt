-- Each unit that has a use in the code of a sound program is sound.
use Rattle.std.proofs.Common.{◌≡◌, ℕ, suc, true, false, List, [], ◌∷◌, length, slice_get, refl, subst, ◌+◌}
use Rattle.std.specs.Option.{option_and_then}
use Rattle.std.specs.Prelude.{take, Option, Some, None}
use Rattle.program.specs.declared.body.Body.{Body}
use Rattle.program.specs.declared.numbered.Class.{Class}
use Rattle.program.specs.declared.numbered.Method.{Method}
use Rattle.program.specs.declared.numbered.MethodBody.TheVariants as does
use Rattle.program.specs.declared.literal.Literal.{Literal}
use Rattle.program.specs.Parts.{Parts}
use Rattle.program.specs.Sound.{MakeAccepts, SoundBody}
use Rattle.program.specs.Whole as program
use Rattle.program.specs.Whole.{IsClass, HasSoundConstructor, IsFunction, IsMethod, SoundCode}
use Rattle.dart_meaning.specs.Numbered.{constructor_of}
use Rattle.code_unit.specs.Sound.{IsSound}
use Rattle.code_pool.specs.Pool.{Pool}
use Rattle.program_code.specs.IsCode.{IsCode}
use Rattle.program_code.proofs.Used.{HoldsOfCode, holds_of_used}
use Rattle.sound_code.specs.Laws.{CodeIsSound}
use Rattle.sound_code.proofs.Bodies.{body_sound, constructor_sound, list_sound}

first_of_taken : {A : Type 0} (n : ℕ) (xs ys : List A) (y : A) → take (suc n) xs ≡ y ∷ ys → slice_get xs 0 ≡ Some y
first_of_taken n [] ys y e = cc
first_of_taken n (x ∷ xs) ys y e = cc

-- ---- Object has no written constructor

no_arguments : (p : Parts) → program.IsSound p → (n : ℕ) → MakeAccepts n (slice_get p.classes 0) → n ≡ 0
no_arguments p sound n h =
    let object = first_of_taken 6 p.classes _ _ sound.built_in_classes in
    (subst (MakeAccepts n) object h).1

-- ---- a program

module _ (p : Parts) (sound : program.IsSound p) (pool : Pool) (constant : Literal → ℕ) (code : IsCode p pool constant) where
  bare : (n : ℕ) → MakeAccepts n (slice_get p.classes 0) → n ≡ 0
  bare = no_arguments p sound

  -- what is known of a class's constructor
  sound_constructor : (class : ℕ) → HasSoundConstructor p class (constructor_of p class)
  sound_constructor class = by (slice_get p.classes class) refl
    where
      by : (o : Option Class) → slice_get p.classes class ≡ o → HasSoundConstructor p class (option_and_then (λ (k : Class). k.constructor) o)
      by None e = tt
      by (Some k) e = (subst (IsClass p class) e (sound.classes class)).constructor

  member_body : (m : ℕ) (k : Method) (b : Body) → slice_get p.methods m ≡ Some k → k.body ≡ does.Code b → SoundBody p (Some k.owner.0) (k.required + length k.defaults) b
  member_body m k b at is = (subst (SoundCode p m k) is (subst (IsMethod p m) at (sound.methods m)).code).1

  pub all_sound : HoldsOfCode p pool constant IsSound
  all_sound = record {
    functions = λ f k unit at c. body_sound p bare constant None pool.constants false k.body k.required k.defaults unit c (subst (IsFunction p) at (sound.functions f));
    members = λ m k b unit at is c. body_sound p bare constant (Some k.owner.0) pool.constants true b k.required k.defaults unit c (member_body m k b at is);
    constructors = λ class unit c. constructor_sound p bare constant pool.constants class (constructor_of p class) unit c (sound_constructor class);
    list_text = list_sound p bare constant pool.constants;
  }

pub code_is_sound : CodeIsSound
code_is_sound p sound pool constant code = holds_of_used p pool constant IsSound code (all_sound p sound pool constant code)
