-- The units of a program's code are sound.
use Rattle.std.proofs.Common.{◌≡◌, ℕ, suc, ◌+◌, ◌-◌, ◌≤◌, List, [], ◌∷◌, ◌++◌, length, map, slice_get, refl, sym, ap, subst, ◌∙◌, arith}
use Rattle.std.specs.Prelude.{Bool, true, false, nat_eq, Option, Some, None}
use Rattle.program.specs.declared.literal.Literal.{Literal}
use Rattle.program.specs.declared.literal.Literal.TheVariants as l
use Rattle.program.specs.declared.body.Body.{Body}
use Rattle.program.specs.declared.body.Body.TheVariants as body
use Rattle.program.specs.declared.numbered.Constructor.{Constructor}
use Rattle.program.specs.Bodies as c
use Rattle.program.specs.Bodies.{Exps, Stas, count}
use Rattle.program.specs.Parts.{Parts}
use Rattle.program.specs.Sound.{MakeAccepts, AllSound, SoundStas, SoundBody}
use Rattle.program.specs.Whole.{HasSoundConstructor}
use Rattle.dart_meaning.specs.Run.{choose}
use Rattle.dart_meaning.specs.Numbered.{class_above}
use Rattle.code_unit.specs.declared.instr.Instr.{Instr}
use Rattle.code_unit.specs.declared.instr.Instr.TheVariants.{Const, Local, CallStatic, Pop, Return}
use Rattle.code_unit.specs.declared.unit.Unit as code_unit
use Rattle.code_unit.specs.Sound.{IsSound}
use Rattle.program_code.specs.Code as d
use Rattle.program_code.specs.Depths.{list_text_depths}
use Rattle.program_code.specs.Needs.{CoversAll, CoversStas, CoversBody, RoomyAll, RoomyBody}
use Rattle.program_code.specs.Sizes.{size, sizes, stas_size, sets_size, above_size}
use Rattle.program_code.specs.IsCode.{first_of, BodyCode, ConstructorCode, ListCode, Known, required_of, defaults_of}
use Rattle.program_code.proofs.Lengths.{code_length, codes_length, stas_length, sets_length, above_length}
use Rattle.sound_code.proofs.Scans.{end_of, then_end, At, States, AllFine, front, back, fine_both}
use Rattle.sound_code.proofs.Ends.{end_exp, end_all, end_stas}
use Rattle.sound_code.proofs.FineExps.{fine_exp, fine_all}
use Rattle.sound_code.proofs.FineStas.{fine_stas}
use Rattle.sound_code.proofs.Units.{EndsWell, ends_right, AllSeen, sound_by, sound_seen}

-- how many parameters a constructor has
abbrev parameters_of : Option Constructor → ℕ
parameters_of o = required_of o + length (defaults_of o)

-- How a unit's slots are shared out: parameters and variables from `first` on, at most `most` of them; from `scratch` on one for a value that is
-- used twice, and `room` for the arguments of a construction.
record AreSlots (first parameters scratch most room locals : ℕ) : Type 0 where
  parameters_are_open : parameters ≤ most
  apart : first + most ≤ scratch
  one : scratch + 1 ≤ locals
  arguments : scratch + room ≤ locals

module _ (p : Parts) (bare : (n : ℕ) → MakeAccepts n (slice_get p.classes 0) → n ≡ 0) (constant : Literal → ℕ) where
  -- ---- functions and members

  module _ (Has : Literal → Type 0) (here : Option ℕ) (first scratch most room : ℕ) (u : code_unit.Unit) (n : ℕ) (slots : AreSlots first n scratch most room u.locals) where
    abbrev AreFine : ℕ → List Instr → Type 0
    AreFine = AllFine u.depths u.locals

    abbrev Holds : ℕ → ℕ → List Instr → Type 0
    Holds = States u.depths u.locals

    with_value_fine : AreFine 1 (Return ∷ [])
    with_value_fine = (record { operands = omega arith; slot = tt; jump = tt }, tt)

    body_ends : (b : Body) → EndsWell (d.body_code p constant first scratch b n)
    body_ends (body.Arrow e) = ends_right (d.code p constant first scratch (c.exp e) 0) (Return ∷ []) refl
    body_ends (body.Block all) = let end : ℕ = stas_size 1 (c.stas (map c.sta all)) in ends_right (d.stas p constant first scratch (Return ∷ []) (c.stas (map c.sta all)) n end end 0) (Const (constant l.Null) ∷ Return ∷ []) refl

    body_fine : (b : Body) → SoundBody p here n b → CoversBody Has room b → RoomyBody most n b → Holds 0 0 (d.body_code p constant first scratch b n) → AreFine 0 (d.body_code p constant first scratch b n)
    body_fine (body.Arrow e) sound covers roomy holds =
        let x = c.exp e in
        let ends = end_exp p here bare constant first scratch x n 0 0 sound in
        let code = d.code p constant first scratch x 0 in
        let behind = back u.depths u.locals (length code) 1 0 0 code (Return ∷ []) (omega arith) ends holds in
        let size_is = code_is x in
        fine_both u.depths u.locals 1 0 code (Return ∷ []) ends
        (fine_exp p here bare constant first scratch u.depths u.locals Has room slots.one slots.arguments x n 0 0 (omega (arith, slots.apart, slots.parameters_are_open, slots.one)) sound covers (front u.depths u.locals 0 0 code (Return ∷ []) holds) (subst (λ k. At u.depths u.locals k 1) size_is behind.0))
        with_value_fine
      where
        code_is : (x : c.Exp) → length (d.code p constant first scratch x 0) ≡ 0 + size x
        code_is x = code_length p constant first scratch x 0 ∙ omega arith
    body_fine (body.Block all) sound covers roomy holds =
        let xs = c.stas (map c.sta all) in
        let end : ℕ = stas_size 1 xs in
        let code = d.stas p constant first scratch (Return ∷ []) xs n end end 0 in
        let tail : List Instr = Const (constant l.Null) ∷ Return ∷ [] in
        let ends = end_stas p here bare constant first scratch true (Return ∷ []) refl xs n false end end 0 sound in
        let behind = back u.depths u.locals end 0 0 0 code tail (sym (zero_plus (length code)) ∙ stas_length p constant first scratch (Return ∷ []) xs n end end 0) ends holds in
        let at_end : At u.depths u.locals (0 + end) 0 = subst (λ k. At u.depths u.locals k 0) (zero_plus end) behind.0 in
        fine_both u.depths u.locals 0 0 code tail ends
        (fine_stas p here bare constant first scratch u.depths u.locals Has room slots.one slots.arguments most slots.apart true (Return ∷ []) refl tt with_value_fine xs n false end end 0 slots.parameters_are_open roomy sound covers
        (front u.depths u.locals 0 0 code tail holds) at_end behind.0 behind.0)
        (record { operands = omega arith; slot = tt; jump = tt }, (record { operands = omega arith; slot = tt; jump = tt }, tt))
      where
        zero_plus : (k : ℕ) → k ≡ 0 + k
        zero_plus k = omega arith

  -- the unit of a function, or of a member of the class `here`
  pub body_sound : (here : Option ℕ) (constants : List Literal) (of_this : Bool) (b : Body) (required : ℕ) (defaults : List Literal) (u : code_unit.Unit) (k : BodyCode p constants constant of_this b required defaults u)
      → SoundBody p here (required + length defaults) b → IsSound u
  body_sound here constants of_this b required defaults u k sound =
      let first = first_of of_this in
      let n = required + length defaults in
      let slots : AreSlots first n k.scratch k.most k.room u.locals = record { parameters_are_open = k.small; apart = k.apart; one = k.spares; arguments = k.rooms } in
      sound_by u (d.body_code p constant first k.scratch b n) k.code k.depths
      (body_ends (Known p constants constant) here first k.scratch k.most k.room u n slots b)
      (body_fine (Known p constants constant) here first k.scratch k.most k.room u n slots b sound k.covers k.roomy)

  -- ---- constructors

  module _ (Has : Literal → Type 0) (class scratch most room : ℕ) (u : code_unit.Unit) (n : ℕ) (slots : AreSlots 1 n scratch most room u.locals) where
    abbrev Are : ℕ → List Instr → Type 0
    Are = AllFine u.depths u.locals

    abbrev Hold : ℕ → ℕ → List Instr → Type 0
    Hold = States u.depths u.locals

    open_slots : 1 + n ≤ u.locals
    open_slots = omega (arith, slots.apart, slots.parameters_are_open, slots.one)

    sets_fine : (sets : List (Option ℕ)) (k : ℕ) → k + length sets ≤ u.locals → 1 ≤ u.locals → Are 0 (d.sets_code p constant 1 scratch sets k)
    sets_fine [] k h some = tt
    sets_fine (None ∷ more) k h some = sets_fine more (suc k) (omega (arith, h)) some
    sets_fine (Some field ∷ more) k h some = (
      record { operands = omega arith; slot = omega (arith, some); jump = tt },
      (record { operands = omega arith; slot = omega (arith, h); jump = tt }, (record { operands = omega arith; slot = tt; jump = tt }, sets_fine more (suc k) (omega (arith, h)) some)),
    )

    sets_end : (sets : List (Option ℕ)) (k : ℕ) → end_of 0 (d.sets_code p constant 1 scratch sets k) ≡ 0
    sets_end [] k = refl
    sets_end (None ∷ more) k = sets_end more (suc k)
    sets_end (Some field ∷ more) k = sets_end more (suc k)

    abbrev call_above : ℕ → Exps → ℕ → List Instr
    call_above above passes t = Local 0 ∷ (d.codes_of p constant 1 scratch passes (t + 1) ++ CallStatic (d.constructor p constant 1 scratch above) (suc (count passes)) ∷ Pop ∷ [])

    above_end : (is_object : Bool) (above : ℕ) (passes : Exps) (t : ℕ) → AllSound p None n passes → end_of 0 (choose is_object [] (call_above above passes t)) ≡ 0
    above_end true above passes t h = refl
    above_end false above passes t h = then_end (0 - 0 + 1) (d.codes_of p constant 1 scratch passes (t + 1)) _ (end_all p None bare constant 1 scratch passes n (t + 1) (0 - 0 + 1) h) (omega arith)

    above_fine : (is_object : Bool) (above : ℕ) (passes : Exps) (t : ℕ) → AllSound p None n passes → (is_object ≡ false → CoversAll Has room passes) → Hold t 0 (choose is_object [] (call_above above passes t)) → Are 0 (choose is_object [] (call_above above passes t))
    above_fine true above passes t sound covers holds = tt
    above_fine false above passes t sound covers holds =
        let m : ℕ = 0 - 0 + 1 in
        let args = d.codes_of p constant 1 scratch passes (t + 1) in
        let tail : List Instr = CallStatic (d.constructor p constant 1 scratch above) (suc (count passes)) ∷ Pop ∷ [] in
        let ends = end_all p None bare constant 1 scratch passes n (t + 1) m sound in
        let behind = back u.depths u.locals (t + 1 + sizes passes) (m + count passes) (t + 1) m args tail (ap (λ k. t + 1 + k) (codes_length p constant 1 scratch passes (t + 1))) ends holds.1 in (
          record { operands = omega arith; slot = omega (arith, open_slots); jump = tt },
          fine_both u.depths u.locals (m + count passes) m args tail ends
              (fine_all p None bare constant 1 scratch u.depths u.locals Has room slots.one slots.arguments passes n (t + 1) m open_slots sound (covers refl) (front u.depths u.locals (t + 1) m args tail holds.1) behind.0)
              (record { operands = omega arith; slot = tt; jump = tt }, (record { operands = omega arith; slot = tt; jump = tt }, tt)),
        )

    with_object_fine : Are 1 (d.with_object p constant 1 scratch)
    with_object_fine =
        (record { operands = omega arith; slot = tt; jump = tt }, (record { operands = omega arith; slot = omega (arith, open_slots); jump = tt }, (record { operands = omega arith; slot = tt; jump = tt }, tt)))

    constructor_ends : (above : ℕ) (sets : List (Option ℕ)) (passes : Exps) (all : Stas) → EndsWell (d.constructor_code p constant 1 scratch above sets passes all n)
    constructor_ends above sets passes all =
        let body_at : ℕ = sets_size sets + above_size above passes in
        let end : ℕ = body_at + stas_size 3 all in
        ends_right (d.sets_code p constant 1 scratch sets 1) _
        (ends_right (d.above_code p constant 1 scratch above passes (sets_size sets)) _
        (ends_right (d.stas p constant 1 scratch (d.with_object p constant 1 scratch) all n end end body_at) (Local 0 ∷ Return ∷ []) refl))

    constructor_fine : (above : ℕ) (sets : List (Option ℕ)) (passes : Exps) (all : Stas) → length sets ≤ n → AllSound p None n passes → SoundStas p (Some class) false n false all → (nat_eq above 0 ≡ false → CoversAll Has room passes) → CoversStas Has room all → RoomyAll most n all
        → Hold 0 0 (d.constructor_code p constant 1 scratch above sets passes all n) → Are 0 (d.constructor_code p constant 1 scratch above sets passes all n)
    constructor_fine above sets passes all few sound body_sound passes_cover covers roomy holds =
        let at_above : ℕ = sets_size sets in
        let body_at : ℕ = at_above + above_size above passes in
        let end : ℕ = body_at + stas_size 3 all in
        let leave = d.with_object p constant 1 scratch in
        let first_part = d.sets_code p constant 1 scratch sets 1 in
        let second = d.above_code p constant 1 scratch above passes at_above in
        let third = d.stas p constant 1 scratch leave all n end end body_at in
        let tail : List Instr = Local 0 ∷ Return ∷ [] in
        let second_end = above_end (nat_eq above 0) above passes at_above sound in
        let third_end = end_stas p (Some class) bare constant 1 scratch false leave refl all n false end end body_at body_sound in
        let zero_plus : 0 + length first_part ≡ length first_part = omega arith in
        let behind = back u.depths u.locals at_above 0 0 0 first_part (second ++ (third ++ tail)) (zero_plus ∙ sets_length p constant 1 scratch sets 1) (sets_end sets 1) holds in
        let body = back u.depths u.locals body_at 0 at_above 0 second (third ++ tail) (ap (λ k. at_above + k) (above_length p constant 1 scratch (nat_eq above 0) above passes at_above)) second_end behind in
        let last = back u.depths u.locals end 0 body_at 0 third tail (ap (λ k. body_at + k) (stas_length p constant 1 scratch leave all n end end body_at)) third_end body in
        fine_both u.depths u.locals 0 0 first_part (second ++ (third ++ tail)) (sets_end sets 1) (sets_fine sets 1 (omega (arith, few, open_slots)) (omega (arith, open_slots)))
        (fine_both u.depths u.locals 0 0 second (third ++ tail) second_end (above_fine (nat_eq above 0) above passes at_above sound passes_cover (front u.depths u.locals at_above 0 second (third ++ tail) behind))
        (fine_both u.depths u.locals 0 0 third tail third_end
        (fine_stas p (Some class) bare constant 1 scratch u.depths u.locals Has room slots.one slots.arguments most slots.apart false leave refl tt with_object_fine all n false end end body_at slots.parameters_are_open roomy body_sound covers
        (front u.depths u.locals body_at 0 third tail body) last.0 last.0 last.0)
        (record { operands = omega arith; slot = omega (arith, open_slots); jump = tt }, (record { operands = omega arith; slot = tt; jump = tt }, tt))))

  -- the unit of a class's constructor, written or not
  pub constructor_sound : (constants : List Literal) (class : ℕ) (o : Option Constructor) (u : code_unit.Unit) → ConstructorCode p constants constant class o u → HasSoundConstructor p class o → IsSound u
  constructor_sound constants class None u k sound =
      let slots : AreSlots 1 (parameters_of None) k.scratch k.most k.room u.locals = record { parameters_are_open = k.small; apart = k.apart; one = k.spares; arguments = k.rooms } in
      sound_by u _ k.code k.depths (constructor_ends (Known p constants constant) class k.scratch k.most k.room u (parameters_of None) slots (class_above p class) [] c.no_more c.end_of)
      (constructor_fine (Known p constants constant) class k.scratch k.most k.room u (parameters_of None) slots (class_above p class) [] c.no_more c.end_of (omega arith) tt tt k.passes_cover k.covers k.roomy)
  constructor_sound constants class (Some b) u k sound =
      let n = parameters_of (Some b) in
      let passes = c.exps (map c.exp b.passes) in
      let all = c.stas (map c.sta b.body) in
      let each : length b.sets ≡ n = sound.each in
      let slots : AreSlots 1 n k.scratch k.most k.room u.locals = record { parameters_are_open = k.small; apart = k.apart; one = k.spares; arguments = k.rooms } in
      sound_by u _ k.code k.depths (constructor_ends (Known p constants constant) class k.scratch k.most k.room u n slots (class_above p class) b.sets passes all)
      (constructor_fine (Known p constants constant) class k.scratch k.most k.room u n slots (class_above p class) b.sets passes all (omega (arith, each))
      (subst (λ m. AllSound p None m passes) each sound.passes) (subst (λ m. SoundStas p (Some class) false m false all) each sound.body) k.passes_cover k.covers k.roomy)

  -- the unit of a list's text
  pub list_sound : (constants : List Literal) (u : code_unit.Unit) (k : ListCode p constants constant u) → IsSound u
  list_sound constants u k =
      let three = k.three in
      sound_seen u list_text_depths (d.list_text_code p constant 1 1) k.code k.depths refl (omega arith) refl (list_seen u.locals three)
    where
      list_seen : (locals : ℕ) → 3 ≤ locals → AllSeen list_text_depths locals 0 (d.list_text_code p constant 1 1)
      list_seen locals three = (record { depth = 0; here = refl; fine = record { operands = omega arith; slot = tt; jump = tt }; on = λ e. refl }, (record { depth = 1; here = refl; fine = record { operands = omega arith; slot = tt; jump = tt }; on = λ e. refl }, (record { depth = 2; here = refl; fine = record { operands = omega arith; slot = omega (arith, three); jump = tt }; on = λ e. refl }, (record { depth = 1; here = refl; fine = record { operands = omega arith; slot = tt; jump = tt }; on = λ e. refl }, (record { depth = 2; here = refl; fine = record { operands = omega arith; slot = omega (arith, three); jump = tt }; on = λ e. refl }, (record { depth = 1; here = refl; fine = record { operands = omega arith; slot = omega (arith, three); jump = tt }; on = λ e. refl }, (record { depth = 2; here = refl; fine = record { operands = omega arith; slot = omega (arith, three); jump = tt }; on = λ e. refl }, (record { depth = 3; here = refl; fine = record { operands = omega arith; slot = omega (arith, three); jump = tt }; on = λ e. refl }, (record { depth = 4; here = refl; fine = record { operands = omega arith; slot = tt; jump = refl }; on = λ e. refl }, (record { depth = 4; here = refl; fine = record { operands = omega arith; slot = omega (arith, three); jump = tt }; on = λ e. refl }, (record { depth = 3; here = refl; fine = record { operands = omega arith; slot = tt; jump = tt }; on = λ e. refl }, (record { depth = 3; here = refl; fine = record { operands = omega arith; slot = tt; jump = tt }; on = λ e. refl }, (record { depth = 3; here = refl; fine = record { operands = omega arith; slot = tt; jump = tt }; on = λ e. refl }, (record { depth = 3; here = refl; fine = record { operands = omega arith; slot = tt; jump = tt }; on = λ e. refl }, (record { depth = 1; here = refl; fine = record { operands = omega arith; slot = tt; jump = tt }; on = λ e. refl }, (record { depth = 2; here = refl; fine = record { operands = omega arith; slot = omega (arith, three); jump = tt }; on = λ e. refl }, (record { depth = 1; here = refl; fine = record { operands = omega arith; slot = tt; jump = refl }; on = λ e. cc }, (record { depth = 2; here = refl; fine = record { operands = omega arith; slot = tt; jump = tt }; on = λ e. refl }, (record { depth = 1; here = refl; fine = record { operands = omega arith; slot = tt; jump = tt }; on = λ e. refl }, (record { depth = 2; here = refl; fine = record { operands = omega arith; slot = tt; jump = tt }; on = λ e. refl }, (record { depth = 1; here = refl; fine = record { operands = omega arith; slot = tt; jump = tt }; on = λ e. cc }, tt)))))))))))))))))))))
