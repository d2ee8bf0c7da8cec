-- Each instruction of a statement's code is fine, and so is that of a whole body.
use Rattle.std.proofs.Common.{◌≡◌, ℕ, ◌+◌, ◌≤◌, List, [], ◌∷◌, ◌++◌, length, slice_get, refl, ap, subst, arith}
use Rattle.std.specs.Prelude.{Bool, true, Option}
use Rattle.program.specs.declared.literal.Literal.{Literal}
use Rattle.program.specs.Bodies as c
use Rattle.program.specs.Bodies.{Exp, Exps, First, Sta, Stas, count}
use Rattle.program.specs.Parts.{Parts}
use Rattle.program.specs.Sound.{after, after_first, MakeAccepts, Sound, AllSound, SoundFirst, SoundSta, SoundStas}
use Rattle.code_unit.specs.declared.instr.Instr.{Instr}
use Rattle.code_unit.specs.declared.instr.Instr.TheVariants.{Jump, JumpIfFalse, LoopTurn, Pop}
use Rattle.program_code.specs.Code as d
use Rattle.program_code.specs.Needs.{Covers, CoversAll, CoversFirst, CoversSta, CoversStas, Roomy, RoomyAll}
use Rattle.program_code.specs.Sizes.{size, first_size, drops_size, sta_size, stas_size}
use Rattle.program_code.proofs.Lengths.{first_length, drops_length, sta_length, stas_length}
use Rattle.sound_code.proofs.Scans.{end_of, IsSome, some_left, At, States, AllFine, front, back, starts, starts_or_next, fine_both}
use Rattle.sound_code.proofs.Ends.{end_first, end_drops, returned, end_sta}
use Rattle.sound_code.proofs.FineExps as exps
use Rattle.sound_code.proofs.FineExps.{some_exp}

module _ (p : Parts) (here : Option ℕ) (bare : (n : ℕ) → MakeAccepts n (slice_get p.classes 0) → n ≡ 0) (constant : Literal → ℕ) (first scratch : ℕ)
    (depths : List ℕ) (locals : ℕ) (Has : Literal → Type 0) (room : ℕ) (spare : scratch + 1 ≤ locals) (rooms : scratch + room ≤ locals)
    (most : ℕ) (apart : first + most ≤ scratch) where
  abbrev co : Exp → ℕ → List Instr
  co = d.code p constant first scratch

  abbrev Holds : ℕ → ℕ → List Instr → Type 0
  Holds = States depths locals

  abbrev Is : ℕ → ℕ → Type 0
  Is = At depths locals

  abbrev AreFine : ℕ → List Instr → Type 0
  AreFine = AllFine depths locals

  is_at : (t u x : ℕ) → t ≡ u → Is t x → Is u x
  is_at t u x e h = subst (λ n. Is n x) e h

  opened : (n : ℕ) → n ≤ most → first + n ≤ locals
  opened n h = omega (arith, apart, spare, h)

  fine : (e : Exp) (n t x : ℕ) → n ≤ most → Sound p here n e → Covers Has room e → Holds t x (co e t) → Is (t + size e) (x + 1) → AreFine x (co e t)
  fine e n t x h = exps.fine_exp p here bare constant first scratch depths locals Has room spare rooms e n t x (opened n h)

  then_fine : (e : Exp) (n t : ℕ) (tail : List Instr) → n ≤ most → Sound p here n e → Covers Has room e → IsSome tail → Holds t 0 (co e t ++ tail) → (Holds (t + size e) 1 tail → AreFine 1 tail) → AreFine 0 (co e t ++ tail)
  then_fine e n t tail h sound covers some holds rest =
      exps.then_fine p here bare constant first scratch depths locals Has room spare rooms e n t 0 tail sound some holds (fine e n t 0 h sound covers) rest

  -- ---- parts of a `for`

  fine_first : (start : First) (n t : ℕ) → n ≤ most → after_first n start ≤ most → SoundFirst p here n start → CoversFirst Has room start → Holds t 0 (d.first_code p constant first scratch start n t) → AreFine 0 (d.first_code p constant first scratch start n t)
  fine_first c.no_first n t h k sound covers holds = tt
  fine_first (c.first_declares e) n t h k sound covers holds =
      then_fine e n t _ h sound covers tt holds (λ b. (record { operands = omega arith; slot = omega (arith, apart, spare, k); jump = tt }, tt))
  fine_first (c.first_runs e) n t h k sound covers holds = then_fine e n t _ h sound covers tt holds (λ b. (record { operands = omega arith; slot = tt; jump = tt }, tt))

  fine_drops : (es : Exps) (n t : ℕ) → n ≤ most → AllSound p here n es → CoversAll Has room es → Holds t 0 (d.drops p constant first scratch es t) → AreFine 0 (d.drops p constant first scratch es t)
  fine_drops c.no_more n t h sound covers holds = tt
  fine_drops (c.also e more) n t h sound covers holds =
      then_fine e n t (Pop ∷ d.drops p constant first scratch more (t + size e + 1)) h sound.0 covers.0 tt holds
      (λ b. (record { operands = omega arith; slot = tt; jump = tt }, fine_drops more n (t + size e + 1) h sound.1 covers.1 b.1))

  -- ---- statements

  -- `return` takes the value that stands there.
  module _ (answers : Bool) (leave : List Instr) (leaves : end_of 1 leave ≡ 0) (some_leave : IsSome leave) (leave_fine : AreFine 1 leave) where
    abbrev ss : Sta → ℕ
    ss = sta_size (length leave)

    abbrev st : Sta → ℕ → ℕ → ℕ → ℕ → List Instr
    st = d.sta p constant first scratch leave

    abbrev sts : Stas → ℕ → ℕ → ℕ → ℕ → List Instr
    sts = d.stas p constant first scratch leave

    abbrev Goes : Sta → ℕ → Bool → Type 0
    Goes x n loops = SoundSta p here answers n loops x

    -- a loop by its parts
    fine_loop : (e : Exp) (n top body_at last_at end : ℕ) (body last : List Instr) → n ≤ most → Sound p here n e → Covers Has room e → top + size e + 2 ≡ body_at → body_at + length body ≡ last_at → last_at + length last + 1 ≡ end
        → end_of 0 body ≡ 0 → end_of 0 last ≡ 0 → Is end 0 → Holds top 0 (d.loop_code p constant first scratch top end (co e top) body last)
        → (Holds body_at 0 body → Is last_at 0 → AreFine 0 body) → (Holds last_at 0 last → AreFine 0 last)
        → AreFine 0 (d.loop_code p constant first scratch top end (co e top) body last)
    fine_loop e n top body_at last_at end body last h sound covers x y z body_end last_end at_end holds fine_body fine_last =
        let tail : List Instr = JumpIfFalse end ∷ LoopTurn ∷ (body ++ (last ++ Jump top ∷ [])) in
        let at_top : Is top 0 = starts depths locals top 0 (co e top) (some_exp p constant first scratch e top) (front depths locals top 0 (co e top) tail holds) in
        then_fine e n top tail h sound covers tt holds (λ b.
        let place : top + size e + 1 + 1 ≡ body_at = omega (arith, x) in
        let within : Holds body_at 0 (body ++ (last ++ Jump top ∷ [])) = subst (λ k. Holds k 0 (body ++ (last ++ Jump top ∷ []))) place b.1.1 in
        let behind = back depths locals last_at 0 body_at 0 body (last ++ Jump top ∷ []) y body_end within in
        let jump = back depths locals (last_at + length last) 0 last_at 0 last (Jump top ∷ []) refl last_end behind in
        let at_last : Is last_at 0 = starts_or_next depths locals (last_at + length last) last_at 0 last refl (front depths locals last_at 0 last (Jump top ∷ []) behind) jump.0 in (
          record { operands = omega arith; slot = tt; jump = at_end },
          (
            record { operands = omega arith; slot = tt; jump = tt },
            fine_both depths locals 0 0 body (last ++ Jump top ∷ []) body_end (fine_body (front depths locals body_at 0 body (last ++ Jump top ∷ []) within) at_last)
                (fine_both depths locals 0 0 last (Jump top ∷ []) last_end (fine_last (front depths locals last_at 0 last (Jump top ∷ []) behind)) (record { operands = omega arith; slot = tt; jump = at_top }, tt)),
          ),
        ))

    stas_start : (xs : Stas) (n brk cont t : ℕ) → Holds t 0 (sts xs n brk cont t) → Is (t + stas_size (length leave) xs) 0 → Is t 0
    stas_start xs n brk cont t holds next = starts_or_next depths locals (t + stas_size (length leave) xs) t 0 (sts xs n brk cont t) (ap (λ k. t + k) (stas_length p constant first scratch leave xs n brk cont t)) holds next

    mutual
      -- With n variables open. No operand stands behind the code, nor where `break` and `continue` lead.
      pub fine_sta : (x : Sta) (n : ℕ) (loops : Bool) (brk cont t : ℕ) → n ≤ most → Roomy most n x → Goes x n loops → CoversSta Has room x → Holds t 0 (st x n brk cont t) → Is (t + ss x) 0 → Is brk 0 → Is cont 0 → AreFine 0 (st x n brk cont t)
      fine_sta (c.block all) n loops brk cont t h roomy sound covers holds next at_brk at_cont = fine_stas all n loops brk cont t h roomy sound covers holds next at_brk at_cont
      fine_sta (c.declare e) n loops brk cont t h roomy sound covers holds next at_brk at_cont =
          then_fine e n t _ h sound covers tt holds (λ b. (record { operands = omega arith; slot = omega (arith, apart, spare, roomy); jump = tt }, tt))
      fine_sta (c.run e) n loops brk cont t h roomy sound covers holds next at_brk at_cont =
          then_fine e n t _ h sound covers tt holds (λ b. (record { operands = omega arith; slot = tt; jump = tt }, tt))
      fine_sta c.empty n loops brk cont t h roomy sound covers holds next at_brk at_cont = tt
      fine_sta (c.when e x) n loops brk cont t h roomy sound covers holds next at_brk at_cont =
          let then_at : ℕ = t + size e + 1 in
          let at_end : Is (then_at + ss x) 0 = is_at (t + (size e + (1 + ss x))) (then_at + ss x) 0 (omega arith) next in
          then_fine e n t (JumpIfFalse (then_at + ss x) ∷ st x n brk cont then_at) h sound.0 covers.0 tt holds
          (λ b. (record { operands = omega arith; slot = tt; jump = at_end }, fine_sta x n loops brk cont then_at h roomy sound.1 covers.1 b.1 at_end at_brk at_cont))
      fine_sta (c.when_else e x y) n loops brk cont t h roomy sound covers holds next at_brk at_cont =
          let then_at : ℕ = t + size e + 1 in
          let else_at : ℕ = then_at + ss x + 1 in
          let at_end : Is (else_at + ss y) 0 = is_at (t + (size e + (1 + (ss x + (1 + ss y))))) (else_at + ss y) 0 (omega arith) next in
          let ends = end_sta p here bare constant first scratch answers leave leaves x n loops brk cont then_at sound.1 in
          then_fine e n t (JumpIfFalse else_at ∷ (st x n brk cont then_at ++ (Jump (else_at + ss y) ∷ st y n brk cont else_at))) h sound.0 covers.0 tt holds (λ b.
          let jump = back depths locals (then_at + ss x) 0 then_at 0 (st x n brk cont then_at) (Jump (else_at + ss y) ∷ st y n brk cont else_at)
          (ap (λ k. then_at + k) (sta_length p constant first scratch leave x n brk cont then_at)) ends b.1 in
          let at_else : Is else_at 0 = starts_or_next depths locals (else_at + ss y) else_at 0 (st y n brk cont else_at) (ap (λ k. else_at + k) (sta_length p constant first scratch leave y n brk cont else_at)) jump.1 at_end in (
            record { operands = omega arith; slot = tt; jump = at_else },
            fine_both depths locals 0 0 (st x n brk cont then_at) (Jump (else_at + ss y) ∷ st y n brk cont else_at) ends
                (fine_sta x n loops brk cont then_at h roomy.0 sound.1 covers.1 (front depths locals then_at 0 (st x n brk cont then_at) (Jump (else_at + ss y) ∷ st y n brk cont else_at) b.1) jump.0 at_brk at_cont)
                (record { operands = omega arith; slot = tt; jump = at_end }, fine_sta y n loops brk cont else_at h roomy.1 sound.2 covers.2 jump.1 at_end at_brk at_cont),
          ))
      fine_sta (c.while e x) n loops brk cont t h roomy sound covers holds next at_brk at_cont =
          let body_at : ℕ = t + size e + 2 in
          let last_at : ℕ = body_at + ss x in
          let end : ℕ = last_at + 1 in
          let at_end : Is end 0 = is_at (t + (size e + (2 + (ss x + 1)))) end 0 (omega arith) next in
          fine_loop e n t body_at last_at end (st x n end last_at body_at) [] h sound.0 covers.0 refl (ap (λ k. body_at + k) (sta_length p constant first scratch leave x n end last_at body_at)) (omega arith)
          (end_sta p here bare constant first scratch answers leave leaves x n true end last_at body_at sound.1) refl at_end holds
          (λ b at_last. fine_sta x n true end last_at body_at h roomy sound.1 covers.1 b at_last at_end at_last) (λ b. tt)
      fine_sta (c.for start e last x) n loops brk cont t h roomy sound covers holds next at_brk at_cont =
          let m : ℕ = after_first n start in
          let top : ℕ = t + first_size start in
          let body_at : ℕ = top + size e + 2 in
          let last_at : ℕ = body_at + ss x in
          let end : ℕ = last_at + drops_size last + 1 in
          let at_end : Is end 0 = is_at (t + (first_size start + (size e + (2 + (ss x + (drops_size last + 1)))))) end 0 (omega arith) next in
          let ends = end_first p here bare constant first scratch start n t sound.0 in
          let loop : List Instr = d.loop_code p constant first scratch top end (co e top) (st x m end last_at body_at) (d.drops p constant first scratch last last_at) in
          let within = back depths locals top 0 t 0 (d.first_code p constant first scratch start n t) loop (ap (λ k. t + k) (first_length p constant first scratch start n t)) ends holds in
          fine_both depths locals 0 0 (d.first_code p constant first scratch start n t) loop ends
          (fine_first start n t h roomy.0 sound.0 covers.0 (front depths locals t 0 (d.first_code p constant first scratch start n t) loop holds))
          (fine_loop e m top body_at last_at end (st x m end last_at body_at) (d.drops p constant first scratch last last_at) roomy.0 sound.1 covers.1 refl (ap (λ k. body_at + k) (sta_length p constant first scratch leave x m end last_at body_at))
          (ap (λ k. last_at + k + 1) (drops_length p constant first scratch last last_at))
          (end_sta p here bare constant first scratch answers leave leaves x m true end last_at body_at sound.3) (end_drops p here bare constant first scratch last m last_at sound.2) at_end within
          (λ b at_last. fine_sta x m true end last_at body_at roomy.0 roomy.1 sound.3 covers.3 b at_last at_end at_last)
          (λ b. fine_drops last m last_at roomy.0 sound.2 covers.2 b))
      fine_sta (c.do_while x e) n loops brk cont t h roomy sound covers holds next at_brk at_cont =
          let body_at : ℕ = t + 1 in
          let test_at : ℕ = body_at + ss x in
          let end : ℕ = test_at + size e + 2 in
          let at_end : Is end 0 = is_at (t + (1 + (ss x + (size e + 2)))) end 0 (omega arith) next in
          let body : List Instr = st x n end test_at body_at in
          let tail : List Instr = JumpIfFalse end ∷ Jump t ∷ [] in
          let ends = end_sta p here bare constant first scratch answers leave leaves x n true end test_at body_at sound.0 in
          let behind = back depths locals test_at 0 body_at 0 body (co e test_at ++ tail) (ap (λ k. body_at + k) (sta_length p constant first scratch leave x n end test_at body_at)) ends holds.1 in
          let at_test : Is test_at 0 = starts depths locals test_at 0 (co e test_at ++ tail) (some_left (co e test_at) tail (some_exp p constant first scratch e test_at)) behind in (
            record { operands = omega arith; slot = tt; jump = tt },
            fine_both depths locals 0 0 body (co e test_at ++ tail) ends
                (fine_sta x n true end test_at body_at h roomy sound.0 covers.0 (front depths locals body_at 0 body (co e test_at ++ tail) holds.1) at_test at_end at_test)
                (then_fine e n test_at tail h sound.1 covers.1 tt behind (λ b. (record { operands = omega arith; slot = tt; jump = at_end }, (record { operands = omega arith; slot = tt; jump = holds.0 }, tt)))),
          )
      fine_sta c.break n loops brk cont t h roomy sound covers holds next at_brk at_cont = (record { operands = omega arith; slot = tt; jump = at_brk }, tt)
      fine_sta c.continue n loops brk cont t h roomy sound covers holds next at_brk at_cont = (record { operands = omega arith; slot = tt; jump = at_cont }, tt)
      fine_sta (c.return e) n loops brk cont t h roomy sound covers holds next at_brk at_cont =
          then_fine e n t leave h (returned p here bare constant first scratch answers n e sound) covers some_leave holds (λ b. leave_fine)

      pub fine_stas : (xs : Stas) (n : ℕ) (loops : Bool) (brk cont t : ℕ) → n ≤ most → RoomyAll most n xs → SoundStas p here answers n loops xs → CoversStas Has room xs → Holds t 0 (sts xs n brk cont t) → Is (t + stas_size (length leave) xs) 0 → Is brk 0 → Is cont 0 → AreFine 0 (sts xs n brk cont t)
      fine_stas c.end_of n loops brk cont t h roomy sound covers holds next at_brk at_cont = tt
      fine_stas (c.next x more) n loops brk cont t h roomy sound covers holds next at_brk at_cont =
          let tail : List Instr = sts more (after n x) brk cont (t + ss x) in
          let ends = end_sta p here bare constant first scratch answers leave leaves x n loops brk cont t sound.0 in
          let b = back depths locals (t + ss x) 0 t 0 (st x n brk cont t) tail (ap (λ k. t + k) (sta_length p constant first scratch leave x n brk cont t)) ends holds in
          let end : Is (t + ss x + stas_size (length leave) more) 0 = is_at (t + (ss x + stas_size (length leave) more)) (t + ss x + stas_size (length leave) more) 0 (omega arith) next in
          fine_both depths locals 0 0 (st x n brk cont t) tail ends
          (fine_sta x n loops brk cont t h roomy.0 sound.0 covers.0 (front depths locals t 0 (st x n brk cont t) tail holds) (stas_start more (after n x) brk cont (t + ss x) b end) at_brk at_cont)
          (fine_stas more (after n x) loops brk cont (t + ss x) roomy.1 roomy.2 sound.1 covers.1 b end at_brk at_cont)
