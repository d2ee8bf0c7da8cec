-- How many variables are open before and behind statements.
use Rattle.std.proofs.Common.{◌≡◌, ℕ, zero, suc, ◌+◌, ◌-◌, ◌<◌, ◌≤◌, Bool, true, false, length, arith, List, [], ◌∷◌, ◌++◌, map, take, drop, refl, ap, ◌∙◌, sym}
use Rattle.program.specs.declared.body.Statement.{Statement}
use Rattle.std.specs.Prelude.{get_or}
use Rattle.std.proofs.lemmas.List.{take_more, drop_more}
use Rattle.code_writer.specs.declared.layout.Layout.{Layout}
use Rattle.code_writer.specs.Out.{Out}
use Rattle.code_writer.specs.EmittedStatements.{emit_sta, emit_stas}
use Rattle.program.specs.Bodies as c
use Rattle.program.specs.Bodies.{Sta, Stas}
use Rattle.program.specs.Sound.{after}
use Rattle.program_code.specs.Needs.{all_after}
use Rattle.code_writer.specs.Views.{stas_of}
use Rattle.dart_meaning.specs.Run.{choose}
use Rattle.body_writer.specs.Variables.{declared}

pub after_is : (n : ℕ) (x : Sta) → after n x ≡ choose (declared x) (suc n) n
after_is n (c.block all) = refl
after_is n (c.declare e) = refl
after_is n (c.run e) = refl
after_is n c.empty = refl
after_is n (c.when e x) = refl
after_is n (c.when_else e x y) = refl
after_is n (c.while e x) = refl
after_is n (c.for start e last x) = refl
after_is n (c.do_while x e) = refl
after_is n c.break = refl
after_is n c.continue = refl
after_is n (c.return e) = refl

pub all_after_last : (n : ℕ) (xs : List Statement) (x : Statement) → all_after n (stas_of (xs ++ x ∷ [])) ≡ after (all_after n (stas_of xs)) (c.sta x)
all_after_last n [] x = refl
all_after_last n (y ∷ ys) x = all_after_last (after n (c.sta y)) ys x

after_one : (a b : ℕ) (x : Sta) → after a x ≡ after b x → a ≡ b
after_one a b (c.block all) e = e
after_one a b (c.declare x) e = omega (arith, e)
after_one a b (c.run x) e = e
after_one a b c.empty e = e
after_one a b (c.when x y) e = e
after_one a b (c.when_else x y z) e = e
after_one a b (c.while x y) e = e
after_one a b (c.for start x last y) e = e
after_one a b (c.do_while x y) e = e
after_one a b c.break e = e
after_one a b c.continue e = e
after_one a b (c.return x) e = e

-- where i statements are before, the last of them is number j
pub opens : (n : ℕ) (all : List Statement) (i j v : ℕ) (x : Statement) → j < length all → i ≡ j + 1 → x ≡ get_or all j x → v ≡ all_after n (stas_of (take i all)) → v ≡ after (all_after n (stas_of (take j all))) (c.sta x)
opens n all i j v x small step read h =
    h ∙ ap (λ k. all_after n (stas_of (take k all))) step ∙ ap (λ ys. all_after n (stas_of ys)) (take_more all j x small)
    ∙ ap (λ y. all_after n (stas_of (take j all ++ y ∷ []))) (sym read) ∙ all_after_last n (take j all) x

pub one_open : (n : ℕ) (all : List Statement) (i j v : ℕ) (x : Statement) (b : Bool) → j < length all → i ≡ j + 1 → x ≡ get_or all j x → v ≡ all_after n (stas_of (take i all)) → b ≡ declared (c.sta x) → b ≡ true → 1 ≤ v
one_open n all i j v x b small step read h is yes_ =
    let m : ℕ = all_after n (stas_of (take j all)) in
    let e : v ≡ suc m = opens n all i j v x small step read h ∙ after_is m (c.sta x) ∙ ap (λ d. choose d (suc m) m) (sym is ∙ yes_) in
    omega (arith, e)

pub before_declared : (v w : ℕ) (x : Sta) (b : Bool) → b ≡ declared x → b ≡ true → 1 ≤ v → w ≡ v - 1 → v ≡ after w x
before_declared v w x b is yes_ some e =
    let s : v ≡ suc w = omega (arith, some, e) in
    s ∙ sym (after_is w x ∙ ap (λ d. choose d (suc w) w) (sym is ∙ yes_))

pub before_other : (v w : ℕ) (x : Sta) (b : Bool) → b ≡ declared x → b ≡ false → w ≡ v → v ≡ after w x
before_other v w x b is no_ e = sym e ∙ sym (after_is w x ∙ ap (λ d. choose d (suc w) w) (sym is ∙ no_))

pub written_next : (layout : Layout) (n i j v w brk cont : ℕ) (all : List Statement) (x : Statement) (s0 s1 s2 : Out) → j < length all → i ≡ j + 1 → x ≡ get_or all j x
    → v ≡ all_after n (stas_of (take i all)) → s1 ≡ emit_stas layout (stas_of (drop i all)) v brk cont s0 → s2 ≡ emit_sta layout (c.sta x) w brk cont s1 → v ≡ after w (c.sta x)
    → (w ≡ all_after n (stas_of (take j all))) × (s2 ≡ emit_stas layout (stas_of (drop j all)) w brk cont s0)
written_next layout n i j v w brk cont all x s0 s1 s2 small step read h e1 e2 back = (
  after_one w (all_after n (stas_of (take j all))) (c.sta x) (sym back ∙ opens n all i j v x small step read h),
  e2 ∙ ap (emit_sta layout (c.sta x) w brk cont) (e1 ∙ ap (λ k. emit_stas layout (stas_of (drop k all)) v brk cont s0) step ∙ ap (λ k. emit_stas layout (stas_of (drop (j + 1) all)) k brk cont s0) back)
      ∙ ap (λ y. emit_stas layout (stas_of (y ∷ drop (j + 1) all)) w brk cont s0) read
      ∙ ap (λ ys. emit_stas layout (stas_of ys) w brk cont s0) (sym (drop_more all j x small)),
)

pub same_item : {A : Type 0} (all : List A) (j : ℕ) (a b : A) → j < length all → a ≡ get_or all j a → b ≡ get_or all j b → a ≡ b
same_item [] j a b small e f = absurd (omega (arith, small))
same_item (x ∷ xs) zero a b small e f = e ∙ sym f
same_item (x ∷ xs) (suc j) a b small e f = same_item xs j a b (omega (arith, small)) e f
