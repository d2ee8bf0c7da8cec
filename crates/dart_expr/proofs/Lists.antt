use Rattle.std.proofs.Common.{◌≡◌, ℕ, zero, suc, ◌<◌, ◌≤◌, false, List, [], ◌∷◌, ◌++◌, length, Ok, sym, ◌∙◌, arith, append-nil, append_assoc}
use Rattle.dart_syntax.specs.declared.token.Span.{Span}
use Rattle.dart_syntax.specs.declared.token.Sign.{Sign}
use Rattle.dart_syntax.specs.declared.token.Sign.TheVariants as s
use Rattle.dart_syntax.specs.Syntax.{Exp}
use Rattle.dart_syntax.specs.Words.{Tokens, sign}
use Rattle.dart_syntax.specs.Grammar.{Reading, More, last, comma, more, Args, empty, some}
use Rattle.dart_expr.specs.Input.{Parser, sees, expect, span, next}
use Rattle.dart_expr.specs.Model.{more_from, args}
use Rattle.dart_expr.proofs.Facts.{sees_it, after_it, after_not, after_seen, expect_it, seen, expect_ok, same_ok, split, via}
use Rattle.dart_expr.specs.Firsts.{sign_starts}
use Rattle.dart_expr.proofs.Good.{Good, grip, sign_grip, starts_other}

module _ (W : Reading Exp) (w : Parser Exp) (good : Good W w 1) (close : Sign) (no_grip : sign_grip close ≡ 0) (no_start : sign_starts close ≡ false) (no_comma : (at : Span) (ts : Tokens) → sees close (sign s.Comma at ∷ ts) ≡ false) where
  more_shorter : {ts rest : Tokens} {xs : List Exp} → More W close ts xs rest → length rest < length ts
  more_shorter last = omega arith
  more_shorter comma = omega arith
  more_shorter (more d ds) = omega (arith, good.shorter d, more_shorter ds)

  more_grip : {ts rest : Tokens} {xs : List Exp} → More W close ts xs rest → grip ts < 1
  unfolding grip
  more_grip last = omega (arith, no_grip)
  more_grip comma = omega arith
  more_grip (more d ds) = omega arith

  more_complete : (n : ℕ) (found : List Exp) {ts rest : Tokens} {xs : List Exp} → More W close ts xs rest → length ts ≤ n → more_from w close n found ts ≡ Ok (found ++ xs, rest)
  unfolding more_from
  more_complete zero found d h = absurd (omega (arith, more_shorter d))
  more_complete (suc n) found (last {at} {rest}) h = rw (sees_it close at rest, after_it close at rest, append-nil found)
  more_complete (suc n) found (comma {a} {b} {rest}) h =
      rw (no_comma a (sign close b ∷ rest), after_not close _ (no_comma a (sign close b ∷ rest)), expect_it s.Comma a (sign close b ∷ rest), sees_it close b rest, after_it close b rest, append-nil found)
  more_complete (suc n) found (more {at} {x} {xs} {ts} {mid} {rest} d ds) h =
      let other : sees close ts ≡ false = starts_other close ts no_start (good.begins d) in
      let room : length mid ≤ n = omega (arith, good.shorter d) in
      rw (no_comma at ts, after_not close _ (no_comma at ts), expect_it s.Comma at ts, other, after_not close ts other, good.complete d (more_grip ds), more_complete n (found ++ x ∷ []) ds room, append_assoc found (x ∷ []) xs)

  pub args_complete : {ts rest : Tokens} {xs : List Exp} → Args W close ts xs rest → args w close ts ≡ Ok (xs, rest)
  unfolding args
  args_complete (empty {at} {rest}) = rw (sees_it close at rest, after_it close at rest)
  args_complete (some {x} {xs} {ts} {mid} {rest} d ds) =
      let other : sees close ts ≡ false = starts_other close ts no_start (good.begins d) in
      rw (other, after_not close ts other, good.complete d (more_grip ds)) (more_complete (length mid) (x ∷ []) ds (omega arith))

  pub args_shorter : {ts rest : Tokens} {xs : List Exp} → Args W close ts xs rest → length rest < length ts
  args_shorter empty = omega arith
  args_shorter (some d ds) = omega (arith, good.shorter d, more_shorter ds)

  record FindsMore (found : List Exp) (ts : Tokens) (ys : List Exp) (rest : Tokens) : Type 0 where
    xs : List Exp
    is : ys ≡ found ++ xs
    reads : More W close ts xs rest

  more_sound : (n : ℕ) (found : List Exp) (ts : Tokens) {ys : List Exp} {rest : Tokens} → more_from w close n found ts ≡ Ok (ys, rest) → FindsMore found ts ys rest
  unfolding more_from
  more_sound zero found ts e = cc
  more_sound (suc n) found ts e = split (sees close ts)
      (λ h. rw (seen close ts h) (same_ok (λ ys rest. FindsMore found (sign close (span ts) ∷ next ts) ys rest) (rw (h, after_seen close ts h) at e)
      (record { xs = []; is = sym (append-nil found); reads = last })))
      (λ h. via (expect s.Comma ts) _ (rw (h, after_not close ts h) at e) (λ a us e1 e2.
      rw (expect_ok s.Comma ts e1) (split (sees close us)
      (λ h2. rw (seen close us h2) (same_ok (λ ys rest. FindsMore found (sign s.Comma a ∷ sign close (span us) ∷ next us) ys rest) (rw (h2, after_seen close us h2) at e2)
      (record { xs = []; is = sym (append-nil found); reads = comma })))
      (λ h2. via (w us) _ (rw (h2, after_not close us h2) at e2) (λ x mid e3 e4.
      let f = more_sound n (found ++ x ∷ []) mid e4 in
      record { xs = x ∷ f.xs; is = f.is ∙ append_assoc found (x ∷ []) f.xs; reads = more (good.sound us e3) f.reads })))))

  pub args_sound : (ts : Tokens) {xs : List Exp} {rest : Tokens} → args w close ts ≡ Ok (xs, rest) → Args W close ts xs rest
  unfolding args
  args_sound ts e = split (sees close ts)
      (λ h. rw (seen close ts h) (same_ok (λ xs rest. Args W close (sign close (span ts) ∷ next ts) xs rest) (rw (h, after_seen close ts h) at e) empty))
      (λ h. via (w ts) _ (rw (h, after_not close ts h) at e) (λ x mid e1 e2.
      let f = more_sound (length mid) (x ∷ []) mid e2 in rw f.is (some (good.sound ts e1) f.reads)))
