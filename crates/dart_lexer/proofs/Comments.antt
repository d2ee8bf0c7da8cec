-- Comments: the function and the cases agree.
use Rattle.std.proofs.Common.{◌≡◌, ℕ, zero, suc, Bool, true, false, ◌&&◌, ◌==◌, [], ◌∷◌, Result, Ok, Err, refl, ap, sym, inl, inr, ◌⊎◌, ◌∙◌}
use Rattle.std.proofs.lemmas.Bool.{eqb-true, eq-eqb}
use Rattle.dart_syntax.specs.Bytes.{Text, next}
use Rattle.dart_syntax.specs.Comments as co
use Rattle.dart_lexer.specs.FirstFault as ff
use Rattle.dart_syntax.specs.Comments.{Begins, Comment}
use Rattle.dart_lexer.specs.FirstFault.{Endless}
use Rattle.dart_lexer.specs.Model.{past, is_first}
use Rattle.dart_lexer.proofs.Facts.{split, first_is, and_true}

not_begins : (a c b : ℕ) (bs : Text) → ¬ Begins a c (b ∷ bs) → (b == a && is_first c bs) ≡ false
not_begins a c b bs h = split (b == a && is_first c bs)
    (λ e. let p = and_true (b == a) (is_first c bs) e in let same : b ≡ a = eqb-true b a p.0 in absurd (h (next bs, rw (same, ← first_is c bs p.1))))
    (λ e. e)

begins_not : (a c b : ℕ) (bs : Text) → (b == a && is_first c bs) ≡ false → ¬ Begins a c (b ∷ bs)
begins_not a c b bs e (rest, is) = let same_b : b ≡ a = cc in let same_bs : bs ≡ c ∷ rest = cc in
    let t : (b == a && is_first c bs) ≡ true = rw (same_bs, eq-eqb b a same_b, eq-eqb c c refl) in cc

begins_is : (a c b : ℕ) (bs : Text) → (b == a && is_first c bs) ≡ true → (b ≡ a) × (bs ≡ c ∷ next bs)
begins_is a c b bs e = let p = and_true (b == a) (is_first c bs) e in (eqb-true b a p.0, first_is c bs p.1)

err_same : {x y : Text} → ◌≡◌ {A = Result Text Text} (Err x) (Err y) → x ≡ y
err_same e = cc

module _ (ok : ℕ → Bool) (star : ok 42 ≡ true) (slash : ok 47 ≡ true) where
  abbrev after : ℕ → Text → Result Text Text
  after zero bs = Ok bs
  after (suc d) bs = past ok d false bs

  comment_complete : (d : ℕ) {bs mid : Text} → Comment ok bs mid → past ok d false bs ≡ after d mid
  comment_complete zero co.Comment.close = refl
  comment_complete (suc d) co.Comment.close = refl
  comment_complete zero (co.Comment.nested c1 c2) = comment_complete 1 c1 ∙ comment_complete zero c2
  comment_complete (suc d) (co.Comment.nested c1 c2) = comment_complete (suc (suc d)) c1 ∙ comment_complete (suc d) c2
  comment_complete zero (co.Comment.other {b} {bs} h no_end no_start c) = rw (not_begins 42 47 b bs no_end, not_begins 47 42 b bs no_start, h) (comment_complete zero c)
  comment_complete (suc d) (co.Comment.other {b} {bs} h no_end no_start c) = rw (not_begins 42 47 b bs no_end, not_begins 47 42 b bs no_start, h) (comment_complete (suc d) c)

  pub comment_is : {bs rest : Text} → Comment ok bs rest → past ok 0 false bs ≡ Ok rest
  comment_is c = comment_complete zero c

  other_than : (b a : ℕ) → ok b ≡ false → ok a ≡ true → (b == a) ≡ false
  other_than b a lacks has = split (b == a) (λ e. let f : true ≡ false = sym has ∙ ap ok (sym (eqb-true b a e)) ∙ lacks in cc) (λ e. e)

  endless_complete : (d : ℕ) {bs rest : Text} → Endless ok bs rest → past ok d false bs ≡ Err rest
  endless_complete d ff.Endless.ends = refl
  endless_complete zero (ff.Endless.stops {b} {bs} h) = rw (other_than b 42 h star, other_than b 47 h slash, h)
  endless_complete (suc d) (ff.Endless.stops {b} {bs} h) = rw (other_than b 42 h star, other_than b 47 h slash, h)
  endless_complete zero (ff.Endless.inner x) = endless_complete 1 x
  endless_complete (suc d) (ff.Endless.inner x) = endless_complete (suc (suc d)) x
  endless_complete zero (ff.Endless.nested c x) = comment_complete 1 c ∙ endless_complete zero x
  endless_complete (suc d) (ff.Endless.nested c x) = comment_complete (suc (suc d)) c ∙ endless_complete (suc d) x
  endless_complete zero (ff.Endless.other {b} {bs} h no_end no_start x) = rw (not_begins 42 47 b bs no_end, not_begins 47 42 b bs no_start, h) (endless_complete zero x)
  endless_complete (suc d) (ff.Endless.other {b} {bs} h no_end no_start x) = rw (not_begins 42 47 b bs no_end, not_begins 47 42 b bs no_start, h) (endless_complete (suc d) x)

  pub endless_is : {bs rest : Text} → Endless ok bs rest → past ok 0 false bs ≡ Err rest
  endless_is x = endless_complete zero x

  -- ---- and back

  abbrev skipped : Bool → Text → Text
  skipped true bs = next bs
  skipped false bs = bs

  -- d + 1 comments end one behind the other
  abbrev Closes : ℕ → Text → Text → Type 0
  Closes zero bs rest = Comment ok bs rest
  Closes (suc d) bs rest = (mid : Text) × Comment ok bs mid × Closes d mid rest

  wrap : (d : ℕ) (bs rest : Text) → Closes (suc d) bs rest → Closes d (47 ∷ 42 ∷ bs) rest
  wrap zero bs rest (mid, c, cs) = co.Comment.nested c cs
  wrap (suc d) bs rest (mid, c, (mid2, c2, cs)) = (mid2, co.Comment.nested c c2, cs)

  longer : (d : ℕ) (b : ℕ) (bs rest : Text) → ok b ≡ true → ¬ Begins 42 47 (b ∷ bs) → ¬ Begins 47 42 (b ∷ bs) → Closes d bs rest → Closes d (b ∷ bs) rest
  longer zero b bs rest h no_end no_start c = co.Comment.other h no_end no_start c
  longer (suc d) b bs rest h no_end no_start (mid, c, cs) = (mid, co.Comment.other h no_end no_start c, cs)

  comment_sound : (d : ℕ) (skip : Bool) (bs : Text) {rest : Text} → past ok d skip bs ≡ Ok rest → Closes d (skipped skip bs) rest
  comment_sound d skip [] e = cc
  comment_sound d true (b ∷ bs) e = comment_sound d false bs e
  comment_sound zero false (b ∷ bs) {rest} e = split (b == 42 && is_first 47 bs)
      (λ h. let p = begins_is 42 47 b bs h in let q : next bs ≡ rest = same (rw h at e) in rw (p.0, p.1, q) co.Comment.close)
      (λ no_end. split (b == 47 && is_first 42 bs)
      (λ h. let p = begins_is 47 42 b bs h in rw (p.0, p.1) (wrap zero _ _ (comment_sound 1 true bs (rw (no_end, h) at e))))
      (λ no_start. split (ok b)
      (λ h. longer zero b bs rest h (begins_not 42 47 b bs no_end) (begins_not 47 42 b bs no_start) (comment_sound zero false bs (rw (no_end, no_start, h) at e)))
      (λ h. let f = rw (no_end, no_start, h) at e in cc)))
    where
      same : {x y : Text} → ◌≡◌ {A = Result Text Text} (Ok x) (Ok y) → x ≡ y
      same e = cc
  comment_sound (suc d) false (b ∷ bs) {rest} e = split (b == 42 && is_first 47 bs)
      (λ h. let p = begins_is 42 47 b bs h in rw (p.0, p.1) ((next bs, co.Comment.close, comment_sound d true bs (rw h at e))))
      (λ no_end. split (b == 47 && is_first 42 bs)
      (λ h. let p = begins_is 47 42 b bs h in rw (p.0, p.1) (wrap (suc d) _ _ (comment_sound (suc (suc d)) true bs (rw (no_end, h) at e))))
      (λ no_start. split (ok b)
      (λ h. longer (suc d) b bs rest h (begins_not 42 47 b bs no_end) (begins_not 47 42 b bs no_start) (comment_sound (suc d) false bs (rw (no_end, no_start, h) at e)))
      (λ h. let f = rw (no_end, no_start, h) at e in cc)))

  pub is_comment : (bs : Text) {rest : Text} → past ok 0 false bs ≡ Ok rest → Comment ok bs rest
  is_comment bs e = comment_sound zero false bs e

  -- of d + 1 comments some end, and then one does not
  abbrev Fails : ℕ → Text → Text → Type 0
  Fails zero bs rest = Endless ok bs rest
  Fails (suc d) bs rest = Endless ok bs rest ⊎ ((mid : Text) × Comment ok bs mid × Fails d mid rest)

  direct : (d : ℕ) (bs rest : Text) → Endless ok bs rest → Fails d bs rest
  direct zero bs rest x = x
  direct (suc d) bs rest x = inl x

  wrap_fail : (d : ℕ) (bs rest : Text) → Fails (suc d) bs rest → Fails d (47 ∷ 42 ∷ bs) rest
  wrap_fail d bs rest (inl x) = direct d _ _ (ff.Endless.inner x)
  wrap_fail zero bs rest (inr (mid, c, x)) = ff.Endless.nested c x
  wrap_fail (suc d) bs rest (inr (mid, c, inl x)) = inl (ff.Endless.nested c x)
  wrap_fail (suc d) bs rest (inr (mid, c, inr (mid2, c2, x))) = inr (mid2, co.Comment.nested c c2, x)

  longer_fail : (d : ℕ) (b : ℕ) (bs rest : Text) → ok b ≡ true → ¬ Begins 42 47 (b ∷ bs) → ¬ Begins 47 42 (b ∷ bs) → Fails d bs rest → Fails d (b ∷ bs) rest
  longer_fail zero b bs rest h no_end no_start x = ff.Endless.other h no_end no_start x
  longer_fail (suc d) b bs rest h no_end no_start (inl x) = inl (ff.Endless.other h no_end no_start x)
  longer_fail (suc d) b bs rest h no_end no_start (inr (mid, c, x)) = inr (mid, co.Comment.other h no_end no_start c, x)

  endless_sound : (d : ℕ) (skip : Bool) (bs : Text) {rest : Text} → past ok d skip bs ≡ Err rest → Fails d (skipped skip bs) rest
  endless_sound d true [] e = let q : [] ≡ _ = err_same e in rw (← q) (direct d _ _ ff.Endless.ends)
  endless_sound d false [] e = let q : [] ≡ _ = err_same e in rw (← q) (direct d _ _ ff.Endless.ends)
  endless_sound d true (b ∷ bs) e = endless_sound d false bs e
  endless_sound zero false (b ∷ bs) {rest} e = split (b == 42 && is_first 47 bs)
      (λ h. let f = rw h at e in cc)
      (λ no_end. split (b == 47 && is_first 42 bs)
      (λ h. let p = begins_is 47 42 b bs h in rw (p.0, p.1) (wrap_fail zero _ _ (endless_sound 1 true bs (rw (no_end, h) at e))))
      (λ no_start. split (ok b)
      (λ h. longer_fail zero b bs rest h (begins_not 42 47 b bs no_end) (begins_not 47 42 b bs no_start) (endless_sound zero false bs (rw (no_end, no_start, h) at e)))
      (λ h. let q : b ∷ bs ≡ rest = err_same (rw (no_end, no_start, h) at e) in rw (← q) (ff.Endless.stops h))))
  endless_sound (suc d) false (b ∷ bs) {rest} e = split (b == 42 && is_first 47 bs)
      (λ h. let p = begins_is 42 47 b bs h in rw (p.0, p.1) (inr (next bs, co.Comment.close, endless_sound d true bs (rw h at e))))
      (λ no_end. split (b == 47 && is_first 42 bs)
      (λ h. let p = begins_is 47 42 b bs h in rw (p.0, p.1) (wrap_fail (suc d) _ _ (endless_sound (suc (suc d)) true bs (rw (no_end, h) at e))))
      (λ no_start. split (ok b)
      (λ h. longer_fail (suc d) b bs rest h (begins_not 42 47 b bs no_end) (begins_not 47 42 b bs no_start) (endless_sound (suc d) false bs (rw (no_end, no_start, h) at e)))
      (λ h. let q : b ∷ bs ≡ rest = err_same (rw (no_end, no_start, h) at e) in rw (← q) (inl (ff.Endless.stops h)))))

  pub is_endless : (bs : Text) {rest : Text} → past ok 0 false bs ≡ Err rest → Endless ok bs rest
  is_endless bs e = endless_sound zero false bs e
