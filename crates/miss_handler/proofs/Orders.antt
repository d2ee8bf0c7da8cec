-- The order of states.
use Rattle.std.proofs.Common.{ℕ, List, [], ◌++◌, ◌∙◌, sym, refl, subst, ap, arith}
use Rattle.std.proofs.lemmas.List.{append-nil, append_assoc}
use Rattle.program.specs.declared.numbered.Target.{Target}
use Rattle.miss_handler.specs.declared.row.Check.{Check}
use Rattle.miss_handler.specs.declared.state.CallState.{CallState}
use Rattle.miss_handler.specs.declared.state.CallState.TheVariants.{Unlinked, Mono, Single, Cached, Mega}
use Rattle.miss_handler.specs.States.{Covers, Explains, Widens, IsCachedOrMega, Later, Extends}

pub later-refl : (s : CallState) → Later s s
later-refl Unlinked = tt
later-refl (Mono a) = refl
later-refl (Single lo hi t) = (omega arith, omega arith, refl)
later-refl Cached = tt
later-refl Mega = refl

-- what is explained stays explained
pub explains_later : (s u : CallState) (c : ℕ) → Later s u → Explains s c → Explains u c
explains_later Unlinked u c l e = absurd e
explains_later (Mono a) u c l e = subst (Explains u) (sym e) l
explains_later (Single lo hi t) Unlinked c l e = absurd l
explains_later (Single lo hi t) (Mono b) c l e = absurd l
explains_later (Single lo hi t) (Single lo' hi' t') c l e = let a = l.0 in let b = l.1 in let f = e.0 in let g = e.1 in (omega arith, omega arith)
explains_later (Single lo hi t) Cached c l e = tt
explains_later (Single lo hi t) Mega c l e = tt
explains_later Cached Unlinked c l e = absurd l
explains_later Cached (Mono b) c l e = absurd l
explains_later Cached (Single lo hi t) c l e = absurd l
explains_later Cached Cached c l e = tt
explains_later Cached Mega c l e = tt
explains_later Mega u c l e = subst (λ z. Explains z c) (sym l) tt

widens_later : (lo hi : ℕ) (t : Target) (s u : CallState) → Widens lo hi t s → Later s u → Widens lo hi t u
widens_later lo hi t Unlinked u w l = absurd w
widens_later lo hi t (Mono b) u w l = absurd w
widens_later lo hi t (Single a b d) Unlinked w l = absurd l
widens_later lo hi t (Single a b d) (Mono c) w l = absurd l
widens_later lo hi t (Single a b d) (Single a' b' d') w l = let p = w.0 in let q = w.1 in let p' = l.0 in let q' = l.1 in (omega arith, omega arith, l.2 ∙ w.2)
widens_later lo hi t (Single a b d) Cached w l = tt
widens_later lo hi t (Single a b d) Mega w l = tt
widens_later lo hi t Cached Unlinked w l = absurd l
widens_later lo hi t Cached (Mono c) w l = absurd l
widens_later lo hi t Cached (Single a b d) w l = absurd l
widens_later lo hi t Cached Cached w l = tt
widens_later lo hi t Cached Mega w l = tt
widens_later lo hi t Mega u w l = subst (Widens lo hi t) (sym l) tt

pub cached_later : (s u : CallState) → IsCachedOrMega s → Later s u → IsCachedOrMega u
cached_later Unlinked u w l = absurd w
cached_later (Mono a) u w l = absurd w
cached_later (Single lo hi t) u w l = absurd w
cached_later Cached u w l = l
cached_later Mega u w l = subst IsCachedOrMega (sym l) tt

pub later_trans : (r s u : CallState) → Later r s → Later s u → Later r u
later_trans Unlinked s u a b = tt
later_trans (Mono c) s u a b = explains_later s u c.0 b a
later_trans (Single lo hi t) s u a b = widens_later lo.0 hi.0 t s u a b
later_trans Cached s u a b = cached_later s u a b
later_trans Mega s u a b = let P : CallState → Type 0 = λ z. Later z u in subst P a b

-- a covered class is explained
pub covers_explains : (s : CallState) (row : List Check) (c : ℕ) → Covers s row c → Explains s c
covers_explains Unlinked row c h = absurd h
covers_explains (Mono a) row c h = h
covers_explains (Single lo hi t) row c h = h
covers_explains Cached row c h = tt
covers_explains Mega row c h = tt

pub extends-refl : (row : List Check) → Extends row row
extends-refl row = ([], sym (append-nil row))

pub extends_trans : (a b c : List Check) → Extends a b → Extends b c → Extends a c
extends_trans a b c f g = (f.0 ++ g.0, g.1 ∙ ap (λ l. l ++ g.0) f.1 ∙ append_assoc a f.0 g.0)
