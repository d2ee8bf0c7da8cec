-- The selector of a call is that of its site.
use Rattle.std.proofs.Common.{◌≡◌, ℕ, ◌-◌, ◌≤◌, List, [], ◌∷◌, length, sym, ap, arith}
use Rattle.std.specs.Prelude.{◌&&◌, ◌||◌, unwrap_or, Option, Some, None, codes}
use Rattle.program.specs.declared.numbered.Selector.{Selector}
use Rattle.program.specs.declared.numbered.SelectorKind.{SelectorKind}
use Rattle.program.specs.declared.numbered.SelectorKind.TheVariants.{Call}
use Rattle.program.specs.Parts.{Parts, selector_at}
use Rattle.program.specs.Sound.{Is}
use Rattle.program.specs.Whole.{IsSound}
use Rattle.program.proofs.Facts.{print_site, list_site}
use Rattle.dart_values.specs.Values.{Value}
use Rattle.dart_meaning.specs.Calls as calls
use Rattle.dart_meaning.specs.Calls.{is_null}
use Rattle.dart_meaning.specs.Numbered.{Code, world}
use Rattle.dart_meaning.specs.Program.{Entry, to_string}
use Rattle.dart_meaning.specs.Run.{M, ◌>>=◌, pure, choose, need_bool, need_text}
use Rattle.meaning_laws.specs.BodyLaws.{text_at, BySite, CallsGoBySite}

-- the selector that is meant
it_is : (kind : SelectorKind) (name : List ℕ) (n : ℕ) (o : Option Selector) (d : Selector) → Is kind name n o → unwrap_or o d ≡ record { kind = kind; name = name; count = n }
it_is kind name n (Some sel) d h = λ i. record { kind = h.0 i; name = h.1 i; count = h.2 i }
it_is kind name n None d h = absurd h

module _ (p : Parts) (enter : Entry Code → M Value Value) where
  shows : (site : ℕ) → Is Call (codes "toString") 0 (selector_at p site) → (v : Value) → calls.to_text (world p enter) site v ≡ text_at p enter site v
  shows site h v = ap (λ (sel : Selector). calls.send (world p enter) site sel v [] >>= need_text) (sym (it_is Call (codes "toString") 0 (selector_at p site) to_string h))

  by_site : ∥ IsSound p ∥₁ → 2 ≤ length p.sites → BySite p enter
  by_site sound few = record {
    operators = λ k h v u. ap (λ (sel : Selector). calls.send (world p enter) k.site.0 sel v (u ∷ [])) (sym (it_is Call _ 1 (selector_at p k.site.0) to_string h));
    equalities = λ site h v u.
        ap (λ (sel : Selector). choose (is_null v || is_null u) (pure (is_null v && is_null u)) (calls.send (world p enter) site sel v (u ∷ []) >>= need_bool))
        (sym (it_is Call (codes "==") 1 (selector_at p site) to_string h));
    interpolations = shows;
    print = shows (length p.sites - 2) (print_site p sound (length p.sites - 2) (omega (arith, few)));
    lists = shows (length p.sites - 1) (list_site p sound (length p.sites - 1) (omega (arith, few)));
  }

pub calls_go_by_site : CallsGoBySite
calls_go_by_site p sound enter = by_site p enter ∣ sound ∣₁ sound.prelude
