-- Runs of a site: what holds after any calls.
use Rattle.std.proofs.Common.{◌≡◌, ℕ, ◌+◌, ◌<◌, ◌≤◌, true, false, List, [], ◌∷◌, ◌++◌, IsTrue, if◌then◌else◌, sym, refl, subst}
use Rattle.std.proofs.lemmas.List.Elements.{All-nil}
use Rattle.std.proofs.lemmas.List.Sums.{fold-append}
use Rattle.miss_handler.specs.declared.state.CallState.{CallState}
use Rattle.miss_handler.specs.States.{Receivers, IsRight, Lawful, covers, next, moves, Later, Explains, SiteCell, unlinked, missed, called, after_calls, alone, Reached}
use Rattle.miss_handler.proofs.Orders.{later-refl, later_trans, explains_later, covers_explains}
use Rattle.miss_handler.proofs.Tests.{covers_yes}
use Rattle.miss_handler.proofs.Moves.{next_later, next_explains, next_lawful, next_reached, miss_stays, reached_few}

-- P holds of each class of a list
abbrev pub Among : (ℕ → Type 0) → List ℕ → Type 0
Among P [] = Unit {0}
Among P (c ∷ classes) = P c × Among P classes

pub after_calls-nil : (r : Receivers) (cell : SiteCell) → after_calls r cell [] ≡ cell
unfolding after_calls
after_calls-nil r cell = refl

pub after_calls-cons : (r : Receivers) (cell : SiteCell) (c : ℕ) (classes : List ℕ) → after_calls r cell (c ∷ classes) ≡ after_calls r (called r cell c) classes
unfolding after_calls
after_calls-cons r cell c classes = refl

-- lists of calls compose
pub after_calls-append : (r : Receivers) (cell : SiteCell) (first second : List ℕ) → after_calls r cell (first ++ second) ≡ after_calls r (after_calls r cell first) second
unfolding after_calls
after_calls-append r cell first second = fold-append (called r) cell first second

-- what holds of a call that is covered, and of one that is not
pub called_cases : (P : SiteCell → Type 0) (r : Receivers) (cell : SiteCell) (c : ℕ)
    → (covers cell.state cell.row c ≡ true → P cell) → (covers cell.state cell.row c ≡ false → P (missed r cell c)) → P (called r cell c)
called_cases P r cell c hit miss =
    elim (covers cell.state cell.row c) as (λ b. covers cell.state cell.row c ≡ b → P (if b then cell else missed r cell c)) [ true ↦ hit | false ↦ miss ] refl

-- the site is lawful
abbrev pub LawfulCell : Receivers → SiteCell → Type 0
LawfulCell r cell = Lawful r cell.state cell.row

pub unlinked_lawful : (r : Receivers) → LawfulCell r unlinked
unlinked_lawful r = record { named = tt; right = All-nil (IsRight r); differ = tt; size = refl }

pub called_lawful : (r : Receivers) (cell : SiteCell) (c : ℕ) → LawfulCell r cell → c < r.classes → LawfulCell r (called r cell c)
called_lawful r cell c l small = called_cases (LawfulCell r) r cell c (λ _. l) (λ un. next_lawful r cell.state cell.row c l un small)

pub called_later : (r : Receivers) (cell : SiteCell) (c : ℕ) → Later cell.state (called r cell c).state
called_later r cell c = called_cases (λ z. Later cell.state z.state) r cell c (λ _. later-refl cell.state) (λ _. next_later r cell.state cell.row c)

pub called_explains : (r : Receivers) (cell : SiteCell) (c : ℕ) → Explains (called r cell c).state c
called_explains r cell c = called_cases (λ z. Explains z.state c) r cell c (λ yes. covers_explains cell.state cell.row c (covers_yes cell.state cell.row c yes)) (λ _. next_explains r cell.state cell.row c)

-- the site was reached, by as many transitions as its stamp says
abbrev pub ReachedCell : Receivers → (ℕ → Type 0) → SiteCell → Type 0
ReachedCell r Called cell = Reached r cell.stamp cell.state Called

module _ (r : Receivers) (Called : ℕ → Type 0) (concrete : (c : ℕ) → Called c → IsTrue (r.concrete c)) where
  pub missed_reached : (cell : SiteCell) (c : ℕ) → Called c → LawfulCell r cell → ReachedCell r Called cell → covers cell.state cell.row c ≡ false → ReachedCell r Called (missed r cell c)
  missed_reached cell c it l h un =
      elim (moves cell.state cell.row) as (λ b. moves cell.state cell.row ≡ b → Reached r (if b then cell.stamp + 1 else cell.stamp) (next r cell.state cell.row c).state Called) [
        | true ↦ λ e. next_reached r Called concrete c it cell.stamp cell.state cell.row l.named h un e
        | false ↦ λ e. let P : CallState → Type 0 = λ z. Reached r cell.stamp z Called in subst P (sym (miss_stays r cell.state cell.row c e)) h
      ] refl

  pub called_reached : (cell : SiteCell) (c : ℕ) → Called c → LawfulCell r cell → ReachedCell r Called cell → ReachedCell r Called (called r cell c)
  called_reached cell c it l h = called_cases (ReachedCell r Called) r cell c (λ _. h) (missed_reached cell c it l h)

pub after_calls_lawful : (r : Receivers) (cell : SiteCell) (classes : List ℕ) → Among (λ c. c < r.classes) classes → LawfulCell r cell → LawfulCell r (after_calls r cell classes)
unfolding after_calls
after_calls_lawful r cell [] small l = l
after_calls_lawful r cell (c ∷ classes) small l = after_calls_lawful r (called r cell c) classes small.1 (called_lawful r cell c l small.0)

pub after_calls_later : (r : Receivers) (cell : SiteCell) (classes : List ℕ) → Later cell.state (after_calls r cell classes).state
unfolding after_calls
after_calls_later r cell [] = later-refl cell.state
after_calls_later r cell (c ∷ classes) = later_trans cell.state (called r cell c).state (after_calls r (called r cell c) classes).state (called_later r cell c) (after_calls_later r (called r cell c) classes)

-- each class that was called is explained
pub after_calls_explains : (r : Receivers) (cell : SiteCell) (classes : List ℕ) → Among (Explains (after_calls r cell classes).state) classes
unfolding after_calls
after_calls_explains r cell [] = tt
after_calls_explains r cell (c ∷ classes) = (
  explains_later (called r cell c).state (after_calls r (called r cell c) classes).state c (after_calls_later r (called r cell c) classes) (called_explains r cell c),
  after_calls_explains r (called r cell c) classes,
)

pub after_calls_reached : (r : Receivers) (Called : ℕ → Type 0) (cell : SiteCell) (classes : List ℕ) → ((c : ℕ) → Called c → IsTrue (r.concrete c)) → Among (λ c. c < r.classes) classes → Among Called classes
    → LawfulCell r cell → ReachedCell r Called cell → ReachedCell r Called (after_calls r cell classes)
unfolding after_calls
after_calls_reached r Called cell [] concrete small all l h = h
after_calls_reached r Called cell (c ∷ classes) concrete small all l h =
    after_calls_reached r Called (called r cell c) classes concrete small.1 all.1 (called_lawful r cell c l small.0) (called_reached r Called concrete cell c all.0 l h)

-- the same from the beginning
pub alone_lawful : (r : Receivers) (classes : List ℕ) → Among (λ c. c < r.classes) classes → LawfulCell r (alone r classes)
alone_lawful r classes small = after_calls_lawful r unlinked classes small (unlinked_lawful r)

pub alone_reached : (r : Receivers) (Called : ℕ → Type 0) (classes : List ℕ) → ((c : ℕ) → Called c → IsTrue (r.concrete c)) → Among (λ c. c < r.classes) classes → Among Called classes → ReachedCell r Called (alone r classes)
alone_reached r Called classes concrete small all = after_calls_reached r Called unlinked classes concrete small all (unlinked_lawful r) refl

-- the stamp of a site is at most two more than there are classes
pub stamp_of_alone : (r : Receivers) (classes : List ℕ) → Among (λ c. c < r.classes) classes → Among (λ c. IsTrue (r.concrete c)) classes → (alone r classes).stamp ≤ r.classes + 2
stamp_of_alone r classes small concrete =
    let cell = alone r classes in
    reached_few r cell.stamp cell.state (λ c. IsTrue (r.concrete c)) (alone_lawful r classes small).named (alone_reached r (λ c. IsTrue (r.concrete c)) classes (λ c h. h) small concrete)
