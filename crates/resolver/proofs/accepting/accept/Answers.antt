use Rattle.std.proofs.Common.{◌≡◌, ◌≢◌, ◌∙◌, ap, sym, subst, option_map}
use Rattle.std.specs.Prelude.{IfErr, MatchResult}
use Rattle.std.specs.Borrow.{Bor}
use Rattle.dart_syntax.specs.declared.tree.Tree.{Tree}
use Rattle.dart_syntax.specs.View.{unit}
use Rattle.static_rules.specs.Accepted.{IsAccepted}
use Rattle.resolver.specs.declared.error.NameError.{NameError}
use Rattle.resolver.specs.declared.error.NameError.TheVariants as error
use Rattle.resolver.specs.Refusals.{finding, IsRefusal}
use Rattle.resolver.proofs.Findings.{broken_before}
use Rattle.resolver.proofs.Refusals.{one_refusal, only_memory, cause_of}
use Rattle.resolver.proofs.accepting.accept.Goals as goal

pub returns-in-Some-clause-refused : goal.returns-in-Some-clause-refused
returns-in-Some-clause-refused c =
    let tree = unit c.args.tree.now in
    c.error_of.ensures tree (broken_before tree (finding c.in-Some.found) (sym c.in_ok-found.ensures ∙ ap (option_map finding) c.in-Some.is))

pub returns-in-Some-clause-cause : goal.returns-in-Some-clause-cause
returns-in-Some-clause-cause c = λ e known h.
    one_refusal (unit c.args.tree.now) c.error_of.result e known h (returns-in-Some-clause-refused c)

pub returns-clause-only : goal.returns-clause-only
returns-clause-only c =
    subst (λ tree. IsAccepted tree → IfErr c.accept_bodies.result (λ e. e ≡ error.NoMemory)) (ap (λ (tree : Bor Tree). unit tree.now) c.in_ok-names.ensures)
    (only_memory _ c.accept_bodies.result c.accept_bodies.ensures.refused)

pub returns-clause-cause : goal.returns-clause-cause
returns-clause-cause c =
    subst (λ tree. (e : NameError) → e ≢ error.NoMemory → IsRefusal tree e → MatchResult c.accept_bodies.result (λ _. ⊥) (λ d. d ≢ error.NoMemory → d ≡ e)) (ap (λ (tree : Bor Tree). unit tree.now) c.in_ok-names.ensures)
    (cause_of _ c.accept_bodies.result c.accept_bodies.ensures.refused c.accept_bodies.ensures.accepted)
