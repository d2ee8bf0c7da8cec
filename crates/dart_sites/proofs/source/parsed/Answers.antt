use Rattle.std.proofs.Common.{sym, subst}
use Rattle.dart_syntax.specs.Derivation.{Derives}
use Rattle.dart_sites.specs.Source as source
use Rattle.dart_sites.proofs.source.parsed.Goals as goal

pub returns-in-Ok : goal.returns-in-Ok
returns-in-Ok c = record {
  source = record { list = c.args.list.now; tokens = c.requires.tokens; derives = c.in-Ok.ensures.tree };
  only = λ u s. c.in-Ok.ensures.only u (subst (λ l. Derives l u) (sym (c.requires.only s.list s.tokens)) s.derives);
}

pub returns-in-Some : goal.returns-in-Some
returns-in-Some c = (
  λ t s. c.in-Some.ensures.0 (c.in-Err.ensures.only t (subst (λ l. Derives l t) (sym (c.requires.only s.list s.tokens)) s.derives)),
  source.IsRefused.no_tree c.requires.tokens (λ t d. c.in-Some.ensures.0 (c.in-Err.ensures.only t d)) c.in-Some.ensures.1,
)
