use Rattle.std.proofs.Common.{◌≢◌, Some, None, sym, ap, ◌∙◌}
use Rattle.dart_lexer.specs.declared.error.LexError.TheVariants as error
use Rattle.dart_sites.specs.Source as source
use Rattle.dart_sites.specs.Source.{refusal_of}
use Rattle.dart_sites.specs.declared.source.Refusal.{Refusal}
use Rattle.dart_sites.proofs.source.read_tree.Goals as goal

pub parsed-requires-clause-only : goal.parsed-requires-clause-only
parsed-requires-clause-only c = λ ts h. c.as_slice.ensures ∙ c.in-Ok.ensures.only ts h

some_is : (r : Refusal) → ◌≢◌ {A = _} (Some r) None
some_is r e = absurd cc

pub returns-in-Some : goal.returns-in-Some
returns-in-Some c =
    let told : c.in-Err.e ≢ error.NoMemory = λ is. some_is c.in-Some.refusal (c.in-Some.ensures ∙ ap refusal_of is) in
    (λ t s. told (c.in-Err.ensures.only s.list s.tokens), source.IsRefused.no_list (c.in-Err.ensures.refused told) (sym c.in-Some.ensures))
