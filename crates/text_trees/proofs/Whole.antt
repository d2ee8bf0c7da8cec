-- Whole texts: their trees are written.
use Rattle.std.proofs.Common.{◌≡◌, ℕ, ◌*◌, ◌<◌, ◌≤◌, nat_le, [], ◌∷◌, ◌++◌, length, ap, arith}
use Rattle.std.proofs.lemmas.Bool.{leb-true}
use Rattle.std.proofs.lemmas.Bool.Decides.{nat_tests}
use Rattle.dart_syntax.specs.declared.token.Span.{Span}
use Rattle.dart_syntax.specs.declared.token.TokenKind.TheVariants as tk
use Rattle.dart_syntax.specs.Bytes.{Text, span}
use Rattle.dart_syntax.specs.Words.{Tokens, token}
use Rattle.dart_syntax.specs.Tokens.{TokenList}
use Rattle.dart_syntax.specs.Syntax.{Tree}
use Rattle.dart_syntax.specs.Grammar.{ExprWithin, StmtWithin}
use Rattle.dart_syntax.specs.Derivation.{LEVELS, Derives}
use Rattle.dart_syntax.proofs.TokenLists.{proper_tokens}
use Rattle.dart_meaning.specs.Place.{Place, reading, writing, in_print, in_list}
use Rattle.dart_meaning.specs.Uses.{parts}
use Rattle.dart_meaning.specs.Sites.{key, text_sites}
use Rattle.dart_printer.proofs.Possible.{are_possible}
use Rattle.text_trees.specs.Nodes.{all_nodes, top_nodes}
use Rattle.text_trees.specs.Written.{IsWritten, IsWrittenTop, IsWrittenSite, Each, SitesWithin, StandsInText, byte_of}
use Rattle.text_trees.proofs.Weights.{Weight, split, weigh_parts, tokens, join_tokens, Fine}
use Rattle.text_trees.proofs.Levels.{within_fine}
use Rattle.text_trees.proofs.Statements.{stmt_fine}
use Rattle.text_trees.proofs.Members.{tops_fine}
use Rattle.text_trees.proofs.Starts.{tokens_rise}
use Rattle.text_trees.proofs.Hits.{at, sites_at, rises_once, text_hits, once_same, site_hits}
use Rattle.text_trees.proofs.SiteNames.{strange, tokens_none, text_written, parts_named, each_get}

module _ (source : Text) (list : Tokens) (tree : Tree) (x : TokenList source list) (d : Derives list tree) where
  abbrev end : Tokens
  end = token tk.End (span (length source) 0 0) ∷ []

  -- all that is true of what was read, by any weight
  whole : (p : Weight) → (place : Span) × Fine p (λ (i : Unit {0}). weigh_parts p (parts tree)) (all_nodes top_nodes tree.tops) (Each IsWrittenTop tree.tops) list (token tk.End place ∷ [])
  unfolding Derives
  whole p = (d.0, tops_fine p (StmtWithin LEVELS) (stmt_fine p LEVELS) (ExprWithin LEVELS) (within_fine p LEVELS) d.1 (are_possible source list x))

  -- No use weighs more than the tokens before the end.
  uses_weigh : (p : Weight) → weigh_parts p (parts tree) ≤ tokens p x.found
  uses_weigh p =
      let is : tokens p list ≡ tokens p (x.found ++ end) = ap (tokens p) x.is in
      omega (arith, (whole p).1.weight tt, is, join_tokens p x.found end)

  few_sites : (k : ℕ) → sites_at k (text_sites tree) ≤ 1
  few_sites k = omega (arith, text_hits k tree, uses_weigh (at k), (rises_once k 0 x.found (length source) (tokens_rise source list x)).once)

  none_strange : weigh_parts strange (parts tree) ≡ 0
  none_strange =
      let is : tokens strange list ≡ tokens strange (x.found ++ end) = ap (tokens strange) x.is in
      omega (arith, uses_weigh strange, is, join_tokens strange x.found end, tokens_none list (are_possible source list x))

  sites_written : Each IsWrittenSite (text_sites tree)
  sites_written = text_written tree none_strange

  pub are_written : length source ≤ 1048576 → IsWritten tree
  are_written short = record {
    tops = (whole strange).1.is;
    uses = parts_named (parts tree) none_strange;
    places = λ i j k e f. once_same k (text_sites tree) i j (few_sites k) e f;
    sites = λ i s e. each_get IsWrittenSite (text_sites tree) i s sites_written e;
    small = omega (arith, (whole strange).1.size, (proper_tokens source list x).short, short);
  }

  inside : (place : Place) → StandsInText place → key place < 2 * length source → byte_of place < length source
  inside (reading byte) h low = omega arith
  inside (writing byte) h low = omega arith
  inside in_print h low = absurd h
  inside in_list h low = absurd h

  pub are_within : SitesWithin source tree
  are_within i s e =
      let n = length source in
      let k = key s.place in
      let found : 1 ≤ tokens (at k) x.found = omega (arith, site_hits (text_sites tree) i s e, text_hits k tree, uses_weigh (at k)) in
      let low : k < 2 * n = split (nat_le (2 * n) k)
      (λ h. absurd (omega (arith, found, (rises_once k 0 x.found n (tokens_rise source list x)).none_behind (leb-true (2 * n) k h))))
      (λ h. grind (arith, nat_tests, h)) in
      inside s.place (each_get IsWrittenSite (text_sites tree) i s sites_written e).stands low
