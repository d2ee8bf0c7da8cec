-- main() { var a = 1; a+a+ .. +a; } with so many plus signs. Only the number of its sites is asked, so each sign may stand at one place.
use Rattle.std.proofs.Common.{◌≡◌, refl}
use Rattle.std.specs.Prelude.{ℕ, [], ◌∷◌, replicate, Some, None, codes, false, pos}
use Rattle.dart_syntax.specs.declared.tree.Binary.TheVariants as b
use Rattle.dart_syntax.specs.Syntax as t
use Rattle.dart_syntax.specs.Syntax.{links, stas, a_local, a_link, function_of, tree_of}
use Rattle.static_rules.specs.declared.rule.Limit.TheVariants as limit
use Rattle.static_rules.specs.Accepted.{counts, exceeded}
use Rattle.dart_meaning.specs.Sites.{text_sites}
use Rattle.static_rules.proofs.cases.Words.{n, sp}

abbrev pub sum : ℕ → t.Tree
sum signs = tree_of (
    t.a_function (function_of false (n (codes "main") 0) [] (t.code (stas (
    t.local (a_local false (n (codes "a") 13) (Some (t.int (pos 1) (sp 17 1))))
    ∷ t.run (t.chain (t.bare (n (codes "a") 20)) (links (replicate signs (a_link b.Add (sp 21 1) (t.bare (n (codes "a") 22))))))
    ∷ []))))
    ∷ [])

site_limit : exceeded (counts (sum 65535)) ≡ Some (limit.Sites, 65537)
unfolding text_sites
site_limit = refl

site_limit_kept : exceeded (counts (sum 65534)) ≡ None
unfolding text_sites
site_limit_kept = refl
