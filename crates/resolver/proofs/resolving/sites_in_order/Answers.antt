use Rattle.std.proofs.Common.{◌≡◌, ◌∙◌, ap}
use Rattle.dart_syntax.specs.View.{unit}
use Rattle.dart_meaning.specs.Sites.{text_sites}
use Rattle.dart_meaning.specs.NumberedForm.{in_order}
use Rattle.name_uses.specs.Found.{found}
use Rattle.resolver.proofs.Programs.{known_parts}
use Rattle.resolver.proofs.resolving.sites_in_order.Goals as goal

pub returns : goal.returns
returns c =
    let tree = unit c.args.tree.now in
    let other = unit c.in_ok-names.names.tree.now in
    let same : other ≡ tree = ap (λ t. unit t.now) c.in_ok-names.ensures in
    c.in_ok-put_in_order.ensures ∙ ap in_order (c.in_ok-sites.ensures (known_parts tree other (found c.in_ok-parts.parts) same c.in_ok-parts.ensures c.requires) ∙ ap text_sites same)
