use Rattle.std.proofs.Common.{ap, option_map}
use Rattle.std.specs.Borrow.{Bor}
use Rattle.dart_syntax.specs.declared.tree.Top.{Top}
use Rattle.dart_syntax.specs.Syntax as tree
use Rattle.dart_syntax.specs.Bytes.{Text}
use Rattle.text_names.specs.Maps.{Known}
use Rattle.text_names.specs.Tops.{top_of, stands_for}
use Rattle.text_names.proofs.tops.no_tops.Goals as goal

pub returns : goal.returns
unfolding stands_for
returns c = ap {B = Known tree.Top} (λ (m : Known (Bor Top)) (q : Text). option_map top_of (m q)) c.nothing_known.ensures
