use Rattle.std.proofs.Common.{refl, ◌∙◌, ap, option_map}
use Rattle.std.specs.Borrow.{Bor}
use Rattle.dart_syntax.specs.declared.tree.Name.{Name}
use Rattle.dart_syntax.specs.declared.tree.Top.{Top}
use Rattle.dart_syntax.specs.View.{top}
use Rattle.dart_syntax.specs.Syntax as tree
use Rattle.dart_syntax.specs.Bytes.{Text}
use Rattle.text_names.specs.Maps.{Known, in_map, with_first}
use Rattle.text_names.specs.Tops.{top_of, stands_for}
use Rattle.text_names.proofs.Maps.{first_mapped}
use Rattle.text_names.proofs.tops.keep_top.Goals as goal

pub returns : goal.returns
unfolding stands_for
returns c =
    ap {B = Known tree.Top} (λ (m : Known (Bor Top)) (q : Text). option_map top_of (m q)) c.in_ok-keep_first.ensures
    ∙ first_mapped top_of (in_map c.args.known.now) c.as_slice.result.now c.args.t (top c.args.t.now) refl
    ∙ ap (λ s. with_first s (top c.args.t.now) (stands_for c.args.known.now)) (c.as_slice.ensures ∙ ap (λ (n : Name). n.text) c.top_name-name.ensures)
