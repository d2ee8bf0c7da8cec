use Rattle.std.proofs.Common.{◌∙◌, ap, option_map}
use Rattle.dart_syntax.specs.View.{class}
use Rattle.dart_syntax.specs.Bytes.{Text}
use Rattle.text_names.specs.declared.class_names.ClassNames.{ClassNames}
use Rattle.text_names.specs.Maps.{Known, in_map, with_first}
use Rattle.text_names.specs.Around.{Around, around, around_of, knows}
use Rattle.text_names.proofs.Maps.{first_mapped}
use Rattle.text_names.proofs.class_names.keep_class.Goals as goal

pub returns : goal.returns
unfolding knows
returns c =
    ap {B = Known Around} (λ (m : Known ClassNames) (q : Text). option_map around_of (m q)) c.in_ok-keep_first.ensures
    ∙ first_mapped around_of (in_map c.args.known.now) c.as_slice.result.now c.in_ok-names.names (around (class c.args.c.now)) c.in_ok-names.ensures
    ∙ ap (λ t. with_first t (around (class c.args.c.now)) (knows c.args.known.now)) c.as_slice.ensures
