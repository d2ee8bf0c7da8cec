use Rattle.std.proofs.Common.{ap, option_map}
use Rattle.dart_syntax.specs.Bytes.{Text}
use Rattle.text_names.specs.declared.class_names.ClassNames.{ClassNames}
use Rattle.text_names.specs.Maps.{Known}
use Rattle.text_names.specs.Around.{Around, around_of, knows}
use Rattle.text_names.proofs.class_names.no_classes.Goals as goal

pub returns : goal.returns
unfolding knows
returns c = ap {B = Known Around} (λ (m : Known ClassNames) (q : Text). option_map around_of (m q)) c.nothing_known.ensures
