use Rattle.std.proofs.Common.{ap, option_map}
use Rattle.dart_syntax.specs.Bytes.{Text}
use Rattle.tree_numbers.specs.declared.class_facts.ClassFacts.{ClassFacts}
use Rattle.tree_numbers.specs.Maps.{Known}
use Rattle.tree_numbers.specs.ClassFacts.{Facts, facts_of, knows}
use Rattle.tree_numbers.proofs.class_facts.no_classes.Goals as goal

pub returns : goal.returns
unfolding knows
returns c = ap {B = Known Facts} (λ (m : Known ClassFacts) (q : Text). option_map facts_of (m q)) c.nothing_known.ensures
