use Rattle.std.proofs.Common.{◌∙◌, ap, option_map}
use Rattle.dart_syntax.specs.View.{class}
use Rattle.dart_syntax.specs.Bytes.{Text}
use Rattle.tree_numbers.specs.declared.class_facts.ClassFacts.{ClassFacts}
use Rattle.tree_numbers.specs.Maps.{Known, in_map, with_first}
use Rattle.tree_numbers.specs.ClassFacts.{Facts, facts, facts_of, knows}
use Rattle.tree_numbers.proofs.Maps.{first_mapped}
use Rattle.tree_numbers.proofs.class_facts.keep_class.Goals as goal

pub returns : goal.returns
unfolding knows
returns c =
    ap {B = Known Facts} (λ (m : Known ClassFacts) (q : Text). option_map facts_of (m q)) c.in_ok-keep_first.ensures
    ∙ first_mapped facts_of (in_map c.args.known.now) c.as_slice.result.now c.in_ok-kept.kept (facts (class c.args.c.now)) c.in_ok-kept.ensures
    ∙ ap (λ t. with_first t (facts (class c.args.c.now)) (knows c.args.known.now)) c.as_slice.ensures
