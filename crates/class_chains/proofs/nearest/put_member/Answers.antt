use Rattle.std.proofs.Common.{ap, ◌∙◌}
use Rattle.dart_syntax.specs.View.{member}
use Rattle.class_chains.specs.Descending.{counted, put_pair}
use Rattle.class_chains.proofs.Descending.{own_one}
use Rattle.class_chains.proofs.nearest.put_member.Goals as goal

pub returns : goal.returns
returns c =
    c.in_ok-put_option.ensures ∙ ap (λ o. put_pair o (counted c.args.counts.now)) c.own_pair.ensures ∙ own_one (member c.args.m.now) (counted c.args.counts.now)
