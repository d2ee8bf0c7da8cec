use Rattle.std.proofs.Common.{arith, ap}
use Rattle.std.specs.List.{position_from}
use Rattle.std.specs.Map.{lookup}
use Rattle.program.specs.Lookup.{or_above}
use Rattle.method_lookup.specs.Index.{keyed, is_key, is_keyed, member_in, number_in}
use Rattle.method_lookup.proofs.Firsts.{first_next, first_end, keyed_by}
use Rattle.method_lookup.proofs.index.members_by_key.Goals as goal

pub loop-m-init : goal.loop-m-init
unfolding keyed
loop-m-init c = λ owner role n. ap (λ es. or_above (lookup (is_key owner role n) es) (position_from (is_keyed c.args.methods.now owner role n) 0 c.args.methods.now)) c.new-members.ensures.empty

pub loop-m-preserved : goal.loop-m-preserved
loop-m-preserved c = λ owner role n.
    first_next (is_keyed c.args.methods.now owner role n) c.args.methods.now c.loop-m.m c.index-methods-m.result (member_in c.loop-m.members owner role n) (member_in c.note_method.new.members owner role n) _
    c.loop-m-test.true c.index-methods-m.is
    (keyed_by c.args.methods.now (number_in c.args.names.now) owner n c.loop-m.m role c.index-methods-m.result _ _ c.requires.names (c.in_ok-note_method.ensures owner role n))
    (c.loop-m.invariant owner role n)

pub returns : goal.returns
returns c = λ owner role n. first_end (is_keyed c.args.methods.now owner role n) c.args.methods.now c.loop-m.m (member_in c.loop-m.members owner role n) _ (omega arith) (c.loop-m.invariant owner role n)
