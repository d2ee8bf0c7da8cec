use Rattle.std.proofs.Common.{bytes_eq, ap, arith}
use Rattle.std.specs.List.{position_from}
use Rattle.std.specs.Map.{lookup}
use Rattle.program.specs.Lookup.{or_above}
use Rattle.method_lookup.specs.Index.{name_number, has_name, number_in}
use Rattle.method_lookup.proofs.Firsts.{first_end}
use Rattle.method_lookup.proofs.index.name_numbers.Goals as goal

pub loop-m-init : goal.loop-m-init
unfolding name_number
loop-m-init c = λ q. ap (λ es. or_above (lookup (λ k. bytes_eq q k.now) es) (position_from (has_name q) 0 c.args.methods.now)) c.new-names.ensures.empty

pub returns : goal.returns
returns c = λ q. first_end (has_name q) c.args.methods.now c.loop-m.m (number_in c.loop-m.names q) (name_number c.args.methods.now q) (omega arith) (c.loop-m.invariant q)
