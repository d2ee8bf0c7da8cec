use Rattle.std.proofs.Common.{rules, arith}
use Rattle.body_writer.proofs.Views.{interpolation_is, postfix_is, chain_is}
use Rattle.body_writer.proofs.expressions.+emit.Goals as goal

pub emit-returns-in_ok-emit_pieces-in-Interpolation : goal.emit-returns-in_ok-emit_pieces-in-Interpolation
emit-returns-in_ok-emit_pieces-in-Interpolation t c =
    let e = interpolation_is c.in-Interpolation.units c.in-Interpolation.more in first_of (search rules, cc)

pub emit-returns-in_ok-emit_calls-in-Postfix : goal.emit-returns-in_ok-emit_calls-in-Postfix
emit-returns-in_ok-emit_calls-in-Postfix t c =
    let e = postfix_is c.in-Postfix.e c.in-Postfix.more in first_of (search rules, cc)

pub emit-returns-in_ok-emit_links-in-Chain : goal.emit-returns-in_ok-emit_links-in-Chain
emit-returns-in_ok-emit_links-in-Chain t c =
    let e = chain_is c.in-Chain.e c.in-Chain.more in first_of (search rules, cc)
