use Rattle.body_numbers.proofs.Views.{if_else_is}
use Rattle.body_numbers.proofs.stmts.if_else.Goals as goal

pub returns : goal.returns
returns c = if_else_is c.args.test c.args.then c.args.other
