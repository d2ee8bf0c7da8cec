use Rattle.std.proofs.Common.{◌∙◌, ap, map}
use Rattle.code_writer.specs.Constants.{literal_of}
use Rattle.code_writer.proofs.Sets.{held_insert, number_is}
use Rattle.code_writer.proofs.key.note.Goals as goal

pub returns-then-number-lt4294967296-clause-known : goal.returns-then-number-lt4294967296-clause-known
returns-then-number-lt4294967296-clause-known c = ap (map literal_of) c.in_ok-number.ensures.keys ∙ held_insert c.args.known.now.keys c.args.literal

pub returns-then-number-lt4294967296-clause-number : goal.returns-then-number-lt4294967296-clause-number
returns-then-number-lt4294967296-clause-number c = c.in_ok-number.ensures.index ∙ number_is c.args.literal c.args.known.now.keys
