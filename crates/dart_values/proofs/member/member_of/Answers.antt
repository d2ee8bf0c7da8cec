use Rattle.std.proofs.lemmas.Option.{slice_get-get_or}
use Rattle.dart_values.specs.declared.member.Member.TheVariants.{Object}
use Rattle.dart_values.specs.declared.member.ObjectMember.TheVariants.{Equals}
use Rattle.dart_values.specs.Members.{members}
use Rattle.dart_values.proofs.member.member_of.Goals as goal

pub returns : goal.returns
returns c = slice_get-get_or members c.args.id.0 (Object Equals) c.requires
