-- What a member has that another one of its class may not have too.
use Rattle.std.specs.Prelude.{Option}
use Rattle.dart_syntax.specs.declared.tree.Name.{Name}
use Rattle.dart_syntax.specs.Syntax.{Member}
use Rattle.declaration_rules.specs.declared.members.Claim.{Claim}
use Rattle.declaration_rules.specs.declared.members.Claim.TheVariants as claim
use Rattle.static_rules.specs.DuplicateName.{read_name, written_name, constructor_name}

-- the name under which a member is read, is written, or is the constructor
abbrev pub claimed : Claim → Member → Option Name
claimed claim.Read = read_name
claimed claim.Written = written_name
claimed claim.Constructor = constructor_name
