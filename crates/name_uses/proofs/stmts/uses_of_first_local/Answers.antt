use Rattle.std.proofs.Common.{rules, ◌≡◌, option_map}
use Rattle.dart_syntax.specs.View.{exp}
use Rattle.name_uses.specs.Undo.{meaning}
use Rattle.name_uses.proofs.Blocks.{first_local_uses}
use Rattle.name_uses.proofs.Meanings.{extends_twice}
use Rattle.name_uses.proofs.stmts.uses_of_first_local.Goals as goal

pub returns-clause-uses : goal.returns-clause-uses
returns-clause-uses c =
    let named : c.as_slice-name.result.now ≡ c.args.x.now.name.text = search rules in
    first_local_uses c.args.x.now.name (meaning c.args.scope.now) (meaning c.set.new.self) (option_map exp c.args.x.now.value) c.as_slice-name.result.now c.look-seen.result c.args.out.now c.push.new.self c.uses_of_option.new.out named c.look-seen.ensures c.in_ok-push.ensures c.in_ok-set.ensures.set c.in_ok-uses_of_option.ensures

pub returns-clause-undo : goal.returns-clause-undo
returns-clause-undo c = extends_twice c.args.scope.now c.set.new.self c.set-2.new.self c.in_ok-set.ensures.undo c.in_ok-set-2.ensures.undo
