use Rattle.std.proofs.Common.{Some}
use Rattle.name_uses.proofs.Meanings.{extends_by_one}
use Rattle.name_uses.proofs.scope.Scope.set.Goals as goal

pub returns-clause-undo : goal.returns-clause-undo
returns-clause-undo g c = extends_by_one c.args.self.now _ (record { name = c.args.name; was = c.look-was.result }) (Some c.args.value) c.look-was.ensures c.in_ok-push.ensures.items c.in_ok-put.ensures
