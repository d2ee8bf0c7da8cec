use Rattle.std.proofs.Common.{◌≡◌, rules}
use Rattle.dart_lexer.specs.Model.{run}
use Rattle.dart_lexer.proofs.Facts.{run_all}
use Rattle.dart_lexer.proofs.input.Input.run.Goals as goal

pub returns-clause-all : goal.returns-clause-all
returns-clause-all c =
    let text : c.split_at.result.0.now ≡ run c.args.kind c.args.self.now = search rules in
    run_all c.args.kind c.args.self.now c.split_at.result.0.now text
