use Rattle.std.specs.Prelude.{codes}
use Rattle.std.proofs.lemmas.Result.{on_ok_weaker}
use Rattle.load_source.specs.Generated.{each, add_line}
use Rattle.load_source.proofs.Steps.{three_parts}
use Rattle.load_source.proofs.functions.push_all.Goals as goal

pub returns : goal.returns
returns c =
    on_ok_weaker c.push-2.result
    (three_parts c.args.out.now.items (codes "all() {\n  var a = [];\n") (each add_line c.args.classes) (codes "  return a;\n}\n")
    c.push.new.out.items c.push_adds.new.out.items c.push-2.new.out.items c.in_ok-push.ensures c.in_ok-push_adds.ensures)
    c.push-2.ensures
