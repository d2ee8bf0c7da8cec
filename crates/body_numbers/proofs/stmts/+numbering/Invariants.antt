use Rattle.std.proofs.Common.{◌≡◌, drop, map}
use Rattle.dart_syntax.specs.Syntax.{stas}
use Rattle.dart_syntax.specs.View.{sta}
use Rattle.program.specs.Bodies as c
use Rattle.dart_meaning.specs.Numbering as num
use Rattle.body_numbers.specs.Open.{Grown}
use Rattle.body_numbers.proofs.Lists.{with_stas}
use Rattle.body_numbers.proofs.stmts.+numbering.Given as goal

abbrev pub invariant-statements-loop-x : goal.invariant-statements-loop-x
invariant-statements-loop-x g l =
    let rest = num.stas (g.N.Numbers.tree l.numbers) (g.N.Numbers.site_of l.numbers) (g.N.Numbers.here l.numbers) in
    record {
      form : with_stas (map c.sta l.found) (rest l.slots (stas (map sta (drop l.x-index l.all)))) ≡ rest l.fn.slots (stas (map sta l.all));
      grown : Grown l.fn.slots l.slots;
    }
