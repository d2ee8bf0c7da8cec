use Rattle.std.proofs.Common.{rules, ◌≡◌, ◌≤◌, length, ℕ, List, sym, subst, arith}
use Rattle.load_source.specs.Generated.{generated}
use Rattle.load_source.proofs.Sizes.{short}
use Rattle.load_source.proofs.generate.Goals as goal

pub returns-clause-short : goal.returns-clause-short
returns-clause-short c =
    let text_is : c.push_entries.new.out.items ≡ generated c.args.number c.args.classes c.args.calls = first_of (search rules, cc) in
    λ few. subst (λ t. length t ≤ 1048576) (sym text_is) (short c.args.number c.args.classes c.args.calls few (omega (arith, c.ranges.calls.fits)))
