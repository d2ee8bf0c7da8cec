use Rattle.std.proofs.Common.{◌≡◌, ◌+◌, ◌*◌, ◌^◌, ◌≤◌, get_or, arith, rules}
use Rattle.dart_syntax.specs.Numbers.{hex_value}
use Rattle.dart_lexer.proofs.Numbers.{stays_wide}
use Rattle.dart_lexer.proofs.number.value.Goals as goal

pub returns-in_default : goal.returns-in_default
returns-in_default c =
    let wide : 2 ^ 64 ≤ c.args.base * c.loop-b.v + hex_value (get_or c.args.digits.now c.loop-b.b-index 0) = omega (arith, c.in_default.ensures) in
    rw (← c.loop-b.invariant) (stays_wide c.args.base c.loop-b.v c.loop-b.b-index c.args.digits.now c.requires.base (omega arith) wide)

pub returns-in_default-checked_add : goal.returns-in_default-checked_add
returns-in_default-checked_add c =
    let scaled : c.in-Some.scaled ≡ c.args.base * c.loop-b.v = c.in-Some.ensures.1 in
    let digit : c.from-digit.result ≡ hex_value (get_or c.args.digits.now c.loop-b.b-index 0) = search (rules, c.from-digit.ensures, c.hex_value.ensures.value) in
    let wide : 2 ^ 64 ≤ c.args.base * c.loop-b.v + hex_value (get_or c.args.digits.now c.loop-b.b-index 0) = omega (arith, c.in_default-checked_add.ensures) in
    rw (← c.loop-b.invariant) (stays_wide c.args.base c.loop-b.v c.loop-b.b-index c.args.digits.now c.requires.base (omega arith) wide)
