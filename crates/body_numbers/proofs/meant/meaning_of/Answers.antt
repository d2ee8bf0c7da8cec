use Rattle.std.proofs.Common.{rules}
use Rattle.body_numbers.proofs.Names.{is_slot, is_own, is_global, is_other}
use Rattle.body_numbers.proofs.meant.meaning_of.Goals as goal

pub returns-in-Some : goal.returns-in-Some
returns-in-Some g c =
    let n = c.args.numbers.now in
    is_slot (g.N.Numbers.tree n) (g.N.Numbers.site_of n) (g.N.Numbers.here n) c.args.slots.now c.args.name.now c.in-Some.slot (search rules)

pub returns-then-class_declares : goal.returns-then-class_declares
returns-then-class_declares g c =
    let n = c.args.numbers.now in
    is_own (g.N.Numbers.tree n) (g.N.Numbers.site_of n) (g.N.Numbers.here n) c.args.slots.now c.args.name.now (search rules) (search rules)

pub returns-in-Some-variable_place : goal.returns-in-Some-variable_place
returns-in-Some-variable_place g c =
    let n = c.args.numbers.now in
    is_global (g.N.Numbers.tree n) (g.N.Numbers.site_of n) (g.N.Numbers.here n) c.args.slots.now c.args.name.now _ (search rules) (search rules) (search rules)

pub returns-in-None : goal.returns-in-None
returns-in-None g c =
    let n = c.args.numbers.now in
    is_other (g.N.Numbers.tree n) (g.N.Numbers.site_of n) (g.N.Numbers.here n) c.args.slots.now c.args.name.now (search rules) (search rules) (search rules)
