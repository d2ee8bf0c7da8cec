use Rattle.std.proofs.Common.{ap, ◌∙◌}
use Rattle.static_rules.specs.Places.{◌or_else◌, at_if}
use Rattle.declaration_rules.specs.Mixing.{declared_of}
use Rattle.declaration_rules.proofs.Mixing.{take_one}
use Rattle.declaration_rules.proofs.mixed.Kinds.take.Goals as goal

pub returns : goal.returns
returns c = λ more.
    take_one c.args.built_in.now c.args.self.now (record { methods = c.note_if.new.seen; accessors = c.note_if-2.new.seen; at = c.earlier_of-self.result }) (declared_of c.args.d) more
    (c.earlier_of-self.ensures ∙ ap (λ o. c.args.self.now.at or_else o) (c.place_if.ensures ∙ ap (λ b. at_if b c.args.d.name.span) c.is_mixed-wrong.ensures))
    c.in_ok-note_if.ensures c.in_ok-note_if-2.ensures
