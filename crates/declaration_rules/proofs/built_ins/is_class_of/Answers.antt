use Rattle.std.proofs.Common.{◌∙◌, sym}
use Rattle.std.specs.Str.{bytes_eq}
use Rattle.program.specs.declared.numbered.Class.{Class}
use Rattle.declaration_rules.proofs.Names.{list_any-map}
use Rattle.declaration_rules.proofs.built_ins.is_class_of.Goals as goal

pub returns : goal.returns
returns c = c.is_named.ensures ∙ sym (list_any-map (bytes_eq c.args.name.now) (λ (k : Class). k.name) c.args.classes.now)
