use Rattle.std.proofs.Common.{◌∙◌}
use Rattle.dart_values.specs.Reads.{class_name}
use Rattle.dart_values.specs.Store.{heap_of, value_of}
use Rattle.dart_values.specs.Doing.{gives_in}
use Rattle.dart_values.proofs.NativeIs.{native_is}
use Rattle.dart_values.proofs.Classes.{member_keeps, does_keeps}
use Rattle.dart_values.proofs.heap.Heap.native.Goals as goal

pub returns-clause-answers : goal.returns-clause-answers
returns-clause-answers c =
    let h = c.member.ensures.does.answers in
    rw (
      native_is (class_name c.args.program.now.classes) c.args.id.0 c.args.self.now c.args.receiver c.args.args.now c.member_of-member.result c.member_of-member.ensures (c.if-args-arity.false ∙ c.arity.ensures),
      ← c.argument.ensures,
      ← c.argument-2.ensures,
    ) h

pub returns-clause-classes : goal.returns-clause-classes
returns-clause-classes c =
    let names = class_name c.args.program.now.classes in
    does_keeps c.args.self.now c.member.new.self
    (gives_in c.args.self.now names c.member_of-member.result c.args.receiver c.argument.result c.argument-2.result) c.member.result c.member.ensures.does
    (member_keeps (heap_of c.args.self.now) names c.member_of-member.result (value_of c.args.self.now c.args.receiver) (value_of c.args.self.now c.argument.result) (value_of c.args.self.now c.argument-2.result))
