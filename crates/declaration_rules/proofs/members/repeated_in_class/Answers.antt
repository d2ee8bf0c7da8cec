use Rattle.std.proofs.Common.{ap, ◌∙◌, map, List}
use Rattle.std.specs.Prelude.{filter_map}
use Rattle.dart_syntax.specs.declared.tree.Member.{Member}
use Rattle.dart_syntax.specs.View.{member}
use Rattle.static_rules.specs.Places.{first_in}
use Rattle.static_rules.specs.Repeats.{repeats}
use Rattle.static_rules.specs.DuplicateName.{read_name, written_name, constructor_name, has_class_name, in_member}
use Rattle.declaration_rules.proofs.Rules.{five}
use Rattle.declaration_rules.proofs.members.repeated_in_class.Goals as goal

pub returns : goal.returns
returns c =
    let is = c.as_slice-members.ensures in
    let named = c.args.c.now.name.text in
    let ms = map member c.args.c.now.members in
    five c.in_ok-read.read c.in_ok-written.written c.in_ok-constructor.constructor c.has_class_name_in-of_class.result c.in_ok-within.within
    (repeats (filter_map read_name ms)) (repeats (filter_map written_name ms)) (repeats (filter_map constructor_name ms)) (first_in (has_class_name named) ms) (first_in in_member ms)
    c.earlier_of.result c.earlier_of-late.result c.earlier_of-2.result c.earlier_of-3.result
    c.earlier_of.ensures c.earlier_of-late.ensures c.earlier_of-2.ensures c.earlier_of-3.ensures
    (c.in_ok-read.ensures ∙ ap (λ (xs : List Member). repeats (filter_map read_name (map member xs))) is)
    (c.in_ok-written.ensures ∙ ap (λ (xs : List Member). repeats (filter_map written_name (map member xs))) is)
    (c.in_ok-constructor.ensures ∙ ap (λ (xs : List Member). repeats (filter_map constructor_name (map member xs))) is)
    (c.has_class_name_in-of_class.ensures ∙ ap (λ t. first_in (has_class_name t) (map member c.as_slice-members.result.now)) c.as_slice.ensures ∙ ap (λ (xs : List Member). first_in (has_class_name named) (map member xs)) is)
    (c.in_ok-within.ensures ∙ ap (λ (xs : List Member). first_in in_member (map member xs)) is)
