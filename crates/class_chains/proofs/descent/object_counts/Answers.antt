use Rattle.std.proofs.Common.{◌≡◌, ◌∙◌, ap, bytes_eq}
use Rattle.std.proofs.lemmas.Result.{IfOk-weaker}
use Rattle.std.specs.Prelude.{position}
use Rattle.std.specs.Option.{option_and_then}
use Rattle.std.specs.Map.{lookup}
use Rattle.program.specs.declared.numbered.Class.{Class}
use Rattle.dart_meaning.specs.Classes.{object}
use Rattle.class_chains.specs.Overriding.{required_of}
use Rattle.class_chains.specs.Descending.{Counts, counted, no_count, built_in_or}
use Rattle.class_chains.proofs.Descending.{built_in_is}
use Rattle.class_chains.proofs.descent.object_counts.Goals as goal

pub returns-in-Some : goal.returns-in-Some
returns-in-Some c =
    let methods = c.args.built_in.now.methods in
    let number = c.in-Some.number in
    IfOk-weaker c.built_in_counts.result _ _
    (λ counts h q.
    ap (λ (f : Counts). f q) h ∙ ap (λ ms. built_in_or number ms no_count q) c.as_slice-in-Some.ensures ∙ built_in_is number methods q
    ∙ ap (option_and_then (λ n. required_of methods n q)) (c.in-Some.ensures ∙ ap (position (λ (k : Class). bytes_eq object k.name)) c.as_slice.ensures))
    c.built_in_counts.ensures

pub returns-in-None : goal.returns-in-None
unfolding counted
returns-in-None c = λ q.
    let none : counted c.new.result ≡ no_count = λ i t. lookup (λ k. bytes_eq t k.now) (c.new.ensures.empty i) in
    ap (λ (f : Counts). f q) none
    ∙ ap (option_and_then (λ n. required_of c.args.built_in.now.methods n q)) (c.in-None.ensures ∙ ap (position (λ (k : Class). bytes_eq object k.name)) c.as_slice.ensures)
