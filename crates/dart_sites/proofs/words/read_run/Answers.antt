use Rattle.std.proofs.Common.{rules, ◌≡◌, ◌≤◌, ◌∙◌, length, subst, arith, codes}
use Rattle.std.proofs.lemmas.List.{length-map}
use Rattle.std.specs.Prelude.{string_bytes}
use Rattle.dart_sites.specs.Words.{IsNumber}
use Rattle.dart_sites.proofs.words.read_run.Goals as goal

pub returns : goal.returns
returns c =
    let run : string_bytes c.args.command.now ≡ codes "run" = search rules in
    let one : string_bytes c.args.workers.now ≡ codes "1" = search rules in
    let some : 1 ≤ length c.args.names.now = search rules in
    record {
      text = string_bytes c.args.turns.now;
      words_are = cc;
      number = subst (λ t. IsNumber t c.in_ok-turns.turns) (c.as_bytes.ensures.value ∙ c.as_str-2.ensures.value) c.in_ok-turns.ensures;
      some = omega arith;
      most = omega arith;
      named = omega (arith, some, length-map c.args.names.now string_bytes);
      few = omega (arith, length-map c.args.names.now string_bytes);
    }
