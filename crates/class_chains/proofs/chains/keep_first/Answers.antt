use Rattle.std.proofs.Common.{ap, sym, ◌∙◌, bytes_eq, is_some}
use Rattle.std.specs.HashMap.{get_by}
use Rattle.dart_meaning.specs.Classes.{if_so}
use Rattle.declaration_rules.specs.Finding.{or_first}
use Rattle.declaration_rules.specs.Seen.{class_of}
use Rattle.class_chains.specs.Overriding.{found_at}
use Rattle.class_chains.proofs.Numbers.{kept_number, some_map}
use Rattle.class_chains.proofs.chains.keep_first.Goals as goal

pub returns : goal.returns
returns c = λ q.
    let n = c.as_slice-text.result.now in
    kept_number c.args.all.now (λ t. get_by (λ k. bytes_eq t k.now) c.args.numbers.now) n q c.args.number c.args.c _ c.requires
    (sym (ap is_some c.class_in.ensures) ∙ some_map class_of c.class_in.result ∙ sym c.is_some.ensures ∙ c.if-is_some.false)
    (c.in_ok-insert.ensures.updates.0 (record { ref_ptr = c.as_slice-text.result.ref_ptr; now = q }))
    ∙ ap (λ t. or_first (found_at c.args.all.now c.args.numbers.now q) (if_so (bytes_eq t q) (class_of c.args.c))) c.as_slice-text.ensures
