use Rattle.std.proofs.Common.{ap, sym, ◌∙◌, bytes_eq}
use Rattle.std.specs.HashMap.{get_by}
use Rattle.dart_meaning.specs.Classes.{if_so}
use Rattle.declaration_rules.specs.Finding.{found_in, or_first}
use Rattle.declaration_rules.specs.Seen.{class_of}
use Rattle.declaration_rules.proofs.Finding.{kept_first}
use Rattle.declaration_rules.proofs.classes.keep_first.Goals as goal

pub returns : goal.returns
returns c = λ q.
    let n = c.as_slice-text.result.now in
    kept_first class_of (λ t. get_by (λ k. bytes_eq t k.now) c.args.known.now) n q c.args.c _ (sym c.contains_key.ensures ∙ c.if-contains_key.false)
    (c.in_ok-insert.ensures.updates.0 (record { ref_ptr = c.as_slice-text.result.ref_ptr; now = q }))
    ∙ ap (λ t. or_first (found_in c.args.known.now q) (if_so (bytes_eq t q) (class_of c.args.c))) c.as_slice-text.ensures
