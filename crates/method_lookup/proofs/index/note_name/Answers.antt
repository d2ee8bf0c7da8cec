use Rattle.std.proofs.Common.{rules, ◌≡◌, ◌∙◌, false, is_some, bytes_eq, sym, ap}
use Rattle.program.proofs.BuiltInSound.{bytes_same}
use Rattle.method_lookup.specs.Index.{number_in}
use Rattle.method_lookup.proofs.Firsts.{put_absent, not_some}
use Rattle.method_lookup.proofs.index.note_name.Goals as goal

pub returns-in_ok-insert : goal.returns-in_ok-insert
returns-in_ok-insert c = λ q.
    put_absent (bytes_eq c.args.name.now q) c.args.m (number_in c.args.names.now q) (number_in c.insert.new.self q)
    (c.in_ok-insert.ensures.updates.0 (record { ref_ptr = c.args.name.ref_ptr; now = q }))
    (λ hit.
    let absent : is_some (number_in c.args.names.now c.args.name.now) ≡ false = search (rules, c.contains_key.ensures, c.if-not-contains_key.true) in
    ap (number_in c.args.names.now) (sym (bytes_same c.args.name.now q hit)) ∙ not_some (number_in c.args.names.now c.args.name.now) absent)
