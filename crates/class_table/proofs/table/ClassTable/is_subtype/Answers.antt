use Rattle.std.proofs.Common.{◌≡◌, ℕ, List, length, ◌∙◌, ap, arith}
use Rattle.class_table.specs.Table.{Table}
use Rattle.class_table.specs.Rows.{IsRow, holds, word_count}
use Rattle.program.specs.Hierarchy.{is_subtype}
use Rattle.class_table.proofs.Filling.{row_at}
use Rattle.class_table.proofs.table.ClassTable.is_subtype.Goals as goal

pub contains-requires : goal.contains-requires
contains-requires c =
    let up : length c.self.inside.parents.items ≡ length c.args.self.now.parents = ap (λ (t : Table). length t.parents) c.self.view_is in
    let each_row : length c.self.inside.above.items ≡ length c.self.inside.parents.items = c.self.invariant.each_row in
    let each_named : length c.self.inside.named.items ≡ length c.self.inside.parents.items = c.self.invariant.each_named in
    let row : IsRow c.self.inside.named.items c.args.a.0 c.index.result.now = row_at c.self.inside.named.items c.self.inside.above.items c.args.a.0 c.index.result.now c.self.invariant.rows (c.self.invariant.filled c.args.a.0 (omega arith)) (omega arith) c.index.ensures in
    let same : length c.index.result.now ≡ word_count (length c.self.inside.named.items) = row.same in
    let shown : length c.as_slice.result.now ≡ length c.index.result.now = ap (λ (xs : List ℕ). length xs) c.as_slice.ensures in
    omega arith

pub returns : goal.returns
returns c =
    let up : length c.self.inside.parents.items ≡ length c.args.self.now.parents = ap (λ (t : Table). length t.parents) c.self.view_is in
    let each_row : length c.self.inside.above.items ≡ length c.self.inside.parents.items = c.self.invariant.each_row in
    let each_named : length c.self.inside.named.items ≡ length c.self.inside.parents.items = c.self.invariant.each_named in
    let row : IsRow c.self.inside.named.items c.args.a.0 c.index.result.now = row_at c.self.inside.named.items c.self.inside.above.items c.args.a.0 c.index.result.now c.self.invariant.rows (c.self.invariant.filled c.args.a.0 (omega arith)) (omega arith) c.index.ensures in
    c.contains.ensures ∙ ap (λ (xs : List ℕ). holds xs c.args.b.0) c.as_slice.ensures ∙ row.each c.args.b.0 (omega arith) ∙ ap (λ (t : Table). is_subtype t.named c.args.a.0 c.args.b.0) c.self.view_is
