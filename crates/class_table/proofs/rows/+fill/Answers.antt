use Rattle.std.proofs.Common.{◌≡◌, ℕ, ◌<◌, List, length, slice_index, slice_index_or, sym, ◌∙◌, ap, subst, refl, arith}
use Rattle.std.proofs.lemmas.Option.{slice_get_read}
use Rattle.class_table.specs.Rows.{row_of}
use Rattle.class_table.proofs.Ways.{row_is, put_right, put_filled, put_kept}
use Rattle.class_table.proofs.Filling.{IsNext, next_is, filled_more, filled_all, words_of, row_done, some_words}
use Rattle.class_table.proofs.rows.+fill.Goals as goal

pub fill-requires : goal.fill-requires
fill-requires t c =
    let items : row_of c.args.named.now c.args.c ≡ c.as_slice-e-items.result.now = row_is c.args.named.now c.args.c c.index-named-c.result c.requires.there c.index-named-c.is ∙ sym c.as_slice-e-items.ensures in
    let next : IsNext c.args.named.now c.args.left (slice_index c.as_slice-e-items.result.now c.loop-e.e-index) =
    next_is c.args.named.now c.as_slice-e-items.result.now c.args.c c.args.left c.loop-e.e-index items c.requires.within c.requires.ends c.loop-e-test.true in
    (omega (arith, next.some), (next.there, (c.requires.within, (next.ends, (c.requires.all_end, (c.loop-e.invariant.same, c.loop-e.invariant.right))))))

pub loop-e-preserved : goal.loop-e-preserved
loop-e-preserved t c = record {
  same = c.in_ok-fill.ensures.same;
  right = c.in_ok-fill.ensures.right;
  filled = filled_more c.as_slice-e-items.result.now c.loop-e.e-index c.loop-e.rows.items c.fill.new.rows.items c.in_ok-fill.ensures.kept c.in_ok-fill.ensures.filled c.loop-e.invariant.filled;
  kept = λ d f. c.in_ok-fill.ensures.kept d (c.loop-e.invariant.kept d f);
}

pub joined-requires-clause-within : goal.joined-requires-clause-within
joined-requires-clause-within t c = λ k d lt.
    let items : row_of c.args.named.now c.args.c ≡ c.as_slice.result.now = row_is c.args.named.now c.args.c c.index-named-c-then-len-eq0.result c.requires.there c.index-named-c-then-len-eq0.is ∙ sym c.as_slice.ensures in
    let low : slice_index_or c.as_slice.result.now k d < length c.args.named.now = subst (λ (xs : List ℕ). k < length xs → slice_index_or xs k d < length c.args.named.now) items (c.requires.within c.args.c k d) lt in
    let shown : length c.deref.result.now ≡ length c.loop-e.rows.items = ap (λ (xs : List (List ℕ)). length xs) c.deref.ensures.value in
    let same : length c.loop-e.rows.items ≡ length c.args.named.now = c.loop-e.invariant.same in
    omega (arith, low, shown, same)

pub joined-requires-clause-rows : goal.joined-requires-clause-rows
joined-requires-clause-rows t c =
    let items : row_of c.args.named.now c.args.c ≡ c.as_slice.result.now = row_is c.args.named.now c.args.c c.index-named-c-then-len-eq0.result c.requires.there c.index-named-c-then-len-eq0.is ∙ sym c.as_slice.ensures in
    let e_items : row_of c.args.named.now c.args.c ≡ c.as_slice-e-items.result.now = row_is c.args.named.now c.args.c c.index-named-c.result c.requires.there c.index-named-c.is ∙ sym c.as_slice-e-items.ensures in
    words_of c.args.named.now c.loop-e.rows.items c.deref.result.now c.as_slice.result.now c.args.c c.deref.ensures.value items c.loop-e.invariant.same c.loop-e.invariant.right
    (filled_all c.args.named.now c.as_slice-e-items.result.now c.loop-e.rows.items c.args.c c.loop-e.e-index e_items (omega arith) c.loop-e.invariant.filled)

pub returns-in_ok-row-clause-right : goal.returns-in_ok-row-clause-right
returns-in_ok-row-clause-right t c =
    let items : row_of c.args.named.now c.args.c ≡ c.as_slice.result.now = row_is c.args.named.now c.args.c c.index-named-c-then-len-eq0.result c.requires.there c.index-named-c-then-len-eq0.is ∙ sym c.as_slice.ensures in
    let e_items : row_of c.args.named.now c.args.c ≡ c.as_slice-e-items.result.now = row_is c.args.named.now c.args.c c.index-named-c.result c.requires.there c.index-named-c.is ∙ sym c.as_slice-e-items.ensures in
    let same : length c.loop-e.rows.items ≡ length c.args.named.now = c.loop-e.invariant.same in
    put_right c.args.named.now c.loop-e.rows.items c.args.c c.in_ok-row.row (omega (arith, same)) c.loop-e.invariant.right
    (row_done c.args.named.now c.loop-e.rows.items c.deref.result.now c.as_slice.result.now c.in_ok-row.row c.args.c c.deref.ensures.value items same c.requires.all_end c.loop-e.invariant.right
    (filled_all c.args.named.now c.as_slice-e-items.result.now c.loop-e.rows.items c.args.c c.loop-e.e-index e_items (omega arith) c.loop-e.invariant.filled)
    c.in_ok-row.ensures.same c.in_ok-row.ensures.each)

pub returns-in_ok-row-clause-filled : goal.returns-in_ok-row-clause-filled
returns-in_ok-row-clause-filled t c =
    let same : length c.loop-e.rows.items ≡ length c.args.named.now = c.loop-e.invariant.same in
    put_filled c.loop-e.rows.items c.args.c c.in_ok-row.row (omega (arith, same)) (some_words (length c.in_ok-row.row) (length c.deref.result.now) c.in_ok-row.ensures.same)

pub returns-in_ok-row-clause-kept : goal.returns-in_ok-row-clause-kept
returns-in_ok-row-clause-kept t c = λ d f.
    let same : length c.loop-e.rows.items ≡ length c.args.named.now = c.loop-e.invariant.same in
    put_kept c.loop-e.rows.items c.args.c d c.in_ok-row.row (omega (arith, same)) (some_words (length c.in_ok-row.row) (length c.deref.result.now) c.in_ok-row.ensures.same) (c.loop-e.invariant.kept d f)

pub returns-else-len-eq0-clause-filled : goal.returns-else-len-eq0-clause-filled
returns-else-len-eq0-clause-filled t c =
    let same : length c.args.rows.now.items ≡ length c.args.named.now = c.requires.same in
    (c.index.result.now, slice_get_read c.args.rows.now.items (length c.args.rows.now.items) c.args.c c.index.result.now refl (omega (arith, same)) c.index.ensures, omega arith)
