use Rattle.call_cell.proofs.dispatch.unlinked_cells.Goals as goal

pub returns : goal.returns
returns c = (c.unlinked.result, c.in_ok-vec.ensures.items_if_clones_equal (λ a h. h), c.unlinked.ensures)
