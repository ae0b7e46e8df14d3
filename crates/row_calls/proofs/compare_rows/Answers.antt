-- Two rows of different labels, or of the same.
use Rattle.row_calls.proofs.Rowing.{row-some, labels-differ, rows_told}
use Rattle.row_calls.proofs.compare_rows.Goals as goal

pub bounds-row-0 : goal.bounds-row-0
bounds-row-0 c = row-some c.args.row.now c.requires.0

pub bounds-other-0 : goal.bounds-other-0
bounds-other-0 c = row-some c.args.other.now c.requires.1

pub returns-then-differ : goal.returns-then-differ
returns-then-differ c =
    rw (c.of_second.ensures, c.at.ensures) (labels-differ c.args.row.now c.args.other.now c.requires.0 c.requires.1 c.if-differ.true)

pub returns : goal.returns
returns c =
    rows_told c.args.row.now c.args.other.now c.requires.0 c.requires.1 c.if-differ.false c.one_move_apart.result
    (c.one_move_apart.ensures _ _ c.tree_of.ensures.keeps c.tree_of-2.ensures.keeps)
