-- A slice that is no row.
use Rattle.std.proofs.Common.{sym, ◌∙◌}
use Rattle.row_calls.proofs.Rowing.{first-none, second_none}
use Rattle.row_calls.proofs.row_pair_call.Goals as goal

pub returns-then-not-is_row : goal.returns-then-not-is_row
returns-then-not-is_row c = rw c.at.ensures (first-none c.args.row.now c.args.other.now (sym c.is_row.ensures ∙ c.if-not-is_row.true))

pub returns-then-not-is_row-2 : goal.returns-then-not-is_row-2
returns-then-not-is_row-2 c =
    rw (c.of_second.ensures, c.at-then-not-is_row-2.ensures)
    (second_none c.args.row.now c.args.other.now (sym c.is_row.ensures ∙ c.if-not-is_row.false) (sym c.is_row-else-not-is_row.ensures ∙ c.if-not-is_row-2.true))
