-- The row of the tree that was read.
use Rattle.row_calls.proofs.Rowing.{row-call-room, row-call-written}
use Rattle.row_calls.proofs.row_call.Goals as goal

pub write_row-requires : goal.write_row-requires
write_row-requires c = row-call-room c.args.s.now c.args.row.now (rw c.enough-fits.ensures at c.in_ok-read.ensures)

pub returns : goal.returns
returns c = row-call-written c.args.s.now c.args.row.now (rw c.enough-fits.ensures at c.in_ok-read.ensures) c.write_row.ensures
