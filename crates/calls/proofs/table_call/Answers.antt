-- The texts and ends of the table that was read.
use Rattle.calls.specs.Tabled.{text_slices}
use Rattle.calls.proofs.Tabling.{call-written}
use Rattle.calls.proofs.table_call.Goals as goal

pub returns : goal.returns
returns c = call-written c.args.s.now (text_slices c.args.texts.now c.args.ends.now) (rw (c.enough-fits.ensures, c.enough-ends_fit.ensures) at c.in_ok-table.ensures) c.write_texts.ensures
