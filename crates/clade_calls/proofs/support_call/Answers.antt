-- The support of the table that was read.
use Rattle.clade_calls.specs.Paper.{support_memory}
use Rattle.clade_calls.proofs.Supporting.{call-room}
use Rattle.clade_calls.proofs.support_call.Goals as goal

pub write_support-requires : goal.write_support-requires
write_support-requires c =
    call-room c.args.s.now (support_memory c.args.clades.now c.args.numbers.now c.args.text.now)
    (rw (c.enough-fits.ensures, c.enough-numbers_fit.ensures, c.enough-text_fits.ensures) at c.in_ok-table.ensures)
