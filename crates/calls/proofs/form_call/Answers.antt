-- The form of the tree that was read.
use Rattle.calls.proofs.Texts.{form-fits, form-written}
use Rattle.calls.proofs.form_call.Goals as goal

pub write_form-requires : goal.write_form-requires
write_form-requires c = form-fits c.args.s.now c.args.out.now (rw c.enough-fits.ensures at c.in_ok-read.ensures)

pub returns : goal.returns
returns c = form-written c.args.s.now c.args.out.now (rw c.enough-fits.ensures at c.in_ok-read.ensures) c.write_form.ensures
