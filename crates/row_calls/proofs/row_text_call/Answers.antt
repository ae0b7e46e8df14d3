-- The text of a row's tree.
use Rattle.std.proofs.Common.{sym}
use Rattle.row_calls.proofs.Rowing.{text-room, text-written}
use Rattle.row_calls.proofs.row_text_call.Goals as goal

pub write_form-requires : goal.write_form-requires
write_form-requires c = text-room c.args.row.now c.args.out.now (sym c.if-not-enough.ensures) (sym c.if-not-is_row.ensures) c.tree_of.ensures

pub returns : goal.returns
returns c = text-written c.args.row.now c.args.out.now (sym c.if-not-enough.ensures) (sym c.if-not-is_row.ensures) c.tree_of.ensures c.write_form.ensures
