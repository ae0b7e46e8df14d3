-- Too little is lent, or the sheet is printed.
use Rattle.std.proofs.Common.{sym}
use Rattle.meaning.proofs.Lent.{enough-ample}
use Rattle.meaning.specs.Sheet.{sheet_slices}
use Rattle.listing_calls.proofs.Sheets.{sheet-refused, sheet-printed}
use Rattle.listing_calls.proofs.sheet_call.Goals as goal

pub returns-then-not-enough : goal.returns-then-not-enough
returns-then-not-enough c = rw c.at.ensures (sheet-refused c.args.s.now c.args.out.now (sym c.if-not-enough.ensures))

pub print_sheet-requires : goal.print_sheet-requires
print_sheet-requires c = enough-ample (sheet_slices c.args.out.now) (sym c.if-not-enough.ensures)

pub returns : goal.returns
returns c = sheet-printed c.args.s.now c.args.out.now (sym c.if-not-enough.ensures) c.print_sheet.ensures
