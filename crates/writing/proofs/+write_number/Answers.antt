use Rattle.std.proofs.Common.{arith}
use Rattle.lent.proofs.Runs.{wrote-length}
use Rattle.writing.proofs.Laws.{length_digits, wrote-digits}
use Rattle.writing.proofs.+write_number.Goals as goal

pub write_number-last-requires : goal.write_number-last-requires
write_number-last-requires t c = (omega arith, omega (arith, c.requires, length_digits c.args.n c.if-n-le9.false))

pub bounds-out-last : goal.bounds-out-last
bounds-out-last t c = let w = c.write_number-last.ensures in omega (arith, c.requires, length_digits c.args.n c.if-n-le9.false, w.behind, wrote-length w)

pub overflow_add-result-2 : goal.overflow_add-result-2
overflow_add-result-2 t c = omega (arith, c.requires, length_digits c.args.n c.if-n-le9.false, c.write_number-last.ensures.behind)

pub returns : goal.returns
returns t c = wrote-digits c.args.n c.if-n-le9.false c.write_number-last.ensures
