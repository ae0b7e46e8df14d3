use Rattle.std.proofs.Common.{arith}
use Rattle.std.proofs.Math.ListN.{length-append}
use Rattle.meaning.specs.Tree.{digits}
use Rattle.lent.proofs.Runs.{wrote-more, wrote-length}
use Rattle.writing.proofs.write_field.Goals as goal

pub write_text-number-requires : goal.write_text-number-requires
write_text-number-requires c = omega (arith, c.requires, length-append c.args.text.now (digits c.args.n))

pub write_number-requires : goal.write_number-requires
write_number-requires c =
    let w = c.write_text-number.ensures in
    omega (arith, c.requires, length-append c.args.text.now (digits c.args.n), w.behind, wrote-length w)

pub returns : goal.returns
returns c = wrote-more c.write_text-number.ensures c.write_number.ensures
