use Rattle.std.proofs.Common.{arith}
use Rattle.lent.proofs.Runs.{wrote-length}
use Rattle.writing.proofs.Lines.{two-length, two-wrote}
use Rattle.writing.proofs.write_two_fields.Goals as goal

pub write_field-second-requires : goal.write_field-second-requires
write_field-second-requires c = let a = c.args in omega (arith, c.requires, two-length a.a.now a.n a.b.now a.m)

pub write_field-end-requires : goal.write_field-end-requires
write_field-end-requires c =
    let a = c.args in
    let w = c.write_field-second.ensures in
    omega (arith, c.requires, two-length a.a.now a.n a.b.now a.m, w.behind, wrote-length w)

pub write_text-requires : goal.write_text-requires
write_text-requires c =
    let a = c.args in
    let v = c.write_field-second.ensures in
    let w = c.write_field-end.ensures in
    omega (arith, c.requires, two-length a.a.now a.n a.b.now a.m, v.behind, wrote-length v, w.behind, wrote-length w)

pub returns : goal.returns
returns c = let a = c.args in two-wrote a.a.now a.n a.b.now a.m c.write_field-second.ensures c.write_field-end.ensures c.write_text.ensures
