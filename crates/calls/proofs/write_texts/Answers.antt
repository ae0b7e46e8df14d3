-- A tree more is written, and all are.
use Rattle.std.proofs.Common.{arith}
use Rattle.calls.proofs.Tabling.{part_none, next_fits, number_fits, next_small, part-more, part-all}
use Rattle.calls.proofs.write_texts.Goals as goal

pub loop-i-init : goal.loop-i-init
loop-i-init c = part_none _ _

pub write_form-at-requires : goal.write_form-at-requires
write_form-at-requires c = next_fits c.loop-i.invariant c.requires c.loop-i-test.true

pub overflow_cast-ends : goal.overflow_cast-ends
overflow_cast-ends c = omega (arith, next_small c.loop-i.invariant c.requires c.loop-i-test.true c.write_form-at.ensures)

pub bounds-ends-i : goal.bounds-ends-i
bounds-ends-i c = number_fits c.loop-i.invariant c.requires c.loop-i-test.true

pub loop-i-preserved : goal.loop-i-preserved
loop-i-preserved c = part-more c.loop-i.invariant c.loop-i-test.true c.write_form-at.ensures

pub returns : goal.returns
returns c = part-all c.loop-i.invariant (omega (arith, c.loop-i-test.false))
