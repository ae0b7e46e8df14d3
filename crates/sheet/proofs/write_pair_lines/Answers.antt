use Rattle.std.proofs.Common.{refl, arith}
use Rattle.sheet.proofs.Turns.{pair_fits, pairs-more, pairs-done}
use Rattle.sheet.proofs.write_pair_lines.Goals as goal

pub loop-i-init : goal.loop-i-init
loop-i-init c ps e = record { behind = omega arith; cells = refl }

pub write_pair_line-next-requires : goal.write_pair_line-next-requires
write_pair_line-next-requires c = pair_fits c.loop-i.invariant c.as_chunks.ensures.front c.loop-i-test.true c.requires

pub loop-i-preserved : goal.loop-i-preserved
loop-i-preserved c = pairs-more c.loop-i.invariant c.as_chunks.ensures.front c.loop-i-test.true c.write_pair_line-next.ensures

pub returns : goal.returns
returns c = pairs-done c.loop-i.invariant c.as_chunks.ensures.front (omega arith) c.loop-i-test.false
