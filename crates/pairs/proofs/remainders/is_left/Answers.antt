-- What hangs off the way is a child of the whole tree, or it is not what is left.
use Rattle.pairs.proofs.Ways.{way_starts, way_none, way_on, way_end}
use Rattle.pairs.proofs.remainders.is_left.Goals as goal

pub loop-next-init : goal.loop-next-init
loop-next-init c = way_starts c.requires.0 c.requires.1 c.way_to-next.ensures

pub returns-in_default : goal.returns-in_default
returns-in_default c = way_none c.loop-next.invariant c.loop-next-test.true c.in_default.ensures

pub loop-next-preserved : goal.loop-next-preserved
loop-next-preserved c = way_on c.loop-next.invariant c.loop-next-test.true c.in-Some.ensures c.way_to-next-in-loop-next.ensures

pub returns : goal.returns
returns c = way_end c.loop-next.invariant c.loop-next-test.false c.same_subtree.result c.same_subtree.ensures
