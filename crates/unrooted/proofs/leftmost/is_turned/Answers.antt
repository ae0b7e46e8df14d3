-- What hangs off the path is a child of the tree, or it is not what hangs there.
use Rattle.pairs.proofs.Ways.{beside-start}
use Rattle.unrooted.proofs.Path.{fork_at}
use Rattle.unrooted.proofs.Beside.{turned-end, turned-none, turned-on}
use Rattle.unrooted.proofs.leftmost.is_turned.Goals as goal

pub loop-l-init : goal.loop-l-init
loop-l-init c t = record { turned = t; beside = beside-start c.requires.0 t.tree }

pub off_path-requires : goal.off_path-requires
off_path-requires c = fork_at (c.loop-l.invariant c.requires.1).turned

pub returns-in_default : goal.returns-in_default
returns-in_default c t = turned-none (c.loop-l.invariant t) c.off_path.ensures c.loop-l-test.true c.in_default.ensures

pub loop-l-preserved : goal.loop-l-preserved
loop-l-preserved c t = turned-on (c.loop-l.invariant t) c.off_path.ensures c.loop-l-test.true c.in-Some.ensures

pub off_path-requires-2 : goal.off_path-requires-2
off_path-requires-2 c = fork_at (c.loop-l.invariant c.requires.1).turned

pub returns : goal.returns
returns c t = turned-end (c.loop-l.invariant t) c.off_path-2.ensures c.loop-l-test.false c.same_subtree.result c.same_subtree.ensures
