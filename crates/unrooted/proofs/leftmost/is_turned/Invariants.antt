-- What stands at `node`, beside what hangs from l, tells the answer.
use Rattle.held.specs.Node.{subtree}
use Rattle.pairs.specs.Left.{Alike}
use Rattle.unrooted.specs.Turned.{TurnedAt}
use Rattle.unrooted.proofs.Beside.{BesideTurned}
use Rattle.unrooted.proofs.leftmost.is_turned.Given as goal

abbrev pub invariant-loop-l : goal.invariant-loop-l
invariant-loop-l l = (t : TurnedAt l.y.tree.now l.y.at l.q) → BesideTurned l.y.tree.now l.y.at (subtree l.node) l.l (Alike (subtree l.x) t.tree)

abbrev pub decreases-loop-l : goal.decreases-loop-l
decreases-loop-l l = l.l
