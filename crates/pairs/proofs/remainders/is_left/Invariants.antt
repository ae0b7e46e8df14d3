-- What stands at `node`, beside what is left at the way's next child, tells the answer.
use Rattle.std.proofs.Common.{◌-◌}
use Rattle.held.specs.Node.{subtree}
use Rattle.pairs.specs.Left.{left, Alike}
use Rattle.pairs.proofs.Ways.{BesideWay}
use Rattle.pairs.proofs.remainders.is_left.Given as goal

abbrev pub invariant-loop-next : goal.invariant-loop-next
invariant-loop-next l = BesideWay l.p (subtree l.node) l.next.on.at (subtree l.next.on) (subtree l.next.off) (Alike (subtree l.x) (left l.p l.y.at (subtree l.y)))

abbrev pub decreases-loop-next : goal.decreases-loop-next
decreases-loop-next l = l.p - l.next.on.at
