-- What hangs from k and from l tells the answer.
use Rattle.pairs.specs.Left.{Alike}
use Rattle.unrooted.specs.Turned.{TurnedAt}
use Rattle.unrooted.proofs.Beside.{Both}
use Rattle.unrooted.proofs.leftmost.same_turned.Given as goal

abbrev pub invariant-loop-k : goal.invariant-loop-k
invariant-loop-k l = (t : TurnedAt l.x.tree.now l.x.at l.p) (u : TurnedAt l.y.tree.now l.y.at l.q) → Both l.x.tree.now l.y.tree.now l.x.at l.y.at l.k l.l (Alike t.tree u.tree)

abbrev pub decreases-loop-k : goal.decreases-loop-k
decreases-loop-k l = l.k
