-- What is left at `one` and at `two` tells the answer.
use Rattle.std.proofs.Common.{◌-◌}
use Rattle.held.specs.Node.{subtree}
use Rattle.pairs.specs.Left.{left, Alike}
use Rattle.pairs.proofs.Ways.{BothLeft}
use Rattle.pairs.proofs.remainders.same_left.Given as goal

abbrev pub invariant-loop-a : goal.invariant-loop-a
invariant-loop-a l =
    BothLeft l.p l.q l.one.at l.two.at (subtree l.one) (subtree l.two) l.a.on.at (subtree l.a.on) (subtree l.a.off)
    (Alike (left l.p l.x.at (subtree l.x)) (left l.q l.y.at (subtree l.y)))

abbrev pub decreases-loop-a : goal.decreases-loop-a
decreases-loop-a l = l.p - l.a.on.at
