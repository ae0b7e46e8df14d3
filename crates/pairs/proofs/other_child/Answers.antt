-- Of a fork's children the one that is the subtree tells the other.
use Rattle.std.proofs.Common.{◌≡◌}
use Rattle.held.specs.Node.{subtree}
use Rattle.lent.proofs.Says.{said}
use Rattle.pairs.proofs.Children.{second-beside, first-beside}
use Rattle.pairs.proofs.other_child.Goals as goal

pub returns-then-same_subtree : goal.returns-then-same_subtree
returns-then-same_subtree c = second-beside c.in-Fork.ensures.is (said (subtree c.in-Fork.first ≡ subtree c.args.y) c.if-same_subtree.true c.same_subtree.ensures)

pub returns-then-same_subtree-2 : goal.returns-then-same_subtree-2
returns-then-same_subtree-2 c =
    first-beside c.in-Fork.ensures.is (said (subtree c.in-Fork.second ≡ subtree c.args.y) c.if-same_subtree-2.true c.same_subtree-else-same_subtree.ensures)
