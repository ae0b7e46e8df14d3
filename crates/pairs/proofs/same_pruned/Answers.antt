-- What a cut takes away is the subtree at its node.
use Rattle.std.proofs.Common.{arith}
use Rattle.held.proofs.Laws.{within}
use Rattle.held.proofs.Subtree.{at-node}
use Rattle.pairs.proofs.Search.{pruned-held, pruned-holds}
use Rattle.pairs.proofs.same_pruned.Goals as goal

pub overflow_add-c : goal.overflow_add-c
overflow_add-c c = omega (arith, within (pruned-held c.requires.0).holds)

pub new-requires : goal.new-requires
new-requires c = pruned-held c.requires.0

pub overflow_add-d : goal.overflow_add-d
overflow_add-d c = omega (arith, within (pruned-held c.requires.1).holds)

pub new-requires-2 : goal.new-requires-2
new-requires-2 c = pruned-held c.requires.1

pub returns : goal.returns
returns c t u g h =
    rw (at-node c.new.result c.new.ensures (pruned-holds c.requires.0 t g), at-node c.new-2.result c.new-2.ensures (pruned-holds c.requires.1 u h)) at c.same_subtree.ensures
