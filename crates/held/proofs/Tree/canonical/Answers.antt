-- The smallest labels are noted, and then the tree is written.
use Rattle.std.proofs.Common.{ap, arith}
use Rattle.held.specs.Held.{nodes}
use Rattle.held.proofs.Canon.{noted-marks}
use Rattle.held.proofs.Subtree.{at-node}
use Rattle.held.proofs.Tree.canonical.Goals as goal

pub note_smallest-requires : goal.note_smallest-requires
note_smallest-requires c = omega (arith, c.new-root.ensures, ap nodes (at-node c.new-root.result c.new-root.ensures c.requires.holds))

pub order-requires : goal.order-requires
order-requires c =
    let few = ap nodes (at-node c.new-root.result c.new-root.ensures c.requires.holds) in
    (noted-marks c.note_smallest.ensures (omega (arith, c.new-root.ensures, few)), omega (arith, few))

pub returns : goal.returns
returns c t h = rw (← at-node c.new-root.result c.new-root.ensures h) c.order.ensures.cells
