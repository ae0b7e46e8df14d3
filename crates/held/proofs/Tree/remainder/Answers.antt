-- The cut's node is below the root, and what is left without it is put in order.
use Rattle.std.proofs.Common.{◌≡◌, length, ap, rules, arith}
use Rattle.held.specs.Held.{nodes, cut_in}
use Rattle.held.proofs.Laws.{within, inside, unique}
use Rattle.held.proofs.Cut.{cut_holds, cut-below, rest-fits, rest-holds}
use Rattle.held.proofs.Subtree.{at-node}
use Rattle.held.proofs.Tree.remainder.Goals as goal

pub overflow_add-c : goal.overflow_add-c
overflow_add-c c =
    let len : length c.args.self.node ≡ 127 = search rules in
    omega (arith, within (cut_holds c.requires))

pub new-cut-requires : goal.new-cut-requires
new-cut-requires c = record { tree = (cut_in c.requires.tree c.args.c).pruned; holds = cut_holds c.requires }

pub cut_node-requires : goal.cut_node-requires
cut_node-requires c =
    let len : length c.args.self.node ≡ 127 = search rules in
    (cut-below c.requires c.new-root.result c.new-cut.result c.new-root.ensures c.new-cut.ensures, omega (arith, inside c.requires.holds, ap nodes (at-node c.new-root.result c.new-root.ensures c.requires.holds)))

pub canonical-requires : goal.canonical-requires
canonical-requires c =
    let len : length c.args.self.node ≡ 127 = search rules in
    record { tree = (cut_in c.requires.tree c.args.c).rest; holds = rest-holds c.requires len c.new-root.result c.new-cut.result c.new-root.ensures c.new-cut.ensures.1 c.cut_node.ensures; room = rest-fits c.requires len }

pub returns : goal.returns
returns c t h =
    let len : length c.args.self.node ≡ 127 = search rules in
    let left = rest-holds c.requires len c.new-root.result c.new-cut.result c.new-root.ensures c.new-cut.ensures.1 c.cut_node.ensures in
    rw (← unique c.requires.holds h) (c.canonical.ensures (cut_in c.requires.tree c.args.c).rest left)
