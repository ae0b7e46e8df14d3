-- Both children are placed, and then their fork.
use Rattle.std.proofs.Common.{◌≡◌, ◌+◌, arith}
use Rattle.std.proofs.Math.ListN.{length-set}
use Rattle.meaning.specs.Tree.{leaves}
use Rattle.held.specs.Node.{subtree}
use Rattle.held.proofs.Laws.{some-nodes}
use Rattle.held.proofs.Subtree.{children-nodes, children-leaves, first-fewer, second-fewer}
use Rattle.plotting.proofs.Placing.{rows-length, columns-length, placed-leaf, placed-fork}
use Rattle.plotting.proofs.+place_node.Goals as goal

pub bounds-columns-node : goal.bounds-columns-node
bounds-columns-node t c = omega (arith, some-nodes (subtree c.args.node), c.requires.columns_room)

pub returns-in-Leaf : goal.returns-in-Leaf
returns-in-Leaf t c = rw (c.from-tip.ensures, c.from.ensures) (placed-leaf c.in-Leaf.ensures c.requires.before)

pub place_node-x-requires : goal.place_node-x-requires
place_node-x-requires t c =
    let k = c.in-Fork.ensures in
    let p = c.requires in (
      omega (arith, first-fewer k),
      record {
        rows_room = omega (arith, p.rows_room, children-nodes k, k.first_at);
        columns_room = simp length-set (omega (arith, p.columns_room, children-nodes k, k.first_at));
        above = omega (arith, p.above, first-fewer k);
        before = omega (arith, p.before, first-fewer k);
      },
    )

pub place_node-y-requires : goal.place_node-y-requires
place_node-y-requires t c =
    let k = c.in-Fork.ensures in
    let p = c.requires in
    let x = c.place_node-x.ensures in (
      omega (arith, second-fewer k),
      record {
        rows_room = omega (arith, p.rows_room, children-nodes k, k.second_at, rows-length x);
        columns_room = omega (arith, p.columns_room, children-nodes k, k.second_at, columns-length x, length-set c.args.columns.now c.args.node.at c.args.above);
        above = omega (arith, p.above, second-fewer k);
        before = omega (arith, p.before, children-leaves k, c.leaves.ensures, c.from-in-Fork.ensures);
      },
    )

pub returns-in-Fork : goal.returns-in-Fork
returns-in-Fork t c =
    let k = c.in-Fork.ensures in
    let middle : c.args.before + c.from-in-Fork.result ≡ c.args.before + leaves (subtree c.in-Fork.first) = omega (arith, c.leaves.ensures, c.from-in-Fork.ensures) in
    rw c.from-in-Fork-2.ensures
    (placed-fork k.is k.first_at k.second_at middle c.requires.before c.place_node-x.ensures c.place_node-y.ensures c.between-row.ensures)
