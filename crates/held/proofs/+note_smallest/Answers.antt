-- A fork's smallest label is noted when those of its children are.
use Rattle.std.proofs.Common.{arith}
use Rattle.held.proofs.Canon.{noted-fork, noted-length}
use Rattle.held.proofs.Subtree.{children-nodes, first-fewer, second-fewer}
use Rattle.held.proofs.+note_smallest.Goals as goal

pub note_smallest-x-requires : goal.note_smallest-x-requires
note_smallest-x-requires t c =
    let k = c.in-Fork.ensures in
    (omega (arith, first-fewer k), omega (arith, children-nodes k, k.first_at))

pub note_smallest-y-requires : goal.note_smallest-y-requires
note_smallest-y-requires t c =
    let k = c.in-Fork.ensures in
    (omega (arith, second-fewer k), omega (arith, children-nodes k, k.second_at, noted-length c.note_smallest-x.ensures))

pub returns-in-Fork : goal.returns-in-Fork
returns-in-Fork t c =
    let k = c.in-Fork.ensures in
    noted-fork k.is k.first_at k.second_at c.note_smallest-x.ensures c.note_smallest-y.ensures (omega arith)
