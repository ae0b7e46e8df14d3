-- A fork's byte is written, and then its children, the one with the smaller label first.
use Rattle.std.proofs.Common.{length-set, arith}
use Rattle.held.specs.Node.{subtree}
use Rattle.lent.proofs.Runs.{wrote-length}
use Rattle.held.proofs.Canon.{length-canon, mark-in, marks-first, marks-second, ordered-keep, ordered-swap}
use Rattle.held.proofs.Subtree.{children-nodes, first-fewer, second-fewer}
use Rattle.held.proofs.+order.Goals as goal

pub bounds-low-second : goal.bounds-low-second
bounds-low-second t c =
    let k = c.in-Fork.ensures in
    mark-in (marks-second k.is c.requires.0 k.second_at)

pub bounds-low-first : goal.bounds-low-first
bounds-low-first t c =
    let k = c.in-Fork.ensures in
    mark-in (marks-first k.is c.requires.0 k.first_at)

pub order-next-requires : goal.order-next-requires
order-next-requires t c =
    let k = c.in-Fork.ensures in
    (omega (arith, second-fewer k), (marks-second k.is c.requires.0 k.second_at, simp length-set (omega (arith, children-nodes k))))

pub order-requires : goal.order-requires
order-requires t c =
    let k = c.in-Fork.ensures in
    let long = simp length-set at (wrote-length c.order-next.ensures) in
    (omega (arith, first-fewer k), (marks-first k.is c.requires.0 k.first_at, omega (arith, children-nodes k, long, c.order-next.ensures.behind, length-canon (subtree c.in-Fork.second))))

pub order-next-requires-else-low-second : goal.order-next-requires-else-low-second
order-next-requires-else-low-second t c =
    let k = c.in-Fork.ensures in
    (omega (arith, first-fewer k), (marks-first k.is c.requires.0 k.first_at, simp length-set (omega (arith, children-nodes k))))

pub order-requires-else-low-second : goal.order-requires-else-low-second
order-requires-else-low-second t c =
    let k = c.in-Fork.ensures in
    let long = simp length-set at (wrote-length c.order-next-else-low-second.ensures) in
    (omega (arith, second-fewer k), (marks-second k.is c.requires.0 k.second_at, omega (arith, children-nodes k, long, c.order-next-else-low-second.ensures.behind, length-canon (subtree c.in-Fork.first))))

pub returns-then-low-second : goal.returns-then-low-second
returns-then-low-second t c =
    let k = c.in-Fork.ensures in
    ordered-swap k.is (marks-first k.is c.requires.0 k.first_at) (marks-second k.is c.requires.0 k.second_at) c.byte.ensures (omega arith) c.order-next.ensures c.order.ensures

pub returns-else-low-second : goal.returns-else-low-second
returns-else-low-second t c =
    let k = c.in-Fork.ensures in
    ordered-keep k.is (marks-first k.is c.requires.0 k.first_at) (marks-second k.is c.requires.0 k.second_at) c.byte.ensures (omega arith) c.order-next-else-low-second.ensures c.order-else-low-second.ensures
