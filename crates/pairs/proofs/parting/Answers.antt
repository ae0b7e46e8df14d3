-- From two forks the walk goes on to the children that differ, and ends where both do, at a leaf, or where first bytes differ.
use Rattle.std.proofs.Common.{refl}
use Rattle.pairs.specs.Ordered.{HeldFork}
use Rattle.pairs.proofs.Children.{new-fork, second-at, second-in, same-at}
use Rattle.pairs.proofs.Walk.{Walked, walk_starts, leaf-ends, common-ends, fork_one, fork_two, walk-second, walk-first, parts-here}
use Rattle.pairs.proofs.parting.Goals.{Then-x-k-gt-FORK, After-same_subtree}
use Rattle.pairs.proofs.parting.Goals as goal

-- the walk from the trees that were asked for is at two forks
module _ (c : Then-x-k-gt-FORK) where
  walked : Walked c.args.x.now c.args.y.now c.common-same.result c.loop-k.k c.requires.0.tree c.requires.1.tree
  walked = let (x, y) = c.requires in c.loop-k.invariant x.tree y.tree x.holds y.holds

  fork-x : HeldFork c.args.x.now c.loop-k.k
  fork-x = fork_one walked c.common-same.ensures c.requires.0.long c.loop-k-test.true c.if-x-k-gt-FORK.true

  fork-y : HeldFork c.args.y.now c.loop-k.k
  fork-y = fork_two walked c.common-same.ensures c.requires.0.long c.loop-k-test.true c.if-x-k-gt-FORK.true

pub loop-k-init : goal.loop-k-init
loop-k-init c = walk_starts

pub new-requires : goal.new-requires
new-requires c = let f = fork-x (goal.at.new-requires c).Then-x-k-gt-FORK in record { tree = _; holds = f.holds }

pub second_child-second-requires : goal.second_child-second-requires
second_child-second-requires c = new-fork c.new.result c.new.ensures (fork-x (goal.at.second_child-second-requires c).Then-x-k-gt-FORK)

pub loop-k-preserved-then-second-same : goal.loop-k-preserved-then-second-same
loop-k-preserved-then-second-same c t u h g =
    walk-second (c.loop-k.invariant t u h g) c.common-same.ensures c.requires.0.long c.loop-k-test.true c.if-x-k-gt-FORK.true
    (second-at c.new.result c.new.ensures c.second_child-second.ensures) c.if-second-same.true

pub new-requires-else-second-same : goal.new-requires-else-second-same
new-requires-else-second-same c = let f = fork-y (goal.at.new-requires-else-second-same c).Then-x-k-gt-FORK in record { tree = _; holds = f.holds }

pub second_child-requires : goal.second_child-requires
second_child-requires c = new-fork c.new-else-second-same.result c.new-else-second-same.ensures (fork-y (goal.at.second_child-requires c).Then-x-k-gt-FORK)

pub loop-k-preserved : goal.loop-k-preserved
loop-k-preserved c t u h g =
    let one = second-in c.new.result c.new.ensures c.second_child-second.ensures in
    let two = second-in c.new-else-second-same.result c.new-else-second-same.ensures c.second_child.ensures in
    walk-first (c.loop-k.invariant t u h g) c.common-same.ensures c.requires.0.long c.loop-k-test.true c.if-x-k-gt-FORK.true
    (second-at c.new.result c.new.ensures c.second_child-second.ensures) (second-at c.new-else-second-same.result c.new-else-second-same.ensures c.second_child.ensures)
    c.same_subtree.result (same-at c.second_child-second.result (one, refl) c.second_child.result (two, refl) c.same_subtree.result c.same_subtree.ensures) c.if-same_subtree.true

pub returns-else-same_subtree : goal.returns-else-same_subtree
returns-else-same_subtree c t u h g =
    let one = second-in c.new.result c.new.ensures c.second_child-second.ensures in
    let two = second-in c.new-else-second-same.result c.new-else-second-same.ensures c.second_child.ensures in
    parts-here (c.loop-k.invariant t u h g) c.common-same.ensures c.requires.0.long c.loop-k-test.true c.if-x-k-gt-FORK.true
    (second-at c.new.result c.new.ensures c.second_child-second.ensures) (second-at c.new-else-second-same.result c.new-else-second-same.ensures c.second_child.ensures)
    c.same_subtree.result (same-at c.second_child-second.result (one, refl) c.second_child.result (two, refl) c.same_subtree.result c.same_subtree.ensures) c.if-second-same.false c.if-same_subtree.false

pub returns-else-x-k-gt-FORK : goal.returns-else-x-k-gt-FORK
returns-else-x-k-gt-FORK c t u h g = leaf-ends (c.loop-k.invariant t u h g) c.if-x-k-gt-FORK.false

pub returns-after-loop-k : goal.returns-after-loop-k
returns-after-loop-k c t u h g = common-ends (c.loop-k.invariant t u h g) c.common-same.ensures c.requires.0.long c.loop-k-test.false
