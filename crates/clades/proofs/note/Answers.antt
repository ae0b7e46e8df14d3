-- A leaf's mark is its label's bit, and a fork's is the sum of its children's, which stand behind it.
use Rattle.std.proofs.Common.{◌+◌, ◌-◌, ◌<◌, length-set, ap, arith}
use Rattle.meaning.specs.Limits.{max_nodes}
use Rattle.meaning.specs.Tree.{Tree}
use Rattle.meaning.specs.Clade.{clade}
use Rattle.held.specs.Held.{nodes, Holds}
use Rattle.held.proofs.Laws.{some-nodes, few-nodes}
use Rattle.held.proofs.Subtree.{at-node, at-each}
use Rattle.clades.specs.Marks.{Marks}
use Rattle.clades.proofs.Laws.{Sub, node_in, marks-more, bit_is, label-range, behind, sum_is, sum_fits}
use Rattle.clades.proofs.note.Goals.{In-loop-k, In-Leaf, In-Fork}
use Rattle.clades.proofs.note.Goals as goal

-- the subtree at the turn's node
here : (u : In-loop-k) → Sub u.args.n.now (u.loop-k.k - 1) (nodes u.requires.tree)
here u =
    let p = u.requires in
    node_in p.tree p.holds p.good (u.loop-k.k - 1) (omega (arith, u.width-k.ensures, ap nodes (at-node u.new-root.result u.new-root.ensures p.holds)))

few : (u : In-loop-k) → u.loop-k.k - 1 < max_nodes
few u = omega (arith, few-nodes u.requires.good, (here u).inside, some-nodes (here u).tree)

-- the nodes behind it are marked
marked : (u : In-loop-k) (t : Tree) → Holds u.args.n.now 0 t → Marks clade u.args.n.now u.loop-k.m (u.loop-k.k - 1 + 1) (nodes t)
marked u t h k le = u.loop-k.invariant.1 t h k (omega (arith, u.loop-k-test.true))

-- and its children are among them
inside : (f : In-Fork) → (f.loop-k.k - 1 < f.in-Fork.first.at) × (f.in-Fork.first.at < f.in-Fork.second.at) × (f.in-Fork.second.at < max_nodes)
inside f =
    let b = behind (here (goal.at.In-Fork f).In-loop-k) f.new-node.result f.new-node.ensures f.in-Fork.ensures in
    (b.0, b.1, omega (arith, b.2, few-nodes f.requires.good))

pub loop-k-init : goal.loop-k-init
loop-k-init c = (
  c.requires.room,
  λ t h k le lt. absurd (omega (arith, c.width-k.ensures, ap nodes (at-node c.new-root.result c.new-root.ensures h))),
)

pub new-node-requires : goal.new-node-requires
new-node-requires c =
    let s = here (goal.at.new-node-requires c).In-loop-k in
    record { tree = s.tree; holds = s.holds }

-- ---- a leaf
pub overflow_sub-m : goal.overflow_sub-m
overflow_sub-m c = omega (arith, label-range (here (goal.at.overflow_sub-m c).In-loop-k) c.new-node.result c.new-node.ensures c.in-Leaf.ensures)

pub overflow_shl-m : goal.overflow_shl-m
overflow_shl-m c = omega (arith, label-range (here (goal.at.overflow_shl-m c).In-loop-k) c.new-node.result c.new-node.ensures c.in-Leaf.ensures)

pub offset_bounds-m-k : goal.offset_bounds-m-k
offset_bounds-m-k c = omega (arith, few (goal.at.offset_bounds-m-k c).In-loop-k)

pub bounds-m-k : goal.bounds-m-k
bounds-m-k c = few (goal.at.bounds-m-k c).In-loop-k

pub loop-k-preserved-in-Leaf : goal.loop-k-preserved-in-Leaf
loop-k-preserved-in-Leaf c =
    let u = (goal.at.loop-k-preserved-in-Leaf c).In-loop-k in
    let label = label-range (here u) c.new-node.result c.new-node.ensures c.in-Leaf.ensures in
    let own = at-each clade c.new-node.result c.new-node.ensures (bit_is c.in-Leaf.label label.1 c.in-Leaf.ensures) in
    (simp length-set u.loop-k.invariant.0, λ t h. marks-more clade u.args.n.now u.loop-k.m (u.loop-k.k - 1) (nodes t) _ (omega (arith, few u, u.loop-k.invariant.0)) own (marked u t h))

-- ---- a fork
pub offset_bounds-m-first : goal.offset_bounds-m-first
offset_bounds-m-first c = omega (arith, inside (goal.at.offset_bounds-m-first c).In-Fork)

pub bounds-m-first : goal.bounds-m-first
bounds-m-first c = omega (arith, inside (goal.at.bounds-m-first c).In-Fork)

pub offset_bounds-m-second : goal.offset_bounds-m-second
offset_bounds-m-second c = omega (arith, inside (goal.at.offset_bounds-m-second c).In-Fork)

pub bounds-m-second : goal.bounds-m-second
bounds-m-second c = omega (arith, inside (goal.at.bounds-m-second c).In-Fork)

pub overflow_add-m : goal.overflow_add-m
overflow_add-m c =
    let u = (goal.at.overflow_add-m c).In-loop-k in
    omega (arith, sum_fits (here u) c.new-node.result c.new-node.ensures c.in-Fork.ensures u.loop-k.m (marked u u.requires.tree u.requires.holds))

pub offset_bounds-m-k-in-Fork : goal.offset_bounds-m-k-in-Fork
offset_bounds-m-k-in-Fork c = omega (arith, few (goal.at.offset_bounds-m-k-in-Fork c).In-loop-k)

pub bounds-m-k-in-Fork : goal.bounds-m-k-in-Fork
bounds-m-k-in-Fork c = few (goal.at.bounds-m-k-in-Fork c).In-loop-k

pub loop-k-preserved : goal.loop-k-preserved
loop-k-preserved c =
    let u = (goal.at.loop-k-preserved c).In-loop-k in
    let sum = sum_is (here u) c.new-node.result c.new-node.ensures c.in-Fork.ensures u.loop-k.m (marked u u.requires.tree u.requires.holds) in
    let own = at-each clade c.new-node.result c.new-node.ensures sum in
    (simp length-set u.loop-k.invariant.0, λ t h. marks-more clade u.args.n.now u.loop-k.m (u.loop-k.k - 1) (nodes t) _ (omega (arith, few u, u.loop-k.invariant.0)) own (marked u t h))
