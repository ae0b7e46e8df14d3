-- A leaf has no print, and a fork's is its own and its children's, which stand behind it.
use Rattle.std.proofs.Common.{◌∙◌, ◌+◌, ◌-◌, ◌<◌, ℕ, get_or, length-set, sym, ap, arith}
use Rattle.meaning.specs.Limits.{max_nodes}
use Rattle.meaning.specs.Tree.{Tree}
use Rattle.held.specs.Held.{nodes, Holds}
use Rattle.held.proofs.Laws.{some-nodes, few-nodes}
use Rattle.held.proofs.Subtree.{at-node, at-each}
use Rattle.clades.specs.Marks.{Marks}
use Rattle.clades.proofs.Laws.{Sub, node_in, marks-more, behind}
use Rattle.prints.specs.Print.{print}
use Rattle.prints.proofs.Laws.{fork-print, fork-print-fits}
use Rattle.prints.proofs.note.Goals.{In-loop-k, In-Fork}
use Rattle.prints.proofs.note.Goals as goal

-- the subtree at the turn's node
here : (u : In-loop-k) → Sub u.args.n.now (u.loop-k.k - 1) (nodes u.requires.0.tree)
here u =
    let p = u.requires.0 in
    node_in p.tree p.holds p.good (u.loop-k.k - 1) (omega (arith, u.width-k.ensures, ap nodes (at-node u.new-root.result u.new-root.ensures p.holds)))

few : (u : In-loop-k) → u.loop-k.k - 1 < max_nodes
few u = omega (arith, few-nodes u.requires.0.good, (here u).inside, some-nodes (here u).tree)

-- the nodes behind it are marked
marked : (u : In-loop-k) (t : Tree) → Holds u.args.n.now 0 t → Marks print u.args.n.now u.loop-k.f (u.loop-k.k - 1 + 1) (nodes t)
marked u t h k le = u.loop-k.invariant.1 t h k (omega (arith, u.loop-k-test.true))

-- and its children are among them
inside : (c : In-Fork) → (c.loop-k.k - 1 < c.in-Fork.first.at) × (c.in-Fork.first.at < c.in-Fork.second.at) × (c.in-Fork.second.at < max_nodes)
inside c =
    let b = behind (here (goal.at.In-Fork c).In-loop-k) c.new-node.result c.new-node.ensures c.in-Fork.ensures in
    (b.0, b.1, omega (arith, b.2, few-nodes c.requires.0.good))

pub loop-k-init : goal.loop-k-init
loop-k-init c = (
  c.requires.0.room,
  λ t h k le lt. absurd (omega (arith, c.width-k.ensures, ap nodes (at-node c.new-root.result c.new-root.ensures h))),
)

pub new-node-requires : goal.new-node-requires
new-node-requires c =
    let s = here (goal.at.new-node-requires c).In-loop-k in
    record { tree = s.tree; holds = s.holds }

pub offset_bounds-f-k : goal.offset_bounds-f-k
offset_bounds-f-k c = omega (arith, few (goal.at.offset_bounds-f-k c).In-loop-k)

pub bounds-f-k : goal.bounds-f-k
bounds-f-k c = few (goal.at.bounds-f-k c).In-loop-k

pub loop-k-preserved-in-Leaf : goal.loop-k-preserved-in-Leaf
loop-k-preserved-in-Leaf c =
    let u = (goal.at.loop-k-preserved-in-Leaf c).In-loop-k in
    let own = at-each print c.new-node.result c.new-node.ensures (sym (ap print c.in-Leaf.ensures)) in
    (simp length-set u.loop-k.invariant.0, λ t h. marks-more print u.args.n.now u.loop-k.f (u.loop-k.k - 1) (nodes t) _ (omega (arith, few u, u.loop-k.invariant.0)) own (marked u t h))

pub offset_bounds-m-k : goal.offset_bounds-m-k
offset_bounds-m-k c = omega (arith, few (goal.at.offset_bounds-m-k c).In-loop-k)

pub bounds-m-k : goal.bounds-m-k
bounds-m-k c = few (goal.at.bounds-m-k c).In-loop-k

pub offset_bounds-f-first : goal.offset_bounds-f-first
offset_bounds-f-first c = omega (arith, inside (goal.at.offset_bounds-f-first c).In-Fork)

pub bounds-f-first : goal.bounds-f-first
bounds-f-first c = omega (arith, inside (goal.at.bounds-f-first c).In-Fork)

pub offset_bounds-f-second : goal.offset_bounds-f-second
offset_bounds-f-second c = omega (arith, inside (goal.at.offset_bounds-f-second c).In-Fork)

pub bounds-f-second : goal.bounds-f-second
bounds-f-second c = omega (arith, inside (goal.at.bounds-f-second c).In-Fork)

pub overflow_add-f : goal.overflow_add-f
overflow_add-f c =
    let u = (goal.at.overflow_add-f c).In-loop-k in
    let p = c.requires.0 in
    omega (arith, fork-print-fits (here u) c.new-node.result c.new-node.ensures c.in-Fork.ensures c.args.m.now u.loop-k.f (c.requires.1 p.tree p.holds) (marked u p.tree p.holds))

pub overflow_add-f-in-Fork : goal.overflow_add-f-in-Fork
overflow_add-f-in-Fork c =
    let u = (goal.at.overflow_add-f-in-Fork c).In-loop-k in
    let p = c.requires.0 in
    let spread-is = ap (λ (v : ℕ). v + (get_or u.loop-k.f c.in-Fork.first.at 0 + get_or u.loop-k.f c.in-Fork.second.at 0)) c.spread.ensures in
    omega (arith, spread-is, fork-print-fits (here u) c.new-node.result c.new-node.ensures c.in-Fork.ensures c.args.m.now u.loop-k.f (c.requires.1 p.tree p.holds) (marked u p.tree p.holds))

pub offset_bounds-f-k-in-Fork : goal.offset_bounds-f-k-in-Fork
offset_bounds-f-k-in-Fork c = omega (arith, few (goal.at.offset_bounds-f-k-in-Fork c).In-loop-k)

pub bounds-f-k-in-Fork : goal.bounds-f-k-in-Fork
bounds-f-k-in-Fork c = few (goal.at.bounds-f-k-in-Fork c).In-loop-k

pub loop-k-preserved : goal.loop-k-preserved
loop-k-preserved c =
    let u = (goal.at.loop-k-preserved c).In-loop-k in
    let p = c.requires.0 in
    let spread-is = ap (λ (v : ℕ). v + (get_or u.loop-k.f c.in-Fork.first.at 0 + get_or u.loop-k.f c.in-Fork.second.at 0)) c.spread.ensures in
    let print-is = fork-print (here u) c.new-node.result c.new-node.ensures c.in-Fork.ensures c.args.m.now u.loop-k.f (c.requires.1 p.tree p.holds) (marked u p.tree p.holds) in
    let own = at-each print c.new-node.result c.new-node.ensures (spread-is ∙ print-is) in
    (simp length-set u.loop-k.invariant.0, λ t h. marks-more print u.args.n.now u.loop-k.f (u.loop-k.k - 1) (nodes t) _ (omega (arith, few u, u.loop-k.invariant.0)) own (marked u t h))
