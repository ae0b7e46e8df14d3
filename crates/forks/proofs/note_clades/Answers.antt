-- `forks::note_clades` meets its contract. The loop's invariant: the clades of the first k nodes are noted.
-- Assumes nothing.
use mathlib.Core.Path.{◌≡◌, refl}
use Prim.Native.Nat.{ℕ, ◌<◌}
use native.Mathlib.Omega.{arith}
use borrow.Author.Rules.{rules}
use lib.ListN.{length, get_or, length-replicate}
use Rattle.meaning.specs.Limits.{max_nodes}
use Rattle.meaning.specs.Tree.{Tree as Topology, canon}
use Rattle.meaning.specs.Clade.{clade}
use Rattle.meaning.proofs.Canon.{canon-good}
use Rattle.lent.proofs.Runs.{wrote-length}
use Rattle.held.specs.Held.{nodes, Holds}
use Rattle.held.proofs.Laws.{unique, few-nodes}
use Rattle.held.proofs.Kept.{keeps-holds, kept-held}
use Rattle.held.proofs.Subtree.{at-each}
use Rattle.clades.proofs.Laws.{Sub, node_in}
use Rattle.forks.proofs.Noting.{noting-none, noting-room, noting-all, noting-leaf, noting-fork}
use Rattle.forks.proofs.note_clades.Goals.{In-loop-k, Then-fork, then-fork, else-fork}
use Rattle.forks.proofs.note_clades.Goals as goal

-- a turn of the loop
abbrev Turn : Type 0
Turn = In-loop-k

-- the tree, and the subtree at its node k
abbrev tree : Turn → Topology
tree u = canon u.requires.kept.topology

holds : (u : Turn) → Holds u.args.tree.node 0 (tree u)
holds u = keeps-holds u.requires.kept.keeps

inside : (u : Turn) → u.loop-k.k < nodes (tree u)
inside u = omega (arith, u.loop-k-test.true, at-each nodes u.new.result u.new.ensures u.width-nodes.ensures (tree u) (holds u))

here : (u : Turn) → Sub u.args.tree.node u.loop-k.k (nodes (tree u))
here u = node_in (tree u) (holds u) (canon-good u.requires.kept.keeps.good) u.loop-k.k (inside u)

few : (u : Turn) → u.loop-k.k < 127
few u = omega (arith, inside u, few-nodes (canon-good u.requires.kept.keeps.good))

-- where that is a fork there is room for its clade, which is noted beside it
noted : (u : Turn) → get_or u.note.new.m u.loop-k.k 0 ≡ clade (here u).tree
noted u = u.note.ensures (tree u) (holds u) u.loop-k.k (omega arith) (inside u) (here u).tree (here u).holds

long : (u : Turn) → length u.loop-k.xs ≡ length u.args.xs.now
long u = wrote-length (u.loop-k.invariant (tree u) (holds u)).wrote

room : (c : Then-fork) → c.loop-k.next < length c.args.xs.now
room c =
    let u = (goal.at.Then-fork c).In-loop-k in
    let more = noting-fork (u.loop-k.invariant (tree u) (holds u)) (holds u) (inside u) (here u).holds c.if-fork.true (clade (here u).tree) refl in
    omega (arith, noting-room more (canon-good u.requires.kept.keeps.good), u.requires.room)

pub note-requires : goal.note-requires
note-requires c =
    let p = c.requires.kept in
    record { tree = canon p.topology; holds = keeps-holds p.keeps; good = canon-good p.keeps.good; room = omega (arith, length-replicate {A = ℕ} max_nodes 0) }

pub new-requires : goal.new-requires
new-requires c = kept-held c.requires.kept

pub loop-k-init : goal.loop-k-init
loop-k-init c t h = noting-none t c.args.xs.now c.args.at

pub bounds-n-k : goal.bounds-n-k
bounds-n-k c =
    let p = c.requires.kept in
    omega (arith, c.loop-k-test.true, at-each nodes c.new.result c.new.ensures c.width-nodes.ensures (canon p.topology) (keeps-holds p.keeps), few-nodes (canon-good p.keeps.good))

pub offset_bounds-m-k : goal.offset_bounds-m-k
offset_bounds-m-k c = omega (arith, few (goal.at.offset_bounds-m-k c).In-loop-k)

pub bounds-m-k : goal.bounds-m-k
bounds-m-k c = few (goal.at.bounds-m-k c).In-loop-k

pub offset_bounds-xs-next : goal.offset_bounds-xs-next
offset_bounds-xs-next c = let h = room c in search (rules, h)

pub bounds-xs-next : goal.bounds-xs-next
bounds-xs-next c = omega (arith, room c, long (goal.at.bounds-xs-next c).In-loop-k)

pub overflow_add-next : goal.overflow_add-next
overflow_add-next c = let h = room c in search (rules, h)

pub overflow_step-k : goal.overflow_step-k
overflow_step-k c = omega (arith, few (goal.at.overflow_step-k c).In-loop-k)

pub loop-k-preserved : goal.loop-k-preserved
loop-k-preserved c t h =
    let u = (goal.at.loop-k-preserved c).In-loop-k in
    let P = u.loop-k.invariant t h in
    let same : tree u ≡ t = unique (holds u) h in
    let lt : u.loop-k.k < nodes t = rw (← same) (inside u) in
    elim c.if-fork.branch [
      | then-fork w ↦ rw (w.xs-is, w.next-is) (noting-fork P h lt (here u).holds w.if-fork.true _ (noted u))
      | else-fork w ↦ rw (w.xs-is, w.next-is) (noting-leaf P h lt (here u).holds w.if-fork.false)
    ]

pub shape_of-xs : goal.shape_of-xs
shape_of-xs c =
    let p = c.requires.kept in
    wrote-length (c.loop-k.invariant (canon p.topology) (keeps-holds p.keeps)).wrote

pub returns : goal.returns
returns c t k =
    let h = keeps-holds k in
    noting-all (c.loop-k.invariant (canon t) h) (omega (arith, at-each nodes c.new.result c.new.ensures c.width-nodes.ensures (canon t) h, c.loop-k-test.false))
