-- The sibling of the node hangs from its parent, and what is above that is turned round first.
use Rattle.std.proofs.Common.{◌≡◌, ◌∙◌, sym, ap, ℕ, length-set, arith}
use Rattle.meaning.specs.Tree.{Tree, leaves}
use Rattle.held.specs.Held.{nodes}
use Rattle.held.specs.Node.{subtree}
use Rattle.held.specs.Turning.{Turning}
use Rattle.lent.proofs.Runs.{wrote-length}
use Rattle.held.proofs.Laws.{some-nodes, within, length-pre, wrote-fork}
use Rattle.held.proofs.Turning.{turning-some, root-own, above-node, sibling-held, sibling-is, root-above, further, parent-held, parent-way}
use Rattle.held.proofs.turned.+write_above.Goals.{After-new-sibling}
use Rattle.held.proofs.turned.+write_above.Goals as goal

-- the second node is the sibling, whatever is above
sibling-of : {t : ℕ} (c : After-new-sibling t) {up : Tree} (way : Turning (subtree c.args.root) c.args.node.at (subtree c.args.node) up)
    → subtree c.new-sibling.result ≡ (above-node c.args.root c.args.node c.requires.start way).sibling
sibling-of c way =
    sibling-is c.args.root c.args.node c.requires.start way c.new-sibling.result c.width.ensures (c.new-sibling.ensures.0 ∙ c.requires.same) c.new-sibling.ensures.1

pub overflow_add-node : goal.overflow_add-node
overflow_add-node t c = omega (arith, within (sibling-held c.args.root c.args.node c.requires.start c.requires.way c.requires.same c.width.ensures).holds)

pub new-sibling-requires : goal.new-sibling-requires
new-sibling-requires t c = sibling-held c.args.root c.args.node c.requires.start c.requires.way c.requires.same c.width.ensures

pub copy_node-requires : goal.copy_node-requires
copy_node-requires t c =
    let p = c.requires in
    let e = root-above c.args.root c.args.node p.start p.way c.if-node-eq1.true ∙ sym (sibling-of (goal.at.copy_node-requires t c).After-new-sibling p.way) in
    omega (arith, p.room, ap nodes e)

pub returns-then-node-eq1 : goal.returns-then-node-eq1
returns-then-node-eq1 t c up way =
    rw (root-above c.args.root c.args.node c.requires.start way c.if-node-eq1.true ∙ sym (sibling-of (goal.at.returns-then-node-eq1 t c).After-new-sibling way)) c.copy_node.ensures

pub overflow_sub-out : goal.overflow_sub-out
overflow_sub-out t c = omega (arith, c.byte.ensures, c.leaves.ensures, root-own c.args.root c.args.node c.requires.start c.requires.way)

pub bounds-out-at : goal.bounds-out-at
bounds-out-at t c = omega (arith, c.requires.room, some-nodes c.requires.above)

pub new-parent-requires : goal.new-parent-requires
new-parent-requires t c = parent-held c.args.root c.args.node c.requires.start c.requires.way c.if-node-eq1.false c.requires.same

pub write_above-next-requires : goal.write_above-next-requires
write_above-next-requires t c =
    let p = c.requires in
    let f = further c.args.root c.args.node p.start p.way c.if-node-eq1.false in (
      omega (arith, c.new-parent.ensures.1, turning-some p.way),
      record {
        same = c.new-parent.ensures.0 ∙ p.same;
        start = p.start;
        above = f.tree;
        way = parent-way c.args.root c.args.node p.start p.way c.if-node-eq1.false c.new-parent.result (c.new-parent.ensures.0 ∙ p.same) c.new-parent.ensures.1;
        room = simp length-set (omega (arith, p.room, ap nodes f.is));
      },
    )

pub copy_node-requires-2 : goal.copy_node-requires-2
copy_node-requires-2 t c =
    let p = c.requires in
    let f = further c.args.root c.args.node p.start p.way c.if-node-eq1.false in
    let wrote =
    c.write_above-next.ensures f.tree (parent-way c.args.root c.args.node p.start p.way c.if-node-eq1.false c.new-parent.result (c.new-parent.ensures.0 ∙ p.same) c.new-parent.ensures.1) in
    let long = simp length-set at (wrote-length wrote) in
    omega (arith, p.room, ap nodes f.is, ap nodes (sibling-of (goal.at.copy_node-requires-2 t c).After-new-sibling p.way), long, wrote.behind, length-pre f.tree)

pub returns : goal.returns
returns t c up way =
    let p = c.requires in
    let f = further c.args.root c.args.node p.start way c.if-node-eq1.false in
    let wrote =
    c.write_above-next.ensures f.tree (parent-way c.args.root c.args.node p.start way c.if-node-eq1.false c.new-parent.result (c.new-parent.ensures.0 ∙ p.same) c.new-parent.ensures.1) in
    let own = root-own c.args.root c.args.node p.start way in
    rw f.is
    (wrote-fork f.tree (above-node c.args.root c.args.node p.start way).sibling (omega (arith, c.byte.ensures, c.leaves.ensures, own, ap leaves f.is))
    wrote (rw (← sibling-of (goal.at.returns t c).After-new-sibling way) c.copy_node-2.ensures))
