-- The cut is a child of the fork, or below one of them.
use Rattle.std.proofs.Common.{◌∙◌, sym, ap, length-set, arith}
use Rattle.meaning.specs.Tree.{leaves}
use Rattle.held.specs.Held.{byte}
use Rattle.held.specs.Node.{subtree, cut_below}
use Rattle.lent.proofs.Runs.{wrote-length}
use Rattle.held.proofs.Laws.{length-pre}
use Rattle.held.proofs.Cut.{rest-at-second, inside-first, rest-first-room, left-in-first, inside-second, left-in-second, below-is, below-fewer}
use Rattle.held.proofs.Subtree.{children-nodes, first-fewer, second-fewer}
use Rattle.held.proofs.+cut_node.Goals as goal

pub returns-then-cut-second : goal.returns-then-cut-second
returns-then-cut-second t c =
    let k = c.in-Fork.ensures in
    let b = c.requires.0 in
    rw (rest-at-second k.is k.first_at k.second_at b.behind b.inside c.if-cut-second.true) c.copy_node-then-cut-second.ensures

pub overflow_sub-out : goal.overflow_sub-out
overflow_sub-out t c = omega (arith, c.leaves-gone.ensures, c.byte.ensures, below-fewer c.requires.0, ap byte c.in-Fork.ensures.is, ap leaves c.in-Fork.ensures.is)

pub cut_node-next-requires : goal.cut_node-next-requires
cut_node-next-requires t c =
    let k = c.in-Fork.ensures in
    let b = c.requires.0 in
    let here = inside-first k.is k.first_at k.second_at b.behind b.inside c.if-cut-first.false c.if-cut-second-2.true in
    (omega (arith, first-fewer k), (record { same = b.same ∙ sym k.first_in; behind = here.0; inside = here.1 }, simp length-set (omega (arith, children-nodes k))))

pub copy_node-requires-then-cut-second-2 : goal.copy_node-requires-then-cut-second-2
copy_node-requires-then-cut-second-2 t c =
    let k = c.in-Fork.ensures in
    let b = c.requires.0 in
    let room = rest-first-room k.is k.first_at k.second_at b.behind b.inside c.if-cut-first.false c.if-cut-second-2.true in
    let long = simp length-set at (wrote-length c.cut_node-next.ensures) in
    omega (arith, children-nodes k, long, room, c.cut_node-next.ensures.behind, length-pre (cut_below c.in-Fork.first c.args.cut.now).rest)

pub cut_node-requires : goal.cut_node-requires
cut_node-requires t c =
    let k = c.in-Fork.ensures in
    let b = c.requires.0 in
    let here = inside-second k.is k.first_at k.second_at b.behind b.inside c.if-cut-second.false c.if-cut-second-2.false in
    let long = simp length-set at (wrote-length c.copy_node-next.ensures) in (
      omega (arith, second-fewer k),
      (
        record { same = b.same ∙ sym k.second_in; behind = here.0; inside = here.1 },
        omega (arith, children-nodes k, long, c.copy_node-next.ensures.behind, length-pre (subtree c.in-Fork.first)),
      ),
    )

pub returns-then-cut-second-2 : goal.returns-then-cut-second-2
returns-then-cut-second-2 t c =
    let k = c.in-Fork.ensures in
    let b = c.requires.0 in
    left-in-first k.is k.first_at k.second_at b.behind b.inside c.if-cut-first.false c.if-cut-second-2.true
    (omega (arith, c.byte.ensures)) (c.leaves-gone.ensures ∙ ap leaves (below-is b)) c.cut_node-next.ensures c.copy_node-then-cut-second-2.ensures

pub returns-else-cut-second-2 : goal.returns-else-cut-second-2
returns-else-cut-second-2 t c =
    let k = c.in-Fork.ensures in
    let b = c.requires.0 in
    left-in-second k.is k.first_at k.second_at b.behind b.inside c.if-cut-second.false c.if-cut-second-2.false
    (omega (arith, c.byte.ensures)) (c.leaves-gone.ensures ∙ ap leaves (below-is b)) c.copy_node-next.ensures c.cut_node.ensures
