-- The first two nodes of an unrooted tree's top.
use Rattle.std.proofs.Common.{length-set, arith}
use Rattle.tokens.proofs.Draft.{draft-open}
use Rattle.tokens.proofs.Steps.{err-exit, then-refused}
use Rattle.reading.proofs.Three.{three-is, three-first, half_in, second-draft, three-second, halves, has-halves, three-rest}
use Rattle.reading.proofs.tops.read_three.Goals as goal

pub read_node-requires : goal.read_node-requires
read_node-requires c = draft-open c.requires

pub returns-in_err-first : goal.returns-in_err-first
returns-in_err-first c =
    err-exit _ _ _ c.from_residual.ensures.1 (rw (three-is c.args.s.now c.args.from c.requires) (then-refused _ c.in_err-first.ensures))

pub returns-in_err-comma : goal.returns-in_err-comma
returns-in_err-comma c =
    err-exit _ _ _ c.from_residual-in_err-comma.ensures.1 (rw (three-first c.args.s.now c.args.from c.requires c.in_ok-first.ensures) (then-refused _ c.in_err-comma.ensures))

pub bounds-node-half : goal.bounds-node-half
bounds-node-half c = half_in c.args.s.now c.args.from c.requires c.in_ok-first.ensures

pub overflow_add-half : goal.overflow_add-half
overflow_add-half c = omega (arith, half_in c.args.s.now c.args.from c.requires c.in_ok-first.ensures, c.read_node.auto.node, length-set c.args.node.now 0 0, c.requires.size)

pub read_node-requires-2 : goal.read_node-requires-2
read_node-requires-2 c = second-draft c.args.s.now c.args.from c.requires c.in_ok-first.ensures

pub returns-in_err-second : goal.returns-in_err-second
returns-in_err-second c =
    err-exit _ _ _ c.from_residual-in_err-second.ensures.1
    (rw (three-second c.args.s.now c.args.from c.requires c.in_ok-first.ensures c.in_ok-comma.ensures) (then-refused _ c.in_err-second.ensures))

pub read_third-requires : goal.read_third-requires
read_third-requires c = has-halves c.args.s.now c.args.from c.requires c.in_ok-first.ensures c.in_ok-comma.ensures c.in_ok-second.ensures

pub returns : goal.returns
returns c =
    rw (three-rest c.args.s.now c.args.from c.requires c.in_ok-first.ensures c.in_ok-comma.ensures c.in_ok-second.ensures)
    (c.read_third.ensures _ _ (halves c.args.s.now c.args.from c.requires c.in_ok-first.ensures c.in_ok-comma.ensures c.in_ok-second.ensures))
