-- Turned round, the two have the same leaf at the root where that is so in memory, and what hangs beside it is compared.
use Rattle.std.proofs.Common.{arith}
use borrow.Author.Tests.{ne_eqb}
use Rattle.meaning.specs.Unrooted.{SameSplits}
use Rattle.lent.proofs.Says.{deny}
use Rattle.held.specs.Node.{subtree}
use Rattle.unrooted.proofs.Round.{leaf-fits, other-leaf, splits-says}
use Rattle.unrooted.proofs.same_splits.Goals as goal

pub overflow_add-p : goal.overflow_add-p
overflow_add-p c = omega (arith, leaf-fits c.last_fork-p.ensures.rest)

pub bounds-x-p : goal.bounds-x-p
bounds-x-p c = leaf-fits c.last_fork-p.ensures.rest

pub overflow_add-q : goal.overflow_add-q
overflow_add-q c = omega (arith, leaf-fits c.last_fork-q.ensures.rest)

pub bounds-y-q : goal.bounds-y-q
bounds-y-q c = leaf-fits c.last_fork-q.ensures.rest

pub same_turned-requires : goal.same_turned-requires
same_turned-requires c = (c.last_fork-p.ensures.rest, c.last_fork-q.ensures.rest)

pub returns-else-x-p : goal.returns-else-x-p
returns-else-x-p c =
    deny (SameSplits (subtree c.args.x) (subtree c.args.y)) (ne_eqb _ _ c.if-x-p.false)
    (other-leaf c.requires.0 c.requires.1 c.last_fork-p.ensures c.last_fork-q.ensures c.if-x-p.false)

pub returns-then-x-p : goal.returns-then-x-p
returns-then-x-p c =
    let p = c.last_fork-p.ensures in
    let q = c.last_fork-q.ensures in
    splits-says c.requires.0 c.requires.1 p q c.if-x-p.true c.same_turned.result (c.same_turned.ensures p.rest q.rest)
