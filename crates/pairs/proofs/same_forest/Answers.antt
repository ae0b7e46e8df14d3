-- `pairs::same_forest` meets its contract.
-- Assumes nothing.
use Rattle.lent.proofs.Says.{deny}
use Rattle.held.specs.Held.{cut_in}
use Rattle.pairs.specs.Pair.{SameForest}
use Rattle.pairs.proofs.Search.{has-cut, other-pruned, says-forest}
use Rattle.pairs.proofs.same_forest.Goals as goal

pub same_pruned-requires : goal.same_pruned-requires
same_pruned-requires c = let p = c.requires in (has-cut p.0, has-cut p.1)

pub returns-else-same_pruned : goal.returns-else-same_pruned
returns-else-same_pruned c t u g h =
    let other = other-pruned c.args.c c.args.d c.same_pruned.result c.same_pruned.ensures c.if-same_pruned.false t u g h in
    deny (SameForest (cut_in t c.args.c) (cut_in u c.args.d)) c.if-same_pruned.false other

pub returns-then-same_pruned : goal.returns-then-same_pruned
returns-then-same_pruned c =
    says-forest c.args.c c.args.d c.same_pruned.result c.same_pruned.ensures c.if-same_pruned.true c.same_remainder.result c.same_remainder.ensures
