-- What stands at k in both trees is what the walk comes to.
use Rattle.std.proofs.Common.{◌-◌, length}
use Rattle.meaning.specs.Tree.{Tree}
use Rattle.held.specs.Held.{Holds}
use Rattle.pairs.proofs.Walk.{Walked}
use Rattle.pairs.proofs.parting.Given as goal

abbrev pub invariant-loop-k : goal.invariant-loop-k
invariant-loop-k l = (t u : Tree) → Holds l.x 0 t → Holds l.y 0 u → Walked l.x l.y l.same l.k t u

abbrev pub decreases-loop-k : goal.decreases-loop-k
decreases-loop-k l = length l.x - l.k
