-- `forks::note_clades` meets its contract. The loop's invariant: the clades of the first k nodes are noted.
-- Assumes nothing.
use Prim.Native.Nat.{◌-◌}
use Rattle.meaning.specs.Tree.{Tree as Topology}
use Rattle.held.specs.Held.{Holds}
use Rattle.forks.proofs.Noting.{Noting}
use Rattle.forks.proofs.note_clades.Given as goal

abbrev pub invariant-loop-k : goal.invariant-loop-k
invariant-loop-k l = (t : Topology) → Holds l.n 0 t → Noting t l.initial.xs l.xs l.at l.next l.k

abbrev pub decreases-loop-k : goal.decreases-loop-k
decreases-loop-k l = l.nodes - l.k
