-- No entry with the forest was passed.
use Rattle.std.proofs.Common.{ℕ, List}
use Rattle.meaning.specs.Tree.{Tree as Topology}
use Rattle.sharing.specs.Entries.{Seeks}
use Rattle.sharing.proofs.Entries.{Seek}
use Rattle.sharing.proofs.find_twin.Given as goal

abbrev pub invariant-loop-q : goal.invariant-loop-q
invariant-loop-q l = (ts : List Topology) (keys : List ℕ) (end : ℕ) (S : Seeks ts l.table keys l.same end l.e) → Seek S l.q

abbrev pub decreases-loop-q : goal.decreases-loop-q
decreases-loop-q l = l.q
