-- The trees of the entries that were passed are linked.
use Rattle.std.proofs.Common.{List}
use Rattle.meaning.specs.Tree.{Tree as Topology}
use Rattle.sharing.specs.Entries.{Linkable}
use Rattle.sharing.proofs.Entries.{Back}
use Rattle.sharing.proofs.link_back.Given as goal

abbrev pub invariant-loop-q : goal.invariant-loop-q
invariant-loop-q l = (ts : List Topology) → Linkable ts l.twins l.e → Back ts l.fn.links l.links l.e l.q

abbrev pub decreases-loop-q : goal.decreases-loop-q
decreases-loop-q l = l.q
