-- Whatever trees are laid out, those of the entries before e are linked.
use Rattle.std.proofs.Common.{◌≡◌, List, length}
use Rattle.meaning.specs.Tree.{Tree as Topology}
use Rattle.chains.specs.Chains.{entries}
use Rattle.sharing.specs.Links.{Square}
use Rattle.sharing.specs.Entries.{Laid}
use Rattle.sharing.proofs.Sharing.{Shared}
use Rattle.sharing.proofs.link_sharing.Given as goal

abbrev pub invariant-loop-e : goal.invariant-loop-e
invariant-loop-e l = record {
  square : Square l.links;
  long : length l.twins ≡ entries;
  shared : (ts : List Topology) → Laid l.table ts l.keys → Shared ts l.links l.twins l.e;
}
