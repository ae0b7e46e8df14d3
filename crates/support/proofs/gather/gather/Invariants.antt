use Rattle.std.proofs.Common.{List, map, ℕ, ◌≤◌}
use Rattle.meaning.specs.Tree.{Tree as Topology, canon}
use Rattle.held.specs.Kept.{KeepsAll}
use Rattle.held.specs.declared.Table.{Table}
use Rattle.support.proofs.Pooled.{Gathering}
use Rattle.support.proofs.gather.gather.Given as goal

-- the clades of the first i trees are gathered, whatever trees the table keeps
pub record GatheredTo (table : Table) (xs xs' : List ℕ) (next i : ℕ) : Type 0 where
  pub few : i ≤ table.len
  pub so : (ts : List Topology) → KeepsAll table ts → Gathering (map canon ts) xs xs' next i

abbrev pub invariant-loop-tree : goal.invariant-loop-tree
invariant-loop-tree l = GatheredTo l.fn.table l.initial.xs l.xs l.next l.tree-index
