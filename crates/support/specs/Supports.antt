-- The clades of a table's trees listed, with the number of trees that have each: what it asks, and what it leaves.
-- Assumes nothing.
use Rattle.std.specs.Prelude.{List, ℕ, ◌≤◌, length}
use Rattle.meaning.specs.Tree.{Tree as Topology}
use Rattle.lent.specs.Runs.{Wrote}
use Rattle.held.specs.Kept.{KeepsAll, KeptAll}
use Rattle.held.specs.declared.Table.{Table}
use Rattle.families.specs.Support.{supported, support}

-- the table keeps some trees, and there is room for their clades and the numbers
pub record SupportRoom (table : Table) (out outs : List ℕ) : Type 0 where
  pub kept : KeptAll table
  pub room : (ts : List Topology) → KeepsAll table ts → length (supported ts) ≤ length out
  pub rooms : (ts : List Topology) → KeepsAll table ts → length (supported ts) ≤ length outs

-- the clades of ts were listed, and beside each the number of trees; there are r
pub record SupportListed (ts : List Topology) (out out' outs outs' : List ℕ) (r : ℕ) : Type 0 where
  pub each : Wrote (supported ts) out out' 0 r
  pub often : Wrote (support ts) outs outs' 0 r
