-- What numbering islands asks of the lent slices, and what it leaves in them.
-- Assumes nothing.
use Rattle.std.specs.Prelude.{◌≡◌, List, ℕ, ◌≤◌, length}
use Rattle.meaning.specs.Limits.{max_trees}
use Rattle.meaning.specs.Kind.{Trees}
use Rattle.meaning.specs.EitherKind.{ApartAs}
use Rattle.meaning.specs.Listing.{Pair, flat}
use Rattle.meaning.specs.Answer.{GraphMemory}
use Rattle.meaning.specs.Islands.{Within}
use Rattle.meaning.specs.Copies.{MergedIslands}
use Rattle.lent.specs.Runs.{Wrote}
use Rattle.held.specs.declared.Table.{Table}
use Rattle.links.specs.declared.Copies.TheVariants.{Merged}
use Rattle.graph.specs.Copies.{MovesRoom, FirstsGraph, OfOneKind}

-- there is room for the number of each position whose first is listed, and `pairs` are pairs of them
pub record IslandsRoom (numbers firsts pairs : List ℕ) : Type 0 where
  pub few : length numbers ≤ max_trees
  pub same : length firsts ≡ length numbers
  pub linked : List Pair
  pub listed : pairs ≡ flat linked
  pub within : Within (length numbers) linked

-- the merged graph of the trees ts was written, and the numbers of its islands
pub record IslandGraph (ts : Trees) (memory memory' : GraphMemory) (firsts firsts' islands islands' : List ℕ) (r : ℕ) : Type 0 where
  pub merged : FirstsGraph (ApartAs ts.kind) Merged ts.trees memory memory' firsts firsts' r
  pub numbers : List ℕ
  pub found : MergedIslands ts.trees merged.graph.linked numbers
  pub in-islands : Wrote numbers islands islands' 0 (length ts.trees)

-- there is room for both, of as many trees as a table can have
pub record IslandGraphRoom (table : Table) (memory : GraphMemory) (firsts islands : List ℕ) : Type 0 where
  pub graph : MovesRoom table memory firsts
  pub islands-room : max_trees ≤ length islands

-- both were written of the table's trees
abbrev pub IslandsWritten : Table → GraphMemory → GraphMemory → List ℕ → List ℕ → List ℕ → List ℕ → ℕ → Type 0
IslandsWritten table memory memory' firsts firsts' islands islands' r = OfOneKind table (λ ts. IslandGraph ts memory memory' firsts firsts' islands islands' r)
