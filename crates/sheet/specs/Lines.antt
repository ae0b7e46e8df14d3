-- What the writers of the sheet ask of the trees and pairs that are held, and of the room for their lines.
-- Assumes nothing.
use Rattle.std.specs.Prelude.{◌≡◌, List, map, ℕ, ◌+◌, ◌≤◌, length}
use Rattle.meaning.specs.Limits.{sheet_bytes}
use Rattle.meaning.specs.Lists.{positions}
use Rattle.meaning.specs.Tree.{Tree as Topology}
use Rattle.meaning.specs.Kind.{Trees}
use Rattle.meaning.specs.EitherKind.{ApartAs}
use Rattle.meaning.specs.Listing.{Pair, Listing, At, flat, counts, unlinked}
use Rattle.meaning.specs.Sheet.{tree_lines, pair_lines}
use Rattle.meaning.specs.Copies.{firsts_of}
use Rattle.lent.specs.Runs.{Stands}
use Rattle.held.specs.Kept.{KeepsTrees}
use Rattle.held.specs.declared.Table.{Table}
use Rattle.graph.specs.Listed.{PairsListed}

-- the table keeps the trees ts, `numbers` begins with their neighbour counts among the listed pairs ps, and `firsts` with the first position of each topology
pub record TreesListed (table : Table) (numbers firsts : List ℕ) (ts : Trees) (ps : List Pair) : Type 0 where
  pub keeps : KeepsTrees table ts
  pub listing : Listing (length ts.trees) (At (ApartAs ts.kind) ts.trees) ps
  pub counted : Stands numbers 0 (counts (length ts.trees) ps)
  pub noted : Stands firsts 0 (firsts_of ts.trees)

-- there is room for a number of each tree
pub record UnlinkedRoom (table : Table) (numbers firsts : List ℕ) (len : ℕ) : Type 0 where
  pub trees : Trees
  pub linked : List Pair
  pub listed : TreesListed table numbers firsts trees linked
  pub room : length trees.trees ≤ len

-- the unlinked numbers of the positions, in order
abbrev pub unlinked_numbers : List Topology → List Pair → List ℕ
unlinked_numbers ts ps = map (unlinked ts ps) (positions (length ts))

-- there is room for their lines
pub record TreeLinesFit (table : Table) (numbers firsts : List ℕ) (at len : ℕ) : Type 0 where
  pub trees : Trees
  pub linked : List Pair
  pub listed : TreesListed table numbers firsts trees linked
  pub room : at + length (tree_lines trees linked 0 trees.trees) ≤ len

-- the numbers are pairs, and there is room for their lines
pub record PairLinesFit (numbers : List ℕ) (at len : ℕ) : Type 0 where
  pub linked : List Pair
  pub listed : numbers ≡ flat linked
  pub room : at + length (pair_lines linked) ≤ len

-- the trees of a table, their pairs and neighbour counts, and room for the longest sheet
pub record SheetFits (table : Table) (pairs numbers firsts : List ℕ) (m len : ℕ) : Type 0 where
  pub trees : Trees
  pub linked : List Pair
  pub trees-listed : TreesListed table numbers firsts trees linked
  pub pairs-listed : PairsListed pairs m linked
  pub room : sheet_bytes ≤ len
