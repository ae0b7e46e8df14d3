-- Which positions are linked, as flags.
-- Assumes nothing.
use Rattle.std.specs.Prelude.{◌≡◌, ◌↔◌, Bool, true, false, List, [], ℕ, ◌<◌, length, get_or}
use Rattle.meaning.specs.Limits.{max_trees}
use Rattle.meaning.specs.Tree.{Tree as Topology}
use Rattle.held.specs.Kept.{KeepsAll}
use Rattle.held.specs.declared.Table.{Table}

-- a row for each position of a table, and in it a flag for each
pub record Square (links : List (List Bool)) : Type 0 where
  pub rows : length links ≡ max_trees
  pub columns : (i : ℕ) → i < max_trees → length (get_or links i []) ≡ max_trees

-- the flag of row i and column j
abbrev pub is_linked : List (List Bool) → ℕ → ℕ → Bool
is_linked links i j = get_or (get_or links i []) j false

-- it is set
abbrev pub LinkedIn : List (List Bool) → ℕ → ℕ → Type 0
LinkedIn links i j = is_linked links i j ≡ true

-- no flag is
abbrev pub NoneLinked : List (List Bool) → Type 0
NoneLinked links = (i j : ℕ) → is_linked links i j ≡ false

-- among k positions the flags show which are linked by L
abbrev pub Shows : List (List Bool) → ℕ → (ℕ → ℕ → Type 0) → Type 0
Shows links k L = (i j : ℕ) → i < j → j < k → LinkedIn links i j ↔ L i j

-- P is so of whatever trees the table keeps
abbrev pub OfTrees : Table → (List Topology → Type 0) → Type 0
OfTrees table P = (ts : List Topology) → KeepsAll table ts → P ts
