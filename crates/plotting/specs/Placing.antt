-- What the walk that places a held tree's nodes asks and leaves.
-- Assumes nothing.
use Rattle.std.specs.Prelude.{◌≡◌, List, ℕ, ◌+◌, ◌*◌, ◌^◌, ◌≤◌, Float}
use Rattle.std.proofs.lemmas.List.Edits.{sets}
use Rattle.meaning.specs.Limits.{max_label}
use Rattle.meaning.specs.Tree.{Tree, leaves}
use Rattle.held.specs.Held.{nodes}
use Rattle.plots.specs.Plot.{whole, row, exact, nodes_in_order, height, Off}

-- the rows of a subtree's nodes, with c forks above it and i leaves before it
abbrev pub rows_from : ℕ → ℕ → Tree → List Float
rows_from c i t = nodes_in_order (λ c i s. row i s) c i t

-- and the columns
abbrev pub columns_from : ℕ → ℕ → Tree → List ℕ
columns_from c i t = nodes_in_order (λ c i s. c) c i t

-- the tree at the node k, with c forks above it and i leaves before it, has room for its rows and columns
pub record Space (tree : Tree) (k c i rows-len columns-len : ℕ) : Type 0 where
  pub rows_room : k + nodes tree ≤ rows-len
  pub columns_room : k + nodes tree ≤ columns-len
  pub above : c + leaves tree ≤ max_label
  pub before : i + leaves tree ≤ max_label

-- the rows and columns of t's nodes were written from k on, and this is t's own place; its row is at most 2 ^ -48 off for each level
pub record Placed (t : Tree) (k c i : ℕ) (rs rs' : List Float) (cs cs' : List ℕ) (own-column own_row : Float) : Type 0 where
  pub column-is : own-column ≡ whole c
  pub row_is : own_row ≡ row i t
  pub off : Off (height t * 2 ^ 15) own_row (exact i t)
  pub rows_are : rs' ≡ sets rs k (rows_from c i t)
  pub columns_are : cs' ≡ sets cs k (columns_from c i t)
