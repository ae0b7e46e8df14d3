-- The labels among the bytes of nodes.
-- Assumes nothing.
use Rattle.std.specs.Prelude.{Bool, cond, ◌&&◌, List, [], ◌∷◌, ℕ, leb}
use Rattle.meaning.specs.Limits.{max_label}

-- a node's byte is a label: a fork's is 0 while it is open, and above 64 once it is closed
abbrev pub is_label : ℕ → Bool
is_label b = leb 1 b && leb b max_label

-- the labels among the bytes of nodes
unfoldable pub labels_within : List ℕ → List ℕ
labels_within [] = []
labels_within (b ∷ bs) = cond (is_label b) (b ∷ labels_within bs) (labels_within bs)
