-- A slot as a tree's record.
-- Assumes nothing.
use Rattle.std.specs.Prelude.{List, ℕ}
use Rattle.held.specs.declared.Kind.TheVariants.{Rooted}
use Rattle.held.specs.declared.Tree.{Tree}
use Rattle.holdings.specs.Memory.{slot_in}

-- the record of slot x as it stands in memory
abbrev pub tree_in : List ℕ → ℕ → Tree
tree_in memory x = record { node = slot_in memory x; kind = Rooted }
