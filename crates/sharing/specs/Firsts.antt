-- First positions, noted.
-- Assumes nothing.
use Rattle.std.specs.Prelude.{◌≡◌, List, ℕ, ◌<◌, length, get_or}
use Rattle.meaning.specs.Copies.{first_of}
use Rattle.held.specs.declared.Table.{Table}
use Rattle.sharing.specs.Links.{OfTrees}

-- `firsts` begins with the first position of each tree's topology
abbrev pub FirstsNoted : Table → List ℕ → Type 0
FirstsNoted table firsts = OfTrees table (λ ts. (i : ℕ) → i < length ts → get_or firsts i 0 ≡ first_of ts i)
