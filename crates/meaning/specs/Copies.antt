-- Copies of a table's trees: the first position of each topology, and which positions are linked. In words: docs/RULES.md, 'Copies'.
-- Assumes nothing.
use Rattle.std.specs.Prelude.{◌≡◌, Bool, cond, List, [], ◌∷◌, map, ℕ, suc, ◌<◌, length, get_or}
use Rattle.meaning.specs.Lists.{positions}
use Rattle.meaning.specs.Tree.{Tree}
use Rattle.meaning.specs.Decide.{is_same_topology}
use Rattle.meaning.specs.Listing.{Pair, tree_of, At}
use Rattle.meaning.specs.Islands.{Joined, Island}

-- the place of the first member that passes the test; the length where none does
abbrev pub first_passing : {A : Type 0} → (A → Bool) → List A → ℕ
first_passing test [] = 0
first_passing test (x ∷ xs) = cond (test x) 0 (suc (first_passing test xs))

-- the first position of the topology of the tree at i
abbrev pub first_of : List Tree → ℕ → ℕ
first_of ts i = first_passing (is_same_topology (tree_of ts i)) ts

-- that of each position, in order
abbrev pub firsts_of : List Tree → List ℕ
firsts_of ts = map (first_of ts) (positions (length ts))

-- what becomes of copies: they are merged into the first of them, or kept apart
pub data Choice : Type 0 where
  merged : Choice
  kept_apart : Choice

-- positions are linked where R holds of the trees there; where copies are merged, both are first positions too
abbrev pub LinkedBy : Choice → (Tree → Tree → Type 0) → List Tree → ℕ → ℕ → Type 0
LinkedBy merged R ts i j = (first_of ts i ≡ i) × (first_of ts j ≡ j) × At R ts i j
LinkedBy kept_apart R ts i j = At R ts i j

-- ms are the numbers of the islands that the merged pairs ps make, in order of position; a copy has the island of its first
pub record MergedIslands (ts : List Tree) (ps : List Pair) (ms : List ℕ) : Type 0 where
  pub many : length ms ≡ length ts
  pub number : (i : ℕ) → i < length ts → Island (Joined ps) (first_of ts i) (get_or ms i 0)
