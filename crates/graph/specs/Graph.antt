-- Listing and counting linked positions: what it asks of the lent slices, and what it leaves in them.
-- Assumes nothing.
use Rattle.std.specs.Prelude.{◌≡◌, List, [], ◌∷◌, ℕ, ◌+◌, ◌*◌, ◌≤◌, ◌<◌, length, get_or, set}
use Rattle.meaning.specs.Limits.{max_trees, pair_numbers}
use Rattle.meaning.specs.Lists.{more}
use Rattle.meaning.specs.Listing.{Pair, Listing, counts, flat}
use Rattle.meaning.specs.Answer.{GraphMemory}
use Rattle.lent.specs.Runs.{Wrote}

-- the lent slices: for the pairs, and for the neighbour counts
abbrev pub slices : List ℕ → List ℕ → GraphMemory
slices pairs numbers = record { pairs = pairs; counts = numbers }

-- each pair counted at both its positions
abbrev pub tally : List ℕ → List Pair → List ℕ
tally numbers [] = numbers
tally numbers (p ∷ ps) = tally (more (more numbers p.0) p.1) ps

-- there is room for the pair of i and j as number m, and the counts can grow by one at i, and then at j
pub record PairRoom (memory : GraphMemory) (m i j : ℕ) : Type 0 where
  pub room : 2 * m + 1 < length memory.pairs
  pub ordered : i < j
  pub inside : j < length memory.counts
  pub small : j < 65536
  pub grows : get_or memory.counts i 0 < 65535
  pub grows' : get_or (more memory.counts i) j 0 < 65535

-- the pair was listed, the counts have grown, and r is the next number
pub record PairAdded (memory memory' : GraphMemory) (m i j r : ℕ) : Type 0 where
  pub next : r ≡ m + 1
  pub listed : memory'.pairs ≡ set (set memory.pairs (2 * m) i) (2 * m + 1) j
  pub counted : memory'.counts ≡ more (more memory.counts i) j

-- the pairs ps were listed as number m and on, and counted, and r is the next number
pub record Listed (ps : List Pair) (memory memory' : GraphMemory) (m r : ℕ) : Type 0 where
  pub next : r ≡ m + length ps
  pub listed : Wrote (flat ps) memory.pairs memory'.pairs (2 * m) (2 * r)
  pub counted : memory'.counts ≡ tally memory.counts ps

-- there is room for pairs ps of k positions as number m and on, and all counts can grow by as much as they may
pub record PairsRoom (k : ℕ) (ps : List Pair) (memory : GraphMemory) (m : ℕ) : Type 0 where
  pub few : k ≤ max_trees
  pub pairs_room : 2 * (m + length ps) ≤ length memory.pairs
  pub counts_room : k ≤ length memory.counts
  pub grow : (x : ℕ) → x < k → get_or memory.counts x 0 + 2 * length ps < 65536

-- there is room for the pairs and the counts of as many positions as a table can have
pub record ListRoom (memory : GraphMemory) : Type 0 where
  pub pairs_room : pair_numbers ≤ length memory.pairs
  pub counts_room : max_trees ≤ length memory.counts

-- r pairs of k positions are linked by L, and they and the neighbour counts were written
pub record Graph (k : ℕ) (L : ℕ → ℕ → Type 0) (memory memory' : GraphMemory) (r : ℕ) : Type 0 where
  pub linked : List Pair
  pub listing : Listing k L linked
  pub many : r ≡ length linked
  pub in_pairs : Wrote (flat linked) memory.pairs memory'.pairs 0 (2 * length linked)
  pub in_counts : Wrote (counts k linked) memory.counts memory'.counts 0 k
