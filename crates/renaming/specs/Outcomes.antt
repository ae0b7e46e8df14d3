-- What two outcomes of a call that lists pairs have in common when the trees of a table are put in another order, read off the answers and the lent cells.
-- Assumes nothing.
use Rattle.std.specs.Prelude.{◌≡◌, ◌↔◌, ◌⊎◌, List, ℕ, ◌+◌, ◌*◌, ◌<◌, length, get_or}
use Rattle.meaning.specs.Tree.{Tree}
use Rattle.meaning.specs.Kind.{Trees}
use Rattle.meaning.specs.Listing.{Pair, neighbours, unlinked}
use Rattle.meaning.specs.Islands.{Joined, size}
use Rattle.meaning.specs.Copies.{first_of}
use Rattle.meaning.specs.Sheet.{sheet}
use Rattle.meaning.specs.Answer.{Answer, accepted, GraphSize, GraphMemory}
use Rattle.renaming.specs.Reordering.{came}

-- i, then j, is one of the first n pairs of numbers in the slice
pub record WrittenPair (slice : List ℕ) (n i j : ℕ) : Type 0 where
  pub place : ℕ
  pub inside : place < n
  pub first : get_or slice (2 * place) 0 ≡ i
  pub second : get_or slice (2 * place + 1) 0 ≡ j

-- the call has listed i and j, in either order
abbrev pub ListedPair : GraphSize → GraphMemory → ℕ → ℕ → Type 0
ListedPair size graph i j = WrittenPair graph.pairs size.pairs i j ⊎ WrittenPair graph.pairs size.pairs j i

-- the neighbour count that the call has written for position i
abbrev pub count_at : GraphMemory → ℕ → ℕ
count_at graph i = get_or graph.counts i 0

-- both calls accept, with one number of trees and of pairs; i and j are a listed pair after it exactly when the positions they came from were before, and the counts go with them
pub record SamePairs (order : List ℕ) (answer answer' : Answer GraphSize) (graph graph' : GraphMemory) : Type 0 where
  pub size : GraphSize
  pub before : answer ≡ accepted size
  pub after : answer' ≡ accepted size
  pub pairs : (i j : ℕ) → i < size.trees → j < size.trees → ListedPair size graph' i j ↔ ListedPair size graph (came order i) (came order j)
  pub counts : (i : ℕ) → i < size.trees → count_at graph' i ≡ count_at graph (came order i)

-- two sheets of one sample: as many pairs, the same ones, and in each tree's line the numbers of the tree that it came from
pub record SameSheet (order : List ℕ) (table table' : Trees) (x x' : List ℕ) : Type 0 where
  pub pairs : List Pair
  pub pairs' : List Pair
  pub before : x ≡ sheet table pairs
  pub after : x' ≡ sheet table' pairs'
  pub as_many : length pairs' ≡ length pairs
  pub listed : (i j : ℕ) → i < length table.trees → j < length table.trees → Joined pairs' i j ↔ Joined pairs (came order i) (came order j)
  pub counts : (i : ℕ) → i < length table.trees → neighbours pairs' i ≡ neighbours pairs (came order i)
  pub numbers_unlinked : (i : ℕ) → i < length table.trees → unlinked table'.trees pairs' i ≡ unlinked table.trees pairs (came order i)

-- the merged pairs ps and ps' of one sample: as many; copies are copies, the topologies of two trees are a listed pair after it exactly when they were before, and their counts go with them
pub record SameTopologies (order : List ℕ) (ts us : List Tree) (ps ps' : List Pair) : Type 0 where
  pub as_many : length ps' ≡ length ps
  pub copies : (i j : ℕ) → i < length ts → j < length ts → (first_of us i ≡ first_of us j) ↔ (first_of ts (came order i) ≡ first_of ts (came order j))
  pub pairs : (i j : ℕ) → i < length ts → j < length ts → Joined ps' (first_of us i) (first_of us j) ↔ Joined ps (first_of ts (came order i)) (first_of ts (came order j))
  pub counts : (i : ℕ) → i < length ts → neighbours ps' (first_of us i) ≡ neighbours ps (first_of ts (came order i))

-- the islands' numbers ms and ms' of one sample of k trees: two are on one island after it exactly when they were before, and it has as many trees
pub record SameIslands (order : List ℕ) (k : ℕ) (ms ms' : List ℕ) : Type 0 where
  pub together : (i j : ℕ) → i < k → j < k → (get_or ms' i 0 ≡ get_or ms' j 0) ↔ (get_or ms (came order i) 0 ≡ get_or ms (came order j) 0)
  pub sizes : (i : ℕ) → i < k → size ms' (get_or ms' i 0) ≡ size ms (get_or ms (came order i) 0)
