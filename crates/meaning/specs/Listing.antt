-- The listing of a table's pairs, neighbour counts and unlinked numbers. In words: docs/RULES.md, 'Tables and counts'.
-- Assumes nothing.
use Rattle.std.specs.Prelude.{◌≡◌, ◌↔◌, ◌⊎◌, Bool, not, ◌&&◌, ◌||◌, ℕ, ◌<◌, eqb, length, get_or}
use mathlib.Core.List.{List, [], ◌∷◌, map, Memᴰ}
use Rattle.meaning.specs.Lists.{any, count, positions}
use Rattle.meaning.specs.Tree.{Tree, leaf}
use Rattle.meaning.specs.Decide.{is_same_topology}

-- two positions, i and then j
abbrev pub Pair : Type 0
Pair = (i : ℕ) × ℕ

-- in order of i, then j
abbrev pub Before : Pair → Pair → Type 0
Before p q = (p.0 < q.0) ⊎ ((p.0 ≡ q.0) × (p.1 < q.1))

-- each pair stands before all that follow, so none stands twice
unfoldable pub Ascending : List Pair → Type 0
Ascending [] = Unit {0}
Ascending (p ∷ ps) = ((q : Pair) → Memᴰ q ps → Before p q) × Ascending ps

-- ps lists the linked positions among k: (i, j) stands in it exactly when i < j < k and i and j are linked
pub record Listing (k : ℕ) (Linked : ℕ → ℕ → Type 0) (ps : List Pair) : Type 0 where
  pub ascending : Ascending ps
  pub listed : (i j : ℕ) → Memᴰ (i, j) ps ↔ ((i < j) × (j < k) × Linked i j)

-- the tree at position i
abbrev pub tree_of : List Tree → ℕ → Tree
tree_of ts i = get_or ts i (leaf 0)

-- positions are linked where R holds of the trees there
abbrev pub At : (Tree → Tree → Type 0) → List Tree → ℕ → ℕ → Type 0
At R ts i j = R (tree_of ts i) (tree_of ts j)

-- position i is one of the pair's
abbrev pub touches : ℕ → Pair → Bool
touches i p = eqb p.0 i || eqb p.1 i

-- the neighbour count of position i: the listed pairs that it stands in
abbrev pub neighbours : List Pair → ℕ → ℕ
neighbours ps i = count (touches i) ps

-- the neighbour counts of the positions, in order
abbrev pub counts : ℕ → List Pair → List ℕ
counts k ps = map (neighbours ps) (positions k)

-- the tree at position j is a copy of the one at i: it has the same topology
abbrev pub copy_of : List Tree → ℕ → ℕ → Bool
copy_of ts i j = is_same_topology (tree_of ts i) (tree_of ts j)

-- i and j stand in one listed pair
abbrev pub paired : List Pair → ℕ → ℕ → Bool
paired ps i j = any (λ p. touches i p && touches j p) ps

-- the copies of the tree at position i, itself among them
abbrev pub copies : List Tree → ℕ → ℕ
copies ts i = count (copy_of ts i) (positions (length ts))

-- the tree at position j has another topology than the one at i, and stands in no listed pair with it
abbrev pub unlinked_from : List Tree → List Pair → ℕ → ℕ → Bool
unlinked_from ts ps i j = not (copy_of ts i j) && not (paired ps i j)

-- the unlinked number of position i: the positions that are so
abbrev pub unlinked : List Tree → List Pair → ℕ → ℕ
unlinked ts ps i = count (unlinked_from ts ps i) (positions (length ts))

-- the pairs as numbers: i, then j, of each
unfoldable pub flat : List Pair → List ℕ
flat [] = []
flat (p ∷ ps) = p.0 ∷ p.1 ∷ flat ps
