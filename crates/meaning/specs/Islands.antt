-- Islands: positions that chains of listed pairs join. In words: docs/RULES.md, 'Islands'.
-- Assumes nothing.
use Rattle.std.specs.Prelude.{◌≡◌, ◌⊎◌, cond, ℕ, ◌≤◌, ◌<◌, min, max, eqb, length, get_or}
use mathlib.Core.List.{List, [], ◌∷◌, map, Memᴰ}
use Rattle.meaning.specs.Lists.{count}
use Rattle.meaning.specs.Listing.{Pair}

-- i and j are a listed pair, in either direction
abbrev pub Joined : List Pair → ℕ → ℕ → Type 0
Joined ps i j = Memᴰ (i, j) ps ⊎ Memᴰ (j, i) ps

-- a chain from i to j, each step of which joins two positions: of any number of steps, none too
pub data Chain (Joins : ℕ → ℕ → Type 0) : ℕ → ℕ → Type 0 where
  here : {i : ℕ} → Chain Joins i i
  step : {i j k : ℕ} → Joins i j → Chain Joins j k → Chain Joins i k

-- m is the number of the island of position i: the smallest position that a chain joins it to
pub record Island (Joins : ℕ → ℕ → Type 0) (i m : ℕ) : Type 0 where
  pub joined : Chain Joins i m
  pub smallest : (j : ℕ) → Chain Joins i j → m ≤ j

-- ms are the numbers of the islands of k positions, in order
pub record Islands (k : ℕ) (Joins : ℕ → ℕ → Type 0) (ms : List ℕ) : Type 0 where
  pub many : length ms ≡ k
  pub number : (i : ℕ) → i < k → Island Joins i (get_or ms i 0)

-- the size of the island m: how many positions have its number
abbrev pub size : List ℕ → ℕ → ℕ
size ms m = count (λ x. eqb x m) ms

-- ---- how they are found: each topology begins as an island of its own, and each pair makes two islands one
-- `to` in place of `from`
abbrev pub renumbered : ℕ → ℕ → ℕ → ℕ
renumbered from to x = cond (eqb x from) to x

-- the islands numbered a and b are one, which keeps the smaller number
abbrev pub united : ℕ → ℕ → List ℕ → List ℕ
united a b ms = map (renumbered (max a b) (min a b)) ms

-- the islands of i and j are one
abbrev pub unite : List ℕ → ℕ → ℕ → List ℕ
unite ms i j = united (get_or ms i 0) (get_or ms j 0) ms

-- so for each pair
abbrev pub unite_all : List ℕ → List Pair → List ℕ
unite_all ms [] = ms
unite_all ms (p ∷ ps) = unite_all (unite ms p.0 p.1) ps

-- the pairs are of positions below k
abbrev pub Within : ℕ → List Pair → Type 0
Within k ps = (p : Pair) → Memᴰ p ps → (p.0 < k) × (p.1 < k)
