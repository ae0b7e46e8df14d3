-- What loops append: turns one after another, and two nested loops over positions. No definition of document 01 is among them.
-- Assumes nothing.
use Rattle.std.specs.Prelude.{Bool, true, false, List, [], ◌∷◌, ◌++◌, ℕ, zero, suc, ◌+◌, ◌-◌}
use Rattle.meaning.specs.Listing.{Pair}

-- what n turns of a loop append, the first at `from`, where turn j appends f j
abbrev pub turns : {A : Type 0} → ℕ → ℕ → (ℕ → List A) → List A
turns zero from f = []
turns (suc n) from f = f from ++ turns n (from + 1) f

-- what a loop over from ≤ j < k appends
unfoldable pub each : {A : Type 0} → ℕ → ℕ → (ℕ → List A) → List A
each from k f = turns (k - from) from f

-- the pair, where the test passes
abbrev pub pick : Bool → Pair → List Pair
pick true p = p ∷ []
pick false p = []

-- what the turn at i and j appends
abbrev pub cell : (ℕ → ℕ → Bool) → ℕ → ℕ → List Pair
cell test i j = pick (test i j) (i, j)

-- the pairs (i, j) with from ≤ j < k that pass the test, in order
unfoldable pub row_of : ℕ → ℕ → ℕ → (ℕ → ℕ → Bool) → List Pair
row_of i from k test = each from k (cell test i)

-- row i: those with j > i
abbrev pub row : ℕ → (ℕ → ℕ → Bool) → ℕ → List Pair
row k test i = row_of i (i + 1) k test

-- the rows from row i on
unfoldable pub pairs_from : ℕ → ℕ → (ℕ → ℕ → Bool) → List Pair
pairs_from i k test = each i k (row k test)

-- all (i, j) with i < j < k that pass the test, in order: what `for i in 0..k { for j in i + 1..k { .. } }` appends
abbrev pub pairs_of : ℕ → (ℕ → ℕ → Bool) → List Pair
pairs_of k test = pairs_from 0 k test
