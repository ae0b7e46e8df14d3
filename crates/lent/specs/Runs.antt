-- Runs of elements in lent memory: where one stands, what writing one leaves, when two are the same; and what a test's answer says.
-- Assumes nothing.
use Rattle.std.specs.Prelude.{◌≡◌, Bool, true, false, List, ◌++◌, ℕ, ◌+◌, ◌≤◌, ◌<◌, length, drop, get_or}
use Rattle.std.proofs.lemmas.List.Edits.{sets}

-- ys stands in xs from k on
abbrev pub Stands : {A : Type 0} → List A → ℕ → List A → Type 0
Stands {A} xs k ys = (behind : List A) × (drop k xs ≡ ys ++ behind)

-- ys was written over out from `at` on, which left out', and r is the place behind it
pub record Wrote {A : Type 0} (ys out out' : List A) (at r : ℕ) : Type 0 where
  pub behind : r ≡ at + length ys
  pub cells : out' ≡ sets out at ys

-- `count` numbers of xs from i on are those of ys from j on
abbrev pub SameRun : List ℕ → ℕ → List ℕ → ℕ → ℕ → Type 0
SameRun xs i ys j count = (k : ℕ) → k < count → get_or xs (i + k) 0 ≡ get_or ys (j + k) 0

-- the numbers of xs from one place to another are zeros
abbrev pub Zeros : List ℕ → ℕ → ℕ → Type 0
Zeros xs from to = (k : ℕ) → from ≤ k → k < to → get_or xs k 0 ≡ 0

-- of the first n numbers of xs and ys the first r are the same, and the next differ, if there are more
pub record Common (xs ys : List ℕ) (n r : ℕ) : Type 0 where
  pub few : r ≤ n
  pub same : (i : ℕ) → i < r → get_or xs i 0 ≡ get_or ys i 0
  pub differ : r < n → ¬ (get_or xs r 0 ≡ get_or ys r 0)

-- r says whether P is so
abbrev pub Says : Bool → Type 0 → Type 0
Says true P = P
Says false P = ¬ P
