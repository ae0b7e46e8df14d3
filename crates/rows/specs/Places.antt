-- The clades of a row by their smallest labels: where the last with a label stands, and tables of these places.
-- Assumes nothing.
use Rattle.std.specs.Prelude.{◌≡◌, cond, List, ℕ, zero, suc, ◌<◌, eqb, length, get_or}
use Rattle.meaning.specs.Limits.{max_label}
use Rattle.meaning.specs.Clade.{lowest}
use Rattle.families.specs.Clades.{size}
use Rattle.families.specs.Grown.{low_bit}

-- the last place before k of a number of the row with the smallest label l; 0, the place of the label set, where there is none
unfoldable pub last_place : List ℕ → ℕ → ℕ → ℕ
last_place row zero l = 0
last_place row (suc k) l = cond (eqb (lowest (get_or row k 0)) l) k (last_place row k l)

-- the clade at a place; at 0 the smallest label of c alone
abbrev pub clade_at : List ℕ → ℕ → ℕ → ℕ
clade_at row zero c = low_bit c
clade_at row (suc p) c = get_or row (suc p) 0

-- c is the clade at the place; at 0 it has one label
pub record Placed (row : List ℕ) (place c : ℕ) : Type 0 where
  pub alone : place ≡ 0 → size c ≡ 1
  pub stands : 0 < place → (place < length row) × (get_or row place 0 ≡ c)

-- the places before k are noted: for each clade that of the last before it with its smallest label, for each label that of the last with it
pub record Noted (row : List ℕ) (k : ℕ) (before last : List ℕ) : Type 0 where
  pub before_long : length before ≡ max_label
  pub last_long : length last ≡ max_label
  pub before_is : (i : ℕ) → 0 < i → i < k → get_or before i 0 ≡ last_place row i (lowest (get_or row i 0))
  pub last-is : (l : ℕ) → l < max_label → get_or last l 0 ≡ last_place row k (suc l)
