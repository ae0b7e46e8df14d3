-- The numbers at the front of a list that are more than half of the trees.
-- Assumes nothing.
use Rattle.std.specs.Prelude.{◌≡◌, true, false, List, ℕ, ◌*◌, ◌≤◌, ◌<◌, ltb, length, get_or}

-- of the numbers xs the first r are more than half of the trees, and the next is not, if there are more
pub record Front (xs : List ℕ) (trees r : ℕ) : Type 0 where
  pub few : r ≤ length xs
  pub above : (j : ℕ) → j < r → ltb trees (2 * get_or xs j 0) ≡ true
  pub stop : r < length xs → ltb trees (2 * get_or xs r 0) ≡ false
