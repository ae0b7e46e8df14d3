-- The flags of the links, set one after another, row by row, by what each has to be.
-- Assumes nothing.
use Rattle.std.proofs.Common.{◌≡◌, Bool, List, ℕ, ◌≤◌, ◌<◌}
use Rattle.sharing.specs.Links.{Square, is_linked}

-- of two of n positions the flags of the rows before i, and of row i before column j, are as P asks, and the others as they were
pub record Filled (P : ℕ → ℕ → Bool → Type 0) (was links : List (List Bool)) (n i j : ℕ) : Type 0 where
  pub square : Square links
  pub above : (a b : ℕ) → a < i → a < b → b < n → P a b (is_linked links a b)
  pub left : (b : ℕ) → b < j → i < b → b < n → P i b (is_linked links i b)
  pub behind : (a b : ℕ) → i ≤ a → (a ≡ i → j ≤ b) → is_linked links a b ≡ is_linked was a b
