-- Pairs as numbers that were listed.
-- Assumes nothing.
use Rattle.std.specs.Prelude.{◌≡◌, List, ℕ, length}
use Rattle.meaning.specs.Listing.{Pair, flat}
use Rattle.lent.specs.Runs.{Stands}

-- `numbers` begins with the m pairs ps
pub record PairsListed (numbers : List ℕ) (m : ℕ) (ps : List Pair) : Type 0 where
  pub many : m ≡ length ps
  pub listed : Stands numbers 0 (flat ps)
