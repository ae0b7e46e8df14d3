-- Counting how often each number occurs.
-- Assumes nothing.
use Rattle.std.specs.Prelude.{◌≡◌, List, ℕ, ◌+◌, ◌≤◌, ◌<◌, eqb, length, get_or}
use Rattle.meaning.specs.Lists.{count}

-- the first n numbers are places of `tallies`, and what stands there can grow by as much as it may
pub record TallyRoom (tallies numbers : List ℕ) (n : ℕ) : Type 0 where
  pub lent : n ≤ length numbers
  pub places : (i : ℕ) → i < n → get_or numbers i 0 < length tallies
  pub grow : (x : ℕ) → get_or tallies x 0 + n < 65536

-- each place x has grown by how often x is one of the numbers xs
pub record Tallied (xs tallies tallies' : List ℕ) : Type 0 where
  pub long : length tallies' ≡ length tallies
  pub each : (x : ℕ) → get_or tallies' x 0 ≡ get_or tallies x 0 + count (λ y. eqb y x) xs
