-- How many labels a clade has, as the machine counts them.
-- Assumes nothing.
use mathlib.Core.Path.{◌≡◌}
use Prim.Native.Nat.{ℕ, ◌^◌, ◌<◌}
use lib.Count.{ones}
use Rattle.families.specs.Clades.{size}
use Rattle.families.proofs.Sizes.{ones-size}

pub ones_is_size : (x : ℕ) → x < 2 ^ 64 → ones x ≡ size x
ones_is_size = ones-size
