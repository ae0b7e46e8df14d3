-- Copies and first positions of a sample: what is counted of them stays.
-- Assumes nothing.
use mathlib.Core.Path.{◌≡◌, sym, ap, ◌∙◌}
use mathlib.Core.Logic.{◌↔◌}
use mathlib.Core.List.{List, map}
use Prim.Native.Nat.{ℕ, ◌<◌}
use native.Mathlib.Omega.{arith}
use lib.Dec.{T}
use lib.ListN.{length}
use Rattle.meaning.specs.Lists.{bit, count, positions}
use Rattle.meaning.specs.Tree.{Tree, leaf}
use Rattle.meaning.specs.Decide.{is_same_topology}
use Rattle.meaning.specs.Listing.{tree_of, copy_of, copies}
use Rattle.meaning.specs.Copies.{first_of, firsts_of}
use Rattle.meaning.proofs.Sums.{map_same, count-positions, upto-same, bit-iff}
use Rattle.meaning.proofs.Copies.{first-is, first-inside, first-own, first-iff, first-smallest}
use Rattle.renaming.specs.Reordering.{Order, came}
use Rattle.renaming.proofs.Orders.{sum-came}

-- where the same positions are copies, each position has the same first
module _ (ts us : List Tree) (many : length us ≡ length ts) (same : (i j : ℕ) → i < length ts → j < length ts → T (copy_of us i j) ↔ T (copy_of ts i j)) where
  pub first-same : (i : ℕ) → i < length ts → first_of us i ≡ first_of ts i
  first-same i h =
      let m = first_of ts i in
      let m-in : m < length ts = first-inside ts i h in
      first-is (is_same_topology (tree_of us i)) (leaf 0) us m (omega (arith, many)) ((same i m h m-in).1 ((first-iff ts i h m m-in).0 (first-own ts i h)))
      (λ j l t. let j-in : j < length ts = omega arith in absurd (omega (arith, first-smallest ts i j h j-in ((same i j h j-in).0 t))))

  pub firsts_same : firsts_of us ≡ firsts_of ts
  firsts_same = ap (λ (n : ℕ). map (first_of us) (positions n)) many ∙ map_same (first_of us) (first_of ts) (length ts) first-same

-- where copies go with their positions
module _ (ts us : List Tree) {order : List ℕ} (O : Order (length ts) order) (many : length us ≡ length ts)
    (same : (i j : ℕ) → i < length ts → j < length ts → T (copy_of us i j) ↔ T (copy_of ts (came order i) (came order j))) where
  -- as many are copies of one
  pub copies-same : (i : ℕ) → i < length ts → copies us i ≡ copies ts (came order i)
  copies-same i h =
      ap (λ (n : ℕ). count (copy_of us i) (positions n)) many
      ∙ count-positions (copy_of us i) (length ts)
      ∙ upto-same (λ j. bit (copy_of us i j)) (λ j. bit (copy_of ts (came order i) (came order j))) (length ts) (λ j l. bit-iff (copy_of us i j) (copy_of ts (came order i) (came order j)) (same i j h l))
      ∙ sum-came O (λ j. bit (copy_of ts (came order i) j))
      ∙ sym (count-positions (copy_of ts (came order i)) (length ts))
