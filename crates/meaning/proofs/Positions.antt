-- The positions below a number, as a list.
-- Assumes nothing.
use mathlib.Core.Path.{◌≡◌, refl}
use mathlib.Core.Logic.{◌⊎◌, inl, inr}
use mathlib.Core.List.Memᴰ
use mathlib.Core.List.{[], ◌∷◌, ◌++◌, Memᴰ}
use Prim.Native.Nat.{ℕ, zero, suc, ◌<◌}
use native.Mathlib.Omega.{arith}
use native.Mathlib.Decide.{dec_lt}
use lib.Dec.{ltb, lt→ltb}
use lib.ListN.{length, length-append}
use Rattle.meaning.specs.Lists.{positions}
use Rattle.meaning.specs.Sorted.{Sorted}
use Rattle.meaning.proofs.Sorted.{sorted-append}

-- they are below it
pub positions-mem : (k : ℕ) {i : ℕ} → Memᴰ i (positions k) → i < k
unfolding positions
positions-mem zero m = absurd (Memᴰ.not-nil m)
positions-mem (suc k) {i} m = go (Memᴰ.append_cases (positions k) m) (positions-mem k)
  where
    go : Memᴰ i (positions k) ⊎ Memᴰ i (k ∷ []) → (Memᴰ i (positions k) → i < k) → i < suc k
    go (inl n) f = omega (arith, f n)
    go (inr n) f = omega (arith, Memᴰ.eq_of_singleton n)

-- all that are below it
pub mem-positions : (k i : ℕ) → i < k → Memᴰ i (positions k)
unfolding positions
mem-positions zero i h = absurd (omega arith)
mem-positions (suc k) i h = go (dec_lt i k) (mem-positions k i)
  where
    go : Dec (i < k) → (i < k → Memᴰ i (positions k)) → Memᴰ i (positions k ++ (k ∷ []))
    go (yes l) f = Memᴰ.append_left (k ∷ []) (f l)
    go (no l) f = Memᴰ.append_right (positions k) (Memᴰ.head (omega arith))

-- ascending
pub positions-sorted : (k : ℕ) → Sorted ltb (positions k)
unfolding positions
positions-sorted zero = tt
positions-sorted (suc k) = sorted-append ltb (positions k) (k ∷ []) (positions-sorted k) (λ y m. absurd (Memᴰ.not-nil m), tt)
    (λ x y m n. lt→ltb x y (omega (arith, positions-mem k m, Memᴰ.eq_of_singleton n)))

-- as many as the number
pub positions-length : (k : ℕ) → length (positions k) ≡ k
unfolding positions
positions-length zero = refl
positions-length (suc k) = simp length-append (omega (arith, positions-length k))
