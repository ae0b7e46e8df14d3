-- What loops append, turn by turn, and the members that come of it.
-- Assumes nothing.
use mathlib.Core.Path.{◌≡◌, sym, subst}
use mathlib.Core.Logic.{◌⊎◌, inl, inr}
use mathlib.Core.List.Memᴰ
use mathlib.Core.List.{List, [], ◌++◌, Memᴰ}
use Prim.Native.Nat.{ℕ, zero, suc, ◌+◌, ◌-◌, ◌≤◌, ◌<◌}
use native.Mathlib.Omega.{arith}
use native.Mathlib.Decide.{ℕ_discrete}
use Rattle.meaning.specs.Loops.{turns, each}

module _ {A : Type 0} (f : ℕ → List A) where
  -- the first turn, and the rest
  pub each_step : (from k : ℕ) → from < k → each from k f ≡ f from ++ each (from + 1) k f
  unfolding each
  each_step from k h =
      let e : k - from ≡ suc (k - (from + 1)) = omega arith in
      rw e

  -- after the last turn
  pub each-end : (from k : ℕ) → k ≤ from → each from k f ≡ []
  unfolding each
  each-end from k h =
      let e : k - from ≡ 0 = omega arith in
      rw e

  -- a member comes from one of the turns
  pub turns-mem : (n from : ℕ) {x : A} → Memᴰ x (turns n from f) → (j : ℕ) × (from ≤ j) × (j < from + n) × Memᴰ x (f j)
  turns-mem zero from m = absurd (Memᴰ.not-nil m)
  turns-mem (suc n) from {x} m = go (Memᴰ.append_cases (f from) m) (turns-mem n (from + 1))
    where
      go : Memᴰ x (f from) ⊎ Memᴰ x (turns n (from + 1) f)
          → (Memᴰ x (turns n (from + 1) f) → (j : ℕ) × (from + 1 ≤ j) × (j < from + 1 + n) × Memᴰ x (f j)) → (j : ℕ) × (from ≤ j) × (j < from + suc n) × Memᴰ x (f j)
      go (inl i) g = (from, omega arith, omega arith, i)
      go (inr i) g = let (j, h, l, o) = g i in (j, omega arith, omega arith, o)

  mem-turns : (n from j : ℕ) → from ≤ j → j < from + n → {x : A} → Memᴰ x (f j) → Memᴰ x (turns n from f)
  mem-turns zero from j h l m = absurd (omega arith)
  mem-turns (suc n) from j h l {x} m = go (ℕ_discrete from j) (λ g. mem-turns n (from + 1) j g (omega arith) m)
    where
      go : Dec (from ≡ j) → (from + 1 ≤ j → Memᴰ x (turns n (from + 1) f)) → Memᴰ x (turns (suc n) from f)
      go (yes e) g = Memᴰ.append_left (turns n (from + 1) f) (subst (λ i. Memᴰ x (f i)) (sym e) m)
      go (no e) g = Memᴰ.append_right (f from) (g (omega arith))

  pub each-mem : (from k : ℕ) {x : A} → Memᴰ x (each from k f) → (j : ℕ) × (from ≤ j) × (j < k) × Memᴰ x (f j)
  unfolding each
  each-mem from k m = let (j, h, l, o) = turns-mem (k - from) from m in (j, h, omega arith, o)

  pub mem-each : (from k j : ℕ) → from ≤ j → j < k → {x : A} → Memᴰ x (f j) → Memᴰ x (each from k f)
  unfolding each
  mem-each from k j h l m = mem-turns (k - from) from j h (omega arith) m
