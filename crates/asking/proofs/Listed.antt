-- Which numbers are listed, and a list that grows by one number after another.
-- Assumes nothing.
use mathlib.Core.Path.{◌≡◌, refl}
use mathlib.Core.Logic.{◌↔◌, ◌⊎◌, inl, inr}
use mathlib.Core.Bool.{Bool, true, false, not}
use mathlib.Core.List.Memᴰ
use mathlib.Core.List.{List, [], ◌∷◌, ◌++◌, Memᴰ}
use Prim.Native.Nat.{ℕ, ◌+◌, ◌<◌}
use native.Mathlib.Omega.{arith}
use native.Mathlib.Decide.{ℕ_discrete}
use lib.Dec.{ltb, lt→ltb}
use lib.ListN.{set}
use Rattle.meaning.proofs.Sorted.{sorted-append}
use Rattle.lent.specs.Runs.{Says}
use Rattle.lent.proofs.Runs.{wrote_one, wrote-more}
use Rattle.asking.specs.Asking.{Below, ListWritten}

-- where P is so: whether Q is not
pub says_other : (P Q : Type 0) → P → (r : Bool) → Says r Q → Says (not r) (P × (¬ Q))
says_other P Q p true q = λ o. o.1 q
says_other P Q p false n = (p, n)

-- other words for which numbers these are
pub list-iff : {P Q : ℕ → Type 0} {list list' : List ℕ} {r : ℕ} → ((y : ℕ) → P y ↔ Q y) → ListWritten P list list' r → ListWritten Q list list' r
list-iff f w = record {
  numbers = w.numbers;
  ascending = w.ascending;
  listed = λ y. (λ m. (f y).0 ((w.listed y).0 m), λ q. (w.listed y).1 ((f y).1 q));
  wrote = w.wrote;
}

module _ (P : ℕ → Type 0) where
  pub list-none : (list : List ℕ) → ListWritten (Below P 0) list list 0
  list-none list = record {
    numbers = [];
    ascending = tt;
    listed = λ y. (λ m. absurd (Memᴰ.not-nil m), λ b. absurd (omega (arith, b.0)));
    wrote = record { behind = refl; cells = refl };
  }

  module _ {list list' : List ℕ} {k m : ℕ} (w : ListWritten (Below P k) list list' m) where
    -- k is the next number
    pub list-takes : P k → ListWritten (Below P (k + 1)) list (set list' m k) (m + 1)
    list-takes p = record {
      numbers = w.numbers ++ (k ∷ []);
      ascending = sorted-append ltb w.numbers (k ∷ []) w.ascending (λ y n. absurd (Memᴰ.not-nil n), tt)
          (λ x y n o. lt→ltb x y (omega (arith, ((w.listed x).0 n).0, Memᴰ.eq_of_singleton o)));
      listed = λ y. (λ n. to y (Memᴰ.append_cases w.numbers n), λ b. from y (ℕ_discrete y k) b);
      wrote = wrote-more w.wrote (wrote_one list' m k);
    }
      where
        to : (y : ℕ) → Memᴰ y w.numbers ⊎ Memᴰ y (k ∷ []) → Below P (k + 1) y
        to y (inl n) = let (l, q) = (w.listed y).0 n in (omega arith, q)
        to y (inr n) = let e = Memᴰ.eq_of_singleton n in (omega arith, rw e p)

        from : (y : ℕ) → Dec (y ≡ k) → Below P (k + 1) y → Memᴰ y (w.numbers ++ (k ∷ []))
        from y (yes e) b = Memᴰ.append_right w.numbers (Memᴰ.head e)
        from y (no n) b = Memᴰ.append_left (k ∷ []) ((w.listed y).1 (omega (arith, b.0), b.1))

    -- it is none of them
    pub list-skips : ¬ P k → ListWritten (Below P (k + 1)) list list' m
    list-skips n = list-iff (λ y. (λ b. (omega (arith, b.0), b.1), λ b. (below y (ℕ_discrete y k) b, b.1))) w
      where
        below : (y : ℕ) → Dec (y ≡ k) → Below P (k + 1) y → y < k
        below y (yes e) b = absurd (n (rw e at b.1))
        below y (no d) b = omega (arith, b.0)
