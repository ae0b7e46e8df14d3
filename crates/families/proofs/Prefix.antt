-- The clades of the majority tree stand at the front of the list.
-- Assumes nothing.
use mathlib.Core.Path.{◌≡◌, refl, ap}
use mathlib.Core.Bool.{Bool, true, false}
use mathlib.Core.List.{List, [], ◌∷◌, Memᴰ}
use mathlib.Core.Logic.{inl, inr}
use Prim.Native.Nat.{ℕ, zero, suc, ◌≤◌, ◌<◌}
use native.Mathlib.Omega.{arith}
use lib.Dec.{T}
use lib.ListN.{length, take, get_or}
use Rattle.meaning.specs.Tree.{Tree}
use Rattle.meaning.specs.Sorted.{put, keep, Sorted}
use Rattle.families.specs.Support.{holders, ranks, supported, majority, chosen}
use Rattle.families.proofs.Support.{EachGood, Ranked, ranks-iff, supported-sorted}
use Rattle.families.proofs.Chosen.{majority-iff}

-- nothing is put in front of an empty list where the test fails
put-none : (x : ℕ) {l : List ℕ} (b : Bool) → (T b → ⊥) → l ≡ [] → put b x l ≡ []
unfolding put
put-none x true g e = absurd (g tt)
put-none x false g e = e

module _ (test : ℕ → Bool) where
  -- whatever stands before one that passes, passes
  abbrev pub Falls : List ℕ → Type 0
  Falls [] = Unit {0}
  Falls (x ∷ xs) = ((y : ℕ) → Memᴰ y xs → T (test y) → T (test x)) × Falls xs

  keep-none : (xs : List ℕ) → ((y : ℕ) → Memᴰ y xs → T (test y) → ⊥) → keep test xs ≡ []
  unfolding keep
  keep-none [] f = refl
  keep-none (x ∷ xs) f = put-none x (test x) (f x (Memᴰ.head refl)) (keep-none xs (λ y m. f y (Memᴰ.tail m)))

  -- those that pass are the first k, if these pass and the next does not
  pub keep-prefix : (xs : List ℕ) (k : ℕ) → Falls xs → k ≤ length xs → ((j : ℕ) → j < k → T (test (get_or xs j 0))) → (k < length xs → T (test (get_or xs k 0)) → ⊥) → keep test xs ≡ take k xs
  unfolding keep put
  keep-prefix [] zero F h pass stop = refl
  keep-prefix [] (suc k) F h pass stop = absurd (omega (arith, h))
  keep-prefix (x ∷ xs) zero F h pass stop = put-none x (test x) (stop (omega arith)) (keep-none xs (λ y m t. stop (omega arith) (F.0 y m t)))
  keep-prefix (x ∷ xs) (suc k) F h pass stop =
      go (test x) (pass 0 (omega arith)) (keep-prefix xs k F.1 (omega (arith, h)) (λ j l. pass (suc j) (omega (arith, l))) (λ l. stop (omega (arith, l))))
    where
      go : (b : Bool) → T b → keep test xs ≡ take k xs → put b x (keep test xs) ≡ x ∷ take k xs
      go true t e = ap (λ (l : List ℕ). x ∷ l) e
      go false t e = absurd t

-- a clade listed before another is in no fewer trees
ranks-more : (ts : List Tree) (c d : ℕ) → T (ranks ts c d) → holders ts d ≤ holders ts c
ranks-more ts c d r = go ((ranks-iff ts c d).0 r)
  where
    go : Ranked ts c d → holders ts d ≤ holders ts c
    go (inl h) = omega (arith, h)
    go (inr h) = omega (arith, h.0)

majority-falls : (ts : List Tree) (cs : List ℕ) → Sorted (ranks ts) cs → Falls (majority ts) cs
majority-falls ts [] S = tt
majority-falls ts (c ∷ cs) S =
    ((λ d m t. (majority-iff ts c).1 (omega (arith, (majority-iff ts d).0 t, ranks-more ts c d (S.0 d m)))), majority-falls ts cs S.1)

-- the clades of the majority tree are the first k of the list, if these are in more than half of the trees and the next is not
pub chosen-prefix : (ts : List Tree) → EachGood ts → (k : ℕ) → k ≤ length (supported ts)
    → ((j : ℕ) → j < k → T (majority ts (get_or (supported ts) j 0))) → (k < length (supported ts) → T (majority ts (get_or (supported ts) k 0)) → ⊥)
    → chosen ts ≡ take k (supported ts)
chosen-prefix ts A k = keep-prefix (majority ts) (supported ts) k (majority-falls ts (supported ts) (supported-sorted ts A))
