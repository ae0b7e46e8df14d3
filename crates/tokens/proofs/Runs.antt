-- How far a run of bytes that pass a test reaches, known byte by byte.
-- Assumes nothing.
use mathlib.Core.Path.{◌≡◌, refl, sym, ap, ◌∙◌}
use mathlib.Core.Bool.{Bool, true, false}
use mathlib.Core.List.{List, [], ◌∷◌}
use Prim.Native.Nat.{ℕ, zero, suc, ◌+◌, ◌≤◌, ◌<◌, min}
use native.Mathlib.Omega.{arith}
use native.Mathlib.Decide.{dec_le}
use lib.ListN.{length, get_or, drop, drop_of_length-le}
use Rattle.meaning.specs.Reading.{lead, past}

module _ (test : ℕ → Bool) where
  -- n bytes from the start on pass it, and the next one fails it or is none
  pub lead-is : (s : List ℕ) (n : ℕ) → n ≤ length s → ((i : ℕ) → i < n → test (get_or s i 0) ≡ true) → (n < length s → test (get_or s n 0) ≡ false) → lead test s ≡ n
  unfolding lead
  lead-is [] zero few pass stop = refl
  lead-is [] (suc n) few pass stop = absurd (omega (arith, few))
  lead-is (b ∷ s) zero few pass stop = rw (stop (omega arith)) refl
  lead-is (b ∷ s) (suc n) few pass stop =
      rw (pass 0 (omega arith)) (ap (λ (k : ℕ). suc k) (lead-is s n (omega (arith, few)) (λ i l. pass (suc i) (omega (arith, l))) (λ l. stop (omega (arith, l)))))

  -- behind the text's end there is no run
  pub past-from : (s : List ℕ) (p m n : ℕ) → m ≡ min p (length s) → lead test (drop m s) ≡ n → past test s p ≡ p + n
  unfolding past
  past-from s p m n e l = ap (λ (l : List ℕ). p + lead test l) (same (dec_le p (length s))) ∙ ap (λ (k : ℕ). p + k) l
    where
      same : Dec (p ≤ length s) → drop p s ≡ drop m s
      same (yes h) = ap (λ (k : ℕ). drop k s) (omega (arith, e))
      same (no h) = drop_of_length-le s (omega (arith, h)) ∙ sym (drop_of_length-le s (omega (arith, h, e)))
