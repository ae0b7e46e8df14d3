-- Numbers in decimal: how many digits may come first does not matter once it is decimal-same, and labels have one digit or two.
-- Assumes nothing.
use mathlib.Core.Path.{◌≡◌, refl, ap, ◌∙◌, sym}
use mathlib.Core.Bool.{cond}
use mathlib.Core.List.{List, [], ◌∷◌, ◌++◌}
use Prim.Native.Nat.{ℕ, zero, suc, ◌+◌, ◌/◌, ◌%◌, ◌≤◌, ◌<◌}
use native.Mathlib.Omega.{arith}
use borrow.Author.Tests.{le-leb, lt-leb}
use lib.Dec.{leb}
use lib.ListN.{length, length-append}
use Rattle.meaning.specs.Tree.{decimal, digits}
use Rattle.meaning.proofs.Logic.{cases}

decimal-one : (k n : ℕ) → n ≤ 9 → decimal k n ≡ (48 + n) ∷ []
decimal-one zero n h = refl
decimal-one (suc k) n h = rw (le-leb n 9 h)

decimal-more : (k n : ℕ) → 9 < n → decimal (suc k) n ≡ decimal k (n / 10) ++ ((48 + n % 10) ∷ [])
decimal-more k n h = rw (lt-leb n 9 h)

decimal-same : (j k n : ℕ) → n ≤ j → n ≤ k → decimal j n ≡ decimal k n
decimal-same zero k n h l = sym (decimal-one k n (omega arith))
decimal-same (suc j) zero n h l = decimal-one (suc j) n (omega arith)
decimal-same (suc j) (suc k) n h l =
    let last : List ℕ = (48 + n % 10) ∷ [] in
    cases (λ d. cond d ((48 + n) ∷ []) (decimal j (n / 10) ++ last) ≡ cond d ((48 + n) ∷ []) (decimal k (n / 10) ++ last)) (leb n 9) (λ _. refl)
    (λ _. ap (λ (x : List ℕ). x ++ last) (decimal-same j k (n / 10) (omega arith) (omega arith)))

-- one digit; or the digits of n / 10 and one more
pub digits-one : (n : ℕ) → n ≤ 9 → digits n ≡ (48 + n) ∷ []
digits-one n h = decimal-one n n h

pub digits_more : (n : ℕ) → 9 < n → digits n ≡ digits (n / 10) ++ ((48 + n % 10) ∷ [])
digits_more zero h = absurd (omega arith)
digits_more (suc n) h = decimal-more n (suc n) h ∙ ap (λ (x : List ℕ). x ++ ((48 + suc n % 10) ∷ [])) (decimal-same n (suc n / 10) (suc n / 10) (omega arith) (omega arith))

-- a label of two digits
pub digits-two : (n : ℕ) → 9 < n → n ≤ 99 → digits n ≡ (48 + n / 10) ∷ (48 + n % 10) ∷ []
digits-two n h k = digits_more n h ∙ ap (λ (x : List ℕ). x ++ ((48 + n % 10) ∷ [])) (digits-one (n / 10) (omega arith))

-- there is a digit
decimal-some : (k n : ℕ) → 1 ≤ length (decimal k n)
decimal-some zero n = omega arith
decimal-some (suc k) n =
    cases (λ d. 1 ≤ length (cond d ((48 + n) ∷ []) (decimal k (n / 10) ++ ((48 + n % 10) ∷ [])))) (leb n 9) (λ _. omega arith) (λ _. simp length-append (omega arith))

pub digits-some : (n : ℕ) → 1 ≤ length (digits n)
digits-some n = decimal-some n n
