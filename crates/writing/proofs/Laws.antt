-- Numbers and trees, written piece by piece, and the room that they take.
-- Assumes nothing.
use mathlib.Core.Path.{◌≡◌, sym, ap, subst, ◌∙◌}
use mathlib.Core.List.{List, [], ◌∷◌}
use Prim.Native.Nat.{ℕ, ◌+◌, ◌/◌, ◌%◌, ◌≤◌, ◌<◌}
use native.Mathlib.Omega.{arith}
use lib.ListN.{length, set, length-append}
use Rattle.meaning.specs.Tree.{Tree, leaf, fork, digits, write}
use Rattle.meaning.proofs.Digits.{digits-one, digits_more}
use Rattle.lent.specs.Runs.{Wrote}
use Rattle.lent.proofs.Runs.{wrote_one, wrote-more}

-- a number of one digit, and one of more
pub wrote-digit : (n : ℕ) → n ≤ 9 → (out : List ℕ) (at : ℕ) → Wrote (digits n) out (set out at (48 + n)) at (at + 1)
wrote-digit n h out at = subst (λ (ys : List ℕ). Wrote ys out (set out at (48 + n)) at (at + 1)) (sym (digits-one n h)) (wrote_one out at (48 + n))

module _ (n : ℕ) (h : 9 < n) where
  pub length_digits : length (digits n) ≡ length (digits (n / 10)) + 1
  length_digits = ap length (digits_more n h) ∙ length-append (digits (n / 10)) ((48 + n % 10) ∷ [])

  pub wrote-digits : {out o₁ : List ℕ} {at r₁ : ℕ} → Wrote (digits (n / 10)) out o₁ at r₁ → Wrote (digits n) out (set o₁ r₁ (48 + n % 10)) at (r₁ + 1)
  wrote-digits {out} {o₁} {at} {r₁} p =
      subst (λ (ys : List ℕ). Wrote ys out (set o₁ r₁ (48 + n % 10)) at (r₁ + 1)) (sym (digits_more n h)) (wrote-more p (wrote_one o₁ r₁ (48 + n % 10)))

-- a leaf as text
pub leaf-text : {t : Tree} {l : ℕ} → t ≡ leaf l → write t ≡ digits l
leaf-text e = ap write e

-- a fork as text: a bracket, its first child, a comma, its second, a bracket
module _ {t a b : Tree} (e : t ≡ fork a b) where
  pub fork-room : length (write t) ≡ length (write a) + length (write b) + 3
  fork-room = ap (λ (u : Tree). length (write u)) e ∙ simp length-append (omega arith)

  pub wrote-both : {out o₁ o₂ : List ℕ} {at r₁ r₂ : ℕ} → Wrote (write a) (set out at 40) o₁ (at + 1) r₁ → Wrote (write b) (set o₁ r₁ 44) o₂ (r₁ + 1) r₂
      → Wrote (write t) out (set o₂ r₂ 41) at (r₂ + 1)
  wrote-both {out} {o₁} {o₂} {at} {r₁} {r₂} p q = rw e (wrote-more (wrote-more (wrote-more (wrote_one out at 40) p) (wrote-more (wrote_one o₁ r₁ 44) q)) (wrote_one o₂ r₂ 41))
