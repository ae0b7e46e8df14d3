-- The ways through a mark, from what each step answered.
-- Assumes nothing.
use mathlib.Core.Path.{◌≡◌, refl, sym, ◌∙◌}
use mathlib.Core.Bool.{Bool, true, false}
use mathlib.Core.List.{List}
use Prim.Native.Nat.{ℕ, ◌+◌}
use borrow.Author.Tests.{eq-eqb, ne_eqb}
use lib.Dec.{eqb}
use lib.ListN.{get_or}
use Rattle.meaning.specs.Kind.{Kind, rooted, unrooted}
use Rattle.meaning.specs.Reading.{Read, got, and_then, or_wrong, skip, byte_at, exactly, letter_at, mark_at}
use Rattle.tokens.specs.Mark.{exactly_at}
use Rattle.tokens.proofs.Meet.{byte-is}
use Rattle.tokens.proofs.Steps.{then-got}

-- what follows a byte is read where it ends
exactly-then : {A : Type 0} (b : ℕ) (s : List ℕ) (p : ℕ) (next : ℕ → Read A) → exactly b s p next ≡ and_then (exactly_at b s p) (λ u q. next q)
unfolding exactly
exactly-then b s p next = by (eqb (byte_at s p) b)
  where
    by : (d : Bool) → or_wrong d p (λ q. next (q + 1)) ≡ and_then (or_wrong d p (λ q. got (tt {0}) (q + 1))) (λ u q. next q)
    by true = refl
    by false = refl

-- the letter U, or another byte
module _ (s : List ℕ) (p : ℕ) where
  pub letter-is-u : byte_at s p ≡ 85 → letter_at s p ≡ got unrooted (p + 1)
  unfolding letter_at
  letter-is-u h = rw (eq-eqb (byte_at s p) 85 h)

  pub letter-else : (byte_at s p ≡ 85 → ⊥) → letter_at s p ≡ and_then (exactly_at 82 s p) (λ u q. got rooted q)
  unfolding letter_at
  letter-else h = rw (ne_eqb (byte_at s p) 85 h) (exactly-then 82 s p (got rooted))

-- the byte at the mark's place
module _ (s : List ℕ) (p : ℕ) {q b : ℕ} (e : q ≡ skip s p) (f : b ≡ get_or s q 0) where
  pub mark-none : (b ≡ 91 → ⊥) → mark_at s p ≡ got rooted p
  unfolding mark_at
  mark-none h = rw (ne_eqb (byte_at s (skip s p)) 91 (λ z. h (sym (byte-is s p e f) ∙ z)))

  -- it is a bracket: the letter and the mark's end follow
  module _ (h : b ≡ 91) where
    abbrev closes : Kind → ℕ → Read Kind
    closes k p₂ = exactly 93 s p₂ (got k)

    pub mark-is : mark_at s p ≡ and_then (exactly_at 38 s (q + 1)) (λ u p₁. and_then (letter_at s p₁) closes)
    unfolding mark_at
    mark-is = rw (e, eq-eqb (byte_at s (skip s p)) 91 (byte-is s p e f ∙ h)) (exactly-then 38 s (skip s p + 1) (λ p₁. and_then (letter_at s p₁) closes))

    module _ {u : Unit {0}} {p₁ : ℕ} (i : exactly_at 38 s (q + 1) ≡ got u p₁) where
      pub mark-letter : mark_at s p ≡ and_then (letter_at s p₁) closes
      mark-letter = mark-is ∙ then-got (λ u p₁. and_then (letter_at s p₁) closes) i

      pub mark-closes : {k : Kind} {p₂ : ℕ} → letter_at s p₁ ≡ got k p₂ → mark_at s p ≡ and_then (exactly_at 93 s p₂) (λ u q. got k q)
      mark-closes {k} {p₂} j = mark-letter ∙ then-got closes j ∙ exactly-then 93 s p₂ (got k)
