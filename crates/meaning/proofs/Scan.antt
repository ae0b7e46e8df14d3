-- Laws of the definitions that go along a text: blanks, digits, runs and values.
-- Assumes nothing.
use mathlib.Core.Path.{◌≡◌, refl, sym, ap, ◌∙◌}
use mathlib.Core.Bool.{Bool, true, false, cond}
use mathlib.Core.List.{List, [], ◌∷◌}
use Prim.Native.Nat.{ℕ, zero, suc, ◌+◌, ◌-◌, ◌*◌, ◌<◌, ◌≤◌, min}
use native.Mathlib.Nat.{add-zero}
use native.Mathlib.Numerals.{add-one}
use native.Mathlib.Decide.{dec_le}
use native.Mathlib.Omega.{arith}
use borrow.Author.Tests.{leb-true, eq-eqb, ne_eqb}
use lib.Dec.{leb, eqb}
use lib.ListN.{length, drop, get_or, drop_of_length-le, length-drop}
use lib.Seq.{drop-cons, drop-drop, get_or-drop}
use Rattle.meaning.specs.Limits.{max_label}
use Rattle.meaning.specs.Reading.{is_blank, is_digit, lead, past, value_after}
use Rattle.meaning.proofs.Logic.{and_left, and_right, cases, clash}

-- a place where something other than 0 stands is in the text
pub inside : (s : List ℕ) (p : ℕ) {b : ℕ} → get_or s p 0 ≡ b → 0 < b → p < length s
inside [] zero e h = absurd (omega (arith, e))
inside [] (suc p) e h = absurd (omega (arith, e))
inside (x ∷ s) zero e h = omega arith
inside (x ∷ s) (suc p) e h = omega (arith, inside s p e h)

-- how far a run reaches, in a text
module _ (test : ℕ → Bool) where
  pub lead-le : (s : List ℕ) → lead test s ≤ length s
  unfolding lead
  lead-le [] = omega arith
  lead-le (b ∷ s) = cases (λ d. cond d (suc (lead test s)) 0 ≤ suc (length s)) (test b) (λ _. omega (arith, lead-le s)) (λ _. omega arith)

  -- each byte of a run passes the test
  lead-run : (s : List ℕ) (i : ℕ) → i < lead test s → test (get_or s i 0) ≡ true
  unfolding lead
  lead-run [] i h = absurd (omega arith)
  lead-run (b ∷ s) i h = by (test b) refl i h (lead-run s)
    where
      by : (d : Bool) → test b ≡ d → (i : ℕ) → i < cond d (suc (lead test s)) 0 → ((i : ℕ) → i < lead test s → test (get_or s i 0) ≡ true) → test (get_or (b ∷ s) i 0) ≡ true
      by true e zero h f = e
      by true e (suc i) h f = f i (omega arith)
      by false e i h f = absurd (omega arith)

  -- behind a run no other run begins
  pub lead-rest : (s : List ℕ) → lead test (drop (lead test s) s) ≡ 0
  unfolding lead
  lead-rest [] = refl
  lead-rest (b ∷ s) = cases (λ d. lead test (drop (cond d (suc (lead test s)) 0) (b ∷ s)) ≡ 0) (test b) (λ _. lead-rest s) (λ e. rw e)

  -- behind a run stands a byte that fails the test, or nothing
  pub lead-stop : (s : List ℕ) → test 0 ≡ false → test (get_or (drop (lead test s) s) 0 0) ≡ false
  unfolding lead
  lead-stop [] z = z
  lead-stop (b ∷ s) z = cases (λ d. test (get_or (drop (cond d (suc (lead test s)) 0) (b ∷ s)) 0 0) ≡ false) (test b) (λ _. lead-stop s z) (λ e. e)

-- how far the run at a place reaches
module _ (test : ℕ → Bool) (s : List ℕ) (p : ℕ) where
  -- the run goes on, stops, or meets the end
  pub past_more : p < length s → test (get_or s p 0) ≡ true → past test s p ≡ past test s (p + 1)
  unfolding past lead
  past_more h e = rw (add-one, drop-cons s p 0, e) (omega arith)

  pub past_stop : p < length s → test (get_or s p 0) ≡ false → past test s p ≡ p
  unfolding past lead
  past_stop h e = rw (drop-cons s p 0, e) (omega arith)

  pub past_end : length s ≤ p → past test s p ≡ p
  unfolding past lead
  past_end h = rw (drop_of_length-le s h) (omega arith)

  -- it never goes back, nor out of the text
  pub past-ge : p ≤ past test s p
  unfolding past
  past-ge = omega arith

  pub skip-le : p ≤ length s → past test s p ≤ length s
  unfolding past
  skip-le h = omega (arith, lead-le test (drop p s), length-drop p s)

  pub past-run : (i : ℕ) → p ≤ i → i < past test s p → test (get_or s i 0) ≡ true
  unfolding past
  past-run i l h =
      let e : p + (i - p) ≡ i = omega arith in
      ap (λ (k : ℕ). test (get_or s k 0)) (sym e) ∙ ap test (sym (get_or-drop p s (i - p) 0)) ∙ lead-run test (drop p s) (i - p) (omega arith)

  -- passing twice is passing once
  pub past-past : past test s (past test s p) ≡ past test s p
  unfolding past
  past-past = rw (← drop-drop (lead test (drop p s)) p s, lead-rest test (drop p s)) (omega arith)

  -- the byte behind the run fails the test
  pub past-byte : test 0 ≡ false → test (get_or s (past test s p) 0) ≡ false
  unfolding past
  past-byte z =
      let e : get_or (drop (lead test (drop p s)) (drop p s)) 0 0 ≡ get_or s (p + lead test (drop p s)) 0 = rw (drop-drop, get_or-drop, add-zero) in
      ap test (sym e) ∙ lead-stop test (drop p s) z

  -- where a byte passes the test, it has one
  pub past-some : test 0 ≡ false → test (get_or s p 0) ≡ true → p < past test s p
  past-some z d = by (dec_le (past test s p) p)
    where
      by : Dec (past test s p ≤ p) → p < past test s p
      by (yes l) = let e : past test s p ≡ p = omega (arith, past-ge) in let n : test (get_or s p 0) ≡ false = rw e at (past-byte z) in clash cc
      by (no l) = omega arith

-- the value, held down to one above the largest label: no larger value has to be told apart
abbrev capped : ℕ → ℕ
capped v = min (max_label + 1) v

-- it may be held down on the way
pub cut : (s : List ℕ) (v w : ℕ) → capped v ≡ capped w → capped (value_after v s) ≡ capped (value_after w s)
unfolding value_after
cut [] v w e = e
cut (b ∷ s) v w e =
    let v' : ℕ = v * 10 + (b - 48) in
    let w' : ℕ = w * 10 + (b - 48) in
    cases (λ d. capped (cond d (value_after v' s) v) ≡ capped (cond d (value_after w' s) w)) (is_digit b) (λ _. cut s v' w' (omega arith)) (λ _. e)

-- the tests for a blank, one after another
module _ (b : ℕ) where
  pub blank-1 : b ≡ 32 → true ≡ is_blank b
  unfolding is_blank
  blank-1 h = simp (eq-eqb b 32 h)

  pub blank-2 : (b ≡ 32 → ⊥) → b ≡ 9 → true ≡ is_blank b
  unfolding is_blank
  blank-2 f h = simp (ne_eqb b 32 f, eq-eqb b 9 h)

  pub blank-3 : (b ≡ 32 → ⊥) → (b ≡ 9 → ⊥) → b ≡ 13 → true ≡ is_blank b
  unfolding is_blank
  blank-3 f g h = simp (ne_eqb b 32 f, ne_eqb b 9 g, eq-eqb b 13 h)

  pub blank-4 : (b ≡ 32 → ⊥) → (b ≡ 9 → ⊥) → (b ≡ 13 → ⊥) → eqb b 10 ≡ is_blank b
  unfolding is_blank
  blank-4 f g h = simp (ne_eqb b 32 f, ne_eqb b 9 g, ne_eqb b 13 h)

  -- a digit is 48 to 57, and so no blank
  pub digit_low : is_digit b ≡ true → 48 ≤ b
  unfolding is_digit
  digit_low e = leb-true 48 b (and_left (leb 48 b) (leb b 57) e)

  pub digit-high : is_digit b ≡ true → b ≤ 57
  unfolding is_digit
  digit-high e = leb-true b 57 (and_right (leb 48 b) (leb b 57) e)

  pub digit-no-blank : is_digit b ≡ true → is_blank b ≡ false
  unfolding is_blank
  digit-no-blank h =
      let l = digit_low h in
      rw (ne_eqb b 32 (λ e. omega arith), ne_eqb b 9 (λ e. omega arith), ne_eqb b 13 (λ e. omega arith), ne_eqb b 10 (λ e. omega arith))

  pub blank-no-digit : is_blank b ≡ true → is_digit b ≡ false
  blank-no-digit h = cases (λ d. d ≡ false) (is_digit b) (λ e. let z = digit-no-blank e in cc) (λ e. refl)

-- the value goes on over a digit, and stops at another byte or at the end
module _ (s : List ℕ) (p v : ℕ) where
  pub value-more : p < length s → is_digit (get_or s p 0) ≡ true → value_after v (drop p s) ≡ value_after (v * 10 + (get_or s p 0 - 48)) (drop (p + 1) s)
  unfolding value_after
  value-more h e = rw (add-one, drop-cons s p 0, e)

  pub value-stop : p < length s → is_digit (get_or s p 0) ≡ false → value_after v (drop p s) ≡ v
  unfolding value_after
  value-stop h e = rw (drop-cons s p 0, e)

  pub value-end : length s ≤ p → value_after v (drop p s) ≡ v
  unfolding value_after
  value-end h = rw (drop_of_length-le s h)
