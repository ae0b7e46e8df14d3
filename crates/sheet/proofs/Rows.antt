-- Lines one after another, one for each member of a list: a loop that writes them, and how long they are together.
-- Assumes nothing.
use mathlib.Core.Path.{◌≡◌, refl, ap, ◌∙◌}
use mathlib.Core.List.{List, [], ◌∷◌, ◌++◌, append_assoc, append-nil, Memᴰ}
use Prim.Native.Nat.{ℕ, zero, suc, ◌+◌, ◌*◌, ◌≤◌, ◌<◌}
use native.Mathlib.Nat.{add-zero, zero-add, mul-suc}
use native.Mathlib.Omega.{arith}
use native.Mathlib.Numerals.{add-one}
use lib.ListN.{length, take, get_or, length-append}
use lib.Seq.{take-length}
use Rattle.lent.specs.Runs.{Wrote}
use Rattle.lent.proofs.Runs.{wrote-more, wrote-length}

module _ {A : Type 0} (line : ℕ → A → List ℕ) where
  -- the line of each member, which depends on its place
  abbrev pub rows : ℕ → List A → List ℕ
  rows from [] = []
  rows from (x ∷ xs) = line from x ++ rows (suc from) xs

  -- those of the first members, and one more
  rows_more : (d : A) (from : ℕ) (xs : List A) (i : ℕ) → i < length xs → rows from (take (suc i) xs) ≡ rows from (take i xs) ++ line (from + i) (get_or xs i d)
  rows_more d from [] i h = absurd (omega arith)
  rows_more d from (x ∷ xs) zero h = rw (add-zero, append-nil)
  rows_more d from (x ∷ xs) (suc i) h =
      let e : suc from + i ≡ from + suc i = omega arith in
      ap (λ (l : List ℕ). line from x ++ l) (rows_more d (suc from) xs i (omega arith) ∙ ap (λ (j : ℕ). rows (suc from) (take i xs) ++ line j (get_or xs i d)) e) ∙ rw append_assoc

  -- are among all
  rows_fit : (from : ℕ) (xs : List A) (i : ℕ) → length (rows from (take i xs)) ≤ length (rows from xs)
  rows_fit from xs zero = omega arith
  rows_fit from [] (suc i) = omega arith
  rows_fit from (x ∷ xs) (suc i) = simp length-append (omega (arith, rows_fit (suc from) xs i))

  -- where each has at most `most` bytes
  pub rows-length : (most from : ℕ) (xs : List A) → ((i : ℕ) (x : A) → Memᴰ x xs → i < from + length xs → length (line i x) ≤ most) → length (rows from xs) ≤ most * length xs
  rows-length most from [] short = omega arith
  rows-length most from (x ∷ xs) short =
      omega (arith, length-append (line from x) (rows (suc from) xs), mul-suc most (length xs), short from x (Memᴰ.head refl) (omega arith), rows-length most (suc from) xs (λ i y m h. short i y (Memᴰ.tail m) (omega arith)))

  -- a turn of the loop, of which i were made
  module _ (d : A) (xs : List A) (i : ℕ) (h : i < length xs) {out o₁ : List ℕ} {at next : ℕ} (w : Wrote (rows 0 (take i xs)) out o₁ at next) where
    turn_more : rows 0 (take (i + 1) xs) ≡ rows 0 (take i xs) ++ line i (get_or xs i d)
    turn_more = rw add-one (rows_more d 0 xs i h ∙ rw zero-add)

    pub turn-room : at + length (rows 0 xs) ≤ length out → next + length (line i (get_or xs i d)) ≤ length o₁
    turn-room room =
        omega (arith, w.behind, wrote-length w, rows_fit 0 xs (i + 1), ap length turn_more, length-append (rows 0 (take i xs)) (line i (get_or xs i d)))

    pub turn-wrote : {o₂ : List ℕ} {r : ℕ} → Wrote (line i (get_or xs i d)) o₁ o₂ next r → Wrote (rows 0 (take (i + 1) xs)) out o₂ at r
    turn-wrote one = rw turn_more (wrote-more w one)

  -- after the last turn
  pub turns-wrote : (xs : List A) {i : ℕ} {out o₁ : List ℕ} {at next : ℕ} → i ≡ length xs → Wrote (rows 0 (take i xs)) out o₁ at next → Wrote (rows 0 xs) out o₁ at next
  turns-wrote xs e w = rw (e, take-length) at w
