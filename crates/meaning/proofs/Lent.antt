-- Lines 7 and 8, for any number of lent slices and any text; and what is accepted.
-- Assumes nothing.
use mathlib.Core.Path.{◌≡◌, refl}
use mathlib.Core.Logic.{◌⊎◌, inl, inr}
use mathlib.Core.Bool.{Bool, true, false, and-false}
use mathlib.Core.List.{List, [], ◌∷◌}
use Prim.Native.Nat.{ℕ, ◌≤◌, ◌<◌}
use borrow.Author.Tests.{leb-true, le-leb, lt-leb, lt-ltb, le-ltb}
use lib.Dec.{leb}
use lib.ListN.{length}
use Rattle.meaning.specs.Limits.{text_bytes}
use Rattle.meaning.specs.Answer.{Answer, accepted, refusal, Outcome, conclude}
use Rattle.meaning.specs.Calls.{Slice, enough, lent, limited}
use Rattle.meaning.proofs.Logic.{clash, and_left, and_right, cases}

-- each slice has the stated size
abbrev pub Ample : List Slice → Type 0
Ample [] = Unit {0}
Ample (slice ∷ []) = slice.0 ≤ slice.1
Ample (slice ∷ next ∷ slices) = (slice.0 ≤ slice.1) × Ample (next ∷ slices)

-- one of them is shorter
abbrev pub Short : List Slice → Type 0
Short [] = ⊥
Short (slice ∷ []) = slice.1 < slice.0
Short (slice ∷ next ∷ slices) = (slice.1 < slice.0) ⊎ Short (next ∷ slices)

-- the test tells which
ample-enough : (slices : List Slice) → Ample slices → enough slices ≡ true
ample-enough [] h = refl
ample-enough (slice ∷ []) h = rw (le-leb slice.0 slice.1 h)
ample-enough (slice ∷ next ∷ slices) h = rw (le-leb slice.0 slice.1 h.0) (ample-enough (next ∷ slices) h.1)

pub enough-ample : (slices : List Slice) → enough slices ≡ true → Ample slices
enough-ample [] e = tt
enough-ample (slice ∷ []) e = leb-true slice.0 slice.1 (and_left (leb slice.0 slice.1) true e)
enough-ample (slice ∷ next ∷ slices) e =
    let this : Bool = leb slice.0 slice.1 in
    let rest : Bool = enough (next ∷ slices) in
    (leb-true slice.0 slice.1 (and_left this rest e), enough-ample (next ∷ slices) (and_right this rest e))

pub short-enough : (slices : List Slice) → Short slices → enough slices ≡ false
short-enough [] h = absurd h
short-enough (slice ∷ []) h = rw (lt-leb slice.0 slice.1 h)
short-enough (slice ∷ next ∷ slices) (inl h) = rw (lt-leb slice.0 slice.1 h)
short-enough (slice ∷ next ∷ slices) (inr h) = rw (short-enough (next ∷ slices) h) (and-false (leb slice.0 slice.1))

-- an answer for which slices were lent: line 7 where one is short, the answer where none is
module _ {A : Type 0} (slices : List Slice) (a : Answer A) where
  pub seven : Short slices → lent (enough slices) a ≡ refusal 7 0 0
  seven h = rw (short-enough slices h)

  pub ample : Ample slices → lent (enough slices) a ≡ a
  ample h = rw (ample-enough slices h)

  -- an answer that accepts was lent enough
  pub lent-ample : {x : A} → lent (enough slices) a ≡ accepted x → Ample slices
  lent-ample {x} e = cases (λ d. lent d a ≡ accepted x → Ample slices) (enough slices) (λ t _. enough-ample slices t) (λ _ e. clash cc) e

-- and a text: line 8 where it is too long, the answer where it is not
module _ {A : Type 0} (i : ℕ) (s : List ℕ) (a : Answer A) where
  pub eight : text_bytes < length s → limited i s a ≡ refusal 8 i 0
  eight h = rw (lt-ltb text_bytes (length s) h)

  pub in-limit : length s ≤ text_bytes → limited i s a ≡ a
  in-limit h = rw (le-ltb text_bytes (length s) h)

-- a call goes on with what was accepted
pub concluded : {A B M : Type 0} {a : Answer A} {x : A} (memory : M) (done : A → Outcome B M) → a ≡ accepted x → done x ≡ conclude a memory done
concluded memory done e = rw e
