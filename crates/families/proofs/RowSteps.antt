-- The test of a row one step after another, as a loop over its places takes them.
-- Assumes nothing.
use mathlib.Core.Path.{◌≡◌, refl, sym, ◌∙◌}
use mathlib.Core.Logic.{◌≢◌}
use mathlib.Core.Bool.{Bool, true, false, ◌&&◌}
use mathlib.Core.List.{List, [], ◌∷◌}
use Prim.Native.Nat.{ℕ, ◌+◌, ◌^◌, ◌≤◌, ◌<◌}
use native.Mathlib.Numerals.{add-one}
use native.Mathlib.Omega.{arith}
use borrow.Author.Tests.{le-leb, lt-leb, lt-ltb, le-ltb, eq-eqb, ne_eqb}
use lib.Dec.{eqb}
use lib.ListN.{length, get_or, drop, drop_of_length-le}
use lib.Seq.{drop-cons}
use Rattle.meaning.specs.Lists.{every}
use Rattle.meaning.specs.Clade.{inside, disjoint}
use Rattle.families.specs.Clades.{size}
use Rattle.families.specs.Row.{rises_from, fits, all_fit, part_of, is_row}

module _ (c d : ℕ) where
  -- nested or disjoint: one test after another
  pub fits-first : inside c d ≡ true → true ≡ fits c d
  fits-first e = rw e

  pub fits-second : inside c d ≡ false → inside d c ≡ true → true ≡ fits c d
  fits-second e f = rw (e, f)

  pub fits-third : inside c d ≡ false → inside d c ≡ false → disjoint c d ≡ fits c d
  fits-third e f = rw (e, f)

  -- a part of c: two or more labels, and inside
  pub part-few : size d < 2 → false ≡ part_of c d
  part-few h = rw (lt-leb 2 (size d) h)

  pub part-more : 2 ≤ size d → inside d c ≡ part_of c d
  part-more h = rw (le-leb 2 (size d) h)

-- numbers from place i on
module _ (row : List ℕ) (i : ℕ) where
  -- behind the last there is nothing to test
  pub rises-end : (from : ℕ) → length row ≤ i → true ≡ rises_from from (drop i row)
  unfolding rises_from
  rises-end from h = rw (drop_of_length-le row h)

  pub every-end : (test : ℕ → Bool) → length row ≤ i → true ≡ every test (drop i row)
  every-end test h = rw (drop_of_length-le row h)

  pub fit-end : length row ≤ i → true ≡ all_fit (drop i row)
  unfolding all_fit
  fit-end h = rw (drop_of_length-le row h)

  -- they ascend
  pub rises-on : (from : ℕ) → i < length row → from < get_or row i 0 → rises_from from (drop i row) ≡ rises_from (get_or row i 0) (drop (i + 1) row)
  unfolding rises_from
  rises-on from h k = rw (add-one, drop-cons row i 0, lt-ltb from (get_or row i 0) k)

  pub rises-not : (from : ℕ) → i < length row → get_or row i 0 ≤ from → false ≡ rises_from from (drop i row)
  unfolding rises_from
  rises-not from h k = rw (drop-cons row i 0, le-ltb from (get_or row i 0) k)

  -- each passes a test
  pub every-on : (test : ℕ → Bool) → i < length row → test (get_or row i 0) ≡ true → every test (drop i row) ≡ every test (drop (i + 1) row)
  every-on test h e = rw (add-one, drop-cons row i 0, e)

  pub every-not : (test : ℕ → Bool) → i < length row → test (get_or row i 0) ≡ false → false ≡ every test (drop i row)
  every-not test h e = rw (drop-cons row i 0, e)

  -- any two fit
  pub fit_on : i < length row → every (fits (get_or row i 0)) (drop (i + 1) row) ≡ true → all_fit (drop i row) ≡ all_fit (drop (i + 1) row)
  unfolding all_fit
  fit_on h e = let e' = rw add-one at e in rw (add-one, drop-cons row i 0, e')

  pub fit-not : i < length row → every (fits (get_or row i 0)) (drop (i + 1) row) ≡ false → false ≡ all_fit (drop i row)
  unfolding all_fit
  fit-not h e = let e' = rw add-one at e in rw (drop-cons row i 0, e')

-- ---- the test of a row, one part after another
pub row-none : (row : List ℕ) → length row ≡ 0 → false ≡ is_row row
unfolding is_row
row-none [] e = refl
row-none (s ∷ cs) e = absurd (omega arith)

-- the parts behind the number of labels
abbrev rest : List ℕ → Bool
rest row = rises_from 0 (drop 1 row) && (every (part_of (get_or row 0 0)) (drop 1 row) && all_fit (drop 1 row))

module _ (row : List ℕ) (some : 0 < length row) (bound : get_or row 0 0 < 2 ^ 64) where
  tests : is_row row ≡ (eqb (size (get_or row 0 0)) (length row) && rest row)
  unfolding is_row
  tests = go row some bound
    where
      go : (row : List ℕ) → 0 < length row → get_or row 0 0 < 2 ^ 64 → is_row row ≡ (eqb (size (get_or row 0 0)) (length row) && rest row)
      go [] h k = absurd (omega arith)
      go (s ∷ cs) h k = rw (lt-ltb s (2 ^ 64) k)

  pub row_number : size (get_or row 0 0) ≢ length row → false ≡ is_row row
  row_number n = sym (tests ∙ rw (ne_eqb (size (get_or row 0 0)) (length row) n))

  module _ (number : size (get_or row 0 0) ≡ length row) where
    counted : is_row row ≡ rest row
    counted = tests ∙ rw (eq-eqb (size (get_or row 0 0)) (length row) number)

    pub row-order : rises_from 0 (drop 1 row) ≡ false → false ≡ is_row row
    row-order e = sym (counted ∙ rw e)

    pub row-parts : rises_from 0 (drop 1 row) ≡ true → every (part_of (get_or row 0 0)) (drop 1 row) ≡ false → false ≡ is_row row
    row-parts e f = sym (counted ∙ rw (e, f))

    pub row-fit : rises_from 0 (drop 1 row) ≡ true → every (part_of (get_or row 0 0)) (drop 1 row) ≡ true → all_fit (drop 1 row) ≡ is_row row
    row-fit e f = sym (counted ∙ rw (e, f))
