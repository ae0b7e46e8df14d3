-- What std's tests of a slice say of a row's numbers.
-- Assumes nothing.
use mathlib.Core.Path.{◌≡◌, refl, sym, ap, ◌∙◌}
use mathlib.Core.Logic.{◌≢◌}
use mathlib.Core.Bool.{Bool, true, false, ◌&&◌}
use mathlib.Core.List.{List, [], ◌∷◌}
use Prim.Native.Nat.{ℕ, zero, suc, ◌+◌, ◌-◌, ◌^◌, ◌<◌}
use native.Mathlib.Omega.{arith}
use native.Mathlib.Numerals.{add-one}
use borrow.Author.Tests.{lt-ltb}
use lib.Dec.{ltb, eqb}
use lib.ListN.{length, get_or, take, drop, length-drop}
use lib.Seq.{take_all}
use Rattle.std.specs.Bool.{MatchBool}
use Rattle.std.specs.List.{AllAdjacentBelow, IsAllAdjacentAnswer, AllWithin, HoldsAt}
use Rattle.meaning.specs.Lists.{every}
use Rattle.families.specs.Clades.{size}
use Rattle.families.specs.Row.{rises_from, fits, all_fit, part_of, is_row}
use Rattle.families.proofs.RowSteps.{fit_on, fit-not, rises-not}

-- ---- the tests of a row, one after another
pub row-is : (s : ℕ) (cs : List ℕ) → s < 2 ^ 64 → is_row (s ∷ cs) ≡ (((eqb (size s) (suc (length cs)) && rises_from 0 cs) && every (part_of s) cs) && all_fit cs)
unfolding is_row
row-is s cs h = rw (lt-ltb s (2 ^ 64) h) (by (eqb (size s) (suc (length cs))) (rises_from 0 cs) (every (part_of s) cs) (all_fit cs))
  where
    by : (w a p f : Bool) → (w && (a && (p && f))) ≡ (((w && a) && p) && f)
    by false a p f = refl
    by true false p f = refl
    by true true p f = refl

-- ---- neighbours ascend
rises-all : (x : ℕ) (xs : List ℕ) → AllAdjacentBelow (λ y z. true ≡ ltb y z) (x ∷ xs) (suc (length xs)) → true ≡ rises_from x xs
unfolding rises_from
rises-all x [] h = refl
rises-all x (y ∷ ys) h = rises-all y ys rest ∙ ap (λ (b : Bool). b && rises_from y ys) (h 0 0 (omega arith))
  where
    rest : AllAdjacentBelow (λ a b. true ≡ ltb a b) (y ∷ ys) (suc (length ys))
    rest k d lt =
        h (suc k) d (omega arith)
        ∙ ap (λ n. ltb (get_or (y ∷ ys) k d) (get_or (x ∷ y ∷ ys) n d)) (add-one (suc k))
        ∙ ap (λ n. ltb (get_or (y ∷ ys) k d) (get_or (y ∷ ys) n d)) (sym (add-one k))

falls-at : (x : ℕ) (xs : List ℕ) (k : ℕ) → k + 1 < suc (length xs) → ((d : ℕ) → false ≡ ltb (get_or (x ∷ xs) k d) (get_or (x ∷ xs) (k + 1) d)) → false ≡ rises_from x xs
unfolding rises_from
falls-at x [] k lt h = absurd (omega arith)
falls-at x (y ∷ ys) zero lt h = ap (λ (b : Bool). b && rises_from y ys) (h 0)
falls-at x (y ∷ ys) (suc k) lt h = go (ltb x y) (falls-at y ys k (omega arith) rest)
  where
    rest : (d : ℕ) → false ≡ ltb (get_or (y ∷ ys) k d) (get_or (y ∷ ys) (k + 1) d)
    rest d =
        h d
        ∙ ap (λ n. ltb (get_or (y ∷ ys) k d) (get_or (x ∷ y ∷ ys) n d)) (add-one (suc k))
        ∙ ap (λ n. ltb (get_or (y ∷ ys) k d) (get_or (y ∷ ys) n d)) (sym (add-one k))

    go : (b : Bool) → false ≡ rises_from y ys → false ≡ b && rises_from y ys
    go true e = e
    go false e = refl

rises-is : (x : ℕ) (xs : List ℕ) (b : Bool) → IsAllAdjacentAnswer (λ y z r. r ≡ ltb y z) (x ∷ xs) b → b ≡ rises_from x xs
rises-is x xs true h = rises-all x xs h
rises-is x xs false (k, lt, h) = falls-at x xs k lt h

-- where the first is not 0
pub rises-sorted : (xs : List ℕ) (b : Bool) → IsAllAdjacentAnswer (λ y z r. r ≡ ltb y z) xs b → (0 < length xs → get_or xs 0 0 ≢ 0) → b ≡ rises_from 0 xs
unfolding rises_from
rises-sorted [] true h some = refl
rises-sorted [] false (k, lt, h) some = absurd (omega arith)
rises-sorted (x ∷ xs) b h some =
    let first : x ≢ 0 = some (omega arith) in
    rises-is x xs b h ∙ ap (λ (c : Bool). c && rises_from x xs) (sym (lt-ltb 0 x (omega arith)))

-- ---- `all` of a test
all-true : (test : ℕ → Bool) (xs : List ℕ) → ((k : ℕ) (d : ℕ) → k < length xs → test (get_or xs k d) ≡ true) → true ≡ every test xs
all-true test [] h = refl
all-true test (x ∷ xs) h = all-true test xs (λ k d lt. h (suc k) d (omega arith)) ∙ ap (λ (b : Bool). b && every test xs) (sym (h 0 0 (omega arith)))

all-false : (test : ℕ → Bool) (xs : List ℕ) (k : ℕ) → k < length xs → ((d : ℕ) → test (get_or xs k d) ≡ false) → false ≡ every test xs
all-false test [] k lt h = absurd (omega arith)
all-false test (x ∷ xs) zero lt h = ap (λ (b : Bool). b && every test xs) (sym (h 0))
all-false test (x ∷ xs) (suc k) lt h = go (test x) (all-false test xs k (omega arith) h)
  where
    go : (b : Bool) → false ≡ every test xs → false ≡ b && every test xs
    go true e = e
    go false e = refl

pub every-from_all : (test : ℕ → Bool) (xs : List ℕ) (r : Bool)
    → MatchBool r (AllWithin (λ x. test x ≡ true) xs 0 (length xs)) ((k : ℕ) × (k < length xs) × HoldsAt (λ x. test x ≡ false) xs k) → r ≡ every test xs
every-from_all test xs true h = all-true test xs (λ k d lt. h k d (omega arith) lt)
every-from_all test xs false (k, lt, h) = all-false test xs k lt h

-- ---- what is left of a slice behind place i
rest_is : (xs : List ℕ) (n : ℕ) → take (length xs - n) (drop n xs) ≡ drop n xs
rest_is xs n = take_all (length xs - n) (drop n xs) (omega (arith, length-drop n xs))

module _ (xs : List ℕ) (i : ℕ) {v : ℕ} {r : Bool} (lt : i < length xs) (is : v ≡ get_or xs i 0) (said : r ≡ every (fits v) (take (length xs - (i + 1)) (drop (i + 1) xs))) where
  so : every (fits (get_or xs i 0)) (drop (i + 1) xs) ≡ r
  so = ap (λ (w : ℕ). every (fits w) (drop (i + 1) xs)) (sym is) ∙ ap (every (fits v)) (sym (rest_is xs (i + 1))) ∙ sym said

  pub fits-not : r ≡ false → false ≡ all_fit (drop i xs)
  fits-not e = fit-not xs i lt (so ∙ e)

  pub fits-on : r ≡ true → all_fit (drop i xs) ≡ all_fit (drop (i + 1) xs)
  fits-on e = fit_on xs i lt (so ∙ e)

-- no number, and a first one that is 0
pub rises-none : (xs : List ℕ) → length xs ≡ 0 → true ≡ rises_from 0 xs
unfolding rises_from
rises-none [] h = refl
rises-none (x ∷ xs) h = absurd (omega arith)

pub rises-zero : (xs : List ℕ) → 0 < length xs → get_or xs 0 0 ≡ 0 → false ≡ rises_from 0 xs
rises-zero xs h e = rises-not xs 0 0 h (omega arith)
