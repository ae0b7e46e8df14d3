-- What the test of a row says: a label set of 64 bits, and one clade fewer than labels, ascending, which are a family in that set.
-- Assumes nothing.
use mathlib.Core.Path.{◌≡◌, refl, sym, subst, ◌∙◌}
use mathlib.Core.Logic.{◌↔◌}
use mathlib.Core.Bool.{Bool, true, false, ◌&&◌, ◌||◌}
use mathlib.Core.List.Memᴰ
use mathlib.Core.List.{List, [], ◌∷◌, Memᴰ}
use Prim.Native.Nat.{ℕ, zero, suc, ◌^◌, ◌<◌}
use native.Mathlib.Omega.{arith}
use lib.Dec.{T, leb, ltb, eqb, leb→le, le→leb, ltb→lt, lt→ltb, nltb→le}
use lib.ListN.{length, get_or}
use Rattle.meaning.specs.Limits.{max_label}
use Rattle.meaning.specs.Lists.{every}
use Rattle.meaning.specs.Clade.{inside, disjoint}
use Rattle.meaning.proofs.Logic.{T-eq, T_and, T-left, T-right}
use Rattle.meaning.proofs.Lists.{every-mem, numbered}
use Rattle.meaning.proofs.LabelBits.{Clear, Under, inside-iff, disjoint_iff}
use Rattle.families.specs.Clades.{size}
use Rattle.families.specs.Row.{rises_from, fits, all_fit, part_of, is_row}
use Rattle.families.proofs.Sizes.{under-self, clear-sym, size-some}
use Rattle.families.proofs.Clades.{Fit, within, around, beside}
use Rattle.meaning.specs.Sorted.{Sorted}
use Rattle.meaning.proofs.Sorted.{Strict, sorted-nodup}
use Rattle.families.proofs.Laminar.{Family}

-- ---- ascending numbers
pub rising : Strict (λ _. Unit {0}) ltb
rising = record {
  asym = λ x y s t. omega (arith, ltb→lt x y s, ltb→lt y x t);
  trans = λ x y z s t. let h : x < z = omega (arith, ltb→lt x y s, ltb→lt y z t) in lt→ltb x z h;
  total = λ x y _ _ n t. let h : y < x = omega (arith, nltb→le x y t) in lt→ltb y x h;
}

-- the test of neighbours
rises-parts : (from x : ℕ) (xs : List ℕ) → T (rises_from from (x ∷ xs)) → (from < x) × T (rises_from x xs)
unfolding rises_from
rises-parts from x xs t = let (p, q) = (T_and (ltb from x) (rises_from x xs)).0 t in (ltb→lt from x p, q)

above : (from : ℕ) (xs : List ℕ) → T (rises_from from xs) → (y : ℕ) → Memᴰ y xs → from < y
above from [] t y m = absurd (Memᴰ.not-nil m)
above from (x ∷ xs) t y (Memᴰ.head e) = omega (arith, e, (rises-parts from x xs t).0)
above from (x ∷ xs) t y (Memᴰ.tail m) = let (p, q) = rises-parts from x xs t in omega (arith, p, above x xs q y m)

-- passes for sorted numbers
pub rises_sorted : (from : ℕ) (xs : List ℕ) → T (rises_from from xs) → Sorted ltb xs
rises_sorted from [] t = tt
rises_sorted from (x ∷ xs) t = let (p, q) = rises-parts from x xs t in (λ y m. lt→ltb x y (above x xs q y m), rises_sorted x xs q)

pub sorted_rises : (from : ℕ) (xs : List ℕ) → Sorted ltb xs → ((y : ℕ) → Memᴰ y xs → from < y) → T (rises_from from xs)
unfolding rises_from
sorted_rises from [] r f = tt
sorted_rises from (x ∷ xs) r f = (T_and (ltb from x) (rises_from x xs)).1 (lt→ltb from x (f x (Memᴰ.head refl)), sorted_rises x xs r.1 (λ y m. ltb→lt x y (r.0 y m)))

-- by their places
pub rises-at : (xs : List ℕ) → Sorted ltb xs → (i j : ℕ) → i < j → j < length xs → get_or xs i 0 < get_or xs j 0
rises-at [] r i j h g = absurd (omega arith)
rises-at (x ∷ xs) r i zero h g = absurd (omega arith)
rises-at (x ∷ xs) r zero (suc j) h g = ltb→lt x (get_or xs j 0) (r.0 (get_or xs j 0) (numbered xs 0 j (omega arith)))
rises-at (x ∷ xs) r (suc i) (suc j) h g = rises-at xs r.1 i j (omega arith) (omega arith)

-- ---- every member, and any two
mem-every : (test : ℕ → Bool) (xs : List ℕ) → ((x : ℕ) → Memᴰ x xs → T (test x)) → T (every test xs)
mem-every test [] f = tt
mem-every test (y ∷ ys) f = (T_and (test y) (every test ys)).1 (f y (Memᴰ.head refl), mem-every test ys (λ x m. f x (Memᴰ.tail m)))

pub fits_iff : (c d : ℕ) → T (fits c d) ↔ Fit c d
fits_iff c d = (go (inside c d) (inside d c) (disjoint c d) (inside-iff c d).0 (inside-iff d c).0 (disjoint_iff c d).0, back)
  where
    go : (p q r : Bool) → (T p → Under c d) → (T q → Under d c) → (T r → Clear c d) → T (p || (q || r)) → Fit c d
    go true q r f g h t = within (f tt)
    go false true r f g h t = around (g tt)
    go false false r f g h t = beside (h t)

    back : Fit c d → T (fits c d)
    back (within u) = T-left (inside c d) (inside d c || disjoint c d) ((inside-iff c d).1 u)
    back (around u) = T-right (inside c d) (inside d c || disjoint c d) (T-left (inside d c) (disjoint c d) ((inside-iff d c).1 u))
    back (beside k) = T-right (inside c d) (inside d c || disjoint c d) (T-right (inside d c) (disjoint c d) ((disjoint_iff c d).1 k))

fit-sym : {c d : ℕ} → Fit c d → Fit d c
fit-sym (within u) = around u
fit-sym (around u) = within u
fit-sym (beside k) = beside (clear-sym k)

-- any two members fit
abbrev AllFit : List ℕ → Type 0
AllFit cs = (c d : ℕ) → Memᴰ c cs → Memᴰ d cs → Fit c d

test-fit : (cs : List ℕ) → T (all_fit cs) → AllFit cs
unfolding all_fit
test-fit [] t c d m n = absurd (Memᴰ.not-nil m)
test-fit (x ∷ xs) t c d m n =
    let (first, rest) = (T_and (every (fits x) xs) (all_fit xs)).0 t in
    more (λ y i. (fits_iff x y).0 (every-mem (fits x) first i)) (test-fit xs rest) c d m n
  where
    more : ((y : ℕ) → Memᴰ y xs → Fit x y) → AllFit xs → AllFit (x ∷ xs)
    more f g c d (Memᴰ.head p) (Memᴰ.head q) = within (subst (Under c) (p ∙ sym q) under-self)
    more f g c d (Memᴰ.head p) (Memᴰ.tail n) = subst (λ (y : ℕ). Fit y d) (sym p) (f d n)
    more f g c d (Memᴰ.tail m) (Memᴰ.head q) = subst (Fit c) (sym q) (fit-sym (f c m))
    more f g c d (Memᴰ.tail m) (Memᴰ.tail n) = g c d m n

fit-test : (cs : List ℕ) → AllFit cs → T (all_fit cs)
unfolding all_fit
fit-test [] f = tt
fit-test (x ∷ xs) f =
    (T_and (every (fits x) xs) (all_fit xs)).1
    (mem-every (fits x) xs (λ d m. (fits_iff x d).1 (f x d (Memᴰ.head refl) (Memᴰ.tail m))), fit-test xs (λ c d m n. f c d (Memᴰ.tail m) (Memᴰ.tail n)))

-- ---- the test of a row
pub record RowOf (s : ℕ) (cs : List ℕ) : Type 0 where
  pub small : s < 2 ^ 64
  pub number : size s ≡ suc (length cs)
  pub ascending : Sorted ltb cs
  pub family : Family cs
  pub parts : (d : ℕ) → Memᴰ d cs → Under d s

test-row : (s : ℕ) (cs : List ℕ) → T (is_row (s ∷ cs)) → RowOf s cs
unfolding is_row
test-row s cs t =
    let (a, t₁) = (T_and (ltb s (2 ^ max_label)) (eqb (size s) (suc (length cs)) && (rises_from 0 cs && (every (part_of s) cs && all_fit cs)))).0 t in
    let (b, t₂) = (T_and (eqb (size s) (suc (length cs))) (rises_from 0 cs && (every (part_of s) cs && all_fit cs))).0 t₁ in
    let (c, t₃) = (T_and (rises_from 0 cs) (every (part_of s) cs && all_fit cs)).0 t₂ in
    let (d, e) = (T_and (every (part_of s) cs) (all_fit cs)).0 t₃ in
    let order = rises_sorted 0 cs c in
    record {
      small = ltb→lt s (2 ^ max_label) a;
      number = (T-eq (size s) (suc (length cs))).0 b;
      ascending = order;
      family = record {
        once = sorted-nodup ltb rising cs order;
        large = λ x m. leb→le 2 (size x) ((T_and (leb 2 (size x)) (inside x s)).0 (every-mem (part_of s) d m)).0;
        fit = test-fit cs e;
      };
      parts = λ x m. (inside-iff x s).0 ((T_and (leb 2 (size x)) (inside x s)).0 (every-mem (part_of s) d m)).1;
    }

row-test : (s : ℕ) (cs : List ℕ) → RowOf s cs → T (is_row (s ∷ cs))
unfolding is_row
row-test s cs R =
    let parts : T (every (part_of s) cs) =
    mem-every (part_of s) cs (λ x m. (T_and (leb 2 (size x)) (inside x s)).1 (le→leb 2 (size x) (R.family.large x m), (inside-iff x s).1 (R.parts x m))) in
    let order : T (rises_from 0 cs) = sorted_rises 0 cs R.ascending (λ y m. size-some y (omega (arith, R.family.large y m))) in
    let t₃ = (T_and (every (part_of s) cs) (all_fit cs)).1 (parts, fit-test cs R.family.fit) in
    let t₂ = (T_and (rises_from 0 cs) (every (part_of s) cs && all_fit cs)).1 (order, t₃) in
    let t₁ = (T_and (eqb (size s) (suc (length cs))) (rises_from 0 cs && (every (part_of s) cs && all_fit cs))).1 ((T-eq (size s) (suc (length cs))).1 R.number, t₂) in
    (T_and (ltb s (2 ^ max_label)) (eqb (size s) (suc (length cs)) && (rises_from 0 cs && (every (part_of s) cs && all_fit cs)))).1 (lt→ltb s (2 ^ max_label) R.small, t₁)

pub is-row-iff : (s : ℕ) (cs : List ℕ) → T (is_row (s ∷ cs)) ↔ RowOf s cs
is-row-iff s cs = (test-row s cs, row-test s cs)
