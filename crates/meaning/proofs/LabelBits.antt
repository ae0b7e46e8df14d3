-- Numbers as sets of labels: what sums and the bit operations do to the labels, and which label is the lowest.
-- Assumes nothing.
use mathlib.Core.Path.{◌≡◌, refl, sym, ap, ◌∙◌, subst}
use mathlib.Core.Logic.{◌↔◌, ◌⊎◌, inl, inr}
use Prim.Native.Nat.{ℕ, zero, suc, ◌+◌, ◌/◌, ◌%◌, ◌^◌, ◌≤◌, ◌<◌, min}
use native.Mathlib.Nat.{pow-suc}
use native.Mathlib.Omega.{arith}
use lib.Arith.{bin_ind}
use lib.Bits.{bit_and, and_step, and_le_l, or_lt, or_disjoint}
use lib.Count.{count_trailing_zeros, under}
use lib.Dec.{T}
use Rattle.meaning.specs.Clade.{digit, HasLabel, lowest, inside, disjoint}
use Rattle.meaning.proofs.Logic.{T-eq}

-- ---- bits
-- a bit is 0 or 1
pub digit-le : (l x : ℕ) → digit l x ≤ 1
unfolding digit
digit-le zero x = omega arith
digit-le (suc zero) x = omega arith
digit-le (suc (suc k)) x = digit-le (suc k) (x / 2)

digit-cases : (l x : ℕ) → (digit l x ≡ 0) ⊎ HasLabel l x
digit-cases l x = go (digit l x) refl
  where
    go : (d : ℕ) → digit l x ≡ d → (digit l x ≡ 0) ⊎ HasLabel l x
    go zero e = inl e
    go (suc d) e = inr (omega (arith, digit-le l x))

pub digit-zero : (l : ℕ) → digit l 0 ≡ 0
unfolding digit
digit-zero zero = refl
digit-zero (suc zero) = refl
digit-zero (suc (suc k)) = digit-zero (suc k)

-- those of two numbers that are both set
and-half : (x y : ℕ) → bit_and x y / 2 ≡ bit_and (x / 2) (y / 2)
and-half x y = omega (arith, and_step x y)

pub digit_and : (l x y : ℕ) → digit l (bit_and x y) ≡ min (digit l x) (digit l y)
unfolding digit
digit_and zero x y = omega arith
digit_and (suc zero) x y = omega (arith, and_step x y)
digit_and (suc (suc k)) x y = ap (digit (suc k)) (and-half x y) ∙ digit_and (suc k) (x / 2) (y / 2)

-- ---- labels of two numbers
-- no label is in both
pub record Clear (x y : ℕ) : Type 0 where
  pub once : (l : ℕ) → digit l x + digit l y ≤ 1

-- each label of x is one of y
pub record Under (x y : ℕ) : Type 0 where
  pub keeps : (l : ℕ) → digit l x ≤ digit l y

-- the same said of labels
pub clear-iff : (x y : ℕ) → Clear x y ↔ ((l : ℕ) → HasLabel l x → HasLabel l y → ⊥)
clear-iff x y = (λ c l h k. omega (arith, c.once l), λ f. record { once = λ l. go l f (digit-cases l x) (digit-cases l y) })
  where
    go : (l : ℕ) → ((l : ℕ) → HasLabel l x → HasLabel l y → ⊥) → (digit l x ≡ 0) ⊎ HasLabel l x → (digit l y ≡ 0) ⊎ HasLabel l y → digit l x + digit l y ≤ 1
    go l f (inl e) k = omega (arith, digit-le l y)
    go l f (inr h) (inl e) = omega arith
    go l f (inr h) (inr k) = absurd (f l h k)

pub under-iff : (x y : ℕ) → Under x y ↔ ((l : ℕ) → HasLabel l x → HasLabel l y)
under-iff x y = (λ u l h. omega (arith, u.keeps l, digit-le l y), λ f. record { keeps = λ l. go l f (digit-cases l x) })
  where
    go : (l : ℕ) → ((l : ℕ) → HasLabel l x → HasLabel l y) → (digit l x ≡ 0) ⊎ HasLabel l x → digit l x ≤ digit l y
    go l f (inl e) = omega arith
    go l f (inr h) = omega (arith, f l h)

-- and so without the lowest bit
pub clear-half : {x y : ℕ} → Clear x y → Clear (x / 2) (y / 2)
unfolding digit
clear-half {x} {y} c = record { once = go }
  where
    go : (l : ℕ) → digit l (x / 2) + digit l (y / 2) ≤ 1
    go zero = omega arith
    go (suc k) = c.once (suc (suc k))

pub under-half : {x y : ℕ} → Under x y → Under (x / 2) (y / 2)
unfolding digit
under-half {x} {y} u = record { keeps = go }
  where
    go : (l : ℕ) → digit l (x / 2) ≤ digit l (y / 2)
    go zero = omega arith
    go (suc k) = u.keeps (suc (suc k))

-- a part is no larger as a number, so numbers with the same labels are equal
pub under-le : (x y : ℕ) → Under x y → x ≤ y
unfolding digit
under-le = bin_ind (λ (x : ℕ). (y : ℕ) → Under x y → x ≤ y) (λ y u. omega arith) (λ x ih y u. omega (arith, u.keeps 1, ih (y / 2) (under-half u)))

pub under_same : {x y : ℕ} → Under x y → Under y x → x ≡ y
under_same {x} {y} u v = omega (arith, under-le x y u, under-le y x v)

-- ---- the tests
and-under : {c d : ℕ} → Under c d → Under c (bit_and c d)
and-under {c} {d} u = record { keeps = λ l. omega (arith, digit_and l c d, u.keeps l) }

pub inside-iff : (c d : ℕ) → T (inside c d) ↔ Under c d
inside-iff c d = (
  λ t. record { keeps = λ l. omega (arith, ap (digit l) ((T-eq (bit_and c d) c).0 t), digit_and l c d) },
  λ u. (T-eq (bit_and c d) c).1 (omega (arith, and_le_l c d, under-le c (bit_and c d) (and-under u))),
)

clear-and : {c d : ℕ} → Clear c d → Under (bit_and c d) 0
clear-and {c} {d} k = record { keeps = λ l. omega (arith, digit_and l c d, k.once l) }

and_none : {c d : ℕ} → Clear c d → bit_and c d ≡ 0
and_none {c} {d} k = omega (arith, under-le (bit_and c d) 0 (clear-and k))

pub disjoint_iff : (c d : ℕ) → T (disjoint c d) ↔ Clear c d
disjoint_iff c d = (
  λ t. record { once = λ l. omega (arith, ap (digit l) ((T-eq (bit_and c d) 0).0 t), digit_and l c d, digit-zero l, digit-le l c, digit-le l d) },
  λ k. (T-eq (bit_and c d) 0).1 (and_none k),
)

-- ---- sums of clear numbers
pub digit-add : (l x y : ℕ) → Clear x y → digit l (x + y) ≡ digit l x + digit l y
unfolding digit
digit-add zero x y c = omega arith
digit-add (suc zero) x y c = omega (arith, c.once 1)
digit-add (suc (suc k)) x y c =
    let e : (x + y) / 2 ≡ x / 2 + y / 2 = omega (arith, c.once 1) in
    ap (digit (suc k)) e ∙ digit-add (suc k) (x / 2) (y / 2) (clear-half c)

-- they have the labels of both
pub label-add : {x y : ℕ} → Clear x y → (l : ℕ) → HasLabel l (x + y) ↔ (HasLabel l x ⊎ HasLabel l y)
label-add {x} {y} c l = (either (digit-cases l x), sides)
  where
    sum : digit l (x + y) ≡ digit l x + digit l y
    sum = digit-add l x y c

    either : (digit l x ≡ 0) ⊎ HasLabel l x → HasLabel l (x + y) → HasLabel l x ⊎ HasLabel l y
    either (inl e) h = inr (omega (arith, sum))
    either (inr k) h = inl k

    sides : HasLabel l x ⊎ HasLabel l y → HasLabel l (x + y)
    sides (inl h) = omega (arith, sum, c.once l)
    sides (inr h) = omega (arith, sum, c.once l)

-- and no more bits
pub add-lt : {x y : ℕ} (k : ℕ) → Clear x y → x < 2 ^ k → y < 2 ^ k → x + y < 2 ^ k
add-lt {x} {y} k c h g = subst (λ (z : ℕ). z < 2 ^ k) (or_disjoint x y (and_none c)) (or_lt k x y h g)

-- ---- powers of two
pub half_pow : (j : ℕ) → 2 ^ suc j / 2 ≡ 2 ^ j
half_pow j = omega (arith, pow-suc 2 j)

pub pow-has : (j : ℕ) → HasLabel (suc j) (2 ^ j)
unfolding digit
pow-has zero = refl
pow-has (suc j) = ap (digit (suc j)) (half_pow j) ∙ pow-has j

pow-only : (l j : ℕ) → HasLabel l (2 ^ j) → l ≡ suc j
unfolding digit
pow-only zero j h = absurd (omega arith)
pow-only (suc zero) zero h = refl
pow-only (suc zero) (suc j) h = absurd (omega (arith, pow-suc 2 j))
pow-only (suc (suc k)) zero h = absurd (omega (arith, digit-zero (suc k)))
pow-only (suc (suc k)) (suc j) h = ap suc (pow-only (suc k) j (ap (digit (suc k)) (sym (half_pow j)) ∙ h))

-- they have one label
pub label-pow : (l j : ℕ) → HasLabel l (2 ^ j) ↔ (l ≡ suc j)
label-pow l j = (pow-only l j, λ e. subst (λ (k : ℕ). HasLabel k (2 ^ j)) (sym e) (pow-has j))

-- ---- the lowest label
-- it is one of the labels
low-in : (k x : ℕ) → 0 < x → x < 2 ^ k → HasLabel (suc (count_trailing_zeros k x)) x
unfolding digit count_trailing_zeros
low-in zero x h g = absurd (omega arith)
low-in (suc k) x h g = go (x % 2) refl (λ p. low-in k (x / 2) p (omega (arith, pow-suc 2 k)))
  where
    go : (d : ℕ) → x % 2 ≡ d → (0 < x / 2 → HasLabel (suc (count_trailing_zeros k (x / 2))) (x / 2)) → HasLabel (suc (under d (count_trailing_zeros k (x / 2)))) x
    go zero e f = f (omega arith)
    go (suc d) e f = omega arith

pub lowest-in : (x : ℕ) → 0 < x → x < 2 ^ 64 → HasLabel (lowest x) x
lowest-in x h g = low-in 64 x h g

-- and no label is below it
low-le : (k l x : ℕ) → HasLabel l x → suc (count_trailing_zeros k x) ≤ l
unfolding digit count_trailing_zeros
low-le k zero x h = absurd (omega arith)
low-le zero (suc l) x h = omega arith
low-le (suc k) (suc zero) x h = go (x % 2) h
  where
    go : (d : ℕ) → d ≡ 1 → suc (under d (count_trailing_zeros k (x / 2))) ≤ 1
    go zero e = absurd (omega arith)
    go (suc d) e = omega arith
low-le (suc k) (suc (suc l)) x h = go (x % 2) (low-le k (suc l) (x / 2) h)
  where
    go : (d : ℕ) → suc (count_trailing_zeros k (x / 2)) ≤ suc l → suc (under d (count_trailing_zeros k (x / 2))) ≤ suc (suc l)
    go zero e = omega arith
    go (suc d) e = omega arith

pub lowest-le : (l x : ℕ) → HasLabel l x → lowest x ≤ l
lowest-le l x h = low-le 64 l x h
