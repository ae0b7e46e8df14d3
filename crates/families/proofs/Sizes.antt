-- Numbers as sets of labels: a part and what is left without it, and how many labels there are.
-- Assumes nothing.
use mathlib.Core.Path.{◌≡◌, refl, ap, ◌∙◌}
use Prim.Native.Nat.{ℕ, zero, suc, ◌+◌, ◌-◌, ◌/◌, ◌%◌, ◌^◌, ◌≤◌, ◌<◌}
use native.Mathlib.Nat.{pow-suc}
use native.Mathlib.Omega.{arith}
use lib.Bits.{bit_and, bit_or, or_disjoint}
use lib.Count.{ones_in, ones, ones_step}
use Rattle.meaning.specs.Limits.{max_label}
use Rattle.meaning.specs.Clade.{digit, HasLabel}
use Rattle.meaning.proofs.Logic.{T-eq}
use Rattle.meaning.proofs.LabelBits.{Clear, Under, digit-le, digit-zero, digit-add, clear-half, under-half, under-le, half_pow, disjoint_iff}
use Rattle.families.specs.Clades.{size}

-- ---- parts
-- the difference has the labels of the one alone
pub digit-sub : (l x y : ℕ) → Under y x → digit l (x - y) ≡ digit l x - digit l y
unfolding digit
digit-sub zero x y u = omega arith
digit-sub (suc zero) x y u = omega (arith, u.keeps 1, under-le y x u)
digit-sub (suc (suc k)) x y u =
    let e : (x - y) / 2 ≡ x / 2 - y / 2 = omega (arith, u.keeps 1, under-le y x u) in
    ap (digit (suc k)) e ∙ digit-sub (suc k) (x / 2) (y / 2) (under-half u)

pub clear-sym : {x y : ℕ} → Clear x y → Clear y x
clear-sym c = record { once = λ l. omega (arith, c.once l) }

pub under-self : {x : ℕ} → Under x x
under-self = record { keeps = λ l. omega arith }

pub under-trans : {x y z : ℕ} → Under x y → Under y z → Under x z
under-trans u v = record { keeps = λ l. omega (arith, u.keeps l, v.keeps l) }

-- parts of numbers without a common label have none
pub clear-parts : {c d x y : ℕ} → Under c x → Under d y → Clear x y → Clear c d
clear-parts u v k = record { once = λ l. omega (arith, u.keeps l, v.keeps l, k.once l) }

-- a part, and what is left of the whole without it
pub rest-clear : {x y : ℕ} → Under y x → Clear y (x - y)
rest-clear {x} {y} u = record { once = λ l. omega (arith, digit-sub l x y u, digit-le l x, u.keeps l) }

pub rest_under : {x y : ℕ} → Under y x → Under (x - y) x
rest_under {x} {y} u = record { keeps = λ l. omega (arith, digit-sub l x y u) }

pub rest_sum : {x y : ℕ} → Under y x → y + (x - y) ≡ x
rest_sum {x} {y} u = omega (arith, under-le y x u)

-- clear numbers in their sum
pub sum_left : {x y : ℕ} → Clear x y → Under x (x + y)
sum_left {x} {y} c = record { keeps = λ l. omega (arith, digit-add l x y c) }

pub sum-right : {x y : ℕ} → Clear x y → Under y (x + y)
sum-right {x} {y} c = record { keeps = λ l. omega (arith, digit-add l x y c) }

-- `|` of clear numbers
pub or-sum : {x y : ℕ} → Clear x y → bit_or x y ≡ x + y
or-sum {x} {y} c = or_disjoint x y ((T-eq (bit_and x y) 0).0 ((disjoint_iff x y).1 c))

-- a number below 2 ^ k has labels 1 to k only
label-le : (k l x : ℕ) → x < 2 ^ k → HasLabel l x → (1 ≤ l) × (l ≤ k)
unfolding digit
label-le k zero x h e = absurd (omega arith)
label-le zero (suc l) x h e = let z : x ≡ 0 = omega arith in absurd (omega (arith, ap (digit (suc l)) z, digit-zero (suc l)))
label-le (suc k) (suc zero) x h e = omega arith
label-le (suc k) (suc (suc l)) x h e = let (p, q) = label-le k (suc l) (x / 2) (omega (arith, pow-suc 2 k)) e in omega arith

pub label-64 : (l x : ℕ) → x < 2 ^ 64 → HasLabel l x → (1 ≤ l) × (l ≤ max_label)
label-64 l x h e = label-le max_label l x h e

-- ---- how many labels
none_in : (k : ℕ) → ones_in k 0 ≡ 0
unfolding ones_in
none_in zero = refl
none_in (suc k) = omega (arith, none_in k)

in-none : (k x : ℕ) → x < 2 ^ k → ones_in k x ≡ 0 → x ≡ 0
unfolding ones_in
in-none zero x h e = omega arith
in-none (suc k) x h e = omega (arith, pow-suc 2 k, in-none k (x / 2) (omega (arith, pow-suc 2 k)) (omega arith))

add-in : (k x y : ℕ) → Clear x y → ones_in k (x + y) ≡ ones_in k x + ones_in k y
unfolding ones_in digit
add-in zero x y c = refl
add-in (suc k) x y c =
    let e : (x + y) / 2 ≡ x / 2 + y / 2 = omega (arith, c.once 1) in
    rw e (omega (arith, c.once 1, add-in k (x / 2) (y / 2) (clear-half c)))

one_in : (k j : ℕ) → j < k → ones_in k (2 ^ j) ≡ 1
unfolding ones_in
one_in zero j h = absurd (omega arith)
one_in (suc k) zero h = omega (arith, none_in k)
one_in (suc k) (suc j) h = rw (half_pow j) (omega (arith, pow-suc 2 j, one_in k j (omega arith)))

in-le : (k x : ℕ) → ones_in k x ≤ k
unfolding ones_in
in-le zero x = omega arith
in-le (suc k) x = omega (arith, in-le k (x / 2))

pub size-le : (x : ℕ) → size x ≤ max_label
unfolding size
size-le x = in-le max_label x

-- none in 0 only
pub size-zero : size 0 ≡ 0
unfolding size
size-zero = none_in max_label

pub size-some : (x : ℕ) → 0 < size x → 0 < x
size-some zero h = absurd (omega (arith, size-zero))
size-some (suc x) h = omega arith

pub size_none : (x : ℕ) → x < 2 ^ 64 → size x ≡ 0 → x ≡ 0
unfolding size
size_none x h e = in-none max_label x h e

-- those of both in a clear sum
pub size-add : (x y : ℕ) → Clear x y → size (x + y) ≡ size x + size y
unfolding size
size-add x y c = add-in max_label x y c

-- one in a power of two
pub size-pow : (j : ℕ) → j < max_label → size (2 ^ j) ≡ 1
unfolding size
size-pow j h = one_in max_label j h

pub rest-size : {x y : ℕ} → Under y x → size x ≡ size y + size (x - y)
rest-size {x} {y} u = let e : x ≡ y + (x - y) = omega (arith, under-le y x u) in ap size e ∙ size-add y (x - y) (rest-clear u)

-- a part has no more labels
pub under-size : {x y : ℕ} → Under y x → size y ≤ size x
under-size u = omega (arith, rest-size u)

-- a number clear of itself has none
clear-under : {c : ℕ} → Clear c c → Under c 0
clear-under k = record { keeps = λ l. omega (arith, k.once l) }

pub clear-differ : {c : ℕ} → Clear c c → 2 ≤ size c → ⊥
clear-differ {c} k h = let z : c ≡ 0 = omega (arith, under-le c 0 (clear-under k)) in omega (arith, ap size z, size-zero)

-- `count_ones` of a 64-bit number
ones-in : (k x : ℕ) → x < 2 ^ k → ones x ≡ ones_in k x
unfolding ones_in
ones-in zero x h = let z : x ≡ 0 = omega arith in ap ones z ∙ unfold ones in refl
ones-in (suc k) x h = ones_step x ∙ ap (λ (n : ℕ). x % 2 + n) (ones-in k (x / 2) (omega (arith, pow-suc 2 k)))

pub ones-size : (x : ℕ) → x < 2 ^ 64 → ones x ≡ size x
unfolding size
ones-size x h = ones-in max_label x h
