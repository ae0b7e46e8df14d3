-- Sums over lists and over the positions 0 to k - 1, tests as the numbers 1 and 0, and how many numbers can differ.
-- Assumes nothing.
use mathlib.Core.Path.{◌≡◌, refl, sym, ap, ap₂, ◌∙◌}
use mathlib.Core.Logic.{◌≢◌, ◌↔◌}
use mathlib.Core.Bool.{Bool, true, false, ◌&&◌, ◌||◌, and_comm}
use mathlib.Core.List.Memᴰ
use mathlib.Core.List.{List, [], ◌∷◌, ◌++◌, map, map-append, Memᴰ}
use Prim.Native.Nat.{ℕ, zero, suc, ◌+◌, ◌*◌, ◌≤◌, ◌<◌}
use native.Mathlib.Nat.{zero-mul, suc-mul}
use native.Mathlib.Omega.{arith}
use native.Mathlib.Decide.{ℕ_discrete}
use borrow.Author.Tests.{eq-eqb, ne_eqb}
use lib.Dec.{T, eqb}
use lib.ListN.{length, get_or, length-append, get_or-append}
use lib.Seq.{get_or_at}
use Rattle.meaning.specs.Lists.{NoDup, count, positions, sum, upto, bit}

sum-append : (xs ys : List ℕ) → sum (xs ++ ys) ≡ sum xs + sum ys
sum-append [] ys = omega arith
sum-append (x ∷ xs) ys = omega (arith, sum-append xs ys)

-- how many pass a test, in two lists together
pub count-append : {A : Type 0} (test : A → Bool) (xs ys : List A) → count test (xs ++ ys) ≡ count test xs + count test ys
count-append test [] ys = omega arith
count-append test (x ∷ xs) ys = omega (arith, count-append test xs ys)

-- and among what f makes of a list
pub count_map : {A B : Type 0} (test : B → Bool) (f : A → B) (xs : List A) → count test (map f xs) ≡ count (λ x. test (f x)) xs
count_map test f [] = refl
count_map test f (x ∷ xs) = omega (arith, count_map test f xs)

module _ (f : ℕ → ℕ) where
  map-none : map f (positions zero) ≡ []
  unfolding positions
  map-none = refl

  -- f at one position more
  pub map-suc : (k : ℕ) → map f (positions (suc k)) ≡ map f (positions k) ++ (f k ∷ [])
  unfolding positions
  map-suc k = map-append f (positions k) (k ∷ [])

  -- f at each position: k numbers
  pub map-length : (k : ℕ) → length (map f (positions k)) ≡ k
  unfolding positions
  map-length zero = refl
  map-length (suc k) = simp (map-suc, length-append) (omega (arith, map-length k))

  -- the i-th is f i
  pub map_at : (k i : ℕ) → i < k → get_or (map f (positions k)) i 0 ≡ f i
  map_at zero i h = absurd (omega arith)
  map_at (suc k) i h = ap (λ (l : List ℕ). get_or l i 0) (map-suc k) ∙ go (ℕ_discrete k i) (map_at k i)
    where
      go : Dec (k ≡ i) → (i < k → get_or (map f (positions k)) i 0 ≡ f i) → get_or (map f (positions k) ++ (f k ∷ [])) i 0 ≡ f i
      go (yes e) g = get_or_at (map f (positions k)) (f k) [] 0 i (map-length k ∙ e) ∙ ap f e
      go (no n) g = get_or-append (map f (positions k)) (f k ∷ []) 0 i (omega (arith, map-length k)) ∙ g (omega arith)

  -- and their sum
  pub map-sum : (k : ℕ) → sum (map f (positions k)) ≡ upto f k
  unfolding positions
  map-sum zero = refl
  map-sum (suc k) = simp (map-suc, sum-append) (omega (arith, map-sum k))

-- two functions that agree on the positions
pub map_same : (f g : ℕ → ℕ) (k : ℕ) → ((j : ℕ) → j < k → f j ≡ g j) → map f (positions k) ≡ map g (positions k)
map_same f g zero h = map-none f ∙ sym (map-none g)
map_same f g (suc k) h = map-suc f k ∙ ap₂ (λ (l : List ℕ) (x : ℕ). l ++ (x ∷ [])) (map_same f g k (λ j l. h j (omega arith))) (h k (omega arith)) ∙ sym (map-suc g k)

-- how many positions pass a test
pub count-positions : (test : ℕ → Bool) (k : ℕ) → count test (positions k) ≡ upto (λ j. bit (test j)) k
unfolding positions
count-positions test zero = refl
count-positions test (suc k) = simp count-append (omega (arith, count-positions test k))

-- a sum of sums
pub upto_add : (f g : ℕ → ℕ) (k : ℕ) → upto (λ j. f j + g j) k ≡ upto f k + upto g k
upto_add f g zero = refl
upto_add f g (suc k) = omega (arith, upto_add f g k)

-- larger terms have no smaller sum
pub upto_le : (f g : ℕ → ℕ) (k : ℕ) → ((j : ℕ) → j < k → f j ≤ g j) → upto f k ≤ upto g k
upto_le f g zero h = omega arith
upto_le f g (suc k) h = omega (arith, h k (omega arith), upto_le f g k (λ j l. h j (omega arith)))

-- the same terms have the same sum
pub upto-same : (f g : ℕ → ℕ) (k : ℕ) → ((j : ℕ) → j < k → f j ≡ g j) → upto f k ≡ upto g k
upto-same f g k h = omega (arith, upto_le f g k (λ j l. omega (arith, h j l)), upto_le g f k (λ j l. omega (arith, h j l)))

-- a term is no larger than the sum
pub upto-term : (f : ℕ → ℕ) (k j : ℕ) → j < k → f j ≤ upto f k
upto-term f zero j h = absurd (omega arith)
upto-term f (suc k) j h = go (ℕ_discrete j k) (upto-term f k j)
  where
    go : Dec (j ≡ k) → (j < k → f j ≤ upto f k) → f j ≤ upto f k + f k
    go (yes e) g = omega (arith, ap f e)
    go (no n) g = omega (arith, g (omega arith))

-- one term k times
pub upto-const : (c k : ℕ) → upto (λ _. c) k ≡ k * c
upto-const c zero = sym (zero-mul c)
upto-const c (suc k) = omega (arith, suc-mul k c, upto-const c k)

-- a test that passes
pub bit-one : (b : Bool) → T b → bit b ≡ 1
bit-one true t = refl
bit-one false t = absurd t

-- a test that fails
pub bit-none : (b : Bool) → (T b → ⊥) → bit b ≡ 0
bit-none true f = absurd (f tt)
bit-none false f = refl

-- tests that pass together
pub bit-iff : (a b : Bool) → T a ↔ T b → bit a ≡ bit b
bit-iff true b e = sym (bit-one b (e.0 tt))
bit-iff false b e = sym (bit-none b e.1)

-- two tests that never both pass
pub bit_or : (a b : Bool) → (T a → T b → ⊥) → bit (a || b) ≡ bit a + bit b
bit_or true true f = absurd (f tt tt)
bit_or true false f = refl
bit_or false b f = omega arith

eq-bit : (x j : ℕ) → x ≡ j → bit (eqb x j) ≡ 1
eq-bit x j e = ap bit (eq-eqb x j e)

ne-bit : (x j : ℕ) → x ≢ j → bit (eqb x j) ≡ 0
ne-bit x j n = ap bit (ne_eqb x j n)

upto-past : (x k : ℕ) → k ≤ x → upto (λ j. bit (eqb x j)) k ≡ 0
upto-past x zero h = refl
upto-past x (suc k) h = omega (arith, upto-past x k (omega arith), ne-bit x k (omega arith))

-- x is one of the positions below k
pub upto-at : (x k : ℕ) → x < k → upto (λ j. bit (eqb x j)) k ≡ 1
upto-at x zero h = absurd (omega arith)
upto-at x (suc k) h = go (ℕ_discrete x k) (upto-at x k)
  where
    go : Dec (x ≡ k) → (x < k → upto (λ j. bit (eqb x j)) k ≡ 1) → upto (λ j. bit (eqb x j)) k + bit (eqb x k) ≡ 1
    go (yes e) f = omega (arith, eq-bit x k e, upto-past x k (omega arith))
    go (no n) f = omega (arith, ne-bit x k n, f (omega arith))

-- and so under a further test that does not hang on the position
pub upto-and : (b : Bool) (x k : ℕ) → x < k → upto (λ j. bit (b && eqb x j)) k ≡ bit b
upto-and true x k h = upto-at x k h
upto-and false x k h = omega (arith, upto-const 0 k)

-- the two tests the other way round
pub and-upto : (b : Bool) (x k : ℕ) → x < k → upto (λ j. bit (eqb x j && b)) k ≡ bit b
and-upto b x k h = upto-same (λ j. bit (eqb x j && b)) (λ j. bit (b && eqb x j)) k (λ j _. ap bit (and_comm (eqb x j) b)) ∙ upto-and b x k h

-- the sum of a cost for each member
abbrev pub total : (ℕ → ℕ) → List ℕ → ℕ
total f xs = sum (map f xs)

pub total-append : (f : ℕ → ℕ) (xs ys : List ℕ) → total f (xs ++ ys) ≡ total f xs + total f ys
total-append f xs ys = ap sum (map-append f xs ys) ∙ sum-append (map f xs) (map f ys)

-- a list without one of its members
without : {x : ℕ} {ys : List ℕ} → Memᴰ x ys → List ℕ
without (Memᴰ.head {xs} e) = xs
without (Memᴰ.tail {x} m) = x ∷ without m

without-total : (f : ℕ → ℕ) {x : ℕ} {ys : List ℕ} (m : Memᴰ x ys) → total f ys ≡ f x + total f (without m)
unfolding without
without-total f (Memᴰ.head {xs} e) = ap (λ (k : ℕ). f k + total f xs) (sym e)
without-total f (Memᴰ.tail m) = omega (arith, without-total f m)

without-mem : {x l : ℕ} {ys : List ℕ} (m : Memᴰ x ys) → l ≢ x → Memᴰ l ys → Memᴰ l (without m)
unfolding without
without-mem (Memᴰ.head e) h (Memᴰ.head f) = absurd (h (f ∙ sym e))
without-mem (Memᴰ.head e) h (Memᴰ.tail n) = n
without-mem (Memᴰ.tail m) h (Memᴰ.head f) = Memᴰ.head f
without-mem (Memᴰ.tail m) h (Memᴰ.tail n) = Memᴰ.tail (without-mem m h n)

-- distinct members of a list cost no more than the list
pub total-le : (f : ℕ → ℕ) (xs ys : List ℕ) → NoDup xs → ((l : ℕ) → Memᴰ l xs → Memᴰ l ys) → total f xs ≤ total f ys
total-le f [] ys a g = omega arith
total-le f (x ∷ xs) ys a g =
    let m = g x (Memᴰ.head refl) in
    omega (arith, without-total f m, total-le f xs (without m) a.1 (λ l n. without-mem m (λ e. a.0 (Memᴰ.cast (sym e) n)) (g l (Memᴰ.tail n))))

ones : (xs : List ℕ) → total (λ _. 1) xs ≡ length xs
ones [] = refl
ones (x ∷ xs) = omega (arith, ones xs)

-- and are no more than its members
pub no_longer : (xs ys : List ℕ) → NoDup xs → ((l : ℕ) → Memᴰ l xs → Memᴰ l ys) → length xs ≤ length ys
no_longer xs ys once all = omega (arith, total-le (λ _. 1) xs ys once all, ones xs, ones ys)

-- n down to 1
unfoldable pub one_to : ℕ → List ℕ
one_to zero = []
one_to (suc n) = suc n ∷ one_to n

pub one_to-mem : (n l : ℕ) → 1 ≤ l → l ≤ n → Memᴰ l (one_to n)
unfolding one_to
one_to-mem zero l h k = absurd (omega arith)
one_to-mem (suc n) l h k = go (ℕ_discrete l (suc n)) (λ q. one_to-mem n l h q)
  where
    go : Dec (l ≡ suc n) → (l ≤ n → Memᴰ l (one_to n)) → Memᴰ l (suc n ∷ one_to n)
    go (yes e) f = Memᴰ.head e
    go (no q) f = Memᴰ.tail (f (omega arith))

one_to-length : (n : ℕ) → length (one_to n) ≡ n
unfolding one_to
one_to-length zero = refl
one_to-length (suc n) = ap suc (one_to-length n)

-- numbers from 1 to n that occur once are at most n
pub few : (n : ℕ) (xs : List ℕ) → NoDup xs → ((l : ℕ) → Memᴰ l xs → (1 ≤ l) × (l ≤ n)) → length xs ≤ n
few n xs once range = omega (arith, no_longer xs (one_to n) once (λ l m. one_to-mem n l (range l m).0 (range l m).1), one_to-length n)
