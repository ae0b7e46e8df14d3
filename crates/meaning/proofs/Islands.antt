-- Islands: two positions have the same number exactly when a chain joins them, the sizes add up, and uniting islands pair by pair finds them.
-- Assumes nothing.
use mathlib.Core.Path.{◌≡◌, refl, sym, ap, ap₂, subst, ◌∙◌}
use mathlib.Core.Logic.{◌↔◌, ◌≢◌, ◌⊎◌, inl, inr}
use mathlib.Core.List.Memᴰ
use mathlib.Core.List.{List, [], ◌∷◌}
use Prim.Native.Nat.{ℕ, zero, suc, ◌≤◌, ◌<◌, min, max}
use native.Mathlib.Decide.{ℕ_discrete, dec_le}
use native.Mathlib.Omega.{arith}
use borrow.Author.Tests.{eq-eqb, ne_eqb}
use lib.Dec.{eqb}
use lib.ListN.{length, get_or, length-map}
use lib.Seq.{ext_get_or}
use Rattle.meaning.specs.Lists.{bit, upto}
use Rattle.meaning.specs.Listing.{Pair, Listing}
use Rattle.meaning.specs.Islands.{Joined, Chain, here, step, Island, Islands, size, renumbered, unite, unite_all, Within}
use Rattle.meaning.proofs.Lists.{get_d_map}
use Rattle.meaning.proofs.Sums.{upto_add, upto-at, upto-const}

-- ---- chains
-- steps may be taken back
abbrev pub Turned : (ℕ → ℕ → Type 0) → Type 0
Turned Joins = (i j : ℕ) → Joins i j → Joins j i

-- steps lead to positions below k
abbrev pub Below : ℕ → (ℕ → ℕ → Type 0) → Type 0
Below k Joins = (i j : ℕ) → Joins i j → j < k

module _ {Joins : ℕ → ℕ → Type 0} where
  pub chain-then : {i j k : ℕ} → Chain Joins i j → Chain Joins j k → Chain Joins i k
  chain-then here d = d
  chain-then (step s c) d = step s (chain-then c d)

  pub chain-one : {i j : ℕ} → Joins i j → Chain Joins i j
  chain-one s = step s here

  pub chain_back : Turned Joins → {i j : ℕ} → Chain Joins i j → Chain Joins j i
  chain_back turn here = here
  chain_back turn (step {i} {j} s c) = chain-then (chain_back turn c) (chain-one (turn i j s))

pub chain-map : {Joins Others : ℕ → ℕ → Type 0} → ((i j : ℕ) → Joins i j → Others i j) → {i j : ℕ} → Chain Joins i j → Chain Others i j
chain-map f here = here
chain-map f (step {i} {j} s c) = step (f i j s) (chain-map f c)

-- ---- the number of an island
module _ {Joins : ℕ → ℕ → Type 0} where
  -- there is one only
  pub island-unique : {i m n : ℕ} → Island Joins i m → Island Joins i n → m ≡ n
  island-unique {m} {n} a b = omega (arith, a.smallest n b.joined, b.smallest m a.joined)

  -- it is a position of the island, whose number it is
  pub island-own : {i m : ℕ} → Island Joins i m → Island Joins m m
  island-own a = record { joined = here; smallest = λ j c. a.smallest j (chain-then a.joined c) }

  -- and at most each position of it
  pub island-least : {i m : ℕ} → Island Joins i m → m ≤ i
  island-least {i} a = a.smallest i here

-- two positions have the same number exactly when a chain joins them
module _ {Joins : ℕ → ℕ → Type 0} (turn : Turned Joins) {i j m n : ℕ} (a : Island Joins i m) (b : Island Joins j n) where
  island-same : m ≡ n → Chain Joins i j
  island-same e = chain-then a.joined (chain_back turn (subst (Chain Joins j) (sym e) b.joined))

  island-chain : Chain Joins i j → m ≡ n
  island-chain c = omega (arith, a.smallest n (chain-then c b.joined), b.smallest m (chain-then (chain_back turn c) a.joined))

turn-joined : (ps : List Pair) (i j : ℕ) → Joined ps i j → Joined ps j i
turn-joined ps i j (inl h) = inr h
turn-joined ps i j (inr h) = inl h

pub island-iff : (ps : List Pair) {i j m n : ℕ} → Island (Joined ps) i m → Island (Joined ps) j n → (m ≡ n) ↔ Chain (Joined ps) i j
island-iff ps a b = (island-same (turn-joined ps) a b, island-chain (turn-joined ps) a b)

-- ---- the numbers of a table's positions are determined
pub islands-unique : {k : ℕ} {Joins : ℕ → ℕ → Type 0} {ms ns : List ℕ} → Islands k Joins ms → Islands k Joins ns → ms ≡ ns
islands-unique {ms} {ns} a b =
    ext_get_or 0 ms ns (a.many ∙ sym b.many) (λ i l. island-unique (a.number i (omega (arith, a.many))) (b.number i (omega (arith, a.many))))

-- ---- sizes
-- of numbers below k, those that are 0, those that are 1 and so on are all
counted : (k : ℕ) (xs : List ℕ) → ((i : ℕ) → i < length xs → get_or xs i 0 < k) → upto (size xs) k ≡ length xs
counted k [] h = omega (arith, upto-const 0 k)
counted k (x ∷ xs) h = omega (arith, upto_add (λ m. bit (eqb x m)) (size xs) k, upto-at x k (h 0 (omega arith)), counted k xs (λ i l. h (suc i) (omega arith)))

-- a number that occurs has a size
some : (xs : List ℕ) (i : ℕ) → i < length xs → 1 ≤ size xs (get_or xs i 0)
some [] i h = absurd (omega arith)
some (x ∷ xs) i h = by i h (λ j l. some xs j l)
  where
    by : (i : ℕ) → i < suc (length xs) → ((j : ℕ) → j < length xs → 1 ≤ size xs (get_or xs j 0)) → 1 ≤ size (x ∷ xs) (get_or (x ∷ xs) i 0)
    by zero h f = omega (arith, ap bit (eq-eqb x x refl))
    by (suc i) h f = omega (arith, f i (omega arith))

-- and a size says that one occurs
found : (xs : List ℕ) (m : ℕ) → 1 ≤ size xs m → (i : ℕ) × (i < length xs) × (get_or xs i 0 ≡ m)
found [] m h = absurd (omega arith)
found (x ∷ xs) m h = by (ℕ_discrete x m) (found xs m)
  where
    by : Dec (x ≡ m) → (1 ≤ size xs m → (i : ℕ) × (i < length xs) × (get_or xs i 0 ≡ m)) → (i : ℕ) × (i < suc (length xs)) × (get_or (x ∷ xs) i 0 ≡ m)
    by (yes e) f = (0, omega arith, e)
    by (no n) f = let (i, l, e) = f (omega (arith, ap bit (ne_eqb x m n))) in (suc i, omega arith, e)

module _ {k : ℕ} {Joins : ℕ → ℕ → Type 0} {ms : List ℕ} (I : Islands k Joins ms) where
  -- every number is that of a position, and its own number's
  pub number-below : (i : ℕ) → i < k → get_or ms i 0 < k
  number-below i h = omega (arith, island-least (I.number i h))

  pub number-own : (i : ℕ) → i < k → get_or ms (get_or ms i 0) 0 ≡ get_or ms i 0
  number-own i h = island-unique (I.number (get_or ms i 0) (number-below i h)) (island-own (I.number i h))

  -- every island has a position
  pub size-some : (i : ℕ) → i < k → 1 ≤ size ms (get_or ms i 0)
  size-some i h = some ms i (omega (arith, I.many))

  -- the sizes add up to the number of positions
  pub sizes-all : upto (size ms) k ≡ k
  sizes-all = counted k ms (λ i l. number-below i (omega (arith, I.many))) ∙ I.many

  -- and what is no island's number has the size 0, so that the islands' sizes alone add up to it
  pub size_none : (m : ℕ) → m < k → get_or ms m 0 ≢ m → size ms m ≡ 0
  size_none m h n = by (dec_le 1 (size ms m))
    where
      by : Dec (1 ≤ size ms m) → size ms m ≡ 0
      by (yes l) = absurd (let (i, at, e) = found ms m l in let lt : i < k = omega (arith, I.many) in n (ap (λ (x : ℕ). get_or ms x 0) (sym e) ∙ number-own i lt ∙ e))
      by (no l) = omega arith

-- ---- uniting islands
-- a number that is replaced, or not
renumbered-from : (a b x : ℕ) → x ≡ a → renumbered a b x ≡ b
renumbered-from a b x e = rw (eq-eqb x a e)

renumbered-other : (a b x : ℕ) → x ≢ a → renumbered a b x ≡ x
renumbered-other a b x n = rw (ne_eqb x a n)

-- of two, both become the smaller; and no number grows
renumbered-one : (a b x : ℕ) → (x ≡ a) ⊎ (x ≡ b) → renumbered (max a b) (min a b) x ≡ min a b
renumbered-one a b x h = by (ℕ_discrete x (max a b)) h
  where
    by : Dec (x ≡ max a b) → (x ≡ a) ⊎ (x ≡ b) → renumbered (max a b) (min a b) x ≡ min a b
    by (yes e) h = renumbered-from (max a b) (min a b) x e
    by (no n) (inl e) = renumbered-other (max a b) (min a b) x n ∙ omega arith
    by (no n) (inr e) = renumbered-other (max a b) (min a b) x n ∙ omega arith

renumbered-le : (a b x : ℕ) → renumbered (max a b) (min a b) x ≤ x
renumbered-le a b x = by (ℕ_discrete x (max a b))
  where
    by : Dec (x ≡ max a b) → renumbered (max a b) (min a b) x ≤ x
    by (yes e) = omega (arith, renumbered-from (max a b) (min a b) x e)
    by (no n) = omega (arith, renumbered-other (max a b) (min a b) x n)

-- what joins two positions joins them still, and i and j are joined as well
abbrev With : (ℕ → ℕ → Type 0) → ℕ → ℕ → ℕ → ℕ → Type 0
With Joins i j x y = Joins x y ⊎ (((x ≡ i) × (y ≡ j)) ⊎ ((x ≡ j) × (y ≡ i)))

module _ {k : ℕ} {Joins : ℕ → ℕ → Type 0} {ms : List ℕ} (turn : Turned Joins) (below : Below k Joins) (I : Islands k Joins ms) (i j : ℕ) (i-in : i < k) (j-in : j < k) where
  abbrev a : ℕ
  a = get_or ms i 0

  abbrev b : ℕ
  b = get_or ms j 0

  -- the new number of x
  abbrev new : ℕ → ℕ
  new x = renumbered (max a b) (min a b) (get_or ms x 0)

  new-at : (x : ℕ) → x < k → get_or (unite ms i j) x 0 ≡ new x
  new-at x h = get_d_map (renumbered (max a b) (min a b)) ms x 0 0 (omega (arith, I.many))

  -- a step keeps it
  step_same : (x y : ℕ) → x < k → With Joins i j x y → (y < k) × (new x ≡ new y)
  step_same x y h (inl s) =
      let y-in = below x y s in
      (y-in, ap (renumbered (max a b) (min a b)) (island-chain turn (I.number x h) (I.number y y-in) (chain-one s)))
  step_same x y h (inr (inl e)) =
      let u : get_or ms x 0 ≡ a = ap (λ (z : ℕ). get_or ms z 0) e.0 in
      let v : get_or ms y 0 ≡ b = ap (λ (z : ℕ). get_or ms z 0) e.1 in
      (omega arith, renumbered-one a b (get_or ms x 0) (inl u) ∙ sym (renumbered-one a b (get_or ms y 0) (inr v)))
  step_same x y h (inr (inr e)) =
      let u : get_or ms x 0 ≡ b = ap (λ (z : ℕ). get_or ms z 0) e.0 in
      let v : get_or ms y 0 ≡ a = ap (λ (z : ℕ). get_or ms z 0) e.1 in
      (omega arith, renumbered-one a b (get_or ms x 0) (inr u) ∙ sym (renumbered-one a b (get_or ms y 0) (inl v)))

  chain_same : {x y : ℕ} → x < k → Chain (With Joins i j) x y → (y < k) × (new x ≡ new y)
  chain_same h here = (h, refl)
  chain_same h (step {i = x} {j = z} s c) =
      let (z-in, e) = step_same x z h s in
      let (y-in, f) = chain_same z-in c in
      (y-in, e ∙ f)

  -- chains of before are chains
  still : {x y : ℕ} → Chain Joins x y → Chain (With Joins i j) x y
  still c = chain-map (λ x y s. inl s) c

  -- between the two numbers there is one
  across : Chain (With Joins i j) (max a b) (min a b)
  across = by (dec_le a b)
    where
      one : Chain (With Joins i j) b a
      one = chain-then (still (chain_back turn (I.number j j-in).joined)) (step (inr (inr (refl, refl))) (still (I.number i i-in).joined))

      two : Chain (With Joins i j) a b
      two = chain-then (still (chain_back turn (I.number i i-in).joined)) (step (inr (inl (refl, refl))) (still (I.number j j-in).joined))

      by : Dec (a ≤ b) → Chain (With Joins i j) (max a b) (min a b)
      by (yes l) = let e : max a b ≡ b = omega arith in let f : min a b ≡ a = omega arith in rw (e, f) one
      by (no l) = let e : max a b ≡ a = omega arith in let f : min a b ≡ b = omega arith in rw (e, f) two

  reach : (x : ℕ) → x < k → Chain (With Joins i j) x (new x)
  reach x h = by (ℕ_discrete (get_or ms x 0) (max a b))
    where
      by : Dec (get_or ms x 0 ≡ max a b) → Chain (With Joins i j) x (new x)
      by (yes e) = subst (Chain (With Joins i j) x) (sym (renumbered-from (max a b) (min a b) (get_or ms x 0) e)) (chain-then (subst (Chain (With Joins i j) x) e (still (I.number x h).joined)) across)
      by (no n) = subst (Chain (With Joins i j) x) (sym (renumbered-other (max a b) (min a b) (get_or ms x 0) n)) (still (I.number x h).joined)

  unite-islands : Islands k (With Joins i j) (unite ms i j)
  unite-islands = record {
    many = length-map ms (renumbered (max a b) (min a b)) ∙ I.many;
    number = λ x h. record {
      joined = subst (Chain (With Joins i j) x) (sym (new-at x h)) (reach x h);
      smallest = λ y c. let (y-in, e) = chain_same h c in omega (arith, new-at x h, renumbered-le a b (get_or ms y 0), island-least (I.number y y-in));
    };
  }

-- relations that agree have the same islands
islands-map : {k : ℕ} {Joins Others : ℕ → ℕ → Type 0} {ms : List ℕ} → ((x y : ℕ) → Joins x y ↔ Others x y) → Islands k Joins ms → Islands k Others ms
islands-map f I = record {
  many = I.many;
  number = λ i h. let n = I.number i h in record { joined = chain-map (λ x y. (f x y).0) n.joined; smallest = λ j c. n.smallest j (chain-map (λ x y. (f x y).1) c) };
}

-- the pairs of a listing are of positions below k
pub listing-within : {k : ℕ} {L : ℕ → ℕ → Type 0} {ps : List Pair} → Listing k L ps → Within k ps
listing-within H p m = let (h, l, _) = (H.listed p.0 p.1).0 m in (omega arith, l)

-- one pair more: it is joined, or what is listed behind it
with-iff : (Joins : ℕ → ℕ → Type 0) (p : Pair) (ps : List Pair) (x y : ℕ) → (With Joins p.0 p.1 x y ⊎ Joined ps x y) ↔ (Joins x y ⊎ Joined (p ∷ ps) x y)
with-iff Joins p ps x y = (to, from)
  where
    pair_of : {m n : ℕ} → (m ≡ p.0) × (n ≡ p.1) → ◌≡◌ {A = Pair} (m, n) p
    pair_of e = ap₂ (λ (m n : ℕ). (m, n)) e.0 e.1

    to : With Joins p.0 p.1 x y ⊎ Joined ps x y → Joins x y ⊎ Joined (p ∷ ps) x y
    to (inl (inl s)) = inl s
    to (inl (inr (inl e))) = inr (inl (Memᴰ.head (pair_of e)))
    to (inl (inr (inr e))) = inr (inr (Memᴰ.head (pair_of (e.1, e.0))))
    to (inr (inl m)) = inr (inl (Memᴰ.tail m))
    to (inr (inr m)) = inr (inr (Memᴰ.tail m))

    from : Joins x y ⊎ Joined (p ∷ ps) x y → With Joins p.0 p.1 x y ⊎ Joined ps x y
    from (inl s) = inl (inl s)
    from (inr (inl (Memᴰ.head e))) = inl (inr (inl (ap (λ (q : Pair). q.0) e, ap (λ (q : Pair). q.1) e)))
    from (inr (inl (Memᴰ.tail m))) = inr (inl m)
    from (inr (inr (Memᴰ.head e))) = inl (inr (inr (ap (λ (q : Pair). q.1) e, ap (λ (q : Pair). q.0) e)))
    from (inr (inr (Memᴰ.tail m))) = inr (inr m)

pub unite-all : {k : ℕ} (Joins : ℕ → ℕ → Type 0) {ms : List ℕ} (ps : List Pair) → Turned Joins → Below k Joins → Within k ps → Islands k Joins ms
    → Islands k (λ x y. Joins x y ⊎ Joined ps x y) (unite_all ms ps)
unite-all Joins [] turn below W I = islands-map (λ x y. (inl, none)) I
  where
    none : {x y : ℕ} → Joins x y ⊎ Joined [] x y → Joins x y
    none (inl s) = s
    none (inr (inl m)) = absurd (Memᴰ.not-nil m)
    none (inr (inr m)) = absurd (Memᴰ.not-nil m)
unite-all {k} Joins (p ∷ ps) turn below W I =
    let (i-in, j-in) = W p (Memᴰ.head refl) in
    islands-map (with-iff Joins p ps)
    (unite-all (With Joins p.0 p.1) ps turned (inside i-in j-in) (λ q m. W q (Memᴰ.tail m)) (unite-islands turn below I p.0 p.1 i-in j-in))
  where
    turned : (x y : ℕ) → With Joins p.0 p.1 x y → With Joins p.0 p.1 y x
    turned x y (inl s) = inl (turn x y s)
    turned x y (inr (inl e)) = inr (inr (e.1, e.0))
    turned x y (inr (inr e)) = inr (inl (e.1, e.0))

    inside : p.0 < k → p.1 < k → (x y : ℕ) → With Joins p.0 p.1 x y → y < k
    inside i-in j-in x y (inl s) = below x y s
    inside i-in j-in x y (inr (inl e)) = omega arith
    inside i-in j-in x y (inr (inr e)) = omega arith
