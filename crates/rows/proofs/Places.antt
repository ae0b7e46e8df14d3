-- Where the children of a row's clades stand: the first child is the last clade before it with its smallest label, and the second child and the label set are the last of all with theirs.
-- Assumes nothing.
use mathlib.Core.Path.{◌≡◌, refl, sym, ap, subst, ◌∙◌}
use mathlib.Core.Logic.{◌⊎◌, inl, inr, ◌≢◌}
use mathlib.Core.Bool.{Bool, true, false, cond}
use mathlib.Core.List.{List, [], ◌∷◌, Memᴰ}
use Prim.Native.Nat.{ℕ, zero, suc, ◌+◌, ◌-◌, ◌≤◌, ◌<◌}
use native.Mathlib.Omega.{arith}
use native.Mathlib.Decide.{ℕ_discrete, dec_lt, dec_le}
use lib.Count.{count_trailing_zeros}
use lib.Dec.{T, eqb}
use lib.ListN.{length, get_or, drop}
use lib.Seq.{get_or-drop}
use Rattle.meaning.specs.Limits.{max_label}
use Rattle.meaning.specs.Clade.{HasLabel, lowest}
use Rattle.meaning.proofs.Logic.{T-eq}
use Rattle.meaning.proofs.Lists.{number, numbered}
use Rattle.meaning.proofs.LabelBits.{Under, under-le, under-iff, clear-iff, lowest-in, lowest-le}
use Rattle.families.specs.Clades.{size}
use Rattle.families.specs.Grown.{low_bit, leads, first_child}
use Rattle.families.specs.Row.{is_row}
use Rattle.families.proofs.Sizes.{label-64, rest-clear, rest_under, size-le, size-some, size-pow, under-size}
use Rattle.families.proofs.Clades.{Fit, within, around, beside}
use Rattle.families.proofs.FirstChild.{First, single-in, leads-of, of-leads, first-most, Choice, first-choice}
use Rattle.families.proofs.Laminar.{Suits, first-child, split}
use Rattle.families.proofs.RowTest.{RowOf, is-row-iff, rises-at}
use Rattle.families.proofs.Row.{row-whole, row-rest}
use Rattle.rows.specs.Places.{last_place, clade_at, Placed}

-- ---- p is the last place before k with the smallest label l, or 0
record Last (row : List ℕ) (k l p : ℕ) : Type 0 where
  before : 0 < p → p < k
  label : 0 < p → lowest (get_or row p 0) ≡ l
  none : (i : ℕ) → p < i → i < k → lowest (get_or row i 0) ≢ l

last-is : (row : List ℕ) (k l : ℕ) → Last row k l (last_place row k l)
unfolding last_place
last-is row zero l = record { before = λ h. omega arith; label = λ h. absurd (omega arith); none = λ i g h. absurd (omega arith) }
last-is row (suc k) l = go (eqb (lowest (get_or row k 0)) l) (T-eq (lowest (get_or row k 0)) l).0 (λ f e. f ((T-eq (lowest (get_or row k 0)) l).1 e)) (last-is row k l)
  where
    go : (b : Bool) → (T b → lowest (get_or row k 0) ≡ l) → ((T b → ⊥) → lowest (get_or row k 0) ≢ l) → Last row k l (last_place row k l) → Last row (suc k) l (cond b k (last_place row k l))
    go true f g L = record { before = λ h. omega arith; label = λ h. f tt; none = λ i g h. absurd (omega arith) }
    go false f g L = record { before = λ h. omega (arith, L.before h); label = L.label; none = λ i p h. behind i (ℕ_discrete i k) p h }
      where
        behind : (i : ℕ) → Dec (i ≡ k) → last_place row k l < i → i < suc k → lowest (get_or row i 0) ≢ l
        behind i (yes e) p h = subst (λ (j : ℕ). lowest (get_or row j 0) ≢ l) (sym e) (g (λ t. t))
        behind i (no n) p h = L.none i p (omega arith)

-- ---- a row
module _ (row : List ℕ) (is : is_row row ≡ true) where
  abbrev s : ℕ
  s = get_or row 0 0

  abbrev cs : List ℕ
  cs = drop 1 row

  tested : T (is_row (s ∷ cs)) × (length row ≡ suc (length cs))
  unfolding is_row
  tested = go row (subst T (sym is) tt)
    where
      go : (xs : List ℕ) → T (is_row xs) → T (is_row (get_or xs 0 0 ∷ drop 1 xs)) × (length xs ≡ suc (length (drop 1 xs)))
      go [] t = absurd t
      go (x ∷ xs) t = (t, refl)

  pub row-some : 0 < length row
  row-some = omega (arith, tested.1)

  R : RowOf s cs
  R = (is-row-iff s cs).0 tested.0

  -- at each place but 0 stands a clade, and each clade stands at one
  at_place : (i : ℕ) → 0 < i → get_or cs (i - 1) 0 ≡ get_or row i 0
  at_place i h = let e : 1 + (i - 1) ≡ i = omega arith in get_or-drop 1 row (i - 1) 0 ∙ ap (λ (j : ℕ). get_or row j 0) e

  pub row_in : (i : ℕ) → 0 < i → i < length row → Memᴰ (get_or row i 0) cs
  row_in i h g = subst (λ (x : ℕ). Memᴰ x cs) (at_place i h) (numbered cs 0 (i - 1) (omega (arith, tested.1)))

  place_of : {d : ℕ} → Memᴰ d cs → (i : ℕ) × (0 < i) × (i < length row) × (get_or row i 0 ≡ d)
  place_of m = let (i, h, e) = number 0 m in (1 + i, omega arith, omega (arith, tested.1), sym (get_or-drop 1 row i 0) ∙ e)

  -- a clade that is smaller stands before
  rises : (i j : ℕ) → 0 < i → i < j → j < length row → get_or row i 0 < get_or row j 0
  rises i j p h g = omega (arith, at_place i p, at_place j (omega arith), rises-at cs R.ascending (i - 1) (j - 1) (omega arith) (omega (arith, tested.1)))

  rises-le : (i j : ℕ) → 0 < i → i ≤ j → j < length row → get_or row i 0 ≤ get_or row j 0
  rises-le i j p h g = go (ℕ_discrete i j)
    where
      go : Dec (i ≡ j) → get_or row i 0 ≤ get_or row j 0
      go (yes e) = omega (arith, ap (λ (k : ℕ). get_or row k 0) e)
      go (no n) = omega (arith, rises i j p (omega arith) g)

  place-less : (i j : ℕ) → 0 < i → j < length row → get_or row j 0 < get_or row i 0 → j < i
  place-less i j p g h = go (dec_lt j i)
    where
      go : Dec (j < i) → j < i
      go (yes l) = l
      go (no n) = absurd (omega (arith, rises-le i j p (omega arith) g))

  -- none with the label is larger than the last
  last-most : {k l p : ℕ} → k ≤ length row → Last row k l p → (j : ℕ) → 0 < j → j < k → lowest (get_or row j 0) ≡ l → get_or row j 0 ≤ get_or row p 0
  last-most {k} {l} {p} fits L j g h e = go (dec_lt p j)
    where
      go : Dec (p < j) → get_or row j 0 ≤ get_or row p 0
      go (yes q) = absurd (L.none j q h e)
      go (no n) = rises-le j p g (omega arith) (omega (arith, L.before (omega arith), fits))

  -- a clade fits all of the row, and has its smallest label
  suits : {d : ℕ} → Memᴰ d cs → Suits cs R.family d
  suits {d} m = record {
    some = size-some d (omega (arith, R.family.large d m));
    small = omega (arith, under-le d s (R.parts d m), R.small);
    fits = λ e n. R.family.fit e d n m;
  }

  low : {d : ℕ} → Memᴰ d cs → HasLabel (lowest d) d
  low {d} m = lowest-in d (suits m).some (suits m).small

  pub row-large : {d : ℕ} → Memᴰ d cs → 2 ≤ size d
  row-large {d} m = R.family.large d m

  pub row_low : (i : ℕ) → 0 < i → i < length row → lowest (get_or row i 0) ≤ max_label
  row_low i h g = let m = row_in i h g in (label-64 (lowest (get_or row i 0)) (get_or row i 0) (suits m).small (low m)).1

  pub row-long : length row ≤ max_label
  row-long = omega (arith, tested.1, R.number, size-le s)

  -- ---- the first child of the clade at place i
  module _ (i : ℕ) (some : 0 < i) (inside : i < length row) where
    abbrev c : ℕ
    c = get_or row i 0

    member : Memᴰ c cs
    member = row_in i some inside

    -- a clade before it with its smallest label leads
    leads-before : (j : ℕ) → 0 < j → j < i → lowest (get_or row j 0) ≡ lowest c → T (leads c (get_or row j 0))
    leads-before j p h e = leads-of c d (go (R.family.fit d c m member)) (λ q. omega (arith, q, less)) has
      where
        d : ℕ
        d = get_or row j 0

        m : Memᴰ d cs
        m = row_in j p (omega arith)

        less : d < c
        less = rises j i p h inside

        has : HasLabel (lowest c) d
        has = subst (λ (l : ℕ). HasLabel l d) e (low m)

        go : Fit d c → Under d c
        go (within u) = u
        go (around u) = absurd (omega (arith, under-le c d u, less))
        go (beside k) = absurd ((clear-iff d c).0 k (lowest c) has (low member))

    -- one that leads stands before it with its smallest label
    before-leads : {d : ℕ} → Memᴰ d cs → T (leads c d) → (j : ℕ) × (j < i) × (get_or row j 0 ≡ d) × (lowest (get_or row j 0) ≡ lowest c) × (0 < j)
    before-leads {d} m t =
        let (u, n, has) = of-leads c d t in
        let (j, p, h, e) = place_of m in
        let same : lowest d ≡ lowest c = omega (arith, lowest-le (lowest c) d has, lowest-le (lowest d) c ((under-iff d c).0 u (lowest d) (low m))) in
        (j, place-less i j some h (omega (arith, e, under-le d c u, n)), e, ap lowest e ∙ same, p)

    abbrev first : ℕ
    first = last_place row i (lowest c)

    -- so the last of these is the first child
    pub row_first : clade_at row first c ≡ first_child cs c
    row_first = go first (last-is row i (lowest c)) (first_child cs c) (first-choice cs c) (first-most cs c)
      where
        go : (p : ℕ) → Last row i (lowest c) p → (f : ℕ) → Choice cs c f → ((d : ℕ) → Memᴰ d cs → T (leads c d) → d ≤ f) → clade_at row p c ≡ f
        go zero L f (inl e) most = sym e
        go zero L f (inr (m, t)) most = let (j, h, e, same, p) = before-leads m t in absurd (L.none j p h same)
        go (suc p) L f choice most = omega (arith, up, down choice)
          where
            d : ℕ
            d = get_or row (suc p) 0

            lt : suc p < i
            lt = L.before (omega arith)

            t : T (leads c d)
            t = leads-before (suc p) (omega arith) lt (L.label (omega arith))

            up : d ≤ f
            up = most d (row_in (suc p) (omega arith) (omega (arith, lt))) t

            down : Choice cs c f → f ≤ d
            down (inl e) = omega (arith, e, under-le (low_bit c) d (single-in (count_trailing_zeros 64 c) d (of-leads c d t).2))
            down (inr (m, l)) = let (j, h, e, same, g) = before-leads m l in omega (arith, e, last-most (omega (arith, inside)) L j g h same)

    pub row-first-placed : Placed row first (first_child cs c)
    row-first-placed = go first (last-is row i (lowest c)).before row_first
      where
        go : (p : ℕ) → (0 < p → p < i) → clade_at row p c ≡ first_child cs c → Placed row p (first_child cs c)
        go zero b e = record { alone = λ h. sym (ap size e) ∙ size-pow (count_trailing_zeros 64 c) (row_low i some inside); stands = λ h. absurd (omega arith) }
        go (suc p) b e = record { alone = λ h. absurd (omega arith); stands = λ h. (omega (arith, b h), e) }

  -- ---- a label alone or a clade that has all clades with its smallest label is the last of them
  last-placed : (r : ℕ) → (size r ≡ 1) ⊎ Memᴰ r cs → ((d : ℕ) → Memᴰ d cs → lowest d ≡ lowest r → Under d r) → Placed row (last_place row (length row) (lowest r)) r
  last-placed r of has = go (last_place row (length row) (lowest r)) (last-is row (length row) (lowest r)) of
    where
      go : (p : ℕ) → Last row (length row) (lowest r) p → (size r ≡ 1) ⊎ Memᴰ r cs → Placed row p r
      go p L of = record { alone = alone of; stands = λ h. (L.before h, stands h of) }
        where
          alone : (size r ≡ 1) ⊎ Memᴰ r cs → p ≡ 0 → size r ≡ 1
          alone (inl e) z = e
          alone (inr m) z = let (j, g, h, e) = place_of m in absurd (L.none j (omega arith) h (ap lowest e))

          stands : 0 < p → (size r ≡ 1) ⊎ Memᴰ r cs → get_or row p 0 ≡ r
          stands h (inl e) = let m = row_in p h (L.before h) in absurd (omega (arith, R.family.large (get_or row p 0) m, under-size (has (get_or row p 0) m (L.label h))))
          stands h (inr m) =
              let (j, g, k, e) = place_of m in
              let q = row_in p h (L.before h) in
              omega (arith, e, under-le (get_or row p 0) r (has (get_or row p 0) q (L.label h)), last-most (omega arith) L j g k (ap lowest e))

  -- the label set
  pub row-set-placed : Placed row (last_place row (length row) (lowest s)) s
  row-set-placed = last-placed s (go (dec_le 2 (size s))) (λ d m e. R.parts d m)
    where
      go : Dec (2 ≤ size s) → (size s ≡ 1) ⊎ Memᴰ s cs
      go (yes h) = inr (row-whole s cs tested.0 h)
      go (no n) = inl (omega (arith, R.number))

  -- the second child of a clade
  module _ (c : ℕ) (m : Memᴰ c cs) where
    abbrev rest : ℕ
    rest = c - first_child cs c

    A : First cs c (first_child cs c)
    A = first-child cs R.family c (suits m) (R.family.large c m)

    rest-low : HasLabel (lowest rest) rest
    rest-low = lowest-in rest (omega (arith, under-le (first_child cs c) c A.part, A.proper)) (omega (arith, (suits m).small))

    rest_has : HasLabel (lowest rest) c
    rest_has = (under-iff rest c).0 (rest_under A.part) (lowest rest) rest-low

    not_first : HasLabel (lowest rest) (first_child cs c) → ⊥
    not_first h = (clear-iff (first_child cs c) rest).0 (rest-clear A.part) (lowest rest) h rest-low

    above : lowest c < lowest rest
    above = go (ℕ_discrete (lowest c) (lowest rest))
      where
        go : Dec (lowest c ≡ lowest rest) → lowest c < lowest rest
        go (yes e) = absurd (not_first (subst (λ (l : ℕ). HasLabel l (first_child cs c)) e A.lead))
        go (no n) = omega (arith, lowest-le (lowest rest) c rest_has)

    rest_all : (d : ℕ) → Memᴰ d cs → lowest d ≡ lowest rest → Under d rest
    rest_all d n e = go (R.family.fit d c n m)
      where
        has : HasLabel (lowest rest) d
        has = subst (λ (l : ℕ). HasLabel l d) e (low n)

        inner : (d ≡ c) ⊎ (Under d (first_child cs c) ⊎ Under d rest) → Under d rest
        inner (inl q) = absurd (omega (arith, ap lowest q, e, above))
        inner (inr (inl u)) = absurd (not_first ((under-iff d (first_child cs c)).0 u (lowest rest) has))
        inner (inr (inr u)) = u

        go : Fit d c → Under d rest
        go (within u) = inner (split cs R.family (suits m) A d n u)
        go (around u) = absurd (omega (arith, lowest-le (lowest c) d ((under-iff c d).0 u (lowest c) (low m)), e, above))
        go (beside k) = absurd ((clear-iff d c).0 k (lowest rest) has rest_has)

    pub row-second-placed : Placed row (last_place row (length row) (lowest rest)) rest
    row-second-placed = last-placed rest (row-rest R c m) rest_all
