-- The entries of an index: which they are, how many, and how adding or removing a tree changes their list.
-- Assumes nothing.
use mathlib.Core.Path.{◌≡◌, refl, sym, ◌∙◌, subst}
use mathlib.Core.Logic.{◌↔◌, ◌≢◌, ◌⊎◌, inl, inr}
use mathlib.Core.Bool.{Bool, not}
use mathlib.Core.List.Memᴰ
use mathlib.Core.List.{List, [], ◌∷◌, ◌++◌, Memᴰ}
use Prim.Native.Nat.{ℕ, suc, ◌-◌, ◌≤◌, ◌<◌}
use native.Mathlib.Omega.{arith}
use native.Mathlib.Decide.{ℕ_discrete}
use lib.Dec.{T, T_not, not_T, ltb, eqb, ltb→lt}
use lib.ListN.{length, set, length-append, length-map}
use lib.Seq.{get_or-set_same, get_or-set_other}
use Rattle.meaning.specs.Lists.{NoDup, positions}
use Rattle.meaning.specs.Sorted.{Sorted, lesser, sort_by, keep}
use Rattle.meaning.specs.Listing.{Pair}
use Rattle.meaning.proofs.Sorted.{Strict, sort-in, sort-length, sorted-append, sorted-nodup, sorted-same, sort_sorted, sorted-agree, map-sorted, sorted-among}
use Rattle.meaning.proofs.Logic.{T-eq}
use Rattle.meaning.proofs.Keep.{keep-iff, keep-sorted}
use Rattle.meaning.proofs.Positions.{positions-mem, mem-positions, positions-sorted, positions-length}
use Rattle.holdings.specs.Slots.{Slot, free, slot_at}
use Rattle.holdings.specs.Entries.{cuts_of, entry_text, IsEntry, own, own_from, total, two_of, earlier, entries}
use Rattle.holdings.proofs.EntryOrder.{two-iff, earlier-asym, earlier-strict}

-- the entries of one number
pub own-mem : (x : ℕ) (h : Slot) {e : Pair} → Memᴰ e (own x h) → (e.0 ≡ x) × (e.1 < cuts_of h)
own-mem x h {e} m = let (c, n, d) = Memᴰ.of_map (λ (c : ℕ). (x, c)) (positions (cuts_of h)) m in let k = positions-mem (cuts_of h) n in subst (λ (p : Pair). (p.0 ≡ x) × (p.1 < cuts_of h)) d (refl, k)

pub mem-own : (x : ℕ) (h : Slot) (c : ℕ) → c < cuts_of h → Memᴰ (x, c) (own x h)
mem-own x h c l = Memᴰ.map (λ (c : ℕ). (x, c)) (mem-positions (cuts_of h) c l)

pub own-length : (x : ℕ) (h : Slot) → length (own x h) ≡ cuts_of h
own-length x h = simp length-map (positions-length (cuts_of h))

-- by tree and then cut
abbrev lexical : Pair → Pair → Bool
lexical p q = lesser (two_of p) (two_of q)

own-sorted : (x : ℕ) (h : Slot) → Sorted lexical (own x h)
own-sorted x h = map-sorted ltb lexical (λ (c : ℕ). (x, c)) (positions (cuts_of h)) (λ c d m n t. (two-iff (x, c) (x, d)).1 (inr (refl, ltb→lt c d t))) (positions-sorted (cuts_of h))

-- those of the numbers from x on
from-mem : (x : ℕ) (hs : List Slot) (y c : ℕ) → Memᴰ (y, c) (own_from x hs) → (x ≤ y) × (c < cuts_of (slot_at hs (y - x)))
unfolding own_from
from-mem x [] y c m = absurd (Memᴰ.not-nil m)
from-mem x (h ∷ hs) y c m = go (Memᴰ.append_cases (own x h) m) (from-mem (suc x) hs y c)
  where
    go : Memᴰ (y, c) (own x h) ⊎ Memᴰ (y, c) (own_from (suc x) hs) → (Memᴰ (y, c) (own_from (suc x) hs) → (suc x ≤ y) × (c < cuts_of (slot_at hs (y - suc x)))) → (x ≤ y) × (c < cuts_of (slot_at (h ∷ hs) (y - x)))
    go (inl n) f = let (d, l) = own-mem x h n in let z : y - x ≡ 0 = omega arith in (omega arith, rw z l)
    go (inr n) f = let (d, l) = f n in let z : y - x ≡ suc (y - suc x) = omega arith in (omega arith, rw z l)

mem-from : (x : ℕ) (hs : List Slot) (y c : ℕ) → x ≤ y → c < cuts_of (slot_at hs (y - x)) → Memᴰ (y, c) (own_from x hs)
unfolding own_from
mem-from x [] y c h l = absurd (omega arith)
mem-from x (h ∷ hs) y c g l = go (ℕ_discrete x y) (mem-from (suc x) hs y c)
  where
    go : Dec (x ≡ y) → (suc x ≤ y → c < cuts_of (slot_at hs (y - suc x)) → Memᴰ (y, c) (own_from (suc x) hs)) → Memᴰ (y, c) (own x h ++ own_from (suc x) hs)
    go (yes e) f = let z : y - x ≡ 0 = omega arith in Memᴰ.append_left (own_from (suc x) hs) (subst (λ (w : ℕ). Memᴰ (w, c) (own x h)) e (mem-own x h c (rw z at l)))
    go (no e) f = let z : y - x ≡ suc (y - suc x) = omega arith in Memᴰ.append_right (own x h) (f (omega arith) (rw z at l))

from_sorted : (x : ℕ) (hs : List Slot) → Sorted lexical (own_from x hs)
unfolding own_from
from_sorted x [] = tt
from_sorted x (h ∷ hs) = sorted-append lexical (own x h) (own_from (suc x) hs) (own-sorted x h) (from_sorted (suc x) hs) (λ p q m n. (two-iff p q).1 (inl (omega (arith, own-mem x h m, from-mem (suc x) hs q.0 q.1 n))))

from-length : (x : ℕ) (hs : List Slot) → length (own_from x hs) ≡ total hs
unfolding own_from total
from-length x [] = refl
from-length x (h ∷ hs) = simp length-append (omega (arith, own-length x h, from-length (suc x) hs))

-- the order of entries that have one text
lexical-strict : Strict (λ (_ : Pair). Unit {0}) lexical
unfolding lesser
lexical-strict = earlier-strict (λ (_ : Pair). [])

-- no entry twice
pub from-nodup : (x : ℕ) (hs : List Slot) → NoDup (own_from x hs)
from-nodup x hs = sorted-nodup lexical lexical-strict (own_from x hs) (from_sorted x hs)

pub own-nodup : (x : ℕ) (h : Slot) → NoDup (own x h)
own-nodup x h = sorted-nodup lexical lexical-strict (own x h) (own-sorted x h)

module _ (hs : List Slot) where
  abbrev order : Pair → Pair → Bool
  order = earlier (entry_text hs)

  -- all entries, and only they
  pub entries-mem : (e : Pair) → Memᴰ e (entries hs) ↔ IsEntry hs e
  unfolding entries
  entries-mem e = (
    λ m. rw whole at (from-mem 0 hs e.0 e.1 ((sort-in order (own_from 0 hs) e).0 m)).1,
    λ l. (sort-in order (own_from 0 hs) e).1 (mem-from 0 hs e.0 e.1 (omega arith) (rw whole l)),
  )
    where
      whole : e.0 - 0 ≡ e.0
      whole = omega arith

  -- in order, each once
  pub entries_sorted : Sorted order (entries hs)
  unfolding entries
  entries_sorted = sort_sorted order (earlier-strict (entry_text hs)) (own_from 0 hs) (λ y m. tt) (from-nodup 0 hs)

  -- 2n − 2 for each tree
  pub entries-length : length (entries hs) ≡ total hs
  unfolding entries
  entries-length = sort-length order (own_from 0 hs) ∙ from-length 0 hs

  -- the only such list
  pub entries-unique : {es : List Pair} → Sorted order es → ((e : Pair) → Memᴰ e es ↔ IsEntry hs e) → es ≡ entries hs
  entries-unique {es} s f =
      sorted-same order (earlier-strict (entry_text hs)) es (entries hs) s entries_sorted (λ e. (λ m. (entries-mem e).1 ((f e).0 m), λ m. (f e).1 ((entries-mem e).0 m)))

  -- as many entries in order as there are cuts are all of them
  pub entries-full : {es : List Pair} → Sorted order es → ((e : Pair) → Memᴰ e es → IsEntry hs e) → total hs ≤ length es → es ≡ entries hs
  entries-full {es} s f n =
      (sorted-among order (earlier-asym (entry_text hs)) es (entries hs) s entries_sorted (λ e m. (entries-mem e).1 (f e m))).1 (omega (arith, entries-length))

-- the order hangs on the texts of the two entries only
agree : (text text' : Pair → List ℕ) (p q : Pair) → text p ≡ text' p → text q ≡ text' q → T (earlier text p q) → T (earlier text' p q)
agree text text' p q e d t = rw (e, d) at t

-- another slot at the number x
module _ (hs : List Slot) (x : ℕ) (h : Slot) (inside : x < length hs) where
  abbrev hs' : List Slot
  hs' = set hs x h

  abbrev order' : Pair → Pair → Bool
  order' = earlier (entry_text hs')

  pub slot_same : slot_at hs' x ≡ h
  slot_same = get_or-set_same hs x h free inside

  pub slot-other : (y : ℕ) → y ≢ x → slot_at hs' y ≡ slot_at hs y
  slot-other y ne = get_or-set_other hs x y h free ne

  text-other : (e : Pair) → e.0 ≢ x → entry_text hs e ≡ entry_text hs' e
  text-other e ne = rw (slot-other e.0 ne)

  -- entries of other numbers stand in the same order
  pub agree-other : (es : List Pair) → ((e : Pair) → Memᴰ e es → e.0 ≢ x) → Sorted (earlier (entry_text hs)) es → Sorted order' es
  agree-other es f s =
      sorted-agree (earlier (entry_text hs)) order' es (λ p q m n t. agree (entry_text hs) (entry_text hs') p q (text-other p (f p m)) (text-other q (f q n)) t) s

  -- a tree at a number that was free
  module _ (was : slot_at hs x ≡ free) where
    -- no entry was of that number
    pub others-only : (d : Pair) → Memᴰ d (entries hs) → d.0 ≢ x
    others-only d m i = let l : d.1 < cuts_of (slot_at hs d.0) = (entries-mem hs d).0 m in let n = rw (i, was) at l in omega arith

    -- before its entries are put in
    pub entries-before : sort_by order' (own_from 0 hs) ≡ entries hs
    unfolding entries
    entries-before =
        sorted-same order' (earlier-strict (entry_text hs')) (sort_by order' (own_from 0 hs)) (entries hs)
        (sort_sorted order' (earlier-strict (entry_text hs')) (own_from 0 hs) (λ y m. tt) (from-nodup 0 hs))
        (agree-other (entries hs) others-only (entries_sorted hs))
        same
      where
        same : (d : Pair) → Memᴰ d (sort_by order' (own_from 0 hs)) ↔ Memᴰ d (entries hs)
        same d = (
          λ m. (sort-in (earlier (entry_text hs)) (own_from 0 hs) d).1 ((sort-in order' (own_from 0 hs) d).0 m),
          λ m. (sort-in order' (own_from 0 hs) d).1 ((sort-in (earlier (entry_text hs)) (own_from 0 hs) d).0 m),
        )

    -- once they all are
    pub entries-after : {es : List Pair} → Sorted order' es → ((e : Pair) → Memᴰ e es ↔ (Memᴰ e (own x h) ⊎ Memᴰ e (entries hs))) → es ≡ entries hs'
    entries-after s f = entries-unique hs' s (λ d. (λ m. to d ((f d).0 m), λ l. (f d).1 (from d (ℕ_discrete d.0 x) l)))
      where
        to : (d : Pair) → Memᴰ d (own x h) ⊎ Memᴰ d (entries hs) → IsEntry hs' d
        to d (inl m) = let (i, l) = own-mem x h m in rw (i, slot_same) l
        to d (inr m) = rw (slot-other d.0 (others-only d m)) ((entries-mem hs d).0 m)

        from : (d : Pair) → Dec (d.0 ≡ x) → IsEntry hs' d → Memᴰ d (own x h) ⊎ Memᴰ d (entries hs)
        from d (yes i) l = inl (Memᴰ.cast (λ j. (i j, d.1)) (mem-own x h d.1 (rw (i, slot_same) at l)))
        from d (no i) l = inr ((entries-mem hs d).1 (rw (slot-other d.0 i) at l))

-- a number made free: its entries are taken out
pub entries-removed : (hs : List Slot) (x : ℕ) → x < length hs → entries (set hs x free) ≡ keep (λ e. not (eqb e.0 x)) (entries hs)
entries-removed hs x inside = sym (entries-unique (set hs x free) sorted (λ d. (λ m. to d ((keep-iff test (entries hs) d).0 m), λ l. from d (ℕ_discrete d.0 x) l)))
  where
    test : Pair → Bool
    test e = not (eqb e.0 x)

    other : (d : Pair) → T (test d) → d.0 ≢ x
    other d t e = T_not (eqb d.0 x) t ((T-eq d.0 x).1 e)

    sorted : Sorted (earlier (entry_text (set hs x free))) (keep test (entries hs))
    sorted =
        agree-other hs x free inside (keep test (entries hs)) (λ d m. other d ((keep-iff test (entries hs) d).0 m).1)
        (keep-sorted test (earlier (entry_text hs)) (entries hs) (entries_sorted hs))

    to : (d : Pair) → Memᴰ d (entries hs) × T (test d) → IsEntry (set hs x free) d
    to d m = rw (slot-other hs x free inside d.0 (other d m.1)) ((entries-mem hs d).0 m.0)

    from : (d : Pair) → Dec (d.0 ≡ x) → IsEntry (set hs x free) d → Memᴰ d (keep test (entries hs))
    from d (yes e) l = let n = rw (e, slot_same hs x free inside) at l in absurd (omega arith)
    from d (no e) l =
        (keep-iff test (entries hs) d).1 ((entries-mem hs d).1 (rw (slot-other hs x free inside d.0 e) at l), not_T (eqb d.0 x) (λ t. e ((T-eq d.0 x).0 t)))
