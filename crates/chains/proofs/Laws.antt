-- The last entry of which something is so: by a walk down a chain, and with one entry more.
-- Assumes nothing.
use mathlib.Core.Path.{◌≡◌, refl, sym, ap, subst}
use mathlib.Core.List.{List}
use Prim.Native.Nat.{ℕ, ◌+◌, ◌%◌, ◌<◌}
use native.Mathlib.Decide.{ℕ_discrete, dec_lt}
use native.Mathlib.Nat.{mod-lt}
use native.Mathlib.Omega.{arith}
use lib.Dec.{lit<}
use lib.ListN.{length, get_or, set, replicate, length-set, length-replicate, get_or-replicate}
use lib.Seq.{get_or-set_same, get_or-set_other}
use Rattle.chains.specs.Chains.{entries, slots, Last, HasKey, InSlot, Found, Chained, Findable}

-- it stands before e
pub last_less : {P : ℕ → Type 0} {e r : ℕ} → 0 < e → Last P e r → r < e
last_less {e = e} {r = r} some l = go (dec_lt 0 r)
  where
    go : Dec (0 < r) → r < e
    go (yes h) = (l.is h).0
    go (no n) = omega arith

-- ---- one entry more
module _ {P : ℕ → Type 0} {e : ℕ} where
  pub last-here : P e → Last P (e + 1) e
  last-here p = record { is = λ h. (omega arith, p); none = λ q h g x. omega arith }

  pub last-past : {r : ℕ} → (P e → ⊥) → Last P e r → Last P (e + 1) r
  last-past {r} other l = record {
    is = λ h. let (lt, p) = l.is h in (omega arith, p);
    none = λ q h g x. go q h g x (ℕ_discrete q e);
  }
    where
      go : (q : ℕ) → r < q → q < e + 1 → P q → Dec (q ≡ e) → ⊥
      go q h g x (yes at) = other (subst P at x)
      go q h g x (no n) = l.none q h (omega arith) x

-- ---- a walk down the entries of which P is so, in search of one of which R is so: it is at q, and passed none
pub record Walk (P R : ℕ → Type 0) (e q : ℕ) : Type 0 where
  pub is : 0 < q → (q < e) × P q
  pub none : (x : ℕ) → q < x → x < e → R x → ⊥

module _ {P R : ℕ → Type 0} {e : ℕ} where
  pub walk_begins : {q : ℕ} → ((x : ℕ) → R x → P x) → Last P e q → Walk P R e q
  walk_begins within l = record { is = l.is; none = λ x h g r. l.none x h g (within x r) }

  pub walk-further : {q q' : ℕ} → ((x : ℕ) → R x → P x) → Walk P R e q → 0 < q → (R q → ⊥) → Last P q q' → Walk P R e q'
  walk-further {q} {q'} within w some other l = record {
    is = λ h. let (lt, p) = l.is h in (omega (arith, (w.is some).0), p);
    none = λ x h g r. go x h g r (ℕ_discrete x q) (dec_lt x q);
  }
    where
      go : (x : ℕ) → q' < x → x < e → R x → Dec (x ≡ q) → Dec (x < q) → ⊥
      go x h g r (yes at) _ = other (rw at at r)
      go x h g r (no n) (yes lt) = l.none x h lt (within x r)
      go x h g r (no n) (no le) = w.none x (omega arith) g r

  pub walk_ends : {q : ℕ} → (0 < q → R q) → Walk P R e q → Last R e q
  walk_ends found w = record { is = λ h. ((w.is h).0, found h); none = w.none }

-- ---- the entries of k's slot, in search of one with the key k
module _ (keys : List ℕ) (k : ℕ) where
  abbrev pub Search : ℕ → ℕ → Type 0
  Search e q = Walk (InSlot keys (k % slots)) (HasKey keys k) e q

  in-slot : (x : ℕ) → HasKey keys k x → InSlot keys (k % slots) x
  in-slot x h = ap (λ (v : ℕ). v % slots) h

  pub search-begins : {e q : ℕ} → Last (InSlot keys (k % slots)) e q → Search e q
  search-begins l = walk_begins in-slot l

  module _ (next : List ℕ) {end q : ℕ} (chained : Chained keys next end) (some : 0 < q) (before : q < end) where
    next_last : InSlot keys (k % slots) q → Last (InSlot keys (k % slots)) q (get_or next q 0)
    next_last h = subst (λ (s : ℕ). Last (InSlot keys s) q (get_or next q 0)) h (chained q some before)

    pub next-less : InSlot keys (k % slots) q → get_or next q 0 < q
    next-less h = last_less some (next_last h)

    pub search-further : {e : ℕ} → Search e q → (HasKey keys k q → ⊥) → Search e (get_or next q 0)
    search-further w other = walk-further in-slot w some other (next_last (w.is some).1)

-- ---- the entries before e are chained, each slot's last is its head, and what has the same key is noted
pub record State (keys head next same : List ℕ) (e : ℕ) : Type 0 where
  pub heads : (s : ℕ) → s < slots → Last (InSlot keys s) e (get_or head s 0)
  pub chained : Chained keys next e
  pub found : Found keys same e
  pub slots_long : length head ≡ slots
  pub next_long : length next ≡ entries
  pub same_long : length same ≡ entries

pub slot-less : (k : ℕ) → k % slots < slots
slot-less k = mod-lt k (lit< tt)

module _ (keys : List ℕ) where
  -- before entry 1 there is none
  pub state-begins : (same : List ℕ) → length same ≡ entries → State keys (replicate slots 0) (replicate entries 0) same 1
  state-begins same long = record {
    heads = λ s h. rw (get_or-replicate {A = ℕ} slots s 0 0 h) (record { is = λ g. absurd (omega arith); none = λ q g l x. omega arith });
    chained = λ e h g. absurd (omega arith);
    found = λ e h g. absurd (omega arith);
    slots_long = length-replicate {A = ℕ} slots 0;
    next_long = length-replicate {A = ℕ} entries 0;
    same_long = long;
  }

  -- beside each entry before e + 1
  beside-more : (P : ℕ → ℕ → Type 0) (numbers : List ℕ) (e v : ℕ) → e < length numbers → ((x : ℕ) → 0 < x → x < e → Last (P x) x (get_or numbers x 0)) → Last (P e) e v
      → (x : ℕ) → 0 < x → x < e + 1 → Last (P x) x (get_or (set numbers e v) x 0)
  beside-more P numbers e v room before own x some lt = go (ℕ_discrete x e)
    where
      go : Dec (x ≡ e) → Last (P x) x (get_or (set numbers e v) x 0)
      go (yes at) = rw (at, get_or-set_same numbers e v 0 room) own
      go (no n) = rw (get_or-set_other numbers e x v 0 n) (before x some (omega arith))

  module _ {head next same : List ℕ} {e : ℕ} (S : State keys head next same e) (few : e < entries) where
    abbrev k : ℕ
    k = get_or keys e 0

    pub state-findable : Findable keys next (get_or head (k % slots) 0) k
    state-findable = record { end = e; few = omega arith; chained = S.chained; last = S.heads (k % slots) (slot-less k) }

    pub state-more : (r : ℕ) → Last (HasKey keys k) e r → State keys (set head (k % slots) e) (set next e (get_or head (k % slots) 0)) (set same e r) (e + 1)
    state-more r l = record {
      heads = λ s h. go s h (ℕ_discrete s (k % slots));
      chained = beside-more (λ x. InSlot keys (get_or keys x 0 % slots)) next e (get_or head (k % slots) 0) (omega (arith, S.next_long)) S.chained (S.heads (k % slots) (slot-less k));
      found = beside-more (λ x. HasKey keys (get_or keys x 0)) same e r (omega (arith, S.same_long)) S.found l;
      slots_long = simp length-set S.slots_long;
      next_long = simp length-set S.next_long;
      same_long = simp length-set S.same_long;
    }
      where
        go : (s : ℕ) → s < slots → Dec (s ≡ k % slots) → Last (InSlot keys s) (e + 1) (get_or (set head (k % slots) e) s 0)
        go s h (yes at) = rw (at, get_or-set_same head (k % slots) e 0 (omega (arith, S.slots_long, slot-less k))) (last-here refl)
        go s h (no n) = rw (get_or-set_other head (k % slots) s e 0 n) (last-past (λ g. n (sym g)) (S.heads s h))
