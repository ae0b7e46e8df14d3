-- Entries with one text stand side by side: where a walk over them begins, where it ends, and that it passes all of them.
-- Assumes nothing.
use mathlib.Core.Path.{◌≡◌, ap, ◌∙◌, subst}
use mathlib.Core.Logic.{◌↔◌, ◌⊎◌, inl, inr}
use mathlib.Core.Bool.{not, ◌&&◌}
use mathlib.Core.List.{List}
use Prim.Native.Nat.{ℕ, ◌≤◌, ◌<◌}
use native.Mathlib.Omega.{arith}
use native.Mathlib.Decide.{ℕ_discrete, dec_lt}
use lib.Dec.{T, T_not}
use lib.ListN.{length}
use Rattle.meaning.specs.Sorted.{lesser}
use Rattle.meaning.specs.Listing.{Pair, Before}
use Rattle.meaning.proofs.Logic.{T_and, T-left}
use Rattle.meaning.proofs.Lesser.{or_cases, lesser-irrefl}
use Rattle.meaning.proofs.Lists.{number}
use Rattle.holdings.specs.Slots.{Slot}
use Rattle.holdings.specs.Entries.{entry_text, IsEntry, total, two_of, ranks}
use Rattle.holdings.specs.Memory.{index_bytes, IsIndex, entry_in}
use Rattle.holdings.proofs.EntryOrder.{two-iff, Earlier, earlier-iff}
use Rattle.holdings.proofs.Entries.{entries-mem, entries-length}
use Rattle.holdings.proofs.Memory.{entry_at, index-ranked}
use Rattle.entries.specs.Places.{Placed}
use Rattle.entries.proofs.Parting.{ranked-all}
use Rattle.asking.specs.Asking.{Bears}

-- no entry stands before (0, 0) but by its text
ranks-zero : (xs ys : List ℕ) (p : Pair) → T (ranks xs p ys (0, 0)) → T (lesser xs ys)
ranks-zero xs ys p t = go (or_cases (lesser xs ys) (not (lesser ys xs) && lesser (two_of p) (two_of (0, 0))) t)
  where
    never : Before p (0, 0) → ⊥
    never (inl h) = omega arith
    never (inr h) = omega (arith, h.1)

    go : T (lesser xs ys) ⊎ T (not (lesser ys xs) && lesser (two_of p) (two_of (0, 0))) → T (lesser xs ys)
    go (inl t) = t
    go (inr t) = absurd (never ((two-iff p (0, 0)).0 ((T_and (not (lesser ys xs)) (lesser (two_of p) (two_of (0, 0)))).0 t).1))

-- y is the number of an entry that a walk from p to k passes
pub record Passed (memory : List ℕ) (p k y : ℕ) : Type 0 where
  pub place : ℕ
  pub from : p ≤ place
  pub to : place < k
  pub tree : (entry_in memory place).0 ≡ y

module _ {hs : List Slot} {memory : List ℕ} (long : index_bytes ≤ length memory) (I : IsIndex hs memory) where
  -- the text of entry k
  abbrev text_in : ℕ → List ℕ
  text_in k = entry_text hs (entry_in memory k)

  -- every entry stands somewhere
  entry-stands : (e : Pair) → IsEntry hs e → (k : ℕ) × (k < total hs) × (entry_in memory k ≡ e)
  entry-stands e i =
      let (k, h, q) = number (0, 0) ((entries-mem hs e).1 i) in
      (k, omega (arith, entries-length hs), entry_at long I k (0, 0) h ∙ q)

  -- the text of a later entry is not lesser
  text-rises : (i j : ℕ) → i < j → j < total hs → T (lesser (text_in i) (text_in j)) ⊎ (text_in i ≡ text_in j)
  text-rises i j h l = by ((earlier-iff (entry_text hs) (entry_in memory i) (entry_in memory j)).0 (ranked-all (index-ranked long I) i j h l))
    where
      by : Earlier (entry_text hs) (entry_in memory i) (entry_in memory j) → T (lesser (text_in i) (text_in j)) ⊎ (text_in i ≡ text_in j)
      by (inl t) = inl t
      by (inr e) = inr e.0

  -- p is the place of (0, 0) with the text xs
  module _ {xs : List ℕ} {p : ℕ} (P : Placed hs memory (total hs) xs (0, 0) p) where
    -- no entry before it has the text
    begins : (j : ℕ) → text_in j ≡ xs → p ≤ j
    begins j e = go (dec_lt j p)
      where
        go : Dec (j < p) → p ≤ j
        go (yes h) = absurd (lesser-irrefl (text_in j) xs e (ranks-zero (text_in j) xs (entry_in memory j) (P.before j h)))
        go (no n) = omega arith

    -- none between it and an entry with the text has another
    side_by_side : (k j : ℕ) → p ≤ k → k ≤ j → j < total hs → text_in j ≡ xs → text_in k ≡ xs
    side_by_side k j h l m e = go (ℕ_discrete k j)
      where
        not-lesser : T (lesser (text_in k) xs) → ⊥
        not-lesser t = T_not (ranks (text_in k) (entry_in memory k) xs (0, 0)) (P.behind k h (omega arith))
            (T-left (lesser (text_in k) xs) (not (lesser xs (text_in k)) && lesser (two_of (entry_in memory k)) (two_of (0, 0))) t)

        by : T (lesser (text_in k) (text_in j)) ⊎ (text_in k ≡ text_in j) → text_in k ≡ xs
        by (inl t) = absurd (not-lesser (subst (λ (ys : List ℕ). T (lesser (text_in k) ys)) e t))
        by (inr q) = q ∙ e

        go : Dec (k ≡ j) → text_in k ≡ xs
        go (yes q) = ap text_in q ∙ e
        go (no n) = by (text-rises k j (omega arith) m)

    -- a walk that ends at the first entry from p on with another text, or behind the last, passes all with this one
    pub passes : (k : ℕ) → k ≤ total hs → ((j : ℕ) → p ≤ j → j < k → text_in j ≡ xs) → (k < total hs → ¬ (text_in k ≡ xs)) → p ≤ k
        → (y : ℕ) → Passed memory p k y ↔ Bears hs xs y
    passes k few same other from y = (to, back)
      where
        to : Passed memory p k y → Bears hs xs y
        to w = record {
          cut = (entry_in memory w.place).1;
          is-entry = subst (λ (z : ℕ). IsEntry hs (z, (entry_in memory w.place).1)) w.tree ((index-ranked long I).each w.place (omega (arith, w.to)));
          same = subst (λ (z : ℕ). entry_text hs (z, (entry_in memory w.place).1) ≡ xs) w.tree (same w.place w.from w.to);
        }

        at : (j : ℕ) → j < total hs → text_in j ≡ xs → (entry_in memory j).0 ≡ y → Dec (j < k) → Passed memory p k y
        at j l e q (yes h) = record { place = j; from = begins j e; to = h; tree = q }
        at j l e q (no n) = absurd (other (omega arith) (side_by_side k j from (omega arith) l e))

        back : Bears hs xs y → Passed memory p k y
        back b =
            let (j, l, e) = entry-stands (y, b.cut) b.is-entry in
            at j l (ap (entry_text hs) e ∙ b.same) (ap (λ (q : Pair). q.0) e) (dec_lt j k)
