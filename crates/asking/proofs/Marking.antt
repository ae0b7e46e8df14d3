-- Numbers that are marked one after another: those of the entries that a walk passes, and those that have a text of one of x's cuts.
-- Assumes nothing.
use mathlib.Core.Path.{◌≡◌, refl, sym, ap, ◌∙◌, subst}
use mathlib.Core.Logic.{◌↔◌, ◌⊎◌, inl, inr}
use mathlib.Core.Bool.{Bool, true, false}
use mathlib.Core.List.{List}
use Prim.Native.Nat.{ℕ, ◌+◌, ◌≤◌, ◌<◌}
use native.Mathlib.Omega.{arith}
use native.Mathlib.Decide.{ℕ_discrete}
use lib.ListN.{length, get_or, set, length-set}
use lib.Seq.{get_or-set_same, get_or-set_other}
use Rattle.holdings.specs.Slots.{Slot, slot_at}
use Rattle.holdings.specs.Entries.{entry_text, cuts_of}
use Rattle.holdings.specs.Memory.{entry_in}
use Rattle.holdings.specs.Neighbours.{Met}
use Rattle.asking.specs.Asking.{Marked, Marks, Bears}
use Rattle.asking.proofs.Walk.{Passed}

-- other words for which numbers these are
pub marks-iff : {P Q : ℕ → Type 0} {marks marks' : List Bool} → ((y : ℕ) → P y ↔ Q y) → Marks P marks marks' → Marks Q marks marks'
marks-iff {P} {Q} {marks} f m = record { long = m.long; each = λ y. (λ e. to y ((m.each y).0 e), λ s. (m.each y).1 (from y s)) }
  where
    to : (y : ℕ) → Marked marks y ⊎ P y → Marked marks y ⊎ Q y
    to y (inl e) = inl e
    to y (inr p) = inr ((f y).0 p)

    from : (y : ℕ) → Marked marks y ⊎ Q y → Marked marks y ⊎ P y
    from y (inl e) = inl e
    from y (inr q) = inr ((f y).1 q)

pub marks-none : (P : ℕ → Type 0) (marks : List Bool) → ((y : ℕ) → ¬ P y) → Marks P marks marks
marks-none P marks none = record { long = refl; each = λ y. (inl, λ s. from y s) }
  where
    from : (y : ℕ) → Marked marks y ⊎ P y → Marked marks y
    from y (inl e) = e
    from y (inr p) = absurd (none y p)

pub marks-one : (marks : List Bool) (z : ℕ) → z < length marks → Marks (λ y. z ≡ y) marks (set marks z true)
marks-one marks z inside = record { long = length-set marks z true; each = λ y. (λ e. to y (ℕ_discrete z y) e, λ s. from y (ℕ_discrete z y) s) }
  where
    other : (y : ℕ) → ¬ (z ≡ y) → get_or (set marks z true) y false ≡ get_or marks y false
    other y n = get_or-set_other marks z y true false (λ e. n (sym e))

    to : (y : ℕ) → Dec (z ≡ y) → Marked (set marks z true) y → Marked marks y ⊎ (z ≡ y)
    to y (yes q) e = inr q
    to y (no n) e = inl (sym (other y n) ∙ e)

    from : (y : ℕ) → Dec (z ≡ y) → Marked marks y ⊎ (z ≡ y) → Marked (set marks z true) y
    from y (yes q) s = ap (λ (i : ℕ). get_or (set marks z true) i false) (sym q) ∙ get_or-set_same marks z true false inside
    from y (no n) (inl e) = other y n ∙ e
    from y (no n) (inr q) = absurd (n q)

pub marks-more : {P Q : ℕ → Type 0} {marks marks' marks'' : List Bool} → Marks P marks marks' → Marks Q marks' marks'' → Marks (λ y. P y ⊎ Q y) marks marks''
marks-more {P} {Q} {marks} {marks'} {marks''} m n = record { long = n.long ∙ m.long; each = λ y. (λ e. to y ((n.each y).0 e), from y) }
  where
    first : (y : ℕ) → Marked marks y ⊎ P y → Marked marks y ⊎ (P y ⊎ Q y)
    first y (inl e) = inl e
    first y (inr p) = inr (inl p)

    to : (y : ℕ) → Marked marks' y ⊎ Q y → Marked marks y ⊎ (P y ⊎ Q y)
    to y (inl e) = first y ((m.each y).0 e)
    to y (inr q) = inr (inr q)

    from : (y : ℕ) → Marked marks y ⊎ (P y ⊎ Q y) → Marked marks'' y
    from y (inl e) = (n.each y).1 (inl ((m.each y).1 (inl e)))
    from y (inr (inl p)) = (n.each y).1 (inl ((m.each y).1 (inr p)))
    from y (inr (inr q)) = (n.each y).1 (inr q)

-- ---- a walk from p on
module _ (memory : List ℕ) (p : ℕ) where
  pub passed_none : (marks : List Bool) → Marks (Passed memory p p) marks marks
  passed_none marks = marks-none (Passed memory p p) marks (λ y w. omega (arith, w.from, w.to))

  -- it passes one entry more
  pub passed-next : {marks marks' : List Bool} {k : ℕ} → p ≤ k → (entry_in memory k).0 < length marks → Marks (Passed memory p k) marks marks'
      → Marks (Passed memory p (k + 1)) marks (set marks' (entry_in memory k).0 true)
  passed-next {marks} {marks'} {k} h inside m =
      marks-iff (λ y. (to y, λ w. from y w (ℕ_discrete w.place k))) (marks-more m (marks-one marks' (entry_in memory k).0 (omega (arith, m.long))))
    where
      to : (y : ℕ) → Passed memory p k y ⊎ ((entry_in memory k).0 ≡ y) → Passed memory p (k + 1) y
      to y (inl w) = record { place = w.place; from = w.from; to = omega (arith, w.to); tree = w.tree }
      to y (inr e) = record { place = k; from = h; to = omega arith; tree = e }

      from : (y : ℕ) (w : Passed memory p (k + 1) y) → Dec (w.place ≡ k) → Passed memory p k y ⊎ ((entry_in memory k).0 ≡ y)
      from y w (yes e) = inr (ap (λ (i : ℕ). (entry_in memory i).0) (sym e) ∙ w.tree)
      from y w (no n) = inl (record { place = w.place; from = w.from; to = omega (arith, w.to); tree = w.tree })

-- ---- the cuts of x
module _ (hs : List Slot) (x : ℕ) where
  -- y has an entry with the text of one of the first c
  pub record MetBelow (c y : ℕ) : Type 0 where
    pub cut : ℕ
    pub below : cut < c
    pub bears : Bears hs (entry_text hs (x, cut)) y

  pub met-none : (marks : List Bool) → Marks (MetBelow 0) marks marks
  met-none marks = marks-none (MetBelow 0) marks (λ y w. omega (arith, w.below))

  -- one cut more
  pub met_next : {marks marks' marks'' : List Bool} {c : ℕ} → Marks (MetBelow c) marks marks' → Marks (Bears hs (entry_text hs (x, c))) marks' marks''
      → Marks (MetBelow (c + 1)) marks marks''
  met_next {c} m n = marks-iff (λ y. (to y, λ w. from y w (ℕ_discrete w.cut c))) (marks-more m n)
    where
      to : (y : ℕ) → MetBelow c y ⊎ Bears hs (entry_text hs (x, c)) y → MetBelow (c + 1) y
      to y (inl w) = record { cut = w.cut; below = omega (arith, w.below); bears = w.bears }
      to y (inr b) = record { cut = c; below = omega arith; bears = b }

      from : (y : ℕ) (w : MetBelow (c + 1) y) → Dec (w.cut ≡ c) → MetBelow c y ⊎ Bears hs (entry_text hs (x, c)) y
      from y w (yes e) = inr (subst (λ (i : ℕ). Bears hs (entry_text hs (x, i)) y) e w.bears)
      from y w (no n) = inl (record { cut = w.cut; below = omega (arith, w.below); bears = w.bears })

  -- all of them
  pub met_all : {marks marks' : List Bool} {c : ℕ} → c ≡ cuts_of (slot_at hs x) → Marks (MetBelow c) marks marks' → Marks (Met hs x) marks marks'
  met_all {c} e = marks-iff (λ y. (to y, from y))
    where
      to : (y : ℕ) → MetBelow c y → Met hs x y
      to y w = record { one = w.cut; two = w.bears.cut; is_cut = omega (arith, e, w.below); is-cut' = w.bears.is-entry; agree = sym w.bears.same }

      from : (y : ℕ) → Met hs x y → MetBelow c y
      from y m = record { cut = m.one; below = omega (arith, e, m.is_cut); bears = record { cut = m.two; is-entry = m.is-cut'; same = sym m.agree } }
