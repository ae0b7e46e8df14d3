-- Closing gaps: the entries of other numbers, written from the first place on while they are read further on.
-- Assumes nothing.
use mathlib.Core.Path.{◌≡◌, refl, sym, ap, ap₂, subst, ◌∙◌}
use mathlib.Core.Logic.{◌≢◌}
use mathlib.Core.List.{List, [], ◌∷◌, ◌++◌, map, append-nil, map-append}
use Prim.Native.Nat.{ℕ, ◌+◌, ◌*◌, ◌≤◌}
use native.Mathlib.Numerals.{add-one}
use native.Mathlib.Omega.{arith}
use borrow.Author.Tests.{eq-eqb, ne_eqb}
use lib.ListN.{length, get_or, set, length-map}
use Rattle.meaning.specs.Lists.{positions}
use Rattle.meaning.specs.Sorted.{put, keep}
use Rattle.meaning.specs.Listing.{Pair, flat}
use Rattle.meaning.proofs.Counts.{flat_append, flat-length}
use Rattle.meaning.proofs.Keep.{keep_append, keep-length}
use Rattle.meaning.proofs.Positions.{positions-length}
use Rattle.lent.specs.Runs.{Wrote}
use Rattle.lent.proofs.Runs.{sets-outside, wrote-two, wrote-more}
use Rattle.holdings.specs.Memory.{entries_at, entry_in}
use Rattle.removing.specs.Removing.{is_other, others_in}

-- one entry more is read
pub read_more : (memory : List ℕ) (k : ℕ) → map (entry_in memory) (positions (k + 1)) ≡ map (entry_in memory) (positions k) ++ (entry_in memory k ∷ [])
unfolding positions
read_more memory k = rw (add-one k) (map-append (entry_in memory) (positions k) (k ∷ []))

module _ (memory : List ℕ) (x : ℕ) where
  -- no more is written than was read
  others-length : (k : ℕ) → length (others_in memory k x) ≤ 2 * k
  others-length k =
      let read : List Pair = map (entry_in memory) (positions k) in
      omega (arith, flat-length (keep (is_other x) read), keep-length (is_other x) read, length-map (positions k) (entry_in memory), positions-length k)

  pub gap-none : Wrote (others_in memory 0 x) memory memory entries_at entries_at
  unfolding positions keep flat
  gap-none = record { behind = refl; cells = refl }

  module _ (k : ℕ) {m : List ℕ} {to : ℕ} (w : Wrote (others_in memory k x) memory m entries_at to) where
    pub to_le : to ≤ entries_at + 2 * k
    to_le = omega (arith, w.behind, others-length k)

    -- what is read is still what stood there
    unread : (j : ℕ) → entries_at + 2 * k ≤ j → get_or m j 0 ≡ get_or memory j 0
    unread j h = ap (λ (l : List ℕ). get_or l j 0) w.cells ∙ sets-outside 0 memory entries_at (others_in memory k x) j (λ _. omega (arith, others-length k))

    entry-same : entry_in memory k ≡ entry_in m k
    entry-same = ap₂ (λ (y c : ℕ). (y, c)) (sym (unread (entries_at + 2 * k) (omega arith))) (sym (unread (entries_at + 2 * k + 1) (omega arith)))

    next : others_in memory (k + 1) x ≡ others_in memory k x ++ flat (keep (is_other x) (entry_in m k ∷ []))
    next =
        let read : List Pair = map (entry_in memory) (positions k) in
        ap (λ (es : List Pair). flat (keep (is_other x) es)) (read_more memory k ∙ ap (λ (e : Pair). read ++ (e ∷ [])) entry-same)
        ∙ ap flat (keep_append (is_other x) read (entry_in m k ∷ [])) ∙ flat_append (keep (is_other x) read) (keep (is_other x) (entry_in m k ∷ []))

    -- an entry of x is passed over
    pub gap-skip : (entry_in m k).0 ≡ x → Wrote (others_in memory (k + 1) x) memory m entries_at to
    unfolding keep put flat
    gap-skip e =
        let same : others_in memory (k + 1) x ≡ others_in memory k x = next ∙ rw (eq-eqb (entry_in m k).0 x e, append-nil) in
        subst (λ (ys : List ℕ). Wrote ys memory m entries_at to) (sym same) w

    -- another is written behind those kept so far
    pub gap-take : (entry_in m k).0 ≢ x → Wrote (others_in memory (k + 1) x) memory (set (set m to (entry_in m k).0) (to + 1) (entry_in m k).1) entries_at (to + 2)
    unfolding keep put flat
    gap-take ne =
        let y : ℕ = (entry_in m k).0 in
        let c : ℕ = (entry_in m k).1 in
        let more : others_in memory (k + 1) x ≡ others_in memory k x ++ (y ∷ c ∷ []) = next ∙ rw (ne_eqb (entry_in m k).0 x ne) in
        subst (λ (ys : List ℕ). Wrote ys memory (set (set m to y) (to + 1) c) entries_at (to + 2)) (sym more) (wrote-more w (wrote-two m to y c))
