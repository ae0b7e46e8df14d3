-- Going through the numbers one by one: the entries of those that are left, the smallest free one, and how many entries there can be.
-- Assumes nothing.
use mathlib.Core.Path.{◌≡◌, ap, ◌∙◌}
use mathlib.Core.List.{List, ◌∷◌}
use Prim.Native.Nat.{ℕ, suc, ◌+◌, ◌*◌, ◌-◌, ◌≤◌, ◌<◌}
use native.Mathlib.Numerals.{add-one}
use native.Mathlib.Omega.{arith}
use lib.ListN.{length, drop, drop_of_length-le}
use lib.Seq.{drop-cons}
use Rattle.meaning.specs.Limits.{max_trees, max_nodes}
use Rattle.meaning.specs.Tree.{Tree}
use Rattle.holdings.specs.Slots.{Slot, free, held, slot_at, HeldTrees, smallest_free}
use Rattle.holdings.specs.Entries.{cuts_of, total}
use Rattle.holdings.proofs.SlotBytes.{total-le}

-- memory has room for all entries
pub few-entries : {hs : List Slot} → HeldTrees hs → total hs ≤ max_trees * (max_nodes - 1)
few-entries {hs} H = omega (arith, total-le hs H.good, H.many)

module _ (hs : List Slot) (x : ℕ) where
  module _ (inside : x < length hs) where
    -- a number's entries, and those of the numbers behind it
    pub total-step : total (drop x hs) ≡ cuts_of (slot_at hs x) + total (drop (x + 1) hs)
    unfolding total
    total-step = rw add-one (ap total (drop-cons hs x free inside))

    -- a free number is the smallest that is left; behind another the search goes on
    pub free-here : slot_at hs x ≡ free → smallest_free (drop x hs) ≡ 0
    unfolding smallest_free
    free-here e = ap smallest_free (drop-cons hs x free inside ∙ ap (λ (h : Slot). h ∷ drop (suc x) hs) e)

    pub free-behind : {t : Tree} → slot_at hs x ≡ held t → smallest_free (drop x hs) ≡ suc (smallest_free (drop (x + 1) hs))
    unfolding smallest_free
    free-behind e = rw add-one (ap smallest_free (drop-cons hs x free inside ∙ ap (λ (h : Slot). h ∷ drop (suc x) hs) e))

  -- nothing is left behind the last
  module _ (past : length hs ≤ x) where
    pub total-past : total (drop x hs) ≡ 0
    unfolding total
    total-past = ap total (drop_of_length-le hs past)

    pub free-past : smallest_free (drop x hs) ≡ 0
    unfolding smallest_free
    free-past = ap smallest_free (drop_of_length-le hs past)
