-- The small index of docs/RULES.md: its slots, its entries in order, and those that are left when the tree 0 is removed.
-- Assumes nothing.
use mathlib.Core.Path.{◌≡◌, refl}
use mathlib.Core.List.{List, [], ◌∷◌}
use lib.ListN.{take}
use Rattle.meaning.specs.Lists.{positions}
use Rattle.meaning.specs.Sorted.{lesser, insert, sort_by}
use Rattle.meaning.specs.Tree.{Tree, leaf, fork}
use Rattle.holdings.specs.Slots.{Slot, free, held, smallest_free, add, remove}
use Rattle.holdings.specs.Entries.{own_from, entries}
use Rattle.holdings.specs.Memory.{slot_bytes}

-- ((1,2),3), (1,(2,3)) and (3,(2,1)), added in this order; four numbers are enough to see it
abbrev first : Tree
first = fork (fork (leaf 1) (leaf 2)) (leaf 3)

abbrev second : Tree
second = fork (leaf 1) (fork (leaf 2) (leaf 3))

abbrev third : Tree
third = fork (leaf 3) (fork (leaf 2) (leaf 1))

abbrev none : List Slot
none = free ∷ free ∷ free ∷ free ∷ []

abbrev small : List Slot
small = held first ∷ held second ∷ held first ∷ free ∷ []

pub added-holds : add (add (add none first) second) third ≡ small
unfolding smallest_free
added-holds = refl

pub slot-holds : take 6 (slot_bytes (held second)) ≡ 67 ∷ 1 ∷ 66 ∷ 2 ∷ 3 ∷ 0 ∷ []
slot-holds = refl

pub entries-hold : entries small ≡ (0, 3) ∷ (1, 3) ∷ (2, 3) ∷ (0, 2) ∷ (1, 2) ∷ (2, 2) ∷ (0, 1) ∷ (1, 0) ∷ (2, 1) ∷ (1, 1) ∷ (0, 0) ∷ (2, 0) ∷ []
unfolding entries own_from positions sort_by insert lesser
entries-hold = refl

pub removed-holds : entries (remove small 0) ≡ (1, 3) ∷ (2, 3) ∷ (1, 2) ∷ (2, 2) ∷ (1, 0) ∷ (2, 1) ∷ (1, 1) ∷ (2, 0) ∷ []
unfolding entries own_from positions sort_by insert lesser
removed-holds = refl
