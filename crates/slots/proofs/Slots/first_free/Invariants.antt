-- The numbers that are passed have trees, so the smallest free one is the smallest that is left.
use Rattle.std.proofs.Common.{◌≡◌, List, ◌+◌, drop}
use Rattle.holdings.specs.Slots.{Slot, smallest_free}
use Rattle.holdings.specs.Memory.{Shelved}
use Rattle.slots.proofs.Slots.first_free.Given as goal

abbrev pub invariant-loop-number : goal.invariant-loop-number
invariant-loop-number l = (hs : List Slot) → Shelved hs l.self → l.number + smallest_free (drop l.number hs) ≡ smallest_free hs
