-- The sum and the entries of the numbers that are left are all entries.
use Rattle.std.proofs.Common.{◌≡◌, List, ◌+◌, drop}
use Rattle.holdings.specs.Slots.{Slot}
use Rattle.holdings.specs.Entries.{total}
use Rattle.holdings.specs.Memory.{Shelved}
use Rattle.slots.proofs.Slots.count.Given as goal

abbrev pub invariant-loop-x : goal.invariant-loop-x
invariant-loop-x l = (hs : List Slot) → Shelved hs l.self → l.sum + total (drop l.x hs) ≡ total hs
