-- The numbers that are passed are free, so the first held one is the first that is left.
use Rattle.std.proofs.Common.{◌≡◌, List, ◌+◌, drop}
use Rattle.holdings.specs.Slots.{Slot}
use Rattle.holdings.specs.Memory.{Shelved}
use Rattle.index_calls.specs.Added.{first_held}
use Rattle.index_calls.proofs.first_held.Given as goal

abbrev pub invariant-loop-x : goal.invariant-loop-x
invariant-loop-x l = (hs : List Slot) → Shelved hs l.slots → l.x + first_held (drop l.x hs) ≡ first_held hs
