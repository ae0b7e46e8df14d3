-- The numbers are marked that have the text of a cut that is passed.
use Rattle.std.proofs.Common.{List}
use Rattle.holdings.specs.Slots.{Slot}
use Rattle.holdings.specs.Memory.{IsIndex}
use Rattle.asking.specs.Asking.{Marks}
use Rattle.asking.proofs.Marking.{MetBelow}
use Rattle.asking.proofs.mark_met.Given as goal

abbrev pub invariant-loop-cut : goal.invariant-loop-cut
invariant-loop-cut l = (hs : List Slot) → IsIndex hs l.slots → Marks (MetBelow hs l.x l.cut) l.initial.marks l.marks
