-- The slots that are passed are slots of one clade, and the next begins what is left.
use Rattle.std.specs.Slice.Iter.{chunks_exact_rest, chunks_exact_size}
use Rattle.slot_check.proofs.Shelves.{Along}
use Rattle.slot_check.proofs.are_slots.Given as goal

abbrev pub invariant-loop-slot : goal.invariant-loop-slot
invariant-loop-slot l =
    (goal.iterator-loop-slot).can_next l.slot-iterator × (goal.iterator-loop-slot).is_finite l.slot-iterator
    × Along l.memory (chunks_exact_rest l.slot-iterator) (chunks_exact_size l.slot-iterator) l.common
