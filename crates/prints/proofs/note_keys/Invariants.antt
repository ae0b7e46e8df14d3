-- The keys of the nodes that are passed are noted.
use Rattle.prints.proofs.Keys.{KeysTo}
use Rattle.prints.proofs.note_keys.Given as goal

abbrev pub invariant-loop-p : goal.invariant-loop-p
invariant-loop-p l = KeysTo l.f l.rest l.fn.keys l.keys l.at l.p
