-- The firsts of the positions that are passed are written.
use Rattle.std.proofs.Common.{List, map}
use Rattle.meaning.specs.Lists.{positions}
use Rattle.meaning.specs.Tree.{Tree as Topology}
use Rattle.meaning.specs.Copies.{first_of}
use Rattle.lent.specs.Runs.{Wrote}
use Rattle.held.specs.Kept.{KeepsAll}
use Rattle.held.proofs.note_firsts.Given as goal

abbrev pub invariant-loop-i : goal.invariant-loop-i
invariant-loop-i l = (ts : List Topology) → KeepsAll l.table ts → Wrote (map (first_of ts) (positions l.i)) l.initial.firsts l.firsts 0 l.i
