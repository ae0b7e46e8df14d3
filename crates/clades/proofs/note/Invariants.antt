-- The nodes from k on are marked.
use Rattle.std.proofs.Common.{◌≤◌, length}
use Rattle.meaning.specs.Limits.{max_nodes}
use Rattle.meaning.specs.Tree.{Tree}
use Rattle.meaning.specs.Clade.{clade}
use Rattle.held.specs.Held.{nodes, Holds}
use Rattle.clades.specs.Marks.{Marks}
use Rattle.clades.proofs.note.Given as goal

abbrev pub invariant-loop-k : goal.invariant-loop-k
invariant-loop-k l = (max_nodes ≤ length l.m) × ((t : Tree) → Holds l.n 0 t → Marks clade l.n l.m l.k (nodes t))
