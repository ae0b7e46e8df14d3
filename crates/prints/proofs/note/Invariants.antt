-- The nodes from k on are marked.
use Rattle.std.proofs.Common.{◌≤◌, length}
use Rattle.meaning.specs.Limits.{max_nodes}
use Rattle.meaning.specs.Tree.{Tree}
use Rattle.held.specs.Held.{nodes, Holds}
use Rattle.clades.specs.Marks.{Marks}
use Rattle.prints.specs.Print.{print}
use Rattle.prints.proofs.note.Given as goal

abbrev pub invariant-loop-k : goal.invariant-loop-k
invariant-loop-k l = (max_nodes ≤ length l.f) × ((t : Tree) → Holds l.n 0 t → Marks print l.n l.f l.k (nodes t))
