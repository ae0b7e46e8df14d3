-- The pairs of the columns that are passed are listed.
use Rattle.meaning.specs.Loops.{row, row_of}
use Rattle.sharing.specs.Links.{is_linked}
use Rattle.graph.specs.Graph.{slices}
use Rattle.graph.proofs.Turns.{Part}
use Rattle.graph.proofs.list_row.Given as goal

abbrev pub invariant-loop-j : goal.invariant-loop-j
invariant-loop-j l = Part (row l.n (is_linked l.links) l.i) (row_of l.i l.j l.n (is_linked l.links)) (slices l.fn.pairs l.fn.counts) (slices l.pairs l.counts) l.m l.next
