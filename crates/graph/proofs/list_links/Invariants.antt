-- The pairs of the rows that are passed are listed.
use Rattle.meaning.specs.Loops.{pairs_from, pairs_of}
use Rattle.sharing.specs.Links.{is_linked}
use Rattle.graph.specs.Graph.{slices}
use Rattle.graph.proofs.Turns.{Part}
use Rattle.graph.proofs.list_links.Given as goal

abbrev pub invariant-loop-i : goal.invariant-loop-i
invariant-loop-i l = Part (pairs_of l.n (is_linked l.links)) (pairs_from l.i l.n (is_linked l.links)) (slices l.initial.pairs l.initial.counts) (slices l.pairs l.counts) 0 l.m
