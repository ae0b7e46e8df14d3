-- The flags that are passed are set where they have to be.
use Rattle.links.specs.Tested.{Flag}
use Rattle.links.proofs.Flags.{Filled}
use Rattle.links.proofs.tried.link_tried.Given as goal

abbrev pub invariant-loop-i : goal.invariant-loop-i
invariant-loop-i g l = Filled (Flag (goal.F-post g l.test) l.table l.firsts l.fn.links) l.fn.links l.links l.table.len l.i 0

abbrev pub invariant-loop-j : goal.invariant-loop-j
invariant-loop-j g l = Filled (Flag (goal.F-post g l.test) l.table l.firsts l.fn.links) l.fn.links l.links l.table.len l.i l.j
