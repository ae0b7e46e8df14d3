-- The islands of the pairs that are passed are one.
use Rattle.std.proofs.Common.{◌≡◌, List, take}
use Rattle.meaning.specs.Listing.{Pair, flat}
use Rattle.meaning.specs.Islands.{unite_all}
use Rattle.numbering.proofs.number_islands.Given as goal

abbrev pub invariant-loop-i : goal.invariant-loop-i
invariant-loop-i l = (ps : List Pair) → l.fn.pairs ≡ flat ps → l.numbers ≡ unite_all l.firsts (take l.i-index ps)
