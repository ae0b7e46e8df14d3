-- The marked numbers with other trees are the neighbours.
use Rattle.holdings.proofs.Memory.{index-shelved}
use Rattle.asking.proofs.Found.{found}
use Rattle.asking.proofs.list_neighbours.Goals as goal

pub invariant_of-mark_met : goal.invariant_of-mark_met
invariant_of-mark_met c = let a = c.requires.0 in record { slots = _; shelved = index-shelved a.long a.valid.index }

pub returns : goal.returns
returns c hs I =
    let a = c.requires.0 in
    found (index-shelved a.long I) a.inside (c.mark_met.ensures hs I) c.list_marked.ensures
