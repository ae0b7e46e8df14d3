-- What is called counts the entries, keeps those of the others, and clears what is behind them and the slot.
use Prim.Native.Nat.{◌*◌, ◌≤◌}
use native.Mathlib.Omega.{arith}
use Rattle.holdings.specs.Memory.{entry_bytes}
use Rattle.holdings.proofs.Memory.{index-shelved}
use Rattle.slots.proofs.Walks.{few-entries}
use Rattle.removing.proofs.Removal.{removed}
use Rattle.removing.proofs.remove.Goals.{After-count-n}
use Rattle.removing.proofs.remove.Goals as goal

-- there is room for the entries
few : (c : After-count-n) → 2 * c.count-n.result ≤ entry_bytes
few c = let R = c.requires in omega (arith, few-entries R.index.trees, c.count-n.ensures _ (index-shelved R.long R.index))

pub invariant_of-count : goal.invariant_of-count
invariant_of-count c = let R = c.requires in record { slots = _; shelved = index-shelved R.long R.index }

pub close_gaps-end-requires : goal.close_gaps-end-requires
close_gaps-end-requires c = omega (arith, few (goal.at.close_gaps-end-requires c).After-count-n, c.requires.long)

pub overflow_mul-n : goal.overflow_mul-n
overflow_mul-n c = omega (arith, few (goal.at.overflow_mul-n c).After-count-n)

pub overflow_add-n : goal.overflow_add-n
overflow_add-n c = omega (arith, few (goal.at.overflow_add-n c).After-count-n)

pub fill-requires : goal.fill-requires
fill-requires c = let n = (goal.at.fill-requires c).After-count-n in omega (arith, few n, n.requires.long)

pub returns : goal.returns
returns c = λ hs I.
    let R = c.requires in
    removed I R.long _ c.count-n.result R.inside (c.count-n.ensures hs (index-shelved R.long I)) c.close_gaps-end.ensures c.fill.ensures c.fill-2.ensures
