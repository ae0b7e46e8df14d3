-- What is not free has a tree.
use Rattle.std.proofs.Common.{◌≡◌, arith}
use Rattle.lent.proofs.Says.{said, denied}
use Rattle.holdings.specs.Slots.{free, slot_at}
use Rattle.slots.proofs.Shelving.{some-tree}
use Rattle.index_calls.proofs.Firsts.{held-here, held-behind, held-past}
use Rattle.index_calls.proofs.first_held.Goals as goal

pub loop-x-preserved : goal.loop-x-preserved
loop-x-preserved c hs S =
    let e = said (slot_at hs c.loop-x.x ≡ free) c.if-not-is_free.false (c.is_free.ensures hs S) in
    omega (arith, c.loop-x.invariant hs S, held-behind hs c.loop-x.x (omega (arith, S.trees.many)) e)

pub returns-then-not-is_free : goal.returns-then-not-is_free
returns-then-not-is_free c hs S =
    let (t, e) = some-tree (slot_at hs c.loop-x.x) (denied (slot_at hs c.loop-x.x ≡ free) c.if-not-is_free.true (c.is_free.ensures hs S)) in
    (omega arith, omega (arith, c.loop-x.invariant hs S, held-here hs c.loop-x.x (omega (arith, S.trees.many)) e))

pub returns : goal.returns
returns c hs S = omega (arith, c.loop-x.invariant hs S, held-past hs c.loop-x.x (omega (arith, S.trees.many)))
