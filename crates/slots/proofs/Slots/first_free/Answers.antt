-- What is not free has a tree, so the search goes on behind it.
use Rattle.std.proofs.Common.{◌≡◌, arith}
use Rattle.lent.proofs.Says.{said, denied}
use Rattle.holdings.specs.Slots.{free, slot_at}
use Rattle.slots.proofs.Shelving.{some-tree}
use Rattle.slots.proofs.Walks.{free-here, free-behind, free-past}
use Rattle.slots.proofs.Slots.first_free.Goals as goal

pub returns-then-is_free : goal.returns-then-is_free
returns-then-is_free c hs S =
    let e = said (slot_at hs c.loop-number.number ≡ free) c.if-is_free.true (c.is_free.ensures hs S) in
    (omega arith, omega (arith, c.loop-number.invariant hs S, free-here hs c.loop-number.number (omega (arith, S.trees.many)) e))

pub loop-number-preserved : goal.loop-number-preserved
loop-number-preserved c hs S =
    let (t, e) = some-tree (slot_at hs c.loop-number.number) (denied (slot_at hs c.loop-number.number ≡ free) c.if-is_free.false (c.is_free.ensures hs S)) in
    omega (arith, c.loop-number.invariant hs S, free-behind hs c.loop-number.number (omega (arith, S.trees.many)) e)

pub returns : goal.returns
returns c hs S = omega (arith, c.loop-number.invariant hs S, free-past hs c.loop-number.number (omega (arith, S.trees.many)))
