-- All entries have room, so the sum fits.
use Rattle.std.proofs.Common.{◌≡◌, List, ◌+◌, drop, arith}
use Rattle.holdings.specs.Slots.{Slot}
use Rattle.holdings.specs.Entries.{total}
use Rattle.holdings.specs.Memory.{Shelved}
use Rattle.slots.proofs.Walks.{few-entries, total-step, total-past}
use Rattle.slots.proofs.Slots.count.Goals.{After-cuts-sum}
use Rattle.slots.proofs.Slots.count.Goals as goal

-- one number more
more : (c : After-cuts-sum) (hs : List Slot) → Shelved hs c.args.self.now → c.loop-x.sum + c.cuts-sum.result + total (drop (c.loop-x.x + 1) hs) ≡ total hs
more c hs S = omega (arith, c.loop-x.invariant hs S, c.cuts-sum.ensures hs S, total-step hs c.loop-x.x (omega (arith, S.trees.many)))

pub overflow_add-sum : goal.overflow_add-sum
overflow_add-sum c =
    let p = c.self.invariant in
    omega (arith, more (goal.at.overflow_add-sum c).After-cuts-sum p.slots (rw c.self.view_is at p.shelved), few-entries p.shelved.trees)

pub loop-x-preserved : goal.loop-x-preserved
loop-x-preserved c = more (goal.at.loop-x-preserved c).After-cuts-sum

pub returns : goal.returns
returns c hs S = omega (arith, c.loop-x.invariant hs S, total-past hs c.loop-x.x (omega (arith, S.trees.many)))
