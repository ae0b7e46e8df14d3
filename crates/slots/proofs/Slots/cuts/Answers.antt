-- A tree has a cut for each node but its root.
use Rattle.std.proofs.Common.{◌≡◌, List, ◌*◌, sym, ap, arith}
use Rattle.meaning.specs.Limits.{max_nodes}
use Rattle.lent.proofs.Says.{said, denied}
use Rattle.held.specs.Held.{Held, nodes}
use Rattle.held.proofs.Laws.{some-nodes}
use Rattle.held.proofs.Subtree.{at-each}
use Rattle.holdings.specs.Slots.{Slot, free, slot_at}
use Rattle.holdings.specs.Entries.{cuts_of}
use Rattle.holdings.specs.Memory.{Shelved}
use Rattle.slots.proofs.Shelving.{held-there, cuts-told}
use Rattle.slots.proofs.Slots.cuts.Goals.{Else-is_free}
use Rattle.slots.proofs.Slots.cuts.Goals as goal

-- the number has a tree
taken : (c : Else-is_free) (hs : List Slot) → Shelved hs c.args.self.now → ¬ (slot_at hs c.args.x ≡ free)
taken c hs S = denied (slot_at hs _ ≡ free) c.if-is_free.false (c.is_free.ensures hs S)

pub returns-then-is_free : goal.returns-then-is_free
returns-then-is_free c hs S = sym (ap cuts_of (said (slot_at hs _ ≡ free) c.if-is_free.true (c.is_free.ensures hs S)))

pub new-root-requires : goal.new-root-requires
new-root-requires c =
    let p = c.self.invariant in
    held-there p.shelved c.requires (taken (goal.at.new-root-requires c).Else-is_free p.slots (rw c.self.view_is at p.shelved))

pub overflow_sub-result : goal.overflow_sub-result
overflow_sub-result c =
    let p = c.self.invariant in
    let H : Held c.self.inside.memory.now (c.args.x * max_nodes) = held-there p.shelved c.requires (taken (goal.at.overflow_sub-result c).Else-is_free p.slots (rw c.self.view_is at p.shelved)) in
    omega (arith, at-each nodes c.new-root.result c.new-root.ensures c.width.ensures H.tree H.holds, some-nodes H.tree)

pub returns : goal.returns
returns c hs S = cuts-told (rw (← c.self.view_is) at S) c.requires (taken (goal.at.returns c).Else-is_free hs S) c.width.result (at-each nodes c.new-root.result c.new-root.ensures c.width.ensures)
