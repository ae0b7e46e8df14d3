-- The walk marks the trees of all entries with the text, where it ends.
use Rattle.std.proofs.Common.{◌≡◌, ap, subst, arith}
use Rattle.meaning.specs.Listing.{Pair}
use Rattle.lent.proofs.Says.{said, denied}
use Rattle.holdings.specs.Entries.{entry_text}
use Rattle.holdings.proofs.Memory.{index-shelved}
use Rattle.asking.proofs.Searching.{text-placing, text-entry, tree-inside, walked_none, walked_next, walked_all}
use Rattle.asking.proofs.mark_text.Goals as goal

pub place-k-requires : goal.place-k-requires
place-k-requires c = text-placing c.requires

pub loop-k-init : goal.loop-k-init
loop-k-init c = walked_none c.args.marks.now

pub read-entry-requires : goal.read-entry-requires
read-entry-requires c = let p = text-placing c.requires in omega (arith, p.few, p.shelved.long)

pub has_text-requires : goal.has_text-requires
has_text-requires c = text-entry c.requires c.read-entry.ensures c.loop-k-test.true

pub bounds-marks-entry : goal.bounds-marks-entry
bounds-marks-entry c = omega (arith, ap (λ (e : Pair). e.0) c.read-entry.ensures, tree-inside c.requires c.loop-k-test.true, c.requires.room)

pub loop-k-preserved : goal.loop-k-preserved
loop-k-preserved c =
    walked_next c.loop-k.invariant c.read-entry.ensures (tree-inside c.requires c.loop-k-test.true) (λ hs S. said _ c.if-not-has_text.false (c.has_text.ensures hs S))

pub returns-then-not-has_text : goal.returns-then-not-has_text
returns-then-not-has_text c =
    walked_all c.requires c.loop-k.invariant (omega (arith, c.loop-k-test.true))
    (λ _ hs S. subst (λ (e : Pair). ¬ (entry_text hs e ≡ c.args.text.now)) c.read-entry.ensures (denied _ c.if-not-has_text.true (c.has_text.ensures hs S))) c.place-k.ensures

pub returns-after-loop-k : goal.returns-after-loop-k
returns-after-loop-k c =
    let r = c.requires in
    let few = (c.place-k.ensures r.slots (index-shelved r.long r.index)).few in
    walked_all r c.loop-k.invariant (omega arith) (λ more. absurd (omega (arith, more, c.loop-k-test.false))) c.place-k.ensures
