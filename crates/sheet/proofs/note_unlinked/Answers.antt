use Rattle.std.proofs.Common.{◌≡◌, length, refl, arith}
use Rattle.meaning.specs.Lists.{positions}
use Rattle.meaning.specs.Listing.{unlinked}
use Rattle.meaning.proofs.Sums.{map_same}
use Rattle.lent.proofs.Runs.{wrote-length, wrote-next}
use Rattle.sheet.proofs.Listed.{numbers-long}
use Rattle.sheet.proofs.Unlinked.{firsts-long, first-few, tally-room, rest_at}
use Rattle.sheet.proofs.note_unlinked.Invariants.{left}
use Rattle.sheet.proofs.note_unlinked.Goals as goal

pub tally-requires : goal.tally-requires
tally-requires c = tally-room c.requires.listed

pub loop-i-init : goal.loop-i-init
unfolding positions
loop-i-init c = record { behind = refl; cells = refl }

pub bounds-counts-i : goal.bounds-counts-i
bounds-counts-i c = let L = c.requires.listed in omega (arith, L.keeps.all.count, numbers-long L)

pub bounds-firsts-i : goal.bounds-firsts-i
bounds-firsts-i c = let L = c.requires.listed in omega (arith, L.keeps.all.count, firsts-long L)

pub bounds-copies-firsts : goal.bounds-copies-firsts
bounds-copies-firsts c = let L = c.requires.listed in omega (arith, first-few L c.loop-i.i (omega (arith, L.keeps.all.count)))

pub overflow_sub-unlinked : goal.overflow_sub-unlinked
overflow_sub-unlinked c = let L = c.requires.listed in omega (arith, rest_at L c.tally.ensures c.loop-i.i (omega (arith, L.keeps.all.count)))

pub overflow_sub-unlinked-in-loop-i : goal.overflow_sub-unlinked-in-loop-i
overflow_sub-unlinked-in-loop-i c = let L = c.requires.listed in omega (arith, rest_at L c.tally.ensures c.loop-i.i (omega (arith, L.keeps.all.count)))

pub overflow_cast-unlinked : goal.overflow_cast-unlinked
overflow_cast-unlinked c = let k = c.requires.listed.keeps.all in omega (arith, k.count, k.few)

pub bounds-unlinked-i : goal.bounds-unlinked-i
bounds-unlinked-i c = let L = c.requires.listed in omega (arith, L.keeps.all.count, c.requires.room, wrote-length c.loop-i.invariant)

pub loop-i-preserved : goal.loop-i-preserved
loop-i-preserved c = wrote-next (left c.args.counts.now c.args.table.len c.args.firsts.now c.tally.new.tallies) c.loop-i.i c.loop-i.invariant

pub returns : goal.returns
returns c ts ps L =
    let all : c.loop-i.i ≡ length ts.trees = omega (arith, L.keeps.all.count) in
    let same = map_same (left c.args.counts.now c.args.table.len c.args.firsts.now c.tally.new.tallies) (unlinked ts.trees ps) (length ts.trees)
    (λ j l. omega (arith, rest_at L c.tally.ensures j l)) in
    rw (all, same) at c.loop-i.invariant
