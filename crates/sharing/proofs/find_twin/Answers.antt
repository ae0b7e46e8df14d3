use Rattle.std.proofs.Common.{◌≡◌, arith}
use Rattle.chains.proofs.Laws.{walk_ends}
use Rattle.sharing.proofs.Entries.{seek-begins, seek-entry, seek-below, seek-less, seek-further, seek-ends}
use Rattle.sharing.proofs.find_twin.Goals as goal

pub loop-q-init : goal.loop-q-init
loop-q-init c ts keys end S = seek-begins S

pub same_forest_at-requires : goal.same_forest_at-requires
same_forest_at-requires c =
    let p = c.requires in
    let W = c.loop-q.invariant p.trees p.keys p.end p.seeks in
    let kept = p.seeks.laid.kept in
    (record { trees = p.trees; kept = kept; entry = seek-entry p.seeks W (omega arith) }, record { trees = p.trees; kept = kept; entry = p.seeks.entry })

pub offset_bounds-same-q : goal.offset_bounds-same-q
offset_bounds-same-q c =
    let p = c.requires in
    omega (arith, seek-below p.seeks (c.loop-q.invariant p.trees p.keys p.end p.seeks) (omega arith))

pub bounds-same-q : goal.bounds-same-q
bounds-same-q c =
    let p = c.requires in
    seek-below p.seeks (c.loop-q.invariant p.trees p.keys p.end p.seeks) (omega arith)

pub loop-q-smaller : goal.loop-q-smaller
loop-q-smaller c =
    let p = c.requires in
    seek-less p.seeks (c.loop-q.invariant p.trees p.keys p.end p.seeks) (omega arith)

pub loop-q-preserved : goal.loop-q-preserved
loop-q-preserved c ts keys end S =
    let W = c.loop-q.invariant ts keys end S in
    seek-further S W (omega arith) (c.if-same_forest_at.ensures ts S.laid.kept (seek-entry S W (omega arith)) S.entry)

pub returns-then-same_forest_at : goal.returns-then-same_forest_at
returns-then-same_forest_at c ts keys end S =
    let W = c.loop-q.invariant ts keys end S in
    seek-ends S W (omega arith) (c.if-same_forest_at.ensures ts S.laid.kept (seek-entry S W (omega arith)) S.entry)

pub returns : goal.returns
returns c ts keys end S =
    let z : c.loop-q.q ≡ 0 = omega arith in
    rw z at (walk_ends (λ h. absurd (omega arith)) (c.loop-q.invariant ts keys end S))
