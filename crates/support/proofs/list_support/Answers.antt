use Rattle.std.proofs.Common.{◌≤◌, length, arith, refl}
use lib.Seq.{length-take-le}
use Rattle.support.proofs.Supports.{kept-good, pool-few, sorted-few, noted-few, group-room, support-listed}
use Rattle.support.proofs.list_support.Goals as goal
use Rattle.support.proofs.list_support.Goals.{After-gather-n, After-sort, After-distinct-m}

-- of the trees that the table is known to keep
few : (c : After-gather-n) → c.gather-n.result ≤ 10080
few c = let k = c.requires.kept in pool-few (kept-good k.trees k.keeps) k.keeps.few refl (c.gather-n.ensures k.trees k.keeps)

sorted : (c : After-sort) → length c.sort.new.clades ≤ 10080
sorted c = let k = c.requires.kept in sorted-few (kept-good k.trees k.keeps) k.keeps.few refl (c.gather-n.ensures k.trees k.keeps) c.sort.ensures

noted : (c : After-distinct-m) → length c.sort.new.clades ≤ 10080 → (c.distinct-m.result ≤ length c.distinct-m.new.clades) × (c.distinct-m.result ≤ length c.distinct-m.new.numbers)
noted c s =
    let k = c.requires.kept in
    noted-few (kept-good k.trees k.keeps) k.keeps.few refl (c.gather-n.ensures k.trees k.keeps) c.sort.ensures (omega arith) (omega arith) c.distinct-m.ensures

pub slice_bounds-pool-end : goal.slice_bounds-pool-end
slice_bounds-pool-end c = omega (arith, few (goal.at.slice_bounds-pool-end c).After-gather-n)

pub slice_bounds-pool-end-2 : goal.slice_bounds-pool-end-2
slice_bounds-pool-end-2 c =
    let h = few (goal.at.slice_bounds-pool-end-2 c).After-gather-n in
    omega (arith, length-take-le c.gather-n.result c.gather-n.new.xs (omega arith))

pub slice_bounds-clades-end : goal.slice_bounds-clades-end
slice_bounds-clades-end c = let g = goal.at.slice_bounds-clades-end c in (noted g.After-distinct-m (sorted g.After-sort)).0

pub slice_bounds-regroup-end : goal.slice_bounds-regroup-end
slice_bounds-regroup-end c =
    let g = goal.at.slice_bounds-regroup-end c in
    omega (arith, length-take-le c.distinct-m.result c.distinct-m.new.clades (noted g.After-distinct-m (sorted g.After-sort)).0)

pub slice_bounds-numbers-end : goal.slice_bounds-numbers-end
slice_bounds-numbers-end c = let g = goal.at.slice_bounds-numbers-end c in (noted g.After-distinct-m (sorted g.After-sort)).1

pub slice_bounds-regroup-end-2 : goal.slice_bounds-regroup-end-2
slice_bounds-regroup-end-2 c =
    let g = goal.at.slice_bounds-regroup-end-2 c in
    omega (arith, length-take-le c.distinct-m.result c.distinct-m.new.numbers (noted g.After-distinct-m (sorted g.After-sort)).1)

pub regroup-requires : goal.regroup-requires
regroup-requires c =
    let k = c.requires.kept in
    let s = sorted (goal.at.regroup-requires c).After-sort in
    group-room (kept-good k.trees k.keeps) k.keeps.few refl (c.gather-n.ensures k.trees k.keeps) c.sort.ensures (omega arith) (omega arith) c.distinct-m.ensures
    (omega (arith, k.keeps.count, k.keeps.few)) (c.requires.room k.trees k.keeps) (c.requires.rooms k.trees k.keeps)

pub returns : goal.returns
returns c ts h =
    let s = sorted (goal.at.returns c).After-sort in
    support-listed (kept-good ts h) h.few refl (c.gather-n.ensures ts h) c.sort.ensures (omega arith) (omega arith) c.distinct-m.ensures h.count c.regroup.ensures
