use Rattle.std.proofs.Common.{◌≡◌, ◌-◌, ◌<◌, get_or, suc, arith, ap}
use Rattle.meaning.specs.Limits.{max_label}
use Rattle.meaning.specs.Clade.{lowest}
use Rattle.rows.proofs.Noted.{noted-none, noted_more}
use Rattle.rows.proofs.Places.{row-some, row_low, row-long}
use Rattle.rows.proofs.grown.Places.new.Goals as goal
use Rattle.rows.proofs.grown.Places.new.Goals.{After-from-l}

-- a turn of the loop, once the smallest label is known
label : (u : After-from-l) → lowest (get_or u.args.row.now u.loop-i.i 0) ≡ suc (u.from-l.result - 1)
label u = omega (arith, u.from-l.ensures, u.smallest.ensures, ap lowest u.new.ensures)

-- both tables have the place that is noted in them
range : (u : After-from-l) → (u.loop-i.i < max_label) × (u.from-l.result - 1 < max_label)
range u =
    let xs = u.args.row.now in
    let is = u.requires in
    (omega (arith, u.loop-i-test.true, row-long xs is), omega (arith, label u, row_low xs is u.loop-i.i u.loop-i.invariant.0 u.loop-i-test.true))

pub loop-i-init : goal.loop-i-init
loop-i-init c = (omega arith, row-some c.args.row.now c.requires, noted-none c.args.row.now)

pub bounds-last-l : goal.bounds-last-l
bounds-last-l c = omega (arith, range (goal.at.bounds-last-l c).After-from-l)

pub bounds-before-i : goal.bounds-before-i
bounds-before-i c = omega (arith, range (goal.at.bounds-before-i c).After-from-l)

pub overflow_cast-last : goal.overflow_cast-last
overflow_cast-last c = omega (arith, range (goal.at.overflow_cast-last c).After-from-l)

pub bounds-last-l-in-loop-i : goal.bounds-last-l-in-loop-i
bounds-last-l-in-loop-i c = omega (arith, range (goal.at.bounds-last-l-in-loop-i c).After-from-l)

pub loop-i-preserved : goal.loop-i-preserved
loop-i-preserved c =
    let u = (goal.at.loop-i-preserved c).After-from-l in
    (omega arith, omega (arith, c.loop-i-test.true), noted_more c.loop-i.invariant.2 (c.from-l.result - 1) (label u) (range u).1 (range u).0)
