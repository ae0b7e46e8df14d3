-- A number is listed where it is to be.
use Rattle.std.proofs.Common.{◌≡◌, ℕ, arith}
use Rattle.lent.proofs.Runs.{wrote-length}
use Rattle.lent.proofs.Says.{said, denied}
use Rattle.asking.specs.Asking.{Other}
use Rattle.asking.proofs.Listed.{list-none, list-takes, list-skips}
use Rattle.asking.proofs.list_marked.Goals.{then-is_other, else-is_other}
use Rattle.asking.proofs.list_marked.Goals as goal

pub loop-y-init : goal.loop-y-init
loop-y-init c = (omega arith, list-none _ _)

pub bounds-list-m : goal.bounds-list-m
bounds-list-m c = omega (arith, wrote-length c.loop-y.invariant.1.wrote)

pub loop-y-preserved : goal.loop-y-preserved
loop-y-preserved c =
    let a = c.args in
    let P : ℕ → Type 0 = Other a.marks.now a.memory.now a.x in
    elim c.if-is_other.branch [
      | then-is_other w ↦ (omega arith, rw (w.list-is, w.m-is) (list-takes P c.loop-y.invariant.1 (said (P c.loop-y.y) w.if-is_other.true c.is_other.ensures)))
      | else-is_other w ↦ (omega arith, rw (w.list-is, w.m-is) (list-skips P c.loop-y.invariant.1 (denied (P c.loop-y.y) w.if-is_other.false c.is_other.ensures)))
    ]

pub shape_of-list : goal.shape_of-list
shape_of-list c = wrote-length c.loop-y.invariant.1.wrote

pub returns : goal.returns
returns c =
    let all : c.loop-y.y ≡ 160 = omega arith in
    rw all at c.loop-y.invariant.1
