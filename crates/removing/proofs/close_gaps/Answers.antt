-- What is kept is written no further on than entries were read.
use Rattle.std.proofs.Common.{◌≡◌, ◌+◌, ◌*◌, ◌≤◌, length, arith}
use Rattle.std.proofs.Math.ListN.{length-set}
use Rattle.lent.proofs.Runs.{wrote-length}
use Rattle.holdings.specs.Memory.{entries_at}
use Rattle.removing.proofs.Gaps.{gap-none, to_le, gap-skip, gap-take}
use Rattle.removing.proofs.close_gaps.Goals.{Then-y-x, then-y-x, else-y-x}
use Rattle.removing.proofs.close_gaps.Goals as goal

-- where it is written, in memory as long as it was
room : (c : Then-y-x) → (c.loop-k.to ≤ entries_at + 2 * c.loop-k.k) × (length c.loop-k.memory ≡ length c.args.memory.now)
room c = (to_le c.args.memory.now c.args.x c.loop-k.k c.loop-k.invariant, wrote-length c.loop-k.invariant)

pub loop-k-init : goal.loop-k-init
loop-k-init c = gap-none c.args.memory.now c.args.x

pub bounds-memory-k : goal.bounds-memory-k
bounds-memory-k c = omega (arith, wrote-length c.loop-k.invariant)

pub bounds-memory-k-in-loop-k : goal.bounds-memory-k-in-loop-k
bounds-memory-k-in-loop-k c = omega (arith, wrote-length c.loop-k.invariant)

pub bounds-memory-to : goal.bounds-memory-to
bounds-memory-to c = omega (arith, room c)

pub overflow_add-memory : goal.overflow_add-memory
overflow_add-memory c = omega (arith, room c)

pub bounds-memory-to-then-y-x : goal.bounds-memory-to-then-y-x
bounds-memory-to-then-y-x c = simp length-set (omega (arith, room c))

pub overflow_add-to : goal.overflow_add-to
overflow_add-to c = omega (arith, room c)

pub loop-k-preserved : goal.loop-k-preserved
loop-k-preserved c =
    let m = c.args.memory.now in
    let w = c.loop-k.invariant in
    elim c.if-y-x.branch [
      | then-y-x t ↦ rw (t.memory-is, t.to-is) (gap-take m c.args.x c.loop-k.k w t.if-y-x.true)
      | else-y-x t ↦ rw (t.memory-is, t.to-is) (gap-skip m c.args.x c.loop-k.k w t.if-y-x.false)
    ]

pub shape_of-memory : goal.shape_of-memory
shape_of-memory c = wrote-length c.loop-k.invariant

pub returns : goal.returns
returns c =
    let all : c.loop-k.k ≡ c.args.n = omega arith in
    rw all at c.loop-k.invariant
