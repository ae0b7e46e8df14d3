-- The children fit where no label is in both, and the first has the smallest.
use Rattle.std.proofs.Common.{◌≡◌, arith}
use lib.Bits.{bit_and}
use lib.Dec.{T}
use Rattle.meaning.specs.Clade.{disjoint}
use Rattle.meaning.proofs.LabelBits.{add-lt, disjoint_iff}
use Rattle.meaning.proofs.Logic.{T-eq}
use Rattle.slot_check.specs.Slot.{joins, unfit}
use Rattle.slot_check.proofs.joined.Goals.{Else-swapped, then-shared-via-then-shared, then-shared-via-else-shared+then-swapped}
use Rattle.slot_check.proofs.joined.Goals as goal

-- no label is in both
apart : (c : Else-swapped) → let a = c.args in T (disjoint a.x a.y)
apart c =
    let a = c.args in
    let e : bit_and a.x a.y ≡ 0 = omega (arith, c.if-shared.false) in
    (T-eq (bit_and a.x a.y) 0).1 e

pub returns-then-shared : goal.returns-then-shared
returns-then-shared c =
    let a = c.args in
    elim c.then-shared.branch [
      | then-shared-via-then-shared w ↦ unfit (λ f. omega (arith, (T-eq (bit_and a.x a.y) 0).0 f.apart, w.if-shared.true))
      | then-shared-via-else-shared+then-swapped w ↦ unfit (λ f. omega (arith, f.smaller, w.if-swapped.true))
    ]

pub overflow_add-result : goal.overflow_add-result
overflow_add-result c =
    let a = c.args in
    record { fits = add-lt 64 ((disjoint_iff a.x a.y).0 (apart c)) (omega arith) (omega arith) }

pub returns : goal.returns
returns c = joins (record { some_first = omega arith; some_second = omega arith; apart = apart c; smaller = omega (arith, c.if-swapped.false) })
