-- One more is copied in each turn.
use Rattle.std.proofs.Common.{◌≡◌, ◌+◌, ℕ, refl, sym, subst, arith, take, drop, slice_set}
use Rattle.lent.specs.Runs.{Wrote}
use Rattle.lent.proofs.Runs.{wrote-length, copy_step}
use Rattle.lent.proofs.copy.Goals as goal

pub loop-k-init : goal.loop-k-init
loop-k-init g c = (omega arith, record { behind = omega arith; cells = refl })

pub bounds-out-at : goal.bounds-out-at
bounds-out-at g c = omega (arith, wrote-length c.loop-k.invariant.1)

pub loop-k-preserved : goal.loop-k-preserved
loop-k-preserved g c =
    let a = c.args in
    let l = c.loop-k in
    let v = c.index-s-from in
    let step = copy_step v.result a.s.now a.from l.k (omega arith) l.invariant.1 in (
      omega arith,
      subst (λ (x : g.row.T.Denot). Wrote (take (l.k + 1) (drop a.from a.s.now)) a.out.now (slice_set l.out (a.at + l.k) x) a.at (a.at + (l.k + 1))) (sym v.is) step,
    )

pub returns : goal.returns
returns g c =
    let a = c.args in
    let all : c.loop-k.k ≡ a.count = omega arith in
    subst (λ (i : ℕ). Wrote (take i (drop a.from a.s.now)) a.out.now c.loop-k.out a.at (a.at + i)) all c.loop-k.invariant.1
