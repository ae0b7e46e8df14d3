-- One more is written in each turn.
use Rattle.std.proofs.Common.{◌≡◌, ◌+◌, ◌-◌, ◌∙◌, ℕ, refl, ap, arith, replicate}
use Rattle.std.proofs.Math.Seq.{sets}
use Rattle.lent.proofs.Runs.{wrote-same}
use Rattle.lent.proofs.fill.Goals as goal

pub loop-k-init : goal.loop-k-init
loop-k-init g c =
    let a = c.args in
    let none : a.from - a.from ≡ 0 = omega arith in
    (omega arith, rw none (record { behind = omega arith; cells = refl }))

pub loop-k-preserved : goal.loop-k-preserved
loop-k-preserved g c =
    let l = c.loop-k in
    let a = c.args in
    let next : l.k + 1 - a.from ≡ l.k - a.from + 1 = omega arith in
    (omega arith, rw next (wrote-same a.x (l.k - a.from) l.invariant.1))

pub returns : goal.returns
returns g c =
    let a = c.args in
    let all : c.loop-k.k - a.from ≡ a.to - a.from = omega arith in
    c.loop-k.invariant.1.cells ∙ ap (λ (n : ℕ). sets a.cells.now a.from (replicate n a.x)) all
