-- The parts that are compared are equal exactly when the runs are the same.
use Rattle.std.proofs.Common.{◌≡◌, ◌+◌, ◌-◌, arith, take, drop}
use Rattle.std.proofs.lemmas.Slice.Eq.{slice_eq-Decides}
use Rattle.std.proofs.lemmas.Bool.Decides.{Decides-eqb}
use Rattle.lent.proofs.Runs.{same-parts, parts-same}
use Rattle.lent.proofs.Says.{says, says_decided}
use Rattle.lent.proofs.same_run.Goals as goal

pub returns : goal.returns
returns c =
    let a = c.args in
    let m : a.i + a.count - a.i ≡ a.count = omega arith in
    let n : a.j + a.count - a.j ≡ a.count = omega arith in
    says (take a.count (drop a.i a.x.now) ≡ take a.count (drop a.j a.y.now)) _ (same-parts a.x.now a.i a.y.now a.j a.count)
    (parts-same a.x.now a.i a.y.now a.j a.count c.requires.0 c.requires.1) c.eq.result
    (says_decided _ c.eq.result (slice_eq-Decides Decides-eqb _ _ c.eq.result (rw (m, n) at c.eq.ensures)))
