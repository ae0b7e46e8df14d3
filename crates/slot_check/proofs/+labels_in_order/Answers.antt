-- What each way out of the walk tells.
use Rattle.std.proofs.Common.{ℕ, ◌<◌, get_or, arith}
use Rattle.slot_check.proofs.InOrder.{tells-end, tells-zero, tells-leaf, tells-no-first, tells-no-second, tells-wide, tells-unequal, tells-none-first, tells-none-second, tells-joined, some-told}
use Rattle.slot_check.proofs.+labels_in_order.Goals.{In_default, In_ok-left}
use Rattle.slot_check.proofs.+labels_in_order.Goals as goal

module _ (t : ℕ) where
  -- the byte is a fork's
  large : (f : In_default t) → 64 < get_or f.args.n.now f.args.k 0
  large f = omega (arith, f.in_default, f.in_ok-b.ensures.lookup.3.1 0)

pub returns-in_err-b : goal.returns-in_err-b
returns-in_err-b t c = let a = c.args in rw c.from_residual.ensures (tells-end a.n.now a.k c.in_err-b.ensures.lookup.3)

pub returns-in-0 : goal.returns-in-0
returns-in-0 t c = let a = c.args in tells-zero a.n.now a.k (omega (arith, c.in-0.is, c.in_ok-b.ensures.lookup.3.1 0))

pub returns-in-1-to-64 : goal.returns-in-1-to-64
returns-in-1-to-64 t c =
    let a = c.args in
    let b = c.in_ok-b.ensures.lookup.3 in
    rw (b.1 0) (tells-leaf a.n.now a.k b.0 (omega (arith, c.in-1-to-64, b.1 0)) (omega (arith, c.in-1-to-64, b.1 0)))

pub returns-in_err-left : goal.returns-in_err-left
returns-in_err-left t c =
    let a = c.args in
    rw c.from_residual-in_err-left.ensures (tells-no-first a.n.now a.k (large t (goal.at.returns-in_err-left t c).In_default) c.in_err-left.ensures)

pub returns-then-wide-left : goal.returns-then-wide-left
returns-then-wide-left t c =
    let a = c.args in
    tells-wide a.n.now a.k (large t (goal.at.returns-then-wide-left t c).In_default) c.in_ok-left.ensures.1 (omega (arith, c.if-wide-left.true, c.in_ok-b.ensures.lookup.3.1 0))

pub returns-in_err-rest : goal.returns-in_err-rest
returns-in_err-rest t c =
    let a = c.args in
    rw c.from_residual-in_err-rest.ensures
    (tells-no-second a.n.now a.k (large t (goal.at.returns-in_err-rest t c).In_default) c.in_ok-left.ensures.1 (omega (arith, c.from.ensures)) (omega (arith, c.if-wide-left.false, c.in_ok-b.ensures.lookup.3.1 0)) c.in_err-rest.ensures)

pub returns-then-rest-wide : goal.returns-then-rest-wide
returns-then-rest-wide t c =
    let a = c.args in
    tells-unequal a.n.now a.k (large t (goal.at.returns-then-rest-wide t c).In_default) c.in_ok-left.ensures.1 (omega (arith, c.from.ensures)) c.in_ok-rest.ensures.1
    (λ e. omega (arith, e, c.if-rest-wide.true, c.in_ok-b.ensures.lookup.3.1 0))

pub returns-in_err-x : goal.returns-in_err-x
returns-in_err-x t c =
    let a = c.args in
    rw c.from_residual-in_err-x.ensures (tells-none-first a.n.now a.k (large t (goal.at.returns-in_err-x t c).In_default) c.in_err-x.ensures)

pub returns-in_err-y : goal.returns-in_err-y
returns-in_err-y t c =
    let a = c.args in
    rw c.from_residual-in_err-y.ensures
    (tells-none-second a.n.now a.k (large t (goal.at.returns-in_err-y t c).In_default) c.in_ok-left.ensures.1 (omega (arith, c.from.ensures)) c.in_err-y.ensures)

pub joined-requires : goal.joined-requires
joined-requires t c = (some-told c.in_ok-x.ensures, some-told c.in_ok-y.ensures)

pub returns : goal.returns
returns t c =
    let a = c.args in
    let b = c.in_ok-b.ensures.lookup.3 in
    tells-joined a.n.now a.k (large t (goal.at.returns t c).In_default) c.in_ok-left.ensures.1 (omega (arith, c.from.ensures)) c.in_ok-x.ensures c.in_ok-y.ensures
    b.0 (omega (arith, c.if-wide-left.false, b.1 0)) (omega (arith, c.in_ok-rest.ensures.1, c.if-rest-wide.false, b.1 0)) c.joined.ensures
