-- One tree, of a kind that is taken, and nothing behind it.
use Rattle.std.proofs.Common.{refl, arith}
use Rattle.tokens.proofs.Steps.{err-exit, then-refused}
use Rattle.reading.specs.Whole.{takes_of}
use Rattle.reading.proofs.Whole.{one-is, one_place, one-untaken, one_more, one-done}
use Rattle.reading.proofs.trees.read_tree.Goals as goal

pub returns-in_err-read : goal.returns-in_err-read
returns-in_err-read c = err-exit _ _ _ c.from_residual.ensures.1 (rw (one-is (takes_of c.args.takes) c.args.s.now) (then-refused _ c.in_err-read.ensures))

pub overflow_sub-read : goal.overflow_sub-read
overflow_sub-read c = omega (arith, one_place (takes_of c.args.takes) c.args.s.now c.in_ok-read.ensures)

pub returns-in-Some : goal.returns-in-Some
returns-in-Some c = rw c.at.ensures (record { is = one-untaken (takes_of c.args.takes) c.args.s.now c.in_ok-read.ensures c.in-Some.reason c.in-Some.ensures; first = refl })

pub returns-then-end-s : goal.returns-then-end-s
returns-then-end-s c = rw c.at-then-end-s.ensures (record { is = one_more (takes_of c.args.takes) c.args.s.now c.in_ok-read.ensures c.in_default.ensures c.skip_blanks-end.ensures c.if-end-s.true; first = refl })

pub returns : goal.returns
returns c = record {
  value = _;
  is = one-done (takes_of c.args.takes) c.args.s.now c.in_ok-read.ensures c.in_default.ensures c.skip_blanks-end.ensures c.if-end-s.false;
  keeps = c.in_ok-read.ensures.keeps;
}
