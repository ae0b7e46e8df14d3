-- The letter U is read, or the letter R, or another byte is refused.
use Rattle.std.proofs.Common.{refl, sym, ◌∙◌}
use Rattle.tokens.proofs.Marking.{letter-is-u, letter-else}
use Rattle.tokens.proofs.Steps.{err-exit, then-got, then-refused}
use Rattle.tokens.proofs.marks.read_letter.Goals as goal

pub returns-then-unrooted : goal.returns-then-unrooted
returns-then-unrooted c = record {
  value = _;
  is = letter-is-u c.args.s.now c.args.p (sym c.byte_at-unrooted.ensures ∙ c.if-unrooted.true);
  keeps = refl;
}

pub returns-in_err-expect_exactly : goal.returns-in_err-expect_exactly
returns-in_err-expect_exactly c =
    let e = letter-else c.args.s.now c.args.p (λ e. c.if-unrooted.false (c.byte_at-unrooted.ensures ∙ e)) in
    err-exit _ _ _ c.from_residual.ensures.1 (rw e (then-refused _ c.in_err-expect_exactly.ensures))

pub returns : goal.returns
returns c = record {
  value = _;
  is = letter-else c.args.s.now c.args.p (λ e. c.if-unrooted.false (c.byte_at-unrooted.ensures ∙ e)) ∙ then-got _ c.in_ok-expect_exactly.ensures.is;
  keeps = refl;
}
