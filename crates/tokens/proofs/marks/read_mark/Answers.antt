-- No mark is read, or a mark, or it is refused at a byte.
use Rattle.std.proofs.Common.{refl, ◌∙◌}
use Rattle.tokens.proofs.Marking.{mark-none, mark-is, mark-letter, mark-closes}
use Rattle.tokens.proofs.Steps.{err-exit, then-got, then-refused}
use Rattle.tokens.proofs.marks.read_mark.Goals as goal

pub returns-then-byte_at-ne91 : goal.returns-then-byte_at-ne91
returns-then-byte_at-ne91 c = record {
  value = _;
  is = mark-none c.args.s.now c.args.from c.skip_blanks-q.ensures c.byte_at.ensures c.if-byte_at-ne91.true;
  keeps = refl;
}

pub returns-in_err-p : goal.returns-in_err-p
returns-in_err-p c =
    let e = mark-is c.args.s.now c.args.from c.skip_blanks-q.ensures c.byte_at.ensures c.if-byte_at-ne91.false in
    err-exit _ _ _ c.from_residual.ensures.1 (rw e (then-refused _ c.in_err-p.ensures))

pub returns-in_err-letter : goal.returns-in_err-letter
returns-in_err-letter c =
    let e = mark-letter c.args.s.now c.args.from c.skip_blanks-q.ensures c.byte_at.ensures c.if-byte_at-ne91.false c.in_ok-p.ensures.is in
    err-exit _ _ _ c.from_residual-in_err-letter.ensures.1 (rw e (then-refused _ c.in_err-letter.ensures))

pub returns-in_err-expect_exactly : goal.returns-in_err-expect_exactly
returns-in_err-expect_exactly c =
    let e = mark-closes c.args.s.now c.args.from c.skip_blanks-q.ensures c.byte_at.ensures c.if-byte_at-ne91.false c.in_ok-p.ensures.is c.in_ok-letter.ensures.is in
    err-exit _ _ _ c.from_residual-in_err-expect_exactly.ensures.1 (rw e (then-refused _ c.in_err-expect_exactly.ensures))

pub returns : goal.returns
returns c = record {
  value = _;
  is = mark-closes c.args.s.now c.args.from c.skip_blanks-q.ensures c.byte_at.ensures c.if-byte_at-ne91.false c.in_ok-p.ensures.is c.in_ok-letter.ensures.is
      ∙ then-got _ c.in_ok-expect_exactly.ensures.is;
  keeps = c.in_ok-letter.ensures.keeps;
}
