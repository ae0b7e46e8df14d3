-- An unrooted tree's top from its first byte.
use Rattle.std.proofs.Common.{refl}
use Rattle.reading.proofs.Opening.{top-label, top-bracket, top-wrong}
use Rattle.reading.proofs.tops.read_unrooted.Goals as goal

pub returns-then-is_digit : goal.returns-then-is_digit
returns-then-is_digit c =
    top-label c.args.s.now c.args.from c.skip_blanks-q.ensures c.byte_at-b.ensures c.is_digit.ensures _ _ _ c.requires c.if-is_digit.true c.read_label.ensures

pub returns-then-b-eq40 : goal.returns-then-b-eq40
returns-then-b-eq40 c =
    rw (top-bracket c.args.s.now c.args.from c.skip_blanks-q.ensures c.byte_at-b.ensures c.is_digit.ensures c.if-is_digit.false c.if-b-eq40.true) c.read_three.ensures

pub returns : goal.returns
returns c = rw c.at.ensures (record {
  is = top-wrong c.args.s.now c.args.from c.skip_blanks-q.ensures c.byte_at-b.ensures c.is_digit.ensures c.if-is_digit.false c.if-b-eq40.false;
  first = refl;
})
