-- A digit more, another byte, and the end.
use Rattle.std.proofs.Common.{◌≡◌, ◌+◌, ◌-◌, ◌*◌, min, refl, sym, ap, ◌∙◌, drop, get_or, arith}
use Rattle.meaning.specs.Reading.{is_digit, value}
use Rattle.meaning.proofs.Scan.{past_more, past_stop, past_end, value-more, value-stop, value-end, cut, digit_low}
use Rattle.tokens.specs.Draft.{too_large}
use Rattle.tokens.proofs.digit_run.Goals as goal

pub loop-end-init : goal.loop-end-init
unfolding value
loop-end-init c = record { end = refl; value = refl; low = omega arith }

pub overflow_sub-s : goal.overflow_sub-s
overflow_sub-s c = digit_low _ (sym c.if-is_digit.ensures)

pub loop-end-preserved : goal.loop-end-preserved
loop-end-preserved c =
    let s = c.args.s.now in
    let i = c.loop-end.end in
    let e = sym c.if-is_digit.ensures in
    let m : min too_large (c.loop-end.value * 10 + (get_or s i 0 - 48)) ≡ min too_large c.min-value.result = omega arith in
    record {
      end = c.loop-end.invariant.end ∙ past_more is_digit s i c.loop-end-test.true e;
      value = c.loop-end.invariant.value ∙ ap (λ k. min too_large k) (value-more s i c.loop-end.value c.loop-end-test.true e) ∙ cut (drop (i + 1) s) _ _ m;
      low = omega arith;
    }

pub returns-else-is_digit-clause-end : goal.returns-else-is_digit-clause-end
returns-else-is_digit-clause-end c = sym (c.loop-end.invariant.end ∙ past_stop is_digit c.args.s.now c.loop-end.end c.loop-end-test.true (sym c.if-is_digit.ensures))

pub returns-else-is_digit-clause-value : goal.returns-else-is_digit-clause-value
returns-else-is_digit-clause-value c =
    let w = rw (value-stop c.args.s.now c.loop-end.end c.loop-end.value c.loop-end-test.true (sym c.if-is_digit.ensures)) at c.loop-end.invariant.value in
    omega arith

pub returns-after-loop-end-clause-end : goal.returns-after-loop-end-clause-end
returns-after-loop-end-clause-end c = sym (c.loop-end.invariant.end ∙ past_end is_digit c.args.s.now c.loop-end.end c.loop-end-test.false)

pub returns-after-loop-end-clause-value : goal.returns-after-loop-end-clause-value
returns-after-loop-end-clause-value c =
    let w = rw (value-end c.args.s.now c.loop-end.end c.loop-end.value c.loop-end-test.false) at c.loop-end.invariant.value in
    omega arith
