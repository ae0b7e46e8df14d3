-- The byte stands there, or another does.
use Rattle.std.proofs.Common.{refl, sym, ◌∙◌}
use Rattle.meaning.proofs.Ways.{exactly-yes, exactly-no}
use Rattle.meaning.specs.Reading.{got}
use Rattle.tokens.proofs.marks.expect_exactly.Goals as goal

pub returns-then-byte_at-b : goal.returns-then-byte_at-b
returns-then-byte_at-b c =
    let a = c.args in
    rw c.at.ensures (record {
      is = exactly-no a.b a.s.now a.p (λ q. got tt q) (λ e. c.if-byte_at-b.true (c.byte_at.ensures ∙ e));
      first = refl;
    })

pub returns : goal.returns
returns c =
    let a = c.args in
    record { value = tt; is = exactly-yes a.b a.s.now a.p (λ q. got tt q) (sym c.byte_at.ensures ∙ c.if-byte_at-b.false); keeps = tt }
