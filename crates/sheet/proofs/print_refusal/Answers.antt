-- The line of a refusal has its number.
use Rattle.std.proofs.Common.{ap, length, ◌∙◌, arith}
use Rattle.meaning.specs.Sheet.{refusal_line}
use Rattle.sheet.proofs.print_refusal.Goals as goal

pub write_refusal-requires : goal.write_refusal-requires
write_refusal-requires c = omega (arith, ap (λ n. length (refusal_line n c.args.x.place)) (c.from.ensures ∙ c.number.ensures), c.requires)

pub returns : goal.returns
returns c = rw (c.from.ensures, c.number.ensures) at c.write_refusal.ensures
