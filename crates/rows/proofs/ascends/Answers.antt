use Rattle.std.proofs.Common.{◌≡◌, ◌∙◌, arith, rules, ltb}
use borrow.Author.Tests.{le-ltb}
use Rattle.std.proofs.lemmas.Fn.{always_returns_same}
use Rattle.rows.proofs.Tests.{rises-none, rises-zero, rises-sorted}
use Rattle.rows.proofs.ascends.Goals as goal

pub returns-in_default : goal.returns-in_default
returns-in_default c = rises-none c.args.clades.now (omega (arith, c.in_default.ensures.item.3))

pub returns-then-first-gt0 : goal.returns-then-first-gt0
returns-then-first-gt0 c =
    let (_, first) = c.in-Some.ensures.item.3 in
    rises-sorted c.args.clades.now c.is_sorted_by.result (c.is_sorted_by.ensures.cases ltb (always_returns_same _ (λ a r. r ≡ ltb a.0.now a.1.0.now) _ (λ a r f' k. search rules)))
    (λ some e. absurd (omega (arith, first 0, e, c.if-first-gt0.true)))

pub returns-else-first-gt0 : goal.returns-else-first-gt0
returns-else-first-gt0 c =
    let (some, first) = c.in-Some.ensures.item.3 in
    le-ltb 0 c.in-Some.field-0.now c.if-first-gt0.false ∙ rises-zero c.args.clades.now some (omega (arith, first 0, c.if-first-gt0.false))
