-- A tree more, the end, and what refuses a table.
use Rattle.std.proofs.Common.{refl, arith}
use Rattle.meaning.specs.Kind.{as_trees}
use Rattle.tokens.proofs.Steps.{err-exit, numbered, then-refused}
use Rattle.tables.proofs.Turns.{start, at-end, at-full, left, more-trees, place, at-differs, falls, at_more}
use Rattle.tables.proofs.read_table.Goals as goal

pub loop-at-init : goal.loop-at-init
loop-at-init c = start _ _ _ _ c.empty-table.ensures c.skip_blanks-at.ensures

pub returns-then-full : goal.returns-then-full
returns-then-full c = rw c.at.ensures (record { is = at-full c.loop-at.invariant c.loop-at-test.true (omega (arith, c.if-full.true)); first = refl })

pub returns-in_err-read : goal.returns-in_err-read
returns-in_err-read c =
    err-exit _ _ _ c.from_residual.ensures.1 (rw (more-trees c.loop-at.invariant c.loop-at-test.true c.if-full.false) (then-refused _ c.in_err-read.ensures))

pub like_first-requires : goal.like_first-requires
like_first-requires c =
    let T = c.in_ok-read.ensures in
    (record { trees = (as_trees c.loop-at.invariant.done).trees; keeps = c.loop-at.invariant.keeps.all }, record { topology = T.value.tree; keeps = T.keeps.keeps.keeps })

pub overflow_sub-read : goal.overflow_sub-read
overflow_sub-read c = omega (arith, place c.loop-at.invariant c.loop-at-test.true c.if-full.false c.in_ok-read.ensures)

pub returns-in-Some : goal.returns-in-Some
returns-in-Some c = rw c.at-in-Some.ensures (record {
  is = at-differs c.loop-at.invariant c.loop-at-test.true c.if-full.false c.in_ok-read.ensures c.in-Some.ensures (numbered c.in-Some.reason);
  first = refl;
})

pub push-table-requires : goal.push-table-requires
push-table-requires c = left c.loop-at.invariant c.loop-at-test.true c.if-full.false

pub loop-at-smaller : goal.loop-at-smaller
loop-at-smaller c = falls c.loop-at.invariant c.loop-at-test.true c.if-full.false c.in_ok-read.ensures c.in_default.ensures refl c.push-table.ensures

pub loop-at-preserved : goal.loop-at-preserved
loop-at-preserved c = at_more c.loop-at.invariant c.loop-at-test.true c.if-full.false c.in_ok-read.ensures c.in_default.ensures refl c.push-table.ensures c.skip_blanks-at-in-loop-at.ensures

pub returns : goal.returns
returns c = at-end c.loop-at.invariant c.loop-at-test.false
