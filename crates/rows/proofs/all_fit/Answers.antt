use Rattle.std.proofs.Common.{◌∙◌, sym, arith}
use Rattle.families.proofs.RowSteps.{fit-end}
use Rattle.rows.proofs.Tests.{fits-not, fits-on}
use Rattle.rows.proofs.all_fit.Goals as goal

pub returns-then-not-each_fits : goal.returns-then-not-each_fits
returns-then-not-each_fits c = fits-not c.args.clades.now c.loop-i.i c.loop-i-test.true c.new.ensures c.each_fits.ensures c.if-not-each_fits.true ∙ sym c.loop-i.invariant

pub loop-i-preserved : goal.loop-i-preserved
loop-i-preserved c = c.loop-i.invariant ∙ fits-on c.args.clades.now c.loop-i.i c.loop-i-test.true c.new.ensures c.each_fits.ensures c.if-not-each_fits.false

pub returns : goal.returns
returns c = fit-end c.args.clades.now c.loop-i.i (omega arith) ∙ sym c.loop-i.invariant
