-- A refusal, or the pairs and islands that are listed.
use Rattle.meaning.specs.Calls.{IslandsCall}
use Rattle.tokens.proofs.Steps.{err-is}
use Rattle.listing_calls.specs.Paper.{island_slices}
use Rattle.listing_calls.proofs.Graphing.{islands-listed}
use Rattle.listing_calls.proofs.islands_call.Goals as goal

pub returns-in_err-table : goal.returns-in_err-table
returns-in_err-table c =
    rw (err-is c.from_residual.result c.from_residual.ensures.1)
    (IslandsCall.refuses _ _ _ (rw (c.enough-fits.ensures, c.enough-counts_fit.ensures, c.enough-firsts_fit.ensures, c.enough-islands_fit.ensures) at c.in_err-table.ensures))

pub returns : goal.returns
returns c =
    islands-listed c.args.s.now (island_slices c.args.pairs.now c.args.counts.now c.args.firsts.now c.args.islands.now)
    (rw (c.enough-fits.ensures, c.enough-counts_fit.ensures, c.enough-firsts_fit.ensures, c.enough-islands_fit.ensures) at c.in_ok-table.ensures) c.list_islands.ensures
