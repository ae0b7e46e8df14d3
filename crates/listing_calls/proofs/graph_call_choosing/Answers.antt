-- A refusal, or the pairs that are listed.
use Rattle.meaning.specs.Calls.{Lists}
use Rattle.tokens.proofs.Steps.{err-is}
use Rattle.listing_calls.specs.Paper.{first_slices}
use Rattle.listing_calls.proofs.Graphing.{graph-listed}
use Rattle.listing_calls.proofs.graph_call_choosing.Goals as goal

pub returns-in_err-table : goal.returns-in_err-table
returns-in_err-table c =
    rw (err-is c.from_residual.result c.from_residual.ensures.1)
    (Lists.refuses _ _ _ (rw (c.enough-fits.ensures, c.enough-counts_fit.ensures, c.enough-firsts_fit.ensures) at c.in_err-table.ensures))

pub returns : goal.returns
returns c =
    graph-listed c.args.s.now (first_slices c.args.pairs.now c.args.counts.now c.args.firsts.now)
    (rw (c.enough-fits.ensures, c.enough-counts_fit.ensures, c.enough-firsts_fit.ensures) at c.in_ok-table.ensures) c.args.copies c.list_moves.ensures
