-- A refusal, or the pairs that are listed.
use Rattle.meaning.specs.Calls.{Lists}
use Rattle.graph.specs.Graph.{slices}
use Rattle.tokens.proofs.Steps.{err-is}
use Rattle.listing_calls.proofs.Graphing.{interchange-listed}
use Rattle.listing_calls.proofs.interchange_call.Goals as goal

pub returns-in_err-table : goal.returns-in_err-table
returns-in_err-table c =
    rw (err-is c.from_residual.result c.from_residual.ensures.1) (Lists.refuses _ _ _ (rw (c.enough-fits.ensures, c.enough-counts_fit.ensures) at c.in_err-table.ensures))

pub returns : goal.returns
returns c =
    interchange-listed c.args.s.now (slices c.args.pairs.now c.args.counts.now) (rw (c.enough-fits.ensures, c.enough-counts_fit.ensures) at c.in_ok-table.ensures) c.list_interchanges.ensures
