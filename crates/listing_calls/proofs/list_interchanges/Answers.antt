-- The pairs of a graph of interchanges.
use Rattle.listing_calls.proofs.list_interchanges.Goals as goal

pub returns : goal.returns
returns c ts h = (c.list_pairs.ensures ts h).graph
