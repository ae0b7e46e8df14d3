-- `slot_check::labels_in_order` meets its contract. The measure of the walk is the leaves that the node claims.
-- Assumes nothing.
use Prim.Native.Nat.{◌-◌}
use lib.ListN.{get_or}
use Rattle.slot_check.proofs.+labels_in_order.Given as goal

abbrev pub decreases-labels_in_order : goal.decreases-labels_in_order
decreases-labels_in_order l = get_or l.n.now l.k 0 - 64
