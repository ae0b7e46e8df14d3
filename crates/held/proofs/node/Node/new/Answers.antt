-- What stands in the bytes is the subtree there.
use Rattle.held.proofs.Subtree.{holds-subtree}
use Rattle.held.proofs.node.Node.new.Goals as goal

pub invariant_of-result : goal.invariant_of-result
invariant_of-result c = record { stands = ∣ holds-subtree c.requires ∣₁ }
