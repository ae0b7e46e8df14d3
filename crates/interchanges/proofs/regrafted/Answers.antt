-- The child that is regrafted is the one beside the sibling, and in the other tree that beside the aunt.
use Rattle.interchanges.proofs.Parts.{regrafted-says}
use Rattle.interchanges.proofs.regrafted.Goals as goal

pub returns : goal.returns
returns c = regrafted-says c.in-Some.ensures c.in-Some-other_child.ensures c.same_subtree.result c.same_subtree.ensures
