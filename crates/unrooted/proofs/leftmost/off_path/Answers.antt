-- The second child of the fork that is held there.
use Rattle.pairs.proofs.Children.{new-fork, second-holds}
use Rattle.unrooted.proofs.leftmost.off_path.Goals as goal

pub second_child-requires : goal.second_child-requires
second_child-requires c = new-fork c.new.result c.new.ensures c.requires

pub returns : goal.returns
returns c = record { first = _; holds = second-holds c.new.result c.new.ensures c.second_child.ensures c.requires }
