-- Only numbers of an index have trees.
use Rattle.index_calls.proofs.has_tree.Goals as goal

pub invariant_of-is_free : goal.invariant_of-is_free
invariant_of-is_free c = c.requires
