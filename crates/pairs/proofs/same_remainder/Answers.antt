-- What a cut leaves is what is left without its node.
use Rattle.std.proofs.Common.{arith}
use Rattle.held.proofs.Laws.{within}
use Rattle.pairs.proofs.Search.{has-cut, pruned-held, cutting, says-rest}
use Rattle.pairs.proofs.same_remainder.Goals as goal

pub overflow_add-c : goal.overflow_add-c
overflow_add-c c = omega (arith, within (pruned-held (has-cut c.requires.0)).holds)

pub overflow_add-d : goal.overflow_add-d
overflow_add-d c = omega (arith, within (pruned-held (has-cut c.requires.1)).holds)

pub same_left-requires : goal.same_left-requires
same_left-requires c = (cutting c.requires.0 c.new.result c.new.ensures, cutting c.requires.1 c.new-2.result c.new-2.ensures)

pub returns : goal.returns
returns c = says-rest c.requires.0 c.requires.1 c.new.result c.new-2.result c.new.ensures c.new-2.ensures c.same_left.result c.same_left.ensures
