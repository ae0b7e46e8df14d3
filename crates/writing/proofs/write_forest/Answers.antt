use Rattle.std.proofs.Common.{refl, arith}
use Rattle.meaning.proofs.Length.{leaves-64}
use Rattle.writing.proofs.Texts.{cut-of-tree, rest-held, pruned-held, room-left, room-pruned, wrote-parts}
use Rattle.writing.proofs.write_forest.Goals as goal

pub remainder-left-requires : goal.remainder-left-requires
remainder-left-requires c = cut-of-tree c.requires

pub new-rest-requires : goal.new-rest-requires
new-rest-requires c = rest-held c.requires c.remainder-left.result c.remainder-left.ensures

pub overflow_add-c : goal.overflow_add-c
overflow_add-c c = omega (arith, c.requires.is_cut, leaves-64 c.requires.keeps.good)

pub new-pruned-requires : goal.new-pruned-requires
new-pruned-requires c = pruned-held c.requires c.remainder-left.result c.remainder-left.ensures

pub write_part-next-requires : goal.write_part-next-requires
write_part-next-requires c = room-left c.requires c.remainder-left.result c.remainder-left.ensures c.new-rest.result c.new-pruned.result c.new-rest.ensures c.new-pruned.ensures

pub write_part-requires : goal.write_part-requires
write_part-requires c = room-pruned c.requires c.remainder-left.result c.remainder-left.ensures c.new-rest.result c.new-pruned.result c.new-rest.ensures c.new-pruned.ensures refl c.write_part-next.ensures

pub returns : goal.returns
returns c = wrote-parts c.requires c.remainder-left.result c.remainder-left.ensures c.new-rest.result c.new-pruned.result c.new-rest.ensures c.new-pruned.ensures c.write_part-next.ensures c.write_part.ensures
