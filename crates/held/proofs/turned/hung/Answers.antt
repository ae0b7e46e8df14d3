-- The leftmost path is turned round, and the tree ordered anew.
use Rattle.held.proofs.Kept.{kept-held}
use Rattle.held.proofs.Hanging.{hung-leaf, least-inside, above-room, turned-room, hung-fork}
use Rattle.held.proofs.turned.hung.Goals as goal

pub new-root-requires : goal.new-root-requires
new-root-requires c = kept-held c.requires

pub returns-in_default : goal.returns-in_default
returns-in_default c t k = hung-leaf k c.new-root.result c.new-root.ensures c.in_default.ensures

pub bounds-tree-least : goal.bounds-tree-least
bounds-tree-least c = least-inside c.requires.keeps c.new-root.result c.new-root.ensures c.in-Fork.ensures c.leftmost-least.ensures

pub write_above-requires : goal.write_above-requires
write_above-requires c = above-room c.requires.keeps c.new-root.result c.new-root.ensures c.in-Fork.ensures c.leftmost-least.ensures

pub canonical-requires : goal.canonical-requires
canonical-requires c = turned-room c.requires.keeps c.new-root.result c.new-root.ensures c.in-Fork.ensures c.leftmost-least.ensures c.byte.ensures c.write_above.ensures

pub returns : goal.returns
returns c t k = hung-fork k c.new-root.result c.new-root.ensures c.in-Fork.ensures c.leftmost-least.ensures c.byte.ensures c.write_above.ensures c.canonical.ensures
