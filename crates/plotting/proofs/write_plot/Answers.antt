-- The walk begins at the root.
use Rattle.std.proofs.Common.{◌∙◌, ap}
use Rattle.held.specs.Held.{nodes}
use Rattle.held.proofs.Kept.{keeps-holds, kept-held}
use Rattle.held.proofs.Subtree.{at-node}
use Rattle.plotting.proofs.Placing.{root-space, plotted}
use Rattle.plotting.proofs.write_plot.Goals as goal

pub new-root-requires : goal.new-root-requires
new-root-requires c = kept-held c.requires.0

pub place_node-requires : goal.place_node-requires
place_node-requires c =
    let p = c.requires.0 in
    rw (at-node c.new-root.result c.new-root.ensures (keeps-holds p.keeps), c.new-root.ensures.1) (root-space p.keeps.good c.requires.1 c.requires.2)

pub returns : goal.returns
returns c t k =
    let is = at-node c.new-root.result c.new-root.ensures (keeps-holds k) in
    plotted t (rw (is, c.new-root.ensures.1) at c.place_node.ensures) (c.width.ensures ∙ ap nodes is)
