use Rattle.sharing.proofs.Links.{none-linked}
use Rattle.graph.proofs.Turns.{graph-iff}
use Rattle.graph.proofs.Firsts.{firsts-room}
use Rattle.graph.proofs.list_pairs.Goals as goal

pub link_positions-requires : goal.link_positions-requires
link_positions-requires c = (firsts-room c.requires c.note_firsts.ensures, none-linked)

pub returns : goal.returns
returns c ts h =
    record { graph = graph-iff (c.link_positions.ensures ts h) (rw h.count at c.list_links.ensures); in_firsts = c.note_firsts.ensures ts h }
