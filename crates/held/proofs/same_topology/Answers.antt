-- Equal bytes are equal topologies.
use Rattle.held.proofs.Copies.{topology-says}
use Rattle.held.proofs.same_topology.Goals as goal

pub returns : goal.returns
returns c t u k l = topology-says k l c.eq.result c.eq.ensures
