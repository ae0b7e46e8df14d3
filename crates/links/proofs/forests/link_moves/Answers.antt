use Rattle.std.proofs.Common.{ℕ}
use Rattle.std.proofs.Math.ListN.{length-replicate}
use Rattle.lent.proofs.Tallies.{zeros-at}
use Rattle.held.proofs.Kept.{keeps-good}
use Rattle.chains.specs.Chains.{entries}
use Rattle.sharing.proofs.Sharing.{sharing-shows}
use Rattle.links.proofs.forests.link_moves.Goals as goal

pub lay_out-requires : goal.lay_out-requires
lay_out-requires c =
    let p = c.requires.0 in
    record { kept = p.kept; noted = p.noted; lent = p.lent; keys_room = length-replicate {A = ℕ} entries 0; none = zeros-at entries }

pub returns : goal.returns
returns c =
    let k = c.requires.0.kept in
    let shares = c.link_sharing.ensures in (
      λ ts h. sharing-shows (keeps-good h) (rw h.count at (shares ts (record { kept = h; keyed = c.lay_out.ensures ts h }))),
      (shares k.trees (record { kept = k.keeps; keyed = c.lay_out.ensures k.trees k.keeps })).square,
    )
