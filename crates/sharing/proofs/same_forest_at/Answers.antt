use Rattle.sharing.proofs.Entries.{entry-holds, entry-cut}
use Rattle.sharing.proofs.same_forest_at.Goals as goal

pub same_forest-requires : goal.same_forest-requires
same_forest-requires c = let p = c.requires in (entry-cut p.0.entry p.0.kept, entry-cut p.1.entry p.1.kept)

pub returns : goal.returns
returns c ts K E F = c.same_forest.ensures _ _ (entry-holds E K) (entry-holds F K)
