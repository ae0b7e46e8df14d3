-- The first child leads to p, or the second does.
use Rattle.pairs.proofs.Left.{leads_one, leads-two}
use Rattle.pairs.proofs.remainders.way_to.Goals as goal

pub returns-then-leads : goal.returns-then-leads
returns-then-leads c = let k = c.in-Fork.ensures in leads_one k.is k.first_at k.second_at c.requires.below c.if-leads.true

pub returns-else-leads : goal.returns-else-leads
returns-else-leads c = let k = c.in-Fork.ensures in leads-two k.is k.first_at k.second_at c.requires.below c.if-leads.false
