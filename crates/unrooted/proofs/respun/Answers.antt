-- Where the trees part they are respun, or nowhere.
use Rattle.meaning.specs.Tree.{canon}
use Rattle.held.proofs.Kept.{keeps-holds}
use Rattle.pairs.proofs.Ordered.{kept-in-order, canon-in-order}
use Rattle.pairs.proofs.Walk.{along-held}
use Rattle.unrooted.proofs.Walk.{unparted-no, part-forks, parted-says}
use Rattle.unrooted.proofs.respun.Goals as goal

pub parting-requires : goal.parting-requires
parting-requires c = (kept-in-order c.requires.0, kept-in-order c.requires.1)

pub returns-in_default : goal.returns-in_default
returns-in_default c t u k l =
    unparted-no (canon-in-order t k.good.distinct) (canon-in-order u l.good.distinct) (c.in_default.ensures (canon t) (canon u) (keeps-holds k) (keeps-holds l))

pub new-requires : goal.new-requires
new-requires c =
    let x = kept-in-order c.requires.0 in
    let y = kept-in-order c.requires.1 in
    let P = c.in-Some.ensures x.tree y.tree x.holds y.holds in
    record { tree = _; holds = (along-held x.holds y.holds P.along).0 }

pub new-requires-2 : goal.new-requires-2
new-requires-2 c =
    let x = kept-in-order c.requires.0 in
    let y = kept-in-order c.requires.1 in
    let P = c.in-Some.ensures x.tree y.tree x.holds y.holds in
    record { tree = _; holds = (along-held x.holds y.holds P.along).1 }

pub same_splits-requires : goal.same_splits-requires
same_splits-requires c =
    let x = kept-in-order c.requires.0 in
    let y = kept-in-order c.requires.1 in
    part-forks x.in_order y.in_order x.holds y.holds (c.in-Some.ensures x.tree y.tree x.holds y.holds) c.new.result c.new-2.result c.new.ensures c.new-2.ensures

pub returns : goal.returns
returns c t u k l =
    parted-says (canon-in-order t k.good.distinct) (canon-in-order u l.good.distinct) (keeps-holds k) (keeps-holds l)
    (c.in-Some.ensures (canon t) (canon u) (keeps-holds k) (keeps-holds l)) c.new.result c.new-2.result c.new.ensures c.new-2.ensures c.same_splits.result c.same_splits.ensures
