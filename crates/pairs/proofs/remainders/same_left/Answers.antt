-- Where the same hangs off both ways they are followed; where it differs, each has to be what is left further down the other.
use Rattle.std.proofs.Common.{◌≡◌}
use Rattle.held.specs.Node.{subtree}
use Rattle.lent.proofs.Says.{said, denied, deny}
use Rattle.pairs.specs.Left.{left, Alike}
use Rattle.pairs.proofs.Ways.{both-start, ends-one, ends-two, crossed-no, crossed-says, followed}
use Rattle.pairs.proofs.remainders.same_left.Goals.{After-same_subtree}
use Rattle.pairs.proofs.remainders.same_left.Goals as goal

-- what hangs off the ways is the same
abbrev Same : After-same_subtree → Type 0
Same c = subtree c.loop-a.a.off ≡ subtree c.way_to-b.result.off

-- what hangs off the first is what is left further down the second
abbrev Crossed : After-same_subtree → Type 0
Crossed c = let on = c.way_to-b.result.on in Alike (subtree c.loop-a.a.off) (left c.args.q on.at (subtree on))

pub loop-a-init : goal.loop-a-init
loop-a-init c = both-start c.requires.0 c.requires.1 c.way_to-a.ensures

pub returns-then-b-q : goal.returns-then-b-q
returns-then-b-q c = ends-two c.loop-a.invariant c.way_to-b.ensures c.if-b-q.true c.is_left.result c.is_left.ensures

pub returns-else-is_left : goal.returns-else-is_left
returns-else-is_left c =
    let at = (goal.at.returns-else-is_left c).After-same_subtree in
    let differ = denied (Same at) c.if-not-same_subtree.true c.same_subtree.ensures in
    let no = denied (Crossed at) c.if-is_left.false c.is_left-then-not-same_subtree.ensures in
    let a = c.args in
    deny (Alike (left a.p a.x.at (subtree a.x)) (left a.q a.y.at (subtree a.y))) c.if-is_left.false (crossed-no c.loop-a.invariant c.way_to-b.ensures c.loop-a-test.true c.if-b-q.false differ no)

pub returns-then-is_left : goal.returns-then-is_left
returns-then-is_left c =
    let at = (goal.at.returns-then-is_left c).After-same_subtree in
    let differ = denied (Same at) c.if-not-same_subtree.true c.same_subtree.ensures in
    let yes-one = said (Crossed at) c.if-is_left.true c.is_left-then-not-same_subtree.ensures in
    crossed-says c.loop-a.invariant c.way_to-b.ensures c.loop-a-test.true c.if-b-q.false differ yes-one c.is_left-then-is_left.result c.is_left-then-is_left.ensures

pub loop-a-preserved : goal.loop-a-preserved
loop-a-preserved c =
    let same = said (Same (goal.at.loop-a-preserved c).After-same_subtree) c.if-not-same_subtree.false c.same_subtree.ensures in
    followed c.loop-a.invariant c.way_to-b.ensures c.loop-a-test.true c.if-b-q.false same c.way_to-a-in-loop-a.ensures

pub returns : goal.returns
returns c = ends-one c.loop-a.invariant c.loop-a-test.false c.is_left-2.result c.is_left-2.ensures
