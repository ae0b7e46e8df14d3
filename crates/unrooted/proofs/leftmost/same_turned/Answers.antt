-- Where the same hangs off both paths they are followed; where it differs, each has to be what hangs from the fork above the other.
use Rattle.std.proofs.Common.{◌≡◌, refl}
use Rattle.lent.proofs.Says.{said, denied, deny}
use Rattle.held.specs.Node.{subtree}
use Rattle.pairs.specs.Left.{Alike}
use Rattle.unrooted.proofs.Path.{fork_at, off-ordered, above_at}
use Rattle.unrooted.proofs.Beside.{both-start, ends-one, ends-two, followed, crossed-no, crossed-says}
use Rattle.unrooted.proofs.leftmost.same_turned.Goals.{After-same_subtree}
use Rattle.unrooted.proofs.leftmost.same_turned.Goals as goal

-- what hangs off both is the same
abbrev Same : After-same_subtree → Type 0
Same c = subtree c.off_path-a.result ≡ subtree c.off_path-b.result

pub loop-k-init : goal.loop-k-init
loop-k-init c = both-start

pub off_path-a-requires : goal.off_path-a-requires
off_path-a-requires c = fork_at (c.loop-k.invariant c.requires.0 c.requires.1).one

pub off_path-b-requires : goal.off_path-b-requires
off_path-b-requires c = fork_at (c.loop-k.invariant c.requires.0 c.requires.1).two

-- the second path is at its end
pub is_turned-requires : goal.is_turned-requires
is_turned-requires c =
    let b = c.loop-k.invariant c.requires.0 c.requires.1 in
    (off-ordered b.two c.off_path-b.ensures, b.one)

pub returns-then-l-y : goal.returns-then-l-y
returns-then-l-y c t u = ends-two (c.loop-k.invariant t u) c.off_path-b.ensures c.if-l-y.true c.is_turned.result c.is_turned.ensures

-- what hangs off differs
pub is_turned-requires-then-not-same_subtree : goal.is_turned-requires-then-not-same_subtree
is_turned-requires-then-not-same_subtree c =
    let b = c.loop-k.invariant c.requires.0 c.requires.1 in
    (off-ordered b.one c.off_path-a.ensures, above_at b.two c.if-l-y.false)

pub returns-then-not-is_turned : goal.returns-then-not-is_turned
returns-then-not-is_turned c t u =
    let differ = denied (Same (goal.at.returns-then-not-is_turned c).After-same_subtree) c.if-not-same_subtree.true c.same_subtree.ensures in
    let one = c.is_turned-then-not-same_subtree in
    deny (Alike t.tree u.tree) refl
    (crossed-no (c.loop-k.invariant t u) c.off_path-b.ensures c.loop-k-test.true c.if-l-y.false c.off_path-a.ensures differ one.result one.ensures c.if-not-is_turned.true)

pub is_turned-requires-then-not-same_subtree-2 : goal.is_turned-requires-then-not-same_subtree-2
is_turned-requires-then-not-same_subtree-2 c =
    let b = c.loop-k.invariant c.requires.0 c.requires.1 in
    (off-ordered b.two c.off_path-b.ensures, above_at b.one c.loop-k-test.true)

pub returns-then-not-same_subtree : goal.returns-then-not-same_subtree
returns-then-not-same_subtree c t u =
    let differ = denied (Same (goal.at.returns-then-not-same_subtree c).After-same_subtree) c.if-not-same_subtree.true c.same_subtree.ensures in
    let one = c.is_turned-then-not-same_subtree in
    let two = c.is_turned-then-not-same_subtree-2 in
    crossed-says (c.loop-k.invariant t u) c.off_path-b.ensures c.loop-k-test.true c.if-l-y.false c.off_path-a.ensures differ one.result one.ensures c.if-not-is_turned.false two.result two.ensures

-- it is the same
pub loop-k-preserved : goal.loop-k-preserved
loop-k-preserved c t u =
    let same = said (Same (goal.at.loop-k-preserved c).After-same_subtree) c.if-not-same_subtree.false c.same_subtree.ensures in
    followed (c.loop-k.invariant t u) c.off_path-b.ensures c.loop-k-test.true c.if-l-y.false c.off_path-a.ensures same

-- the first path is at its end
pub off_path-requires : goal.off_path-requires
off_path-requires c = fork_at (c.loop-k.invariant c.requires.0 c.requires.1).one

pub is_turned-requires-2 : goal.is_turned-requires-2
is_turned-requires-2 c =
    let b = c.loop-k.invariant c.requires.0 c.requires.1 in
    (off-ordered b.one c.off_path.ensures, b.two)

pub returns : goal.returns
returns c t u = ends-one (c.loop-k.invariant t u) c.loop-k-test.false c.off_path.ensures c.is_turned-2.result c.is_turned-2.ensures
