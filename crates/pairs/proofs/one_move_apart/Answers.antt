-- By Lemma 2.2.
use Rattle.std.proofs.Common.{◌≡◌}
use Rattle.meaning.specs.Tree.{canon}
use Rattle.lent.proofs.Says.{said, denied}
use Rattle.held.specs.Node.{subtree}
use Rattle.held.proofs.Kept.{keeps-holds, kept-held}
use Rattle.held.proofs.Subtree.{at-node}
use Rattle.pairs.proofs.Apart.{tested-same, tested}
use Rattle.pairs.proofs.one_move_apart.Goals as goal

pub new-requires : goal.new-requires
new-requires c = kept-held c.requires.0

pub new-requires-2 : goal.new-requires-2
new-requires-2 c = kept-held c.requires.1

pub shares_forest-requires : goal.shares_forest-requires
shares_forest-requires c = c.requires

pub returns-then-same_subtree : goal.returns-then-same_subtree
returns-then-same_subtree c t u k l =
    let same = said (subtree c.new.result ≡ subtree c.new-2.result) c.if-same_subtree.true c.same_subtree.ensures in
    tested-same k.good l.good (rw (at-node c.new.result c.new.ensures (keeps-holds k), at-node c.new-2.result c.new-2.ensures (keeps-holds l)) at same)

pub returns : goal.returns
returns c t u k l =
    let g = keeps-holds k in
    let h = keeps-holds l in
    let differ = denied (subtree c.new.result ≡ subtree c.new-2.result) c.if-same_subtree.false c.same_subtree.ensures in
    let differ-canon : ¬ (canon t ≡ canon u) = rw (at-node c.new.result c.new.ensures g, at-node c.new-2.result c.new-2.ensures h) at differ in
    tested k.good l.good differ-canon c.shares_forest.result (c.shares_forest.ensures (canon t) (canon u) g h)
