-- A cut that there is not, and one that is written.
use Rattle.calls.proofs.Texts.{cut-some, forest-fits, no-such-cut, cut-written}
use Rattle.calls.proofs.write_cut.Goals as goal

pub overflow_sub-count : goal.overflow_sub-count
overflow_sub-count c = cut-some c.requires

pub returns-then-count-cut : goal.returns-then-count-cut
returns-then-count-cut c t k e = rw c.at.ensures (no-such-cut t c.args.cut c.args.count c.args.out.now e c.if-count-cut.true)

pub write_forest-requires : goal.write_forest-requires
write_forest-requires c = forest-fits c.requires c.if-count-cut.false

pub returns : goal.returns
returns c t k e = cut-written t c.args.cut c.args.count c.args.out.now e k c.requires.room c.if-count-cut.false (c.write_forest.ensures t k)
