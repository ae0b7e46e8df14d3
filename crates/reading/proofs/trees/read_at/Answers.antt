-- A mark, the top and `;`.
use Rattle.std.proofs.Common.{refl, ◌∙◌}
use Rattle.tokens.proofs.Steps.{err-exit, then-got, then-refused}
use Rattle.reading.proofs.Whole.{draft-blank, tree-is, tree-marked, top-holds, tree-ends, top_kept, tree-reads}
use Rattle.reading.proofs.trees.read_at.Goals as goal

pub returns-in_err-mark : goal.returns-in_err-mark
returns-in_err-mark c = err-exit _ _ _ c.from_residual.ensures.1 (rw (tree-is c.args.s.now c.args.from) (then-refused _ c.in_err-mark.ensures))

pub read_top-requires : goal.read_top-requires
read_top-requires c = draft-blank

pub returns-in_err-top : goal.returns-in_err-top
returns-in_err-top c =
    err-exit _ _ _ c.from_residual-in_err-top.ensures.1 (rw (tree-marked c.args.s.now c.args.from _ c.in_ok-mark.ensures) (then-refused _ c.in_err-top.ensures))

pub returns-in_err-behind : goal.returns-in_err-behind
returns-in_err-behind c =
    err-exit _ _ _ c.from_residual-in_err-behind.ensures.1
    (rw (tree-ends c.args.s.now c.args.from _ c.in_ok-mark.ensures c.in_ok-top.ensures) (then-refused _ c.in_err-behind.ensures))

pub canonical-requires : goal.canonical-requires
canonical-requires c = top-holds c.args.s.now c.args.from _ c.in_ok-mark.ensures c.in_ok-top.ensures

pub standing-requires : goal.standing-requires
standing-requires c = top_kept c.args.s.now c.args.from _ c.in_ok-mark.ensures c.in_ok-top.ensures c.canonical.result c.canonical.ensures

pub returns : goal.returns
returns c = record {
  value = _;
  is = tree-ends c.args.s.now c.args.from _ c.in_ok-mark.ensures c.in_ok-top.ensures ∙ then-got _ c.in_ok-behind.ensures.is;
  keeps = tree-reads c.args.s.now c.args.from _ c.in_ok-mark.ensures c.in_ok-top.ensures c.canonical.result c.canonical.ensures refl c.standing.ensures;
}
