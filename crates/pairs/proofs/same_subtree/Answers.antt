-- Subtrees are the same where their first bytes and their runs are.
use Rattle.std.proofs.Common.{◌∙◌, sym, arith}
use Rattle.held.proofs.Subtree.{node-holds, node-byte}
use Rattle.pairs.proofs.Runs.{runs_fit, run-says}
use Rattle.pairs.proofs.same_subtree.Goals.{Then-byte}
use Rattle.pairs.proofs.same_subtree.Goals as goal

pub same_run-requires : goal.same_run-requires
same_run-requires c =
    let x = c.args.x in
    let y = c.args.y in
    omega (arith, runs_fit (node-holds x) (node-holds y) c.width.result c.width.ensures (node-byte x ∙ sym c.byte.ensures ∙ c.if-byte.true ∙ c.byte-2.ensures ∙ sym (node-byte y)))

pub returns-then-byte : goal.returns-then-byte
returns-then-byte c =
    let x = c.args.x in
    let y = c.args.y in
    run-says (node-holds x) (node-holds y) c.width.result c.width.ensures (node-byte x ∙ sym c.byte.ensures ∙ c.if-byte.true ∙ c.byte-2.ensures ∙ sym (node-byte y))
    c.same_run.result c.same_run.ensures
