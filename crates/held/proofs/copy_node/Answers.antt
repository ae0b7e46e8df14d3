-- A subtree is one run of bytes.
use Rattle.std.proofs.Common.{List, ℕ, ap, subst, ◌∙◌, take, drop, arith}
use Rattle.lent.specs.Runs.{Wrote}
use Rattle.held.proofs.Laws.{inside, taken_is}
use Rattle.held.proofs.Subtree.{node-holds}
use Rattle.held.proofs.copy_node.Goals as goal

pub copy-requires : goal.copy-requires
copy-requires c = omega (arith, c.width.ensures, inside (node-holds c.args.node))

pub returns : goal.returns
returns c =
    let run = ap (λ (j : ℕ). take j (drop c.args.node.at c.args.node.tree.now)) c.width.ensures ∙ taken_is (node-holds c.args.node) in
    subst (λ (ys : List ℕ). Wrote ys c.args.out.now c.copy.new.out c.args.at c.copy.result) run c.copy.ensures
