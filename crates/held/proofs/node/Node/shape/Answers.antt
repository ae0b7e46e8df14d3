-- A fork's children are held behind it.
use Rattle.std.proofs.Common.{◌≡◌, ◌∙◌, ℕ, ◌+◌, sym, ap, ap₂, subst, arith}
use Rattle.meaning.specs.Tree.{fork}
use Rattle.held.specs.Held.{Holds, nodes}
use Rattle.held.specs.Node.{subtree}
use Rattle.held.proofs.Laws.{ForkAt, within, second_at}
use Rattle.held.proofs.Subtree.{node-fork, leaf_by, at-node}
use Rattle.held.proofs.node.Node.shape.Goals.{After-width}
use Rattle.held.proofs.node.Node.shape.Goals as goal

-- what stands at the node and behind it
fork-here : (c : After-width) → ForkAt c.args.self.tree.now c.args.self.at (subtree c.args.self)
fork-here c = node-fork c.args.self c.byte-b.ensures c.if-b-le-FORK.false

first_is : (c : After-width) → subtree c.new-first.result ≡ (fork-here c).first
first_is c = at-node c.new-first.result c.new-first.ensures (fork-here c).holds-first

second_here : (c : After-width) → Holds c.args.self.tree.now (c.new-first.result.at + c.width.result) (fork-here c).second
second_here c =
    let f = fork-here c in
    subst (λ (k : ℕ). Holds c.args.self.tree.now (k + c.width.result) f.second) (sym c.new-first.ensures.1) (second_at f c.width.result (c.width.ensures ∙ ap nodes (first_is c)))

pub returns-then-b-le-FORK : goal.returns-then-b-le-FORK
returns-then-b-le-FORK c = rw c.byte-b.ensures (leaf_by (subtree c.args.self) (omega (arith, c.byte-b.ensures)))

pub overflow_add-self : goal.overflow_add-self
overflow_add-self c =
    let f = node-fork c.args.self c.byte-b.ensures c.if-b-le-FORK.false in
    omega (arith, within f.holds-first)

pub new-first-requires : goal.new-first-requires
new-first-requires c =
    let f = node-fork c.args.self c.byte-b.ensures c.if-b-le-FORK.false in
    record { tree = f.first; holds = f.holds-first }

pub overflow_add-first : goal.overflow_add-first
overflow_add-first c = omega (arith, within (second_here (goal.at.overflow_add-first c).After-width))

pub new-second-requires : goal.new-second-requires
new-second-requires c =
    let w = (goal.at.new-second-requires c).After-width in
    record { tree = (fork-here w).second; holds = second_here w }

pub returns : goal.returns
returns c =
    let w = (goal.at.returns c).After-width in
    record {
      is = (fork-here w).is ∙ ap₂ fork (sym (first_is w)) (sym (at-node c.new-second.result c.new-second.ensures (second_here w)));
      first_in = c.new-first.ensures.0;
      second_in = c.new-second.ensures.0;
      first_at = c.new-first.ensures.1;
      second_at = omega (arith, c.new-first.ensures.1, c.new-second.ensures.1, c.width.ensures);
    }
