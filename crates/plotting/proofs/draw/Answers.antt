-- A leaf is a tip at its row, and a fork joins its children's rows.
use Rattle.std.proofs.Common.{rules, ◌≡◌, ◌∙◌, ◌+◌, ◌<◌, sym, length, arith}
use Rattle.meaning.specs.Tree.{Tree, fork}
use Rattle.held.specs.Held.{Holds, nodes}
use Rattle.held.specs.Node.{subtree}
use Rattle.held.proofs.Subtree.{at-node}
use Rattle.plotting.proofs.Drawn.{row_inside, drawn-leaf, first-inside, second-inside, drawn-fork}
use Rattle.plotting.proofs.draw.Goals.{In-Fork}
use Rattle.plotting.proofs.draw.Goals as goal

-- the tree at the node, and where its children stand
fork_is : (c : In-Fork) {t : Tree} → Holds c.args.n.now c.args.k t → t ≡ fork (subtree c.in-Fork.first) (subtree c.in-Fork.second)
fork_is c h = sym (at-node c.new.result c.new.ensures h) ∙ c.in-Fork.ensures.is

first_at : (c : In-Fork) → c.in-Fork.first.at ≡ c.args.k + 1
first_at c = omega (arith, c.in-Fork.ensures.first_at, c.new.ensures.1)

second_at : (c : In-Fork) → c.in-Fork.second.at ≡ c.args.k + 1 + nodes (subtree c.in-Fork.first)
second_at c = omega (arith, c.in-Fork.ensures.second_at, c.new.ensures.1)

first-in : (c : In-Fork) → c.in-Fork.first.at < length c.args.rows.now
first-in c = first-inside (fork_is c c.requires.holds) (first_at c) (second_at c) c.requires.rows_at

second-in : (c : In-Fork) → c.in-Fork.second.at < length c.args.rows.now
second-in c = second-inside (fork_is c c.requires.holds) (first_at c) (second_at c) c.requires.rows_at

pub offset_bounds-rows-k : goal.offset_bounds-rows-k
offset_bounds-rows-k c = search (rules, row_inside c.requires.rows_at)

pub bounds-rows-k : goal.bounds-rows-k
bounds-rows-k c = row_inside c.requires.rows_at

pub offset_bounds-rows-k-in-Fork : goal.offset_bounds-rows-k-in-Fork
offset_bounds-rows-k-in-Fork c = search (rules, row_inside c.requires.rows_at)

pub bounds-rows-k-in-Fork : goal.bounds-rows-k-in-Fork
bounds-rows-k-in-Fork c = row_inside c.requires.rows_at

pub offset_bounds-rows-first : goal.offset_bounds-rows-first
offset_bounds-rows-first c = search (rules, first-in (goal.at.offset_bounds-rows-first c).In-Fork)

pub bounds-rows-first : goal.bounds-rows-first
bounds-rows-first c = first-in (goal.at.bounds-rows-first c).In-Fork

pub offset_bounds-rows-second : goal.offset_bounds-rows-second
offset_bounds-rows-second c = search (rules, second-in (goal.at.offset_bounds-rows-second c).In-Fork)

pub bounds-rows-second : goal.bounds-rows-second
bounds-rows-second c = second-in (goal.at.bounds-rows-second c).In-Fork

pub returns-in-Leaf : goal.returns-in-Leaf
returns-in-Leaf c t above before h r = drawn-leaf (sym (at-node c.new.result c.new.ensures h) ∙ c.in-Leaf.ensures) r

pub returns-in-Fork : goal.returns-in-Fork
returns-in-Fork c t above before h r =
    let f = (goal.at.returns-in-Fork c).In-Fork in
    drawn-fork (fork_is f h) (first_at f) (second_at f) r
