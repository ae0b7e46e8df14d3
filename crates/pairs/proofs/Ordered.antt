-- Trees in canonical order, and records that keep them.
-- Assumes nothing.
use mathlib.Core.Path.{◌≡◌, sym, ◌∙◌}
use native.Mathlib.Omega.{arith}
use Rattle.meaning.specs.Limits.{max_nodes}
use Rattle.meaning.specs.Tree.{Tree, Good, Distinct, Canonical, canon}
use Rattle.meaning.proofs.Same.{◌≈◌}
use Rattle.meaning.proofs.Canon.{≈-canon, canonical-canon, canon-distinct, canon-good, canon-canonical}
use Rattle.held.specs.Kept.{Kept}
use Rattle.held.specs.declared.Tree.{Tree as Record}
use Rattle.held.proofs.Kept.{keeps-holds, keeps-long}
use Rattle.clades.specs.Marks.{Whole}
use Rattle.pairs.specs.Ordered.{InOrder, HeldInOrder}

-- trees in canonical order that are equal up to the order of children are equal
pub ordered_same : {t u : Tree} → Distinct t → Canonical t → Canonical u → t ≈ u → t ≡ u
ordered_same {t} {u} D K L e = sym (canonical-canon t K) ∙ ≈-canon D e ∙ canonical-canon u L

pub canon-in-order : (t : Tree) → Distinct t → InOrder (canon t)
canon-in-order t D = record { distinct = canon-distinct t D; canonical = canon-canonical t D }

-- a record keeps a tree in order
pub kept-in-order : {tree : Record} → Kept tree → HeldInOrder tree.node
kept-in-order p =
    let t = p.topology in
    record { tree = canon t; holds = keeps-holds p.keeps; in_order = canon-in-order t p.keeps.good.distinct; long = keeps-long p.keeps }

-- and a good one
pub kept-good : {tree : Record} (p : Kept tree) → Good (kept-in-order p).tree
unfolding kept-in-order
kept-good p = canon-good p.keeps.good

pub kept_whole : {tree : Record} → Kept tree → Whole tree.node max_nodes
kept_whole p = record { tree = canon p.topology; holds = keeps-holds p.keeps; good = canon-good p.keeps.good; room = omega arith }
