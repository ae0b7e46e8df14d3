-- How many forests the pair test compares. In words: docs/RULES.md, 'The pair test'.
-- Assumes nothing.
use Rattle.std.specs.Prelude.{Bool, cond, List, [], ◌∷◌, ℕ, ◌+◌}
use Rattle.meaning.specs.Lists.{any, bit}
use Rattle.meaning.specs.Tree.{Tree, canon}
use Rattle.meaning.specs.Kind.{Kind, rooted, unrooted, Kinded}
use Rattle.meaning.specs.Reading.{same_labels}
use Rattle.meaning.specs.Move.{Cut, cuts}
use Rattle.meaning.specs.Decide.{is_same_topology, is_same_forest}
use Rattle.meaning.specs.Answer.{Comparison}

-- the second tree, whose cuts are ds, shares the forest of c
abbrev pub is_sharing : List Cut → Cut → Bool
is_sharing ds c = any (is_same_forest c) ds

-- it has a node other than its root with the same clade as the node that c prunes
abbrev pub has_clade : List Cut → Cut → Bool
has_clade ds c = any (λ d. same_labels c.pruned d.pruned) ds

-- the first tree's cuts in order, up to and including the first whose forest the second tree shares: each counts one or nothing
abbrev pub through : List Cut → List Cut → ℕ
through ds [] = 0
through ds (c ∷ cs) = bit (has_clade ds c) + cond (is_sharing ds c) 0 (through ds cs)

-- how many forests are compared; trees of one topology report 0
abbrev pub compared : Tree → Tree → ℕ
compared t u = cond (is_same_topology t u) 0 (through (cuts (canon u)) (cuts (canon t)))

-- and so do unrooted ones
abbrev pub compared_as : Kind → Tree → Tree → ℕ
compared_as rooted t u = compared t u
compared_as unrooted t u = 0

-- what is told of two trees of one kind, where b says whether they are one move apart
abbrev pub comparison : Bool → Kinded → Kinded → Comparison
comparison b x y = record { yes = b; forests = compared_as x.kind x.tree y.tree }
