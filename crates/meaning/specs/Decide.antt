-- Tests that compute: distinct labels, the same topology, one move apart, one interchange apart. In words: docs/RULES.md, 'Topology and canonical text', 'The move' and 'The interchange'.
-- Assumes nothing.
use Rattle.std.specs.Prelude.{Bool, false, not, ◌&&◌, List, [], ◌∷◌, ◌++◌, map, ℕ, eqb, leb}
use Rattle.meaning.specs.Limits.{max_label}
use Rattle.meaning.specs.Lists.{eq_list, any, every, has_no_repeat, count}
use Rattle.meaning.specs.Tree.{Tree, leaf, fork, labels, canon}
use Rattle.meaning.specs.Move.{Cut, cuts, forest}

-- no label occurs twice
abbrev pub is_distinct : Tree → Bool
is_distinct t = has_no_repeat (labels t)

-- every label is 1 to 64
abbrev pub is_small : Tree → Bool
is_small t = every (λ l. leb 1 l && leb l max_label) (labels t)

-- the trees are the same
abbrev pub eq_tree : Tree → Tree → Bool
eq_tree (leaf m) (leaf n) = eqb m n
eq_tree (leaf m) (fork c d) = false
eq_tree (fork a b) (leaf n) = false
eq_tree (fork a b) (fork c d) = eq_tree a c && eq_tree b d

-- they have one canonical form
abbrev pub is_same_topology : Tree → Tree → Bool
is_same_topology t u = eq_tree (canon t) (canon u)

-- two cuts have the same forest
abbrev pub is_same_forest : Cut → Cut → Bool
is_same_forest c d = is_same_topology c.rest d.rest && is_same_topology c.pruned d.pruned

-- they share a forest
abbrev pub is_one_move : Tree → Tree → Bool
is_one_move t u = any (λ c. any (is_same_forest c) (cuts u)) (cuts t)

-- how many forests the two trees share: the cuts of t whose forest text is that of a cut of u
abbrev pub shared : Tree → Tree → ℕ
shared t u = count (λ c. any (λ d. eq_list (forest c) (forest d)) (cuts u)) (cuts t)

-- they differ, and share a forest
abbrev pub is_apart : Tree → Tree → Bool
is_apart t u = not (is_same_topology t u) && is_one_move t u

-- the results of the interchanges that take a child of p, where p's sibling is z
abbrev pub around : Tree → Tree → List Tree
around (leaf n) z = []
around (fork x y) z = fork y (fork x z) ∷ fork x (fork y z) ∷ []

-- the results of all interchanges of a tree
abbrev pub interchanges : Tree → List Tree
interchanges (leaf n) = []
interchanges (fork a b) = (around a b ++ map (λ r. fork r b) (interchanges a)) ++ (around b a ++ map (fork a) (interchanges b))

-- one of them has u's topology
abbrev pub is_one_interchange : Tree → Tree → Bool
is_one_interchange t u = any (λ v. is_same_topology v u) (interchanges t)
