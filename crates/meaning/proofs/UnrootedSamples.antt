-- Small unrooted trees, by computation: their texts, and which are one move apart.
-- Assumes nothing.
use mathlib.Core.Path.{◌≡◌, refl}
use mathlib.Core.List.{[], ◌∷◌}
use borrow.Author.Tests.{le-leb}
use lib.Dec.{T_not}
use lib.ListN.{length}
use Rattle.meaning.specs.Limits.{kind_bytes, forest_bytes, max_trees, table_bytes, pair_numbers}
use Rattle.meaning.specs.Lists.{member, within}
use Rattle.meaning.specs.Loops.{each, row_of, pairs_from}
use Rattle.meaning.specs.Reading.{is_blank, is_digit, lead, past, value_after, value, token, bad_label, label_at, fork_at, node_at, read_node, exactly, letter_at, mark_at, two_labels, third_at, three_at, top_at, tree_at, read_tree, table_from, read_table}
use Rattle.meaning.specs.Kind.{unrooted, Trees}
use Rattle.meaning.specs.Calls.{stands_apart, not_apart, lists}
use Rattle.meaning.specs.Samples.{AllHold, unrooted_samples}
use Rattle.meaning.specs.Bytes.{bytes}
use Rattle.meaning.specs.Tree.{Tree, leaf, fork}
use Rattle.meaning.specs.Move.{Apart}
use Rattle.meaning.specs.Decide.{is_apart}
use Rattle.meaning.specs.Unrooted.{SameSplits, hang, form_unrooted, ApartU}
use Rattle.meaning.specs.UnrootedDecide.{is_apart_unrooted}
use Rattle.meaning.proofs.Decide.{distinct-iff, apart-iff}
use Rattle.meaning.proofs.UnrootedDecide.{same_splits-iff, apart_unrooted-iff}
use Rattle.meaning.proofs.Samples.{near, far, merged-listed, ◌and◌}

-- the top is the inner node next to the smallest label
pub one-leaf : form_unrooted (leaf 7) ≡ bytes "[&U]7;"
one-leaf = refl

pub two-leaves : form_unrooted (fork (leaf 9) (leaf 7)) ≡ bytes "[&U](7,9);"
two-leaves = refl

pub three-leaves : form_unrooted (fork (leaf 9) (fork (leaf 10) (leaf 7))) ≡ bytes "[&U](7,9,10);"
three-leaves = refl

-- (3,4,(2,(5,1)))
abbrev five : Tree
five = fork (leaf 3) (fork (leaf 4) (fork (leaf 2) (fork (leaf 5) (leaf 1))))

-- the same with its root elsewhere, as ((5,1),2,(4,3))
abbrev five' : Tree
five' = fork (fork (leaf 5) (leaf 1)) (fork (leaf 2) (fork (leaf 4) (leaf 3)))

pub five-text : form_unrooted five ≡ bytes "[&U](1,(2,(3,4)),5);"
five-text = refl

pub five-same : SameSplits five five'
five-same = (same_splits-iff five five' ((distinct-iff five).0 tt) ((distinct-iff five').0 tt)).0 tt

-- one move apart by moving the leaf 1, though the hung trees are not one rooted move apart
abbrev here : Tree
here = fork (leaf 1) (fork (fork (fork (leaf 2) (leaf 3)) (leaf 4)) (leaf 5))

abbrev there : Tree
there = fork (leaf 1) (fork (leaf 2) (fork (leaf 3) (fork (leaf 4) (leaf 5))))

pub near-by-smallest : ApartU here there
near-by-smallest = (apart_unrooted-iff here there ((distinct-iff here).0 tt) ((distinct-iff there).0 tt)).0 tt

pub not-rooted : ¬ Apart (hang here) (hang there)
not-rooted a = T_not (is_apart (hang here) (hang there)) tt ((apart-iff (hang here) (hang there) ((distinct-iff (hang here)).0 tt) ((distinct-iff (hang there)).0 tt)).1 a)

-- two moves apart
abbrev other : Tree
other = fork (leaf 1) (fork (fork (fork (leaf 2) (leaf 4)) (leaf 5)) (leaf 3))

pub far-away : ¬ ApartU (fork (leaf 1) (fork (fork (fork (leaf 2) (leaf 3)) (leaf 5)) (leaf 4))) other
far-away a =
    let t = fork (leaf 1) (fork (fork (fork (leaf 2) (leaf 3)) (leaf 5)) (leaf 4)) in
    T_not (is_apart_unrooted t other) tt ((apart_unrooted-iff t other ((distinct-iff t).0 tt) ((distinct-iff other).0 tt)).1 a)

-- the trees of a table of three, the last a copy of the first
abbrev quartets : Trees
quartets = record {
  kind = unrooted;
  trees =
      hang (fork (leaf 1) (fork (leaf 2) (fork (leaf 3) (leaf 4))))
      ∷ hang (fork (leaf 1) (fork (leaf 3) (fork (leaf 2) (leaf 4))))
      ∷ hang (fork (leaf 2) (fork (leaf 1) (fork (leaf 4) (leaf 3))))
      ∷ [];
}

-- the samples of ticket 8 hold
pub unrooted-samples-hold : AllHold unrooted_samples
unfolding pairs_from row_of each is_blank is_digit lead past value_after value member token bad_label label_at fork_at node_at read_node exactly letter_at mark_at two_labels third_at three_at top_at tree_at read_tree within table_from read_table
unrooted-samples-hold =
    (λ out h. rw (le-leb kind_bytes (length out) h))
    and (λ out h. rw (le-leb kind_bytes (length out) h))
    and (λ out h. rw (le-leb kind_bytes (length out) h))
    and (λ out h. rw (le-leb kind_bytes (length out) h))
    and (λ out h. rw (le-leb kind_bytes (length out) h))
    and (λ out h. rw (le-leb kind_bytes (length out) h))
    and (λ out h. rw (le-leb kind_bytes (length out) h))
    and (λ out h. rw (le-leb kind_bytes (length out) h))
    and (λ out h. rw (le-leb forest_bytes (length out) h))
    and (λ memory h k. rw (le-leb table_bytes (length memory.texts) h, le-leb max_trees (length memory.ends) k))
    and (λ memory h k. rw (le-leb table_bytes (length memory.texts) h, le-leb max_trees (length memory.ends) k))
    and stands_apart _ _ refl (near unrooted _ _ tt tt tt)
    and stands_apart _ _ refl (near unrooted _ _ tt tt tt)
    and not_apart _ _ refl (far unrooted _ _ tt tt tt)
    and (λ memory h k l. (
      quartets,
      refl,
      lists quartets ((0, 1) ∷ [])
          (rw (le-leb pair_numbers (length memory.graph.pairs) h, le-leb max_trees (length memory.graph.counts) k, le-leb max_trees (length memory.firsts) l))
          (merged-listed unrooted quartets.trees ((0, 1) ∷ []) (tt, (tt, (tt, tt))) refl),
    ))
    and tt
