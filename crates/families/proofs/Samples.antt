-- The order of clades, support lists and majority trees of small tables by computation.
-- Assumes nothing.
use mathlib.Core.Path.{◌≡◌, refl}
use mathlib.Core.List.{List, [], ◌∷◌, ◌++◌}
use lib.ListN.{replicate}
use lib.Count.{ones_in, count_trailing_zeros}
use Rattle.meaning.specs.Answer.{accepted}
use Rattle.meaning.specs.Bytes.{bytes}
use Rattle.meaning.specs.Lists.{member}
use Rattle.meaning.specs.Tree.{Tree, leaf, fork}
use Rattle.families.specs.Clades.{size, labels_from, labels_of}
use Rattle.meaning.specs.Sorted.{insert, sort_by, lesser, put, keep}
use Rattle.families.specs.Grown.{leads, first_child, grow}
use Rattle.families.specs.Support.{by_labels, ranks, pooled, once, supported, support, max_clades, majority, regrouped}
use Rattle.families.specs.Majority.{mark, majority_tree, majority_text}
use Rattle.families.specs.SupportCall.{support_of}

-- labels 1, 2, 63 and 64
labels-comb : labels_of 13835058055282163715 ≡ 1 ∷ 2 ∷ 63 ∷ 64 ∷ []
unfolding labels_of labels_from
labels-comb = refl

-- {1,2} < {1,2,3} < {1,3} < {2,3}
four-clades : sort_by by_labels (3 ∷ 6 ∷ 7 ∷ 5 ∷ []) ≡ 3 ∷ 7 ∷ 5 ∷ 6 ∷ []
unfolding sort_by insert lesser labels_of labels_from
four-clades = refl

full-table : max_clades ≡ 9921
full-table = refl

-- the second and the third are copies
four : List Tree
four =
    fork (leaf 1) (fork (leaf 2) (fork (leaf 3) (leaf 4))) ∷ fork (fork (leaf 1) (leaf 2)) (fork (leaf 3) (leaf 4))
    ∷ fork (fork (leaf 3) (leaf 4)) (fork (leaf 2) (leaf 1)) ∷ fork (fork (leaf 1) (leaf 3)) (fork (leaf 2) (leaf 4)) ∷ []

-- the whole, {3,4}, {1,2}, {1,3}, {2,3,4}, {2,4}
clades-four : supported four ≡ 15 ∷ 12 ∷ 3 ∷ 5 ∷ 14 ∷ 10 ∷ []
unfolding four supported pooled once put sort_by insert ranks lesser labels_of labels_from member
clades-four = refl

support-four : support four ≡ 4 ∷ 3 ∷ 2 ∷ 1 ∷ 1 ∷ 1 ∷ []
unfolding four supported pooled once put sort_by insert ranks lesser labels_of labels_from member
support-four = refl

steps-four : regrouped four 4 (sort_by by_labels (once (pooled four))) ≡ supported four
unfolding four supported regrouped keep pooled once put sort_by insert ranks lesser labels_of labels_from member
steps-four = refl

-- {1,2} is in half of the trees, and no majority
majority-four : majority_text four ≡ bytes "(1,2,(3,4));"
unfolding four supported pooled once put sort_by insert ranks lesser labels_of labels_from member majority keep majority_text majority_tree mark grow first_child leads size ones_in count_trailing_zeros
majority-four = refl

-- what the call leaves of them in slices that are longer by one, and its numbers
support-holds : support_of four (record { clades = replicate 7 9; numbers = replicate 7 9; text = replicate 13 9 })
    ≡ record {
      answer = accepted (record { clades = 6; bytes = 12; trees = 4 });
      memory = record {
        clades = 15 ∷ 12 ∷ 3 ∷ 5 ∷ 14 ∷ 10 ∷ 9 ∷ [];
        numbers = 4 ∷ 3 ∷ 2 ∷ 1 ∷ 1 ∷ 1 ∷ 9 ∷ [];
        text = bytes "(1,2,(3,4));" ++ (9 ∷ []);
      };
    }
unfolding four supported pooled once put sort_by insert ranks lesser labels_of labels_from member majority keep majority_text majority_tree mark grow first_child leads size ones_in count_trailing_zeros
support-holds = refl

-- 2 comes before 10
majority-ten : majority_text (fork (leaf 10) (leaf 2) ∷ []) ≡ bytes "(2,10);"
unfolding supported pooled once put sort_by insert ranks lesser labels_of labels_from member majority keep majority_text majority_tree mark grow first_child leads size ones_in count_trailing_zeros
majority-ten = refl

-- one leaf
clades-one : supported (leaf 7 ∷ []) ≡ []
unfolding supported pooled once put sort_by
clades-one = refl

majority-one : majority_text (leaf 7 ∷ []) ≡ bytes "7;"
unfolding supported pooled once put sort_by keep majority_text majority_tree mark grow first_child size ones_in count_trailing_zeros
majority-one = refl

-- no tree
clades-none : supported [] ≡ []
unfolding supported pooled once put sort_by
clades-none = refl

majority-none : majority_text [] ≡ []
unfolding majority_text
majority-none = refl
