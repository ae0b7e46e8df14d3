-- Renamed and reordered texts of small tables by computation, rules and orders that exist, and two that are none.
-- Assumes nothing.
use mathlib.Core.Path.{◌≡◌, refl}
use mathlib.Core.List.Memᴰ
use mathlib.Core.List.{List, [], ◌∷◌, map, Memᴰ}
use Prim.Native.Nat.{ℕ, ◌+◌, ◌-◌, ◌≤◌, ◌<◌}
use native.Mathlib.Omega.{arith}
use Rattle.meaning.specs.Bytes.{bytes}
use Rattle.meaning.specs.Limits.{max_label}
use Rattle.meaning.specs.Tree.{Tree, leaf, fork, AllGood}
use Rattle.meaning.specs.Kind.{rooted, either}
use Rattle.meaning.specs.Lists.{member, within}
use Rattle.meaning.specs.Reading.{is_blank, is_digit, lead, past, value_after, value, token, bad_label, label_at, fork_at, node_at, read_node, exactly, letter_at, mark_at, top_at, tree_at, table_from, read_table}
use Rattle.meaning.specs.Listing.{neighbours}
use Rattle.meaning.specs.Loops.{each, row_of, pairs_from}
use Rattle.meaning.specs.Answer.{accepted, refusal}
use Rattle.meaning.specs.Calls.{table_read}
use Rattle.meaning.proofs.Calls.{pairs_in}
use Rattle.renaming.specs.Renaming.{rename, rename_from, rename_text, Rule}
use Rattle.renaming.specs.Reordering.{Order, pieces_from, pieces, behind_from, joined_texts, reorder, reorder_text}
use Rattle.renaming.proofs.TwoTables.{label_small}

-- blanks and marks stay, leading zeros go, a label of two digits is one label
renamed-text : rename_text (λ l. l + 3) (bytes " [&R](007,\n( 12,1)) ;\n") ≡ bytes " [&R](10,\n( 15,4)) ;\n"
unfolding rename_from is_digit
renamed-text = refl

-- the pieces of three trees, each with the blanks before it
three-pieces : pieces (bytes "(1,2);\n(2,1); 1,2") ≡ bytes "(1,2);" ∷ bytes "\n(2,1);" ∷ []
unfolding pieces_from
three-pieces = refl

-- the third tree first; the line's end stays at the end
reordered-text : reorder_text (2 ∷ 0 ∷ 1 ∷ []) (bytes "(1,2);(2,1); (01,2) ;\n") ≡ bytes " (01,2) ;(1,2);(2,1);\n"
unfolding pieces_from behind_from joined_texts
reordered-text = refl

-- an order of three
three : Order 3 (2 ∷ 0 ∷ 1 ∷ [])
three = record { all = refl; inside = inside; once = (λ m. two m, ((λ m. zero_one m), (Memᴰ.not-nil, tt))) }
  where
    inside : (i : ℕ) → Memᴰ i (2 ∷ 0 ∷ 1 ∷ []) → i < 3
    inside i (Memᴰ.head e) = omega arith
    inside i (Memᴰ.tail (Memᴰ.head e)) = omega arith
    inside i (Memᴰ.tail (Memᴰ.tail (Memᴰ.head e))) = omega arith
    inside i (Memᴰ.tail (Memᴰ.tail (Memᴰ.tail m))) = absurd (Memᴰ.not-nil m)

    two : Memᴰ {A = ℕ} 2 (0 ∷ 1 ∷ []) → ⊥
    two (Memᴰ.head e) = omega arith
    two (Memᴰ.tail (Memᴰ.head e)) = omega arith
    two (Memᴰ.tail (Memᴰ.tail m)) = Memᴰ.not-nil m

    zero_one : Memᴰ {A = ℕ} 0 (1 ∷ []) → ⊥
    zero_one (Memᴰ.head e) = omega arith
    zero_one (Memᴰ.tail m) = Memᴰ.not-nil m

-- a rule that every table has: the labels counted down from 64
pub counted-down : {ts : List Tree} → AllGood ts → Rule (λ l. 65 - l) ts
counted-down G = record {
  once = λ l m i j e. omega (arith, label_small G i, label_small G j, e);
  small = λ l i. let h = label_small G i in let low : 1 ≤ 65 - l = omega (arith, h.0, h.1) in let high : 65 - l ≤ max_label = omega (arith, h.0, h.1) in (low, high);
}

-- ---- three trees of four labels: the first is one move apart from the two others
sample : List Tree
sample = fork (fork (fork (leaf 1) (leaf 2)) (leaf 3)) (leaf 4) ∷ fork (fork (leaf 1) (leaf 2)) (fork (leaf 3) (leaf 4)) ∷ fork (fork (leaf 1) (leaf 3)) (fork (leaf 2) (leaf 4)) ∷ []

pairs-before : pairs_in rooted sample ≡ (0, 1) ∷ (0, 2) ∷ []
unfolding sample each row_of pairs_from
pairs-before = refl

-- the same pairs with labels counted down
text-renamed : rename_text (λ l. 65 - l) (bytes "(((1,2),3),4);((1,2),(3,4));((1,3),(2,4));") ≡ bytes "(((64,63),62),61);((64,63),(62,61));((64,62),(63,61));"
unfolding rename_from is_digit
text-renamed = refl

pairs-renamed : pairs_in rooted (map (rename (λ l. 65 - l)) sample) ≡ (0, 1) ∷ (0, 2) ∷ []
unfolding sample each row_of pairs_from
pairs-renamed = refl

-- in the new order the tree with two neighbours is the second
text-reordered : reorder_text (2 ∷ 0 ∷ 1 ∷ []) (bytes "(((1,2),3),4);((1,2),(3,4));((1,3),(2,4));") ≡ bytes "((1,3),(2,4));(((1,2),3),4);((1,2),(3,4));"
unfolding pieces_from behind_from joined_texts
text-reordered = refl

pairs-reordered : pairs_in rooted (reorder (2 ∷ 0 ∷ 1 ∷ []) sample) ≡ (0, 1) ∷ (1, 2) ∷ []
unfolding sample each row_of pairs_from
pairs-reordered = refl

counts-moved : map (neighbours (pairs_in rooted (reorder (2 ∷ 0 ∷ 1 ∷ []) sample))) (0 ∷ 1 ∷ 2 ∷ []) ≡ map (neighbours (pairs_in rooted sample)) (2 ∷ 0 ∷ 1 ∷ [])
unfolding sample each row_of pairs_from
counts-moved = refl

-- ---- what is no rule and no order
-- two labels with one new name: the new text is refused, by line 3
not-one-to-one : table_read either (rename_text (λ l. 7) (bytes "(1,2);")) ≡ refusal 3 0 3
unfolding rename_from is_blank is_digit lead past value_after value token bad_label label_at fork_at node_at read_node exactly letter_at mark_at top_at tree_at table_from read_table member within
not-one-to-one = refl

-- a tree left out: the new text has the other one only
tree-left-out : table_read either (reorder_text (1 ∷ []) (bytes "(1,2);(2,1);")) ≡ accepted (record { kind = rooted; trees = fork (leaf 2) (leaf 1) ∷ [] })
unfolding pieces_from behind_from joined_texts is_blank is_digit lead past value_after value token bad_label label_at fork_at node_at read_node exactly letter_at mark_at top_at tree_at table_from read_table member
tree-left-out = refl

-- and it is no order
left_out : Order 2 (1 ∷ []) → ⊥
left_out O = let e = O.all in omega arith
