-- Rows of small trees, numbers that are no row, and the calls on rows by computation.
-- Assumes nothing.
use mathlib.Core.Path.{◌≡◌, refl}
use mathlib.Core.Bool.{true, false}
use mathlib.Core.List.{List, [], ◌∷◌, ◌++◌, map}
use Prim.Native.Nat.{ℕ}
use lib.Count.{ones_in, count_trailing_zeros}
use lib.ListN.{replicate}
use Rattle.meaning.specs.Bytes.{bytes}
use Rattle.meaning.specs.Lists.{member, within}
use Rattle.meaning.specs.Tree.{Tree, leaf, fork}
use Rattle.meaning.specs.Reading.{is_blank, is_digit, lead, past, value_after, value, token, bad_label, label_at, fork_at, node_at, read_node, exactly}
use Rattle.meaning.specs.Reading.{letter_at, mark_at, two_labels, third_at, three_at, top_at, tree_at, read_tree}
use Rattle.meaning.specs.Kind.{rooted}
use Rattle.meaning.specs.Answer.{accepted, refusal}
use Rattle.meaning.proofs.Samples.{near, far}
use Rattle.families.specs.Clades.{size}
use Rattle.meaning.specs.Sorted.{insert, sort_by}
use Rattle.families.specs.Grown.{leads, first_child, grow}
use Rattle.families.specs.Row.{row, rises_from, all_fit, is_row, row_tree}
use Rattle.families.specs.RowCalls.{row_read, row_call, row_text_call, rows_read, RowPairCall, stands_apart, not_apart}

-- ---- rows
-- one leaf: its label set alone
row_one : row (leaf 7) ≡ 64 ∷ []
unfolding sort_by
row_one = refl

-- two leaves: the same number twice
row-two : row (fork (leaf 2) (leaf 1)) ≡ 3 ∷ 3 ∷ []
unfolding sort_by insert
row-two = refl

-- {1,2} and the whole, whatever the order of children
row-three : row (fork (leaf 3) (fork (leaf 2) (leaf 1))) ≡ 7 ∷ 3 ∷ 7 ∷ []
unfolding sort_by insert
row-three = refl

-- two clades beside each other
row-four : row (fork (fork (leaf 1) (leaf 2)) (fork (leaf 3) (leaf 4))) ≡ 15 ∷ 3 ∷ 12 ∷ 15 ∷ []
unfolding sort_by insert
row-four = refl

-- labels 1, 2, 63 and 64
abbrev comb : List ℕ
comb = 13835058055282163715 ∷ 3 ∷ 4611686018427387907 ∷ 13835058055282163715 ∷ []

row-comb : row (fork (leaf 64) (fork (leaf 63) (fork (leaf 1) (leaf 2)))) ≡ comb
unfolding sort_by insert
row-comb = refl

-- ---- which numbers are a row
rows : map is_row ((64 ∷ []) ∷ (3 ∷ 3 ∷ []) ∷ (7 ∷ 3 ∷ 7 ∷ []) ∷ (15 ∷ 3 ∷ 12 ∷ 15 ∷ []) ∷ comb ∷ []) ≡ true ∷ true ∷ true ∷ true ∷ true ∷ []
unfolding is_row rises_from all_fit size ones_in
rows = refl

-- nothing; no label
none_rows : map is_row ([] ∷ (0 ∷ []) ∷ []) ≡ false ∷ false ∷ []
unfolding is_row rises_from all_fit size ones_in
none_rows = refl

-- {1,2} and {2,3} cross
crossing : is_row (15 ∷ 3 ∷ 6 ∷ 15 ∷ []) ≡ false
unfolding is_row rises_from all_fit size ones_in
crossing = refl

-- a clade is missing; one is too many; the label set is not among them
numbers-off : map is_row ((7 ∷ 7 ∷ []) ∷ (7 ∷ []) ∷ (7 ∷ 3 ∷ 6 ∷ 7 ∷ []) ∷ (64 ∷ 64 ∷ []) ∷ (15 ∷ 3 ∷ 7 ∷ 12 ∷ []) ∷ []) ≡ false ∷ false ∷ false ∷ false ∷ false ∷ []
unfolding is_row rises_from all_fit size ones_in
numbers-off = refl

-- out of order; twice
order-off : map is_row ((7 ∷ 7 ∷ 3 ∷ []) ∷ (15 ∷ 12 ∷ 3 ∷ 15 ∷ []) ∷ (7 ∷ 7 ∷ 7 ∷ []) ∷ (15 ∷ 3 ∷ 3 ∷ 15 ∷ []) ∷ []) ≡ false ∷ false ∷ false ∷ false ∷ []
unfolding is_row rises_from all_fit size ones_in
order-off = refl

-- a clade of one label; one with a label that is not in the set; a label set of 65 bits
parts-off : map is_row ((7 ∷ 4 ∷ 7 ∷ []) ∷ (7 ∷ 7 ∷ 9 ∷ []) ∷ (18446744073709551616 ∷ []) ∷ []) ≡ false ∷ false ∷ false ∷ []
unfolding is_row rises_from all_fit size ones_in
parts-off = refl

-- ---- the tree of a row
tree-comb : row_tree comb ≡ fork (fork (fork (leaf 1) (leaf 2)) (leaf 63)) (leaf 64)
unfolding row_tree grow first_child leads size ones_in count_trailing_zeros
tree-comb = refl

-- ---- the calls
-- two numbers are written, and nothing is changed behind them
call-two : row_call (bytes " ( 2,1 ) ;") (replicate 64 9) ≡ record { answer = accepted 2; memory = 3 ∷ 3 ∷ replicate 62 9 }
unfolding is_blank is_digit lead past value_after value member token bad_label label_at fork_at node_at read_node exactly letter_at mark_at two_labels third_at three_at top_at tree_at read_tree sort_by insert
call-two = refl

-- an unrooted tree is refused at its `;`
call-unrooted : row_read (bytes "[&U](1,2);") (replicate 64 9) ≡ refusal 10 0 9
unfolding is_blank is_digit lead past value_after value member token bad_label label_at fork_at node_at read_node exactly letter_at mark_at two_labels third_at three_at top_at tree_at read_tree
call-unrooted = refl

text-two : row_text_call (3 ∷ 3 ∷ []) (replicate 309 9) ≡ record { answer = accepted 6; memory = bytes "(1,2);" ++ replicate 303 9 }
unfolding is_row rises_from all_fit size ones_in row_tree grow first_child leads count_trailing_zeros
text-two = refl

-- row 0 before row 1, and both before their label sets
pair-refused : map (λ (xs : List ℕ). rows_read xs (5 ∷ 3 ∷ [])) ((3 ∷ 5 ∷ []) ∷ (3 ∷ 3 ∷ []) ∷ []) ≡ refusal 11 0 0 ∷ refusal 11 1 0 ∷ []
unfolding is_row rises_from all_fit size ones_in
pair-refused = refl

pair-labels : rows_read (3 ∷ 3 ∷ []) (5 ∷ 5 ∷ []) ≡ refusal 5 1 0
unfolding is_row rises_from all_fit size ones_in row_tree grow first_child leads count_trailing_zeros
pair-labels = refl

-- {1,2} for {1,3}: one move; and no move is needed from a tree to itself
abbrev first : Tree
first = fork (fork (leaf 1) (leaf 2)) (leaf 3)

abbrev second : Tree
second = fork (fork (leaf 1) (leaf 3)) (leaf 2)

pair-yes : RowPairCall (7 ∷ 3 ∷ 7 ∷ []) (7 ∷ 5 ∷ 7 ∷ []) (accepted (record { yes = true; forests = 1 }))
unfolding is_row rises_from all_fit size ones_in row_tree grow first_child leads count_trailing_zeros within member
pair-yes = stands_apart first second refl (near rooted first second tt tt tt)

pair-no : RowPairCall (7 ∷ 3 ∷ 7 ∷ []) (7 ∷ 3 ∷ 7 ∷ []) (accepted (record { yes = false; forests = 0 }))
unfolding is_row rises_from all_fit size ones_in row_tree grow first_child leads count_trailing_zeros within member
pair-no = not_apart first first refl (far rooted first first tt tt tt)
