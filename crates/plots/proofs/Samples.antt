-- Rows, exact rows, columns and drawings of small trees, and the plot call, by computation.
-- Assumes nothing.
use mathlib.Core.Path.{◌≡◌, refl}
use mathlib.Core.Bool.{false}
use mathlib.Core.List.{List, [], ◌∷◌, ◌++◌}
use Prim.Native.Nat.{ℕ, zero, suc, ◌+◌, ◌*◌, ◌^◌}
use lib.IntN.{pos, negsuc}
use lib.ListN.{replicate}
use lib.Ieee.{Float, nan, fin, add, mul, of_int, of_bits}
use Rattle.meaning.specs.Bytes.{bytes}
use Rattle.meaning.specs.Lists.{member}
use Rattle.meaning.specs.Tree.{Tree, leaf, fork}
use Rattle.meaning.specs.Reading.{is_blank, is_digit, lead, past, value_after, value, token, bad_label, label_at, fork_at, node_at, read_node, exactly}
use Rattle.meaning.specs.Reading.{letter_at, mark_at, two_labels, third_at, three_at, top_at, tree_at, read_tree}
use Rattle.meaning.specs.Answer.{accepted, refusal}
use Rattle.plots.specs.Plot.{whole, row, scale, exact, columns, rows, exacts, tip, joint, drawings}
use Rattle.plots.specs.PlotCall.{plot_read, plot_call}

-- 0, 0.5, 1, 1.25 and 2
abbrev zero_row : Float
zero_row = fin false 0 (pos 0)

abbrev half-row : Float
half-row = fin false 1 (negsuc 0)

abbrev one-row : Float
one-row = fin false 1 (pos 0)

abbrev quarter-row : Float
quarter-row = fin false 5 (negsuc 1)

abbrev two-row : Float
two-row = fin false 1 (pos 1)

-- ---- ((1,2),3)
abbrev three : Tree
three = fork (fork (leaf 1) (leaf 2)) (leaf 3)

abbrev rows-three : List Float
rows-three = quarter-row ∷ half-row ∷ zero_row ∷ one-row ∷ two-row ∷ []

rows-of-three : rows three ≡ rows-three
unfolding add mul of_int of_bits
rows-of-three = refl

exacts-of-three : exacts three ≡ (5 * 2 ^ 61) ∷ (2 ^ 62) ∷ 0 ∷ (2 ^ 63) ∷ (2 ^ 64) ∷ []
exacts-of-three = refl

columns-of-three : columns three ≡ 0 ∷ 1 ∷ 2 ∷ 2 ∷ 1 ∷ []
columns-of-three = refl

drawings-of-three : drawings three ≡ joint quarter-row half-row two-row ∷ joint half-row zero_row one-row ∷ tip zero_row ∷ tip one-row ∷ tip two-row ∷ []
unfolding add mul of_int of_bits
drawings-of-three = refl

-- a leaf alone: row 0, column 0
rows-of-one : rows (leaf 7) ≡ zero_row ∷ []
unfolding of_int
rows-of-one = refl

columns-of-one : columns (leaf 7) ≡ 0 ∷ []
columns-of-one = refl

-- ---- the deepest tree: (((1,2),3),4) and on to 64. Its root's row is 62, and the exact one is 2 ^ -63 more
abbrev comb : ℕ → Tree
comb zero = leaf 1
comb (suc n) = fork (comb n) (leaf (suc (suc n)))

row-of-deepest : row 0 (comb 63) ≡ whole 62
unfolding add mul of_int of_bits
row-of-deepest = refl

exact-of-deepest : exact 0 (comb 63) ≡ 62 * scale + 1
exact-of-deepest = refl

-- ---- the call
-- five nodes in the order of the canonical text, and nothing is changed behind them
call-three : plot_call (bytes "(3,(2,1));") (record { rows = replicate 128 nan; columns = replicate 127 9 })
    ≡ record { answer = accepted 5; memory = record { rows = rows-three ++ replicate 123 nan; columns = 0 ∷ 1 ∷ 2 ∷ 2 ∷ 1 ∷ replicate 122 9 } }
unfolding is_blank is_digit lead past value_after value member token bad_label label_at fork_at node_at read_node exactly letter_at mark_at two_labels third_at three_at top_at tree_at read_tree add mul of_int of_bits
call-three = refl

-- an unrooted tree is refused at its `;`
call-unrooted : plot_read (bytes "[&U](1,2);") (record { rows = replicate 127 nan; columns = replicate 127 9 }) ≡ refusal 10 0 9
unfolding is_blank is_digit lead past value_after value member token bad_label label_at fork_at node_at read_node exactly letter_at mark_at two_labels third_at three_at top_at tree_at read_tree
call-unrooted = refl

-- each slice is measured, and before the text
rows_short : plot_read (bytes "(1,1);") (record { rows = replicate 126 nan; columns = replicate 127 9 }) ≡ refusal 7 0 0
rows_short = refl

columns-short : plot_read (bytes "(1,1);") (record { rows = replicate 127 nan; columns = replicate 126 9 }) ≡ refusal 7 0 0
columns-short = refl
