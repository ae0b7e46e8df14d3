-- The sizes of document 01, each once. In words: docs/RULES.md, 'Tree text' and 'The calls'.
-- Assumes nothing.
use Rattle.std.specs.Prelude.{ℕ, ◌+◌, ◌-◌, ◌*◌, ◌/◌}

-- the largest label: a label is 1 to 64, so a tree has 1 to 64 leaves
abbrev pub max_label : ℕ
max_label = 64

-- brackets open at once: as many leaves never need more
abbrev pub max_open : ℕ
max_open = max_label - 1

-- nodes of a tree: a tree of n leaves has 2n − 1
abbrev pub max_nodes : ℕ
max_nodes = 2 * max_label - 1

-- bytes of a text
abbrev pub text_bytes : ℕ
text_bytes = 65535

-- bytes of the longest canonical text of a rooted tree
abbrev pub form_bytes : ℕ
form_bytes = 309

-- bytes lent for a canonical text of either kind: a mark has four
abbrev pub kind_bytes : ℕ
kind_bytes = form_bytes + 4

-- bytes of the longest forest text
abbrev pub forest_bytes : ℕ
forest_bytes = 307

-- trees of a table
abbrev pub max_trees : ℕ
max_trees = 160

-- bytes lent to the table call: a canonical text for each tree
abbrev pub table_bytes : ℕ
table_bytes = max_trees * kind_bytes

-- numbers lent to the graph call for pairs: i, then j, of each
abbrev pub pair_numbers : ℕ
pair_numbers = max_trees * (max_trees - 1)

-- bytes of the sheet's first line
abbrev pub first_line_bytes : ℕ
first_line_bytes = 22

-- bytes of the line of a tree: its position, neighbours and unlinked number, and its canonical text
abbrev pub tree_line_bytes : ℕ
tree_line_bytes = 38 + kind_bytes

-- bytes of the line of a pair
abbrev pub pair_line_bytes : ℕ
pair_line_bytes = 13

-- bytes of the line of an island
abbrev pub island_line_bytes : ℕ
island_line_bytes = 15

-- bytes of the longest sheet of islands: a line for each tree
abbrev pub island_sheet_bytes : ℕ
island_sheet_bytes = max_trees * island_line_bytes

-- bytes of the longest sheet
abbrev pub sheet_bytes : ℕ
sheet_bytes = first_line_bytes + max_trees * tree_line_bytes + pair_numbers / 2 * pair_line_bytes
