-- The calls on rows: text to row, row to text, and the pair test on rows. In words: docs/RULES.md, 'The calls' and 'Rows'.
-- Assumes nothing.
use Rattle.std.specs.Prelude.{◌≡◌, true, false, cond, List, [], ◌∷◌, ℕ, eqb, length}
use Rattle.meaning.specs.Limits.{max_label, form_bytes}
use Rattle.meaning.specs.Tree.{Tree, form}
use Rattle.meaning.specs.Kind.{Kinded, rooted_only}
use Rattle.meaning.specs.Clade.{clade}
use Rattle.meaning.specs.Move.{Apart}
use Rattle.meaning.specs.Reading.{read_tree}
use Rattle.meaning.specs.Compared.{compared}
use Rattle.meaning.specs.Answer.{Answer, accepted, refusal, Outcome, Comparison, text_of, onward, conclude}
use Rattle.meaning.specs.Calls.{Slice, enough, lent, limited, answered}
use Rattle.families.specs.Row.{row, is_row, row_tree}

-- lent to the row call: 64 numbers
abbrev pub row_slices : List ℕ → List Slice
row_slices out = (max_label, length out) ∷ []

-- what the row call reads: exactly one tree, which is rooted
abbrev pub row_read : List ℕ → List ℕ → Answer Kinded
row_read s out = lent (enough (row_slices out)) (limited 0 s (answered 0 (read_tree rooted_only s)))

-- row call: its row, and how many numbers that has
abbrev pub row_call : List ℕ → List ℕ → Outcome ℕ (List ℕ)
row_call s out = conclude (row_read s out) out λ x. text_of (row x.tree) out

-- the tree of row number i; or line 11, where it is the row of no tree
abbrev pub row_given : ℕ → List ℕ → Answer Tree
row_given i xs = cond (is_row xs) (accepted (row_tree xs)) (refusal 11 i 0)

-- lent to the row text call: 309 bytes
abbrev pub row_text_slices : List ℕ → List Slice
row_text_slices out = (form_bytes, length out) ∷ []

-- row text call: the canonical text of the row's tree
abbrev pub row_text_call : List ℕ → List ℕ → Outcome ℕ (List ℕ)
row_text_call xs out = conclude (lent (enough (row_text_slices out)) (row_given 0 xs)) out λ t. text_of (form t) out

-- line 5, at row 1: two rows of different label sets
abbrev pub alike_rows : Tree → Tree → Answer ((t : Tree) × Tree)
alike_rows t u = cond (eqb (clade t) (clade u)) (accepted (t, u)) (refusal 5 1 0)

-- what the row pair call reads: row 0 before row 1, then the label sets
abbrev pub rows_read : List ℕ → List ℕ → Answer ((t : Tree) × Tree)
rows_read xs ys = onward (row_given 0 xs) λ t. onward (row_given 1 ys) λ u. alike_rows t u

-- row pair call: yes exactly when the two trees are one move apart, and how many forests were compared
pub data RowPairCall (xs ys : List ℕ) : Answer Comparison → Type 0 where
  stands_apart : (t u : Tree) → rows_read xs ys ≡ accepted (t, u) → Apart t u → RowPairCall xs ys (accepted (record { yes = true; forests = compared t u }))
  not_apart : (t u : Tree) → rows_read xs ys ≡ accepted (t, u) → ¬ Apart t u → RowPairCall xs ys (accepted (record { yes = false; forests = compared t u }))
  refuses : (n i p : ℕ) → rows_read xs ys ≡ refusal n i p → RowPairCall xs ys (refusal n i p)
