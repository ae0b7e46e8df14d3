-- The pair lister's sheet, as bytes, and the sheet call. In words: docs/RULES.md, 'The sheet'.
-- Assumes nothing.
use Rattle.std.specs.Prelude.{◌≡◌, List, [], ◌∷◌, ◌++◌, ℕ, suc, length}
use Rattle.meaning.specs.Limits.{sheet_bytes}
use Rattle.meaning.specs.Bytes.{bytes}
use Rattle.meaning.specs.Tree.{Tree, digits}
use Rattle.meaning.specs.Kind.{Kind, Trees, either}
use Rattle.meaning.specs.EitherKind.{ApartAs, form_as}
use Rattle.meaning.specs.Listing.{Pair, Listing, At, neighbours, unlinked}
use Rattle.meaning.specs.Answer.{Answer, accepted, refusal, Outcome, text_of, conclude}
use Rattle.meaning.specs.Calls.{Slice, enough, lent, table_read}

-- every line ends in one LF
abbrev pub line : List ℕ → List ℕ
line x = x ++ bytes "\n"

-- a line of two numbers, each with a text before it
unfoldable pub two_fields : List ℕ → ℕ → List ℕ → ℕ → List ℕ
two_fields a n b m = line (a ++ digits n ++ b ++ digits m)

-- a refusal prints only its number and place
abbrev pub refusal_line : ℕ → ℕ → List ℕ
refusal_line n p = two_fields (bytes "refused ") n (bytes " at ") p

-- what a program prints for the text s: what it prints for its trees, or the line of its refusal
pub data Printout (Prints : Trees → List ℕ → Type 0) (s : List ℕ) : List ℕ → Type 0 where
  prints : (table : Trees) (x : List ℕ) → table_read either s ≡ accepted table → Prints table x → Printout Prints s x
  refuses : (n i p : ℕ) → table_read either s ≡ refusal n i p → Printout Prints s (refusal_line n p)

-- first line: number of trees, number of pairs
abbrev pub first_line : ℕ → ℕ → List ℕ
first_line k m = two_fields (bytes "trees ") k (bytes " pairs ") m

-- for a tree its position, neighbours, unlinked number, canonical text
unfoldable pub tree_line : Kind → ℕ → ℕ → ℕ → Tree → List ℕ
tree_line k i n u t = line (bytes "tree " ++ digits i ++ bytes " neighbours " ++ digits n ++ bytes " unlinked " ++ digits u ++ bytes " " ++ form_as k t)

-- the line of the tree t, at position i among the trees ts with the listed pairs ps
abbrev pub tree_line_of : Trees → List Pair → ℕ → Tree → List ℕ
tree_line_of table ps i t = tree_line table.kind i (neighbours ps i) (unlinked table.trees ps i) t

-- the lines of the trees us, which stand among ts from position i on
unfoldable pub tree_lines : Trees → List Pair → ℕ → List Tree → List ℕ
tree_lines table ps i [] = []
tree_lines table ps i (u ∷ us) = tree_line_of table ps i u ++ tree_lines table ps (suc i) us

-- the line of the pair of i and j
abbrev pub pair_line : ℕ → ℕ → List ℕ
pair_line i j = two_fields (bytes "pair ") i (bytes " ") j

-- a line for each pair
unfoldable pub pair_lines : List Pair → List ℕ
pair_lines [] = []
pair_lines (p ∷ ps) = pair_line p.0 p.1 ++ pair_lines ps

-- the sheet of the trees ts with the listed pairs ps
unfoldable pub sheet : Trees → List Pair → List ℕ
sheet table ps = first_line (length table.trees) (length ps) ++ tree_lines table ps 0 table.trees ++ pair_lines ps

-- the sheet of the trees ts with the pairs that are one move apart
pub data SheetOf (table : Trees) : List ℕ → Type 0 where
  shows_pairs : (ps : List Pair) → Listing (length table.trees) (At (ApartAs table.kind) table.trees) ps → SheetOf table (sheet table ps)

-- what the pair lister prints for the text s
abbrev pub Sheet : List ℕ → List ℕ → Type 0
Sheet s x = Printout SheetOf s x

-- lent to the sheet call: 221,542 bytes
abbrev pub sheet_slices : List ℕ → List Slice
sheet_slices out = (sheet_bytes, length out) ∷ []

-- what the sheet call gives, of what is printed: line 7 is its only refusal
abbrev pub sheet_given : List ℕ → List ℕ → Answer (List ℕ)
sheet_given x out = lent (enough (sheet_slices out)) (accepted x)

-- sheet call: what the pair lister prints, a refused text's line too
pub data SheetCall (s out : List ℕ) : Outcome ℕ (List ℕ) → Type 0 where
  gives : (x : List ℕ) → Sheet s x → SheetCall s out (conclude (sheet_given x out) out λ y. text_of y out)
