-- The labels of a table replaced by a rule, in its trees and in its text. In words: docs/RULES.md, 'Renaming and reordering'.
-- Assumes nothing.
use Rattle.std.specs.Prelude.{◌≡◌, cond, List, [], ◌∷◌, ◌++◌, map, ℕ, ◌+◌, ◌*◌, ◌-◌, ◌≤◌, ◌<◌, length}
use Rattle.meaning.specs.Limits.{max_label}
use Rattle.meaning.specs.Tree.{Tree, leaf, fork, In, digits}
use Rattle.meaning.specs.Kind.{rooted, Trees}
use Rattle.meaning.specs.EitherKind.{SameAs}
use Rattle.meaning.specs.Listing.{tree_of}
use Rattle.meaning.specs.Reading.{is_digit}

-- every label replaced
abbrev pub rename : (ℕ → ℕ) → Tree → Tree
rename f (leaf l) = leaf (f l)
rename f (fork a b) = fork (rename f a) (rename f b)

-- l is a label of one of the trees
pub data LabelOf (l : ℕ) : List Tree → Type 0 where
  here : {t : Tree} {ts : List Tree} → In l t → LabelOf l (t ∷ ts)
  later : {t : Tree} {ts : List Tree} → LabelOf l ts → LabelOf l (t ∷ ts)

-- f is a rule for the labels of ts: one-to-one on them, with values in 1 to 64
pub record Rule (f : ℕ → ℕ) (ts : List Tree) : Type 0 where
  pub once : (l m : ℕ) → LabelOf l ts → LabelOf m ts → f l ≡ f m → l ≡ m
  pub small : (l : ℕ) → LabelOf l ts → (1 ≤ f l) × (f l ≤ max_label)

-- the run of digits that ends at a place of a text: none, or one that writes v so far
pub data Run : Type 0 where
  none : Run
  writes : ℕ → Run

-- the number that a further digit goes on from
abbrev pub worth : Run → ℕ
worth none = 0
worth (writes v) = v

-- the run with the further digit b
abbrev pub further : Run → ℕ → Run
further r b = writes (worth r * 10 + (b - 48))

-- the new label in its place, without leading zeros
abbrev pub renamed_run : (ℕ → ℕ) → Run → List ℕ
renamed_run f none = []
renamed_run f (writes v) = digits (f v)

-- what the run and the text s behind it become: each longest run of digits is replaced, every other byte stays
unfoldable pub rename_from : (ℕ → ℕ) → Run → List ℕ → List ℕ
rename_from f r [] = renamed_run f r
rename_from f r (b ∷ s) = cond (is_digit b) (rename_from f (further r b) s) (renamed_run f r ++ (b ∷ rename_from f none s))

-- a text with every label replaced
abbrev pub rename_text : (ℕ → ℕ) → List ℕ → List ℕ
rename_text f s = rename_from f none s

-- table' is the table with labels replaced: of the same kind and as many trees, each of the topology of the renamed one, and equal to it where trees are rooted
pub record RenamedTable (f : ℕ → ℕ) (table table' : Trees) : Type 0 where
  pub kind : table'.kind ≡ table.kind
  pub many : length table'.trees ≡ length table.trees
  pub tree : (i : ℕ) → i < length table.trees → SameAs table.kind (tree_of table'.trees i) (rename f (tree_of table.trees i))
  pub rooted_trees : table.kind ≡ rooted → table'.trees ≡ map (rename f) table.trees
