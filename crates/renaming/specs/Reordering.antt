-- The trees of a table put in another order, in the table and in its text. In words: docs/RULES.md, 'Renaming and reordering'.
-- Assumes nothing.
use Rattle.std.specs.Prelude.{◌≡◌, cond, ℕ, ◌<◌, eqb, length, get_or}
use mathlib.Core.List.{List, [], ◌∷◌, ◌++◌, map, Memᴰ}
use Rattle.meaning.specs.Lists.{NoDup}
use Rattle.meaning.specs.Tree.{Tree}
use Rattle.meaning.specs.Kind.{Trees}
use Rattle.meaning.specs.EitherKind.{SameAs}
use Rattle.meaning.specs.Listing.{tree_of}
use Rattle.renaming.specs.Renaming.{rename, Rule}

-- an order of k trees: a list of their positions, each of 0 to k - 1 once
pub record Order (k : ℕ) (order : List ℕ) : Type 0 where
  pub all : length order ≡ k
  pub inside : (i : ℕ) → Memᴰ i order → i < k
  pub once : NoDup order

-- the position from which the tree at position i came
abbrev pub came : List ℕ → ℕ → ℕ
came order i = get_or order i 0

-- the trees in that order
abbrev pub reorder : List ℕ → List Tree → List Tree
reorder order ts = map (tree_of ts) order

-- a table in that order
abbrev pub reorder_table : List ℕ → Trees → Trees
reorder_table order table = record { kind = table.kind; trees = reorder order table.trees }

-- the pieces of the text s that end with a `;`, the first of which has begun with x
unfoldable pub pieces_from : List ℕ → List ℕ → List (List ℕ)
pieces_from x [] = []
pieces_from x (b ∷ s) = cond (eqb b 59) ((x ++ (b ∷ [])) ∷ pieces_from [] s) (pieces_from (x ++ (b ∷ [])) s)

-- the trees' own pieces of a table's text
abbrev pub pieces : List ℕ → List (List ℕ)
pieces s = pieces_from [] s

-- what stands behind the last `;` of s, where x stands before s
unfoldable pub behind_from : List ℕ → List ℕ → List ℕ
behind_from x [] = x
behind_from x (b ∷ s) = cond (eqb b 59) (behind_from [] s) (behind_from (x ++ (b ∷ [])) s)

-- texts one after another, and the text z behind them
unfoldable pub joined_texts : List (List ℕ) → List ℕ → List ℕ
joined_texts [] z = z
joined_texts (x ∷ xs) z = x ++ joined_texts xs z

-- the text with its trees' pieces in that order; what stands behind the last `;` stays there
abbrev pub reorder_text : List ℕ → List ℕ → List ℕ
reorder_text order s = joined_texts (map (λ i. get_or (pieces s) i []) order) (behind_from [] s)

-- table' is the same sample as table, with labels replaced by the rule f and trees in that order: the tree at position i has the topology of the one that it came from, renamed
pub record SameSample (f : ℕ → ℕ) (order : List ℕ) (table table' : Trees) : Type 0 where
  pub kind : table'.kind ≡ table.kind
  pub rule : Rule f table.trees
  pub placed : Order (length table.trees) order
  pub as_many : length table'.trees ≡ length table.trees
  pub tree : (i : ℕ) → i < length table.trees → SameAs table.kind (tree_of table'.trees i) (rename f (tree_of table.trees (came order i)))
