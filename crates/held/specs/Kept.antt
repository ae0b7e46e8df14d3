-- What a tree's record keeps, and a table's: trees that a text can hold, each in canonical order and nothing else.
-- Assumes nothing.
use Rattle.std.specs.Prelude.{◌≡◌, ◌⊎◌, List, [], ◌∷◌, ◌++◌, ℕ, ◌≤◌, ◌<◌, length, get_or}
use Rattle.meaning.specs.Limits.{max_trees}
use Rattle.meaning.specs.Tree.{Tree as Topology, Good, canon}
use Rattle.meaning.specs.Kind.{Kind as KindOf, rooted, unrooted, Kinded, Trees}
use Rattle.meaning.specs.EitherKind.{canon_as}
use Rattle.meaning.specs.Listing.{tree_of}
use Rattle.held.specs.Held.{hold}
use Rattle.held.specs.declared.Kind.{Kind}
use Rattle.held.specs.declared.Kind.TheVariants.{Rooted, Unrooted}
use Rattle.held.specs.declared.Tree.{Tree}
use Rattle.held.specs.declared.Table.{Table}

-- a record's kind in document 02's words
abbrev pub kind_of : Kind → KindOf
kind_of Rooted = rooted
kind_of Unrooted = unrooted

-- the record keeps t, whatever its kind
pub record Keeps (tree : Tree) (t : Topology) : Type 0 where
  pub good : Good t
  pub bytes : tree.node ≡ hold (canon t)

-- it keeps some tree
pub record Kept (tree : Tree) : Type 0 where
  pub topology : Topology
  pub keeps : Keeps tree topology

-- t stands for a tree of this kind: hung at its smallest label it is the same, where the kind is unrooted
abbrev pub Standing : KindOf → Topology → Type 0
Standing k t = canon_as k t ≡ canon t

-- the record keeps x: its kind, and the rooted tree that stands for it
pub record KeepsKind (tree : Tree) (x : Kinded) : Type 0 where
  pub kind : kind_of tree.kind ≡ x.kind
  pub keeps : Keeps tree x.tree
  pub stands : Standing x.kind x.tree

-- it keeps some tree of some kind
pub record KeptKind (tree : Tree) : Type 0 where
  pub kinded : Kinded
  pub keeps : KeepsKind tree kinded

-- it keeps some tree of some kind whose measure is at most len
pub record KeptKindRoom (measure : Kinded → ℕ) (tree : Tree) (len : ℕ) : Type 0 where
  pub kinded : Kinded
  pub keeps : KeepsKind tree kinded
  pub room : measure kinded ≤ len

-- stands for a record behind a table's last
abbrev pub no_record : Tree
no_record = record { node = []; kind = Rooted }

-- the record at position i of the table
abbrev pub held_at : Table → ℕ → Tree
held_at table i = get_or table.trees i no_record

-- the table keeps the trees ts, in order
pub record KeepsAll (table : Table) (ts : List Topology) : Type 0 where
  pub count : table.len ≡ length ts
  pub few : length ts ≤ max_trees
  pub each : (i : ℕ) → i < length ts → Keeps (held_at table i) (tree_of ts i)

-- it keeps some trees
pub record KeptAll (table : Table) : Type 0 where
  pub trees : List Topology
  pub keeps : KeepsAll table trees

-- the table keeps trees of one kind, which the record at 0 has even where there are none
pub record KeepsTrees (table : Table) (ts : Trees) : Type 0 where
  pub all : KeepsAll table ts.trees
  pub first : kind_of (held_at table 0).kind ≡ ts.kind
  pub kinds : (i : ℕ) → i < length ts.trees → kind_of (held_at table i).kind ≡ ts.kind
  pub stand : (i : ℕ) → i < length ts.trees → Standing ts.kind (tree_of ts.trees i)

-- it keeps some trees of some kind
pub record KeptTrees (table : Table) : Type 0 where
  pub trees : Trees
  pub keeps : KeepsTrees table trees

-- x can stand behind trees of one kind: it has their kind, or there are none
abbrev pub FitsBehind : Trees → Kinded → Type 0
FitsBehind ts x = (ts.trees ≡ []) ⊎ (ts.kind ≡ x.kind)

-- the trees with x behind them
abbrev pub behind : Trees → Kinded → Trees
behind ts x = record { kind = x.kind; trees = ts.trees ++ (x.tree ∷ []) }

-- whatever trees the table keeps, table' keeps them and the tree behind them
abbrev pub Adds : Table → Tree → Table → Type 0
Adds table tree table' = (ts : Trees) (x : Kinded) → KeepsTrees table ts → KeepsKind tree x → FitsBehind ts x → KeepsTrees table' (behind ts x)
