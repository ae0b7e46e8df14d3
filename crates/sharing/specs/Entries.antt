-- The cuts of a table's first trees as numbered entries: their forests and keys, and what is found of those with the same forest.
-- Assumes nothing.
use Rattle.std.specs.Prelude.{◌≡◌, ◌⊎◌, Bool, List, ℕ, ◌+◌, ◌-◌, ◌/◌, ◌%◌, ◌≤◌, ◌<◌, length, get_or}
use Rattle.meaning.specs.Limits.{max_trees}
use Rattle.meaning.specs.Tree.{Tree as Topology, canon}
use Rattle.meaning.specs.Move.{Cut, cuts}
use Rattle.meaning.specs.Listing.{tree_of}
use Rattle.meaning.specs.Copies.{first_of}
use Rattle.held.specs.Held.{cut_in}
use Rattle.held.specs.Kept.{KeepsAll, KeptAll}
use Rattle.held.specs.declared.Table.{Table}
use Rattle.pairs.specs.Pair.{SameForest}
use Rattle.prints.specs.Print.{key}
use Rattle.chains.specs.Chains.{row_entries, entries, Last, Found}
use Rattle.sharing.specs.Links.{Square, LinkedIn, NoneLinked}
use Rattle.sharing.specs.Firsts.{FirstsNoted}

-- ---- entries
-- entry e is in the row of this tree
abbrev pub tree_no : ℕ → ℕ
tree_no e = e / row_entries

-- and stands for this cut of it: that of node e % 128
abbrev pub cut_no : ℕ → ℕ
cut_no e = e % row_entries - 1

-- the forest of that cut
abbrev pub forest_at : List Topology → ℕ → Cut
forest_at ts e = cut_in (canon (tree_of ts (tree_no e))) (cut_no e)

-- e is an entry: its tree is the first of its topology and has such a cut
pub record Entry (ts : List Topology) (e : ℕ) : Type 0 where
  pub inside : tree_no e < length ts
  pub first : first_of ts (tree_no e) ≡ tree_no e
  pub node : 0 < e % row_entries
  pub is_cut : cut_no e < length (cuts (canon (tree_of ts (tree_no e))))

-- q is an entry with the forest of e
pub record SameAs (ts : List Topology) (e q : ℕ) : Type 0 where
  pub entry : Entry ts q
  pub same : SameForest (forest_at ts q) (forest_at ts e)

-- ---- their keys
-- an entry has the key of its forest, and all else has 0
pub record Keyed (ts : List Topology) (keys : List ℕ) : Type 0 where
  pub own : (e : ℕ) → Entry ts e → get_or keys e 0 ≡ key (forest_at ts e)
  pub others : (e : ℕ) → (get_or keys e 0 ≡ 0) ⊎ Entry ts e

-- of the trees that the table keeps
pub record Laid (table : Table) (ts : List Topology) (keys : List ℕ) : Type 0 where
  pub kept : KeepsAll table ts
  pub keyed : Keyed ts keys

-- the table keeps some trees, whose firsts are noted, and there is room for their keys, of which there is none yet
pub record LayRoom (table : Table) (firsts keys : List ℕ) : Type 0 where
  pub kept : KeptAll table
  pub noted : FirstsNoted table firsts
  pub lent : max_trees ≤ length firsts
  pub keys_room : length keys ≡ entries
  pub none : (e : ℕ) → get_or keys e 0 ≡ 0

-- ---- comparing entries
-- e is an entry of the trees that the table keeps
pub record EntryIn (table : Table) (e : ℕ) : Type 0 where
  pub trees : List Topology
  pub kept : KeepsAll table trees
  pub entry : Entry trees e

-- e is one of the entries before `end`, each of which has beside it the last one before it with the same key
pub record Seeks (ts : List Topology) (table : Table) (keys same : List ℕ) (end e : ℕ) : Type 0 where
  pub laid : Laid table ts keys
  pub found : Found keys same end
  pub few : end ≤ entries
  pub before : e < end
  pub entry : Entry ts e

-- so for some trees and keys
pub record Seekable (table : Table) (same : List ℕ) (e : ℕ) : Type 0 where
  pub trees : List Topology
  pub keys : List ℕ
  pub end : ℕ
  pub seeks : Seeks trees table keys same end e

-- beside each entry before `end` is the last one before it with the same forest
abbrev pub Twins : List Topology → List ℕ → ℕ → Type 0
Twins ts twins end = (e : ℕ) → Entry ts e → e < end → Last (SameAs ts e) e (get_or twins e 0)

-- ---- links of trees that share a forest
-- e is an entry, up to which that is so
pub record Linkable (ts : List Topology) (twins : List ℕ) (e : ℕ) : Type 0 where
  pub few : length ts ≤ max_trees
  pub entry : Entry ts e
  pub twinned : Twins ts twins (e + 1)

-- so for some trees, and there is a flag for each two positions
pub record LinkRoom (links : List (List Bool)) (twins : List ℕ) (e : ℕ) : Type 0 where
  pub trees : List Topology
  pub linkable : Linkable trees twins e
  pub square : Square links

-- the tree of e was linked to those that have its forest at an entry before, and nothing else has changed
pub record LinkedBack (ts : List Topology) (links links' : List (List Bool)) (e : ℕ) : Type 0 where
  pub all : (q : ℕ) → q < e → SameAs ts e q → LinkedIn links' (tree_no q) (tree_no e)
  pub kept : (i j : ℕ) → LinkedIn links i j → LinkedIn links' i j
  pub only : (i j : ℕ) → LinkedIn links' i j → LinkedIn links i j ⊎ ((q : ℕ) × (i ≡ tree_no q) × (j ≡ tree_no e) × SameAs ts e q)
  pub square : Square links'

-- i and j are trees with entries of the same forest
pub record Sharing (ts : List Topology) (i j : ℕ) : Type 0 where
  pub one : ℕ
  pub two : ℕ
  pub in_one : i ≡ tree_no one
  pub in_two : j ≡ tree_no two
  pub entry : Entry ts two
  pub same : SameAs ts two one

-- the trees of entries before `end` are linked exactly where they share a forest
pub record SharesLinked (ts : List Topology) (links : List (List Bool)) (end : ℕ) : Type 0 where
  pub all : (q e : ℕ) → q < e → e < end → Entry ts e → SameAs ts e q → LinkedIn links (tree_no q) (tree_no e)
  pub only : (i j : ℕ) → LinkedIn links i j → Sharing ts i j
  pub square : Square links

-- some trees' keys, with the last entry of the same key beside each, and flags that link none
pub record ShareRoom (links : List (List Bool)) (table : Table) (keys same : List ℕ) (end : ℕ) : Type 0 where
  pub trees : List Topology
  pub laid : Laid table trees keys
  pub found : Found keys same end
  pub few : end ≤ entries
  pub square : Square links
  pub empty : NoneLinked links
