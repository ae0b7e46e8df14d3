-- What the writers of the majority tree ask, and what they leave.
-- Assumes nothing.
use Rattle.std.specs.Prelude.{◌≡◌, Bool, true, false, ℕ, ◌+◌, ◌≤◌, length, take}
use mathlib.Core.List.{List, [], ◌∷◌, Memᴰ}
use Rattle.meaning.specs.Limits.{form_bytes}
use Rattle.meaning.specs.Tree.{Tree as Topology}
use Rattle.meaning.specs.Clade.{clade}
use Rattle.held.specs.Kept.{KeepsAll, KeptAll}
use Rattle.held.specs.declared.Table.{Table}
use Rattle.families.specs.Grown.{GrowsTo}
use Rattle.families.specs.Support.{supported, support}
use Rattle.families.specs.Majority.{write_multi, mark}

-- a bracket stands only at a node
abbrev pub bracket : Bool → ℕ → List ℕ
bracket true byte = byte ∷ []
bracket false byte = []

-- the text of t, of which only the forks with a clade of cs are nodes
abbrev pub marked : List ℕ → Topology → List ℕ
marked cs t = write_multi (mark cs t)

-- a tree grows to c from the clades, and there is room for its text
pub record CladeRoom (clades : List ℕ) (c at len : ℕ) : Type 0 where
  pub tree : Topology
  pub grows : GrowsTo clades c tree
  pub room : at + length (marked clades tree) ≤ len

-- the first n clades and numbers are the list of support of the trees ts
pub record Lists (ts : List Topology) (clades numbers : List ℕ) (n : ℕ) : Type 0 where
  pub each : take n clades ≡ supported ts
  pub often : take n numbers ≡ support ts

-- they are that of whatever trees the table keeps, all of which have the labels `whole`; and there is room for the text of a tree
pub record MajorityRoom (table : Table) (clades numbers : List ℕ) (n len : ℕ) : Type 0 where
  pub kept : KeptAll table
  pub whole : ℕ
  pub one : (ts : List Topology) → KeepsAll table ts → (t : Topology) → Memᴰ t ts → clade t ≡ whole
  pub lists : (ts : List Topology) → KeepsAll table ts → Lists ts clades numbers n
  pub inside : n ≤ length clades
  pub beside : n ≤ length numbers
  pub room : form_bytes ≤ len
