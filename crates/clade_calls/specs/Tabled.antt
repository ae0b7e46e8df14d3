-- What the support call asks of its part.
-- Assumes nothing.
use Rattle.std.specs.Prelude.{◌≡◌, ℕ, ◌≤◌, length}
use mathlib.Core.List.{List, Memᴰ}
use Rattle.meaning.specs.Limits.{form_bytes}
use Rattle.meaning.specs.Tree.{Tree as Topology}
use Rattle.meaning.specs.Clade.{clade}
use Rattle.held.specs.Kept.{KeepsAll, KeptAll}
use Rattle.held.specs.declared.Table.{Table}
use Rattle.families.specs.Support.{max_clades}
use Rattle.families.specs.SupportCall.{SupportMemory}

-- the table keeps some trees, all of which have the labels `whole`, and the slices have the stated sizes
pub record SupportCallRoom (table : Table) (memory : SupportMemory) : Type 0 where
  pub kept : KeptAll table
  pub whole : ℕ
  pub one : (ts : List Topology) → KeepsAll table ts → (t : Topology) → Memᴰ t ts → clade t ≡ whole
  pub clades_room : max_clades ≤ length memory.clades
  pub numbers_room : max_clades ≤ length memory.numbers
  pub text-room : form_bytes ≤ length memory.text
