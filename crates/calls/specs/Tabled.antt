-- What the table call asks of its part, and what that leaves.
-- Assumes nothing.
use Rattle.std.specs.Prelude.{List, ℕ, ◌≤◌, length}
use Rattle.meaning.specs.Limits.{max_trees, table_bytes}
use Rattle.meaning.specs.Tree.{Tree as Topology}
use Rattle.meaning.specs.Kind.{Kind, Trees}
use Rattle.meaning.specs.EitherKind.{forms_as}
use Rattle.meaning.specs.Answer.{TableMemory}
use Rattle.meaning.specs.Calls.{ends}
use Rattle.lent.specs.Runs.{Wrote}
use Rattle.held.specs.Kept.{KeepsTrees, KeptTrees}
use Rattle.held.specs.declared.Table.{Table}

-- the lent slices: for the texts, and for the end of each
abbrev pub text_slices : List ℕ → List ℕ → TableMemory
text_slices texts numbers = record { texts = texts; ends = numbers }

-- the table keeps some trees, and there is room for the texts and ends of as many as a table can have
pub record TableRoom (table : Table) (memory : TableMemory) : Type 0 where
  pub kept : KeptTrees table
  pub texts_room : table_bytes ≤ length memory.texts
  pub ends_room : max_trees ≤ length memory.ends

-- the texts of the trees ts of one kind were written one after another, up to r, and the end of each, up to k
abbrev pub TextsWritten : Kind → List Topology → TableMemory → TableMemory → ℕ → ℕ → Type 0
TextsWritten kind ts memory memory' r k = Wrote (forms_as kind ts) memory.texts memory'.texts 0 r × Wrote (ends kind 0 ts) memory.ends memory'.ends 0 k

-- whatever trees the table keeps, theirs were
abbrev pub TableWritten : Table → TableMemory → TableMemory → ℕ → Type 0
TableWritten table memory memory' r = (ts : Trees) → KeepsTrees table ts → TextsWritten ts.kind ts.trees memory memory' r (length ts.trees)
