-- What reading a table answers: its trees, kept, or why reading ends.
-- Assumes nothing.
use Rattle.std.specs.Prelude.{List, ℕ, length, Result}
use Rattle.meaning.specs.Kind.{Kinded, as_trees}
use Rattle.meaning.specs.Reading.{Read}
use Rattle.held.specs.Kept.{KeepsTrees}
use Rattle.held.specs.declared.Table.{Table}
use Rattle.tokens.specs.Paper.{ReadsAs}
use Rattle.tokens.specs.declared.Refusal.{Refusal}

-- a table is read to the end of the text s
abbrev pub TableMeets : List ℕ → Read (List Kinded) → Result Table Refusal → Type 0
TableMeets s g r = ReadsAs g (λ table. length s) (λ table xs. KeepsTrees table (as_trees xs)) r
