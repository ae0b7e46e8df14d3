-- What a program prints for a text: what it prints for the text's trees, or a refusal, and nothing behind that is changed.
-- Assumes nothing.
use Rattle.std.specs.Prelude.{◌≡◌, List, ℕ, ◌≤◌, length}
use Rattle.meaning.specs.Kind.{Trees}
use Rattle.meaning.specs.Answer.{written}
use Rattle.meaning.specs.Sheet.{Printout}
use Rattle.lent.specs.Runs.{Wrote}
use Rattle.held.specs.Kept.{KeepsTrees, KeptTrees}
use Rattle.held.specs.declared.Table.{Table}

-- the table keeps some trees, and there is room for as many bytes as are printed for any
pub record TableFits (table : Table) (most len : ℕ) : Type 0 where
  pub kept : KeptTrees table
  pub room : most ≤ len

-- what is printed for the trees ts was written over out from its start on, which left out'
pub record Shown (Prints : Trees → List ℕ → Type 0) (ts : Trees) (out out' : List ℕ) (r : ℕ) : Type 0 where
  pub bytes : List ℕ
  pub shows : Prints ts bytes
  pub wrote : Wrote bytes out out' 0 r

-- so for whatever trees the table keeps
abbrev pub ShownAll : (Trees → List ℕ → Type 0) → Table → List ℕ → List ℕ → ℕ → Type 0
ShownAll Prints table out out' r = (ts : Trees) → KeepsTrees table ts → Shown Prints ts out out' r

-- r bytes are what is printed for the text s, and they were written over out from its start on, which left out'
pub record Printed (Prints : Trees → List ℕ → Type 0) (s out out' : List ℕ) (r : ℕ) : Type 0 where
  pub bytes : List ℕ
  pub prints : Printout Prints s bytes
  pub many : r ≡ length bytes
  pub room : r ≤ length out'
  pub memory : out' ≡ written bytes out
