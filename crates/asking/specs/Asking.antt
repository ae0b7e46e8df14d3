-- Lists of neighbours: which numbers are marked, and what listing them leaves in lent memory.
-- Assumes nothing.
use Rattle.std.specs.Prelude.{◌≡◌, ◌↔◌, Bool, true, false, ◌⊎◌, ℕ, ◌*◌, ◌≤◌, ◌<◌, ltb, length, get_or}
use mathlib.Core.List.{List, Memᴰ}
use Rattle.meaning.specs.Limits.{max_trees, max_nodes}
use Rattle.meaning.specs.Sorted.{Sorted}
use Rattle.lent.specs.Runs.{Wrote, SameRun}
use Rattle.holdings.specs.Slots.{Slot}
use Rattle.holdings.specs.Entries.{entry_text, IsEntry, total}
use Rattle.holdings.specs.Memory.{index_bytes, IsIndex, Valid}
use Rattle.holdings.specs.Neighbours.{Neighbours}

-- the number y is marked
abbrev pub Marked : List Bool → ℕ → Type 0
Marked marks y = get_or marks y false ≡ true

-- the numbers with P were marked; those that were marked before are still
pub record Marks (P : ℕ → Type 0) (marks marks' : List Bool) : Type 0 where
  pub long : length marks' ≡ length marks
  pub each : (y : ℕ) → Marked marks' y ↔ (Marked marks y ⊎ P y)

-- the number y has an entry with the text xs
pub record Bears (hs : List Slot) (xs : List ℕ) (y : ℕ) : Type 0 where
  pub cut : ℕ
  pub is-entry : IsEntry hs (y, cut)
  pub same : entry_text hs (y, cut) ≡ xs

-- memory is an index, and x a number in it, which may be free
pub record Askable (memory : List ℕ) (x : ℕ) : Type 0 where
  pub valid : Valid memory
  pub long : index_bytes ≤ length memory
  pub inside : x < max_trees

-- memory is the index of some set, which has n entries, and there is a mark for each number
pub record TextRoom (marks : List Bool) (memory : List ℕ) (n : ℕ) : Type 0 where
  pub slots : List Slot
  pub index : IsIndex slots memory
  pub long : index_bytes ≤ length memory
  pub many : n ≡ total slots
  pub room : length marks ≡ max_trees

-- the slots of x and y have the same bytes
abbrev pub SameSlots : List ℕ → ℕ → ℕ → Type 0
SameSlots memory x y = SameRun memory (x * max_nodes) memory (y * max_nodes) max_nodes

-- y is to be listed: it is marked, and no copy of x
abbrev pub Other : List Bool → List ℕ → ℕ → ℕ → Type 0
Other marks memory x y = Marked marks y × (¬ SameSlots memory x y)

-- the numbers with P below k
abbrev pub Below : (ℕ → Type 0) → ℕ → ℕ → Type 0
Below P k y = (y < k) × P y

-- the numbers with P were written from the start of the list on, ascending, each once, and r is how many they are
pub record ListWritten (P : ℕ → Type 0) (list list' : List ℕ) (r : ℕ) : Type 0 where
  pub numbers : List ℕ
  pub ascending : Sorted ltb numbers
  pub listed : (y : ℕ) → Memᴰ y numbers ↔ P y
  pub wrote : Wrote numbers list list' 0 r

-- the neighbours of x were written so
pub record NeighboursWritten (hs : List Slot) (x : ℕ) (list list' : List ℕ) (r : ℕ) : Type 0 where
  pub numbers : List ℕ
  pub neighbours : Neighbours hs x numbers
  pub wrote : Wrote numbers list list' 0 r
