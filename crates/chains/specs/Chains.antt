-- Entries by their keys: the last one before an entry of which something is so, and chains of those in one slot.
-- Assumes nothing.
use Rattle.std.specs.Prelude.{◌≡◌, List, ℕ, ◌+◌, ◌*◌, ◌%◌, ◌≤◌, ◌<◌, get_or}
use Rattle.meaning.specs.Limits.{max_nodes, max_trees}

-- entries of a tree, and of a table
abbrev pub row_entries : ℕ
row_entries = max_nodes + 1

abbrev pub entries : ℕ
entries = max_trees * row_entries

-- how many slots keys are told apart by
abbrev pub slots : ℕ
slots = 16384

-- r is the last entry before e of which P is so, or 0 where there is none
pub record Last (P : ℕ → Type 0) (e r : ℕ) : Type 0 where
  pub is : 0 < r → (r < e) × P r
  pub none : (q : ℕ) → r < q → q < e → P q → ⊥

-- entry q has the key k
abbrev pub HasKey : List ℕ → ℕ → ℕ → Type 0
HasKey keys k q = get_or keys q 0 ≡ k

-- its key is in the slot s
abbrev pub InSlot : List ℕ → ℕ → ℕ → Type 0
InSlot keys s q = get_or keys q 0 % slots ≡ s

-- beside each entry before `end` is the last one before it with the same key
abbrev pub Found : List ℕ → List ℕ → ℕ → Type 0
Found keys same end = (e : ℕ) → 0 < e → e < end → Last (HasKey keys (get_or keys e 0)) e (get_or same e 0)

-- beside each is the last one before it in the same slot
abbrev pub Chained : List ℕ → List ℕ → ℕ → Type 0
Chained keys next end = (e : ℕ) → 0 < e → e < end → Last (InSlot keys (get_or keys e 0 % slots)) e (get_or next e 0)

-- entries before `end` are so chained, and `from` is the last of them in k's slot
pub record Findable (keys next : List ℕ) (from k : ℕ) : Type 0 where
  pub end : ℕ
  pub few : end ≤ entries
  pub chained : Chained keys next end
  pub last : Last (InSlot keys (k % slots)) end from
