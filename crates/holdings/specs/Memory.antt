-- The index in lent memory: a slot of 127 bytes for each of the 160 numbers, then two bytes for each entry, tree and cut, then zeros; 60,640 bytes. In words: docs/RULES.md, 'The index'.
-- Assumes nothing.
use Rattle.std.specs.Prelude.{◌≡◌, List, [], ◌∷◌, ◌++◌, ℕ, suc, ◌+◌, ◌*◌, ◌-◌, ◌≤◌, ◌<◌, T, length, take, drop, get_or, replicate}
use Rattle.meaning.specs.Limits.{max_trees, max_nodes}
use Rattle.meaning.specs.Listing.{Pair, flat}
use Rattle.held.specs.Held.{hold}
use Rattle.holdings.specs.Slots.{Slot, free, held, slot_at, HeldTrees}
use Rattle.holdings.specs.Entries.{entry_text, IsEntry, total, earlier, entries}

-- where the entries begin: behind the slots
abbrev pub entries_at : ℕ
entries_at = max_trees * max_nodes

-- bytes for entries: a tree has a cut for each node but its root
abbrev pub entry_bytes : ℕ
entry_bytes = 2 * (max_trees * (max_nodes - 1))

-- bytes of an index
abbrev pub index_bytes : ℕ
index_bytes = entries_at + entry_bytes

-- the held tree, or zeros
abbrev pub slot_bytes : Slot → List ℕ
slot_bytes free = replicate max_nodes 0
slot_bytes (held t) = hold t

-- the slots one after another
unfoldable pub slots_bytes : List Slot → List ℕ
slots_bytes [] = []
slots_bytes (h ∷ hs) = slot_bytes h ++ slots_bytes hs

-- slots, entries and zeros behind them
unfoldable pub laid : List Slot → List Pair → List ℕ
laid hs es = slots_bytes hs ++ (flat es ++ replicate (entry_bytes - 2 * length es) 0)

-- the memory of a set of held trees
abbrev pub encode : List Slot → List ℕ
encode hs = laid hs (entries hs)

-- lent memory is that of the set hs; what lies behind 60,640 bytes is free
pub record IsIndex (hs : List Slot) (memory : List ℕ) : Type 0 where
  pub trees : HeldTrees hs
  pub bytes : take index_bytes memory ≡ encode hs

-- it is that of some set of held trees
pub record Valid (memory : List ℕ) : Type 0 where
  pub slots : List Slot
  pub index : IsIndex slots memory

-- slot x as it stands in memory
abbrev pub slot_in : List ℕ → ℕ → List ℕ
slot_in memory x = take max_nodes (drop (x * max_nodes) memory)

-- entry k as it stands in memory
abbrev pub entry_in : List ℕ → ℕ → Pair
entry_in memory k = (get_or memory (entries_at + 2 * k) 0, get_or memory (entries_at + 2 * k + 1) 0)

-- the slots in memory are those of the set hs
pub record Shelved (hs : List Slot) (memory : List ℕ) : Type 0 where
  pub long : index_bytes ≤ length memory
  pub trees : HeldTrees hs
  pub stand : (x : ℕ) → x < max_trees → slot_in memory x ≡ slot_bytes (slot_at hs x)

-- they are those of some set
pub record Shelves (memory : List ℕ) : Type 0 where
  pub slots : List Slot
  pub shelved : Shelved slots memory

-- each of the first n entries in memory is a cut of a held tree, and stands before the next
pub record Ranked (hs : List Slot) (memory : List ℕ) (n : ℕ) : Type 0 where
  pub each : (k : ℕ) → k < n → IsEntry hs (entry_in memory k)
  pub rise : (k : ℕ) → suc k < n → T (earlier (entry_text hs) (entry_in memory k) (entry_in memory (suc k)))

-- what loops can see: the slots; as many entries in order as there are cuts; zeros behind them
pub record Checked (hs : List Slot) (memory : List ℕ) : Type 0 where
  pub shelved : Shelved hs memory
  pub ranked : Ranked hs memory (total hs)
  pub zeros : (k : ℕ) → entries_at + 2 * total hs ≤ k → k < index_bytes → get_or memory k 0 ≡ 0
