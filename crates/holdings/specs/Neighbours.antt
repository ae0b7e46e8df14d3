-- Lists of neighbours: what asking the index gives, and what the graph call's pairs give for one position. In words: docs/RULES.md, 'The index'.
-- Assumes nothing.
use Rattle.std.specs.Prelude.{◌≡◌, ◌↔◌, ◌≢◌, Bool, not, ◌&&◌, ℕ, ltb, eqb}
use mathlib.Core.List.{List, Memᴰ}
use Rattle.meaning.specs.Lists.{positions}
use Rattle.meaning.specs.Sorted.{Sorted, keep}
use Rattle.meaning.specs.Tree.{Tree}
use Rattle.meaning.specs.Move.{Apart, Shares}
use Rattle.meaning.specs.Listing.{Pair, paired}
use Rattle.holdings.specs.Slots.{Slot, held, slot_at}
use Rattle.holdings.specs.Entries.{entry_text, IsEntry}

-- x and y have trees that are one move apart
pub data Linked (hs : List Slot) (x y : ℕ) : Type 0 where
  linked : {t u : Tree} → slot_at hs x ≡ held t → slot_at hs y ≡ held u → Apart t u → Linked hs x y

-- ys lists the neighbours of x: ascending, each once
pub record Neighbours (hs : List Slot) (x : ℕ) (ys : List ℕ) : Type 0 where
  pub ascending : Sorted ltb ys
  pub listed : (y : ℕ) → Memᴰ y ys ↔ Linked hs x y

-- x and y have an entry each with the same forest text
abbrev pub Met : List Slot → ℕ → ℕ → Type 0
Met hs x y = Shares (λ (c : ℕ). IsEntry hs (x, c)) (λ (d : ℕ). IsEntry hs (y, d)) (λ c d. entry_text hs (x, c) ≡ entry_text hs (y, d))

-- what the search finds: they meet, and have different trees
abbrev pub Meet : List Slot → ℕ → ℕ → Type 0
Meet hs x y = (slot_at hs x ≢ slot_at hs y) × Met hs x y

-- j is another position than i, and stands in a listed pair with it
abbrev pub partner : List Pair → ℕ → ℕ → Bool
partner ps i j = not (eqb i j) && paired ps i j

-- of the k positions of a graph call that lists the pairs ps those that are so, ascending
abbrev pub partners : ℕ → List Pair → ℕ → List ℕ
partners k ps i = keep (partner ps i) (positions k)
