-- A test that each two first positions are put to, where they are not linked yet.
-- Assumes nothing.
use Rattle.std.specs.Prelude.{◌≡◌, ◌⊎◌, Bool, true, false, List, ℕ, ◌<◌, get_or}
use Rattle.held.specs.Kept.{held_at}
use Rattle.held.specs.declared.Table.{Table}
use Rattle.held.specs.declared.Tree.{Tree as Record}
use Rattle.sharing.specs.Links.{is_linked}

-- i is the first position of its topology
abbrev pub IsFirst : List ℕ → ℕ → Type 0
IsFirst firsts i = get_or firsts i 0 ≡ i

-- v says whether i and j were linked, or are first positions whose trees pass a test of these answers
pub record Flag (Answers : Record → Record → Bool → Type 0) (table : Table) (firsts : List ℕ) (links : List (List Bool)) (i j : ℕ) (v : Bool) : Type 0 where
  pub linked : v ≡ true → (is_linked links i j ≡ true) ⊎ (IsFirst firsts i × IsFirst firsts j × Answers (held_at table i) (held_at table j) true)
  pub others : v ≡ false → (is_linked links i j ≡ false) × (IsFirst firsts i → IsFirst firsts j → Answers (held_at table i) (held_at table j) false)

-- each flag of two of the table's positions says so
abbrev pub Tested : (Record → Record → Bool → Type 0) → Table → List ℕ → List (List Bool) → List (List Bool) → Type 0
Tested Answers table firsts links links' = (i j : ℕ) → i < j → j < table.len → Flag Answers table firsts links i j (is_linked links' i j)
