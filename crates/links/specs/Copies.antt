-- Copies merged or kept apart: what linking positions asks of the first positions, and what it leaves.
-- Assumes nothing.
use Rattle.std.specs.Prelude.{◌⊎◌, cond, Bool, false, List, ℕ, min, max, ◌≤◌, ◌<◌, eqb, length, get_or}
use Rattle.meaning.specs.Limits.{max_trees}
use Rattle.meaning.specs.Tree.{Tree as Topology}
use Rattle.meaning.specs.Copies.{Choice, merged, kept_apart, LinkedBy}
use Rattle.held.specs.Kept.{KeptAll}
use Rattle.held.specs.declared.Table.{Table}
use Rattle.sharing.specs.Firsts.{FirstsNoted}
use Rattle.sharing.specs.Links.{Square, is_linked, LinkedIn, Shows, OfTrees}
use Rattle.links.specs.Link.{Linked}
use Rattle.links.specs.declared.Link.{Link}
use Rattle.links.specs.declared.Copies.{Copies}
use Rattle.links.specs.declared.Copies.TheVariants.{Merged, KeptApart}

-- the choice in document 02's words
abbrev pub choice_of : Copies → Choice
choice_of Merged = merged
choice_of KeptApart = kept_apart

-- the table keeps some trees, whose firsts are noted, and there is a flag for each two positions
pub record FirstsRoom (table : Table) (firsts : List ℕ) (links : List (List Bool)) : Type 0 where
  pub kept : KeptAll table
  pub noted : FirstsNoted table firsts
  pub lent : max_trees ≤ length firsts
  pub square : Square links

-- the flags show which first positions are so linked
abbrev pub FirstsLinked : Link → Table → List (List Bool) → Type 0
FirstsLinked by table links = OfTrees table (λ ts. Shows links (length ts) (LinkedBy merged (Linked by) ts))

-- linked are the positions that were, and the first positions whose trees R links
abbrev pub TriedLinked : (Topology → Topology → Type 0) → Table → List (List Bool) → List (List Bool) → Type 0
TriedLinked R table links links' = OfTrees table (λ ts. Shows links' (length ts) (λ i j. LinkedIn links i j ⊎ LinkedBy merged R ts i j))

-- the flags show which positions are so linked, with copies so chosen
abbrev pub TreesLinked : Link → Copies → Table → List (List Bool) → Type 0
TreesLinked by copies table links = OfTrees table (λ ts. Shows links (length ts) (LinkedBy (choice_of copies) (Linked by) ts))

-- the flag of two positions whose firsts are a and b; of copies it is not set
abbrev pub link_of : List (List Bool) → ℕ → ℕ → Bool
link_of links a b = cond (eqb a b) false (is_linked links (min a b) (max a b))

-- the firsts of n positions are positions that a table can have, and there is a flag for each two
pub record CopyRoom (firsts : List ℕ) (n : ℕ) (links : List (List Bool)) : Type 0 where
  pub few : n ≤ max_trees
  pub lent : n ≤ length firsts
  pub below : (i : ℕ) → i < n → get_or firsts i 0 < max_trees
  pub square : Square links
