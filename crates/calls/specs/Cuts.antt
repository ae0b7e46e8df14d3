-- What the cut call asks of its part, and what it leaves.
-- Assumes nothing.
use Rattle.std.specs.Prelude.{◌≡◌, List, ℕ, ◌≤◌}
use Rattle.meaning.specs.Limits.{forest_bytes}
use Rattle.meaning.specs.Tree.{Tree as Topology}
use Rattle.meaning.specs.Move.{cut_at, forest}
use Rattle.meaning.specs.Answer.{Outcome, text_of, conclude}
use Rattle.meaning.specs.Calls.{has_cut}
use Rattle.held.specs.Held.{nodes}
use Rattle.held.specs.Kept.{Keeps}
use Rattle.held.specs.declared.Tree.{Tree}

-- the record keeps a tree of so many nodes, and there is room for any forest text
pub record CutRoom (tree : Tree) (count len : ℕ) : Type 0 where
  pub topology : Topology
  pub keeps : Keeps tree topology
  pub size : count ≡ nodes topology
  pub room : forest_bytes ≤ len

-- what the cut call leaves of the tree t
abbrev pub cut_text : Topology → ℕ → List ℕ → Outcome ℕ (List ℕ)
cut_text t c out = conclude (has_cut c t) out λ u. text_of (forest (cut_at u c)) out
