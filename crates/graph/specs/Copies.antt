-- The graph with copies merged or kept apart: what writing it asks, and what it leaves.
-- Assumes nothing.
use Rattle.std.specs.Prelude.{List, ℕ, ◌≤◌, length}
use Rattle.meaning.specs.Limits.{max_trees}
use Rattle.meaning.specs.Tree.{Tree as Topology}
use Rattle.meaning.specs.Kind.{Kind, rooted, unrooted, Trees}
use Rattle.meaning.specs.EitherKind.{ApartAs}
use Rattle.meaning.specs.Copies.{firsts_of, LinkedBy}
use Rattle.meaning.specs.Answer.{GraphMemory}
use Rattle.lent.specs.Runs.{Wrote}
use Rattle.held.specs.Kept.{KeptAll, KeepsTrees, KeptTrees}
use Rattle.held.specs.declared.Table.{Table}
use Rattle.links.specs.Link.{Linked}
use Rattle.links.specs.declared.Link.{Link}
use Rattle.links.specs.declared.Link.TheVariants.{Move, UnrootedMove}
use Rattle.sharing.specs.Links.{OfTrees}
use Rattle.links.specs.Copies.{choice_of}
use Rattle.links.specs.declared.Copies.{Copies}
use Rattle.graph.specs.Graph.{ListRoom, Graph}

-- the table keeps some trees, and there is room for the pairs, counts and firsts of as many as a table can have
pub record GraphRoom (table : Table) (memory : GraphMemory) (firsts : List ℕ) : Type 0 where
  pub kept : KeptAll table
  pub room : ListRoom memory
  pub firsts-room : max_trees ≤ length firsts

-- the same, where the trees are of one kind
pub record MovesRoom (table : Table) (memory : GraphMemory) (firsts : List ℕ) : Type 0 where
  pub kept : KeptTrees table
  pub room : ListRoom memory
  pub firsts-room : max_trees ≤ length firsts

-- the graph of the trees ts that R links was written, with copies so chosen, and the first position of each topology
pub record FirstsGraph (R : Topology → Topology → Type 0) (copies : Copies) (ts : List Topology) (memory memory' : GraphMemory) (firsts firsts' : List ℕ) (r : ℕ) : Type 0 where
  pub graph : Graph (length ts) (LinkedBy (choice_of copies) R ts) memory memory' r
  pub in_firsts : Wrote (firsts_of ts) firsts firsts' 0 (length ts)

-- so of whatever trees the table keeps
abbrev pub GraphWritten : Link → Copies → Table → GraphMemory → GraphMemory → List ℕ → List ℕ → ℕ → Type 0
GraphWritten by copies table memory memory' firsts firsts' r = OfTrees table (λ ts. FirstsGraph (Linked by) copies ts memory memory' firsts firsts' r)

-- what links trees of this kind that are one move apart
abbrev pub move_of : Kind → Link
move_of rooted = Move
move_of unrooted = UnrootedMove

-- P is so of whatever trees of one kind the table keeps
abbrev pub OfOneKind : Table → (Trees → Type 0) → Type 0
OfOneKind table P = (ts : Trees) → KeepsTrees table ts → P ts

-- the graph of those that are one move apart, each by the move of their kind
abbrev pub MovesWritten : Copies → Table → GraphMemory → GraphMemory → List ℕ → List ℕ → ℕ → Type 0
MovesWritten copies table memory memory' firsts firsts' r = OfOneKind table (λ ts. FirstsGraph (ApartAs ts.kind) copies ts.trees memory memory' firsts firsts' r)
