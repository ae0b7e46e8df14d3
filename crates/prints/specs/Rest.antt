-- Prints of what is left of a held tree without each of its nodes: what the walk over its forks asks and leaves.
-- Assumes nothing.
use Rattle.std.specs.Prelude.{◌≡◌, List, ℕ, ◌+◌, ◌-◌, ◌≤◌, ◌<◌, length, get_or}
use Rattle.meaning.specs.Limits.{max_nodes}
use Rattle.meaning.specs.Tree.{Tree}
use Rattle.meaning.specs.Clade.{clade}
use Rattle.held.specs.Held.{nodes}
use Rattle.clades.specs.Marks.{Marks}
use Rattle.pairs.specs.Left.{left}
use Rattle.prints.specs.Print.{max_print, spread, print}

-- g p was added to each number p of rest behind `from` and before `to`, which left rest'
pub record Added (g : ℕ → ℕ) (from to : ℕ) (rest rest' : List ℕ) : Type 0 where
  pub own : (p : ℕ) → from < p → p < to → get_or rest' p 0 ≡ get_or rest p 0 + g p
  pub others : (p : ℕ) → (from < p → p < to → ⊥) → get_or rest' p 0 ≡ get_or rest p 0
  pub long : length rest' ≡ length rest

-- what a fork of clade `whole`, whose other child has the print `beside`, has in the print without the node p below its child
abbrev pub share : List ℕ → ℕ → ℕ → ℕ → ℕ
share m whole beside p = spread (whole - get_or m p 0) + beside

-- the child at `from` has its nodes before `to`, and what they get fits
pub record PassRoom (m rest : List ℕ) (whole beside from to : ℕ) : Type 0 where
  pub some : from < to
  pub room : to ≤ max_nodes
  pub long : max_nodes ≤ length rest
  pub smaller : (p : ℕ) → from < p → p < to → get_or m p 0 ≤ whole
  pub child_fits : get_or rest from 0 + beside ≤ max_print
  pub below_fits : (p : ℕ) → from < p → p < to → get_or rest p 0 + share m whole beside p ≤ max_print

-- they got it, which left rest'
pub record Passed (m rest rest' : List ℕ) (whole beside from to : ℕ) : Type 0 where
  pub child : get_or rest' from 0 ≡ get_or rest from 0 + beside
  pub below : (p : ℕ) → from < p → p < to → get_or rest' p 0 ≡ get_or rest p 0 + share m whole beside p
  pub others : (p : ℕ) → (from ≤ p → p < to → ⊥) → get_or rest' p 0 ≡ get_or rest p 0
  pub long : length rest' ≡ length rest

-- m and f have the clades and the prints of the nodes of the tree at k, and what the nodes below k get fits
pub record RestRoom (tree : Tree) (xs m f rest : List ℕ) (k : ℕ) : Type 0 where
  pub room : k + nodes tree ≤ max_nodes
  pub clades : Marks clade xs m k (k + nodes tree)
  pub prints : Marks print xs f k (k + nodes tree)
  pub long : max_nodes ≤ length rest
  pub fits : (p : ℕ) → k < p → p < k + nodes tree → get_or rest p 0 + print (left p k tree) ≤ max_print

-- each node below k, where t stands, got the print of what is left of t without it
abbrev pub RestNoted : Tree → ℕ → List ℕ → List ℕ → Type 0
RestNoted t k rest rest' = Added (λ p. print (left p k t)) k (k + nodes t) rest rest'
