-- What reading the top of a tree answers, and an unrooted top whose first two nodes are read.
-- Assumes nothing.
use Rattle.std.specs.Prelude.{◌≡◌, Bool, List, ◌++◌, ℕ, ◌+◌, ◌-◌, set, Result}
use Rattle.std.proofs.lemmas.List.Edits.{sets}
use Rattle.meaning.specs.Limits.{max_open}
use Rattle.meaning.specs.Tree.{Tree, labels}
use Rattle.meaning.specs.Reading.{Read}
use Rattle.lent.specs.Runs.{Stands}
use Rattle.held.specs.Held.{nodes, pre}
use Rattle.tokens.specs.Draft.{seen, Draft}
use Rattle.tokens.specs.Paper.{ReadsAs}
use Rattle.tokens.specs.declared.Refusal.{Refusal}
use Rattle.tokens.specs.declared.Step.{Step}

-- the top t stands at the draft's start, and has so many nodes
pub record TopStands (node' : List ℕ) (total : ℕ) (t : Tree) : Type 0 where
  pub cells : Stands node' 0 (pre t)
  pub count : total ≡ nodes t

-- an accepted top stands so, and reading goes on behind it; a refusal is the answer
abbrev pub TopMeets : List ℕ → Read Tree → Result Step Refusal → Type 0
TopMeets node' g r = ReadsAs g (λ step. step.behind) (λ step. TopStands node' step.nodes) r

-- behind its bracket the nodes a and b of a top are read into a draft: the fork of both is open, and so is, at `half`, that of
-- b and a third node
pub record Halves (node : List ℕ) (marks : List Bool) (half end : ℕ) (a b : Tree) : Type 0 where
  pub start : List ℕ
  pub cells : node ≡ sets (set (sets (set start 0 0) 1 (pre a)) half 0) (half + 1) (pre b)
  pub middle : half ≡ 1 + nodes a
  pub behind : end ≡ half + 1 + nodes b
  pub told : seen node end ≡ labels a ++ labels b
  pub draft : Draft node marks end (max_open - 1)

-- two nodes are so read
pub record HasHalves (node : List ℕ) (marks : List Bool) (half end : ℕ) : Type 0 where
  pub first : Tree
  pub second : Tree
  pub halves : Halves node marks half end first second
