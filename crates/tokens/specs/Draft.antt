-- A tree while it is read: its nodes in preorder in lent bytes, and marks of its labels; and what reading a node and a token answers.
-- Assumes nothing.
use Rattle.std.specs.Prelude.{◌≡◌, Bool, false, List, ◌++◌, ℕ, ◌+◌, ◌*◌, ◌≤◌, length, take, get_or, Result, ⊤}
use Rattle.std.proofs.lemmas.List.Edits.{sets}
use Rattle.meaning.specs.Limits.{max_label, max_open}
use Rattle.meaning.specs.Lists.{member, NoDup}
use Rattle.meaning.specs.Tree.{Tree, labels}
use Rattle.meaning.specs.Reading.{Read, got, token}
use Rattle.held.specs.Held.{nodes, pre}
use Rattle.held.specs.Labels.{labels_within}
use Rattle.tokens.specs.Paper.{ReadsAs}
use Rattle.tokens.specs.declared.Refusal.{Refusal}
use Rattle.tokens.specs.declared.Step.{Step}

-- the labels read so far, where the next node stands at `at`
abbrev pub seen : List ℕ → ℕ → List ℕ
seen node at = labels_within (take at node)

-- one above the largest label: no larger value has to be told apart
abbrev pub too_large : ℕ
too_large = max_label + 1

-- nodes of a text that may yet be refused: labels, as many forks that are closed, and forks that are open
abbrev pub draft_bytes : ℕ
draft_bytes = 2 * max_label + max_open

-- of each label its mark tells whether it is one of ls
pub record Tells (marks : List Bool) (ls : List ℕ) : Type 0 where
  pub size : length marks ≡ too_large
  pub each : (l : ℕ) → l ≤ max_label → get_or marks l false ≡ member l ls

-- a draft that a node can be read into at `at`, while `room` more brackets may open: none of its labels occurs
-- twice, the marks tell them, and each of its nodes is a label, a closed fork, as many as the labels at most, or an open fork
pub record Draft (node : List ℕ) (marks : List Bool) (at room : ℕ) : Type 0 where
  pub size : length node ≡ draft_bytes
  pub once : NoDup (seen node at)
  pub fits : at + room ≤ 2 * length (seen node at) + max_open
  pub marked : Tells marks (seen node at)

-- the node t is written over the draft from `at` on, `next` is the node behind it, and the marks tell its labels too
pub record Written (node node' : List ℕ) (marks' : List Bool) (at next : ℕ) (t : Tree) : Type 0 where
  pub cells : node' ≡ sets node at (pre t)
  pub count : next ≡ at + nodes t
  pub marked : Tells marks' (seen node at ++ labels t)

-- an accepted node is written over the draft, and reading goes on behind it; a refusal is the answer
abbrev pub NodeMeets : List ℕ → List ℕ → List Bool → ℕ → Read Tree → Result Step Refusal → Type 0
NodeMeets node node' marks' at g r = ReadsAs g (λ step. step.behind) (λ step. Written node node' marks' at step.nodes) r

-- the token b alone, behind blanks
abbrev pub token_at : ℕ → List ℕ → ℕ → Read (Unit {0})
token_at b s p = token b s p (λ q. got tt q)

-- nothing is kept of a token: the answer is the place behind it
abbrev pub TokenMeets : Read (Unit {0}) → Result ℕ Refusal → Type 0
TokenMeets g r = ReadsAs g (λ p. p) (λ p u. ⊤) r
