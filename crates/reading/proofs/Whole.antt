-- The ways through a whole tree: a mark, the top and `;`, and a text with exactly one tree of a kind that is taken.
-- Assumes nothing.
use mathlib.Core.Path.{◌≡◌, refl, sym, ap, ◌∙◌}
use mathlib.Core.Bool.{Bool, false, cond}
use mathlib.Core.List.{List}
use Prim.Native.Nat.{ℕ, suc, ◌+◌, ◌-◌, ◌≤◌, ◌<◌}
use native.Mathlib.Omega.{arith}
use borrow.Author.Tests.{lt-ltb, le-ltb}
use lib.Dec.{leb, ltb}
use lib.ListN.{length, replicate, length-replicate, get_or-replicate}
use Rattle.meaning.specs.Lists.{member}
use Rattle.meaning.specs.Tree.{Tree as Topology, leaf, fork, Good, least, canon}
use Rattle.meaning.specs.Kind.{Kind, rooted, unrooted, Kinded, Takes}
use Rattle.meaning.specs.Unrooted.{spin, standing}
use Rattle.meaning.specs.Reading.{Read, got, refused, and_then, skip, token, mark_at, top_at, tree_at, untaken, or_differs, read_tree}
use Rattle.meaning.proofs.Logic.{cases}
use Rattle.meaning.proofs.Sound.{top_sound, tree-behind}
use Rattle.meaning.proofs.Ways.{gives-got, unmarked}
use Rattle.held.specs.Held.{nodes, Holds, Room, hold}
use Rattle.held.specs.Kept.{kind_of, Keeps, Kept, KeepsKind}
use Rattle.held.specs.Labels.{labels_within}
use Rattle.held.specs.declared.Kind.{Kind as HeldKind}
use Rattle.held.specs.declared.Tree.{Tree}
use Rattle.held.proofs.Laws.{few-nodes}
use Rattle.tokens.specs.Draft.{too_large, draft_bytes, Draft, token_at}
use Rattle.tokens.specs.Paper.{number_of, Accepts}
use Rattle.tokens.specs.declared.Reason.{Reason}
use Rattle.reading.specs.Opening.{TopStands}
use Rattle.reading.specs.Whole.{Reads}
use Rattle.reading.specs.declared.TreeRead.{TreeRead}
use Rattle.tokens.proofs.Meet.{token-then}
use Rattle.tokens.proofs.Steps.{numbered, then-got, differs-ends, differs_none}

-- a draft of which nothing is read yet
abbrev pub blank-draft : List ℕ
blank-draft = replicate draft_bytes 0

pub draft-blank : Draft blank-draft (replicate too_large false) 0 63
unfolding labels_within member
draft-blank = record {
  size = length-replicate {A = ℕ} draft_bytes 0;
  once = tt;
  fits = omega arith;
  marked = record { size = length-replicate {A = Bool} too_large false; each = λ l h. get_or-replicate too_large l false false (omega arith) };
}

-- the tree that stands for a tree has as many nodes
spin-nodes : (up t : Topology) → nodes (spin up t) ≡ suc (nodes up + nodes t)
spin-nodes up (leaf n) = omega arith
spin-nodes up (fork a b) =
    cases (λ d. nodes (cond d (spin (fork up b) a) (spin (fork up a) b)) ≡ suc (nodes up + suc (nodes a + nodes b))) (leb (least a) (least b))
    (λ _. omega (arith, spin-nodes (fork up b) a)) (λ _. omega (arith, spin-nodes (fork up a) b))

standing-nodes : (k : Kind) (t : Topology) → nodes (standing k t) ≡ nodes t
standing-nodes rooted t = refl
standing-nodes unrooted (leaf n) = refl
standing-nodes unrooted (fork a b) =
    cases (λ d. nodes (cond d (spin b a) (spin a b)) ≡ suc (nodes a + nodes b)) (leb (least a) (least b)) (λ _. omega (arith, spin-nodes b a)) (λ _. omega (arith, spin-nodes a b))

-- ---- a mark
module _ (s : List ℕ) (p : ℕ) where
  pub tree-is : tree_at s p ≡ and_then (mark_at s p) (unmarked s)
  unfolding tree_at
  tree-is = refl

  -- it was accepted
  module _ (kind : HeldKind) {p₁ : ℕ} (M : Accepts (mark_at s p) p₁ (λ k. kind_of kind ≡ k)) where
    abbrev whole : Topology → Kinded
    whole u = record { kind = kind_of kind; tree = standing (kind_of kind) u }

    abbrev ends : Topology → ℕ → Read Kinded
    ends u q = token 59 s q (λ q'. got (whole u) q')

    pub tree-marked : tree_at s p ≡ and_then (top_at (kind_of kind) s p₁) ends
    tree-marked = tree-is ∙ then-got (unmarked s) M.is ∙ ap (λ k. unmarked s k p₁) (sym M.keeps)

    -- and the top
    module _ {node : List ℕ} {q n : ℕ} (T : Accepts (top_at (kind_of kind) s p₁) q (TopStands node n)) where
      good : Good T.value
      good = (gives-got (top_sound (kind_of kind) s p₁) T.is).good

      -- the draft holds the tree
      top-stands : Holds node 0 T.value
      top-stands = record { small = good.small; stands = T.keeps.cells }

      pub top-holds : Room nodes node 0 127
      top-holds = record { tree = T.value; holds = top-stands; room = few-nodes good }

      pub tree-ends : tree_at s p ≡ and_then (token_at 59 s q) (λ u q'. got (whole T.value) q')
      tree-ends = tree-marked ∙ then-got ends T.is ∙ token-then 59 s q (λ q'. got (whole T.value) q')

      -- and is put in canonical order
      module _ (tree : Tree) (h : (u : Topology) → Holds node 0 u → tree.node ≡ hold (canon u)) where
        ordered : Keeps tree T.value
        ordered = record { good = good; bytes = h T.value top-stands }

        pub top_kept : Kept tree
        top_kept = record { topology = T.value; keeps = ordered }

        pub tree-reads : {read : TreeRead} → read.nodes ≡ n → ((u : Topology) → Keeps tree u → KeepsKind read.tree (whole u)) → Reads read (whole T.value)
        tree-reads e k = record { keeps = k T.value ordered; count = e ∙ T.keeps.count ∙ sym (standing-nodes (kind_of kind) T.value) }

-- ---- a text with exactly one tree
module _ (takes : Takes) (s : List ℕ) where
  abbrev alone : Kinded → ℕ → Read Kinded
  alone x q = cond (ltb (skip s q) (length s)) (refused 1 (skip s q)) (got x q)

  abbrev taken : Kinded → ℕ → Read Kinded
  taken x q = or_differs (untaken takes x.kind) q (alone x q)

  pub one-is : read_tree takes s ≡ and_then (tree_at s 0) taken
  unfolding read_tree
  one-is = refl

  module _ {read : TreeRead} (R : Accepts (tree_at s 0) read.behind (Reads read)) where
    pub one_place : 1 ≤ read.behind
    one_place = (tree-behind s 0 R.value read.behind R.is).0

    -- why it is not taken
    pub one-untaken : (x : Reason) → number_of x ≡ untaken takes (kind_of read.tree.kind) → read_tree takes s ≡ refused (number_of x) (read.behind - 1)
    one-untaken x e =
        let line : untaken takes R.value.kind ≡ number_of x = sym (e ∙ ap (untaken takes) R.keeps.keeps.kind) in
        one-is ∙ then-got taken R.is ∙ rw line (differs-ends (number_of x) read.behind (alone R.value read.behind) (numbered x))

    -- it is taken
    module _ (e : 0 ≡ untaken takes (kind_of read.tree.kind)) {end : ℕ} (g : end ≡ skip s read.behind) where
      one-taken : read_tree takes s ≡ alone R.value read.behind
      one-taken = one-is ∙ then-got taken R.is ∙ differs_none (untaken takes R.value.kind) read.behind (alone R.value read.behind) (sym (e ∙ ap (untaken takes) R.keeps.keeps.kind))

      pub one_more : end < length s → read_tree takes s ≡ refused 1 end
      one_more l = rw g (one-taken ∙ rw (lt-ltb (skip s read.behind) (length s) (omega arith)))

      pub one-done : length s ≤ end → read_tree takes s ≡ got R.value read.behind
      one-done l = one-taken ∙ rw (le-ltb (skip s read.behind) (length s) (omega arith))
