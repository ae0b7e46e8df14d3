-- Runs in preorder: how long they are, and what stands at a node and at its children.
-- Assumes nothing.
use mathlib.Core.Path.{◌≡◌, refl, ap, ap₂, ◌∙◌}
use mathlib.Core.List.{List, ◌++◌, append_assoc}
use Prim.Native.Nat.{ℕ, suc, ◌+◌, ◌<◌}
use lib.ListN.{length, drop, get_or, length-append}
use Rattle.meaning.specs.Tree.{Tree, leaf, fork}
use Rattle.lent.specs.Runs.{Stands}
use Rattle.lent.proofs.Runs.{head-is, head_in, next-is, drop-run}
use Rattle.held.specs.Held.{nodes, preorder}

module _ {A : Type 0} (f : Tree → A) where
  pub length-preorder : (t : Tree) → length (preorder f t) ≡ nodes t
  length-preorder (leaf l) = refl
  length-preorder (fork a b) = ap suc (length-append (preorder f a) (preorder f b) ∙ ap₂ ◌+◌ (length-preorder a) (length-preorder b))

  -- at a node stands what is its own
  pub own_is : (d : A) (xs : List A) (k : ℕ) (t : Tree) → Stands xs k (preorder f t) → get_or xs k d ≡ f t
  own_is d xs k (leaf l) s = head-is xs k (f (leaf l)) s.0 s.1 d
  own_is d xs k (fork a b) s = head-is xs k (f (fork a b)) ((preorder f a ++ preorder f b) ++ s.0) s.1 d

  pub own_in : (xs : List A) (k : ℕ) (t : Tree) → Stands xs k (preorder f t) → k < length xs
  own_in xs k (leaf l) s = head_in xs k (f (leaf l)) s.0 s.1
  own_in xs k (fork a b) s = head_in xs k (f (fork a b)) ((preorder f a ++ preorder f b) ++ s.0) s.1

  -- behind it stand its children's
  module _ (xs : List A) (k : ℕ) (a b : Tree) (s : Stands xs k (preorder f (fork a b))) where
    children-next : drop (k + 1) xs ≡ preorder f a ++ (preorder f b ++ s.0)
    children-next = next-is xs k (f (fork a b)) ((preorder f a ++ preorder f b) ++ s.0) s.1 ∙ append_assoc (preorder f a) (preorder f b) s.0

    pub first-stands : Stands xs (k + 1) (preorder f a)
    first-stands = (preorder f b ++ s.0, children-next)

    pub second-stands : Stands xs (k + 1 + nodes a) (preorder f b)
    second-stands = (s.0, rw length-preorder at (drop-run xs (k + 1) (preorder f a) (preorder f b ++ s.0) children-next))
