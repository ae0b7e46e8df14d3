-- What the check of a slot asks: whether its bytes hold a tree in canonical order and zeros behind it, and which labels the tree has.
-- Assumes nothing.
use Rattle.std.specs.Prelude.{◌≡◌, cond, List, ℕ, ◌+◌, ◌-◌, ◌<◌, T, leb, eqb, Option, Some, None, MatchOption}
use Rattle.meaning.specs.Limits.{max_label}
use Rattle.meaning.specs.Tree.{Tree, Good, Canonical}
use Rattle.meaning.specs.Clade.{lowest, disjoint, clade}
use Rattle.held.specs.Held.{Holds, hold}

-- the leaves that a byte claims: a fork's, or one; none for 0
abbrev pub claim : ℕ → ℕ
claim b = cond (eqb b 0) 0 (cond (leb b max_label) 1 (b - max_label))

-- that many, or none
abbrev pub Claims : ℕ → Option ℕ → Type 0
Claims b r = MatchOption r (claim b ≡ 0) (λ n. (0 < n) × (n ≡ claim b))

-- the clades x and y can be those of a fork's children, in this order
pub record Fits (x y : ℕ) : Type 0 where
  pub some_first : 0 < x
  pub some_second : 0 < y
  pub apart : T (disjoint x y)
  pub smaller : lowest x < lowest y

-- the clade of that fork, or none where they can't
pub data Joined (x y : ℕ) : Option ℕ → Type 0 where
  joins : Fits x y → Joined x y (Some (x + y))
  unfit : ¬ Fits x y → Joined x y None

-- xs holds from k on a good tree in canonical order, of which l is the clade
pub record InOrder (xs : List ℕ) (k l : ℕ) : Type 0 where
  pub tree : Tree
  pub holds : Holds xs k tree
  pub good : Good tree
  pub canonical : Canonical tree
  pub labels : clade tree ≡ l

-- what P is so of, or none where it is so of nothing
pub data Tells (P : ℕ → Type 0) : Option ℕ → Type 0 where
  tells : {r : ℕ} → P r → Tells P (Some r)
  none : ((l : ℕ) → P l → ⊥) → Tells P None

-- xs are the bytes of a slot with a tree, of which l is the clade
pub record Full (xs : List ℕ) (l : ℕ) : Type 0 where
  pub tree : Tree
  pub good : Good tree
  pub canonical : Canonical tree
  pub bytes : xs ≡ hold tree
  pub labels : clade tree ≡ l
