-- One flag of the links, set.
-- Assumes nothing.
use Rattle.std.proofs.Common.{◌≡◌, refl, Bool, false, List, [], ℕ, zero, suc, ◌<◌, length, get_or, set, replicate, arith}
use Rattle.std.proofs.Math.ListN.{length-set, length-replicate}
use Rattle.std.proofs.lemmas.List.{get_or-replicate}
use Rattle.std.proofs.Math.Seq.{get_or-set_same, get_or-set_other}
use native.Mathlib.Decide.{ℕ_discrete}
use Rattle.meaning.specs.Limits.{max_trees}
use Rattle.sharing.specs.Links.{Square, is_linked, NoneLinked}

-- the flag of row i and column j is v
abbrev pub put : List (List Bool) → ℕ → ℕ → Bool → List (List Bool)
put links i j v = set links i (set (get_or links i []) j v)

module _ (links : List (List Bool)) (i j : ℕ) (v : Bool) (S : Square links) (row : i < max_trees) (column : j < max_trees) where
  here : get_or (put links i j v) i [] ≡ set (get_or links i []) j v
  here = get_or-set_same links i (set (get_or links i []) j v) [] (omega (arith, S.rows))

  there : (a : ℕ) → (a ≡ i → ⊥) → get_or (put links i j v) a [] ≡ get_or links a []
  there a n = get_or-set_other links i a (set (get_or links i []) j v) [] n

  pub put-square : Square (put links i j v)
  put-square = record { rows = simp length-set S.rows; columns = λ a h. by a h (ℕ_discrete a i) }
    where
      by : (a : ℕ) → a < max_trees → Dec (a ≡ i) → length (get_or (put links i j v) a []) ≡ max_trees
      by a h (yes e) = rw (e, here) (simp length-set (S.columns i row))
      by a h (no n) = rw (there a n) (S.columns a h)

  pub put-here : is_linked (put links i j v) i j ≡ v
  put-here = rw here (get_or-set_same (get_or links i []) j v false (omega (arith, S.columns i row)))

  pub put-other : (a b : ℕ) → (a ≡ i → b ≡ j → ⊥) → is_linked (put links i j v) a b ≡ is_linked links a b
  put-other a b n = by (ℕ_discrete a i)
    where
      by : Dec (a ≡ i) → is_linked (put links i j v) a b ≡ is_linked links a b
      by (yes e) = rw (e, here) (get_or-set_other (get_or links i []) j b v false (n e))
      by (no m) = rw (there a m)

-- no flag is set
row-unset : (m j : ℕ) → get_or (replicate m false) j false ≡ false
row-unset zero j = refl
row-unset (suc m) zero = refl
row-unset (suc m) (suc j) = row-unset m j

unset : (n m i j : ℕ) → is_linked (replicate n (replicate m false)) i j ≡ false
unset zero m i j = refl
unset (suc n) m zero j = row-unset m j
unset (suc n) m (suc i) j = unset n m i j

pub none-square : Square (replicate max_trees (replicate max_trees false))
none-square = record {
  rows = length-replicate max_trees (replicate max_trees false);
  columns = λ i h. rw (get_or-replicate max_trees i (replicate max_trees false) [] h) (length-replicate max_trees false);
}

pub none-linked : NoneLinked (replicate max_trees (replicate max_trees false))
none-linked = unset max_trees max_trees
