-- From the clades that were gathered to the list of support: sorted, each once, and regrouped.
-- Assumes nothing.
use mathlib.Core.Path.{◌≡◌, refl, sym, ap, subst, ◌∙◌}
use mathlib.Core.Bool.{Bool, true, false, not}
use mathlib.Core.List.Memᴰ
use mathlib.Core.List.{List, [], ◌∷◌, map}
use Prim.Native.Nat.{ℕ, suc, ◌*◌, ◌≤◌}
use native.Mathlib.Omega.{arith}
use lib.Dec.{eqb}
use lib.ListN.{length, take, length-append, length-map}
use lib.Seq.{length-take-le}
use Rattle.meaning.specs.Limits.{max_trees}
use Rattle.meaning.specs.Tree.{Tree as Topology, leaf, Good, canon}
use Rattle.meaning.proofs.Lists.{number}
use Rattle.meaning.proofs.Length.{leaves-64}
use Rattle.lent.specs.Runs.{Wrote}
use Rattle.lent.proofs.Runs.{wrote-length}
use Rattle.held.specs.Kept.{KeepsAll}
use Rattle.held.specs.declared.Table.{Table}
use Rattle.families.specs.Clades.{clades}
use Rattle.meaning.specs.Sorted.{put}
use Rattle.families.specs.Support.{pooled, supported}
use Rattle.families.proofs.Clades.{clades-length}
use Rattle.families.proofs.Support.{EachGood}
use Rattle.families.proofs.Reordered.{canon-each-good, supported-canon, support-canon}
use Rattle.sorting.specs.Pool.{pool_size}
use Rattle.sorting.specs.Sort.{Sorts}
use Rattle.support.specs.Counted.{firsts, sizes, Counted, GroupRoom, Regrouped}
use Rattle.support.specs.Supports.{SupportListed}
use Rattle.sorting.proofs.Runs.{slice-own}
use Rattle.support.proofs.Supported.{firsts-long, grouped-supported, grouped-support}

-- a table keeps trees that a text can hold
pub kept-good : {table : Table} (ts : List Topology) → KeepsAll table ts → EachGood ts
kept-good ts h t m = let (i, inside, e) = number (leaf 0) m in subst Good e (h.each i inside).good

-- a tree has at most 63 clades of two or more labels
pub pooled-few : (ts : List Topology) → EachGood ts → length (pooled ts) ≤ length ts * 63
unfolding pooled
pooled-few [] A = omega arith
pooled-few (t ∷ ts) A =
    omega (arith, length-append (clades t) (pooled ts), clades-length t, leaves-64 (A t (Memᴰ.head refl)), pooled-few ts (λ s m. A s (Memᴰ.tail m)))

-- what was written from the start on stands there
pub begins : {zs out out' : List ℕ} {r : ℕ} → r ≤ length out → Wrote zs out out' 0 r → take r out' ≡ zs
begins {zs} {out} {out'} {r} fits w = ap (take r) w.cells ∙ slice-own 0 r out zs (omega arith) fits (omega (arith, w.behind))

firsts-few : (xs : List ℕ) → length (firsts xs) ≤ length xs
unfolding put
firsts-few [] = omega arith
firsts-few (x ∷ []) = omega arith
firsts-few (x ∷ y ∷ ys) = go (not (eqb x y)) (firsts-few (y ∷ ys))
  where
    go : (b : Bool) → length (firsts (y ∷ ys)) ≤ suc (length ys) → length (put b x (firsts (y ∷ ys))) ≤ suc (suc (length ys))
    go true h = omega (arith, h)
    go false h = omega (arith, h)

module _ {ts : List Topology} (A : EachGood ts) (few : length ts ≤ max_trees) {pool pool₁ : List ℕ} {n : ℕ} (long : length pool ≡ pool_size)
    (gathered : Wrote (pooled (map canon ts)) pool pool₁ 0 n) where
  -- the trees as the table keeps them
  abbrev us : List Topology
  us = map canon ts

  B : EachGood us
  B = canon-each-good ts A

  pub pool-few : n ≤ 10080
  pool-few = omega (arith, gathered.behind, length-map ts canon, pooled-few us B, few)

  -- the front of the pool is sorted
  module _ {zs : List ℕ} (S : Sorts (take n pool₁) zs) where
    sorts : Sorts (pooled us) zs
    sorts = subst (λ (l : List ℕ). Sorts l zs) (begins (omega (arith, pool-few, long)) gathered) S

    pub sorted-few : length zs ≤ 10080
    sorted-few = omega (arith, sorts.long, gathered.behind, pool-few)

    -- and each of its clades is noted once
    module _ {clades₀ clades₁ numbers₀ numbers₁ : List ℕ} {m : ℕ} (room : length zs ≤ length clades₀) (beside : length zs ≤ length numbers₀)
        (C : Counted zs clades₀ clades₁ numbers₀ numbers₁ m) where
      m-few : m ≤ length zs
      m-few = omega (arith, C.each.behind, firsts-few zs)

      pub noted-few : (m ≤ length clades₁) × (m ≤ length numbers₁)
      noted-few = (omega (arith, m-few, room, wrote-length C.each), omega (arith, m-few, beside, wrote-length C.often))

      cs : take m clades₁ ≡ firsts zs
      cs = begins (omega (arith, m-few, room)) C.each

      ns : take m numbers₁ ≡ sizes zs
      ns = begins (omega (arith, m-few, beside)) C.often

      pub group-room : {out outs : List ℕ} {trees : ℕ} → trees ≤ max_trees → length (supported ts) ≤ length out → length (supported ts) ≤ length outs
          → GroupRoom out outs (take m clades₁) (take m numbers₁) trees
      group-room h f g =
          let all : length (firsts zs) ≡ length (supported ts) = firsts-long us B sorts ∙ ap length (supported-canon ts A) in
          record {
            long = omega (arith, length-take-le m clades₁ noted-few.0, length-take-le m numbers₁ noted-few.1);
            few = h;
            room = omega (arith, ap length cs, all);
            rooms = omega (arith, ap length cs, all);
          }

      pub support-listed : {out out' outs outs' : List ℕ} {trees r : ℕ} → trees ≡ length ts
          → Regrouped (take m clades₁) (take m numbers₁) out out' outs outs' trees r → SupportListed ts out out' outs outs' r
      support-listed {out} {out'} {outs} {outs'} {trees} {r} e R =
          let so : trees ≡ length us = e ∙ sym (length-map ts canon) in
          record {
            each = rw (← supported-canon ts A, ← grouped-supported us B sorts, ← cs, ← ns, ← so) R.each;
            often = rw (← support-canon ts A, ← grouped-support us B sorts, ← ns, ← so) R.often;
          }
