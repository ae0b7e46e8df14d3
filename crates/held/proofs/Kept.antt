-- What records keep: a tree's record holds its canonical form, and a table's records keep its trees one by one, and one more.
-- Assumes nothing.
use mathlib.Core.Path.{◌≡◌, sym, ap, ◌∙◌}
use mathlib.Core.Logic.{inl, inr}
use mathlib.Core.List.{List, [], ◌∷◌, ◌++◌}
use Prim.Native.Nat.{ℕ, suc, ◌+◌, ◌<◌}
use native.Mathlib.Omega.{arith}
use native.Mathlib.Decide.{dec_lt}
use lib.ListN.{length, set, replicate, length-append, get_or-append}
use lib.Seq.{get_or-set_same, get_or-set_other, get_or_at, length-sets}
use Rattle.meaning.specs.Limits.{max_nodes}
use Rattle.meaning.specs.Tree.{Tree as Topology, leaf, canon, AllGood}
use Rattle.meaning.specs.Kind.{Kinded, Trees}
use Rattle.meaning.specs.Listing.{tree_of}
use Rattle.meaning.proofs.Canon.{canon-good}
use Rattle.meaning.proofs.Length.{leaves-64}
use Rattle.held.specs.Held.{pre, Holds, Held}
use Rattle.held.specs.Kept.{kind_of, Keeps, Kept, KeepsKind, no_record, held_at, KeepsAll, KeptAll, KeepsTrees, FitsBehind, behind, Standing}
use Rattle.held.specs.declared.Tree.{Tree}
use Rattle.held.specs.declared.Table.{Table}
use Rattle.held.proofs.Laws.{twice, holding}

-- a record holds the canonical form of what it keeps
pub keeps-holds : {tree : Tree} {t : Topology} → Keeps tree t → Holds tree.node 0 (canon t)
keeps-holds {t} k =
    let C = canon-good k.good in
    rw k.bytes (holding (canon t) C.small (omega (arith, leaves-64 C, twice (canon t))))

-- and has a byte for each node that a tree can have
pub keeps-long : {tree : Tree} {t : Topology} → Keeps tree t → length tree.node ≡ max_nodes
keeps-long {t} k = ap length k.bytes ∙ length-sets (replicate max_nodes 0) 0 (pre (canon t))

pub kept-held : {tree : Tree} → Kept tree → Held tree.node 0
kept-held p = record { tree = canon p.topology; holds = keeps-holds p.keeps }

-- the record at a position keeps a tree
pub kept_at : {table : Table} → KeptAll table → (i : ℕ) → i < table.len → Kept (held_at table i)
kept_at p i lt = record { topology = tree_of p.trees i; keeps = p.keeps.each i (omega (arith, p.keeps.count)) }

-- and where the trees are of one kind, with its kind
pub keeps-kinded : {table : Table} {ts : Trees} → KeepsTrees table ts → (i : ℕ) → i < length ts.trees → KeepsKind (held_at table i) (record { kind = ts.kind; tree = tree_of ts.trees i })
keeps-kinded h i l = record { kind = h.kinds i l; keeps = h.all.each i l; stands = h.stand i l }

-- the trees of a table are good
all-good : (ts : List Topology) → ((i : ℕ) → i < length ts → (tree : Tree) × Keeps tree (tree_of ts i)) → AllGood ts
all-good [] k = tt
all-good (t ∷ ts) k = ((k 0 (omega arith)).1.good, all-good ts (λ i h. k (suc i) (omega arith)))

pub keeps-good : {table : Table} {ts : List Topology} → KeepsAll table ts → AllGood ts
keeps-good {table} {ts} h = all-good ts (λ i l. (held_at table i, h.each i l))

-- one tree more
module _ (table : Table) (tree : Tree) where
  abbrev grown : Table
  grown = record { trees = set table.trees table.len tree; len = table.len + 1 }

  grown-last : (i : ℕ) → table.len < length table.trees → i ≡ table.len → held_at grown i ≡ tree
  grown-last i room e = rw e (get_or-set_same table.trees table.len tree no_record room)

  grown-other : (i : ℕ) → i < table.len → held_at grown i ≡ held_at table i
  grown-other i h = get_or-set_other table.trees table.len i tree no_record (λ y. omega (arith, y))

-- what holds at the last of one position more, and at the others, holds at each
each_more : (n : ℕ) (P : ℕ → Type 0) → ((i : ℕ) → i ≡ n → P i) → ((i : ℕ) → i < n → P i) → (i : ℕ) → i < n + 1 → P i
each_more n P last others i z = by (dec_lt i n)
  where
    by : Dec (i < n) → P i
    by (yes y) = others i y
    by (no m) = last i (omega arith)

module _ (ts : List Topology) (t : Topology) where
  tree-last : (i : ℕ) → i ≡ length ts → tree_of (ts ++ (t ∷ [])) i ≡ t
  tree-last i e = get_or_at ts t [] (leaf 0) i (sym e)

  tree-other : (i : ℕ) → i < length ts → tree_of (ts ++ (t ∷ [])) i ≡ tree_of ts i
  tree-other i h = get_or-append ts (t ∷ []) (leaf 0) i h

  many_more : length (ts ++ (t ∷ [])) ≡ length ts + 1
  many_more = length-append ts (t ∷ [])

module _ (ts : List Topology) (t : Topology) (table : Table) (tree : Tree)
    (room : table.len < length table.trees) (free : table.len < 160) (h : KeepsAll table ts) (k : Keeps tree t) where
  one_more : KeepsAll (grown table tree) (ts ++ (t ∷ []))
  one_more = record {
    count = rw (many_more ts t) (omega (arith, h.count));
    few = rw (many_more ts t) (omega (arith, h.count));
    each = λ i z. each_more (length ts) (λ i. Keeps (held_at (grown table tree) i) (tree_of (ts ++ (t ∷ [])) i))
        (λ i e. rw (tree-last ts t i e, grown-last table tree i room (e ∙ sym h.count)) k)
        (λ i l. rw (tree-other ts t i l, grown-other table tree i (omega (arith, h.count))) (h.each i l))
        i (omega (arith, many_more ts t));
  }

-- and of the others' kind
module _ (ts : Trees) (x : Kinded) (table : Table) (tree : Tree) (room : table.len < length table.trees) (free : table.len < 160)
    (h : KeepsTrees table ts) (k : KeepsKind tree x) (fits : FitsBehind ts x) where
  -- the others are of its kind, where there are any
  alike : (i : ℕ) → i < length ts.trees → ts.kind ≡ x.kind
  alike i l = by fits
    where
      by : FitsBehind ts x → ts.kind ≡ x.kind
      by (inl e) = absurd (omega (arith, ap length e))
      by (inr e) = e

  kind_at : (i : ℕ) → i < length ts.trees + 1 → kind_of (held_at (grown table tree) i).kind ≡ x.kind
  kind_at = each_more (length ts.trees) (λ i. kind_of (held_at (grown table tree) i).kind ≡ x.kind)
      (λ i e. rw (grown-last table tree i room (e ∙ sym h.all.count)) k.kind)
      (λ i l. rw (grown-other table tree i (omega (arith, h.all.count))) (h.kinds i l ∙ alike i l))

  pub one-behind : KeepsTrees (grown table tree) (behind ts x)
  one-behind = record {
    all = one_more ts.trees x.tree table tree room free h.all k.keeps;
    first = kind_at 0 (omega arith);
    kinds = λ i z. kind_at i (omega (arith, many_more ts.trees x.tree));
    stand = λ i z. each_more (length ts.trees) (λ i. Standing x.kind (tree_of (ts.trees ++ (x.tree ∷ [])) i))
        (λ i e. rw (tree-last ts.trees x.tree i e) k.stands)
        (λ i l. rw (tree-other ts.trees x.tree i l, ← alike i l) (h.stand i l))
        i (omega (arith, many_more ts.trees x.tree));
  }
