-- A renamed table, and a table in another order, are the same sample.
-- Assumes nothing.
use mathlib.Core.Path.{◌≡◌, refl, sym, ap₂, subst, ◌∙◌}
use mathlib.Core.List.{List}
use Prim.Native.Nat.{ℕ, ◌≤◌, ◌<◌}
use native.Mathlib.Omega.{arith}
use lib.ListN.{length, length-map}
use Rattle.meaning.specs.Limits.{max_label}
use Rattle.meaning.specs.Lists.{positions}
use Rattle.meaning.specs.Tree.{Tree, leaf, fork, AllGood}
use Rattle.meaning.specs.Kind.{Trees}
use Rattle.meaning.specs.EitherKind.{SameAs}
use Rattle.meaning.specs.Listing.{tree_of}
use Rattle.meaning.proofs.Lists.{get_d_map}
use Rattle.meaning.proofs.TableText.{good-at}
use Rattle.renaming.specs.Renaming.{rename, LabelOf, here, later, Rule, RenamedTable}
use Rattle.renaming.specs.Reordering.{Order, came, reorder, reorder_table, SameSample}
use Rattle.renaming.proofs.Orders.{in_place, position_at, came-inside}
use Rattle.renaming.proofs.Sample.{same-itself}

-- the labels replaced, each tree in its place
pub renamed-sample : {f : ℕ → ℕ} {table table' : Trees} → Rule f table.trees → RenamedTable f table table' → SameSample f (positions (length table.trees)) table table'
renamed-sample {f} {table} {table'} r R =
    let n = length table.trees in
    record {
      kind = R.kind;
      rule = r;
      placed = in_place n;
      as_many = R.many;
      tree = λ i h. subst (λ (x : ℕ). SameAs table.kind (tree_of table'.trees i) (rename f (tree_of table.trees x))) (sym (position_at n i h)) (R.tree i h);
    }

-- ---- another order
rename-nothing : (t : Tree) → rename (λ l. l) t ≡ t
rename-nothing (leaf n) = refl
rename-nothing (fork a b) = ap₂ fork (rename-nothing a) (rename-nothing b)

pub label_small : {l : ℕ} {ts : List Tree} → AllGood ts → LabelOf l ts → (1 ≤ l) × (l ≤ max_label)
label_small {l} G (here i) = G.0.small l i
label_small G (later i) = label_small G.1 i

-- every label its own name
pub own-names : {ts : List Tree} → AllGood ts → Rule (λ l. l) ts
own-names G = record { once = λ l m i j e. e; small = λ l i. label_small G i }

-- the tree at a position of a table in another order
reordered-tree : (order : List ℕ) (ts : List Tree) (i : ℕ) → i < length order → tree_of (reorder order ts) i ≡ tree_of ts (came order i)
reordered-tree order ts i h = get_d_map (tree_of ts) order i 0 (leaf 0) h

-- the trees in another order, each with its labels
pub reordered-sample : {order : List ℕ} {table : Trees} → AllGood table.trees → Order (length table.trees) order → SameSample (λ l. l) order table (reorder_table order table)
reordered-sample {order} {table} G O =
    let ts = table.trees in
    record {
      kind = refl;
      rule = own-names G;
      placed = O;
      as_many = length-map order (tree_of ts) ∙ O.all;
      tree = λ i h.
          rw (reordered-tree order ts i (omega (arith, O.all)), rename-nothing (tree_of ts (came order i)))
          (same-itself table.kind (tree_of ts (came order i)) (good-at ts G (came order i) (came-inside O i h)).distinct);
    }

-- both
pub both-sample : {f : ℕ → ℕ} {order : List ℕ} {table table' : Trees} → Rule f table.trees → RenamedTable f table table' → Order (length table.trees) order
    → SameSample f order table (reorder_table order table')
both-sample {order} {table'} r R O = record {
  kind = R.kind;
  rule = r;
  placed = O;
  as_many = length-map order (tree_of table'.trees) ∙ O.all;
  tree = λ i h. rw (reordered-tree order table'.trees i (omega (arith, O.all))) (R.tree (came order i) (came-inside O i h));
}
