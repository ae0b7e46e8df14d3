-- The whole row: the clades behind its first number, the tree that grows from them as a record, and the row of a tree written.
-- Assumes nothing.
use mathlib.Core.Path.{◌≡◌, refl, sym, ap, ap₂, subst, ◌∙◌}
use mathlib.Core.Bool.{true}
use mathlib.Core.List.{List, [], ◌++◌, append_assoc}
use Prim.Native.Nat.{ℕ, ◌+◌, ◌-◌, ◌≤◌}
use native.Mathlib.Omega.{arith}
use lib.Dec.{T, ltb}
use lib.ListN.{length, get_or, set, take, drop, length-drop, length-set, replicate}
use lib.Seq.{slice, sets, take_all}
use borrow.Rule.Slice.PartMut.{put_mid}
use Rattle.std.specs.List.Sorted.{IsPermutation, IsSorted}
use Rattle.std.specs.Ordering.{nat_cmp}
use Rattle.std.proofs.lemmas.List.Edits.{sets-eq}
use Rattle.std.proofs.lemmas.List.{drop-drop}
use Rattle.std.proofs.lemmas.List.Sorted.{length_permutation}
use Rattle.std.proofs.lemmas.Slice.{between_is}
use Rattle.meaning.specs.Limits.{max_label, max_nodes}
use Rattle.meaning.specs.Tree.{Tree as Topology, Good, canon}
use Rattle.meaning.specs.Kind.{rooted}
use Rattle.meaning.specs.Clade.{lowest, clade}
use Rattle.meaning.proofs.Canon.{canon-good, canon-topology, canonical-canon}
use Rattle.meaning.proofs.Length.{leaves-64}
use Rattle.lent.specs.Runs.{Wrote}
use Rattle.lent.proofs.Runs.{wrote-length}
use Rattle.held.specs.Held.{pre, hold}
use Rattle.held.specs.Kept.{KeepsKind}
use Rattle.held.specs.declared.Kind.TheVariants.{Rooted}
use Rattle.held.proofs.Laws.{few-nodes}
use Rattle.families.specs.Clades.{clades}
use Rattle.meaning.specs.Sorted.{sort_by}
use Rattle.families.specs.Grown.{GrowsTo}
use Rattle.families.specs.Row.{row, is_row, row_tree}
use Rattle.families.proofs.Clades.{clades-length, clades-nodup}
use Rattle.meaning.proofs.Sorted.{sort-length}
use Rattle.families.proofs.Row.{row-tree-good, row-tree-canonical, row-tree-grows, row-iff-topology}
use Rattle.sorting.proofs.Runs.{slice-own, sets_over}
use Rattle.rows.specs.Places.{last_place}
use Rattle.rows.specs.Rows.{GrowRoom}
use Rattle.rows.proofs.Sorting.{sorted-from_sort}
use Rattle.rows.proofs.Places.{row-set-placed}

-- the part of a slice from its second number on
pub behind-first : (xs : List ℕ) → take (length xs - 1) (drop 1 xs) ≡ drop 1 xs
behind-first xs = take_all (length xs - 1) (drop 1 xs) (omega (arith, length-drop 1 xs))

-- ---- the tree of a row
module _ (xs : List ℕ) (is : is_row xs ≡ true) where
  tested : T (is_row xs)
  tested = subst T (sym is) tt

  -- it grows from the clades, and there is room for its nodes in a record
  pub row-grows : GrowsTo (drop 1 xs) (get_or xs 0 0) (row_tree xs)
  row-grows = row-tree-grows xs tested

  pub row_room : GrowRoom xs (last_place xs (length xs) (lowest (get_or xs 0 0))) (get_or xs 0 0) 0 max_nodes
  row_room = record {
    placed = row-set-placed xs is;
    tree = row_tree xs;
    grows = row-grows;
    room = omega (arith, few-nodes (row-tree-good xs tested));
  }

  -- the record that its nodes are written into keeps it
  pub row_kept : {node : List ℕ} {r : ℕ} → Wrote (pre (row_tree xs)) (replicate max_nodes 0) node 0 r
      → KeepsKind (record { node = node; kind = Rooted }) (record { kind = rooted; tree = row_tree xs })
  row_kept w = record {
    kind = refl;
    keeps = record { good = row-tree-good xs tested; bytes = w.cells ∙ ap hold (sym (canonical-canon (row_tree xs) (row-tree-canonical xs tested))) };
    stands = refl;
  }

-- ---- the row of a tree: its clades are noted behind the label set v, from place 1 up to n, and sorted there
module _ {t : Topology} (G : Good t) (out : List ℕ) (v : ℕ) {out₁ : List ℕ} {n : ℕ} (room : max_label ≤ length out) (noted : Wrote (clades (canon t)) (set out 0 v) out₁ 1 n) where
  pub noted-long : length out₁ ≡ length out
  noted-long = wrote-length noted ∙ length-set out 0 v

  -- they are a run
  pub noted-run : (1 ≤ n) × (n ≤ length out₁)
  noted-run = (omega (arith, noted.behind), omega (arith, noted.behind, noted-long, room, clades-length (canon t), leaves-64 (canon-good G)))

  abbrev cs : List ℕ
  cs = clades (canon t)

  long : length (sort_by ltb cs) ≡ length cs
  long = sort-length ltb cs

  noted-are : slice 1 n out₁ ≡ cs
  noted-are =
      ap (slice 1 n) noted.cells
      ∙ slice-own 1 n (set out 0 v) cs noted-run.0 (omega (arith, noted-run.1, wrote-length noted)) (omega (arith, noted.behind))

  -- they were sorted where they stand
  module _ {ys : List ℕ} (p : IsPermutation (take (n - 1) (drop 1 out₁)) ys) (up : IsSorted nat_cmp ys) where
    mid-are : take (n - 1) (drop 1 out₁) ≡ cs
    mid-are = between_is out₁ 1 n ∙ noted-are

    sorted-are : ys ≡ sort_by ltb cs
    sorted-are = sorted-from_sort cs ys (clades-nodup (canon t) (canon-good G)) (subst (λ (l : List ℕ). IsPermutation l ys) mid-are p) up

    many : 1 + length ys ≡ n
    many = omega (arith, length_permutation (take (n - 1) (drop 1 out₁)) ys p, ap length mid-are, noted.behind)

    put : put_mid 1 (n - 1) out₁ ys ≡ sets out₁ 1 ys
    put =
        let behind : 1 + (n - 1) ≡ 1 + length ys = omega (arith, many) in
        let rest : drop (n - 1) (drop 1 out₁) ≡ drop (1 + length ys) out₁ = drop-drop (n - 1) 1 out₁ ∙ ap (λ (k : ℕ). drop k out₁) behind in
        ap (λ (l : List ℕ). take 1 out₁ ++ (ys ++ l)) rest ∙ sym (append_assoc (take 1 out₁) ys (drop (1 + length ys) out₁)) ∙ sym (sets-eq ys out₁ 1 (omega (arith, many, noted-run.1)))

    pub row_written : v ≡ clade (canon t) → Wrote (row t) out (put_mid 1 (n - 1) out₁ ys) 0 n
    row_written whole =
        subst (λ (l : List ℕ). Wrote l out (put_mid 1 (n - 1) out₁ ys) 0 n) ((row-iff-topology (canon-good G) G).1 (canon-topology t)) (record {
          behind = omega (arith, noted.behind, long);
          cells =
              put
              ∙ ap₂ (λ (l zs : List ℕ). sets l 1 zs) noted.cells sorted-are
              ∙ sets_over (set out 0 v) cs [] (sort_by ltb cs) 1 n noted.behind (omega (arith, long)) (omega (arith, long, noted.behind, noted-run.1, wrote-length noted))
              ∙ ap (λ (x : ℕ). sets (set out 0 x) 1 (sort_by ltb cs)) whole;
        })
