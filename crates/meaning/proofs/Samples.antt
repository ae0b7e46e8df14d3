-- The starred samples of document 01 hold, those of compared forests, and a sheet of islands.
-- Assumes nothing.
use mathlib.Core.Path.{◌≡◌, refl, subst}
use mathlib.Core.Logic.{◌↔◌}
use mathlib.Core.Bool.{not}
use mathlib.Core.List.{List, [], ◌∷◌, ◌++◌}
use Prim.Native.Nat.{ℕ, zero, suc, ◌<◌}
use native.Mathlib.Omega.{arith}
use borrow.Author.Tests.{le-leb, le-ltb}
use lib.Dec.{T, T_not}
use lib.ListN.{length}
use Rattle.meaning.specs.Limits.{kind_bytes, forest_bytes, max_trees, table_bytes, pair_numbers}
use Rattle.meaning.specs.Lists.{member, within, positions}
use Rattle.meaning.specs.Bytes.{bytes}
use Rattle.meaning.specs.Tree.{Tree, leaf, fork, Distinct}
use Rattle.meaning.specs.Reading.{is_blank, is_digit, lead, past, value_after, value, token, bad_label, label_at, fork_at, node_at, read_node, exactly, letter_at, mark_at, two_labels, third_at, three_at, top_at, tree_at, read_tree, table_from, read_table}
use Rattle.meaning.specs.Listing.{Pair, Listing, At, tree_of}
use Rattle.meaning.specs.Kind.{Kind, rooted, Trees, either}
use Rattle.meaning.specs.EitherKind.{ApartAs, is_apart_as}
use Rattle.meaning.specs.Decide.{is_distinct}
use Rattle.meaning.specs.Answer.{accepted}
use Rattle.meaning.specs.Calls.{stands_apart, not_apart, lists, table_read}
use Rattle.meaning.specs.Sheet.{Sheet, prints, shows_pairs, two_fields, tree_line, tree_lines, pair_lines, sheet}
use Rattle.meaning.specs.Islands.{unite_all}
use Rattle.meaning.specs.Copies.{firsts_of, merged, LinkedBy}
use Rattle.meaning.specs.IslandSheet.{lines_from, island_lines, shows_islands, IslandSheet}
use Rattle.meaning.specs.Samples.{AllHold, samples, bound_samples}
use Rattle.meaning.proofs.Decide.{distinct-iff}
use Rattle.meaning.proofs.EitherKind.{apart_as-iff}
use Rattle.meaning.specs.Loops.{each, row_of, pairs_from}
use Rattle.meaning.proofs.Calls.{pairs_in, listing-by, pairs_chosen, chosen-listed}
use Rattle.meaning.proofs.MergedIslands.{merged-found}

-- a pair is decided by computation
module _ (k : Kind) (t u : Tree) (d : T (is_distinct t)) (e : T (is_distinct u)) where
  decided : T (is_apart_as k t u) ↔ ApartAs k t u
  decided = apart_as-iff k t u ((distinct-iff t).0 d) ((distinct-iff u).0 e)

  pub near : T (is_apart_as k t u) → ApartAs k t u
  near h = decided.0 h

  pub far : T (not (is_apart_as k t u)) → ¬ ApartAs k t u
  far h a = T_not (is_apart_as k t u) h (decided.1 a)

-- so is the listing of a table
abbrev Distincts : List Tree → Type 0
Distincts [] = Unit {0}
Distincts (t ∷ ts) = T (is_distinct t) × Distincts ts

distinct-at : (ts : List Tree) → Distincts ts → (i : ℕ) → i < length ts → Distinct (tree_of ts i)
distinct-at [] d i h = absurd (omega arith)
distinct-at (t ∷ ts) d zero h = (distinct-iff t).0 d.0
distinct-at (t ∷ ts) d (suc i) h = distinct-at ts d.1 i (omega arith)

pub listed : (k : Kind) (ts : List Tree) (ps : List Pair) → Distincts ts → pairs_in k ts ≡ ps → Listing (length ts) (At (ApartAs k) ts) ps
listed k ts ps d e = subst (Listing (length ts) (At (ApartAs k) ts)) e (listing-by (ApartAs k) (is_apart_as k) (apart_as-iff k) ts (distinct-at ts d))

-- and that of its first positions
pub merged-listed : (k : Kind) (ts : List Tree) (ps : List Pair) → Distincts ts → pairs_chosen k merged ts ≡ ps → Listing (length ts) (LinkedBy merged (ApartAs k) ts) ps
merged-listed k ts ps d e = subst (Listing (length ts) (LinkedBy merged (ApartAs k) ts)) e (chosen-listed k merged ts (distinct-at ts d))

-- rooted trees as a table
abbrev rooted_table : List Tree → Trees
rooted_table ts = record { kind = rooted; trees = ts }

abbrev two : List Tree
two = fork (fork (fork (leaf 1) (leaf 2)) (leaf 3)) (leaf 4) ∷ fork (fork (leaf 1) (leaf 2)) (fork (leaf 3) (leaf 4)) ∷ []

-- one claim and the others
infixr 20 ◌and◌
pub ◌and◌ : {A B : Type 0} → A → B → A × B
◌and◌ a b = (a, b)

pub samples-hold : AllHold samples
unfolding pairs_from row_of each is_blank is_digit lead past value_after value member token bad_label label_at fork_at node_at read_node exactly letter_at mark_at two_labels third_at three_at top_at tree_at read_tree within table_from read_table
samples-hold =
    (λ out h. rw (le-leb kind_bytes (length out) h))
    and (λ out h. rw (le-leb kind_bytes (length out) h))
    and (λ out h. rw (le-leb kind_bytes (length out) h))
    and (λ c out h. rw (le-leb forest_bytes (length out) h, le-ltb c 0 (omega arith)))
    and (λ out h. rw (le-leb kind_bytes (length out) h))
    and (λ out h. rw (le-leb kind_bytes (length out) h))
    and (λ out h. rw (le-leb kind_bytes (length out) h))
    and (λ out h. rw (le-leb kind_bytes (length out) h))
    and (λ memory h k. rw (le-leb table_bytes (length memory.texts) h, le-leb max_trees (length memory.ends) k))
    and (λ out h. rw (le-leb forest_bytes (length out) h))
    and (λ out h. rw (le-leb forest_bytes (length out) h))
    and stands_apart _ _ refl (near rooted _ _ tt tt tt)
    and (_, _, refl, refl)
    and (λ memory h k l. (
      rooted_table two,
      refl,
      lists (rooted_table two) ((0, 1) ∷ [])
          (rw (le-leb pair_numbers (length memory.graph.pairs) h, le-leb max_trees (length memory.graph.counts) k, le-leb max_trees (length memory.firsts) l))
          (merged-listed rooted two ((0, 1) ∷ []) (tt, (tt, tt)) refl),
    ))
    and not_apart _ _ refl (far rooted _ _ tt tt tt)
    and not_apart _ _ refl (far rooted _ _ tt tt tt)
    and tt

pub bound-samples-hold : AllHold bound_samples
unfolding is_blank is_digit lead past value_after value member token bad_label label_at fork_at node_at read_node exactly letter_at mark_at two_labels third_at three_at top_at tree_at read_tree within
bound-samples-hold =
    stands_apart _ _ refl (near rooted _ _ tt tt tt)
    and stands_apart _ _ refl (near rooted _ _ tt tt tt)
    and stands_apart _ _ refl (near rooted _ _ tt tt tt)
    and not_apart _ _ refl (far rooted _ _ tt tt tt)
    and not_apart _ _ refl (far rooted _ _ tt tt tt)
    and tt

-- the sheet that document 01 prints whole
abbrev input : List ℕ
input = bytes "((2,1),3);\n(3,(2,1));\n(1,(2,3));\n((1,3),2);\n"

abbrev output : List ℕ
output =
    bytes "trees 4 pairs 5\n"
    ++ bytes "tree 0 neighbours 2 unlinked 0 ((1,2),3);\n"
    ++ bytes "tree 1 neighbours 2 unlinked 0 ((1,2),3);\n"
    ++ bytes "tree 2 neighbours 3 unlinked 0 (1,(2,3));\n"
    ++ bytes "tree 3 neighbours 3 unlinked 0 ((1,3),2);\n"
    ++ bytes "pair 0 2\npair 0 3\npair 1 2\npair 1 3\npair 2 3\n"

abbrev four : List Tree
four =
    fork (fork (leaf 2) (leaf 1)) (leaf 3)
    ∷ fork (leaf 3) (fork (leaf 2) (leaf 1))
    ∷ fork (leaf 1) (fork (leaf 2) (leaf 3))
    ∷ fork (fork (leaf 1) (leaf 3)) (leaf 2)
    ∷ []

abbrev five : List Pair
five = (0, 2) ∷ (0, 3) ∷ (1, 2) ∷ (1, 3) ∷ (2, 3) ∷ []

four-read : table_read either input ≡ accepted (rooted_table four)
unfolding is_blank is_digit lead past value_after value member token bad_label label_at fork_at node_at read_node exactly letter_at mark_at two_labels third_at three_at top_at tree_at read_tree within table_from read_table
four-read = refl

five-listed : Listing 4 (At (ApartAs rooted) four) five
unfolding pairs_from row_of each
five-listed = listed rooted four five (tt, (tt, (tt, (tt, tt)))) refl

output-is : sheet (rooted_table four) five ≡ output
unfolding positions two_fields tree_line tree_lines pair_lines sheet
output-is = refl

pub sheet-holds : Sheet input output
sheet-holds = subst (Sheet input) output-is (prints (rooted_table four) (sheet (rooted_table four) five) four-read (shows_pairs five five-listed))

-- a sheet of two islands
abbrev mixed : List ℕ
mixed = bytes "(((3,4),1),2);\n(((1,2),3),4);\n(1,(2,(3,4)));\n"

abbrev three : List Tree
three =
    fork (fork (fork (leaf 3) (leaf 4)) (leaf 1)) (leaf 2)
    ∷ fork (fork (fork (leaf 1) (leaf 2)) (leaf 3)) (leaf 4)
    ∷ fork (leaf 1) (fork (leaf 2) (fork (leaf 3) (leaf 4)))
    ∷ []

abbrev joined : List Pair
joined = (0, 2) ∷ []

three-read : table_read either mixed ≡ accepted (rooted_table three)
unfolding is_blank is_digit lead past value_after value member token bad_label label_at fork_at node_at read_node exactly letter_at mark_at two_labels third_at three_at top_at tree_at read_tree within table_from read_table
three-read = refl

joined-listed : Listing 3 (LinkedBy merged (ApartAs rooted) three) joined
unfolding pairs_from row_of each
joined-listed = merged-listed rooted three joined (tt, (tt, (tt, tt))) refl

lines_are : island_lines (unite_all (firsts_of three) joined) ≡ bytes "island 0 2\nisland 1 1\n"
unfolding positions two_fields lines_from
lines_are = refl

pub islands-hold : IslandSheet mixed (bytes "island 0 2\nisland 1 1\n")
islands-hold =
    subst (IslandSheet mixed) lines_are (prints (rooted_table three) (island_lines (unite_all (firsts_of three) joined)) three-read
    (shows_islands joined (unite_all (firsts_of three) joined) joined-listed (merged-found three (ApartAs rooted) joined-listed)))
