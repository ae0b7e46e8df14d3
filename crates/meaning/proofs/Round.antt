-- What is written is read back, for either kind: a canonical text gives its canonical form, and the texts of many trees give theirs.
-- Assumes nothing.
use mathlib.Core.Path.{◌≡◌, refl, subst}
use mathlib.Core.Bool.{true}
use mathlib.Core.List.{List, [], ◌∷◌, map, append_assoc, append-nil}
use Prim.Native.Nat.{ℕ, suc, ◌+◌, ◌/◌, ◌%◌, ◌≤◌, ◌<◌, max}
use native.Mathlib.Decide.{dec_le}
use native.Mathlib.Omega.{arith}
use borrow.Author.Tests.{le-leb}
use lib.ListN.{length, length-map}
use Rattle.meaning.specs.Limits.{max_label, max_open, max_trees}
use Rattle.meaning.specs.Tree.{Tree, leaf, fork, leaves, In, tip, Distinct, Small, Good, AllGood, Canonical, SameClade, least, canon, digits, write}
use Rattle.meaning.specs.Kind.{Kind, rooted, unrooted, Takes}
use Rattle.meaning.specs.Unrooted.{hang, canon_unrooted, write_unrooted}
use Rattle.meaning.specs.EitherKind.{canon_as, form_as, forms_as, canon_kinded}
use Rattle.meaning.specs.Listing.{tree_of}
use Rattle.meaning.specs.Reading.{got, is_digit, value_after, read_tree, read_table}
use Rattle.meaning.specs.Grammar.{All, TokenText, behind, LabelRun, NodeText, a_label, is-fork, depth, no_mark, marked_unrooted, TopText, is_node, one_label, two-labels, three_nodes, TreeText, is_tree, TreesText, none, more, Taken, Alike, AllAlike}
use Rattle.meaning.proofs.Canon.{canon-≈, canon-good}
use Rattle.meaning.proofs.Same.{≈-clade, clade-trans}
use Rattle.meaning.proofs.Rootings.{Hung, hung, canon_unrooted-hung, canon_unrooted-canonical, canon_unrooted-good, canon_unrooted-splits}
use Rattle.meaning.proofs.Digits.{digits-one, digits-two}
use Rattle.meaning.proofs.Length.{leaves-64}
use Rattle.meaning.proofs.Complete.{read-complete}
use Rattle.meaning.proofs.TableText.{table-complete}

-- 0 to 9 are written by digits
digit-is : (d : ℕ) → d ≤ 9 → is_digit (48 + d) ≡ true
unfolding is_digit
digit-is d h = rw (le-leb 48 (48 + d) (omega arith), le-leb (48 + d) 57 (omega arith))

value-one : (n : ℕ) → n ≤ 9 → value_after 0 ((48 + n) ∷ []) ≡ n
unfolding value_after
value-one n h = rw (digit-is n h) (omega arith)

value-two : (n : ℕ) → n ≤ 99 → value_after 0 ((48 + n / 10) ∷ (48 + n % 10) ∷ []) ≡ n
unfolding value_after
value-two n h = rw (digit-is (n / 10) (omega arith), digit-is (n % 10) (omega arith)) (omega arith)

-- one digit and two are a label
run-one : (n : ℕ) → 1 ≤ n → n ≤ 9 → LabelRun n ((48 + n) ∷ [])
unfolding All
run-one n l h = let d = digit-is n h in record { digit = (d, tt); begins = d; writes = value-one n h; allowed = (l, omega arith) }

run-two : (n : ℕ) → 10 ≤ n → n ≤ max_label → LabelRun n ((48 + n / 10) ∷ (48 + n % 10) ∷ [])
unfolding All
run-two n l h =
    let d = digit-is (n / 10) (omega arith) in
    record { digit = (d, (digit-is (n % 10) (omega arith), tt)); begins = d; writes = value-two n (omega arith); allowed = (omega arith, h) }

-- the digits of a label are a label
pub digits-run : (n : ℕ) → 1 ≤ n → n ≤ max_label → LabelRun n (digits n)
digits-run n l h = by (dec_le n 9)
  where
    by : Dec (n ≤ 9) → LabelRun n (digits n)
    by (yes k) = rw (digits-one n k) (run-one n l k)
    by (no k) = rw (digits-two n (omega arith) (omega arith)) (run-two n (omega arith) h)

-- a token is written without blanks
pub token-written : (b : ℕ) → TokenText b (b ∷ [])
unfolding All
token-written b = behind [] tt

-- what is written for a tree is a text of it
pub write-text : (t : Tree) → Small t → NodeText t (write t)
unfolding All
write-text (leaf n) S = let h = S n tip in a_label [] tt (digits-run n h.0 (omega arith))
write-text (fork a b) S =
    simp append_assoc (is-fork (token-written 40) (write-text a (λ l i. S l (In.first i))) (token-written 44) (write-text b (λ l i. S l (In.second i))) (token-written 41))

-- at most 63 brackets are open at once
depth-leaves : (t : Tree) → suc (depth t) ≤ leaves t
unfolding depth
depth-leaves (leaf n) = omega arith
depth-leaves (fork a b) = omega (arith, depth-leaves a, depth-leaves b)

pub depth-63 : {t : Tree} → Good t → depth t ≤ max_open
depth-63 {t} G = omega (arith, depth-leaves t, leaves-64 G)

-- ---- trees of either kind
-- a canonical form stands for itself
stands-itself : (t : Tree) → Distinct t → hang (canon_unrooted t) ≡ canon_unrooted t
stands-itself (leaf n) D = refl
stands-itself (fork a b) D = go (canon_unrooted (fork a b)) (canon_unrooted-hung a b D) (canon_unrooted-canonical (fork a b) D)
  where
    go : {m : ℕ} (u : Tree) → Hung m u → Canonical u → hang u ≡ u
    go {m} u (hung r) C = rw (le-leb m (least r) (omega (arith, C.2)))

-- brackets below the top
shallow : (m : ℕ) (a b : Tree) → Good (fork (leaf m) (fork a b)) → max (depth (leaf m)) (max (depth a) (depth b)) < max_open
unfolding depth
shallow m a b G = omega (arith, depth-leaves a, depth-leaves b, leaves-64 G)

-- what is written for a hung tree is an unrooted text of it
hung-text : {m : ℕ} {t : Tree} → Hung m t → Good t → TopText unrooted t (write_unrooted t)
hung-text {m} (hung (leaf n)) G = two-labels (write-text (fork (leaf m) (leaf n)) G.small)
hung-text {m} (hung (fork a b)) G =
    let S = G.small in
    simp append_assoc
    (three_nodes (token-written 40) (write-text (leaf m) (λ l i. S l (In.first i))) (token-written 44) (write-text a (λ l i. S l (In.second (In.first i)))) (token-written 44)
    (write-text b (λ l i. S l (In.second (In.second i)))) (token-written 41) (shallow m a b G))

top-text : (t : Tree) → Good t → TopText unrooted (canon_unrooted t) (write_unrooted (canon_unrooted t))
top-text (leaf n) G = one_label (write-text (leaf n) G.small)
top-text (fork a b) G = hung-text (canon_unrooted-hung a b G.distinct) (canon_unrooted-good G)

-- a canonical text is a text of the canonical form
pub form-text : (k : Kind) {t : Tree} → Good t → TreeText (canon_kinded k t) (form_as k t)
unfolding All
form-text rooted {t} G = let H = canon-good G in is_tree no_mark (is_node (write-text (canon t) H.small) (depth-63 H)) (token-written 59) H
form-text unrooted {t} G =
    subst (λ (u : Tree). TreeText (record { kind = unrooted; tree = u }) (form_as unrooted t)) (stands-itself t G.distinct)
    (is_tree (marked_unrooted [] tt) (top-text t G) (token-written 59) (canon_unrooted-good G))

-- it is read back
pub read-form : (takes : Takes) (k : Kind) → Taken takes k → {t : Tree} → Good t → read_tree takes (form_as k t) ≡ got (canon_kinded k t) (length (form_as k t))
unfolding All
read-form takes k z G = rw append-nil at (read-complete takes (form-text k G) z [] tt)

-- the texts of many trees are texts one after another
forms-text : (k : Kind) (ts : List Tree) → AllGood ts → TreesText (map (canon_kinded k) ts) (forms_as k ts)
unfolding forms_as All
forms-text k [] G = none [] tt
forms-text k (t ∷ ts) G = more (form-text k G.0) (forms-text k ts G.1)

-- canonical forms have the labels of their trees
canon-clade : (k : Kind) {t : Tree} → Good t → SameClade (canon_as k t) t
canon-clade rooted {t} G = ≈-clade (canon-≈ t)
canon-clade unrooted {t} G = (canon_unrooted-splits t G.distinct).0

canon-alike : (k : Kind) (first : Tree) (ts : List Tree) → Good first → AllGood ts → ((i : ℕ) → i < length ts → SameClade first (tree_of ts i)) → Alike (canon_kinded k first) (map (canon_kinded k) ts)
unfolding Alike
canon-alike k first [] F G h = tt
canon-alike k first (t ∷ ts) F G h = (
  record { kinds = refl; labels = clade-trans (canon-clade k F) (clade-trans (h 0 (omega arith)) (let e = canon-clade k G.0 in (e.1, e.0))) },
  canon-alike k first ts F G.1 (λ i l. h (suc i) (omega (arith, l))),
)

-- trees with one label set have canonical forms that are alike
abbrev pub OneLabels : List Tree → Type 0
OneLabels [] = Unit {0}
OneLabels (first ∷ ts) = (i : ℕ) → i < length ts → SameClade first (tree_of ts i)

canon-all-alike : (takes : Takes) (k : Kind) → Taken takes k → (ts : List Tree) → AllGood ts → OneLabels ts → AllAlike takes (map (canon_kinded k) ts)
unfolding AllAlike
canon-all-alike takes k z [] G h = tt
canon-all-alike takes k z (t ∷ ts) G h = (z, canon-alike k t ts G.0 G.1 h)

-- the canonical texts of many trees are read back
pub read-forms : (takes : Takes) (k : Kind) → Taken takes k → (ts : List Tree) → AllGood ts → OneLabels ts → length ts ≤ max_trees
    → read_table takes (forms_as k ts) ≡ got (map (canon_kinded k) ts) (length (forms_as k ts))
read-forms takes k z ts G A few = table-complete takes (record { trees = forms-text k ts G; few = rw length-map few; alike = canon-all-alike takes k z ts G A })
