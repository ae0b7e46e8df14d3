-- What is read from a text with every label replaced: the same sample, its labels replaced by the rule.
-- Assumes nothing.
use mathlib.Core.Path.{◌≡◌, refl, sym, ap, ap₂, ◌∙◌, subst}
use mathlib.Core.List.{List, [], ◌∷◌, map}
use Prim.Native.Nat.{ℕ, zero, suc, ◌≤◌, ◌<◌}
use native.Mathlib.Omega.{arith}
use native.Mathlib.Decide.{dec_lt}
use lib.ListN.{length}
use Rattle.meaning.specs.Limits.{text_bytes}
use Rattle.meaning.specs.Tree.{Tree, In}
use Rattle.meaning.specs.Kind.{Kind, rooted, Kinded, Trees, as_trees, Takes}
use Rattle.meaning.specs.Unrooted.{standing}
use Rattle.meaning.specs.EitherKind.{SameAs}
use Rattle.meaning.specs.Listing.{tree_of}
use Rattle.meaning.specs.Answer.{accepted, onward}
use Rattle.meaning.specs.Reading.{Read}
use Rattle.meaning.specs.Grammar.{AllAlike, TableText}
use Rattle.meaning.specs.Calls.{table_read, answered}
use Rattle.meaning.proofs.EitherKind.{same-sym_as, same-trans_as}
use Rattle.meaning.proofs.TableText.{one_table, table-complete}
use Rattle.meaning.proofs.Stands.{OfKind, alike-kind}
use Rattle.meaning.proofs.Lent.{in-limit, eight}
use Rattle.meaning.proofs.Calls.{tells-accepted, table-tells, TableGiven}
use Rattle.meaning.proofs.Determined.{not-both}
use Rattle.renaming.specs.Renaming.{rename, rename_text, LabelOf, here, later, Rule, RenamedTable}
use Rattle.renaming.proofs.Renamed.{rename-same_as}
use Rattle.renaming.proofs.Rules.{back, back-within}
use Rattle.renaming.proofs.RenamedTable.{Renames, renames, AllRenamed, trees_of, standing-same, standing-clade, table-becomes}

-- ---- a table's trees
pub as-trees : (xs : List Kinded) → (as_trees xs).trees ≡ trees_of xs
as-trees [] = refl
as-trees (x ∷ xs) = refl

-- are all of its kind
pub as-kind : (takes : Takes) (xs : List Kinded) → AllAlike takes xs → OfKind (as_trees xs).kind xs
unfolding AllAlike
as-kind takes [] A = tt
as-kind takes (x ∷ xs) A = (refl, alike-kind x xs A.1)

-- a text that is accepted is not too long
pub accepted-length : (takes : Takes) (s : List ℕ) {table : Trees} → table_read takes s ≡ accepted table → length s ≤ text_bytes
accepted-length takes s e = by (dec_lt text_bytes (length s))
  where
    by : Dec (text_bytes < length s) → length s ≤ text_bytes
    by (yes h) = absurd (not-both e (eight 0 s _ h))
    by (no h) = omega arith

-- a text of the grammar that is not too long is accepted
pub text-accepted : {takes : Takes} {xs : List Kinded} {s : List ℕ} → TableText takes xs s → length s ≤ text_bytes → table_read takes s ≡ accepted (as_trees xs)
text-accepted {takes} {s} T h = in-limit 0 s _ h ∙ ap (λ (r : Read (List Kinded)). onward (answered 0 r) λ xs. accepted (as_trees xs)) (table-complete takes T)

-- ---- what is read
module _ {f : ℕ → ℕ} {ts : List Tree} (r : Rule f ts) where
  -- a renamed tree has the topology of its tree with new labels
  renames-same : {x y : Kinded} → ((l : ℕ) → In l x.tree → LabelOf l ts) → Renames f x y → SameAs x.kind y.tree (rename f x.tree)
  renames-same o (renames k t G H) =
      same-trans_as k (standing k (rename f t)) (rename f t) (rename f (standing k t)) (same-sym_as k (rename f t) (standing k (rename f t)) (standing-same k (rename f t) H.distinct))
      (rename-same_as f (back r) k t (standing k t) (back-within r t (λ l i. o l ((standing-clade k t G.distinct).0 l i))) (standing-same k t G.distinct))

  pub all_same : (k : Kind) {xs ys : List Kinded} → ((l : ℕ) → LabelOf l (trees_of xs) → LabelOf l ts) → OfKind k xs → AllRenamed f xs ys
      → (i : ℕ) → i < length (trees_of xs) → SameAs k (tree_of (trees_of ys) i) (rename f (tree_of (trees_of xs) i))
  all_same k o K AllRenamed.none i h = absurd (omega arith)
  all_same k o K (AllRenamed.more {x} {y} a b) zero h = subst (λ (j : Kind). SameAs j y.tree (rename f x.tree)) K.0 (renames-same (λ l i. o l (here i)) a)
  all_same k o K (AllRenamed.more a b) (suc i) h = all_same k (λ l j. o l (later j)) K.1 b i (omega arith)

-- rooted trees are read exactly so
renames-rooted : {f : ℕ → ℕ} {x y : Kinded} → Renames f x y → x.kind ≡ rooted → y.tree ≡ rename f x.tree
renames-rooted {f} (renames k t G H) e = subst (λ (j : Kind). standing j (rename f t) ≡ rename f (standing j t)) (sym e) refl

all-rooted : {f : ℕ → ℕ} {xs ys : List Kinded} → OfKind rooted xs → AllRenamed f xs ys → trees_of ys ≡ map (rename f) (trees_of xs)
all-rooted K AllRenamed.none = refl
all-rooted K (AllRenamed.more a b) = ap₂ ◌∷◌ (renames-rooted a K.0) (all-rooted K.1 b)

renamed-kind : {f : ℕ → ℕ} {xs ys : List Kinded} → AllRenamed f xs ys → (as_trees ys).kind ≡ (as_trees xs).kind
renamed-kind AllRenamed.none = refl
renamed-kind (AllRenamed.more (renames k t G H) b) = refl

renamed-many : {f : ℕ → ℕ} {xs ys : List Kinded} → AllRenamed f xs ys → length (trees_of ys) ≡ length (trees_of xs)
renamed-many AllRenamed.none = refl
renamed-many (AllRenamed.more a b) = ap suc (renamed-many b)

listed-renamed : (takes : Takes) {f : ℕ → ℕ} {xs ys : List Kinded} → Rule f (trees_of xs) → AllAlike takes xs → AllRenamed f xs ys → RenamedTable f (as_trees xs) (as_trees ys)
listed-renamed takes {xs} {ys} r a A =
    let x = as-trees xs in
    let y = as-trees ys in
    let K = as-kind takes xs a in
    record {
      kind = renamed-kind A;
      many = rw (x, y) (renamed-many A);
      tree = rw (x, y) (all_same r (as_trees xs).kind (λ l i. i) K A);
      rooted_trees = λ e. rw (x, y) (all-rooted (rw e at K) A);
    }

module _ (takes : Takes) (f : ℕ → ℕ) (s : List ℕ) {table : Trees} (e : table_read takes s ≡ accepted table) (r : Rule f table.trees) where
  given : TableGiven takes s table
  given = tells-accepted (table-tells takes s) e

  rule : Rule f (trees_of given.listed)
  rule = subst (Rule f) (ap (λ (x : Trees). x.trees) given.is ∙ as-trees given.listed) r

  -- the new text is read as the renamed trees, if it is accepted
  pub read-renamed : {table' : Trees} → table_read takes (rename_text f s) ≡ accepted table' → RenamedTable f table table'
  read-renamed e' =
      let given' = tells-accepted (table-tells takes (rename_text f s)) e' in
      let (ys, A, T) = table-becomes rule given.text in
      let same : ys ≡ given'.listed = one_table takes T given'.text in
      rw (given.is, given'.is, ← same) (listed-renamed takes rule given.text.alike A)

  -- and it is accepted, unless it is too long
  pub renamed-accepted : length (rename_text f s) ≤ text_bytes → (table' : Trees) × (table_read takes (rename_text f s) ≡ accepted table')
  renamed-accepted h = let (ys, A, T) = table-becomes rule given.text in (as_trees ys, text-accepted T h)
