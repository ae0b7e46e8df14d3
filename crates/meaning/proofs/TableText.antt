-- A table is read exactly from the texts of the grammar.
-- Assumes nothing.
use mathlib.Core.Path.{◌≡◌, refl, sym, ap, subst, ◌∙◌}
use mathlib.Core.Logic.{◌↔◌}
use mathlib.Core.Bool.{cond}
use mathlib.Core.List.{List, [], ◌∷◌, ◌++◌, map, append-nil, append_assoc}
use Prim.Native.Nat.{ℕ, zero, suc, ◌+◌, ◌-◌, ◌≤◌, ◌<◌}
use native.Mathlib.Omega.{arith}
use lib.Dec.{eqb}
use lib.ListN.{length, drop, length-drop}
use Rattle.meaning.specs.Limits.{max_trees}
use Rattle.meaning.specs.Tree.{Tree, Good, AllGood}
use Rattle.meaning.specs.Kind.{Kind, rooted, unrooted, Kinded, Takes}
use Rattle.meaning.specs.Unrooted.{standing}
use Rattle.meaning.specs.Reading.{Read, got, is_blank, byte_at, skip, and_then, token, node_at, read_node, exactly, letter_at, mark_at, top_at, tree_at, like_first, table_from, read_table}
use Rattle.meaning.specs.Listing.{tree_of}
use Rattle.meaning.specs.Grammar.{TreeText, TreesText, none, more, TableText}
use Rattle.meaning.proofs.Logic.{cases}
use Rattle.meaning.proofs.Scan.{past-past}
use Rattle.meaning.proofs.Ways.{Gives, refuses, gives-got, gives-map, then-gives, end-gives, differs-gives, table-ends, table-next}
use Rattle.meaning.proofs.Complete.{at_next, blanks-end, tree-complete}
use Rattle.meaning.proofs.Sound.{run, run_is, Silent, SoundTree, tree-gives, tree-behind, blanks-left, text-good}
use Rattle.meaning.proofs.Alike.{Like, like-none, like-more, like-first, like-rest}

-- each of good trees is good
pub good-at : (ts : List Tree) → AllGood ts → (i : ℕ) → i < length ts → Good (tree_of ts i)
good-at [] g i h = absurd (omega arith)
good-at (t ∷ ts) g zero h = g.0
good-at (t ∷ ts) g (suc i) h = good-at ts g.1 i (omega arith)

-- trees of a text are good
trees-good : {xs : List Kinded} {y : List ℕ} → TreesText xs y → AllGood (map (λ (x : Kinded). x.tree) xs)
trees-good (none x blank) = tt
trees-good (more T R) = (text-good T, trees-good R)

-- a tree is read alike before its blanks and behind them
module _ (s : List ℕ) (p : ℕ) where
  node_skip : (bracket : ℕ → Read Tree) (seen : List ℕ) → node_at bracket s (skip s p) seen ≡ node_at bracket s p seen
  unfolding node_at
  node_skip bracket seen = rw (past-past is_blank s p)

  top-skip : (k : Kind) → top_at k s (skip s p) ≡ top_at k s p
  unfolding top_at read_node
  top-skip rooted = node_skip _ []
  top-skip unrooted = node_skip _ []

  -- what follows a mark, or none
  abbrev after_mark : Kind → ℕ → Read Kinded
  after_mark k q = and_then (top_at k s q) λ t p₂. token 59 s p₂ λ p₃. got (record { kind = k; tree = standing k t }) p₃

  pub tree-skip : tree_at s (skip s p) ≡ tree_at s p
  unfolding tree_at mark_at
  tree-skip =
      let mark : Read Kind = exactly 38 s (skip s p + 1) λ p₁. and_then (letter_at s p₁) λ k p₂. exactly 93 s p₂ (got k) in
      let none : after_mark rooted (skip s p) ≡ after_mark rooted p = ap (λ (r : Read Tree). and_then r λ t p₂. token 59 s p₂ λ p₃. got (record { kind = rooted; tree = t }) p₃) (top-skip rooted) in
      rw (past-past is_blank s p)
      (cases (λ d. and_then (cond d mark (got rooted (skip s p))) after_mark ≡ and_then (cond d mark (got rooted p)) after_mark) (eqb (byte_at s (skip s p)) 91) (λ _. refl) (λ _. none))

-- a tree more, behind the trees ts: its text stands at p
module _ {t : Kinded} {y : List ℕ} (T : TreeText t y) (s : List ℕ) (p : ℕ) (rest : List ℕ) (here : drop p s ≡ y ++ rest) where
  pub next-tree : tree_at s (skip s p) ≡ got t (p + length y)
  next-tree = tree-skip s p ∙ tree-complete T s p rest here

  pub next-behind : (skip s p < p + length y) × (p + length y ≤ length s)
  next-behind = let b = tree-behind s (skip s p) t (p + length y) next-tree in (b.0, b.1)

  pub next-read : (takes : Takes) (slots : ℕ) (ts : List Kinded) → 1 ≤ slots → like_first takes ts t ≡ 0 → table_from takes slots s (skip s p) ts ≡ table_from takes (slots - 1) s (skip s (p + length y)) (ts ++ (t ∷ []))
  next-read takes slots ts h like = table-next takes slots s (skip s p) ts (omega (arith, next-behind.0, next-behind.1)) h ∙ rw (next-tree, like)

module _ (takes : Takes) where
  -- the trees of a text are read, behind the trees ts
  trees-complete : {us : List Kinded} {x : List ℕ} → TreesText us x → (slots : ℕ) (s : List ℕ) (p : ℕ) (ts : List Kinded) → p ≤ length s → drop p s ≡ x → length us ≤ slots → Like takes ts us
      → table_from takes slots s (skip s p) ts ≡ got (ts ++ us) (length s)
  trees-complete (none x blank) slots s p ts h here few alike =
      let e : skip s p ≡ length s = blanks-end s p x blank here ∙ omega (arith, length-drop p s, ap length here) in
      table-ends takes slots s (skip s p) ts (omega arith) ∙ rw (e, append-nil)
  trees-complete (more {t} {ts = us} {x} {y} T R) slots s p ts h here few alike =
      next-read T s p y here takes slots ts (omega arith) (like-first takes t us ts alike)
      ∙ trees-complete R (slots - 1) s (p + length x) (ts ++ (t ∷ [])) (next-behind T s p y here).1 (at_next s p x y here) (omega arith) (like-rest takes t us ts alike) ∙ rw append_assoc

  -- so each table of the grammar is read
  pub table-complete : {ts : List Kinded} {s : List ℕ} → TableText takes ts s → read_table takes s ≡ got ts (length s)
  unfolding read_table
  table-complete {ts} {s} T = trees-complete T.trees max_trees s 0 [] (omega arith) refl T.few T.alike

  -- a text is the text of one table only
  pub one_table : {ts us : List Kinded} {s : List ℕ} → TableText takes ts s → TableText takes us s → ts ≡ us
  one_table T U = let e = table-complete T in let f = table-complete U in cc

  -- what is known of a table that was read from p on, behind the trees ts
  record SoundTable (slots : ℕ) (s : List ℕ) (p : ℕ) (ts us : List Kinded) : Type 0 where
    others : List Kinded
    all : us ≡ ts ++ others
    derives : TreesText others (drop p s)
    few : length others ≤ slots
    alike : Like takes ts others

  -- no tree more
  none-sound : (slots : ℕ) (s : List ℕ) (p : ℕ) (ts : List Kinded) → length s ≤ skip s p → SoundTable slots s p ts ts
  none-sound slots s p ts l = record {
    others = [];
    all = sym (append-nil ts);
    derives = subst (TreesText []) (sym (blanks-left s p l)) (none (run is_blank s p) (run_is is_blank s p));
    few = omega arith;
    alike = like-none takes ts;
  }

  -- a tree more
  more-sound : (slots : ℕ) (s : List ℕ) (p : ℕ) (ts : List Kinded) (t : Kinded) (q : ℕ) (us : List Kinded) → SoundTree s p t q → like_first takes ts t ≡ 0
      → SoundTable slots s q (ts ++ (t ∷ [])) us → SoundTable (suc slots) s p ts us
  more-sound slots s p ts t q us S f R = record {
    others = t ∷ R.others;
    all = R.all ∙ append_assoc ts (t ∷ []) R.others;
    derives = subst (TreesText (t ∷ R.others)) (sym S.stands.split) (more S.derives R.derives);
    few = omega (arith, R.few);
    alike = like-more takes t R.others ts f R.alike;
  }

  -- the next tree is read alike from before its blanks
  skip-gives : (s : List ℕ) (p : ℕ) → Gives (SoundTree s p) Silent (tree_at s (skip s p))
  skip-gives s p = rw (tree-skip s p) (tree-gives s p)

  -- a table that is read is a text of the grammar
  from_gives : (slots : ℕ) (s : List ℕ) (p : ℕ) (ts : List Kinded) → Gives (λ us e. SoundTable slots s p ts us) Silent (table_from takes slots s (skip s p) ts)
  unfolding table_from
  from_gives zero s p ts = end-gives s ts (skip s p) _ (none-sound zero s p ts) (λ l. refuses tt)
  from_gives (suc slots) s p ts =
      end-gives s ts (skip s p) _ (none-sound (suc slots) s p ts) λ l.
      then-gives _ (skip-gives s p) λ t q S.
      differs-gives (like_first takes ts t) q (λ m e. tt) λ f.
      gives-map (λ us e. more-sound slots s p ts t q us S f) (λ n e h. h) (from_gives slots s q (ts ++ (t ∷ [])))

  module _ (s : List ℕ) (ts : List Kinded) (p : ℕ) (h : read_table takes s ≡ got ts p) where
    table-read : SoundTable max_trees s 0 [] ts
    unfolding read_table
    table-read = gives-got (from_gives max_trees s 0 []) h

    table-sound : TableText takes ts s
    table-sound = rw table-read.all (record { trees = table-read.derives; few = table-read.few; alike = table-read.alike })

    -- at most 160 trees are read
    pub table-few : length ts ≤ max_trees
    table-few = table-sound.few

    -- only good trees are read
    pub table-good : AllGood (map (λ (x : Kinded). x.tree) ts)
    table-good = trees-good table-sound.trees

  -- exactly the texts of the grammar are read
  pub table-iff : (ts : List Kinded) (s : List ℕ) → ((p : ℕ) × (read_table takes s ≡ got ts p)) ↔ TableText takes ts s
  table-iff ts s = (λ r. table-sound s ts r.0 r.1, λ T. (length s, table-complete T))
