-- The tree text of document 01 as a grammar: which texts are a tree's or a table's, with no word on how they are read. In words: docs/RULES.md, 'Tree text'.
-- Assumes nothing.
use Rattle.std.specs.Prelude.{◌≡◌, Bool, true, List, [], ◌∷◌, ◌++◌, ℕ, suc, max, ◌≤◌, ◌<◌, length, get_or}
use Rattle.meaning.specs.Limits.{max_label, max_open, max_trees}
use Rattle.meaning.specs.Bytes.{bytes}
use Rattle.meaning.specs.Tree.{Tree, leaf, fork, Good, SameClade}
use Rattle.meaning.specs.Kind.{Kind, rooted, unrooted, Kinded, Takes, either, rooted_only}
use Rattle.meaning.specs.Unrooted.{standing}
use Rattle.meaning.specs.Reading.{is_blank, is_digit, value_after}

-- every byte passes the test
unfoldable pub All : (ℕ → Bool) → List ℕ → Type 0
All test [] = Unit {0}
All test (b ∷ x) = (test b ≡ true) × All test x

-- blanks may stand before the token b
pub data TokenText (b : ℕ) : List ℕ → Type 0 where
  behind : (x : List ℕ) → All is_blank x → TokenText b (x ++ (b ∷ []))

-- a label is a run of decimal digits whose value is 1 to 64
pub record LabelRun (v : ℕ) (y : List ℕ) : Type 0 where
  pub digit : All is_digit y
  pub begins : is_digit (get_or y 0 0) ≡ true
  pub writes : value_after 0 y ≡ v
  pub allowed : (1 ≤ v) × (v ≤ max_label)

-- a node is a label, before which blanks may stand, or `(` node `,` node `)`
pub data NodeText : Tree → List ℕ → Type 0 where
  a_label : {v : ℕ} {y : List ℕ} (x : List ℕ) → All is_blank x → LabelRun v y → NodeText (leaf v) (x ++ y)
  is-fork : {a b : Tree} {o x c y z : List ℕ} → TokenText 40 o → NodeText a x → TokenText 44 c → NodeText b y → TokenText 41 z
      → NodeText (fork a b) (o ++ (x ++ (c ++ (y ++ z))))

-- how many brackets are open at once
unfoldable pub depth : Tree → ℕ
depth (leaf v) = 0
depth (fork a b) = suc (max (depth a) (depth b))

-- a mark is [&R] or [&U], before which blanks may stand; no mark means rooted
pub data MarkText : Kind → List ℕ → Type 0 where
  no_mark : MarkText rooted []
  marked_rooted : (x : List ℕ) → All is_blank x → MarkText rooted (x ++ bytes "[&R]")
  marked_unrooted : (x : List ℕ) → All is_blank x → MarkText unrooted (x ++ bytes "[&U]")

-- the top is a node; of an unrooted tree it is a label, `(` label `,` label `)` or `(` node `,` node `,` node `)`, which stands for a rooting of it; at most 63 brackets are open at once
pub data TopText : Kind → Tree → List ℕ → Type 0 where
  is_node : {t : Tree} {x : List ℕ} → NodeText t x → depth t ≤ max_open → TopText rooted t x
  one_label : {v : ℕ} {x : List ℕ} → NodeText (leaf v) x → TopText unrooted (leaf v) x
  two-labels : {v w : ℕ} {x : List ℕ} → NodeText (fork (leaf v) (leaf w)) x → TopText unrooted (fork (leaf v) (leaf w)) x
  three_nodes : {a b c : Tree} {o x d y e z f : List ℕ} → TokenText 40 o → NodeText a x → TokenText 44 d → NodeText b y → TokenText 44 e → NodeText c z → TokenText 41 f
      → max (depth a) (max (depth b) (depth c)) < max_open → TopText unrooted (fork a (fork b c)) (o ++ (x ++ (d ++ (y ++ (e ++ (z ++ f))))))

-- a tree text is a mark or none, the top and then `;`; labels are 1 to 64, none twice
pub data TreeText : Kinded → List ℕ → Type 0 where
  is_tree : {k : Kind} {t : Tree} {m x y : List ℕ} → MarkText k m → TopText k t x → TokenText 59 y → Good t → TreeText (record { kind = k; tree = standing k t }) (m ++ (x ++ y))

-- one tree, and blanks after its `;`
pub data OneText (t : Kinded) : List ℕ → Type 0 where
  is_one : {x : List ℕ} (y : List ℕ) → TreeText t x → All is_blank y → OneText t (x ++ y)

-- trees one after another, and blanks after the last `;`
pub data TreesText : List Kinded → List ℕ → Type 0 where
  none : (x : List ℕ) → All is_blank x → TreesText [] x
  more : {t : Kinded} {ts : List Kinded} {x y : List ℕ} → TreeText t x → TreesText ts y → TreesText (t ∷ ts) (x ++ y)

-- a tree of the kind k is taken
abbrev pub Taken : Takes → Kind → Type 0
Taken either k = Unit {0}
Taken rooted_only k = k ≡ rooted

-- one kind and one label set
pub record LikeIt (x y : Kinded) : Type 0 where
  pub kinds : x.kind ≡ y.kind
  pub labels : SameClade x.tree y.tree

-- every tree is like first
unfoldable pub Alike : Kinded → List Kinded → Type 0
Alike first [] = Unit {0}
Alike first (x ∷ xs) = LikeIt first x × Alike first xs

-- all are like the first, and that is of a kind that is taken
unfoldable pub AllAlike : Takes → List Kinded → Type 0
unfolding Alike
AllAlike takes [] = Unit {0}
AllAlike takes (x ∷ xs) = Taken takes x.kind × Alike x xs

-- a table is zero to 160 trees, all of the kind and with the label set of the first
pub record TableText (takes : Takes) (xs : List Kinded) (s : List ℕ) : Type 0 where
  pub trees : TreesText xs s
  pub few : length xs ≤ max_trees
  pub alike : AllAlike takes xs
