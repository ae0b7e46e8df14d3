-- Replacing labels one to one keeps topologies and moves, of either kind: trees are one move apart exactly when the renamed ones are.
-- Assumes nothing.
use mathlib.Core.Path.{◌≡◌, refl, sym, ap, ap₂, ◌∙◌, subst, subst₂}
use mathlib.Core.Logic.{◌↔◌, ◌⊎◌, inl, inr}
use mathlib.Core.List.{◌++◌, map, map-append}
use Prim.Native.Nat.{ℕ}
use Rattle.meaning.specs.Tree.{Tree, leaf, fork, labels, In, tip, Distinct, Node, root, ◌⊆◌, SameClade, Within, SameTopology}
use Rattle.meaning.specs.Move.{Prune, first, second, in_first, in_second, Graft, above, on_first, on_second, OneMove, parts}
use Rattle.meaning.specs.Interchange.{Forks, in_order, turned, Interchange, OneInterchange}
use Rattle.meaning.specs.Kind.{Kind, rooted, unrooted}
use Rattle.meaning.specs.Unrooted.{Below, Opposite, SplitsWithin, SameSplits, OneMoveU}
use Rattle.meaning.specs.EitherKind.{SameAs, OneMoveAs, ApartAs}
use Rattle.meaning.proofs.Same.{node_in}
use Rattle.meaning.proofs.Moves.{graft-in}
use Rattle.renaming.specs.Renaming.{rename}

-- ---- any rule
module _ (f : ℕ → ℕ) where
  -- the labels of the renamed tree, from left to right
  pub rename-labels : (t : Tree) → labels (rename f t) ≡ map f (labels t)
  rename-labels (leaf l) = refl
  rename-labels (fork a b) = ap₂ ◌++◌ (rename-labels a) (rename-labels b) ∙ sym (map-append f (labels a) (labels b))

  pub rename-in : {l : ℕ} {t : Tree} → In l t → In (f l) (rename f t)
  rename-in tip = tip
  rename-in (In.first i) = In.first (rename-in i)
  rename-in (In.second i) = In.second (rename-in i)

  pub in-rename : (t : Tree) {l : ℕ} → In l (rename f t) → (m : ℕ) × In m t × (f m ≡ l)
  in-rename (leaf n) tip = (n, tip, refl)
  in-rename (fork a b) (In.first i) = let (m, j, e) = in-rename a i in (m, In.first j, e)
  in-rename (fork a b) (In.second i) = let (m, j, e) = in-rename b i in (m, In.second j, e)

  pub rename-⊆ : (t u : Tree) → t ⊆ u → rename f t ⊆ rename f u
  rename-⊆ t u s l i = let (m, j, e) = in-rename t i in subst (λ (k : ℕ). In k (rename f u)) e (rename-in (s m j))

  pub rename-clade : (t u : Tree) → SameClade t u → SameClade (rename f t) (rename f u)
  rename-clade t u c = (rename-⊆ t u c.0, rename-⊆ u t c.1)

  -- its nodes
  rename-node : {s t : Tree} → Node s t → Node (rename f s) (rename f t)
  rename-node root = root
  rename-node (Node.first n) = Node.first (rename-node n)
  rename-node (Node.second n) = Node.second (rename-node n)

  node-rename : (t : Tree) {s : Tree} → Node s (rename f t) → (r : Tree) × Node r t × (rename f r ≡ s)
  node-rename (leaf n) root = (leaf n, root, refl)
  node-rename (fork a b) root = (fork a b, root, refl)
  node-rename (fork a b) (Node.first n) = let (r, m, e) = node-rename a n in (r, Node.first m, e)
  node-rename (fork a b) (Node.second n) = let (r, m, e) = node-rename b n in (r, Node.second m, e)

  -- its clades, so its topology
  rename-within : (t u : Tree) → Within t u → Within (rename f t) (rename f u)
  rename-within t u W s n =
      let (r, m, e) = node-rename t n in
      let (q, k, c) = W r m in
      (rename f q, rename-node k, subst (λ (x : Tree). SameClade x (rename f q)) e (rename-clade r q c))

  rename-topology : (t u : Tree) → SameTopology t u → SameTopology (rename f t) (rename f u)
  rename-topology t u e = (rename-within t u e.0, rename-within u t e.1)

  -- its moves
  rename-prune : {s t r : Tree} → Prune s t r → Prune (rename f s) (rename f t) (rename f r)
  rename-prune first = first
  rename-prune second = second
  rename-prune (in_first p) = in_first (rename-prune p)
  rename-prune (in_second p) = in_second (rename-prune p)

  rename-graft : {s r u : Tree} → Graft s r u → Graft (rename f s) (rename f r) (rename f u)
  rename-graft above = above
  rename-graft (on_first g) = on_first (rename-graft g)
  rename-graft (on_second g) = on_second (rename-graft g)

  rename-move : (t u : Tree) → OneMove t u → OneMove (rename f t) (rename f u)
  rename-move t u m = record {
    pruned = rename f m.pruned;
    rest = rename f m.rest;
    moved = rename f m.moved;
    prune = rename-prune m.prune;
    graft = rename-graft m.graft;
    gives = rename-topology m.moved u m.gives;
  }

  -- its interchanges
  rename-forks : {x y t : Tree} → Forks x y t → Forks (rename f x) (rename f y) (rename f t)
  rename-forks in_order = in_order
  rename-forks turned = turned

  rename-swap : {t u : Tree} → Interchange t u → Interchange (rename f t) (rename f u)
  rename-swap (Interchange.here p q) = Interchange.here (rename-forks p) (rename-forks q)
  rename-swap (Interchange.in_first i) = Interchange.in_first (rename-swap i)
  rename-swap (Interchange.in_second i) = Interchange.in_second (rename-swap i)

  rename-interchange : (t u : Tree) → OneInterchange t u → OneInterchange (rename f t) (rename f u)
  rename-interchange t u i = record { moved = rename f i.moved; interchange = rename-swap i.interchange; gives = rename-topology i.moved u i.gives }

-- ---- a rule that g takes back
-- g takes the new labels of t back
abbrev pub Back : (ℕ → ℕ) → (ℕ → ℕ) → Tree → Type 0
Back f g t = (l : ℕ) → In l t → g (f l) ≡ l

module _ (f g : ℕ → ℕ) where
  rename-back : (t : Tree) → Back f g t → rename g (rename f t) ≡ t
  rename-back (leaf n) b = ap leaf (b n tip)
  rename-back (fork a c) b = ap₂ fork (rename-back a (λ l i. b l (In.first i))) (rename-back c (λ l i. b l (In.second i)))

  -- f takes back what g does
  back-back : (t : Tree) → Back f g t → Back g f (rename f t)
  back-back t b l i = let (m, j, e) = in-rename f t i in rw (← e) (ap f (b m j))

  back-once : (t : Tree) → Back f g t → (l m : ℕ) → In l t → In m t → f l ≡ f m → l ≡ m
  back-once t b l m i j e = sym (b l i) ∙ ap g e ∙ b m j

  pub rename-distinct : (t : Tree) → Back f g t → Distinct t → Distinct (rename f t)
  rename-distinct (leaf n) o D = tt
  rename-distinct (fork a b) o D = (
    rename-distinct a (λ l i. o l (In.first i)) D.0,
    rename-distinct b (λ l i. o l (In.second i)) D.1,
    λ l i j.
        let (m, i', e) = in-rename f a i in
        let (k, j', h) = in-rename f b j in
        let same : m ≡ k = back-once (fork a b) o m k (In.first i') (In.second j') (e ∙ sym h) in
        D.2 m i' (subst (λ (x : ℕ). In x b) (sym same) j'),
  )

  -- ---- unrooted trees: edges and what they split
  rename-below : {s t : Tree} → Below s t → Below (rename f s) (rename f t)
  rename-below (Below.first n) = Below.first (rename-node f n)
  rename-below (Below.second n) = Below.second (rename-node f n)

  below-rename : (t : Tree) {s : Tree} → Below s (rename f t) → (r : Tree) × Below r t × (rename f r ≡ s)
  below-rename (leaf n) b = elim b [ ]
  below-rename (fork a b) (Below.first n) = let (r, m, e) = node-rename f a n in (r, Below.first m, e)
  below-rename (fork a b) (Below.second n) = let (r, m, e) = node-rename f b n in (r, Below.second m, e)

  below_in : {s t : Tree} → Below s t → s ⊆ t
  below_in (Below.first n) l i = In.first (node_in n l i)
  below_in (Below.second n) l i = In.second (node_in n l i)

  rename-opposite : (t s r : Tree) → Back f g t → s ⊆ t → r ⊆ t → Opposite t s r → Opposite (rename f t) (rename f s) (rename f r)
  rename-opposite t s r b h k o = record {
    cover = λ l i.
        let (m, j, e) = in-rename f t i in
        subst (λ (x : ℕ). In x (rename f s) ⊎ In x (rename f r)) e (either_way (o.cover m j));
    apart = λ l i j.
        let (m, i', e) = in-rename f s i in
        let (n, j', d) = in-rename f r j in
        let same : m ≡ n = back-once t b m n (h m i') (k n j') (e ∙ sym d) in
        o.apart m i' (subst (λ (x : ℕ). In x r) (sym same) j');
  }
    where
      either_way : {m : ℕ} → In m s ⊎ In m r → In (f m) (rename f s) ⊎ In (f m) (rename f r)
      either_way (inl i) = inl (rename-in f i)
      either_way (inr i) = inr (rename-in f i)

  rename-splits-within : (t u : Tree) → Back f g t → u ⊆ t → SplitsWithin t u → SplitsWithin (rename f t) (rename f u)
  rename-splits-within t u b h W s n =
      let (q, m, e) = below-rename t n in
      let (r, k, c) = W q m in
      (rename f r, rename-below k, subst (λ (x : Tree). SameClade x (rename f r) ⊎ Opposite (rename f t) x (rename f r)) e (side q r m k c))
    where
      side : (q r : Tree) → Below q t → Below r u → SameClade q r ⊎ Opposite t q r → SameClade (rename f q) (rename f r) ⊎ Opposite (rename f t) (rename f q) (rename f r)
      side q r m k (inl c) = inl (rename-clade f q r c)
      side q r m k (inr o) = inr (rename-opposite t q r b (below_in m) (λ l i. h l (below_in k l i)) o)

  back-clade : (t u : Tree) → SameClade t u → Back f g t → Back f g u
  back-clade t u c b l i = b l (c.1 l i)

  rename-splits : (t u : Tree) → Back f g t → SameSplits t u → SameSplits (rename f t) (rename f u)
  rename-splits t u b e =
      let c : SameClade t u = e.0 in
      (rename-clade f t u c, rename-splits-within t u b c.1 e.1, rename-splits-within u t (back-clade t u c b) c.0 e.2)

  rename-move_unrooted : (t u : Tree) → Back f g t → OneMoveU t u → OneMoveU (rename f t) (rename f u)
  rename-move_unrooted t u b m =
      let cut = m.cut in
      let whole : Back f g (parts cut) = back-clade t (parts cut) m.edge.splits.0 b in
      record {
        cut = record { rest = rename f cut.rest; pruned = rename f cut.pruned };
        moved = rename f m.moved;
        edge = record { distinct = rename-distinct (parts cut) whole m.edge.distinct; splits = rename-splits t (parts cut) b m.edge.splits };
        graft = rename-graft f m.graft;
        gives = rename-splits m.moved u (λ l i. whole l (graft-in m.graft l i)) m.gives;
      }

  -- ---- either kind
  pub rename-same_as : (k : Kind) (t u : Tree) → Back f g t → SameAs k t u → SameAs k (rename f t) (rename f u)
  rename-same_as rooted t u b e = rename-topology f t u e
  rename-same_as unrooted t u b e = rename-splits t u b e

  rename-move_as : (k : Kind) (t u : Tree) → Back f g t → OneMoveAs k t u → OneMoveAs k (rename f t) (rename f u)
  rename-move_as rooted t u b m = rename-move f t u m
  rename-move_as unrooted t u b m = rename-move_unrooted t u b m

-- ---- both ways
module _ (f g : ℕ → ℕ) (k : Kind) (t u : Tree) (b : Back f g t) (c : Back f g u) where
  -- one topology exactly when the renamed trees have one
  pub same-renamed : SameAs k t u ↔ SameAs k (rename f t) (rename f u)
  same-renamed = (
    rename-same_as f g k t u b,
    λ e. subst₂ (SameAs k) (rename-back f g t b) (rename-back f g u c) (rename-same_as g f k (rename f t) (rename f u) (back-back f g t b) e),
  )

  move-renamed : OneMoveAs k t u ↔ OneMoveAs k (rename f t) (rename f u)
  move-renamed = (
    rename-move_as f g k t u b,
    λ e. subst₂ (OneMoveAs k) (rename-back f g t b) (rename-back f g u c) (rename-move_as g f k (rename f t) (rename f u) (back-back f g t b) e),
  )

  -- one move apart exactly when the renamed trees are
  pub apart-renamed : ApartAs k t u ↔ ApartAs k (rename f t) (rename f u)
  apart-renamed = (λ a. (λ e. a.0 (same-renamed.1 e), move-renamed.0 a.1), λ a. (λ e. a.0 (same-renamed.0 e), move-renamed.1 a.1))

  -- one interchange apart likewise
  pub interchange-renamed : OneInterchange t u ↔ OneInterchange (rename f t) (rename f u)
  interchange-renamed = (
    rename-interchange f t u,
    λ e. subst₂ OneInterchange (rename-back f g t b) (rename-back f g u c) (rename-interchange g (rename f t) (rename f u) e),
  )
