-- Entries: where they stand, that their forests are compared, and that equal forests have equal keys.
-- Assumes nothing.
use mathlib.Core.Path.{◌≡◌, sym, subst, ◌∙◌}
use mathlib.Core.Logic.{◌⊎◌, inl, inr}
use mathlib.Core.Bool.{Bool, true}
use mathlib.Core.List.{List}
use Prim.Native.Nat.{ℕ, ◌<◌}
use native.Mathlib.Decide.{ℕ_discrete, dec_lt}
use native.Mathlib.Omega.{arith}
use lib.ListN.{get_or}
use Rattle.meaning.specs.Tree.{Tree as Topology, canon}
use Rattle.meaning.specs.Move.{Cut}
use Rattle.meaning.specs.Listing.{tree_of}
use Rattle.held.specs.Held.{Holds}
use Rattle.held.specs.Kept.{KeepsAll, held_at}
use Rattle.held.specs.declared.Table.{Table}
use Rattle.held.proofs.Kept.{keeps-holds}
use Rattle.pairs.specs.Pair.{OrderedCut, SameForest}
use Rattle.pairs.proofs.Ordered.{canon-in-order}
use Rattle.prints.proofs.Print.{key-same, key-some}
use Rattle.chains.specs.Chains.{Last, HasKey}
use Rattle.chains.proofs.Laws.{last_less, Walk, walk_begins, walk-further, walk_ends}
use Rattle.sharing.specs.Links.{Square, is_linked, LinkedIn}
use Rattle.sharing.specs.Entries.{tree_no, cut_no, forest_at, Entry, SameAs, Keyed, Seeks, Linkable, LinkedBack}
use Rattle.sharing.proofs.Links.{put, put-square, put-here, put-other}

-- ---- forests that are the same
pub same-turned : {c d : Cut} → SameForest c d → SameForest d c
same-turned s = record { pruned = sym s.pruned; rest = sym s.rest }

pub same-through : {c d e : Cut} → SameForest c d → SameForest d e → SameForest c e
same-through s r = record { pruned = s.pruned ∙ r.pruned; rest = s.rest ∙ r.rest }

-- ---- an entry's tree
module _ {ts : List Topology} {e : ℕ} (E : Entry ts e) where
  pub entry-some : 0 < e
  entry-some = omega (arith, E.node)

  module _ {table : Table} (K : KeepsAll table ts) where
    pub entry-tree : tree_no e < 160
    entry-tree = omega (arith, E.inside, K.few)

    pub entry-holds : Holds (held_at table (tree_no e)).node 0 (canon (tree_of ts (tree_no e)))
    entry-holds = keeps-holds (K.each (tree_no e) E.inside)

    pub entry-cut : OrderedCut (held_at table (tree_no e)).node (cut_no e)
    entry-cut =
        let t = tree_of ts (tree_no e) in
        record { tree = canon t; holds = entry-holds; in_order = canon-in-order t (K.each (tree_no e) E.inside).good.distinct; is_cut = E.is_cut }

-- ---- keys
module _ {ts : List Topology} {keys : List ℕ} (K : Keyed ts keys) {e : ℕ} (E : Entry ts e) where
  -- an entry with the same forest has the same key
  pub same_key : (q : ℕ) → SameAs ts e q → HasKey keys (get_or keys e 0) q
  same_key q s = K.own q s.entry ∙ key-same (forest_at ts q) (forest_at ts e) s.same.pruned s.same.rest ∙ sym (K.own e E)

  -- and what has its key is an entry
  pub key-entry : (q : ℕ) → HasKey keys (get_or keys e 0) q → Entry ts q
  key-entry q h = go (K.others q)
    where
      go : (get_or keys q 0 ≡ 0) ⊎ Entry ts q → Entry ts q
      go (inl z) = absurd (key-some (forest_at ts e) (sym (K.own e E) ∙ sym h ∙ z))
      go (inr i) = i

-- ---- the search for the last entry with the forest of e, among those with its key
module _ {ts : List Topology} {table : Table} {keys same : List ℕ} {end e : ℕ} (S : Seeks ts table keys same end e) where
  abbrev pub Seek : ℕ → Type 0
  Seek q = Walk (HasKey keys (get_or keys e 0)) (SameAs ts e) e q

  seek-key : (q : ℕ) → SameAs ts e q → HasKey keys (get_or keys e 0) q
  seek-key = same_key S.laid.keyed S.entry

  pub seek-first : Last (HasKey keys (get_or keys e 0)) e (get_or same e 0)
  seek-first = S.found e (entry-some S.entry) S.before

  pub seek-begins : Seek (get_or same e 0)
  seek-begins = walk_begins seek-key seek-first

  module _ {q : ℕ} (W : Seek q) (some : 0 < q) where
    pub seek-entry : Entry ts q
    seek-entry = key-entry S.laid.keyed S.entry q (W.is some).1

    pub seek-below : q < 20480
    seek-below = omega (arith, (W.is some).0, S.before, S.few)

    seek-next : Last (HasKey keys (get_or keys e 0)) q (get_or same q 0)
    seek-next = subst (λ (k : ℕ). Last (HasKey keys k) q (get_or same q 0)) (W.is some).1 (S.found q some (omega (arith, (W.is some).0, S.before)))

    pub seek-less : get_or same q 0 < q
    seek-less = last_less some seek-next

    pub seek-further : (SameForest (forest_at ts q) (forest_at ts e) → ⊥) → Seek (get_or same q 0)
    seek-further other = walk-further seek-key W some (λ s. other s.same) seek-next

    pub seek-ends : SameForest (forest_at ts q) (forest_at ts e) → Last (SameAs ts e) e q
    seek-ends s = walk_ends (λ _. record { entry = seek-entry; same = s }) W

-- ---- links back from e
-- the trees of entries behind q and before e that have its forest are linked to that of e; q is the next of them, or 0
pub record Back (ts : List Topology) (links links' : List (List Bool)) (e q : ℕ) : Type 0 where
  pub is : 0 < q → (q < e) × SameAs ts e q
  pub all : (x : ℕ) → q < x → x < e → SameAs ts e x → LinkedIn links' (tree_no x) (tree_no e)
  pub kept : (i j : ℕ) → LinkedIn links i j → LinkedIn links' i j
  pub only : (i j : ℕ) → LinkedIn links' i j → LinkedIn links i j ⊎ ((x : ℕ) × (i ≡ tree_no x) × (j ≡ tree_no e) × SameAs ts e x)
  pub square : Square links'

module _ {ts : List Topology} {twins : List ℕ} {e : ℕ} (L : Linkable ts twins e) where
  pub column : tree_no e < 160
  column = omega (arith, L.entry.inside, L.few)

  pub entry-below : e < 20480
  entry-below = omega (arith, column)

  back-first : Last (SameAs ts e) e (get_or twins e 0)
  back-first = L.twinned e L.entry (omega arith)

  pub twin-less : get_or twins e 0 < e
  twin-less = last_less (entry-some L.entry) back-first

  pub back-begins : (links : List (List Bool)) → Square links → Back ts links links e (get_or twins e 0)
  back-begins links square = record {
    is = back-first.is;
    all = λ x h g s. absurd (back-first.none x h g s);
    kept = λ i j l. l;
    only = λ i j l. inl l;
    square = square;
  }

  module _ {links links' : List (List Bool)} {q : ℕ} (B : Back ts links links' e q) (some : 0 < q) where
    own : SameAs ts e q
    own = (B.is some).1

    pub row : tree_no q < 160
    row = omega (arith, own.entry.inside, L.few)

    pub twin-below : q < 20480
    twin-below = omega (arith, row)

    back-next : Last (SameAs ts q) q (get_or twins q 0)
    back-next = L.twinned q own.entry (omega (arith, (B.is some).0))

    pub back-less : get_or twins q 0 < q
    back-less = last_less some back-next

    -- its flag is set
    abbrev marked : List (List Bool)
    marked = put links' (tree_no q) (tree_no e) true

    pub back-further : Back ts links marked e (get_or twins q 0)
    back-further = record {
      is = λ h. let (lt, s) = back-next.is h in (omega (arith, (B.is some).0), record { entry = s.entry; same = same-through s.same own.same });
      all = λ x h g s. go x h g s (ℕ_discrete x q) (dec_lt x q);
      kept = λ i j l. mark i j (B.kept i j l);
      only = λ i j l. unmark i j l (ℕ_discrete i (tree_no q)) (ℕ_discrete j (tree_no e));
      square = put-square links' (tree_no q) (tree_no e) true B.square row column;
    }
      where
        set : LinkedIn marked (tree_no q) (tree_no e)
        set = put-here links' (tree_no q) (tree_no e) true B.square row column

        other : (i j : ℕ) → (i ≡ tree_no q → j ≡ tree_no e → ⊥) → is_linked marked i j ≡ is_linked links' i j
        other i j n = put-other links' (tree_no q) (tree_no e) true B.square row column i j n

        mark : (i j : ℕ) → LinkedIn links' i j → LinkedIn marked i j
        mark i j l = by (ℕ_discrete i (tree_no q)) (ℕ_discrete j (tree_no e))
          where
            by : Dec (i ≡ tree_no q) → Dec (j ≡ tree_no e) → LinkedIn marked i j
            by (yes f) (yes g) = rw (f, g) set
            by (no n) _ = other i j (λ f g. n f) ∙ l
            by (yes f) (no n) = other i j (λ f g. n g) ∙ l

        go : (x : ℕ) → get_or twins q 0 < x → x < e → SameAs ts e x → Dec (x ≡ q) → Dec (x < q) → LinkedIn marked (tree_no x) (tree_no e)
        go x h g s (yes at) _ = rw at set
        go x h g s (no n) (yes lt) = absurd (back-next.none x h lt (record { entry = s.entry; same = same-through s.same (same-turned own.same) }))
        go x h g s (no n) (no le) = mark (tree_no x) (tree_no e) (B.all x (omega arith) g s)

        unmark : (i j : ℕ) → LinkedIn marked i j → Dec (i ≡ tree_no q) → Dec (j ≡ tree_no e)
            → LinkedIn links i j ⊎ ((x : ℕ) × (i ≡ tree_no x) × (j ≡ tree_no e) × SameAs ts e x)
        unmark i j l (yes f) (yes g) = inr (q, f, g, own)
        unmark i j l (no n) _ = B.only i j (sym (other i j (λ f g. n f)) ∙ l)
        unmark i j l (yes f) (no n) = B.only i j (sym (other i j (λ f g. n g)) ∙ l)

  pub back-ends : {links links' : List (List Bool)} {q : ℕ} → q ≡ 0 → Back ts links links' e q → LinkedBack ts links links' e
  back-ends z B = record { all = λ x h s. B.all x (omega (arith, entry-some s.entry)) h s; kept = B.kept; only = B.only; square = B.square }
