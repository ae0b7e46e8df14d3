-- Trees linked by the forests that they share: entry after entry, and that these are the first positions one move apart.
-- Assumes nothing.
use mathlib.Core.Path.{◌≡◌, sym, ap, ap₂, subst, subst₂, ◌∙◌}
use mathlib.Core.Logic.{◌⊎◌, inl, inr}
use mathlib.Core.Bool.{Bool}
use mathlib.Core.List.{List}
use Prim.Native.Nat.{ℕ, ◌+◌, ◌*◌, ◌≤◌, ◌<◌}
use native.Mathlib.Decide.{ℕ_discrete}
use native.Mathlib.Omega.{arith}
use lib.ListN.{length, get_or, set}
use lib.Seq.{get_or-set_same, get_or-set_other}
use Rattle.meaning.specs.Limits.{max_trees}
use Rattle.meaning.specs.Tree.{Tree as Topology, Good, AllGood, SameTopology, canon}
use Rattle.meaning.specs.Move.{cuts, Apart}
use Rattle.meaning.specs.Listing.{tree_of}
use Rattle.meaning.specs.Copies.{first_of, merged, LinkedBy}
use Rattle.meaning.proofs.Canon.{canon-good, topology-iff-canon}
use Rattle.std.proofs.lemmas.Bool.{false≢true}
use Rattle.meaning.proofs.Copies.{first-smallest}
use Rattle.meaning.proofs.TableText.{good-at}
use Rattle.meaning.proofs.Unlinked.{copy-canon}
use Rattle.held.specs.Held.{cut_in}
use Rattle.held.specs.declared.Table.{Table}
use Rattle.held.proofs.Cut.{cuts-nodes}
use Rattle.held.proofs.Laws.{few-nodes}
use Rattle.pairs.specs.Pair.{SameForest, SharesForest}
use Rattle.pairs.proofs.Apart.{share-move, move-share}
use Rattle.prints.proofs.Print.{key-some}
use Rattle.chains.specs.Chains.{row_entries, entries, Found, Last}
use Rattle.sharing.specs.Links.{Square, LinkedIn, NoneLinked, Shows}
use Rattle.sharing.specs.Entries.{tree_no, cut_no, forest_at, Entry, SameAs, Keyed, Laid, Seeks, Twins, Linkable, LinkedBack, Sharing, SharesLinked}

-- ---- the entries before e are seen to
pub record Shared (ts : List Topology) (links : List (List Bool)) (twins : List ℕ) (e : ℕ) : Type 0 where
  pub shares : SharesLinked ts links e
  pub twinned : Twins ts twins e

-- none is
pub shared-none : {ts : List Topology} {links : List (List Bool)} {twins : List ℕ} → Square links → NoneLinked links → Shared ts links twins 1
shared-none square empty = record {
  shares = record { all = λ q e h g. absurd (omega arith); only = λ i j l. absurd (false≢true (sym (empty i j) ∙ l)); square = square };
  twinned = λ e E h. absurd (omega (arith, E.node));
}

-- what has no key is no entry
pub shared-past : {ts : List Topology} {keys : List ℕ} {links : List (List Bool)} {twins : List ℕ} {e : ℕ} → Keyed ts keys → get_or keys e 0 ≡ 0 → Shared ts links twins e → Shared ts links twins (e + 1)
shared-past {ts} {keys} {links} {twins} {e} K z S = record {
  shares = record { all = λ q x h g E s. S.shares.all q x h (passed x g E) E s; only = S.shares.only; square = S.shares.square };
  twinned = λ x E h. S.twinned x E (passed x h E);
}
  where
    passed : (x : ℕ) → x < e + 1 → Entry ts x → x < e
    passed x h E = go (ℕ_discrete x e)
      where
        go : Dec (x ≡ e) → x < e
        go (yes at) = absurd (key-some (forest_at ts x) (sym (K.own x E) ∙ ap (λ (y : ℕ). get_or keys y 0) at ∙ z))
        go (no n) = omega arith

-- what has one is
pub entry_of : {ts : List Topology} {keys : List ℕ} {e : ℕ} → Keyed ts keys → ¬ (get_or keys e 0 ≡ 0) → Entry ts e
entry_of {ts} {keys} {e} K some = go (K.others e)
  where
    go : (get_or keys e 0 ≡ 0) ⊎ Entry ts e → Entry ts e
    go (inl z) = absurd (some z)
    go (inr E) = E

pub entry-seeks : {table : Table} {ts : List Topology} {keys same : List ℕ} {end e : ℕ} → Laid table ts keys → Found keys same end → end ≤ entries → e < end
    → ¬ (get_or keys e 0 ≡ 0) → Seeks ts table keys same end e
entry-seeks L found few lt some = record { laid = L; found = found; few = few; before = lt; entry = entry_of L.keyed some }

module _ {ts : List Topology} {links : List (List Bool)} {twins : List ℕ} {e r : ℕ} (few : length ts ≤ max_trees) (E : Entry ts e) (room : e < length twins) (twin : Last (SameAs ts e) e r)
    (S : Shared ts links twins e) where
  twins-more : Twins ts (set twins e r) (e + 1)
  twins-more x X h = go (ℕ_discrete x e)
    where
      go : Dec (x ≡ e) → Last (SameAs ts x) x (get_or (set twins e r) x 0)
      go (yes at) = rw (at, get_or-set_same twins e r 0 room) twin
      go (no n) = rw (get_or-set_other twins e x r 0 n) (S.twinned x X (omega arith))

  pub twins-linkable : Linkable ts (set twins e r) e
  twins-linkable = record { few = few; entry = E; twinned = twins-more }

  pub shared-more : {links' : List (List Bool)} → LinkedBack ts links links' e → Shared ts links' (set twins e r) (e + 1)
  shared-more {links'} B = record {
    shares = record { all = λ q x h g X s. go q x h g X s (ℕ_discrete x e); only = λ i j l. from i j (B.only i j l); square = B.square };
    twinned = twins-more;
  }
    where
      go : (q x : ℕ) → q < x → x < e + 1 → Entry ts x → SameAs ts x q → Dec (x ≡ e) → LinkedIn links' (tree_no q) (tree_no x)
      go q x h g X s (yes at) =
          subst (λ (y : ℕ). LinkedIn links' (tree_no q) (tree_no y)) (sym at) (B.all q (omega arith) (subst (λ (y : ℕ). SameAs ts y q) at s))
      go q x h g X s (no n) = B.kept (tree_no q) (tree_no x) (S.shares.all q x h (omega arith) X s)

      from : (i j : ℕ) → LinkedIn links i j ⊎ ((q : ℕ) × (i ≡ tree_no q) × (j ≡ tree_no e) × SameAs ts e q) → Sharing ts i j
      from i j (inl l) = S.shares.only i j l
      from i j (inr (q, f, g, s)) = record { one = q; two = e; in_one = f; in_two = g; entry = E; same = s }

-- ---- cut c of the first tree i as an entry
module _ (ts : List Topology) (i c : ℕ) (inside : i < length ts) (good : Good (tree_of ts i)) (cut : c < length (cuts (canon (tree_of ts i)))) where
  abbrev place : ℕ
  place = i * 128 + (c + 1)

  small : c + 1 < 127
  small = omega (arith, cut, cuts-nodes (canon (tree_of ts i)), few-nodes (canon-good good))

  pub tree_is : tree_no place ≡ i
  tree_is = omega (arith, small)

  pub cut-is : cut_no place ≡ c
  cut-is = omega (arith, small)

  pub forest-is : forest_at ts place ≡ cut_in (canon (tree_of ts i)) c
  forest-is = ap₂ (λ (j d : ℕ). cut_in (canon (tree_of ts j)) d) tree_is cut-is

  pub entry_at : first_of ts i ≡ i → Entry ts place
  entry_at first = record {
    inside = omega (arith, tree_is);
    first = subst (λ (j : ℕ). first_of ts j ≡ j) (sym tree_is) first;
    node = omega (arith, small);
    is_cut = subst₂ (λ (j d : ℕ). d < length (cuts (canon (tree_of ts j)))) (sym tree_is) (sym cut-is) cut;
  }

-- ---- which first positions are linked
module _ {ts : List Topology} {links : List (List Bool)} (good : AllGood ts) (S : SharesLinked ts links (length ts * row_entries)) where
  -- where they share a forest
  linked-apart : (i j : ℕ) → i < j → j < length ts → Sharing ts i j → LinkedBy merged Apart ts i j
  linked-apart i j h l s =
      let e = s.same.entry in
      let first : first_of ts i ≡ i = subst (λ (k : ℕ). first_of ts k ≡ k) (sym s.in_one) e.first in
      let first' : first_of ts j ≡ j = subst (λ (k : ℕ). first_of ts k ≡ k) (sym s.in_two) s.entry.first in
      let G = good-at ts good i (omega arith) in
      let H = good-at ts good j l in
      let shares : SharesForest (canon (tree_of ts i)) (canon (tree_of ts j)) = rw (s.in_one, s.in_two) (record { one = cut_no s.one; two = cut_no s.two; is_cut = e.is_cut; is-cut' = s.entry.is_cut; agree = s.same.same }) in
      let differ : ¬ SameTopology (tree_of ts i) (tree_of ts j) =
      λ same. omega (arith, first', first-smallest ts j i l (omega arith) ((copy-canon ts j i).1 (sym ((topology-iff-canon G.distinct H.distinct).0 same)))) in
      (first, first', (differ, share-move G H shares))

  -- and where they are one move apart
  apart-linked : (i j : ℕ) → i < j → j < length ts → LinkedBy merged Apart ts i j → LinkedIn links i j
  apart-linked i j h l (first, first', apart) =
      let i-in : i < length ts = omega arith in
      let G = good-at ts good i i-in in
      let H = good-at ts good j l in
      let s = move-share G H apart.1 in
      let c = s.one in
      let d = s.two in
      let same : SameForest (forest_at ts (i * 128 + (c + 1))) (forest_at ts (j * 128 + (d + 1))) =
      subst₂ SameForest (sym (forest-is ts i c i-in G s.is_cut)) (sym (forest-is ts j d l H s.is-cut')) s.agree in
      let one = entry_at ts i c i-in G s.is_cut first in
      let two = entry_at ts j d l H s.is-cut' first' in
      let row = tree_is ts i c i-in G s.is_cut in
      let column = tree_is ts j d l H s.is-cut' in
      subst₂ (LinkedIn links) row column (S.all (i * 128 + (c + 1)) (j * 128 + (d + 1)) (omega (arith, row, column)) (omega (arith, column)) two (record { entry = one; same = same }))

  pub sharing-shows : Shows links (length ts) (LinkedBy merged Apart ts)
  sharing-shows i j h l = (λ x. linked-apart i j h l (S.only i j x), apart-linked i j h l)
