-- Keys laid out one tree after another.
-- Assumes nothing.
use mathlib.Core.Path.{◌≡◌, sym, ap, subst, ◌∙◌}
use mathlib.Core.Logic.{◌⊎◌, inl, inr}
use mathlib.Core.List.{List}
use Prim.Native.Nat.{ℕ, ◌+◌, ◌*◌, ◌≤◌, ◌<◌}
use native.Mathlib.Decide.{ℕ_discrete, dec_lt}
use native.Mathlib.Omega.{arith}
use lib.ListN.{length, get_or}
use Rattle.meaning.specs.Tree.{Tree as Topology, Good, canon}
use Rattle.meaning.specs.Move.{cuts}
use Rattle.meaning.specs.Listing.{tree_of}
use Rattle.meaning.specs.Copies.{first_of}
use Rattle.meaning.proofs.Canon.{canon-good}
use Rattle.held.specs.Held.{nodes, cut_in}
use Rattle.chains.specs.Chains.{row_entries}
use Rattle.held.proofs.Cut.{cuts-nodes}
use Rattle.held.proofs.Laws.{few-nodes}
use Rattle.prints.specs.Print.{key}
use Rattle.prints.specs.Keys.{KeysNoted}
use Rattle.sharing.specs.Entries.{tree_no, cut_no, forest_at, Entry}

-- the keys of the first n trees are laid out
pub record KeyedTo (ts : List Topology) (keys : List ℕ) (n : ℕ) : Type 0 where
  pub own : (e : ℕ) → Entry ts e → tree_no e < n → get_or keys e 0 ≡ key (forest_at ts e)
  pub others : (e : ℕ) → (get_or keys e 0 ≡ 0) ⊎ Entry ts e
  pub behind : (e : ℕ) → n * row_entries ≤ e → get_or keys e 0 ≡ 0

-- none is
pub laid_none : {ts : List Topology} {keys : List ℕ} → ((e : ℕ) → get_or keys e 0 ≡ 0) → KeyedTo ts keys 0
laid_none none = record { own = λ e E h. absurd (omega arith); others = λ e. inl (none e); behind = λ e h. none e }

-- a copy has none
pub laid-copy : {ts : List Topology} {keys : List ℕ} {i : ℕ} → ¬ (first_of ts i ≡ i) → KeyedTo ts keys i → KeyedTo ts keys (i + 1)
laid-copy {ts} {keys} {i} copy L = record {
  own = λ e E h. mine e E h (ℕ_discrete (tree_no e) i);
  others = L.others;
  behind = λ e h. L.behind e (omega arith);
}
  where
    mine : (e : ℕ) → Entry ts e → tree_no e < i + 1 → Dec (tree_no e ≡ i) → get_or keys e 0 ≡ key (forest_at ts e)
    mine e E h (yes at) = absurd (copy (subst (λ (k : ℕ). first_of ts k ≡ k) at E.first))
    mine e E h (no n) = L.own e E (omega arith)

unchanged : {x y : ℕ} {P : Type 0} → y ≡ x → (x ≡ 0) ⊎ P → (y ≡ 0) ⊎ P
unchanged e (inl z) = inl (e ∙ z)
unchanged e (inr p) = inr p

-- the keys of a first tree
module _ {ts : List Topology} {keys keys' : List ℕ} {i : ℕ} (first : first_of ts i ≡ i) (inside : i < length ts) (good : Good (tree_of ts i))
    (noted : KeysNoted (canon (tree_of ts i)) keys keys' (i * 128)) (L : KeyedTo ts keys i) where
  abbrev t : Topology
  t = canon (tree_of ts i)

  few : nodes t ≤ 127
  few = few-nodes (canon-good good)

  mine : (e : ℕ) → Entry ts e → tree_no e < i + 1 → Dec (tree_no e ≡ i) → get_or keys' e 0 ≡ key (forest_at ts e)
  mine e E h (yes at) =
      let place : e ≡ i * 128 + (cut_no e + 1) = omega (arith, E.node) in
      ap (λ (x : ℕ). get_or keys' x 0) place ∙ noted.own (cut_no e) (subst (λ (j : ℕ). cut_no e < length (cuts (canon (tree_of ts j)))) at E.is_cut)
      ∙ ap (λ (j : ℕ). key (cut_in (canon (tree_of ts j)) (cut_no e))) (sym at)
  mine e E h (no n) = noted.before e (omega arith) ∙ L.own e E (omega arith)

  -- what stands in its row is an entry
  in_row : (e : ℕ) → i * 128 < e → e < i * 128 + nodes t → Entry ts e
  in_row e h g =
      let at : tree_no e ≡ i = omega (arith, few) in
      record {
        inside = omega arith;
        first = subst (λ (j : ℕ). first_of ts j ≡ j) (sym at) first;
        node = omega (arith, few);
        is_cut = subst (λ (j : ℕ). cut_no e < length (cuts (canon (tree_of ts j)))) (sym at) (omega (arith, few, cuts-nodes t));
      }

  other : (e : ℕ) → Dec (i * 128 < e) → Dec (e < i * 128 + nodes t) → (get_or keys' e 0 ≡ 0) ⊎ Entry ts e
  other e (yes h) (yes g) = inr (in_row e h g)
  other e (no n) _ = unchanged (noted.before e (omega arith)) (L.others e)
  other e (yes h) (no n) = unchanged (noted.behind e (omega arith)) (L.others e)

  pub laid-first : KeyedTo ts keys' (i + 1)
  laid-first = record {
    own = λ e E h. mine e E h (ℕ_discrete (tree_no e) i);
    others = λ e. other e (dec_lt (i * 128) e) (dec_lt e (i * 128 + nodes t));
    behind = λ e h. noted.behind e (omega (arith, few)) ∙ L.behind e (omega arith);
  }
