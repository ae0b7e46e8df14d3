-- The text of an entry, written from the slot of its tree.
-- Assumes nothing.
use mathlib.Core.Path.{◌≡◌, refl, sym, ap, ◌∙◌}
use mathlib.Core.List.{List}
use Prim.Native.Nat.{ℕ, ◌*◌, ◌-◌, ◌≤◌, ◌<◌}
use native.Mathlib.Omega.{arith}
use native.Mathlib.Decide.{dec_lt}
use lib.ListN.{length, take, replicate, length-replicate, get_or-eq_default}
use Rattle.meaning.specs.Limits.{max_trees, forest_bytes}
use Rattle.meaning.specs.Tree.{Tree, leaves}
use Rattle.meaning.specs.Move.{cut_at, forest}
use Rattle.meaning.specs.Listing.{Pair}
use Rattle.meaning.proofs.Length.{forest-length}
use Rattle.meaning.proofs.Forests.{cut_at-good}
use Rattle.lent.specs.Runs.{Wrote}
use Rattle.lent.proofs.Runs.{written-first}
use Rattle.held.specs.Kept.{Keeps}
use Rattle.holdings.specs.Slots.{Slot, free, held, slot_at}
use Rattle.holdings.specs.Entries.{cuts_of, forest_of, entry_text, IsEntry}
use Rattle.holdings.specs.Memory.{Shelved}
use Rattle.writing.specs.Writing.{ForestFits}
use Rattle.slots.specs.Records.{tree_in}
use Rattle.slots.proofs.Shelving.{slot-keeps, one-shelved}
use Rattle.entries.specs.Places.{HasEntry}
use Rattle.entries.specs.Texts.{padded}

-- what has cuts has a tree
cut-tree : (h : Slot) {c : ℕ} → c < cuts_of h → (t : Tree) × (h ≡ held t)
cut-tree free l = absurd (omega arith)
cut-tree (held t) l = (t, refl)

-- an entry's number is one of an index
pub entry-few : {hs : List Slot} {memory : List ℕ} → Shelved hs memory → (e : Pair) → IsEntry hs e → e.0 < max_trees
entry-few {hs} S e l = go (dec_lt e.0 max_trees)
  where
    go : Dec (e.0 < max_trees) → e.0 < max_trees
    go (yes h) = h
    go (no h) =
        let past : slot_at hs e.0 ≡ free = get_or-eq_default hs free (omega (arith, S.trees.many)) in
        let none = rw past at l in
        absurd (omega arith)

module _ {memory : List ℕ} {x c : ℕ} (E : HasEntry memory (x, c)) where
  few : x < max_trees
  few = entry-few E.shelved (x, c) E.entry

  abbrev tree : Tree
  tree = (cut-tree (slot_at E.slots x) E.entry).0

  has : slot_at E.slots x ≡ held tree
  has = (cut-tree (slot_at E.slots x) E.entry).1

  keeps : Keeps (tree_in memory x) tree
  keeps = slot-keeps E.shelved few has

  is_cut : c < 2 * leaves tree - 2
  is_cut = rw has at E.entry

  short : length (forest (cut_at tree c)) ≤ forest_bytes
  short = forest-length (cut_at tree c) (cut_at-good keeps.good c is_cut)

  -- there is room for its text
  pub entry-fits : ForestFits (tree_in memory x) c 0 forest_bytes
  entry-fits = record { topology = tree; keeps = keeps; is_cut = is_cut; room = omega (arith, short) }

  -- and that is what was written
  pub entry-text : {bytes : List ℕ} {len : ℕ} (out : List ℕ) → length out ≡ forest_bytes → ((t : Tree) → Keeps (tree_in memory x) t → Wrote (forest (cut_at t c)) out bytes 0 len)
      → (len ≤ forest_bytes) × ((hs : List Slot) → Shelved hs memory → take len bytes ≡ entry_text hs (x, c))
  entry-text {bytes} {len} out long wrote =
      let w = wrote tree keeps in
      let count : len ≡ length (forest (cut_at tree c)) = omega (arith, w.behind) in
      let own : take len bytes ≡ forest (cut_at tree c) = written-first w (omega (arith, short)) in (
        omega (arith, short),
        λ hs S. own ∙ ap (λ (h : Slot). forest_of h c) (sym has) ∙ ap (λ (l : List Slot). entry_text l (x, c)) (one-shelved E.shelved S),
      )

  -- with zeros behind it, where there were zeros
  pub entry-padded : {bytes : List ℕ} {len : ℕ} → ((t : Tree) → Keeps (tree_in memory x) t → Wrote (forest (cut_at t c)) (replicate forest_bytes 0) bytes 0 len)
      → bytes ≡ padded (take len bytes)
  entry-padded {bytes} {len} wrote =
      let w = wrote tree keeps in
      w.cells ∙ ap padded (sym (written-first w (omega (arith, short, w.behind, length-replicate {A = ℕ} forest_bytes 0))))
