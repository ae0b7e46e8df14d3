-- What the search for a text asks of memory, and a walk over the entries with the text that marks their trees.
-- Assumes nothing.
use mathlib.Core.Path.{◌≡◌, sym, ap, ◌∙◌, subst}
use mathlib.Core.Bool.{Bool, true}
use mathlib.Core.List.{List}
use Prim.Native.Nat.{ℕ, ◌+◌, ◌≤◌, ◌<◌}
use native.Mathlib.Omega.{arith}
use native.Mathlib.Decide.{ℕ_discrete}
use lib.ListN.{length, set}
use Rattle.std.specs.declared.cmp.Ordering.{Ordering}
use Rattle.std.specs.Ordering.{is_eq}
use Rattle.lent.specs.Runs.{Says}
use Rattle.entries.specs.Texts.{Compared}
use Rattle.entries.proofs.Ranking.{same-said}
use Rattle.meaning.specs.Listing.{Pair}
use Rattle.holdings.specs.Slots.{Slot}
use Rattle.holdings.specs.Entries.{entry_text, total}
use Rattle.holdings.specs.Memory.{entry_in, IsIndex, Shelved, Ranked}
use Rattle.holdings.proofs.Entries.{entries-length}
use Rattle.holdings.proofs.Memory.{entries-few, one_index, index-shelved, index-ranked}
use Rattle.entries.specs.Places.{HasEntry, Placing, Placed}
use Rattle.entries.proofs.EntryTexts.{entry-few}
use Rattle.asking.specs.Asking.{Marks, Bears, TextRoom}
use Rattle.asking.proofs.Walk.{Passed, passes}
use Rattle.asking.proofs.Marking.{marks-iff, passed_none, passed-next}

-- ---- what the search asks
module _ {marks : List Bool} {memory : List ℕ} {n : ℕ} (r : TextRoom marks memory n) where
  shelves : Shelved r.slots memory
  shelves = index-shelved r.long r.index

  ranks-all : Ranked r.slots memory n
  ranks-all = subst (Ranked r.slots memory) (sym r.many) (index-ranked r.long r.index)

  pub text-placing : Placing memory n
  text-placing = record {
    slots = r.slots;
    shelved = shelves;
    ranked = ranks-all;
    few = omega (arith, entries-few r.index.trees, entries-length r.slots, r.many);
  }

  pub text-entry : {k : ℕ} {e : Pair} → e ≡ entry_in memory k → k < n → HasEntry memory e
  text-entry {k} is h = record { slots = r.slots; shelved = shelves; entry = rw is (ranks-all.each k h) }

  pub tree-inside : {k : ℕ} → k < n → (entry_in memory k).0 < length marks
  tree-inside {k} h = omega (arith, entry-few shelves (entry_in memory k) (ranks-all.each k h), r.room)

  -- of one set only
  pub same-many : {hs : List Slot} → IsIndex hs memory → n ≡ total hs
  same-many I = r.many ∙ ap total (one_index r.index I)

-- ---- one entry's text
pub same_text : {xs ys text : List ℕ} {o : Ordering} {r : Bool} → r ≡ is_eq o → Compared xs ys o → xs ≡ text → Says r (text ≡ ys)
same_text {ys = ys} {r = r} is c e = subst (λ (l : List ℕ). Says r (l ≡ ys)) e (rw is (same-said c))

-- ---- the walk
-- the entry k has the text
abbrev pub HasAt : List ℕ → List ℕ → ℕ → Type 0
HasAt memory text k = (hs : List Slot) → Shelved hs memory → entry_text hs (entry_in memory k) ≡ text

-- it has another
abbrev pub HasOther : List ℕ → List ℕ → ℕ → Type 0
HasOther memory text k = (hs : List Slot) → Shelved hs memory → ¬ (entry_text hs (entry_in memory k) ≡ text)

-- from p to k all entries have the text, and their trees were marked
pub record Walked (memory text : List ℕ) (p k : ℕ) (marks marks' : List Bool) : Type 0 where
  pub from : p ≤ k
  pub marked : Marks (Passed memory p k) marks marks'
  pub same : (j : ℕ) → p ≤ j → j < k → HasAt memory text j

module _ {memory text : List ℕ} {p : ℕ} where
  pub walked_none : (marks : List Bool) → Walked memory text p p marks marks
  walked_none marks = record { from = omega arith; marked = passed_none memory p marks; same = λ j h l. absurd (omega arith) }

  pub walked_next : {marks marks' : List Bool} {k : ℕ} {e : Pair} → Walked memory text p k marks marks' → e ≡ entry_in memory k → (entry_in memory k).0 < length marks
      → ((hs : List Slot) → Shelved hs memory → entry_text hs e ≡ text) → Walked memory text p (k + 1) marks (set marks' e.0 true)
  walked_next {marks} {marks'} {k} {e} w is inside has = record {
    from = omega (arith, w.from);
    marked = subst (λ (q : Pair). Marks (Passed memory p (k + 1)) marks (set marks' q.0 true)) (sym is) (passed-next memory p w.from inside w.marked);
    same = λ j g l. go j g l (ℕ_discrete j k);
  }
    where
      go : (j : ℕ) → p ≤ j → j < k + 1 → Dec (j ≡ k) → HasAt memory text j
      go j g l (yes q) = subst (HasAt memory text) (sym q) (rw is at has)
      go j g l (no d) = w.same j g (omega arith)

  -- where it ends, the trees of all entries with the text are marked
  pub walked_all : {marks marks' : List Bool} {n k : ℕ} → TextRoom marks memory n → Walked memory text p k marks marks' → k ≤ n → (k < n → HasOther memory text k)
      → ((hs : List Slot) → Shelved hs memory → Placed hs memory n text (0, 0) p)
      → (hs : List Slot) → IsIndex hs memory → Marks (Bears hs text) marks marks'
  walked_all {n} {k} r w few other placed hs I =
      let S = index-shelved r.long I in
      let many = same-many r I in
      marks-iff
      (passes r.long I (subst (λ (m : ℕ). Placed hs memory m text (0, 0) p) many (placed hs S)) k (omega (arith, many)) (λ j h l. w.same j h l hs S)
      (λ h. other (omega (arith, many)) hs S) w.from)
      w.marked
