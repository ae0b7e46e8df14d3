-- A tree taken out of an index: the entries of the others are kept, zeros fill what that leaves behind them and the slot, and what is left is the index without the tree.
-- Assumes nothing.
use mathlib.Core.Path.{◌≡◌, refl, sym, ap, ap₂, ◌∙◌}
use mathlib.Core.List.{List, [], ◌∷◌, ◌++◌, map, append_assoc}
use Prim.Native.Nat.{ℕ, zero, suc, ◌+◌, ◌*◌, ◌-◌, ◌≤◌, ◌<◌}
use native.Mathlib.Numerals.{add-one}
use native.Mathlib.Omega.{arith}
use lib.ListN.{length, take, drop, replicate, length-append, length-replicate, replicate-append-replicate}
use lib.Seq.{sets, take-suc, take_all}
use Rattle.meaning.specs.Limits.{max_trees, max_nodes}
use Rattle.meaning.specs.Lists.{positions}
use Rattle.meaning.specs.Sorted.{keep}
use Rattle.meaning.specs.Answer.{written}
use Rattle.meaning.specs.Listing.{Pair, flat}
use Rattle.meaning.proofs.Counts.{flat-length}
use Rattle.meaning.proofs.Keep.{keep-length}
use Rattle.lent.specs.Runs.{Wrote}
use Rattle.lent.proofs.Runs.{over-run, wrote-more}
use Rattle.holdings.specs.Slots.{Slot, free, remove}
use Rattle.holdings.specs.Entries.{total, entries}
use Rattle.holdings.specs.Memory.{entries_at, entry_bytes, index_bytes, slots_bytes, laid, encode, IsIndex, entry_in}
use Rattle.holdings.proofs.SlotBytes.{slot-laid}
use Rattle.holdings.proofs.Entries.{entries-length, entries-removed}
use Rattle.holdings.proofs.HeldTrees.{remove-held}
use Rattle.holdings.proofs.Memory.{slots-size, entries-few, encode-length, behind, laid-parts, entry_at}
use Rattle.removing.specs.Removing.{is_other, others_in}
use Rattle.removing.proofs.Gaps.{read_more}

-- zeros behind zeros
zeros-join : (xs back : List ℕ) (m n k : ℕ) → m + n ≡ k → (xs ++ replicate m 0) ++ (replicate n 0 ++ back) ≡ (xs ++ replicate k 0) ++ back
zeros-join xs back m n k e =
    let joined : replicate {A = ℕ} m 0 ++ replicate n 0 ≡ replicate k 0 = replicate-append-replicate m n 0 ∙ ap (λ (j : ℕ). replicate {A = ℕ} j 0) e in
    rw (← joined) (simp append_assoc)

module _ {hs : List Slot} {memory : List ℕ} (I : IsIndex hs memory) (long : index_bytes ≤ length memory) (x n : ℕ) (inside : x < max_trees) (counted : n ≡ total hs) where
  -- the entries that stay
  abbrev stay : List Pair
  stay = keep (is_other x) (entries hs)

  abbrev back : List ℕ
  back = drop index_bytes memory

  within : x < length hs
  within = omega (arith, I.trees.many)

  many : length (entries hs) ≡ n
  many = entries-length hs ∙ sym counted

  -- the first k entries in memory
  read_first : (k : ℕ) → k ≤ n → map (entry_in memory) (positions k) ≡ take k (entries hs)
  unfolding positions
  read_first zero h = refl
  read_first (suc k) h =
      ap (λ (j : ℕ). map (entry_in memory) (positions j)) (sym (add-one k)) ∙ read_more memory k
      ∙ ap₂ (λ (l : List Pair) (e : Pair). l ++ (e ∷ [])) (read_first k (omega arith)) (entry_at long I k (0, 0) (omega (arith, many)))
      ∙ sym (take-suc (entries hs) k (0, 0) (omega (arith, many)))

  others-are : others_in memory n x ≡ flat stay
  others-are = ap (λ (es : List Pair). flat (keep (is_other x) es)) (read_first n (omega arith) ∙ take_all n (entries hs) (omega (arith, many)))

  module _ {closed cleared : List ℕ} {end : ℕ} (w : Wrote (others_in memory n x) memory closed entries_at end) (v : cleared ≡ sets closed end (replicate (entries_at + 2 * n - end) 0)) where
    abbrev zeros : ℕ
    zeros = entries_at + 2 * n - end

    end_is : end ≡ entries_at + 2 * length stay
    end_is = w.behind ∙ ap (λ (l : List ℕ). entries_at + length l) others-are ∙ ap (λ (k : ℕ). entries_at + k) (flat-length stay)

    few : length stay ≤ n
    few = omega (arith, keep-length (is_other x) (entries hs), many)

    -- the gaps are closed, and there are zeros up to where the last entry stood
    closed-up : cleared ≡ laid hs stay ++ back
    unfolding laid
    closed-up =
        let run : List ℕ = flat stay ++ replicate zeros 0 in
        let size : length run ≡ length (flat (entries hs)) = simp (length-append, length-replicate) (omega (arith, flat-length stay, flat-length (entries hs), many, end_is, few)) in
        (wrote-more w (record { behind = refl; cells = v })).cells
        ∙ ap₂ (λ (l ys : List ℕ). sets l entries_at (ys ++ replicate zeros 0)) (laid-parts I.trees (entries hs) memory I.bytes) others-are
        ∙ over-run (slots_bytes hs) (flat (entries hs)) (behind (entries hs) memory) run entries_at (slots-size I.trees) size
        ∙ ap (λ (l : List ℕ). slots_bytes hs ++ l)
        (zeros-join (flat stay) back zeros (entry_bytes - 2 * length (entries hs)) (entry_bytes - 2 * length stay) (omega (arith, entries-few I.trees, many, end_is, few)))
        ∙ sym (append_assoc (slots_bytes hs) (flat stay ++ replicate (entry_bytes - 2 * length stay) 0) back)

    -- with the slot cleared it is the index without the tree
    pub removed : {freed : List ℕ} → freed ≡ sets cleared (x * max_nodes) (replicate ((x + 1) * max_nodes - x * max_nodes) 0) → freed ≡ written (encode (remove hs x)) memory
    removed u =
        let slot : (x + 1) * max_nodes - x * max_nodes ≡ max_nodes = omega arith in
        u ∙ ap₂ (λ (l : List ℕ) (k : ℕ). sets l (x * max_nodes) (replicate k 0)) closed-up slot ∙ slot-laid hs stay back x free within
        ∙ ap₂ (λ (es : List Pair) (k : ℕ). laid (remove hs x) es ++ drop k memory) (sym (entries-removed hs x within)) (sym (encode-length (remove-held I.trees x inside)))
