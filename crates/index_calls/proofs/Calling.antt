-- The ways through the calls on an index.
-- Assumes nothing.
use mathlib.Core.Path.{◌≡◌, refl, sym, ap, ap₂, ◌∙◌, subst}
use mathlib.Core.Bool.{Bool, true, false, cond}
use mathlib.Core.List.{List}
use Prim.Native.Nat.{ℕ, zero, suc, ◌-◌, ◌≤◌, ◌<◌}
use native.Mathlib.Omega.{arith}
use borrow.Author.Tests.{eq-eqb, ne_eqb}
use lib.ListN.{length}
use Rattle.meaning.specs.Limits.{text_bytes, max_trees}
use Rattle.meaning.specs.Tree.{Tree as Topology}
use Rattle.meaning.specs.Kind.{Kinded, rooted_only, either}
use Rattle.meaning.specs.Reading.{got, read_tree, like_first}
use Rattle.meaning.specs.Answer.{Answer, accepted, refusal, Outcome, written, onward, conclude}
use Rattle.meaning.specs.Calls.{enough, lent}
use Rattle.meaning.proofs.Logic.{clash}
use Rattle.meaning.proofs.Lent.{eight, in-limit}
use Rattle.held.specs.Kept.{KeepsKind}
use Rattle.held.specs.declared.Tree.{Tree}
use Rattle.std.specs.Prelude.{Ok, Err}
use Rattle.tokens.specs.Paper.{number_of, Accepts, Refuses}
use Rattle.tokens.specs.declared.Reason.{Reason}
use Rattle.tokens.specs.declared.Reason.TheVariants.{TooManyTrees, ShortSlice, LongText, NoIndex}
use Rattle.tokens.specs.declared.Refusal.{Refusal}
use Rattle.tokens.proofs.Steps.{numbered}
use Rattle.reading.specs.Whole.{Reads}
use Rattle.reading.specs.declared.TreeRead.{TreeRead}
use Rattle.holdings.specs.Slots.{Slot, free, held, slot_at, smallest_free, add, remove, trees}
use Rattle.holdings.specs.Memory.{index_bytes, encode, IsIndex, Valid, Shelves}
use Rattle.holdings.specs.IndexCalls.{Opened, closed, opens, foreign, index_slices, add_first, table, fitting, add_to, AddCall, adds, having, ask_slices, ask_first, number_read, AskCall, remove_first, remove_from, RemoveCall, removes}
use Rattle.holdings.proofs.HeldTrees.{held-inside}
use Rattle.holdings.proofs.Memory.{index-shelved}
use Rattle.holdings.proofs.NeighbourLists.{neighbours-few}
use Rattle.holdings.proofs.IndexCalls.{fits-table}
use Rattle.asking.specs.Asking.{NeighboursWritten}
use Rattle.calls.specs.Paper.{text_outcome}
use Rattle.calls.proofs.Texts.{wrote-text}
use Rattle.index.specs.Adding.{Adds}
use Rattle.index_calls.specs.Added.{add_outcome, add_joined}
use Rattle.index_calls.specs.Removed.{Barred, short, lacking, fine, remove_outcome}

-- ---- a tree that was read up to p, beside the held trees hs
module _ (hs : List Slot) (x : Kinded) (p : ℕ) (memory : List ℕ) where
  -- what is left where 160 are held, and where they are not
  abbrev after : Bool → Outcome ℕ (List ℕ)
  after full = conclude (onward (cond full (refusal 6 0 0) (fitting (like_first rooted_only (table hs) x) x p)) λ t. accepted (hs, t)) memory (add_to memory)

  abbrev after_line : ℕ → Outcome ℕ (List ℕ)
  after_line n = conclude (onward (fitting n x p) λ t. accepted (hs, t)) memory (add_to memory)

  -- line 6
  pub add-full : (number : ℕ) → number ≡ smallest_free hs → number ≡ max_trees
      → add_outcome (Err (record { reason = TooManyTrees; text = 0; place = 0 })) memory ≡ add_joined hs (got x p) memory
  add-full number e f = ap after (sym (eq-eqb (smallest_free hs) max_trees (sym e ∙ f)))

  module _ (number : ℕ) (is : number ≡ smallest_free hs) (room : number ≡ max_trees → ⊥) (n : ℕ) (line : n ≡ like_first rooted_only (table hs) x) where
    by-line : add_joined hs (got x p) memory ≡ after_line n
    by-line = ap after (ne_eqb (smallest_free hs) max_trees (λ e. room (is ∙ e))) ∙ ap after_line (sym line)

    -- lines 10 and 5
    pub add-unlike : (reason : Reason) → number_of reason ≡ n → add_outcome (Err (record { reason = reason; text = 0; place = p - 1 })) memory ≡ add_joined hs (got x p) memory
    add-unlike reason e = ap (λ (k : ℕ). record { answer = refusal k 0 (p - 1); memory = memory }) e ∙ by n (omega (arith, numbered reason, e)) ∙ sym by-line
      where
        by : (n : ℕ) → 1 ≤ n → record { answer = refusal n 0 (p - 1); memory = memory } ≡ after_line n
        by zero some = absurd (omega (arith, some))
        by (suc n) some = refl

    -- it is added
    pub add_done : {memory' : List ℕ} → n ≡ 0 → memory' ≡ written (encode (add hs x.tree)) memory → add_outcome (Ok number) memory' ≡ add_joined hs (got x p) memory
    add_done none e = ap₂ (λ (k : ℕ) (m : List ℕ). add_outcome (Ok k) m) is e ∙ sym (by-line ∙ ap after_line none)

    -- what `index::add` asks
    pub add-room : {tree : Tree} → n ≡ 0 → IsIndex hs memory → index_bytes ≤ length memory → smallest_free hs ≤ max_trees → KeepsKind tree x → Adds hs x.tree memory tree
    add-room none I long few k =
        record { index = I; long = long; keeps = k.keeps; free = omega (arith, is, few, room); alike = (fits-table I.trees x (trees hs) refl (sym line ∙ none)).1 }

-- ---- adding
module _ (s memory : List ℕ) where
  -- line 7
  pub add-short : enough (index_slices memory) ≡ false → AddCall s memory (add_outcome (Err (record { reason = ShortSlice; text = 0; place = 0 })) memory)
  add-short e = adds (refusal 7 0 0) (closed 7 0 0 (rw e))

  module _ (is-lent : enough (index_slices memory) ≡ true) where
    -- line 8
    pub add-long : text_bytes < length s → AddCall s memory (add_outcome (Err (record { reason = LongText; text = 0; place = 0 })) memory)
    add-long h = adds (refusal 8 0 0) (closed 8 0 0 (rw is-lent (eight 0 s (accepted tt) h)))

    module _ (limit : length s ≤ text_bytes) where
      first : add_first s memory ≡ accepted tt
      first = rw is-lent (in-limit 0 s (accepted tt) limit)

      -- line 12
      pub add-foreign : ¬ Valid memory → AddCall s memory (add_outcome (Err (record { reason = NoIndex; text = 0; place = 0 })) memory)
      add-foreign n = adds (refusal 12 0 0) (foreign first n)

      module _ (v : Valid memory) where
        abbrev hs : List Slot
        hs = v.slots

        opened : Opened (add_first s memory) memory (accepted hs)
        opened = opens hs first v.index

        -- the text's refusal
        pub add-denied : (x : Refusal) → Refuses (read_tree either s) x → AddCall s memory (add_outcome (Err x) memory)
        add-denied x R =
            let told : add_joined hs (read_tree either s) memory ≡ add_outcome (Err x) memory =
            ap (λ g. add_joined hs g memory) R.is ∙ ap (λ (i : ℕ). record { answer = refusal (number_of x.reason) i x.place; memory = memory }) (sym R.first) in
            subst (AddCall s memory) told (adds (accepted hs) opened)

        -- the tree beside the held ones
        pub add-taken : {read : TreeRead} {o : Outcome ℕ (List ℕ)} → Accepts (read_tree either s) read.behind (Reads read)
            → ((ks : List Slot) (x : Kinded) → IsIndex ks memory → KeepsKind read.tree x → o ≡ add_joined ks (got x read.behind) memory) → AddCall s memory o
        add-taken R w =
            subst (AddCall s memory) (ap (λ g. add_joined hs g memory) R.is ∙ sym (w hs R.value v.index R.keeps.keeps)) (adds (accepted hs) opened)

-- ---- asking and removing
-- what opening memory gives, by the line that stands against the number, and what is read of it then
module _ {memory : List ℕ} {x : ℕ} {first : Answer (Unit {0})} where
  barred-open : {fits : Bool} {n : ℕ} → first ≡ lent fits (accepted tt) → Barred memory x fits n → 1 ≤ n → (a : Answer (List Slot)) × Opened first memory a × (number_read x a ≡ refusal n 0 0)
  barred-open e short some = (refusal 7 0 0, closed 7 0 0 e, refl)
  barred-open e (Barred.foreign n) some = (refusal 12 0 0, foreign e n, refl)
  barred-open e (lacking v d) some = (accepted v.slots, opens v.slots e v.index, ap (having v.slots) d)
  barred-open e (fine v t d) some = absurd (omega (arith, some))

  allowed-open : {t : Topology} → first ≡ accepted tt → (v : Valid memory) → slot_at v.slots x ≡ held t → (a : Answer (List Slot)) × Opened first memory a × (number_read x a ≡ accepted v.slots)
  allowed-open e v d = (accepted v.slots, opens v.slots e v.index, ap (having v.slots) d)

-- where no line does, the tree is there
pub allowed : {memory : List ℕ} {x : ℕ} {fits : Bool} {n : ℕ} → Barred memory x fits n → n ≡ 0 → (v : Valid memory) × (t : Topology) × (slot_at v.slots x ≡ held t) × (fits ≡ true)
allowed short z = absurd (omega arith)
allowed (Barred.foreign n) z = absurd (omega arith)
allowed (lacking v d) z = absurd (omega arith)
allowed (fine v t d) z = (v, t, d, refl)

module _ (x : ℕ) (memory list : List ℕ) (fits : Bool) (is : fits ≡ enough (ask_slices memory list)) where
  first-ask : ask_first memory list ≡ lent fits (accepted tt)
  first-ask = ap (λ (b : Bool). lent b (accepted tt)) (sym is)

  -- lines 7, 12 and 13
  pub ask-barred : (reason : Reason) → Barred memory x fits (number_of reason) → AskCall x memory list (text_outcome (Err (record { reason = reason; text = 0; place = 0 })) list)
  ask-barred reason b = let (a, A, e) = barred-open first-ask b (numbered reason) in AskCall.refuses (number_of reason) 0 0 a A e

  -- the list
  pub ask-listed : {t : Topology} {list' : List ℕ} {r : ℕ} → fits ≡ true → max_trees ≤ length list → (v : Valid memory) → slot_at v.slots x ≡ held t → NeighboursWritten v.slots x list list' r
      → AskCall x memory list (text_outcome (Ok r) list')
  ask-listed ample room v d w =
      let few : length w.numbers ≤ length list = omega (arith, neighbours-few v.index.trees w.neighbours) in
      let (a, A, e) = allowed-open (first-ask ∙ ap (λ (b : Bool). lent b (accepted tt)) ample) v d in
      subst (AskCall x memory list) (sym (wrote-text w.wrote few)) (AskCall.lists v.slots w.numbers a A e w.neighbours)

module _ (x : ℕ) (memory : List ℕ) (fits : Bool) (is : fits ≡ enough (index_slices memory)) where
  first-remove : remove_first memory ≡ lent fits (accepted tt)
  first-remove = ap (λ (b : Bool). lent b (accepted tt)) (sym is)

  -- what is left, by what is read
  left : {r : Answer (List Slot)} (a : Answer (List Slot)) → Opened (remove_first memory) memory a → number_read x a ≡ r → RemoveCall x memory (conclude r memory (remove_from x memory))
  left a A e = subst (λ (r : Answer (List Slot)). RemoveCall x memory (conclude r memory (remove_from x memory))) e (removes a A)

  -- lines 7, 12 and 13
  pub remove-barred : (reason : Reason) → Barred memory x fits (number_of reason) → RemoveCall x memory (remove_outcome (Err (record { reason = reason; text = 0; place = 0 })) memory)
  remove-barred reason b = let (a, A, e) = barred-open first-remove b (numbered reason) in left a A e

  -- it is removed
  pub remove-done : {t : Topology} {memory' : List ℕ} → fits ≡ true → (v : Valid memory) → slot_at v.slots x ≡ held t → memory' ≡ written (encode (remove v.slots x)) memory
      → RemoveCall x memory (remove_outcome (Ok tt) memory')
  remove-done ample v d m =
      let (a, A, e) = allowed-open (first-remove ∙ ap (λ (b : Bool). lent b (accepted tt)) ample) v d in
      subst (λ (l : List ℕ). RemoveCall x memory (remove_outcome (Ok tt) l)) (sym m) (left a A e)

-- ---- what the check of the memory gives
pub valid-shelves : {memory : List ℕ} → index_bytes ≤ length memory → Valid memory → Shelves memory
valid-shelves long v = record { slots = v.slots; shelved = index-shelved long v.index }

-- a number that has a tree is one of 160
pub number-inside : {memory : List ℕ} (v : Valid memory) (x : ℕ) {t : Topology} → slot_at v.slots x ≡ held t → x < max_trees
number-inside v x e = omega (arith, held-inside v.slots x e, v.index.trees.many)

-- what the test of a number tells of its slot
pub none-there : (h : Slot) → ¬ (¬ (h ≡ free)) → h ≡ free
none-there free n = refl
none-there (held t) n = absurd (n (λ e. clash cc))
