-- The calls on an index: from the text or number and the lent memory at entry to the answer and the memory at exit. In words: docs/RULES.md, 'The calls' and 'The index'.
-- Assumes nothing.
use Rattle.std.specs.Prelude.{◌≡◌, cond, List, [], ◌∷◌, map, ℕ, zero, suc, ◌-◌, eqb, length, replicate, take}
use Rattle.meaning.specs.Limits.{max_trees}
use Rattle.meaning.specs.Tree.{Tree}
use Rattle.meaning.specs.Kind.{Kinded, rooted, either, rooted_only}
use Rattle.meaning.specs.Reading.{Read, got, refused, read_tree, like_first}
use Rattle.meaning.specs.Answer.{Answer, accepted, refusal, Outcome, written, text_of, onward, conclude}
use Rattle.meaning.specs.Calls.{Slice, enough, lent, limited}
use Rattle.holdings.specs.Slots.{Slot, free, held, slot_at, empty, smallest_free, add, remove, trees}
use Rattle.holdings.specs.Neighbours.{Neighbours}
use Rattle.holdings.specs.Memory.{index_bytes, encode, IsIndex, Valid}

-- what opening lent memory gives: what is refused before it is looked at; else the set of held trees that it is of, or line 12 where there is none
pub data Opened (first : Answer (Unit {0})) (memory : List ℕ) : Answer (List Slot) → Type 0 where
  closed : (n i p : ℕ) → first ≡ refusal n i p → Opened first memory (refusal n i p)
  opens : (hs : List Slot) → first ≡ accepted tt → IsIndex hs memory → Opened first memory (accepted hs)
  foreign : first ≡ accepted tt → ¬ Valid memory → Opened first memory (refusal 12 0 0)

-- lent to adding and to removing: 60,640 bytes
abbrev pub index_slices : List ℕ → List Slice
index_slices memory = (index_bytes, length memory) ∷ []

-- what adding refuses before it looks at memory: its size, and then the text's
abbrev pub add_first : List ℕ → List ℕ → Answer (Unit {0})
add_first s memory = lent (enough (index_slices memory)) (limited 0 s (accepted tt))

-- the held trees as a table's, in order of number
abbrev pub table : List Slot → List Kinded
table hs = map (λ (t : Tree). record { kind = rooted; tree = t }) (trees hs)

-- x, which ends at p, where no line says that it can't be held; else that line, at its `;`
abbrev pub fitting : ℕ → Kinded → ℕ → Answer Tree
fitting zero x p = accepted x.tree
fitting (suc n) x p = refusal (suc n) 0 (p - 1)

-- a tree that was read beside the held ones: line 6 where 160 are held, then 10 and 5 as in a table
abbrev pub joined : List Slot → Read Kinded → Answer Tree
joined hs (refused n p) = refusal n 0 p
joined hs (got x p) = cond (eqb (smallest_free hs) max_trees) (refusal 6 0 0) (fitting (like_first rooted_only (table hs) x) x p)

-- what adding reads: the set of held trees, and then the text
abbrev pub add_read : List ℕ → Answer (List Slot) → Answer ((hs : List Slot) × Tree)
add_read s opened = onward opened λ hs. onward (joined hs (read_tree either s)) λ t. accepted (hs, t)

-- the tree added: the answer is its number
abbrev pub add_to : List ℕ → (hs : List Slot) × Tree → Outcome ℕ (List ℕ)
add_to memory r = record { answer = accepted (smallest_free r.0); memory = written (encode (add r.0 r.1)) memory }

-- adding call
pub data AddCall (s memory : List ℕ) : Outcome ℕ (List ℕ) → Type 0 where
  adds : (opened : Answer (List Slot)) → Opened (add_first s memory) memory opened → AddCall s memory (conclude (add_read s opened) memory (add_to memory))

-- line 13: no held tree has the number
abbrev pub having : List Slot → Slot → Answer (List Slot)
having hs free = refusal 13 0 0
having hs (held t) = accepted hs

-- lent to asking: the same bytes, and 160 numbers
abbrev pub ask_slices : List ℕ → List ℕ → List Slice
ask_slices memory list = (index_bytes, length memory) ∷ (max_trees, length list) ∷ []

-- what asking refuses before it looks at memory
abbrev pub ask_first : List ℕ → List ℕ → Answer (Unit {0})
ask_first memory list = lent (enough (ask_slices memory list)) (accepted tt)

-- what asking for the number x, and removing it, reads
abbrev pub number_read : ℕ → Answer (List Slot) → Answer (List Slot)
number_read x opened = onward opened λ hs. having hs (slot_at hs x)

-- asking call: the neighbours of x, and how many they are
pub data AskCall (x : ℕ) (memory list : List ℕ) : Outcome ℕ (List ℕ) → Type 0 where
  lists : (hs : List Slot) (ys : List ℕ) (opened : Answer (List Slot)) → Opened (ask_first memory list) memory opened → number_read x opened ≡ accepted hs → Neighbours hs x ys
      → AskCall x memory list (text_of ys list)
  refuses : (n i p : ℕ) (opened : Answer (List Slot)) → Opened (ask_first memory list) memory opened → number_read x opened ≡ refusal n i p
      → AskCall x memory list (record { answer = refusal n i p; memory = list })

-- what removing refuses before it looks at memory
abbrev pub remove_first : List ℕ → Answer (Unit {0})
remove_first memory = lent (enough (index_slices memory)) (accepted tt)

-- the tree of x removed: nothing but that is answered
abbrev pub remove_from : ℕ → List ℕ → List Slot → Outcome (Unit {0}) (List ℕ)
remove_from x memory hs = record { answer = accepted tt; memory = written (encode (remove hs x)) memory }

-- removing call
pub data RemoveCall (x : ℕ) (memory : List ℕ) : Outcome (Unit {0}) (List ℕ) → Type 0 where
  removes : (opened : Answer (List Slot)) → Opened (remove_first memory) memory opened → RemoveCall x memory (conclude (number_read x opened) memory (remove_from x memory))

-- lent memory after any run of additions and removals from zeros on, and the trees that it holds then
pub data Used : List Slot → List ℕ → Type 0 where
  fresh : (memory : List ℕ) → take index_bytes memory ≡ replicate index_bytes 0 → Used empty memory
  added : {hs : List Slot} {s memory : List ℕ} {o : Outcome ℕ (List ℕ)} {n p : ℕ} {x : Kinded} → Used hs memory → AddCall s memory o
      → o.answer ≡ accepted n → read_tree either s ≡ got x p → Used (add hs x.tree) o.memory
  unchanged : {hs : List Slot} {s memory : List ℕ} {o : Outcome ℕ (List ℕ)} {n i p : ℕ} → Used hs memory → AddCall s memory o
      → o.answer ≡ refusal n i p → Used hs o.memory
  removed : {hs : List Slot} {x : ℕ} {memory : List ℕ} {o : Outcome (Unit {0}) (List ℕ)} → Used hs memory → RemoveCall x memory o → o.answer ≡ accepted tt → Used (remove hs x) o.memory
  kept : {hs : List Slot} {x : ℕ} {memory : List ℕ} {o : Outcome (Unit {0}) (List ℕ)} {n i p : ℕ} → Used hs memory → RemoveCall x memory o
      → o.answer ≡ refusal n i p → Used hs o.memory
