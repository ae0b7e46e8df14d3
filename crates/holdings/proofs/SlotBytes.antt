-- The slots in memory: each tells what it has, and all of them stand one after another.
-- Assumes nothing.
use mathlib.Core.Path.{◌≡◌, refl, sym, ap, ap₂, ◌∙◌, subst}
use mathlib.Core.List.{List, [], ◌∷◌, ◌++◌, append_assoc}
use Prim.Native.Nat.{ℕ, zero, suc, ◌+◌, ◌*◌, ◌-◌, ◌≤◌, ◌<◌}
use native.Mathlib.Omega.{arith}
use lib.ListN.{length, take, drop, get_or, set, replicate, length-append}
use lib.Seq.{sets, length-sets, take-add, take_at, drop_at, drop-drop, split_at, set_split, length-take-le}
use Rattle.meaning.specs.Limits.{max_nodes}
use Rattle.meaning.specs.Tree.{Tree, leaf, tip, Good}
use Rattle.meaning.specs.Listing.{Pair, flat}
use Rattle.meaning.proofs.Length.{leaves-64}
use Rattle.lent.proofs.Runs.{over-run}
use Rattle.held.specs.Held.{Holds, pre, hold}
use Rattle.held.proofs.Laws.{few-nodes, holding, leafed, unique}
use Rattle.holdings.specs.Slots.{Slot, free, held, slot_at}
use Rattle.holdings.specs.Entries.{cuts_of, total}
use Rattle.holdings.specs.Memory.{entry_bytes, slot_bytes, slots_bytes, laid, slot_in}
use Rattle.holdings.proofs.Bytes.{cut-same}

-- its first byte is no 0
pub held-byte : {t : Tree} → Good t → get_or (hold t) 0 0 ≡ 0 → ⊥
held-byte {t} G e =
    let H = holding t G.small (few-nodes G) in
    let l : t ≡ leaf 0 = leafed H (omega arith) ∙ ap leaf e in
    let s : (1 ≤ 0) × (0 ≤ 64) = (rw l at G.small) 0 tip in
    omega arith

pub slot-length : (h : Slot) → length (slot_bytes h) ≡ max_nodes
slot-length free = refl
slot-length (held t) = length-sets (replicate max_nodes 0) 0 (pre t)

-- a slot tells what it has
pub slot-inj : (h k : Slot) → ((t : Tree) → h ≡ held t → Good t) → ((t : Tree) → k ≡ held t → Good t) → slot_bytes h ≡ slot_bytes k → h ≡ k
slot-inj free free g g' e = refl
slot-inj free (held u) g g' e = absurd (held-byte (g' u refl) (ap (λ (l : List ℕ). get_or l 0 0) (sym e)))
slot-inj (held t) free g g' e = absurd (held-byte (g t refl) (ap (λ (l : List ℕ). get_or l 0 0) e))
slot-inj (held t) (held u) g g' e =
    ap held (unique (subst (λ (l : List ℕ). Holds l 0 t) e (holding t (g t refl).small (few-nodes (g t refl)))) (holding u (g' u refl).small (few-nodes (g' u refl))))

pub slots_length : (hs : List Slot) → length (slots_bytes hs) ≡ length hs * max_nodes
unfolding slots_bytes
slots_length [] = refl
slots_length (h ∷ hs) = simp length-append (omega (arith, slot-length h, slots_length hs))

-- the trees are good
abbrev pub GoodSlots : List Slot → Type 0
GoodSlots hs = (x : ℕ) (t : Tree) → slot_at hs x ≡ held t → Good t

pub slots-inj : (hs ks : List Slot) → length hs ≡ length ks → GoodSlots hs → GoodSlots ks → slots_bytes hs ≡ slots_bytes ks → hs ≡ ks
unfolding slots_bytes
slots-inj [] [] n g g' e = refl
slots-inj [] (k ∷ ks) n g g' e = absurd (omega arith)
slots-inj (h ∷ hs) [] n g g' e = absurd (omega arith)
slots-inj (h ∷ hs) (k ∷ ks) n g g' e =
    let (a, b) = cut-same (slot_bytes h) (slots_bytes hs) (slot_bytes k) (slots_bytes ks) (slot-length h ∙ sym (slot-length k)) e in
    ap₂ ◌∷◌ (slot-inj h k (g 0) (g' 0) a) (slots-inj hs ks (omega arith) (λ x. g (suc x)) (λ x. g' (suc x)) b)

-- at most 126 entries for each number
pub total-le : (hs : List Slot) → GoodSlots hs → total hs ≤ 126 * length hs
unfolding total
total-le [] g = omega arith
total-le (h ∷ hs) g = omega (arith, few h (g 0), total-le hs (λ x. g (suc x)))
  where
    few : (h : Slot) → ((t : Tree) → h ≡ held t → Good t) → cuts_of h ≤ 126
    few free g = omega arith
    few (held t) g = omega (arith, leaves-64 (g t refl))

-- slot by slot, and all at once
pub slots-join : (hs : List Slot) (m : List ℕ) → ((x : ℕ) → x < length hs → slot_in m x ≡ slot_bytes (slot_at hs x)) → take (length hs * max_nodes) m ≡ slots_bytes hs
unfolding slots_bytes
slots-join [] m f = refl
slots-join (h ∷ hs) m f =
    let n : suc (length hs) * max_nodes ≡ max_nodes + length hs * max_nodes = omega arith in
    rw (n, take-add) (ap₂ ◌++◌ (f 0 (omega arith)) (slots-join hs (drop max_nodes m) (λ x l. let d : max_nodes + x * max_nodes ≡ suc x * max_nodes = omega arith in rw (drop-drop (x * max_nodes) max_nodes m, d) (f (suc x) (omega arith)))))

pub slots-part : (hs : List Slot) (m : List ℕ) → (x : ℕ) → x < length hs → slot_in (slots_bytes hs ++ m) x ≡ slot_bytes (slot_at hs x)
unfolding slots_bytes
slots-part [] m x l = absurd (omega arith)
slots-part (h ∷ hs) m zero l = rw append_assoc (take_at (slot_bytes h) (slots_bytes hs ++ m) max_nodes (slot-length h))
slots-part (h ∷ hs) m (suc x) l =
    let d : suc x * max_nodes ≡ max_nodes + x * max_nodes = omega arith in
    rw (append_assoc, d, ← drop-drop (x * max_nodes) max_nodes (slot_bytes h ++ (slots_bytes hs ++ m)), drop_at (slot_bytes h) (slots_bytes hs ++ m) max_nodes (slot-length h)) (slots-part hs m x (omega arith))

slots-append : (hs ks : List Slot) → slots_bytes (hs ++ ks) ≡ slots_bytes hs ++ slots_bytes ks
unfolding slots_bytes
slots-append [] ks = refl
slots-append (h ∷ hs) ks = rw (slots-append hs ks) (sym (append_assoc (slot_bytes h) (slots_bytes hs) (slots_bytes ks)))

-- what a number has is written over what it had
pub slot-laid : (hs : List Slot) (es : List Pair) (back : List ℕ) (x : ℕ) (h : Slot) → x < length hs
    → sets (laid hs es ++ back) (x * max_nodes) (slot_bytes h) ≡ laid (set hs x h) es ++ back
unfolding laid slots_bytes
slot-laid hs es back x h inside =
    let first : List ℕ = slots_bytes (take x hs) in
    let last : List ℕ = slots_bytes (drop (suc x) hs) in
    let rest : List ℕ = flat es ++ (replicate (entry_bytes - 2 * length es) 0 ++ back) in
    let parts : slots_bytes hs ≡ first ++ (slot_bytes (slot_at hs x) ++ last) = ap slots_bytes (split_at hs x free inside) ∙ slots-append (take x hs) (slot_at hs x ∷ drop (suc x) hs) in
    let parts' : slots_bytes (set hs x h) ≡ first ++ (slot_bytes h ++ last) = ap slots_bytes (set_split hs x h inside) ∙ slots-append (take x hs) (h ∷ drop (suc x) hs) in
    let at : length first ≡ x * max_nodes = omega (arith, slots_length (take x hs), length-take-le x hs (omega arith)) in
    rw (parts, parts') (simp append_assoc (over-run first (slot_bytes (slot_at hs x)) (last ++ rest) (slot_bytes h) (x * max_nodes) at (slot-length h ∙ sym (slot-length (slot_at hs x)))))
