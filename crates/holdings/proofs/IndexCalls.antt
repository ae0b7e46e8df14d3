-- The calls on an index: what each accepts, one outcome for each input, and what is left in memory.
-- Assumes nothing.
use mathlib.Core.Path.{◌≡◌, refl, sym, ap, ◌∙◌, subst}
use mathlib.Core.Bool.{Bool, true, false, cond}
use mathlib.Core.List.{List, [], ◌∷◌, map}
use Prim.Native.Nat.{ℕ, zero, suc, ◌-◌, ◌≤◌, ◌<◌}
use native.Mathlib.Omega.{arith}
use borrow.Author.Tests.{eq-eqb}
use lib.Dec.{eqb}
use lib.ListN.{length, drop}
use lib.Seq.{take_at}
use Rattle.meaning.specs.Limits.{max_trees}
use Rattle.meaning.specs.Tree.{Tree, Good, SameClade}
use Rattle.meaning.specs.Kind.{Kinded, rooted, either, rooted_only}
use Rattle.meaning.specs.Reading.{Read, got, refused, read_tree, like_first}
use Rattle.meaning.specs.Answer.{Answer, accepted, refusal, Outcome, written, text_of, onward, conclude}
use Rattle.meaning.specs.Calls.{enough}
use Rattle.meaning.proofs.Logic.{clash}
use Rattle.meaning.proofs.Lists.{among}
use Rattle.meaning.proofs.Same.{clade-trans}
use Rattle.meaning.proofs.Complete.{taken-iff}
use Rattle.meaning.proofs.Alike.{unlike-iff, first-line}
use Rattle.meaning.proofs.Sound.{read-good, read_behind}
use Rattle.meaning.proofs.Places.{placed-among, read-refused}
use Rattle.meaning.proofs.Calls.{Tells, accepts, denies, tells-accepted, tells-refusal, lent-tells, limited-tells, onward-tells, Line, at_zero, read-line}
use Rattle.meaning.proofs.Determined.{same-accepted, not-both, same-refusal}
use Rattle.holdings.specs.Slots.{Slot, free, held, slot_at, HeldTrees, smallest_free, add, remove, trees}
use Rattle.holdings.specs.Neighbours.{Neighbours}
use Rattle.holdings.specs.Memory.{index_bytes, encode, IsIndex}
use Rattle.holdings.specs.IndexCalls.{Opened, closed, opens, foreign, index_slices, add_first, table, fitting, joined, add_read, add_to, AddCall, adds, having, ask_slices, ask_first, number_read, AskCall, remove_first, remove_from, RemoveCall, removes}
use Rattle.holdings.specs.IndexRefusals.{add_refusals, number_refusals}
use Rattle.holdings.proofs.HeldTrees.{held-inside, smallest-le, first-held, add-held, remove-held}
use Rattle.holdings.proofs.Memory.{encode-length, one_index}
use Rattle.holdings.proofs.NeighbourLists.{neighbours-unique}

-- ---- what adding accepts
-- t was read from s, is rooted, has the labels of the held trees, and a number is free
pub record Joins (hs : List Slot) (s : List ℕ) (t : Tree) : Type 0 where
  pub kinded : Kinded
  pub behind : ℕ
  pub read : read_tree either s ≡ got kinded behind
  pub tree : kinded.tree ≡ t
  pub kind : kinded.kind ≡ rooted
  pub good : Good t
  pub room : smallest_free hs < max_trees
  pub alike : (x : ℕ) (u : Tree) → slot_at hs x ≡ held u → SameClade u t

-- where no line says that x can't be held, it is rooted and has the labels of all held trees
module _ {hs : List Slot} (H : HeldTrees hs) (x : Kinded) where
  abbrev Fits : Type 0
  Fits = (x.kind ≡ rooted) × ((y : ℕ) (u : Tree) → slot_at hs y ≡ held u → SameClade u x.tree)

  pub fits-table : (ts : List Tree) → trees hs ≡ ts → like_first rooted_only (map (λ (t : Tree). record { kind = rooted; tree = t }) ts) x ≡ 0 → Fits
  fits-table [] e l = ((taken-iff rooted_only x.kind).0 l, λ y u d. let (z, v, vs, f, g) = first-held hs y d in absurd (no-cons (sym e ∙ g)))
    where
      no-cons : {v : Tree} {vs : List Tree} → [] ≡ v ∷ vs → ⊥
      no-cons q = let z : ◌≡◌ {A = ℕ} 0 1 = cc in omega arith
  fits-table (t ∷ ts) e l =
      let like = (unlike-iff (record { kind = rooted; tree = t }) x).0 l in
      (sym like.kinds, λ y u d. let (z, v, vs, f, g) = first-held hs y d in clade-trans (H.alike y z u v d f) (subst (λ (w : Tree). SameClade w x.tree) (heads (sym e ∙ g)) like.labels))
    where
      heads : {v : Tree} {vs : List Tree} → t ∷ ts ≡ v ∷ vs → t ≡ v
      heads q = cc

-- a tree beside the held ones
joined-tells : {hs : List Slot} → HeldTrees hs → (s : List ℕ) → Tells (Joins hs s) (Line add_refusals s) (joined hs (read_tree either s))
joined-tells {hs} H s = by (read_tree either s) refl
  where
    by-line : (x : Kinded) (p : ℕ) → read_tree either s ≡ got x p → smallest_free hs < max_trees → (n : ℕ) → like_first rooted_only (table hs) x ≡ n → Tells (Joins hs s) (Line add_refusals s) (fitting n x p)
    by-line x p e room zero f =
        let (k, a) = fits-table H x (trees hs) refl f in
        accepts (record { kinded = x; behind = p; read = e; tree = refl; kind = k; good = read-good either s x p e; room = room; alike = a })
    by-line x p e room (suc n) f =
        denies (record { number = among tt (first-line rooted_only (table hs) x f); text = refl; place = let place : p - 1 ≤ length s = omega (arith, (read_behind either s x p e).1) in place })

    by-room : (x : Kinded) (p : ℕ) → read_tree either s ≡ got x p → (b : Bool) → eqb (smallest_free hs) max_trees ≡ b
        → Tells (Joins hs s) (Line add_refusals s) (cond b (refusal 6 0 0) (fitting (like_first rooted_only (table hs) x) x p))
    by-room x p e true f = denies (at_zero tt)
    by-room x p e false f = by-line x p e (omega (arith, smallest-le hs, H.many, other)) (like_first rooted_only (table hs) x) refl
      where
        other : smallest_free hs ≡ max_trees → ⊥
        other d = let z : true ≡ false = sym (eq-eqb (smallest_free hs) max_trees d) ∙ f in clash cc

    by : (r : Read Kinded) → read_tree either s ≡ r → Tells (Joins hs s) (Line add_refusals s) (joined hs r)
    by (got x p) e = by-room x p e (eqb (smallest_free hs) max_trees) refl
    by (refused n p) e = denies (read-line s (placed-among tt (read-refused s either n p e)))

-- memory is that of the set, and the tree may be added to it
pub record Adds (memory s : List ℕ) (r : (hs : List Slot) × Tree) : Type 0 where
  pub index : IsIndex r.0 memory
  pub joins : Joins r.0 s r.1

-- what opening memory tells
opened-tells : {first : Answer (Unit {0})} {memory : List ℕ} {a : Answer (List Slot)} {lines : List ℕ} (s : List ℕ) → Tells (λ (_ : Unit {0}). Unit {0}) (Line lines s) first
    → Line lines s 12 0 0 → Opened first memory a → Tells (λ hs. IsIndex hs memory) (Line lines s) a
opened-tells s t l (closed n i p e) = denies (tells-refusal t e)
opened-tells s t l (opens hs e I) = accepts I
opened-tells s t l (foreign e n) = denies l

pub add-tells : (s memory : List ℕ) (a : Answer (List Slot)) → Opened (add_first s memory) memory a → Tells (Adds memory s) (Line add_refusals s) (add_read s a)
add-tells s memory a A =
    onward-tells {P' = λ hs. IsIndex hs memory} (λ hs. onward (joined hs (read_tree either s)) λ t. accepted (hs, t)) (opened-tells s first (at_zero tt) A)
    (λ hs I. onward-tells {P' = Joins hs s} (λ t. accepted (hs, t)) (joined-tells I.trees s) (λ t J. accepts (record { index = I; joins = J })))
  where
    first : Tells (λ (_ : Unit {0}). Unit {0}) (Line add_refusals s) (add_first s memory)
    first = lent-tells (enough (index_slices memory)) (at_zero tt) (limited-tells 0 s (at_zero tt) (accepts tt))

-- memory is that of the set, and a tree has the number
abbrev pub Asks : List ℕ → ℕ → List Slot → Type 0
Asks memory x hs = IsIndex hs memory × ((t : Tree) × (slot_at hs x ≡ held t))

-- what is read where a number has to have a tree
number-tells : (x : ℕ) {first : Answer (Unit {0})} {memory : List ℕ} (a : Answer (List Slot)) → Tells (λ (_ : Unit {0}). Unit {0}) (Line number_refusals []) first
    → Opened first memory a → Tells (Asks memory x) (Line number_refusals []) (number_read x a)
number-tells x {memory} a first A = onward-tells {P' = λ hs. IsIndex hs memory} (λ hs. having hs (slot_at hs x)) (opened-tells [] first (at_zero tt) A) (λ hs I. by hs I (slot_at hs x) refl)
  where
    by : (hs : List Slot) → IsIndex hs memory → (h : Slot) → slot_at hs x ≡ h → Tells (Asks memory x) (Line number_refusals []) (having hs h)
    by hs I free e = denies (at_zero tt)
    by hs I (held t) e = accepts (I, (t, e))

pub ask-tells : (x : ℕ) (memory list : List ℕ) (a : Answer (List Slot)) → Opened (ask_first memory list) memory a → Tells (Asks memory x) (Line number_refusals []) (number_read x a)
ask-tells x memory list a A = number-tells x a (lent-tells (enough (ask_slices memory list)) (at_zero tt) (accepts tt)) A

pub remove-tells : (x : ℕ) (memory : List ℕ) (a : Answer (List Slot)) → Opened (remove_first memory) memory a → Tells (Asks memory x) (Line number_refusals []) (number_read x a)
remove-tells x memory a A = number-tells x a (lent-tells (enough (index_slices memory)) (at_zero tt) (accepts tt)) A

-- ---- each call has one outcome
-- memory is opened in one way
pub opened_one : {first : Answer (Unit {0})} {memory : List ℕ} {a b : Answer (List Slot)} → Opened first memory a → Opened first memory b → a ≡ b
opened_one (closed n i p e) (closed m j q d) = let (u, v, w) = same-refusal e d in cc
opened_one (closed n i p e) (opens hs d I) = absurd (not-both d e)
opened_one (closed n i p e) (foreign d m) = absurd (not-both d e)
opened_one (opens hs e I) (closed n i p d) = absurd (not-both e d)
opened_one (opens hs e I) (opens ks d J) = ap accepted (one_index I J)
opened_one (opens hs e I) (foreign d n) = absurd (n (record { slots = hs; index = I }))
opened_one (foreign e n) (closed m i p d) = absurd (not-both e d)
opened_one (foreign e n) (opens hs d I) = absurd (n (record { slots = hs; index = I }))
opened_one (foreign e n) (foreign d m) = refl

pub add-determined : {s memory : List ℕ} {o o' : Outcome ℕ (List ℕ)} → AddCall s memory o → AddCall s memory o' → o ≡ o'
add-determined {s} {memory} (adds a A) (adds b B) = ap (λ (c : Answer (List Slot)). conclude (add_read s c) memory (add_to memory)) (opened_one A B)

pub ask-determined : {x : ℕ} {memory list : List ℕ} {o o' : Outcome ℕ (List ℕ)} → AskCall x memory list o → AskCall x memory list o' → o ≡ o'
ask-determined {x} {list} (AskCall.lists hs ys a A e N) (AskCall.lists ks zs b B d M) =
    ap (λ (l : List ℕ). text_of l list) (neighbours-unique N (subst (λ (l : List Slot). Neighbours l x zs) (same-accepted d (ap (number_read x) (opened_one B A) ∙ e)) M))
ask-determined {x} (AskCall.lists hs ys a A e N) (AskCall.refuses n i p b B d) = absurd (not-both e (ap (number_read x) (opened_one A B) ∙ d))
ask-determined {x} (AskCall.refuses n i p b B d) (AskCall.lists hs ys a A e N) = absurd (not-both e (ap (number_read x) (opened_one A B) ∙ d))
ask-determined {x} (AskCall.refuses n i p a A e) (AskCall.refuses m j q b B d) = let (u, v, w) = same-refusal e (ap (number_read x) (opened_one A B) ∙ d) in cc

pub remove-determined : {x : ℕ} {memory : List ℕ} {o o' : Outcome (Unit {0}) (List ℕ)} → RemoveCall x memory o → RemoveCall x memory o' → o ≡ o'
remove-determined {x} {memory} (removes a A) (removes b B) = ap (λ (c : Answer (List Slot)). conclude (number_read x c) memory (remove_from x memory)) (opened_one A B)

-- ---- memory
-- an index written over memory is read there
pub index-written : {hs : List Slot} (memory : List ℕ) → HeldTrees hs → IsIndex hs (written (encode hs) memory)
index-written {hs} memory H = record { trees = H; bytes = take_at (encode hs) (drop (length (encode hs)) memory) index_bytes (encode-length H) }

-- an accepted addition to memory that is an index leaves that of the larger set, and answers the number that the tree has there
pub record Grown (hs : List Slot) (s memory : List ℕ) (o : Outcome ℕ (List ℕ)) : Type 0 where
  pub tree : Tree
  pub joins : Joins hs s tree
  pub number : o.answer ≡ accepted (smallest_free hs)
  pub leaves : o.memory ≡ written (encode (add hs tree)) memory
  pub index : IsIndex (add hs tree) o.memory

add-inside : {hs : List Slot} {memory : List ℕ} (I : IsIndex hs memory) (s : List ℕ) (r : Answer ((ks : List Slot) × Tree)) → Tells (Adds memory s) (Line add_refusals s) r
    → (n : ℕ) → (conclude r memory (add_to memory)).answer ≡ accepted n → Grown hs s memory (conclude r memory (add_to memory))
add-inside {hs} {memory} I s (refusal m i p) t n e = clash cc
add-inside {hs} {memory} I s (accepted (ks, u)) t n e =
    let A : Adds memory s (ks, u) = tells-accepted t refl in
    let same : ks ≡ hs = one_index A.index I in
    subst (λ (l : List Slot). Grown l s memory (add_to memory (ks, u))) same
    (record { tree = u; joins = A.joins; number = refl; leaves = refl; index = index-written memory (add-held A.index.trees A.joins.good A.joins.room A.joins.alike) })

pub add-grows : {hs : List Slot} {s memory : List ℕ} {o : Outcome ℕ (List ℕ)} {n : ℕ} → IsIndex hs memory → AddCall s memory o → o.answer ≡ accepted n → Grown hs s memory o
add-grows {s} {memory} {n} I (adds a A) e = add-inside I s (add_read s a) (add-tells s memory a A) n e

-- a refusal leaves memory as it was
pub add-refused : {s memory : List ℕ} {o : Outcome ℕ (List ℕ)} {n i p : ℕ} → AddCall s memory o → o.answer ≡ refusal n i p → o.memory ≡ memory
add-refused {s} {memory} {n} {i} {p} (adds a A) e = by (add_read s a) e
  where
    by : (r : Answer ((ks : List Slot) × Tree)) → (conclude r memory (add_to memory)).answer ≡ refusal n i p → (conclude r memory (add_to memory)).memory ≡ memory
    by (accepted q) e = clash cc
    by (refusal m j q) e = refl

-- an accepted removal from memory that is an index leaves that of the smaller set
pub record Shrunk (hs : List Slot) (x : ℕ) (o : Outcome (Unit {0}) (List ℕ)) : Type 0 where
  pub tree : Tree
  pub held-there : slot_at hs x ≡ held tree
  pub index : IsIndex (remove hs x) o.memory

remove-inside : {hs : List Slot} {memory : List ℕ} (I : IsIndex hs memory) (x : ℕ) (r : Answer (List Slot)) → Tells (Asks memory x) (Line number_refusals []) r
    → (conclude r memory (remove_from x memory)).answer ≡ accepted tt → Shrunk hs x (conclude r memory (remove_from x memory))
remove-inside I x (refusal m i p) t e = clash cc
remove-inside {memory} I x (accepted ks) t e =
    let (J, (u, d)) = tells-accepted t refl in
    let same : ks ≡ _ = one_index J I in
    subst (λ (l : List Slot). Shrunk l x (remove_from x memory ks)) same
    (record { tree = u; held-there = d; index = index-written memory (remove-held J.trees x (omega (arith, held-inside ks x d, J.trees.many))) })

pub remove-shrinks : {hs : List Slot} {x : ℕ} {memory : List ℕ} {o : Outcome (Unit {0}) (List ℕ)} → IsIndex hs memory → RemoveCall x memory o → o.answer ≡ accepted tt → Shrunk hs x o
remove-shrinks {x} {memory} I (removes a A) e = remove-inside I x (number_read x a) (remove-tells x memory a A) e

-- a refusal leaves memory as it was
pub remove-refused : {x : ℕ} {memory : List ℕ} {o : Outcome (Unit {0}) (List ℕ)} {n i p : ℕ} → RemoveCall x memory o → o.answer ≡ refusal n i p → o.memory ≡ memory
remove-refused {x} {memory} {n} {i} {p} (removes a A) e = by (number_read x a) e
  where
    by : (r : Answer (List Slot)) → (conclude r memory (remove_from x memory)).answer ≡ refusal n i p → (conclude r memory (remove_from x memory)).memory ≡ memory
    by (accepted q) e = clash cc
    by (refusal m j q) e = refl
