-- Laws of a draft and its marks: what one more node adds, and a fork that is opened and closed.
-- Assumes nothing.
use mathlib.Core.Path.{◌≡◌, sym, ap, ◌∙◌}
use mathlib.Core.Logic.{⊎_elim}
use mathlib.Core.Bool.{Bool, true, false, ◌||◌, or-true, or-false}
use mathlib.Core.List.Memᴰ
use mathlib.Core.List.{List, [], ◌∷◌, ◌++◌, append-nil, Memᴰ}
use Prim.Native.Nat.{ℕ, suc, ◌+◌, ◌≤◌, ◌<◌}
use native.Mathlib.Numerals.{add-one}
use native.Mathlib.Omega.{arith}
use borrow.Author.Tests.{eqb-true, eqb-false}
use lib.Dec.{eqb}
use lib.ListN.{length, take, drop, get_or, set, length-append, length-set}
use lib.Seq.{sets, sets-eq, length-sets, take_at, take-suc-set, length-take-le, set-set, get_or-set_same, get_or-set_other}
use Rattle.meaning.specs.Lists.{member, NoDup}
use Rattle.meaning.specs.Tree.{Tree, fork, Good, labels, leaves}
use Rattle.meaning.proofs.Complete.{New}
use Rattle.meaning.proofs.Labels.{distinct-nodup, labels_in, labels_length}
use Rattle.meaning.proofs.Lists.{nodup_append, in-member, member-append}
use Rattle.meaning.proofs.Logic.{clash, cases}
use Rattle.meaning.proofs.Sums.{few}
use Rattle.lent.proofs.Runs.{sets-append, set-sets}
use Rattle.held.specs.Held.{nodes, pre}
use Rattle.held.specs.Labels.{labels_within}
use Rattle.held.proofs.Labels.{labels_within-append, labels_within-pre, labels_within-range}
use Rattle.held.proofs.Laws.{length-pre, twice}
use Rattle.tokens.specs.Draft.{seen, Tells, Draft}

-- one label more is marked
module _ {marks : List Bool} {ls : List ℕ} (m : Tells marks ls) (v : ℕ) (h : v ≤ 64) where
  mark_of : (l : ℕ) → l ≤ 64 → get_or (set marks v true) l false ≡ member l (ls ++ (v ∷ []))
  unfolding member
  mark_of l i =
      rw (member-append l ls (v ∷ []))
      (cases (λ d. get_or (set marks v true) l false ≡ (member l ls || (d || false))) (eqb v l)
      (λ e. rw (← eqb-true v l e) (get_or-set_same marks v true false (omega (arith, m.size)) ∙ sym (or-true (member v ls))))
      (λ e. get_or-set_other marks v l true false (λ q. eqb-false v l e (sym q)) ∙ m.each l i ∙ sym (or-false (member l ls))))

  pub tells_more : Tells (set marks v true) (ls ++ (v ∷ []))
  tells_more = record { size = length-set marks v true ∙ m.size; each = mark_of }

-- one node more
pub less-room : {node : List ℕ} {marks : List Bool} {at room room' : ℕ} → Draft node marks at room → room' ≤ room → Draft node marks at room'
less-room d h = record { size = d.size; once = d.once; fits = omega (arith, d.fits); marked = d.marked }

draft-in : {node : List ℕ} {marks : List Bool} {at room : ℕ} → Draft node marks at room → at + room ≤ length node
draft-in {node} {at} d = omega (arith, d.size, d.fits, few 64 (seen node at) d.once (labels_within-range (take at node)))

-- none of a node's labels was seen: then none occurs twice, and there are at most 64
module _ {node : List ℕ} {marks : List Bool} {at room : ℕ} (d : Draft node marks at room) {t : Tree} (good : Good t) (new : New t (seen node at)) where
  pub once_more : NoDup (seen node at ++ labels t)
  once_more = nodup_append (seen node at) (labels t) d.once (distinct-nodup t good.distinct) (λ l m n. let e = new l (labels_in t n) in let f = in-member m in clash cc)

  pub few-more : length (seen node at) + leaves t ≤ 64
  few-more =
      let range : (l : ℕ) → Memᴰ l (seen node at ++ labels t) → (1 ≤ l) × (l ≤ 64) =
      λ l m. ⊎_elim (labels_within-range (take at node) l) (λ n. good.small l (labels_in t n)) (Memᴰ.append_cases (seen node at) m) in
      omega (arith, few 64 (seen node at ++ labels t) once_more range, length-append (seen node at) (labels t), labels_length t)

  pub fits_more : at + nodes t ≤ length node
  fits_more = omega (arith, few-more, twice t, d.size, d.fits)

  took : take (at + nodes t) (sets node at (pre t)) ≡ take at node ++ pre t
  took =
      let e : sets node at (pre t) ≡ (take at node ++ pre t) ++ drop (at + length (pre t)) node = sets-eq (pre t) node at (omega (arith, length-pre t, fits_more)) in
      rw e (take_at (take at node ++ pre t) (drop (at + length (pre t)) node) (at + nodes t) (simp length-append (omega (arith, length-pre t, length-take-le at node (omega (arith, fits_more))))))

  pub seen_more : seen (sets node at (pre t)) (at + nodes t) ≡ seen node at ++ labels t
  seen_more = ap labels_within took ∙ labels_within-append (take at node) (pre t) ∙ ap (λ (l : List ℕ). seen node at ++ l) (labels_within-pre t good.small)

  -- reading can go on behind it, once its labels are marked
  pub draft-more : {marks' : List Bool} → Tells marks' (seen node at ++ labels t) → Draft (sets node at (pre t)) marks' (at + nodes t) room
  draft-more m = record {
    size = length-sets node at (pre t) ∙ d.size;
    once = rw seen_more once_more;
    fits = rw seen_more (simp length-append (omega (arith, d.fits, twice t, labels_length t)));
    marked = rw seen_more m;
  }

-- a fork is opened: its byte is no label yet
module _ {node : List ℕ} {marks : List Bool} {at room : ℕ} (d : Draft node marks at (suc room)) where
  pub open-room : at < length node
  open-room = omega (arith, draft-in d)

  pub seen-open : seen (set node at 0) (at + 1) ≡ seen node at
  unfolding labels_within
  seen-open = rw (add-one, take-suc-set node at 0 open-room) (labels_within-append (take at node) (0 ∷ []) ∙ append-nil (seen node at))

  pub draft-open : Draft (set node at 0) marks (at + 1) room
  draft-open = record {
    size = length-set node at 0 ∙ d.size;
    once = rw seen-open d.once;
    fits = rw seen-open (omega (arith, d.fits));
    marked = rw seen-open d.marked;
  }

-- it is closed behind both its nodes: its byte is 64 and the leaves
closed : (node : List ℕ) (at : ℕ) (a b : Tree) → set (sets (sets (set node at 0) (at + 1) (pre a)) (at + 1 + nodes a) (pre b)) at (64 + (leaves a + leaves b)) ≡ sets node at (pre (fork a b))
closed node at a b =
    let v : ℕ = 64 + (leaves a + leaves b) in
    let e : sets (sets (set node at 0) (at + 1) (pre a)) (at + 1 + nodes a) (pre b) ≡ set (sets node (at + 1) (pre a ++ pre b)) at 0 =
    ap (λ (j : ℕ). sets (sets (set node at 0) (at + 1) (pre a)) (at + 1 + j) (pre b)) (sym (length-pre a))
    ∙ sym (sets-append (set node at 0) (at + 1) (pre a) (pre b)) ∙ set-sets node at (at + 1) 0 (pre a ++ pre b) (omega arith) in
    ap (λ (l : List ℕ). set l at v) e ∙ set-set (sets node (at + 1) (pre a ++ pre b)) at 0 v
    ∙ sym (set-sets node at (at + 1) v (pre a ++ pre b) (omega arith)) ∙ ap (λ (j : ℕ). sets (set node at v) j (pre a ++ pre b)) (add-one at)

pub closed-by : (node node₁ node₂ : List ℕ) (at k v : ℕ) (a b : Tree)
    → node₁ ≡ sets (set node at 0) (at + 1) (pre a) → k ≡ at + 1 + nodes a → node₂ ≡ sets node₁ k (pre b) → v ≡ 64 + (leaves a + leaves b) → set node₂ at v ≡ sets node at (pre (fork a b))
closed-by node node₁ node₂ at k v a b e f g h = rw (g, e, f, h) (closed node at a b)
