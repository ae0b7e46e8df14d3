-- The text of a tree that grows from clades, by its node.
-- Assumes nothing.
use mathlib.Core.Path.{◌≡◌, refl, sym, ap, subst, ◌∙◌}
use mathlib.Core.Bool.{Bool, true, false, ◌||◌}
use mathlib.Core.List.{List, [], ◌∷◌, ◌++◌, append-nil, append_assoc}
use Prim.Native.Nat.{ℕ, ◌+◌, ◌-◌, ◌≤◌, ◌<◌}
use native.Mathlib.Omega.{arith}
use lib.Dec.{eqb}
use lib.ListN.{length, set, length-append, length-set}
use Rattle.std.specs.List.{list_any}
use Rattle.meaning.specs.Lists.{member}
use Rattle.meaning.specs.Tree.{Tree as Topology, digits}
use Rattle.meaning.specs.Clade.{lowest, clade}
use Rattle.lent.specs.Runs.{Wrote}
use Rattle.lent.proofs.Runs.{wrote_one, wrote-more, wrote-length}
use Rattle.families.specs.Clades.{size}
use Rattle.families.specs.Grown.{GrowsTo, first_child}
use Rattle.families.specs.Majority.{Multi, join, write_multi, mark}
use Rattle.families.proofs.Grown.{grown-leaf, Forked, grown-fork, first-grown, second-grown}
use Rattle.majority.specs.Texts.{bracket, marked, CladeRoom}

-- a join is its parts with a comma between, in brackets if it is a node
join-text : (node : Bool) (a b : Multi) → write_multi (join node a b) ≡ bracket node 40 ++ (write_multi a ++ (44 ∷ (write_multi b ++ bracket node 41)))
join-text true a b = append_assoc (40 ∷ write_multi a) (44 ∷ write_multi b) (41 ∷ [])
join-text false a b = ap (λ (l : List ℕ). write_multi a ++ (44 ∷ l)) (sym (append-nil (write_multi b)))

-- one label: its digits
pub leaf-text : {cs : List ℕ} {c : ℕ} (t : Topology) → GrowsTo cs c t → size c < 2 → marked cs t ≡ digits (lowest c)
unfolding mark
leaf-text {cs} t g h = ap (marked cs) (grown-leaf t g h)

pub wrote-leaf : {cs : List ℕ} {c n v : ℕ} (t : Topology) → GrowsTo cs c t → n ≡ size c → n < 2 → v ≡ lowest c
    → {out out' : List ℕ} {at r : ℕ} → Wrote (digits v) out out' at r → Wrote (marked cs t) out out' at r
wrote-leaf t g e h f {out} {out'} {at} {r} w = subst (λ (l : List ℕ). Wrote l out out' at r) (ap digits f ∙ sym (leaf-text t g (omega (arith, e, h)))) w

-- a fork's text by its parts, where `node` says whether c is listed
module _ {cs : List ℕ} {c : ℕ} {t : Topology} (g : GrowsTo cs c t) (F : Forked cs c t) {node : Bool} (said : node ≡ member c cs) where
  abbrev a : List ℕ
  a = marked cs F.first

  abbrev b : List ℕ
  b = marked cs F.second

  fork-text : marked cs t ≡ bracket node 40 ++ (a ++ (44 ∷ (b ++ bracket node 41)))
  unfolding mark
  fork-text =
      let whole : clade F.first + clade F.second ≡ c = ap clade (sym F.is) ∙ g.whole in
      ap (marked cs) F.is
      ∙ ap (λ (x : ℕ). write_multi (join (member x cs) (mark cs F.first) (mark cs F.second))) whole
      ∙ ap (λ (q : Bool). write_multi (join q (mark cs F.first) (mark cs F.second))) (sym said)
      ∙ join-text node (mark cs F.first) (mark cs F.second)

  -- its length
  pub fork-length : length (marked cs t) ≡ length (bracket node 40) + length a + 1 + length b + length (bracket node 41)
  fork-length = rw fork-text (simp length-append (omega arith))

  -- it was written part by part
  pub wrote-fork : {out o₁ o₂ o₃ o₄ : List ℕ} {at r₁ r₂ r₃ r₄ : ℕ}
      → Wrote (bracket node 40) out o₁ at r₁ → Wrote a o₁ o₂ r₁ r₂ → Wrote b (set o₂ r₂ 44) o₃ (r₂ + 1) r₃ → Wrote (bracket node 41) o₃ o₄ r₃ r₄ → Wrote (marked cs t) out o₄ at r₄
  wrote-fork {out} {o₂} {o₄} {at} {r₂} {r₄} w₁ w₂ w₃ w₄ =
      subst (λ (l : List ℕ). Wrote l out o₄ at r₄) (sym fork-text)
      (wrote-more w₁ (wrote-more w₂ (wrote-more (wrote_one o₂ r₂ 44) (wrote-more w₃ w₄))))

-- ---- a clade is listed
pub any-member : (c : ℕ) (cs : List ℕ) → list_any (λ x. eqb x c) cs ≡ member c cs
unfolding member
any-member c [] = refl
any-member c (x ∷ xs) = ap (λ (b : Bool). eqb x c || b) (any-member c xs)

-- ---- the steps of writing a clade of two or more labels, and that there is room for each
module _ {cs : List ℕ} {c at len : ℕ} (R : CladeRoom cs c at len) (two : 2 ≤ size c) {node : Bool} (said : node ≡ member c cs) {child : ℕ} (e : child ≡ first_child cs c) where
  own : Forked cs c R.tree
  own = grown-fork R.tree R.grows two

  all : at + (length (bracket node 40) + length (marked cs own.first) + 1 + length (marked cs own.second) + length (bracket node 41)) ≤ len
  all = omega (arith, R.room, fork-length R.grows own said)

  pub open-room : at + length (bracket node 40) ≤ len
  open-room = omega (arith, all)

  pub child-inside : child ≤ c
  child-inside = omega (arith, own.part, e)

  pub child-less : size child < size c
  child-less = omega (arith, own.first-less, ap size e)

  pub rest-less : size (c - child) < size c
  rest-less = omega (arith, own.second-less, ap (λ (x : ℕ). size (c - x)) e)

  module _ {out o₁ : List ℕ} {r₁ : ℕ} (long : len ≡ length out) (w₁ : Wrote (bracket node 40) out o₁ at r₁) where
    pub child-room : CladeRoom cs child r₁ (length o₁)
    child-room = record { tree = own.first; grows = first-grown e own; room = omega (arith, all, long, w₁.behind, wrote-length w₁) }

    module _ {o₂ : List ℕ} {r₂ : ℕ} (w₂ : (t : Topology) → GrowsTo cs child t → Wrote (marked cs t) o₁ o₂ r₁ r₂) where
      first_written : Wrote (marked cs own.first) o₁ o₂ r₁ r₂
      first_written = w₂ own.first (first-grown e own)

      pub comma-room : r₂ + 1 ≤ length o₂
      comma-room = omega (arith, all, long, w₁.behind, wrote-length w₁, first_written.behind, wrote-length first_written)

      pub first-length : length o₂ ≡ length out
      first-length = wrote-length first_written ∙ wrote-length w₁

      pub rest-room : CladeRoom cs (c - child) (r₂ + 1) (length (set o₂ r₂ 44))
      rest-room = record { tree = own.second; grows = second-grown e own; room = simp length-set (omega (arith, all, long, w₁.behind, first_written.behind, first-length)) }

      module _ {o₃ : List ℕ} {r₃ : ℕ} (w₃ : (t : Topology) → GrowsTo cs (c - child) t → Wrote (marked cs t) (set o₂ r₂ 44) o₃ (r₂ + 1) r₃) where
        rest_written : Wrote (marked cs own.second) (set o₂ r₂ 44) o₃ (r₂ + 1) r₃
        rest_written = w₃ own.second (second-grown e own)

        pub rest-length : length o₃ ≡ length out
        rest-length = wrote-length rest_written ∙ length-set o₂ r₂ 44 ∙ first-length

        pub close-room : r₃ + length (bracket node 41) ≤ length o₃
        close-room = omega (arith, all, long, w₁.behind, first_written.behind, rest_written.behind, rest-length)

        pub clade-written : {o₄ : List ℕ} {r₄ : ℕ} → Wrote (bracket node 41) o₃ o₄ r₃ r₄ → (t : Topology) → GrowsTo cs c t → Wrote (marked cs t) out o₄ at r₄
        clade-written w₄ t g =
            let F = grown-fork t g two in
            wrote-fork g F said w₁ (w₂ F.first (first-grown e F)) (w₃ F.second (second-grown e F)) w₄
