-- Sets of held trees: additions and removals give them, and held trees are neighbours exactly when entries of theirs meet.
-- Assumes nothing.
use mathlib.Core.Path.{◌≡◌, refl, sym, ap, ◌∙◌, subst}
use mathlib.Core.Logic.{◌↔◌, ◌≢◌}
use mathlib.Core.List.{List, [], ◌∷◌}
use Prim.Native.Nat.{ℕ, zero, suc, ◌≤◌, ◌<◌}
use native.Mathlib.Omega.{arith}
use native.Mathlib.Decide.{ℕ_discrete}
use lib.ListN.{length, set, replicate, length-set}
use lib.Seq.{ext_get_or}
use Rattle.meaning.specs.Limits.{max_trees}
use Rattle.meaning.specs.Tree.{Tree, Good, Canonical, SameClade, canon, form}
use Rattle.meaning.specs.Move.{SharedForest}
use Rattle.meaning.proofs.Same.{≈-clade, clade-trans}
use Rattle.meaning.proofs.Canon.{canon-≈, canon-good, canon-canonical, canonical-canon, topology-iff-canon}
use Rattle.meaning.proofs.Text.{form-iff}
use Rattle.meaning.proofs.Forests.{apart-iff-shared}
use Rattle.holdings.specs.Slots.{Slot, free, held, slot_at, HeldTrees, empty, smallest_free, add, remove, trees}
use Rattle.holdings.specs.Neighbours.{Linked, linked, Meet}
use Rattle.holdings.proofs.Entries.{slot_same, slot-other}

-- no slot is both, and a slot holds one tree
pub not_free : {h : Slot} {t : Tree} → h ≡ free → h ≡ held t → ⊥
not_free e d = let z : ◌≡◌ {A = ℕ} 0 1 = cc in omega arith

pub one-tree : {h : Slot} {t u : Tree} → h ≡ held t → h ≡ held u → t ≡ u
one-tree e d = cc

-- numbers that have a tree are below the length
pub held-inside : (hs : List Slot) (x : ℕ) {t : Tree} → slot_at hs x ≡ held t → x < length hs
held-inside [] x e = absurd (not_free refl e)
held-inside (h ∷ hs) zero e = omega arith
held-inside (h ∷ hs) (suc x) e = omega (arith, held-inside hs x e)

-- the smallest free number is free, and all below it are not
pub smallest-free : (hs : List Slot) → slot_at hs (smallest_free hs) ≡ free
unfolding smallest_free
smallest-free [] = refl
smallest-free (free ∷ hs) = refl
smallest-free (held t ∷ hs) = smallest-free hs

pub below-held : (hs : List Slot) (y : ℕ) → y < smallest_free hs → (t : Tree) × (slot_at hs y ≡ held t)
unfolding smallest_free
below-held [] y h = absurd (omega arith)
below-held (free ∷ hs) y h = absurd (omega arith)
below-held (held t ∷ hs) zero h = (t, refl)
below-held (held t ∷ hs) (suc y) h = below-held hs y (omega arith)

pub smallest-le : (hs : List Slot) → smallest_free hs ≤ length hs
unfolding smallest_free
smallest-le [] = omega arith
smallest-le (free ∷ hs) = omega arith
smallest-le (held t ∷ hs) = omega (arith, smallest-le hs)

-- the empty index
none-held : (n x : ℕ) → slot_at (replicate n free) x ≡ free
none-held zero x = refl
none-held (suc n) zero = refl
none-held (suc n) (suc x) = none-held n x

pub empty-held : HeldTrees empty
empty-held = record { many = refl; good = λ x t e. absurd (not_free (none-held max_trees x) e); canonical = λ x t e. absurd (not_free (none-held max_trees x) e); alike = λ x y t u e d. absurd (not_free (none-held max_trees x) e) }

-- what the other numbers have stays; P is so of the tree at x
set-held : (hs : List Slot) (x : ℕ) (h : Slot) → x < length hs → (P : Tree → Type 0) → ((t : Tree) → h ≡ held t → P t) → ((y : ℕ) (t : Tree) → slot_at hs y ≡ held t → P t) → (y : ℕ) (t : Tree) → slot_at (set hs x h) y ≡ held t → P t
set-held hs x h inside P p f y t e = go (ℕ_discrete y x)
  where
    go : Dec (y ≡ x) → P t
    go (yes d) = p t (sym (slot_same hs x h inside) ∙ ap (slot_at (set hs x h)) (sym d) ∙ e)
    go (no d) = f y t (sym (slot-other hs x h inside y d) ∙ e)

module _ {hs : List Slot} (H : HeldTrees hs) (x : ℕ) (inside : x < max_trees) (h : Slot) where
  within : x < length hs
  within = omega (arith, H.many)

  -- a tree over the held trees' labels put to a number
  change : ((t : Tree) → h ≡ held t → Good t) → ((t : Tree) → h ≡ held t → Canonical t) → ((t : Tree) → h ≡ held t → (y : ℕ) (u : Tree) → slot_at hs y ≡ held u → SameClade t u) → HeldTrees (set hs x h)
  change g c a = record {
    many = length-set hs x h ∙ H.many;
    good = set-held hs x h within Good g H.good;
    canonical = set-held hs x h within Canonical c H.canonical;
    alike = λ y z t u e d.
        set-held hs x h within (λ (v : Tree). SameClade v u)
        (λ v i. set-held hs x h within (SameClade v) (λ w j. same v w i j) (λ w k q. a v i w k q) z u d)
        (λ w v q. set-held hs x h within (SameClade v) (λ k j. turn (a k j w v q)) (λ k m r. H.alike w k v m q r) z u d) y t e;
  }
    where
      turn : {v w : Tree} → SameClade v w → SameClade w v
      turn s = (s.1, s.0)

      same : (v w : Tree) → h ≡ held v → h ≡ held w → SameClade v w
      same v w i j = subst (SameClade v) (one-tree i j) (λ l k. k, λ l k. k)

-- a tree added over the held trees' labels
pub add-held : {hs : List Slot} {t : Tree} → HeldTrees hs → Good t → smallest_free hs < max_trees → ((x : ℕ) (u : Tree) → slot_at hs x ≡ held u → SameClade u t) → HeldTrees (add hs t)
add-held {hs} {t} H G few a =
    change H (smallest_free hs) few (held (canon t)) (λ u e. subst Good (one-tree refl e) (canon-good G)) (λ u e. subst Canonical (one-tree refl e) (canon-canonical t G.distinct))
    (λ u e y v d. subst (λ (w : Tree). SameClade w v) (one-tree refl e) (clade-trans (≈-clade (canon-≈ t)) (let s = a y v d in (s.1, s.0))))

-- a tree removed
pub remove-held : {hs : List Slot} → HeldTrees hs → (x : ℕ) → x < max_trees → HeldTrees (remove hs x)
remove-held H x inside = change H x inside free (λ u d. absurd (not_free refl d)) (λ u d. absurd (not_free refl d)) (λ u d. absurd (not_free refl d))

-- its number is free again, and the others keep their trees
pub removed-free : (hs : List Slot) (x : ℕ) → x < length hs → slot_at (remove hs x) x ≡ free
removed-free hs x inside = slot_same hs x free inside

pub removed-others : (hs : List Slot) (x : ℕ) → x < length hs → (y : ℕ) → y ≢ x → slot_at (remove hs x) y ≡ slot_at hs y
removed-others hs x inside y ne = slot-other hs x free inside y ne

-- what was added last is taken out again
pub remove-added : (hs : List Slot) (t : Tree) → smallest_free hs < length hs → remove (add hs t) (smallest_free hs) ≡ hs
remove-added hs t few = ext_get_or free (remove (add hs t) x) hs (length-set (add hs t) x free ∙ length-set hs x (held (canon t))) (λ y l. by y (ℕ_discrete y x))
  where
    x : ℕ
    x = smallest_free hs

    within : x < length (add hs t)
    within = omega (arith, length-set hs x (held (canon t)))

    by : (y : ℕ) → Dec (y ≡ x) → slot_at (remove (add hs t) x) y ≡ slot_at hs y
    by y (yes e) = ap (slot_at (remove (add hs t) x)) e ∙ slot_same (add hs t) x free within ∙ sym (smallest-free hs) ∙ ap (slot_at hs) (sym e)
    by y (no n) = slot-other (add hs t) x free within y n ∙ slot-other hs x (held (canon t)) few y n

-- where no tree is left, none is held
pub none_left : (hs : List Slot) → trees hs ≡ [] → hs ≡ replicate (length hs) free
unfolding trees
none_left [] e = refl
none_left (free ∷ hs) e = ap (◌∷◌ free) (none_left hs e)
none_left (held t ∷ hs) e = absurd (let z : ◌≡◌ {A = ℕ} 0 1 = cc in omega arith)

module _ {hs : List Slot} (H : HeldTrees hs) where
  -- canonical trees of one topology are one tree
  form-same : (x y : ℕ) (t u : Tree) → slot_at hs x ≡ held t → slot_at hs y ≡ held u → form t ≡ form u → t ≡ u
  form-same x y t u e d f =
      let s = form-canon f in
      sym (canonical-canon t (H.canonical x t e)) ∙ s ∙ canonical-canon u (H.canonical y u d)
    where
      form-canon : form t ≡ form u → canon t ≡ canon u
      form-canon f = (topology-iff-canon (H.good x t e).distinct (H.good y u d).distinct).0 ((form-iff (H.good x t e) (H.good y u d)).0 f)

  -- neighbours exactly where entries meet
  pub linked-iff : (x y : ℕ) → Linked hs x y ↔ Meet hs x y
  linked-iff x y = (to, from)
    where
      to : Linked hs x y → Meet hs x y
      to (linked {t} {u} e d a) =
          let (f, s) = (apart-iff-shared (H.good x t e) (H.good y u d)).0 a in
          (λ i. f (ap form (one-tree e (i ∙ d))), record { one = s.one; two = s.two; is_cut = rw e s.is_cut; is-cut' = rw d s.is-cut'; agree = rw (e, d) s.agree })

      shared : (h k : Slot) → slot_at hs x ≡ h → slot_at hs y ≡ k → (m : Meet hs x y) → Linked hs x y
      shared free k e d m = let n = rw e at m.1.is_cut in absurd (omega arith)
      shared (held t) free e d m = let n = rw d at m.1.is-cut' in absurd (omega arith)
      shared (held t) (held u) e d m =
          let s : SharedForest t u = record { one = m.1.one; two = m.1.two; is_cut = rw e at m.1.is_cut; is-cut' = rw d at m.1.is-cut'; agree = rw (e, d) at m.1.agree } in
          linked e d ((apart-iff-shared (H.good x t e) (H.good y u d)).1 (λ f. m.0 (e ∙ ap held (form-same x y t u e d f) ∙ sym d), s))

      from : Meet hs x y → Linked hs x y
      from m = shared (slot_at hs x) (slot_at hs y) refl refl m

-- where a tree is held there is a first
pub first-held : (hs : List Slot) (x : ℕ) {u : Tree} → slot_at hs x ≡ held u → (y : ℕ) × (v : Tree) × (vs : List Tree) × (slot_at hs y ≡ held v) × (trees hs ≡ v ∷ vs)
unfolding trees
first-held [] x e = absurd (not_free refl e)
first-held (free ∷ hs) zero e = absurd (not_free refl e)
first-held (free ∷ hs) (suc x) e = let (y, v, vs, d, f) = first-held hs x e in (suc y, v, vs, d, f)
first-held (held v ∷ hs) x e = (0, v, trees hs, refl, refl)
