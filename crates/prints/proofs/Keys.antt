-- The keys of a held tree's forests, from the prints beside its nodes.
-- Assumes nothing.
use mathlib.Core.Path.{◌≡◌, refl, ap, ap₂, ◌∙◌}
use mathlib.Core.List.{List}
use Prim.Native.Nat.{ℕ, ◌+◌, ◌≤◌, ◌<◌}
use native.Mathlib.Decide.{ℕ_discrete}
use native.Mathlib.Omega.{arith}
use lib.ListN.{length, get_or, set, replicate, length-set, length-replicate, get_or-replicate}
use lib.Seq.{get_or-set_same, get_or-set_other}
use Rattle.meaning.specs.Limits.{max_nodes}
use Rattle.meaning.specs.Tree.{Tree, Good}
use Rattle.meaning.specs.Move.{cuts}
use Rattle.meaning.specs.Clade.{clade}
use Rattle.held.specs.Held.{nodes, Holds, cut_in}
use Rattle.held.proofs.Laws.{each, few-nodes}
use Rattle.held.proofs.Cut.{cuts-nodes}
use Rattle.clades.specs.Marks.{Whole, Noted}
use Rattle.clades.proofs.Laws.{node_in}
use Rattle.pairs.specs.Left.{left}
use Rattle.pairs.proofs.Left.{left-labels, left-distinct}
use Rattle.prints.specs.Print.{max_print, print, folded, key}
use Rattle.prints.specs.Keys.{KeysNoted}
use Rattle.prints.specs.Rest.{RestRoom, RestNoted}
use Rattle.prints.proofs.Print.{print-fits}
use Rattle.prints.proofs.Rest.{pruned-at, left_at}

-- what is left of a good tree is good
left-good : (p k : ℕ) {t : Tree} → Good t → Good (left p k t)
left-good p k {t} G = record { distinct = left-distinct p k t G.distinct; small = λ l i. G.small l (left-labels p k t l i) }

abbrev zeros : List ℕ
zeros = replicate max_nodes 0

-- ---- the keys of the nodes before p were noted from `at` on, as f and rest have their parts, and nothing else has changed
pub record KeysTo (f rest keys keys' : List ℕ) (at p : ℕ) : Type 0 where
  pub own : (q : ℕ) → 0 < q → q < p → get_or keys' (at + q) 0 ≡ folded (get_or f q 0 + get_or rest q 0)
  pub before : (e : ℕ) → e ≤ at → get_or keys' e 0 ≡ get_or keys e 0
  pub behind : (e : ℕ) → at + p ≤ e → get_or keys' e 0 ≡ get_or keys e 0
  pub long : length keys' ≡ length keys

pub keys_none : (f rest keys : List ℕ) (at : ℕ) → KeysTo f rest keys keys at 1
keys_none f rest keys at = record { own = λ q u l. absurd (omega arith); before = λ e le. refl; behind = λ e le. refl; long = refl }

-- one key more
module _ {f rest keys keys' : List ℕ} {at p : ℕ} (some : 0 < p) (room : at + p < length keys') (K : KeysTo f rest keys keys' at p) where
  abbrev more : List ℕ
  more = set keys' (at + p) (folded (get_or f p 0 + get_or rest p 0))

  stays : (e : ℕ) → ¬ (e ≡ at + p) → get_or more e 0 ≡ get_or keys' e 0
  stays e n = get_or-set_other keys' (at + p) e (folded (get_or f p 0 + get_or rest p 0)) 0 n

  pub keys-more : KeysTo f rest keys more at (p + 1)
  keys-more =
      record {
        own = λ q u l. own q u l (ℕ_discrete q p);
        before = λ e le. stays e (λ x. omega arith) ∙ K.before e le;
        behind = λ e le. stays e (λ x. omega arith) ∙ K.behind e (omega arith);
        long = simp length-set K.long;
      }
    where
      own : (q : ℕ) → 0 < q → q < p + 1 → Dec (q ≡ p) → get_or more (at + q) 0 ≡ folded (get_or f q 0 + get_or rest q 0)
      own q u l (yes e) = rw e (get_or-set_same keys' (at + p) (folded (get_or f p 0 + get_or rest p 0)) 0 room)
      own q u l (no n) = stays (at + q) (λ x. n (omega arith)) ∙ K.own q u (omega arith)

-- ---- xs holds a good tree, and m and f have the clades and the prints of its nodes
pub record Printed (xs m f : List ℕ) : Type 0 where
  pub whole : Whole xs max_nodes
  pub clades : Noted clade xs m
  pub prints : Noted print xs f

module _ {xs m f : List ℕ} (P : Printed xs m f) where
  abbrev t : Tree
  t = P.whole.tree

  abbrev h : Holds xs 0 t
  h = P.whole.holds

  zero-at : (p : ℕ) → p < nodes t → get_or zeros p 0 ≡ 0
  zero-at p l = get_or-replicate max_nodes p 0 0 (omega (arith, few-nodes P.whole.good))

  left-fits : (p : ℕ) → print (left p 0 t) ≤ max_print
  left-fits p = print-fits (left-good p 0 P.whole.good)

  pub rest-room : RestRoom t xs m f zeros 0
  rest-room =
      record {
        room = omega (arith, few-nodes P.whole.good);
        clades = λ p u l. P.clades t h p u (omega arith);
        prints = λ p u l. P.prints t h p u (omega arith);
        long = omega (arith, length-replicate {A = ℕ} max_nodes 0);
        fits = λ p u l. omega (arith, zero-at p (omega arith), left-fits p);
      }

  -- and `rest` has the prints of what is left without them
  module _ {rest : List ℕ} (noted : RestNoted t 0 zeros rest) where
    rest-is : (p : ℕ) → 0 < p → p < nodes t → get_or rest p 0 ≡ print (left p 0 t)
    rest-is p u l = omega (arith, noted.own p u (omega arith), zero-at p l)

    pub key_fits : (p : ℕ) → 0 < p → p < nodes t → get_or f p 0 + get_or rest p 0 < 18446744073709551616
    key_fits p u l =
        let s = node_in t h P.whole.good p l in
        omega (arith, P.prints t h p (omega arith) l s.tree s.holds, print-fits s.good, rest-is p u l, left-fits p)

    key-is : (c : ℕ) → c < length (cuts t) → folded (get_or f (c + 1) 0 + get_or rest (c + 1) 0) ≡ key (cut_in t c)
    key-is c lt =
        let l : c + 1 < nodes t = omega (arith, cuts-nodes t) in
        let e : 0 + 1 + c ≡ c + 1 = omega arith in
        ap folded
        (ap₂ ◌+◌ (P.prints t h (c + 1) (omega arith) l (cut_in t c).pruned (pruned-at h (c + 1) c e lt)) (rest-is (c + 1) (omega arith) l ∙ ap print (left_at h (c + 1) c e lt)))

    -- where those of all nodes were noted, the keys were
    pub keys-noted : {keys keys' : List ℕ} {at p : ℕ} → p ≡ nodes t → KeysTo f rest keys keys' at p → (u : Tree) → Holds xs 0 u → KeysNoted u keys keys' at
    keys-noted {keys} {keys'} {at} e K =
        each (λ u. KeysNoted u keys keys' at) h
        (record {
          own = λ c lt. K.own (c + 1) (omega arith) (omega (arith, cuts-nodes t)) ∙ key-is c lt;
          before = K.before;
          behind = λ i le. K.behind i (omega arith);
          long = K.long;
        })
