-- The pieces of a table's text: each is a tree's own text with its `;`, and what stands behind them is blank.
-- Assumes nothing.
use mathlib.Core.Path.{◌≡◌, refl, sym, ap, ◌∙◌}
use mathlib.Core.Bool.{Bool, true, false, not}
use mathlib.Core.List.{List, [], ◌∷◌, ◌++◌, append_assoc, append-nil}
use Prim.Native.Nat.{ℕ, zero, suc, ◌<◌}
use native.Mathlib.Omega.{arith}
use borrow.Author.Tests.{eqb-true}
use lib.Dec.{eqb}
use lib.ListN.{length, get_or}
use Rattle.meaning.specs.Tree.{Tree, leaf}
use Rattle.meaning.specs.Kind.{Kind, rooted, Kinded}
use Rattle.meaning.specs.Reading.{is_blank, is_digit}
use Rattle.meaning.specs.Grammar.{All, TokenText, behind, NodeText, a_label, is-fork, MarkText, no_mark, marked_rooted, marked_unrooted, TopText, is_node, one_label, two-labels, three_nodes, TreeText, is_tree, TreesText}
use Rattle.meaning.proofs.Logic.{clash, cases}
use Rattle.renaming.specs.Reordering.{pieces_from, pieces, behind_from, joined_texts}

-- b is no `;`
abbrev plain : ℕ → Bool
plain b = not (eqb b 59)

plain-not : (d : Bool) → not d ≡ true → d ≡ false
plain-not true h = clash cc
plain-not false h = refl

-- no byte is a `;`
abbrev Plain : List ℕ → Type 0
Plain x = All plain x

both-plain : (x y : List ℕ) → Plain x → Plain y → Plain (x ++ y)
unfolding All
both-plain [] y a b = b
both-plain (c ∷ x) y a b = (a.0, both-plain x y a.1 b)

-- bytes of a sort to which `;` does not belong
sort-plain : (test : ℕ → Bool) → test 59 ≡ false → (x : List ℕ) → All test x → Plain x
unfolding All
sort-plain test h [] a = tt
sort-plain test h (b ∷ x) a = (
  cases (λ d. eqb b 59 ≡ d → not d ≡ true) (eqb b 59) (λ _ e. let z : test b ≡ false = rw (eqb-true b 59 e) h in clash (cc a.0)) (λ _ _. refl) refl,
  sort-plain test h x a.1,
)

blanks-plain : (x : List ℕ) → All is_blank x → Plain x
unfolding is_blank
blanks-plain x a = sort-plain is_blank refl x a

token-plain : {b : ℕ} {x : List ℕ} → TokenText b x → plain b ≡ true → Plain x
unfolding All
token-plain {b} (behind x blank) h = both-plain x (b ∷ []) (blanks-plain x blank) (h, tt)

mark-plain : {k : Kind} {x : List ℕ} → MarkText k x → Plain x
unfolding All
mark-plain no_mark = tt
mark-plain (marked_rooted x blank) = both-plain x (91 ∷ 38 ∷ 82 ∷ 93 ∷ []) (blanks-plain x blank) (refl, (refl, (refl, (refl, tt))))
mark-plain (marked_unrooted x blank) = both-plain x (91 ∷ 38 ∷ 85 ∷ 93 ∷ []) (blanks-plain x blank) (refl, (refl, (refl, (refl, tt))))

node-plain : {t : Tree} {x : List ℕ} → NodeText t x → Plain x
unfolding is_digit
node-plain (a_label {y} w blank R) = both-plain w y (blanks-plain w blank) (sort-plain is_digit refl y R.digit)
node-plain (is-fork {o} {x} {c} {y} {z} O A C B Z) =
    both-plain o (x ++ (c ++ (y ++ z))) (token-plain O refl)
    (both-plain x (c ++ (y ++ z)) (node-plain A) (both-plain c (y ++ z) (token-plain C refl) (both-plain y z (node-plain B) (token-plain Z refl))))

top-plain : {k : Kind} {t : Tree} {x : List ℕ} → TopText k t x → Plain x
top-plain (is_node N h) = node-plain N
top-plain (one_label N) = node-plain N
top-plain (two-labels N) = node-plain N
top-plain (three_nodes {o} {x} {d} {y} {e} {z} {f} O A D B E C F h) =
    both-plain o (x ++ (d ++ (y ++ (e ++ (z ++ f))))) (token-plain O refl)
    (both-plain x (d ++ (y ++ (e ++ (z ++ f)))) (node-plain A)
    (both-plain d (y ++ (e ++ (z ++ f))) (token-plain D refl)
    (both-plain y (e ++ (z ++ f)) (node-plain B) (both-plain e (z ++ f) (token-plain E refl) (both-plain z f (node-plain C) (token-plain F refl))))))

-- a tree's text ends with its only `;`
tree-ends : {t : Kinded} {x : List ℕ} → TreeText t x → (z : List ℕ) × Plain z × (x ≡ z ++ (59 ∷ []))
tree-ends (is_tree {m} {x} M X (behind w blank) G) =
    (m ++ (x ++ w), both-plain m (x ++ w) (mark-plain M) (both-plain x w (top-plain X) (blanks-plain w blank)), simp append_assoc)

-- a piece ends with the first `;`
module _ (y : List ℕ) where
  piece-ends : (v x : List ℕ) → Plain x → pieces_from v (x ++ (59 ∷ y)) ≡ (v ++ (x ++ (59 ∷ []))) ∷ pieces y
  unfolding All pieces_from
  piece-ends v [] a = refl
  piece-ends v (b ∷ x) a =
      let e : eqb b 59 ≡ false = plain-not (eqb b 59) a.0 in
      rw e (piece-ends (v ++ (b ∷ [])) x a.1 ∙ ap (λ (z : List ℕ). z ∷ pieces y) (append_assoc v (b ∷ []) (x ++ (59 ∷ []))))

  behind-ends : (v x : List ℕ) → Plain x → behind_from v (x ++ (59 ∷ y)) ≡ behind_from [] y
  unfolding All behind_from
  behind-ends v [] a = refl
  behind-ends v (b ∷ x) a =
      let e : eqb b 59 ≡ false = plain-not (eqb b 59) a.0 in
      rw e (behind-ends (v ++ (b ∷ [])) x a.1)

  tree-piece : {t : Kinded} {x : List ℕ} → TreeText t x → (pieces (x ++ y) ≡ x ∷ pieces y) × (behind_from [] (x ++ y) ≡ behind_from [] y)
  tree-piece T =
      let (z, a, e) = tree-ends T in
      let split : (z ++ (59 ∷ [])) ++ y ≡ z ++ (59 ∷ y) = append_assoc z (59 ∷ []) y in
      rw (e, split) (piece-ends [] z a, behind-ends [] z a)

-- behind the last `;` are no more pieces
plain-pieces : (v x : List ℕ) → Plain x → (pieces_from v x ≡ []) × (behind_from v x ≡ v ++ x)
unfolding All pieces_from behind_from
plain-pieces v [] a = (refl, sym (append-nil v))
plain-pieces v (b ∷ x) a =
    let e : eqb b 59 ≡ false = plain-not (eqb b 59) a.0 in
    let (p, q) = plain-pieces (v ++ (b ∷ [])) x a.1 in
    rw e (p, q ∙ append_assoc v (b ∷ []) x)

-- the first of no trees
abbrev pub no_tree : Kinded
no_tree = record { kind = rooted; tree = leaf 0 }

-- the pieces of the text of the trees xs
pub record Pieces (xs : List Kinded) (s : List ℕ) : Type 0 where
  pub many : length (pieces s) ≡ length xs
  pub each : (i : ℕ) → i < length xs → TreeText (get_or xs i no_tree) (get_or (pieces s) i [])
  pub blank : All is_blank (behind_from [] s)
  pub whole : s ≡ joined_texts (pieces s) (behind_from [] s)

pub trees-pieces : {xs : List Kinded} {s : List ℕ} → TreesText xs s → Pieces xs s
unfolding joined_texts
trees-pieces (TreesText.none x blank) =
    let (p, q) = plain-pieces [] x (blanks-plain x blank) in
    record { many = rw p; each = λ i h. absurd (omega arith); blank = rw q blank; whole = rw (p, q) }
trees-pieces (TreesText.more {t} {ts = xs} {x} {y} T R) =
    let P = trees-pieces R in
    let (p, q) = tree-piece y T in
    record {
      many = rw p (ap suc P.many);
      each = rw p (at_each P);
      blank = rw q P.blank;
      whole = rw (p, q) (ap (λ (z : List ℕ). x ++ z) P.whole);
    }
  where
    at_each : Pieces xs y → (i : ℕ) → i < suc (length xs) → TreeText (get_or (t ∷ xs) i no_tree) (get_or (x ∷ pieces y) i [])
    at_each P zero h = T
    at_each P (suc i) h = P.each i (omega arith)
