-- A table's text with every label replaced is the text of the renamed trees.
-- Assumes nothing.
use mathlib.Core.Path.{◌≡◌, refl, sym, ap, ap₂, ◌∙◌}
use mathlib.Core.Bool.{false}
use mathlib.Core.List.{List, [], ◌∷◌, ◌++◌, append_assoc, append-nil}
use Prim.Native.Nat.{ℕ, suc, max, ◌+◌, ◌-◌, ◌*◌, ◌≤◌}
use lib.ListN.{get_or}
use Rattle.meaning.specs.Limits.{max_label}
use Rattle.meaning.specs.Tree.{Tree, leaf, fork, In, tip, digits}
use Rattle.meaning.specs.Kind.{Kind}
use Rattle.meaning.specs.Reading.{is_blank, is_digit, value_after}
use Rattle.meaning.specs.Grammar.{All, TokenText, behind, LabelRun, NodeText, a_label, is-fork, depth, MarkText, no_mark, marked_rooted, marked_unrooted, TopText, is_node, one_label, two-labels, three_nodes}
use Rattle.meaning.proofs.Logic.{clash}
use Rattle.meaning.proofs.Scan.{blank-no-digit}
use Rattle.meaning.proofs.Complete.{token-no-digit}
use Rattle.meaning.proofs.Round.{digits-run}
use Rattle.renaming.specs.Renaming.{rename, writes, rename_from, rename_text}

-- as many brackets are open
pub rename-depth : (f : ℕ → ℕ) (t : Tree) → depth (rename f t) ≡ depth t
unfolding depth
rename-depth f (leaf n) = refl
rename-depth f (fork a b) = ap₂ (λ (m n : ℕ). suc (max m n)) (rename-depth f a) (rename-depth f b)

module _ (f : ℕ → ℕ) where
  -- the text x stays, whatever follows
  abbrev pub Stays : List ℕ → Type 0
  Stays x = (y : List ℕ) → rename_text f (x ++ y) ≡ x ++ rename_text f y

  -- the text x becomes z, whatever follows but a digit
  abbrev pub Turns : List ℕ → List ℕ → Type 0
  Turns x z = (y : List ℕ) → is_digit (get_or y 0 0) ≡ false → rename_text f (x ++ y) ≡ z ++ rename_text f y

  -- no digit stands first, whatever follows
  abbrev pub NoDigit : List ℕ → Type 0
  NoDigit x = (y : List ℕ) → is_digit (get_or (x ++ y) 0 0) ≡ false

  -- texts one after another
  stays_then : (x y y' : List ℕ) → Stays x → Turns y y' → Turns (x ++ y) (x ++ y')
  stays_then x y y' S R z h = rw (append_assoc x y z, S (y ++ z), R z h) (sym (append_assoc x y' (rename_text f z)))

  turns_then : (x x' y y' : List ℕ) → Turns x x' → NoDigit y → Turns y y' → Turns (x ++ y) (x' ++ y')
  turns_then x x' y y' R N Q z h = rw (append_assoc x y z, R (y ++ z) (N z), Q z h) (sym (append_assoc x' y' (rename_text f z)))

  stays-turns : (x : List ℕ) → Stays x → Turns x x
  stays-turns x S y h = S y

  no-digit-then : (x y : List ℕ) → NoDigit x → NoDigit (x ++ y)
  no-digit-then x y N z = rw (append_assoc x y z) (N (y ++ z))

  -- blanks stay
  blanks-stay : (x : List ℕ) → All is_blank x → Stays x
  unfolding All rename_from
  blanks-stay [] a y = refl
  blanks-stay (b ∷ x) a y = rw (blank-no-digit b a.0) (ap (◌∷◌ b) (blanks-stay x a.1 y))

  pub all-blank : (x : List ℕ) → All is_blank x → rename_text f x ≡ x
  unfolding rename_from
  all-blank x a = rw append-nil at (blanks-stay x a [])

  -- so do the tokens that are no digits
  pub token-stays : {b : ℕ} {x : List ℕ} → TokenText b x → is_digit b ≡ false → Stays x
  unfolding rename_from
  token-stays {b} (behind w blank) h y = rw append_assoc (blanks-stay w blank (b ∷ y) ∙ rw (h, append_assoc))

  -- and the marks
  pub mark-stays : {k : Kind} {x : List ℕ} → MarkText k x → Stays x
  unfolding rename_from is_digit
  mark-stays no_mark y = refl
  mark-stays (marked_rooted x blank) y = rw append_assoc (blanks-stay x blank (91 ∷ 38 ∷ 82 ∷ 93 ∷ y) ∙ rw append_assoc)
  mark-stays (marked_unrooted x blank) y = rw append_assoc (blanks-stay x blank (91 ∷ 38 ∷ 85 ∷ 93 ∷ y) ∙ rw append_assoc)

  -- a run of digits is replaced at its end
  run-replaced : (v : ℕ) (x y : List ℕ) → All is_digit x → is_digit (get_or y 0 0) ≡ false → rename_from f (writes v) (x ++ y) ≡ digits (f (value_after v x)) ++ rename_text f y
  unfolding All rename_from value_after
  run-replaced v [] [] a h = sym (append-nil (digits (f v)))
  run-replaced v [] (b ∷ y) a h = rw h
  run-replaced v (b ∷ x) y a h = rw a.0 (run-replaced (v * 10 + (b - 48)) x y a.1 h)

  label-replaced : {v : ℕ} {x : List ℕ} → LabelRun v x → Turns x (digits (f v))
  unfolding All rename_from value_after is_digit
  label-replaced {x = []} R y h = clash (cc R.begins)
  label-replaced {x = b ∷ x} R y h = rw R.digit.0 (run-replaced (0 * 10 + (b - 48)) x y R.digit.1 h) ∙ ap (λ (l : ℕ). digits (f l) ++ rename_text f y) (rw R.digit.0 at R.writes)

  -- the text of the renamed tree that x becomes
  pub record Becomes (Text : Tree → List ℕ → Type 0) (t : Tree) (x : List ℕ) : Type 0 where
    pub text : List ℕ
    pub derives : Text (rename f t) text
    pub replaced : Turns x text

  module _ (P : ℕ → Type 0) (small : (l : ℕ) → P l → (1 ≤ f l) × (f l ≤ max_label)) where
    node-becomes : {t : Tree} {x : List ℕ} → ((l : ℕ) → In l t → P l) → NodeText t x → Becomes NodeText t x
    unfolding is_digit
    node-becomes o (a_label {v} {y} w blank R) = record {
      text = w ++ digits (f v);
      derives = let h = small v (o v tip) in a_label w blank (digits-run (f v) h.0 h.1);
      replaced = stays_then w y (digits (f v)) (blanks-stay w blank) (label-replaced R);
    }
    node-becomes o (is-fork {o = p} {x} {c} {y} {z} O A C B Z) =
        let X = node-becomes (λ l i. o l (In.first i)) A in
        let Y = node-becomes (λ l i. o l (In.second i)) B in
        let end : Turns (y ++ z) (Y.text ++ z) = turns_then y Y.text z z Y.replaced (λ w. token-no-digit Z w refl) (stays-turns z (token-stays Z refl)) in
        let comma : Turns (c ++ (y ++ z)) (c ++ (Y.text ++ z)) = stays_then c (y ++ z) (Y.text ++ z) (token-stays C refl) end in
        let clear : NoDigit (c ++ (y ++ z)) = no-digit-then c (y ++ z) (λ w. token-no-digit C w refl) in
        record {
          text = p ++ (X.text ++ (c ++ (Y.text ++ z)));
          derives = is-fork O X.derives C Y.derives Z;
          replaced = stays_then p (x ++ (c ++ (y ++ z))) (X.text ++ (c ++ (Y.text ++ z))) (token-stays O refl)
              (turns_then x X.text (c ++ (y ++ z)) (c ++ (Y.text ++ z)) X.replaced clear comma);
        }

    -- the top of a tree of either kind
    pub top-becomes : {k : Kind} {t : Tree} {x : List ℕ} → ((l : ℕ) → In l t → P l) → TopText k t x → Becomes (TopText k) t x
    unfolding is_digit
    top-becomes {t} o (is_node N d) = let X = node-becomes o N in record { text = X.text; derives = is_node X.derives (rw (rename-depth f t) d); replaced = X.replaced }
    top-becomes o (one_label N) = let X = node-becomes o N in record { text = X.text; derives = one_label X.derives; replaced = X.replaced }
    top-becomes o (two-labels N) = let X = node-becomes o N in record { text = X.text; derives = two-labels X.derives; replaced = X.replaced }
    top-becomes o (three_nodes {a} {b} {c} {o = p} {x} {d} {y} {e} {z} {f = q} O A D B E C Q h) =
        let X = node-becomes (λ l i. o l (In.first i)) A in
        let Y = node-becomes (λ l i. o l (In.second (In.first i))) B in
        let Z = node-becomes (λ l i. o l (In.second (In.second i))) C in
        let end : Turns (z ++ q) (Z.text ++ q) = turns_then z Z.text q q Z.replaced (λ w. token-no-digit Q w refl) (stays-turns q (token-stays Q refl)) in
        let comma : Turns (e ++ (z ++ q)) (e ++ (Z.text ++ q)) = stays_then e (z ++ q) (Z.text ++ q) (token-stays E refl) end in
        let clear : NoDigit (e ++ (z ++ q)) = no-digit-then e (z ++ q) (λ w. token-no-digit E w refl) in
        let two : Turns (y ++ (e ++ (z ++ q))) (Y.text ++ (e ++ (Z.text ++ q))) = turns_then y Y.text (e ++ (z ++ q)) (e ++ (Z.text ++ q)) Y.replaced clear comma in
        let comma' : Turns (d ++ (y ++ (e ++ (z ++ q)))) (d ++ (Y.text ++ (e ++ (Z.text ++ q)))) = stays_then d (y ++ (e ++ (z ++ q))) (Y.text ++ (e ++ (Z.text ++ q))) (token-stays D refl) two in
        let clear' : NoDigit (d ++ (y ++ (e ++ (z ++ q)))) = no-digit-then d (y ++ (e ++ (z ++ q))) (λ w. token-no-digit D w refl) in
        record {
          text = p ++ (X.text ++ (d ++ (Y.text ++ (e ++ (Z.text ++ q)))));
          derives = three_nodes O X.derives D Y.derives E Z.derives Q (rw (rename-depth f a, rename-depth f b, rename-depth f c) h);
          replaced = stays_then p (x ++ (d ++ (y ++ (e ++ (z ++ q))))) (X.text ++ (d ++ (Y.text ++ (e ++ (Z.text ++ q))))) (token-stays O refl)
              (turns_then x X.text (d ++ (y ++ (e ++ (z ++ q)))) (d ++ (Y.text ++ (e ++ (Z.text ++ q)))) X.replaced clear' comma');
        }
