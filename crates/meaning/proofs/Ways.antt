-- The ways through a token, a label, a node and a table; and what can be said of an answer from what can be said of its parts.
-- Assumes nothing.
use mathlib.Core.Path.{◌≡◌, refl}
use mathlib.Core.Bool.{Bool, true, false, cond, ◌&&◌}
use mathlib.Core.List.{List, [], ◌∷◌, ◌++◌}
use Prim.Native.Nat.{ℕ, zero, suc, ◌+◌, ◌-◌, ◌<◌, ◌≤◌}
use native.Mathlib.Numerals.{sub-one}
use native.Mathlib.Omega.{arith}
use borrow.Author.Tests.{eqb-true, eq-eqb, ne_eqb, lt-ltb, le-ltb, ltb-true, ltb-false}
use lib.Dec.{ltb, eqb}
use lib.ListN.{length}
use Rattle.meaning.specs.Limits.{max_label}
use Rattle.meaning.specs.Lists.{member}
use Rattle.meaning.specs.Tree.{Tree, leaf, fork, labels}
use Rattle.meaning.specs.Kind.{Kind, rooted, unrooted, Kinded, Takes}
use Rattle.meaning.specs.Unrooted.{standing}
use Rattle.meaning.specs.Reading.{Read, got, refused, is_digit, byte_at, skip, run_end, value, and_then, or_wrong, token, bad_label, label_at, fork_at, node_at, read_node, exactly, letter_at, mark_at, two_labels, third_at, top_at, tree_at, untaken, or_differs, read_tree, like_first, or_end, table_from}
use Rattle.meaning.proofs.Logic.{clash, or_left, or_right, cases}

-- where the test for equal numbers fails, they differ
pub eqb-differs : (a b : ℕ) → eqb a b ≡ false → a ≡ b → ⊥
eqb-differs a b e h = let z = eq-eqb a b h in clash cc

-- the token stands there, or another byte does
module _ {A : Type 0} (b : ℕ) (s : List ℕ) (p : ℕ) (next : ℕ → Read A) where
  pub token-yes : byte_at s (skip s p) ≡ b → token b s p next ≡ next (skip s p + 1)
  unfolding token
  token-yes h = rw (eq-eqb (byte_at s (skip s p)) b h)

  pub token-no : (byte_at s (skip s p) ≡ b → ⊥) → token b s p next ≡ refused 1 (skip s p)
  unfolding token
  token-no h = rw (ne_eqb (byte_at s (skip s p)) b h)

-- the rule for labels: one that it allows is 1 to 64
pub label-range : (v : ℕ) → bad_label v ≡ false → (1 ≤ v) × (v ≤ max_label)
unfolding bad_label
label-range v e = (ltb-false v 1 (or_left (ltb v 1) (ltb max_label v) e), ltb-false max_label v (or_right (ltb v 1) (ltb max_label v) e))

-- and one of 1 to 64 is allowed
pub label-allowed : (v : ℕ) → 1 ≤ v → v ≤ max_label → bad_label v ≡ false
unfolding bad_label
label-allowed v l h = rw (le-ltb v 1 l, le-ltb max_label v h)

-- the ways through a label
module _ (s : List ℕ) (q : ℕ) (seen : List ℕ) where
  pub label-bad : bad_label (value s q) ≡ true → label_at s q seen ≡ refused 2 q
  unfolding label_at
  label-bad h = rw h

  module _ (allowed : bad_label (value s q) ≡ false) where
    pub label-again : member (value s q) seen ≡ true → label_at s q seen ≡ refused 3 q
    unfolding label_at
    label-again m = rw (allowed, m)

    pub label-new : member (value s q) seen ≡ false → label_at s q seen ≡ got (leaf (value s q)) (run_end s q)
    unfolding label_at
    label-new m = rw (allowed, m)

-- the ways through the start of a node: a label, a bracket, another byte
module _ (s : List ℕ) (p : ℕ) (seen : List ℕ) (bracket : ℕ → Read Tree) where
  pub at_label : is_digit (byte_at s (skip s p)) ≡ true → node_at bracket s p seen ≡ label_at s (skip s p) seen
  unfolding node_at
  at_label h = rw h

  pub at_bracket : is_digit (byte_at s (skip s p)) ≡ false → byte_at s (skip s p) ≡ 40 → node_at bracket s p seen ≡ bracket (skip s p)
  unfolding node_at
  at_bracket h e = rw (h, eq-eqb (byte_at s (skip s p)) 40 e)

  pub at_other : is_digit (byte_at s (skip s p)) ≡ false → (byte_at s (skip s p) ≡ 40 → ⊥) → node_at bracket s p seen ≡ refused 1 (skip s p)
  unfolding node_at
  at_other h f = rw (h, ne_eqb (byte_at s (skip s p)) 40 f)

-- the ways through a node
module _ (s : List ℕ) (p : ℕ) (seen : List ℕ) where
  pub node-label : (room : ℕ) → is_digit (byte_at s (skip s p)) ≡ true → read_node room s p seen ≡ label_at s (skip s p) seen
  unfolding read_node node_at
  node-label zero h = rw h
  node-label (suc room) h = rw h

  pub node-bad : (room : ℕ) → is_digit (byte_at s (skip s p)) ≡ false → (byte_at s (skip s p) ≡ 40 → ⊥) → read_node room s p seen ≡ refused 1 (skip s p)
  unfolding read_node node_at
  node-bad zero h f = rw (h, ne_eqb (byte_at s (skip s p)) 40 f)
  node-bad (suc room) h f = rw (h, ne_eqb (byte_at s (skip s p)) 40 f)

  pub node-deep : (room : ℕ) → is_digit (byte_at s (skip s p)) ≡ false → byte_at s (skip s p) ≡ 40 → room ≡ 0 → read_node room s p seen ≡ refused 4 (skip s p)
  unfolding read_node node_at
  node-deep zero h f e = rw (h, eq-eqb (byte_at s (skip s p)) 40 f)
  node-deep (suc room) h f e = absurd (omega arith)

  pub node-fork : (room : ℕ) → is_digit (byte_at s (skip s p)) ≡ false → byte_at s (skip s p) ≡ 40 → (room ≡ 0 → ⊥) → read_node room s p seen ≡ fork_at (read_node (room - 1) s) s (skip s p + 1) seen
  unfolding read_node node_at
  node-fork zero h f e = absurd (e refl)
  node-fork (suc room) h f e = rw (sub-one, h, eq-eqb (byte_at s (skip s p)) 40 f)

-- P of what was read and the place behind it, or Q of the number and the place
pub data Gives {A : Type 0} (P : A → ℕ → Type 0) (Q : ℕ → ℕ → Type 0) : Read A → Type 0 where
  reads : {a : A} {p : ℕ} → P a p → Gives P Q (got a p)
  refuses : {n p : ℕ} → Q n p → Gives P Q (refused n p)

module _ {A : Type 0} {P : A → ℕ → Type 0} {Q : ℕ → ℕ → Type 0} where
  -- so an answer that is known tells which of the two
  pub gives-got : {r : Read A} {a : A} {p : ℕ} → Gives P Q r → r ≡ got a p → P a p
  gives-got {a} {p} (reads {a = b} {p = q} h) e = let x : b ≡ a = cc in let y : q ≡ p = cc in rw (← x, ← y) h
  gives-got (refuses h) e = clash cc

  pub gives-refused : {r : Read A} {n p : ℕ} → Gives P Q r → r ≡ refused n p → Q n p
  gives-refused (reads h) e = clash cc
  gives-refused {n} {p} (refuses {n = m} {p = q} h) e = let x : m ≡ n = cc in let y : q ≡ p = cc in rw (← x, ← y) h

  -- a token: the rest, or line 1
  pub token-gives : (b : ℕ) (s : List ℕ) (p : ℕ) (next : ℕ → Read A) → ((byte_at s (skip s p) ≡ b → ⊥) → Q 1 (skip s p)) → (byte_at s (skip s p) ≡ b → Gives P Q (next (skip s p + 1)))
      → Gives P Q (token b s p next)
  unfolding token
  token-gives b s p next wrong goes_on =
      cases (λ d. Gives P Q (or_wrong d (skip s p) (λ q. next (q + 1)))) (eqb (byte_at s (skip s p)) b)
      (λ e. goes_on (eqb-true (byte_at s (skip s p)) b e)) (λ e. refuses (wrong (eqb-differs (byte_at s (skip s p)) b e)))

-- more is known of what was read, or of a refusal
pub gives-map : {A : Type 0} {P P' : A → ℕ → Type 0} {Q Q' : ℕ → ℕ → Type 0} {r : Read A} → ((a : A) (p : ℕ) → P a p → P' a p) → ((n p : ℕ) → Q n p → Q' n p) → Gives P Q r → Gives P' Q' r
gives-map f g (reads {a} {p} h) = reads (f a p h)
gives-map f g (refuses {n} {p} h) = refuses (g n p h)

-- an answer is itself
pub gives_self : {A : Type 0} (r : Read A) → Gives (λ a p. r ≡ got a p) (λ n p. r ≡ refused n p) r
gives_self (got a p) = reads refl
gives_self (refused n p) = refuses refl

-- two things are known of an answer
pub gives-and : {A : Type 0} {P P' : A → ℕ → Type 0} {Q Q' : ℕ → ℕ → Type 0} {r : Read A} → Gives P Q r → Gives P' Q' r → Gives (λ a p. P a p × P' a p) (λ n p. Q n p × Q' n p) r
gives-and (reads h) (reads k) = reads (h, k)
gives-and (refuses h) (refuses k) = refuses (h, k)

-- one thing after another
pub then-gives : {A B : Type 0} {P : A → ℕ → Type 0} {P' : B → ℕ → Type 0} {Q : ℕ → ℕ → Type 0} {r : Read A} (next : A → ℕ → Read B)
    → Gives P Q r → ((a : A) (p : ℕ) → P a p → Gives P' Q (next a p)) → Gives P' Q (and_then r next)
then-gives next (reads {a} {p} h) f = f a p h
then-gives next (refuses h) f = refuses h

module _ {P : Tree → ℕ → Type 0} {Q : ℕ → ℕ → Type 0} (s : List ℕ) where
  -- a label: line 2, line 3, or a leaf
  pub label-gives : (q : ℕ) (seen : List ℕ) → (bad_label (value s q) ≡ true → Q 2 q) → (bad_label (value s q) ≡ false → member (value s q) seen ≡ true → Q 3 q)
      → (bad_label (value s q) ≡ false → member (value s q) seen ≡ false → P (leaf (value s q)) (run_end s q)) → Gives P Q (label_at s q seen)
  unfolding label_at
  label-gives q seen bad again new =
      let fits : Read Tree = got (leaf (value s q)) (run_end s q) in
      cases (λ d. Gives P Q (cond d (refused 2 q) (cond (member (value s q) seen) (refused 3 q) fits))) (bad_label (value s q)) (λ e. refuses (bad e))
      (λ e. cases (λ d. Gives P Q (cond d (refused 3 q) fits)) (member (value s q) seen) (λ f. refuses (again e f)) (λ f. reads (new e f)))

  -- a node: line 1, a label, or what a bracket gives
  pub node-gives : (bracket : ℕ → Read Tree) (p : ℕ) (seen : List ℕ) → (is_digit (byte_at s (skip s p)) ≡ false → (byte_at s (skip s p) ≡ 40 → ⊥) → Q 1 (skip s p))
      → (is_digit (byte_at s (skip s p)) ≡ true → Gives P Q (label_at s (skip s p) seen))
      → (byte_at s (skip s p) ≡ 40 → Gives P Q (bracket (skip s p))) → Gives P Q (node_at bracket s p seen)
  unfolding node_at
  node-gives bracket p seen wrong label opens =
      let b : ℕ = byte_at s (skip s p) in
      cases (λ d. Gives P Q (cond d (label_at s (skip s p) seen) (or_wrong (eqb b 40) (skip s p) bracket))) (is_digit b) label
      (λ e. cases (λ d. Gives P Q (or_wrong d (skip s p) bracket)) (eqb b 40) (λ f. opens (eqb-true b 40 f)) (λ f. refuses (wrong e (eqb-differs b 40 f))))

-- the byte b itself stands there, or another does
module _ {A : Type 0} (b : ℕ) (s : List ℕ) (p : ℕ) (next : ℕ → Read A) where
  pub exactly-yes : byte_at s p ≡ b → exactly b s p next ≡ next (p + 1)
  unfolding exactly
  exactly-yes h = rw (eq-eqb (byte_at s p) b h)

  pub exactly-no : (byte_at s p ≡ b → ⊥) → exactly b s p next ≡ refused 1 p
  unfolding exactly
  exactly-no h = rw (ne_eqb (byte_at s p) b h)

-- the bytes of a mark behind its bracket, and a tree behind its mark
abbrev pub mark_rest : List ℕ → ℕ → Read Kind
mark_rest s q = exactly 38 s q λ p₁. and_then (letter_at s p₁) λ k p₂. exactly 93 s p₂ (got k)

abbrev pub unmarked : List ℕ → Kind → ℕ → Read Kinded
unmarked s k p = and_then (top_at k s p) λ t p₁. token 59 s p₁ λ p₂. got (record { kind = k; tree = standing k t }) p₂

-- the ways through a tree: a mark or none
module _ (s : List ℕ) (p : ℕ) where
  pub tree-marked : byte_at s (skip s p) ≡ 91 → tree_at s p ≡ and_then (mark_rest s (skip s p + 1)) (unmarked s)
  unfolding tree_at mark_at
  tree-marked h = rw (eq-eqb (byte_at s (skip s p)) 91 h)

  pub tree_plain : (byte_at s (skip s p) ≡ 91 → ⊥) → tree_at s p ≡ unmarked s rooted p
  unfolding tree_at mark_at
  tree_plain f = rw (ne_eqb (byte_at s (skip s p)) 91 f)

-- the byte b itself, or line 1
module _ {A : Type 0} {P : A → ℕ → Type 0} {Q : ℕ → ℕ → Type 0} where
  pub exactly-gives : (b : ℕ) (s : List ℕ) (p : ℕ) (next : ℕ → Read A) → ((byte_at s p ≡ b → ⊥) → Q 1 p) → (byte_at s p ≡ b → Gives P Q (next (p + 1))) → Gives P Q (exactly b s p next)
  unfolding exactly
  exactly-gives b s p next wrong goes_on =
      cases (λ d. Gives P Q (or_wrong d p (λ q. next (q + 1)))) (eqb (byte_at s p) b) (λ e. goes_on (eqb-true (byte_at s p) b e)) (λ e. refuses (wrong (eqb-differs (byte_at s p) b e)))

  -- where no line says that a tree can't stand there; or that line, at its `;`
  pub differs-gives : (n p : ℕ) {next : Read A} → ((m : ℕ) → n ≡ suc m → Q (suc m) (p - 1)) → (n ≡ 0 → Gives P Q next) → Gives P Q (or_differs n p next)
  differs-gives zero p differs alike = alike refl
  differs-gives (suc m) p differs alike = refuses (differs m refl)

module _ {P : Kind → ℕ → Type 0} {Q : ℕ → ℕ → Type 0} (s : List ℕ) where
  -- the letter of a mark: U, R, or line 1
  pub letter-gives : (p : ℕ) → (byte_at s p ≡ 85 → P unrooted (p + 1)) → (byte_at s p ≡ 82 → P rooted (p + 1)) → ((byte_at s p ≡ 85 → ⊥) → (byte_at s p ≡ 82 → ⊥) → Q 1 p) → Gives P Q (letter_at s p)
  unfolding letter_at
  letter-gives p is-u is-r wrong =
      cases (λ d. Gives P Q (cond d (got unrooted (p + 1)) (exactly 82 s p (got rooted)))) (eqb (byte_at s p) 85) (λ e. reads (is-u (eqb-true (byte_at s p) 85 e)))
      (λ e. exactly-gives 82 s p (got rooted) (wrong (eqb-differs (byte_at s p) 85 e)) (λ h. reads (is-r h)))

  -- no mark, or the bytes of one
  pub mark-gives : (p : ℕ) → ((byte_at s (skip s p) ≡ 91 → ⊥) → P rooted p)
      → (byte_at s (skip s p) ≡ 91 → Gives P Q (exactly 38 s (skip s p + 1) λ p₁. and_then (letter_at s p₁) λ k p₂. exactly 93 s p₂ (got k))) → Gives P Q (mark_at s p)
  unfolding mark_at
  mark-gives p none more =
      cases (λ d. Gives P Q (cond d (exactly 38 s (skip s p + 1) λ p₁. and_then (letter_at s p₁) λ k p₂. exactly 93 s p₂ (got k)) (got rooted p))) (eqb (byte_at s (skip s p)) 91)
      (λ e. more (eqb-true (byte_at s (skip s p)) 91 e)) (λ e. reads (none (eqb-differs (byte_at s (skip s p)) 91 e)))

-- behind the second node of an unrooted top: two labels, or a third node
module _ (node : ℕ → List ℕ → Read Tree) (s : List ℕ) (a b : Tree) (p : ℕ) where
  abbrev pub third : Read Tree
  third = token 44 s p λ p₁. and_then (node p₁ (labels a ++ labels b)) λ c p₂. token 41 s p₂ λ p₃. got (fork a (fork b c)) p₃

  pub third-two : two_labels (fork a b) ≡ true → byte_at s (skip s p) ≡ 41 → third_at node s a b p ≡ got (fork a b) (skip s p + 1)
  unfolding third_at
  third-two e h = rw (e, eq-eqb (byte_at s (skip s p)) 41 h)

  pub third-more : (two_labels (fork a b) ≡ true → byte_at s (skip s p) ≡ 41 → ⊥) → third_at node s a b p ≡ third
  unfolding third_at
  third-more f =
      let close : Bool = eqb (byte_at s (skip s p)) 41 in
      cases (λ d. cond (d && close) (got (fork a b) (skip s p + 1)) third ≡ third) (two_labels (fork a b)) (λ e. rw (ne_eqb (byte_at s (skip s p)) 41 (f e))) (λ e. refl)

  pub third-gives : {P : Tree → ℕ → Type 0} {Q : ℕ → ℕ → Type 0} → (two_labels (fork a b) ≡ true → byte_at s (skip s p) ≡ 41 → P (fork a b) (skip s p + 1))
      → ((two_labels (fork a b) ≡ true → byte_at s (skip s p) ≡ 41 → ⊥) → Gives P Q third) → Gives P Q (third_at node s a b p)
  unfolding third_at
  third-gives {P} {Q} two more =
      let close : Bool = eqb (byte_at s (skip s p)) 41 in
      cases (λ d. Gives P Q (cond (d && close) (got (fork a b) (skip s p + 1)) third)) (two_labels (fork a b))
      (λ e. cases (λ d. Gives P Q (cond d (got (fork a b) (skip s p + 1)) third)) close
      (λ f. reads (two e (eqb-true (byte_at s (skip s p)) 41 f))) (λ f. more (λ _. eqb-differs (byte_at s (skip s p)) 41 f)))
      (λ e. more (λ f _. clash cc))

-- a text with one tree: a tree behind which the text ends, the line by which it is not taken, or line 1 where the text goes on
pub whole-gives : {P P' : Kinded → ℕ → Type 0} {Q : ℕ → ℕ → Type 0} (takes : Takes) (s : List ℕ) → Gives P' Q (tree_at s 0)
    → ((x : Kinded) (p : ℕ) → P' x p → (m : ℕ) → untaken takes x.kind ≡ suc m → Q (suc m) (p - 1))
    → ((x : Kinded) (p : ℕ) → P' x p → untaken takes x.kind ≡ 0 → skip s p < length s → Q 1 (skip s p))
    → ((x : Kinded) (p : ℕ) → P' x p → untaken takes x.kind ≡ 0 → length s ≤ skip s p → P x p) → Gives P Q (read_tree takes s)
unfolding read_tree
whole-gives {P} {Q} takes s tree not_taken more ends =
    then-gives _ tree λ x p h.
    differs-gives (untaken takes x.kind) p (not_taken x p h) λ z.
    cases (λ d. Gives P Q (cond d (refused 1 (skip s p)) (got x p))) (ltb (skip s p) (length s))
    (λ e. refuses (more x p h z (ltb-true (skip s p) (length s) e))) (λ e. reads (ends x p h z (ltb-false (skip s p) (length s) e)))

-- at a place of a table: the end, or more
pub end-gives : {P : List Kinded → ℕ → Type 0} {Q : ℕ → ℕ → Type 0} (s : List ℕ) (xs : List Kinded) (q : ℕ) (next : ℕ → Read (List Kinded)) → (length s ≤ q → P xs q)
    → (q < length s → Gives P Q (next q)) → Gives P Q (or_end (ltb q (length s)) xs q next)
end-gives {P} {Q} s xs q next ends more =
    cases (λ d. Gives P Q (or_end d xs q next)) (ltb q (length s)) (λ e. more (ltb-true q (length s) e)) (λ e. reads (ends (ltb-false q (length s) e)))

-- the ways through a table: its end, one tree too many, and a tree
module _ (takes : Takes) where
  pub table-ends : (slots : ℕ) (s : List ℕ) (q : ℕ) (xs : List Kinded) → length s ≤ q → table_from takes slots s q xs ≡ got xs q
  unfolding table_from
  table-ends zero s q xs h = rw (le-ltb q (length s) h)
  table-ends (suc slots) s q xs h = rw (le-ltb q (length s) h)

  pub table-full : (slots : ℕ) (s : List ℕ) (q : ℕ) (xs : List Kinded) → q < length s → slots ≡ 0 → table_from takes slots s q xs ≡ refused 6 q
  unfolding table_from
  table-full zero s q xs h e = rw (lt-ltb q (length s) h)
  table-full (suc slots) s q xs h e = absurd (omega arith)

  pub table-next : (slots : ℕ) (s : List ℕ) (q : ℕ) (xs : List Kinded) → q < length s → 1 ≤ slots
      → table_from takes slots s q xs ≡ and_then (tree_at s q) (λ x p. or_differs (like_first takes xs x) p (table_from takes (slots - 1) s (skip s p) (xs ++ (x ∷ []))))
  unfolding table_from
  table-next zero s q xs h e = absurd (omega arith)
  table-next (suc slots) s q xs h e = rw (sub-one, lt-ltb q (length s) h)
