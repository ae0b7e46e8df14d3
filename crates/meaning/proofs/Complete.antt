-- Each text of the grammar is read.
-- Assumes nothing.
use mathlib.Core.Path.{◌≡◌, refl, sym, ap, ◌∙◌}
use mathlib.Core.Logic.{◌↔◌}
use mathlib.Core.Bool.{Bool, true, false}
use mathlib.Core.List.{List, [], ◌∷◌, ◌++◌, append_assoc, append-nil}
use Prim.Native.Nat.{ℕ, suc, ◌+◌, ◌-◌, ◌*◌, ◌≤◌, ◌<◌, max}
use native.Mathlib.Nat.{zero-add, add-zero}
use native.Mathlib.Omega.{arith}
use borrow.Author.Tests.{le-ltb, eq-eqb, ne_eqb}
use lib.ListN.{length, drop, get_or, length-append}
use lib.Seq.{drop-append_seam, drop-drop, get_or-drop}
use Rattle.meaning.specs.Limits.{max_open}
use Rattle.meaning.specs.Lists.{member}
use Rattle.meaning.specs.Tree.{Tree, leaf, fork, labels, In, tip, Good}
use Rattle.meaning.specs.Kind.{Kind, rooted, unrooted, Kinded, Takes, either, rooted_only}
use Rattle.meaning.specs.Unrooted.{standing}
use Rattle.meaning.specs.Reading.{Read, got, is_blank, is_digit, byte_at, lead, past, skip, run_end, value_after, value, token, label_at, fork_at, node_at, read_node, exactly, letter_at, mark_at, two_labels, three_at, top_at, tree_at, untaken, read_tree}
use Rattle.meaning.specs.Grammar.{All, TokenText, behind, LabelRun, NodeText, a_label, is-fork, depth, MarkText, no_mark, marked_rooted, marked_unrooted, TopText, is_node, one_label, two-labels, three_nodes, TreeText, is_tree, OneText, is_one, Taken}
use Rattle.meaning.proofs.Logic.{clash, cases}
use Rattle.meaning.proofs.Same.{good-first, good-second}
use Rattle.meaning.proofs.Labels.{labels_in}
use Rattle.meaning.proofs.Lists.{member-append, member-in}
use Rattle.meaning.proofs.Scan.{digit-no-blank, blank-no-digit}
use Rattle.meaning.proofs.Ways.{token-yes, label-allowed, label-new, node-label, node-fork, third-two, third-more, at_label, at_bracket}

-- what is left of a text behind x, and the byte at a place
pub at_next : (s : List ℕ) (p : ℕ) (x y : List ℕ) → drop p s ≡ x ++ y → drop (p + length x) s ≡ y
at_next s p x y e = sym (drop-drop (length x) p s) ∙ ap (drop (length x)) e ∙ drop-append_seam x y

pub at_byte : (s : List ℕ) (p : ℕ) (y : List ℕ) → drop p s ≡ y → byte_at s p ≡ get_or y 0 0
at_byte s p y e = ap (byte_at s) (sym (add-zero p)) ∙ sym (get_or-drop p s 0 0) ∙ ap (λ (l : List ℕ). get_or l 0 0) e

-- a run ends where the test fails
lead-all : (test : ℕ → Bool) (w y : List ℕ) → All test w → test (get_or y 0 0) ≡ false → lead test (w ++ y) ≡ length w
unfolding All lead
lead-all test [] [] a h = refl
lead-all test [] (b ∷ y) a h = rw h
lead-all test (b ∷ w) y a h = rw a.0 (ap suc (lead-all test w y a.1 h))

pub past_all : (test : ℕ → Bool) (s : List ℕ) (p : ℕ) (w y : List ℕ) → All test w → test (get_or y 0 0) ≡ false → drop p s ≡ w ++ y → past test s p ≡ p + length w
unfolding past
past_all test s p w y a h e = rw e (ap (λ (k : ℕ). p + k) (lead-all test w y a h))

-- so a value is that of the run
pub value-all : (v : ℕ) (w y : List ℕ) → All is_digit w → is_digit (get_or y 0 0) ≡ false → value_after v (w ++ y) ≡ value_after v w
unfolding All value_after
value-all v [] [] a h = refl
value-all v [] (b ∷ y) a h = rw h
value-all v (b ∷ w) y a h = rw a.0 (value-all (v * 10 + (b - 48)) w y a.1 h)

-- a token of the grammar is found behind its blanks, and read
module _ {b : ℕ} {x : List ℕ} (T : TokenText b x) (s : List ℕ) (p : ℕ) (rest : List ℕ) (no-blank : is_blank b ≡ false) (here : drop p s ≡ x ++ rest) where
  pub token-found : (byte_at s (skip s p) ≡ b) × (skip s p + 1 ≡ p + length x)
  token-found = by T here
    where
      by : {x : List ℕ} → TokenText b x → drop p s ≡ x ++ rest → (byte_at s (skip s p) ≡ b) × (skip s p + 1 ≡ p + length x)
      by (behind w blank) e =
          let h : drop p s ≡ w ++ (b ∷ rest) = e ∙ append_assoc w (b ∷ []) rest in
          let q : skip s p ≡ p + length w = past_all is_blank s p w (b ∷ rest) blank no-blank h in
          (rw q (at_byte s (p + length w) (b ∷ rest) (at_next s p w (b ∷ rest) h)), rw (q, length-append) (omega arith))

  pub token-read : {A : Type 0} (next : ℕ → Read A) → token b s p next ≡ next (p + length x)
  token-read next = token-yes b s p next token-found.0 ∙ ap next token-found.1

-- no digit stands where a token that is none stands, behind blanks or not
pub token-no-digit : {b : ℕ} {x : List ℕ} → TokenText b x → (y : List ℕ) → is_digit b ≡ false → is_digit (get_or (x ++ y) 0 0) ≡ false
unfolding All
token-no-digit (behind [] blank) y h = h
token-no-digit (behind (c ∷ w) blank) y h = blank-no-digit c blank.0

-- a text that begins with a digit is not empty
first_of : (x y : List ℕ) → is_digit (get_or x 0 0) ≡ true → get_or (x ++ y) 0 0 ≡ get_or x 0 0
unfolding is_digit
first_of [] y h = clash cc
first_of (b ∷ x) y h = refl

-- no label of the tree is among the numbers
abbrev pub New : Tree → List ℕ → Type 0
New t seen = (l : ℕ) → In l t → member l seen ≡ false

-- a label of the grammar is found behind its blanks, and read
module _ {v : ℕ} {y : List ℕ} (R : LabelRun v y) (w : List ℕ) (blank : All is_blank w) (s : List ℕ) (p : ℕ) (rest : List ℕ) (stop : is_digit (get_or rest 0 0) ≡ false) (here : drop p s ≡ (w ++ y) ++ rest) where
  label-here : drop p s ≡ w ++ (y ++ rest)
  label-here = here ∙ append_assoc w y rest

  label-first : get_or (y ++ rest) 0 0 ≡ get_or y 0 0
  label-first = first_of y rest R.begins

  label-skip : skip s p ≡ p + length w
  label-skip = past_all is_blank s p w (y ++ rest) blank (rw label-first (digit-no-blank (get_or y 0 0) R.begins)) label-here

  label-left : drop (skip s p) s ≡ y ++ rest
  label-left = rw label-skip (at_next s p w (y ++ rest) label-here)

  label-byte : byte_at s (skip s p) ≡ get_or y 0 0
  label-byte = at_byte s (skip s p) (y ++ rest) label-left ∙ label-first

  label-value : value s (skip s p) ≡ v
  unfolding value
  label-value = rw label-left (value-all 0 y rest R.digit stop) ∙ R.writes

  label-end : run_end s (skip s p) ≡ p + length (w ++ y)
  label-end = past_all is_digit s (skip s p) y rest R.digit stop label-left ∙ rw (label-skip, length-append) (omega arith)

  label-digit : is_digit (byte_at s (skip s p)) ≡ true
  label-digit = ap is_digit label-byte ∙ R.begins

  label-at : (seen : List ℕ) → New (leaf v) seen → label_at s (skip s p) seen ≡ got (leaf v) (p + length (w ++ y))
  label-at seen N = label-new s (skip s p) seen (rw label-value (label-allowed v R.allowed.0 R.allowed.1)) (rw label-value (N v tip)) ∙ rw (label-value, label-end)

  label-read : (room : ℕ) (seen : List ℕ) → New (leaf v) seen → read_node room s p seen ≡ got (leaf v) (p + length (w ++ y))
  label-read room seen N = node-label s p seen room label-digit ∙ label-at seen N

-- the rest of a fork behind its bracket, x c y z, where x and y are read as nodes
module _ (x c y z : List ℕ) (C : TokenText 44 c) (Z : TokenText 41 z) (s : List ℕ) (p : ℕ) (rest : List ℕ) (here : drop p s ≡ x ++ (c ++ (y ++ (z ++ rest)))) where
  rest-comma : drop (p + length x) s ≡ c ++ (y ++ (z ++ rest))
  rest-comma = at_next s p x _ here

  pub rest-second : drop (p + length x + length c) s ≡ y ++ (z ++ rest)
  rest-second = at_next s (p + length x) c _ rest-comma

  rest-close : drop (p + length x + length c + length y) s ≡ z ++ rest
  rest-close = at_next s (p + length x + length c) y _ rest-second

  pub rest_read : (a b : Tree) (seen : List ℕ) (node : ℕ → List ℕ → Read Tree) → node p seen ≡ got a (p + length x) → node (p + length x + length c) (seen ++ labels a) ≡ got b (p + length x + length c + length y)
      → fork_at node s p seen ≡ got (fork a b) (p + length x + length c + length y + length z)
  unfolding fork_at is_blank
  rest_read a b seen node ea eb = rw ea (token-read C s (p + length x) _ refl rest-comma _ ∙ rw eb (token-read Z s (p + length x + length c + length y) rest refl rest-close _))

-- a fork of o x c y z, where x and y are read as nodes
module _ (o x c y z : List ℕ) (O : TokenText 40 o) (C : TokenText 44 c) (Z : TokenText 41 z) (s : List ℕ) (p : ℕ) (rest : List ℕ) (here : drop p s ≡ (o ++ (x ++ (c ++ (y ++ z)))) ++ rest) where
  abbrev p₁ : ℕ
  p₁ = p + length o

  abbrev p₂ : ℕ
  p₂ = p₁ + length x

  abbrev p₃ : ℕ
  p₃ = p₂ + length c

  abbrev p₄ : ℕ
  p₄ = p₃ + length y

  here₀ : drop p s ≡ o ++ (x ++ (c ++ (y ++ (z ++ rest))))
  here₀ = here ∙ simp append_assoc

  here₁ : drop p₁ s ≡ x ++ (c ++ (y ++ (z ++ rest)))
  here₁ = at_next s p o _ here₀

  here₂ : drop p₂ s ≡ c ++ (y ++ (z ++ rest))
  here₂ = at_next s p₁ x _ here₁

  here₃ : drop p₃ s ≡ y ++ (z ++ rest)
  here₃ = at_next s p₂ c _ here₂

  here₄ : drop p₄ s ≡ z ++ rest
  here₄ = at_next s p₃ y _ here₃

  fork-end : p₄ + length z ≡ p + length (o ++ (x ++ (c ++ (y ++ z))))
  fork-end = simp length-append (omega arith)

  module _ (a b : Tree) (seen : List ℕ) where
    pub fork-read : (node : ℕ → List ℕ → Read Tree) → node p₁ seen ≡ got a p₂ → node p₃ (seen ++ labels a) ≡ got b p₄ → fork_at node s p₁ seen ≡ got (fork a b) (p₄ + length z)
    fork-read node ea eb = rest_read x c y z C Z s p₁ rest here₁ a b seen node ea eb

    node-read : (room : ℕ) → 1 ≤ room → read_node (room - 1) s p₁ seen ≡ got a p₂ → read_node (room - 1) s p₃ (seen ++ labels a) ≡ got b p₄
        → read_node room s p seen ≡ got (fork a b) (p + length (o ++ (x ++ (c ++ (y ++ z)))))
    unfolding is_blank is_digit
    node-read room h ea eb =
        let (byte, next) = token-found O s p _ refl here₀ in
        node-fork s p seen room (ap is_digit byte) byte (λ z. omega arith)
        ∙ rw (next, ← fork-end) (fork-read (read_node (room - 1) s) ea eb)

-- the second child of a tree has no label of the first
new-second : (a b : Tree) (seen : List ℕ) → Good (fork a b) → New (fork a b) seen → New b (seen ++ labels a)
new-second a b seen G N l i =
    member-append l seen (labels a)
    ∙ rw (N l (In.second i)) (cases (λ d. d ≡ false) (member l (labels a)) (λ e. absurd (G.distinct.2 l (labels_in a (member-in l (labels a) e)) i)) (λ e. refl))

-- a node text is read, where enough brackets may open, no label was seen and no digit follows a label
pub complete : {t : Tree} {x : List ℕ} → NodeText t x → (room : ℕ) (s : List ℕ) (p : ℕ) (seen rest : List ℕ)
    → depth t ≤ room → Good t → New t seen → ((v : ℕ) → t ≡ leaf v → is_digit (get_or rest 0 0) ≡ false) → drop p s ≡ x ++ rest
    → read_node room s p seen ≡ got t (p + length x)
unfolding depth is_digit
complete (a_label {v} w blank R) room s p seen rest d G N stop here = label-read R w blank s p rest (stop v refl) here room seen N
complete (is-fork {a} {b} {o} {x} {c} {y} {z} O A C B Z) room s p seen rest d G N stop here =
    node-read o x c y z O C Z s p rest here a b seen room (omega arith)
    (complete A (room - 1) s _ seen _ (omega arith) (good-first G) (λ l i. N l (In.first i)) (λ v e. token-no-digit C _ refl) (here₁ o x c y z O C Z s p rest here))
    (complete B (room - 1) s _ (seen ++ labels a) _ (omega arith) (good-second G) (new-second a b seen G N) (λ v e. token-no-digit Z rest refl) (here₃ o x c y z O C Z s p rest here))

-- where a node text stands, its first byte behind blanks is no bracket of a mark
pub node-no-mark : {t : Tree} {x : List ℕ} → NodeText t x → (s : List ℕ) (p : ℕ) (rest : List ℕ) → drop p s ≡ x ++ rest → byte_at s (skip s p) ≡ 91 → ⊥
unfolding is_blank is_digit
node-no-mark (a_label {v} {y} w blank R) s p rest here e =
    let h : drop p s ≡ w ++ (y ++ rest) = here ∙ append_assoc w y rest in
    let first = first_of y rest R.begins in
    let q : skip s p ≡ p + length w = past_all is_blank s p w (y ++ rest) blank (rw first (digit-no-blank (get_or y 0 0) R.begins)) h in
    let b : byte_at s (skip s p) ≡ get_or y 0 0 = at_byte s (skip s p) (y ++ rest) (rw q (at_next s p w (y ++ rest) h)) ∙ first in
    let z : ◌≡◌ {A = Bool} false true = ap is_digit (sym e ∙ b) ∙ R.begins in
    clash cc
node-no-mark (is-fork {o} {x} {c} {y} {z} O A C B Z) s p rest here e =
    let (b, _) = token-found O s p _ refl (here ∙ append_assoc o (x ++ (c ++ (y ++ z))) rest) in
    absurd (omega (arith, e, b))

-- so is a top's
pub top-no-mark : {k : Kind} {t : Tree} {x : List ℕ} → TopText k t x → (s : List ℕ) (p : ℕ) (rest : List ℕ) → drop p s ≡ x ++ rest → byte_at s (skip s p) ≡ 91 → ⊥
unfolding is_blank
top-no-mark (is_node N d) s p rest here = node-no-mark N s p rest here
top-no-mark (one_label N) s p rest here = node-no-mark N s p rest here
top-no-mark (two-labels N) s p rest here = node-no-mark N s p rest here
top-no-mark (three_nodes {o} O A D B E C F h) s p rest here = λ e. let (b, _) = token-found O s p _ refl (here ∙ append_assoc o _ rest) in absurd (omega (arith, e, b))

-- the byte at a place, and what is left behind it
pub next-byte : (s : List ℕ) (q x : ℕ) (y : List ℕ) → drop q s ≡ x ∷ y → (byte_at s q ≡ x) × (drop (q + 1) s ≡ y)
next-byte s q x y e = (at_byte s q (x ∷ y) e, at_next s q (x ∷ []) y e)

-- a mark that stands there is read
module _ (s : List ℕ) (p b : ℕ) (w rest : List ℕ) (blank : All is_blank w) (here : drop p s ≡ (w ++ (91 ∷ 38 ∷ b ∷ 93 ∷ [])) ++ rest) where
  mark-here : drop p s ≡ w ++ (91 ∷ 38 ∷ b ∷ 93 ∷ rest)
  mark-here = here ∙ append_assoc w (91 ∷ 38 ∷ b ∷ 93 ∷ []) rest

  mark-skip : skip s p ≡ p + length w
  unfolding is_blank
  mark-skip = past_all is_blank s p w (91 ∷ 38 ∷ b ∷ 93 ∷ rest) blank refl mark-here

  mark-left : drop (skip s p) s ≡ 91 ∷ 38 ∷ b ∷ 93 ∷ rest
  mark-left = rw mark-skip (at_next s p w (91 ∷ 38 ∷ b ∷ 93 ∷ rest) mark-here)

  pub letter-byte : byte_at s (skip s p + 1 + 1) ≡ b
  letter-byte = let (_, d) = next-byte s (skip s p) 91 _ mark-left in let (_, e) = next-byte s (skip s p + 1) 38 _ d in (next-byte s (skip s p + 1 + 1) b _ e).0

  pub mark-read : (k : Kind) → letter_at s (skip s p + 1 + 1) ≡ got k (skip s p + 1 + 1 + 1) → mark_at s p ≡ got k (p + length (w ++ (91 ∷ 38 ∷ b ∷ 93 ∷ [])))
  unfolding mark_at exactly
  mark-read k l =
      let (b₁, d₁) = next-byte s (skip s p) 91 _ mark-left in
      let (b₂, d₂) = next-byte s (skip s p + 1) 38 _ d₁ in
      let (b₃, d₃) = next-byte s (skip s p + 1 + 1) b _ d₂ in
      let b₄ = (next-byte s (skip s p + 1 + 1 + 1) 93 _ d₃).0 in
      let e : skip s p + 1 + 1 + 1 + 1 ≡ p + length (w ++ (91 ∷ 38 ∷ b ∷ 93 ∷ [])) = rw length-append (omega (arith, mark-skip)) in
      rw (eq-eqb (byte_at s (skip s p)) 91 b₁, eq-eqb (byte_at s (skip s p + 1)) 38 b₂, l, eq-eqb (byte_at s (skip s p + 1 + 1 + 1)) 93 b₄, e)

-- a mark is read, or none where none stands
pub mark-complete : {k : Kind} {m : List ℕ} → MarkText k m → (s : List ℕ) (p : ℕ) (rest : List ℕ) → drop p s ≡ m ++ rest → (m ≡ [] → byte_at s (skip s p) ≡ 91 → ⊥) → mark_at s p ≡ got k (p + length m)
unfolding mark_at exactly letter_at
mark-complete no_mark s p rest here none = rw (ne_eqb (byte_at s (skip s p)) 91 (none refl), add-zero)
mark-complete (marked_rooted w blank) s p rest here none = let h = letter-byte s p 82 w rest blank here in mark-read s p 82 w rest blank here rooted (rw h)
mark-complete (marked_unrooted w blank) s p rest here none = let h = letter-byte s p 85 w rest blank here in mark-read s p 85 w rest blank here unrooted (rw h)

-- two labels in a fork
two-of : (v w : ℕ) → two_labels (fork (leaf v) (leaf w)) ≡ true
unfolding two_labels
two-of v w = refl

-- a bracket at the top of an unrooted tree
abbrev pub inner_node : List ℕ → ℕ → List ℕ → Read Tree
inner_node s = read_node (max_open - 1) s

abbrev within_top : List ℕ → ℕ → Read Tree
within_top s q = three_at (inner_node s) s (q + 1)

-- two labels in it
two-read : (v w : ℕ) (o x c y z : List ℕ) → TokenText 40 o → NodeText (leaf v) x → TokenText 44 c → NodeText (leaf w) y → TokenText 41 z
    → (s : List ℕ) (p : ℕ) (rest : List ℕ) → drop p s ≡ (o ++ (x ++ (c ++ (y ++ z)))) ++ rest → Good (fork (leaf v) (leaf w))
    → node_at (within_top s) s p [] ≡ got (fork (leaf v) (leaf w)) (p + length (o ++ (x ++ (c ++ (y ++ z)))))
unfolding is_blank is_digit depth member three_at
two-read v w o x c y z O A C B Z s p rest here G =
    let (byte, next) = token-found O s p _ refl (here₀ o x c y z O C Z s p rest here) in
    let p₁ : ℕ = p + length o in
    let h₁ = here₁ o x c y z O C Z s p rest here in
    let h₂ : drop (p₁ + length x) s ≡ c ++ (y ++ (z ++ rest)) = at_next s p₁ x _ h₁ in
    let p₃ : ℕ = p₁ + length x + length c in
    let h₃ : drop p₃ s ≡ y ++ (z ++ rest) = at_next s (p₁ + length x) c _ h₂ in
    let (close, end) = token-found Z s (p₃ + length y) rest refl (at_next s p₃ y (z ++ rest) h₃) in
    let ea : inner_node s p₁ [] ≡ got (leaf v) (p₁ + length x) = complete A (max_open - 1) s p₁ [] _ (omega arith) (good-first G) (λ l i. refl) (λ u e. token-no-digit C _ refl) h₁ in
    let eb : inner_node s p₃ (labels (leaf v)) ≡ got (leaf w) (p₃ + length y) =
    complete B (max_open - 1) s p₃ (labels (leaf v)) _ (omega arith) (good-second G) (new-second (leaf v) (leaf w) [] G (λ l i. refl)) (λ u e. token-no-digit Z rest refl) h₃ in
    let behind : skip s (p₃ + length y) + 1 ≡ p + length (o ++ (x ++ (c ++ (y ++ z)))) = end ∙ simp length-append (omega arith) in
    at_bracket s p [] (within_top s) (ap is_digit byte) byte
    ∙ ap (three_at (inner_node s) s) next
    ∙ rw ea (token-read C s (p₁ + length x) _ refl h₂ _ ∙ rw eb (third-two (inner_node s) s (leaf v) (leaf w) (p₃ + length y) (two-of v w) close ∙ ap (got (fork (leaf v) (leaf w))) behind))

-- or three nodes
three-read : (a b c : Tree) (o x d y e z f : List ℕ) → TokenText 40 o → NodeText a x → TokenText 44 d → NodeText b y → TokenText 44 e → NodeText c z → TokenText 41 f
    → max (depth a) (max (depth b) (depth c)) < max_open
    → (s : List ℕ) (p : ℕ) (rest : List ℕ) → drop p s ≡ (o ++ (x ++ (d ++ (y ++ (e ++ (z ++ f)))))) ++ rest → Good (fork a (fork b c))
    → node_at (within_top s) s p [] ≡ got (fork a (fork b c)) (p + length (o ++ (x ++ (d ++ (y ++ (e ++ (z ++ f)))))))
unfolding is_blank is_digit member three_at
three-read a b c o x d y e z f O A D B E C F h s p rest here G =
    let h₀ : drop p s ≡ o ++ (x ++ (d ++ (y ++ (e ++ (z ++ (f ++ rest)))))) = here ∙ simp append_assoc in
    let (byte, next) = token-found O s p _ refl h₀ in
    let p₁ : ℕ = p + length o in
    let h₁ : drop p₁ s ≡ x ++ (d ++ (y ++ (e ++ (z ++ (f ++ rest))))) = at_next s p o _ h₀ in
    let h₂ : drop (p₁ + length x) s ≡ d ++ (y ++ (e ++ (z ++ (f ++ rest)))) = at_next s p₁ x _ h₁ in
    let p₃ : ℕ = p₁ + length x + length d in
    let h₃ : drop p₃ s ≡ y ++ (e ++ (z ++ (f ++ rest))) = at_next s (p₁ + length x) d _ h₂ in
    let h₄ : drop (p₃ + length y) s ≡ e ++ (z ++ (f ++ rest)) = at_next s p₃ y _ h₃ in
    let G₂ = good-second G in
    let N = new-second a (fork b c) [] G (λ l i. refl) in
    let ea : inner_node s p₁ [] ≡ got a (p₁ + length x) = complete A (max_open - 1) s p₁ [] _ (omega (arith, h)) (good-first G) (λ l i. refl) (λ u q. token-no-digit D _ refl) h₁ in
    let eb : inner_node s p₃ (labels a) ≡ got b (p₃ + length y) = complete B (max_open - 1) s p₃ (labels a) _ (omega (arith, h)) (good-first G₂) (λ l i. N l (In.first i)) (λ u q. token-no-digit E _ refl) h₃ in
    let ec : inner_node s (p₃ + length y + length e) (labels a ++ labels b) ≡ got c (p₃ + length y + length e + length z) =
    complete C (max_open - 1) s _ (labels a ++ labels b) _ (omega (arith, h)) (good-second G₂) (new-second b c (labels a) G₂ N) (λ u q. token-no-digit F rest refl) (rest-second y e z f E F s p₃ rest h₃) in
    let h₅ : drop (p₃ + length y + length e) s ≡ z ++ (f ++ rest) = rest-second y e z f E F s p₃ rest h₃ in
    let h₆ : drop (p₃ + length y + length e + length z) s ≡ f ++ rest = at_next s (p₃ + length y + length e) z _ h₅ in
    let comma = (token-found E s (p₃ + length y) _ refl h₄).0 in
    let end : p₃ + length y + length e + length z + length f ≡ p + length (o ++ (x ++ (d ++ (y ++ (e ++ (z ++ f)))))) = simp length-append (omega arith) in
    at_bracket s p [] (within_top s) (ap is_digit byte) byte
    ∙ ap (three_at (inner_node s) s) next
    ∙ rw ea (token-read D s (p₁ + length x) _ refl h₂ _
    ∙ rw eb (third-more (inner_node s) s a b (p₃ + length y) (λ _ q. omega (arith, q, comma))
    ∙ token-read E s (p₃ + length y) _ refl h₄ _ ∙ rw ec (token-read F s (p₃ + length y + length e + length z) rest refl h₆ _ ∙ ap (got (fork a (fork b c))) end)))

-- a top is read
pub top-complete : {k : Kind} {t : Tree} {x : List ℕ} → TopText k t x → (s : List ℕ) (p : ℕ) (rest : List ℕ) → Good t → ((v : ℕ) → t ≡ leaf v → is_digit (get_or rest 0 0) ≡ false) → drop p s ≡ x ++ rest
    → top_at k s p ≡ got t (p + length x)
unfolding top_at member
top-complete (is_node N d) s p rest G stop here = complete N max_open s p [] rest d G (λ l i. refl) stop here
top-complete (one_label (a_label {v} w blank R)) s p rest G stop here =
    at_label s p [] _ (label-digit R w blank s p rest (stop v refl) here) ∙ label-at R w blank s p rest (stop v refl) here [] (λ l i. refl)
top-complete (two-labels {v} {w} (is-fork {o} {x} {c} {y} {z} O A C B Z)) s p rest G stop here = two-read v w o x c y z O A C B Z s p rest here G
top-complete (three_nodes {a} {b} {c} {o} {x} {d} {y} {e} {z} {f} O A D B E C F h) s p rest G stop here = three-read a b c o x d y e z f O A D B E C F h s p rest here G

-- a tree text is read, up to the place behind its `;`
pub tree-complete : {t : Kinded} {x : List ℕ} → TreeText t x → (s : List ℕ) (p : ℕ) (rest : List ℕ) → drop p s ≡ x ++ rest → tree_at s p ≡ got t (p + length x)
unfolding tree_at is_blank is_digit
tree-complete (is_tree {k} {t} {m} {x} {y} M T S G) s p rest here =
    let h₀ : drop p s ≡ m ++ (x ++ (y ++ rest)) = here ∙ simp append_assoc in
    let h₁ : drop (p + length m) s ≡ x ++ (y ++ rest) = at_next s p m _ h₀ in
    rw (mark-complete M s p (x ++ (y ++ rest)) h₀ (λ e. top-no-mark T s p (y ++ rest) (rw e at h₀)))
    (rw (top-complete T s (p + length m) (y ++ rest) G (λ v e. token-no-digit S rest refl) h₁)
    (token-read S s (p + length m + length x) rest refl (at_next s (p + length m) x (y ++ rest) h₁) _ ∙ ap (got (record { kind = k; tree = standing k t })) (simp length-append (omega arith))))

-- where only blanks are left, they are skipped to the end
pub blanks-end : (s : List ℕ) (p : ℕ) (w : List ℕ) → All is_blank w → drop p s ≡ w → skip s p ≡ p + length w
unfolding is_blank
blanks-end s p w blank e = past_all is_blank s p w [] blank refl (e ∙ sym (append-nil w))

-- the test for kinds that are taken
pub taken-iff : (takes : Takes) (k : Kind) → (untaken takes k ≡ 0) ↔ Taken takes k
taken-iff either k = (λ e. tt, λ h. refl)
taken-iff rooted_only rooted = (λ e. refl, λ h. refl)
taken-iff rooted_only unrooted = (λ e. absurd (omega (arith, e)), λ h. clash cc)

-- a text with one tree is read, up to the place behind the `;`
pub read-complete : (takes : Takes) {t : Kinded} {x : List ℕ} → TreeText t x → Taken takes t.kind → (y : List ℕ) → All is_blank y → read_tree takes (x ++ y) ≡ got t (length x)
unfolding read_tree
read-complete takes {t} {x} T z y blank =
    rw (tree-complete T (x ++ y) 0 y refl, zero-add, (taken-iff takes t.kind).1 z)
    (rw (blanks-end (x ++ y) (length x) y blank (drop-append_seam x y), le-ltb (length x + length y) (length (x ++ y)) (rw length-append (omega arith))))

-- so each text of the grammar is read
pub one-complete : (takes : Takes) {t : Kinded} {s : List ℕ} → OneText t s → Taken takes t.kind → (p : ℕ) × (read_tree takes s ≡ got t p)
one-complete takes (is_one {x} y T blank) z = (length x, read-complete takes T z y blank)

-- a text is the text of one tree only
pub one-tree : {s : List ℕ} {t u : Kinded} → OneText t s → OneText u s → t ≡ u
one-tree T U = let (p, e) = one-complete either T tt in let (q, f) = one-complete either U tt in cc
