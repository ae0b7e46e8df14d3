-- What is read is a text of the grammar: the reader accepts exactly its texts, and the tree is good.
-- Assumes nothing.
use mathlib.Core.Path.{◌≡◌, refl, sym, ap, subst, ◌∙◌}
use mathlib.Core.Logic.{◌↔◌}
use mathlib.Core.Bool.{Bool, true, false, cond, ◌||◌}
use mathlib.Core.List.{List, [], ◌∷◌, ◌++◌, append_assoc, append-nil}
use Prim.Native.Nat.{ℕ, zero, suc, ◌+◌, ◌-◌, ◌<◌, ◌≤◌}
use native.Mathlib.Nat.{add_assoc}
use native.Mathlib.Numerals.{add-one}
use native.Mathlib.Omega.{arith}
use lib.Dec.{lit<}
use lib.ListN.{length, drop, take, get_or, length-append, take-append-drop, drop_of_length-le}
use lib.Seq.{drop-drop, drop-cons, length-take-le}
use Rattle.meaning.specs.Limits.{max_label, max_open}
use Rattle.meaning.specs.Lists.{member}
use Rattle.meaning.specs.Tree.{Tree, leaf, fork, labels, In, tip, Good}
use Rattle.meaning.specs.Kind.{Kind, rooted, unrooted, Kinded, Takes}
use Rattle.meaning.specs.Unrooted.{standing}
use Rattle.meaning.specs.Reading.{Read, got, refused, is_blank, is_digit, byte_at, lead, past, skip, run_end, value_after, value, bad_label, label_at, fork_at, read_node, mark_at, two_labels, three_at, top_at, tree_at, untaken, read_tree}
use Rattle.meaning.specs.Grammar.{All, TokenText, behind, LabelRun, NodeText, a_label, is-fork, depth, MarkText, no_mark, marked_rooted, marked_unrooted, TopText, is_node, one_label, two-labels, three_nodes, TreeText, is_tree, OneText, is_one, Taken}
use Rattle.meaning.specs.Prefix.{From}
use Rattle.meaning.proofs.Labels.{in-labels}
use Rattle.meaning.proofs.Logic.{clash, or_left, or_right, cases}
use Rattle.meaning.proofs.Lists.{member-append, in-member}
use Rattle.meaning.proofs.Scan.{inside, lead-le, past-ge, past-byte}
use Rattle.meaning.proofs.Rootings.{standing-good}
use Rattle.meaning.proofs.Ways.{Gives, reads, refuses, gives-got, gives-map, token-gives, then-gives, label-range, label-gives, node-gives, exactly-gives, letter-gives, mark-gives, third-gives, whole-gives}
use Rattle.meaning.proofs.Complete.{New, taken-iff, at_next, at_byte, past_all, value-all, one-complete}

-- one behind the other
pub then-from : {s : List ℕ} {p q e : ℕ} {x y : List ℕ} → From s p q x → From s q e y → From s p e (x ++ y)
then-from {s} {e} {x} {y} X Y = record {
  split = X.split ∙ ap (λ (l : List ℕ). x ++ l) Y.split ∙ sym (append_assoc x y (drop e s));
  place = rw length-append (omega (arith, X.place, Y.place));
}

-- what stands behind x, where x and y stand one behind the other
pub from-behind : {s : List ℕ} {p e : ℕ} (x y : List ℕ) → From s p e (x ++ y) → From s (p + length x) e y
from-behind {s} {p} {e} x y X = record {
  split = at_next s p x (y ++ drop e s) (X.split ∙ append_assoc x y (drop e s));
  place = X.place ∙ simp (length-append, add_assoc);
}

-- blanks up to a byte that is none are skipped
pub skip-to : {s : List ℕ} {p q : ℕ} {x : List ℕ} → From s p q x → All is_blank x → is_blank (byte_at s q) ≡ false → skip s p ≡ q
skip-to {s} {p} {q} {x} X blank solid = past_all is_blank s p x (drop q s) blank (ap is_blank (sym (at_byte s q (drop q s) refl)) ∙ solid) X.split ∙ sym X.place

-- the run at a text's start passes the test
run-all : (test : ℕ → Bool) (y : List ℕ) → All test (take (lead test y) y)
unfolding All lead
run-all test [] = tt
run-all test (b ∷ y) = cases (λ d. All test (take (cond d (suc (lead test y)) 0) (b ∷ y))) (test b) (λ e. (e, run-all test y)) (λ _. tt)

-- and is as long as it is counted
run_length : (test : ℕ → Bool) (y : List ℕ) → length (take (lead test y) y) ≡ lead test y
run_length test y = length-take-le (lead test y) y (lead-le test y)

-- the run at p, up to the place past it
module _ (test : ℕ → Bool) (s : List ℕ) (p : ℕ) where
  pub run : List ℕ
  run = take (lead test (drop p s)) (drop p s)

  pub run-from : From s p (past test s p) run
  unfolding run past
  run-from = record {
    split = sym (take-append-drop (lead test (drop p s)) (drop p s)) ∙ ap (λ (l : List ℕ). take (lead test (drop p s)) (drop p s) ++ l) (drop-drop (lead test (drop p s)) p s);
    place = ap (λ (k : ℕ). p + k) (sym (run_length test (drop p s)));
  }

  pub run_is : All test run
  unfolding run
  run_is = run-all test (drop p s)

-- the token b at p, behind its blanks
abbrev pub token-text : ℕ → List ℕ → ℕ → List ℕ
token-text b s p = run is_blank s p ++ (b ∷ [])

pub token-is : (b : ℕ) (s : List ℕ) (p : ℕ) → TokenText b (token-text b s p)
token-is b s p = behind (run is_blank s p) (run_is is_blank s p)

-- the byte b at p
pub byte-from : {b : ℕ} (s : List ℕ) (p : ℕ) → 0 < b → byte_at s p ≡ b → From s p (p + 1) (b ∷ [])
byte-from s p pos h = record { split = drop-cons s p 0 (inside s p h pos) ∙ rw (h, add-one); place = refl }

pub token-from : (b : ℕ) (s : List ℕ) (p : ℕ) → 0 < b → byte_at s (skip s p) ≡ b → From s p (skip s p + 1) (token-text b s p)
token-from b s p pos h = then-from (run-from is_blank s p) (byte-from s (skip s p) pos h)

-- nothing is said of a refusal
abbrev pub Silent : ℕ → ℕ → Type 0
Silent n q = Unit {0}

-- what is known of a node that was read from p up to e
pub record Sound (room : ℕ) (s : List ℕ) (p : ℕ) (seen : List ℕ) (t : Tree) (e : ℕ) : Type 0 where
  pub text : List ℕ
  pub derives : NodeText t text
  pub stands : From s p e text
  pub deep : depth t ≤ room
  pub good : Good t
  pub new : New t seen
  pub longest : (v : ℕ) → t ≡ leaf v → is_digit (byte_at s e) ≡ false

-- the run of digits begins with the byte there
run-first : (r y : List ℕ) → is_digit (get_or (r ++ y) 0 0) ≡ true → is_digit (get_or y 0 0) ≡ false → get_or (r ++ y) 0 0 ≡ get_or r 0 0
run-first [] y h z = clash cc
run-first (b ∷ r) y h z = refl

-- a label at q
module _ (s : List ℕ) (q : ℕ) (h : is_digit (byte_at s q) ≡ true) where
  abbrev pub ds : List ℕ
  ds = run is_digit s q

  abbrev rest : List ℕ
  rest = drop (run_end s q) s

  ds-here : drop q s ≡ ds ++ rest
  ds-here = (run-from is_digit s q).split

  ds-next : is_digit (get_or rest 0 0) ≡ false
  unfolding is_digit
  ds-next = ap is_digit (sym (at_byte s (run_end s q) rest refl)) ∙ past-byte is_digit s q refl

  ds-first : byte_at s q ≡ get_or ds 0 0
  ds-first = let e = at_byte s q (ds ++ rest) ds-here in e ∙ run-first ds rest (ap is_digit (sym e) ∙ h) ds-next

  pub ds-value : value_after 0 ds ≡ value s q
  unfolding value
  ds-value = sym (ap (value_after 0) ds-here ∙ value-all 0 ds rest (run_is is_digit s q) ds-next)

  label-run : bad_label (value s q) ≡ false → LabelRun (value s q) ds
  label-run allowed = record { digit = run_is is_digit s q; begins = ap is_digit (sym ds-first) ∙ h; writes = ds-value; allowed = label-range (value s q) allowed }

-- a label of 1 to 64 that was not seen makes a leaf
pub leaf-good : {v : ℕ} → 1 ≤ v → v ≤ max_label → Good (leaf v)
leaf-good {v} l h = record { distinct = tt; small = small }
  where
    small : (k : ℕ) → In k (leaf v) → (1 ≤ k) × (k ≤ max_label)
    small k tip = (l, h)

pub leaf-new : {v : ℕ} (seen : List ℕ) → member v seen ≡ false → New (leaf v) seen
leaf-new seen m l tip = m

label_is : (room : ℕ) (s : List ℕ) (p : ℕ) (seen : List ℕ) → is_digit (byte_at s (skip s p)) ≡ true → bad_label (value s (skip s p)) ≡ false → member (value s (skip s p)) seen ≡ false
    → Sound room s p seen (leaf (value s (skip s p))) (run_end s (skip s p))
unfolding depth is_digit
label_is room s p seen h allowed m = record {
  text = run is_blank s p ++ run is_digit s (skip s p);
  derives = a_label (run is_blank s p) (run_is is_blank s p) (label-run s (skip s p) h allowed);
  stands = then-from (run-from is_blank s p) (run-from is_digit s (skip s p));
  deep = omega arith;
  good = let r = label-range _ allowed in leaf-good r.0 r.1;
  new = leaf-new seen m;
  longest = λ v e. past-byte is_digit s (skip s p) refl;
}

label-sound : (room : ℕ) (s : List ℕ) (p : ℕ) (seen : List ℕ) → is_digit (byte_at s (skip s p)) ≡ true → Gives (Sound room s p seen) Silent (label_at s (skip s p) seen)
label-sound room s p seen h = label-gives s (skip s p) seen (λ b. tt) (λ a m. tt) (label_is room s p seen h)

-- two nodes, the second with labels that are new behind the first, make a fork
module _ (a b : Tree) (seen : List ℕ) (N : New b (seen ++ labels a)) where
  second-new : (l : ℕ) → In l b → (member l seen || member l (labels a)) ≡ false
  second-new l i = sym (member-append l seen (labels a)) ∙ N l i

  second-apart : (l : ℕ) → In l a → In l b → ⊥
  second-apart l i j =
      let m = in-member (in-labels i) in
      let n = or_right (member l seen) (member l (labels a)) (second-new l j) in
      clash cc

  fork-new : New a seen → New (fork a b) seen
  fork-new M l (In.first i) = M l i
  fork-new M l (In.second i) = or_left (member l seen) (member l (labels a)) (second-new l i)

  fork-good : Good a → Good b → Good (fork a b)
  fork-good A B = record { distinct = (A.distinct, B.distinct, second-apart); small = small }
    where
      small : (l : ℕ) → In l (fork a b) → (1 ≤ l) × (l ≤ max_label)
      small l (In.first i) = A.small l i
      small l (In.second i) = B.small l i

-- what is known of the rest of a fork behind its bracket, that was read from p up to e
pub record SoundRest (room : ℕ) (s : List ℕ) (p : ℕ) (seen : List ℕ) (t : Tree) (e : ℕ) : Type 0 where
  pub first : Tree
  pub second : Tree
  pub is : t ≡ fork first second
  pub first_text : List ℕ
  pub comma : List ℕ
  pub second_text : List ℕ
  pub close : List ℕ
  pub first-is : NodeText first first_text
  pub comma-is : TokenText 44 comma
  pub second_is : NodeText second second_text
  pub close_is : TokenText 41 close
  pub stands : From s p e (first_text ++ (comma ++ (second_text ++ close)))
  pub first-deep : depth first ≤ room
  pub second-deep : depth second ≤ room
  pub good : Good (fork first second)
  pub new : New (fork first second) seen

module _ (room : ℕ) (s : List ℕ) (p : ℕ) (seen : List ℕ) where
  rest-is : (a b : Tree) (q q' : ℕ) → Sound room s p seen a q → byte_at s (skip s q) ≡ 44 → Sound room s (skip s q + 1) (seen ++ labels a) b q' → byte_at s (skip s q') ≡ 41
      → SoundRest room s p seen (fork a b) (skip s q' + 1)
  rest-is a b q q' A h₂ B h₃ = record {
    first = a;
    second = b;
    is = refl;
    first_text = A.text;
    comma = token-text 44 s q;
    second_text = B.text;
    close = token-text 41 s q';
    first-is = A.derives;
    comma-is = token-is 44 s q;
    second_is = B.derives;
    close_is = token-is 41 s q';
    stands = then-from A.stands (then-from (token-from 44 s q (lit< tt) h₂) (then-from B.stands (token-from 41 s q' (lit< tt) h₃)));
    first-deep = A.deep;
    second-deep = B.deep;
    good = fork-good a b seen B.new A.good B.good;
    new = fork-new a b seen B.new A.new;
  }

  pub rest-sound : (node : ℕ → List ℕ → Read Tree) → ((p : ℕ) (seen : List ℕ) → Gives (Sound room s p seen) Silent (node p seen))
      → Gives (SoundRest room s p seen) Silent (fork_at node s p seen)
  unfolding fork_at
  rest-sound node ih =
      then-gives _ (ih p seen) λ a q A.
      token-gives 44 s q _ (λ _. tt) λ h₂.
      then-gives _ (ih (skip s q + 1) (seen ++ labels a)) λ b q' B.
      token-gives 41 s q' _ (λ _. tt) λ h₃.
      reads (rest-is a b q q' A h₂ B h₃)

-- a fork whose bracket is the token at p
fork-is : (room : ℕ) (s : List ℕ) (p : ℕ) (seen : List ℕ) → byte_at s (skip s p) ≡ 40 → (t : Tree) (e : ℕ) → SoundRest room s (skip s p + 1) seen t e → Sound (suc room) s p seen t e
unfolding depth
fork-is room s p seen h t e R = subst (λ (u : Tree). Sound (suc room) s p seen u e) (sym R.is) (record {
  text = token-text 40 s p ++ (R.first_text ++ (R.comma ++ (R.second_text ++ R.close)));
  derives = is-fork (token-is 40 s p) R.first-is R.comma-is R.second_is R.close_is;
  stands = then-from (token-from 40 s p (lit< tt) h) R.stands;
  deep = omega (arith, R.first-deep, R.second-deep);
  good = R.good;
  new = R.new;
  longest = λ v e. clash cc;
})

-- a node that is read is a text of the grammar
pub sound : (room : ℕ) (s : List ℕ) (p : ℕ) (seen : List ℕ) → Gives (Sound room s p seen) Silent (read_node room s p seen)
unfolding read_node
sound zero s p seen = node-gives s (λ q. refused 4 q) p seen (λ _ _. tt) (label-sound zero s p seen) (λ h. refuses tt)
sound (suc room) s p seen = node-gives s (λ q. fork_at (read_node room s) s (q + 1) seen) p seen (λ _ _. tt)
    (label-sound (suc room) s p seen) (λ h. gives-map (fork-is room s p seen h) (λ n e z. z) (rest-sound room s (skip s p + 1) seen (read_node room s) (sound room s)))

-- what is known of a mark that was read from p up to e, or of none
pub record SoundMark (s : List ℕ) (p : ℕ) (k : Kind) (e : ℕ) : Type 0 where
  pub text : List ℕ
  pub derives : MarkText k text
  pub stands : From s p e text

-- the four bytes of a mark
module _ (s : List ℕ) (p b : ℕ) (h₁ : byte_at s (skip s p) ≡ 91) (h₂ : byte_at s (skip s p + 1) ≡ 38) (pos : 0 < b) (h₃ : byte_at s (skip s p + 1 + 1) ≡ b) (h₄ : byte_at s (skip s p + 1 + 1 + 1) ≡ 93) where
  mark-from : From s p (skip s p + 1 + 1 + 1 + 1) (run is_blank s p ++ (91 ∷ 38 ∷ b ∷ 93 ∷ []))
  mark-from =
      then-from (run-from is_blank s p)
      (then-from (byte-from s (skip s p) (lit< tt) h₁) (then-from (byte-from s (skip s p + 1) (lit< tt) h₂) (then-from (byte-from s (skip s p + 1 + 1) pos h₃) (byte-from s (skip s p + 1 + 1 + 1) (lit< tt) h₄))))

pub mark-sound : (s : List ℕ) (p : ℕ) → Gives (SoundMark s p) Silent (mark_at s p)
mark-sound s p =
    mark-gives s p (λ _. record { text = []; derives = no_mark; stands = record { split = refl; place = omega arith } }) λ h₁.
    exactly-gives 38 s (skip s p + 1) _ (λ _. tt) λ h₂.
    then-gives {P = λ k q. (q ≡ skip s p + 1 + 1 + 1) × (byte_at s (skip s p + 1 + 1) ≡ letter k)} _
    (letter-gives s (skip s p + 1 + 1) (λ h. (refl, h)) (λ h. (refl, h)) (λ _ _. tt)) λ k q H.
    exactly-gives 93 s q _ (λ _. tt) λ h₄.
    reads (mark_of k q H h₁ h₂ h₄)
  where
    letter : Kind → ℕ
    letter rooted = 82
    letter unrooted = 85

    mark_of : (k : Kind) (q : ℕ) → (q ≡ skip s p + 1 + 1 + 1) × (byte_at s (skip s p + 1 + 1) ≡ letter k) → byte_at s (skip s p) ≡ 91 → byte_at s (skip s p + 1) ≡ 38 → byte_at s q ≡ 93
        → SoundMark s p k (q + 1)
    mark_of rooted q (e, h₃) h₁ h₂ h₄ = rw e (record {
      text = run is_blank s p ++ (91 ∷ 38 ∷ 82 ∷ 93 ∷ []);
      derives = marked_rooted (run is_blank s p) (run_is is_blank s p);
      stands = mark-from s p 82 h₁ h₂ (lit< tt) h₃ (sym (ap (byte_at s) e) ∙ h₄);
    })
    mark_of unrooted q (e, h₃) h₁ h₂ h₄ = rw e (record {
      text = run is_blank s p ++ (91 ∷ 38 ∷ 85 ∷ 93 ∷ []);
      derives = marked_unrooted (run is_blank s p) (run_is is_blank s p);
      stands = mark-from s p 85 h₁ h₂ (lit< tt) h₃ (sym (ap (byte_at s) e) ∙ h₄);
    })

-- what is known of a top that was read from p up to e
pub record SoundTop (k : Kind) (s : List ℕ) (p : ℕ) (t : Tree) (e : ℕ) : Type 0 where
  pub text : List ℕ
  pub derives : TopText k t text
  pub stands : From s p e text
  pub good : Good t
  pub longest : (v : ℕ) → t ≡ leaf v → is_digit (byte_at s e) ≡ false

-- a fork of two labels is an unrooted top
two-top : {room : ℕ} {s : List ℕ} {p : ℕ} (t : Tree) (e : ℕ) → Sound room s p [] t e → two_labels t ≡ true → SoundTop unrooted s p t e
unfolding two_labels
two-top (leaf v) e S z = clash cc
two-top (fork (leaf v) (leaf w)) e S z = record { text = S.text; derives = two-labels S.derives; stands = S.stands; good = S.good; longest = S.longest }
two-top (fork (leaf v) (fork b c)) e S z = clash cc
two-top (fork (fork a b) c) e S z = clash cc

-- two labels, or three nodes
module _ (s : List ℕ) (p : ℕ) (h₁ : byte_at s (skip s p) ≡ 40) where
  three-is : (a r : Tree) (q e : ℕ) → Sound (max_open - 1) s (skip s p + 1) [] a q → byte_at s (skip s q) ≡ 44 → SoundRest (max_open - 1) s (skip s q + 1) (labels a) r e → SoundTop unrooted s p (fork a r) e
  three-is a r q e A h₂ R = subst (λ (u : Tree). SoundTop unrooted s p (fork a u) e) (sym R.is) (record {
    text = token-text 40 s p ++ (A.text ++ (token-text 44 s q ++ (R.first_text ++ (R.comma ++ (R.second_text ++ R.close)))));
    derives = three_nodes (token-is 40 s p) A.derives (token-is 44 s q) R.first-is R.comma-is R.second_is R.close_is (omega (arith, A.deep, R.first-deep, R.second-deep));
    stands = then-from (token-from 40 s p (lit< tt) h₁) (then-from A.stands (then-from (token-from 44 s q (lit< tt) h₂) R.stands));
    good = fork-good a (fork R.first R.second) [] R.new A.good R.good;
    longest = λ v z. clash cc;
  })

  three-sound : Gives (SoundTop unrooted s p) Silent (three_at (read_node (max_open - 1) s) s (skip s p + 1))
  unfolding three_at
  three-sound =
      let room : ℕ = max_open - 1 in
      then-gives _ (sound room s (skip s p + 1) []) λ a q A.
      token-gives 44 s q _ (λ _. tt) λ h₂.
      then-gives _ (sound room s (skip s q + 1) (labels a)) λ b q₂ B.
      third-gives (read_node room s) s a b q₂
      (λ z h₃. two-top (fork a b) (skip s q₂ + 1) (fork-is room s p [] h₁ (fork a b) (skip s q₂ + 1) (rest-is room s (skip s p + 1) [] a b q q₂ A h₂ B h₃)) z) λ _.
      token-gives 44 s q₂ _ (λ _. tt) λ h₃.
      then-gives _ (sound room s (skip s q₂ + 1) (labels a ++ labels b)) λ c q₃ C.
      token-gives 41 s q₃ _ (λ _. tt) λ h₄.
      reads (three-is a (fork b c) q (skip s q₃ + 1) A h₂ (rest-is room s (skip s q + 1) (labels a) b c q₂ q₃ B h₃ C h₄))

pub top_sound : (k : Kind) (s : List ℕ) (p : ℕ) → Gives (SoundTop k s p) Silent (top_at k s p)
unfolding top_at
top_sound rooted s p =
    gives-map (λ t e S. record { text = S.text; derives = is_node S.derives S.deep; stands = S.stands; good = S.good; longest = S.longest }) (λ n e z. z) (sound max_open s p [])
top_sound unrooted s p =
    node-gives s (λ q. three_at (read_node (max_open - 1) s) s (q + 1)) p [] (λ _ _. tt)
    (λ h. label-gives s (skip s p) [] (λ b. tt) (λ a m. tt) λ allowed m.
    let S = label_is max_open s p [] h allowed m in
    record { text = S.text; derives = one_label S.derives; stands = S.stands; good = S.good; longest = S.longest })
    (three-sound s p)

-- what is known of a tree that was read from p up to e, the place behind its `;`
pub record SoundTree (s : List ℕ) (p : ℕ) (x : Kinded) (e : ℕ) : Type 0 where
  pub text : List ℕ
  pub derives : TreeText x text
  pub stands : From s p e text
  pub behind_it : (p < e) × (e ≤ length s) × (byte_at s (e - 1) ≡ 59)

module _ (s : List ℕ) (p : ℕ) where
  tree_is : (k : Kind) (p₁ : ℕ) (t : Tree) (q : ℕ) → SoundMark s p k p₁ → SoundTop k s p₁ t q → byte_at s (skip s q) ≡ 59 → SoundTree s p (record { kind = k; tree = standing k t }) (skip s q + 1)
  tree_is k p₁ t q M T h =
      let inner = inside s (skip s q) h (lit< tt) in
      let back : skip s q + 1 - 1 ≡ skip s q = omega arith in
      record {
        text = M.text ++ (T.text ++ token-text 59 s q);
        derives = is_tree M.derives T.derives (token-is 59 s q) T.good;
        stands = then-from M.stands (then-from T.stands (token-from 59 s q (lit< tt) h));
        behind_it = (omega (arith, M.stands.place, T.stands.place, past-ge is_blank s q), omega arith, ap (byte_at s) back ∙ h);
      }

  -- every answer of the reader of a tree is so
  pub tree-gives : Gives (SoundTree s p) Silent (tree_at s p)
  unfolding tree_at
  tree-gives =
      then-gives _ (mark-sound s p) λ k p₁ M.
      then-gives _ (top_sound k s p₁) λ t q T.
      token-gives 59 s q _ (λ _. tt) λ h.
      reads (tree_is k p₁ t q M T h)

-- a tree that is read is a tree text
pub tree-sound : (s : List ℕ) (p : ℕ) (x : Kinded) (e : ℕ) → tree_at s p ≡ got x e → SoundTree s p x e
tree-sound s p x e h = gives-got (tree-gives s p) h

-- a tree text holds a good tree, so only good trees are read
pub text-good : {x : Kinded} {y : List ℕ} → TreeText x y → Good x.tree
text-good (is_tree {k} M T S G) = standing-good k G

pub tree-good : (s : List ℕ) (q : ℕ) (x : Kinded) (p : ℕ) → tree_at s q ≡ got x p → Good x.tree
tree-good s q x p h = text-good (tree-sound s q x p h).derives

-- the `;` of a tree stands before the place behind it
pub tree-behind : (s : List ℕ) (q : ℕ) (t : Kinded) (p : ℕ) → tree_at s q ≡ got t p → (q < p) × (p ≤ length s) × (get_or s (p - 1) 0 ≡ 59)
tree-behind s q t p h = (tree-sound s q t p h).behind_it

-- where the blanks at p end the text, they are all that is left
pub blanks-left : (s : List ℕ) (p : ℕ) → length s ≤ skip s p → drop p s ≡ run is_blank s p
blanks-left s p h = (run-from is_blank s p).split ∙ rw (drop_of_length-le s h) (append-nil (run is_blank s p))

-- one tree of a kind that is taken is read, and the blanks behind it end the text
read-gives : (takes : Takes) (s : List ℕ) → Gives (λ x p. SoundTree s 0 x p × (untaken takes x.kind ≡ 0) × (length s ≤ skip s p)) Silent (read_tree takes s)
read-gives takes s = whole-gives takes s (tree-gives s 0) (λ x p S m e. tt) (λ x p S z h. tt) (λ x p S z h. (S, z, h))

module _ (takes : Takes) (s : List ℕ) (x : Kinded) (p : ℕ) (h : read_tree takes s ≡ got x p) where
  read-tree : SoundTree s 0 x p
  read-tree = (gives-got (read-gives takes s) h).0

  -- what is read is a text of the grammar
  read-sound : OneText x s
  read-sound =
      let e : s ≡ read-tree.text ++ run is_blank s p = read-tree.stands.split ∙ ap (λ (l : List ℕ). read-tree.text ++ l) (blanks-left s p (gives-got (read-gives takes s) h).2) in
      subst (OneText x) (sym e) (is_one (run is_blank s p) read-tree.derives (run_is is_blank s p))

  -- of a kind that is taken
  pub read_taken : Taken takes x.kind
  read_taken = (taken-iff takes x.kind).0 (gives-got (read-gives takes s) h).1

  -- only good trees are read
  pub read-good : Good x.tree
  read-good = text-good read-tree.derives

  -- the `;` stands at p - 1
  pub read_behind : (1 ≤ p) × (p ≤ length s) × (get_or s (p - 1) 0 ≡ 59)
  read_behind = read-tree.behind_it

-- exactly the texts of the grammar with a tree of a kind that is taken are read
pub read-iff : (takes : Takes) (x : Kinded) (s : List ℕ) → ((p : ℕ) × (read_tree takes s ≡ got x p)) ↔ (OneText x s × Taken takes x.kind)
read-iff takes x s = (λ r. (read-sound takes s x r.0 r.1, read_taken takes s x r.0 r.1), λ (T, z). one-complete takes T z)
