-- Zeros before labels change nothing: texts that differ only in them are read as the same trees, or refused by the same line.
-- Assumes nothing.
use mathlib.Core.Path.{◌≡◌, refl, sym, ap, subst, ◌∙◌}
use mathlib.Core.Bool.{Bool, true, false, cond, not, ◌&&◌}
use mathlib.Core.List.{List, [], ◌∷◌, ◌++◌}
use Prim.Native.Nat.{ℕ, zero, suc, ◌+◌, ◌-◌, ◌*◌, ◌<◌, ◌≤◌}
use native.Mathlib.Decide.{dec_le}
use native.Mathlib.Numerals.{add-one}
use native.Mathlib.Omega.{arith}
use borrow.Author.Tests.{lt-ltb, le-ltb, eqb-true, ne_eqb}
use lib.Dec.{eqb, ltb}
use lib.ListN.{length, drop, get_or, replicate, length-drop}
use lib.Seq.{drop-cons, drop-drop}
use Rattle.meaning.specs.Limits.{max_open, max_trees}
use Rattle.meaning.specs.Lists.{member}
use Rattle.meaning.specs.Tree.{Tree, leaf, fork, labels}
use Rattle.meaning.specs.Reading.{Read, got, refused, is_blank, is_digit, byte_at, lead, past, skip, run_end, value_after, value, and_then, or_wrong, token, bad_label, label_at, fork_at, node_at, read_node, exactly, letter_at, mark_at, two_labels, third_at, three_at, top_at, tree_at, untaken, read_tree, like_first, or_differs, or_end, table_from, read_table}
use Rattle.meaning.specs.Kind.{Kind, rooted, unrooted, Kinded, Takes}
use Rattle.meaning.specs.Zeros.{padding, unpad, unpadded, SameReading, both_read, both_refused}
use Rattle.meaning.proofs.Logic.{and_left, and_right, cases, clash}
use Rattle.meaning.proofs.Scan.{inside, digit_low, digit-no-blank, blank-no-digit}
use Rattle.meaning.proofs.Complete.{at_byte}

-- ---- one byte: a zero that is left out, another digit, or no digit
data Step (kept : Bool) (b : ℕ) (s : List ℕ) : Type 0 where
  left_out : kept ≡ false → b ≡ 48 → is_digit (get_or s 0 0) ≡ true → unpad kept (b ∷ s) ≡ unpad false s → Step kept b s
  digit : is_digit b ≡ true → unpad kept (b ∷ s) ≡ b ∷ unpad true s → Step kept b s
  other : is_digit b ≡ false → unpad kept (b ∷ s) ≡ b ∷ unpad false s → Step kept b s

zero-digit : is_digit 48 ≡ true
unfolding is_digit
zero-digit = refl

not-false : (a : Bool) → not a ≡ true → a ≡ false
not-false true e = sym e
not-false false e = refl

step : (kept : Bool) (b : ℕ) (s : List ℕ) → Step kept b s
unfolding unpad padding
step kept b s = cases (λ d. padding kept b s ≡ d → Step kept b s) (padding kept b s) (λ _ e. drops e) (λ _ e. keeps e) refl
  where
    drops : padding kept b s ≡ true → Step kept b s
    drops e =
        let none = not-false kept (and_left (not kept) (eqb b 48 && is_digit (get_or s 0 0)) e) in
        let both = and_right (not kept) (eqb b 48 && is_digit (get_or s 0 0)) e in
        left_out none (eqb-true b 48 (and_left (eqb b 48) (is_digit (get_or s 0 0)) both)) (and_right (eqb b 48) (is_digit (get_or s 0 0)) both) (rw (e, none))

    keeps : padding kept b s ≡ false → Step kept b s
    keeps e = cases (λ d. is_digit b ≡ d → Step kept b s) (is_digit b) (λ _ d. digit d (rw e (ap (λ (k : Bool). b ∷ unpad k s) d)))
        (λ _ d. other d (rw e (ap (λ (k : Bool). b ∷ unpad k s) d))) refl

-- ---- a text without them: its first byte, blanks, run of digits, value and end
first-digit : (kept : Bool) (x : List ℕ) → is_digit (get_or (unpad kept x) 0 0) ≡ is_digit (get_or x 0 0)
unfolding unpad
first-digit kept [] = refl
first-digit kept (b ∷ s) = go (step kept b s) (first-digit false s)
  where
    go : Step kept b s → is_digit (get_or (unpad false s) 0 0) ≡ is_digit (get_or s 0 0) → is_digit (get_or (unpad kept (b ∷ s)) 0 0) ≡ is_digit b
    go (left_out k z d e) ih = rw e (ih ∙ d ∙ sym (ap is_digit z ∙ zero-digit))
    go (digit d e) ih = rw e
    go (other d e) ih = rw e

first-other : (kept : Bool) (x : List ℕ) → is_digit (get_or x 0 0) ≡ false → get_or (unpad kept x) 0 0 ≡ get_or x 0 0
unfolding unpad
first-other kept [] d = refl
first-other kept (b ∷ s) d = go (step kept b s)
  where
    go : Step kept b s → get_or (unpad kept (b ∷ s)) 0 0 ≡ b
    go (left_out k z d' e) = let y : is_digit b ≡ true = ap is_digit z ∙ zero-digit in clash cc
    go (digit d' e) = rw e
    go (other d' e) = rw e

-- a byte that is no digit stays
other_step : (kept : Bool) (b : ℕ) (s : List ℕ) → is_digit b ≡ false → unpad kept (b ∷ s) ≡ b ∷ unpadded s
other_step kept b s n = go (step kept b s)
  where
    go : Step kept b s → unpad kept (b ∷ s) ≡ b ∷ unpadded s
    go (left_out k z d e) = let y : is_digit b ≡ true = ap is_digit z ∙ zero-digit in clash cc
    go (digit d e) = clash cc
    go (other d e) = e

lead-none : (test : ℕ → Bool) (x : List ℕ) → test (get_or x 0 0) ≡ false → lead test x ≡ 0
unfolding lead
lead-none test [] e = refl
lead-none test (b ∷ x) e = rw e

first-solid : (x : List ℕ) → is_blank (get_or x 0 0) ≡ false → is_blank (get_or (unpadded x) 0 0) ≡ false
first-solid x e =
    cases (λ d. is_digit (get_or x 0 0) ≡ d → is_blank (get_or (unpadded x) 0 0) ≡ false) (is_digit (get_or x 0 0))
    (λ _ d. digit-no-blank (get_or (unpadded x) 0 0) (first-digit false x ∙ d)) (λ _ d. ap is_blank (first-other false x d) ∙ e) refl

blanks-same : (x : List ℕ) → drop (lead is_blank (unpadded x)) (unpadded x) ≡ unpadded (drop (lead is_blank x) x)
unfolding lead unpad
blanks-same [] = refl
blanks-same (b ∷ s) =
    cases (λ d. is_blank b ≡ d → drop (lead is_blank (unpadded (b ∷ s))) (unpadded (b ∷ s)) ≡ unpadded (drop (cond d (suc (lead is_blank s)) 0) (b ∷ s))) (is_blank b)
    (λ _ e. goes e (step false b s) (blanks-same s)) (λ _ e. rw (lead-none is_blank (unpadded (b ∷ s)) (first-solid (b ∷ s) e))) refl
  where
    goes : is_blank b ≡ true → Step false b s → drop (lead is_blank (unpadded s)) (unpadded s) ≡ unpadded (drop (lead is_blank s) s)
        → drop (lead is_blank (unpadded (b ∷ s))) (unpadded (b ∷ s)) ≡ unpadded (drop (lead is_blank s) s)
    goes e (left_out k z d f) ih = let n = blank-no-digit b e in let y : is_digit b ≡ true = ap is_digit z ∙ zero-digit in clash cc
    goes e (digit d f) ih = let n = blank-no-digit b e in clash cc
    goes e (other d f) ih = rw (f, e) ih

run-same : (kept : Bool) (x : List ℕ) → drop (lead is_digit (unpad kept x)) (unpad kept x) ≡ unpadded (drop (lead is_digit x) x)
unfolding lead unpad
run-same kept [] = refl
run-same kept (b ∷ s) = go (step kept b s) (run-same false s) (run-same true s)
  where
    go : Step kept b s → drop (lead is_digit (unpad false s)) (unpad false s) ≡ unpadded (drop (lead is_digit s) s)
        → drop (lead is_digit (unpad true s)) (unpad true s) ≡ unpadded (drop (lead is_digit s) s)
        → drop (lead is_digit (unpad kept (b ∷ s))) (unpad kept (b ∷ s)) ≡ unpadded (drop (cond (is_digit b) (suc (lead is_digit s)) 0) (b ∷ s))
    go (left_out k z d e) f g = let y : is_digit b ≡ true = ap is_digit z ∙ zero-digit in rw (e, y) f
    go (digit d e) f g = rw (e, d) g
    go (other d e) f g = rw (e, d) (sym (other_step false b s d))

value_same : (kept : Bool) (x : List ℕ) (v : ℕ) → (kept ≡ false → v ≡ 0) → value_after v (unpad kept x) ≡ value_after v x
unfolding value_after unpad
value_same kept [] v h = refl
value_same kept (b ∷ s) v h = go (step kept b s) (value_same false s) (value_same true s)
  where
    go : Step kept b s → ((v : ℕ) → (false ≡ false → v ≡ 0) → value_after v (unpad false s) ≡ value_after v s)
        → ((v : ℕ) → (true ≡ false → v ≡ 0) → value_after v (unpad true s) ≡ value_after v s) → value_after v (unpad kept (b ∷ s)) ≡ cond (is_digit b) (value_after (v * 10 + (b - 48)) s) v
    go (left_out k z d e) f g =
        let y : is_digit b ≡ true = ap is_digit z ∙ zero-digit in
        let same : v * 10 + (b - 48) ≡ v = omega (arith, h k) in
        rw (e, y, same) (f v (λ _. h k))
    go (digit d e) f g = rw (e, d) (g (v * 10 + (b - 48)) (λ q. clash cc))
    go (other d e) f g = rw (e, d)

some_left : (kept : Bool) (x : List ℕ) → 0 < length x → 0 < length (unpad kept x)
unfolding unpad
some_left kept [] h = h
some_left kept (b ∷ s) h = go (step kept b s) (some_left false s)
  where
    go : Step kept b s → (0 < length s → 0 < length (unpad false s)) → 0 < length (unpad kept (b ∷ s))
    go (left_out k z d e) f = rw e (f (inside s 0 refl (omega (arith, digit_low (get_or s 0 0) d))))
    go (digit d e) f = rw e (omega arith)
    go (other d e) f = rw e (omega arith)

none_left : (kept : Bool) (x : List ℕ) → length x ≡ 0 → length (unpad kept x) ≡ 0
unfolding unpad
none_left kept [] h = refl
none_left kept (b ∷ s) h = absurd (omega arith)

-- ---- places of two texts from which on they differ only in such zeros
module _ (s u : List ℕ) where
  abbrev Like : ℕ → ℕ → Type 0
  Like p q = unpadded (drop p s) ≡ unpadded (drop q u)

  like-skip : (p q : ℕ) → Like p q → Like (skip s p) (skip u q)
  unfolding past
  like-skip p q h =
      ap unpadded (sym (drop-drop (lead is_blank (drop p s)) p s)) ∙ sym (blanks-same (drop p s)) ∙ ap (λ (l : List ℕ). drop (lead is_blank l) l) h
      ∙ blanks-same (drop q u) ∙ ap unpadded (drop-drop (lead is_blank (drop q u)) q u)

  like-run : (p q : ℕ) → Like p q → Like (run_end s p) (run_end u q)
  unfolding past
  like-run p q h =
      ap unpadded (sym (drop-drop (lead is_digit (drop p s)) p s)) ∙ sym (run-same false (drop p s)) ∙ ap (λ (l : List ℕ). drop (lead is_digit l) l) h
      ∙ run-same false (drop q u) ∙ ap unpadded (drop-drop (lead is_digit (drop q u)) q u)

  like-value : (p q : ℕ) → Like p q → value s p ≡ value u q
  unfolding value
  like-value p q h = sym (value_same false (drop p s) 0 (λ _. refl)) ∙ ap (value_after 0) h ∙ value_same false (drop q u) 0 (λ _. refl)

  module _ (p q : ℕ) (h : Like p q) where
    like-digit : is_digit (byte_at s p) ≡ is_digit (byte_at u q)
    like-digit =
        ap is_digit (at_byte s p (drop p s) refl) ∙ sym (first-digit false (drop p s)) ∙ ap (λ (l : List ℕ). is_digit (get_or l 0 0)) h
        ∙ first-digit false (drop q u) ∙ ap is_digit (sym (at_byte u q (drop q u) refl))

    like-other : is_digit (byte_at s p) ≡ false → byte_at s p ≡ byte_at u q
    like-other d =
        let e = at_byte s p (drop p s) refl in
        let f = at_byte u q (drop q u) refl in
        e ∙ sym (first-other false (drop p s) (ap is_digit (sym e) ∙ d)) ∙ ap (λ (l : List ℕ). get_or l 0 0) h
        ∙ first-other false (drop q u) (ap is_digit (sym f) ∙ sym like-digit ∙ d) ∙ sym f

    -- no digit is alike in both
    like-test : (b : ℕ) → is_digit b ≡ false → eqb (byte_at s p) b ≡ eqb (byte_at u q) b
    like-test b n =
        cases (λ d. is_digit (byte_at s p) ≡ d → eqb (byte_at s p) b ≡ eqb (byte_at u q) b) (is_digit (byte_at s p))
        (λ _ d. ne_eqb (byte_at s p) b (λ e. let z : is_digit (byte_at s p) ≡ false = ap is_digit e ∙ n in clash cc)
        ∙ sym (ne_eqb (byte_at u q) b (λ e. let z : is_digit (byte_at u q) ≡ false = ap is_digit e ∙ n in let w = like-digit in clash cc)))
        (λ _ d. ap (λ (x : ℕ). eqb x b) (like-other d)) refl

    like-next : (b : ℕ) → byte_at s p ≡ b → 0 < b → is_digit b ≡ false → Like (p + 1) (q + 1)
    like-next b e l n =
        let f : byte_at u q ≡ b = sym (like-other (ap is_digit e ∙ n)) ∙ e in
        ap (drop 1) (sym (behind s p b e l n) ∙ h ∙ behind u q b f l n)
      where
        behind : (x : List ℕ) (i c : ℕ) → byte_at x i ≡ c → 0 < c → is_digit c ≡ false → unpadded (drop i x) ≡ c ∷ unpadded (drop (i + 1) x)
        behind x i c e l n = rw (drop-cons x i 0 (inside x i e l), e, add-one) (other_step false c (drop (suc i) x) n)

    like-end : ltb p (length s) ≡ ltb q (length u)
    like-end = by (dec_le (length s) p) (dec_le (length u) q)
      where
        same : length (unpadded (drop p s)) ≡ length (unpadded (drop q u))
        same = ap length h

        by : Dec (length s ≤ p) → Dec (length u ≤ q) → ltb p (length s) ≡ ltb q (length u)
        by (yes k) (yes l) = le-ltb p (length s) k ∙ sym (le-ltb q (length u) l)
        by (yes k) (no l) =
            absurd (omega (arith, same, none_left false (drop p s) (omega (arith, length-drop p s)), some_left false (drop q u) (omega (arith, length-drop q u))))
        by (no k) (yes l) =
            absurd (omega (arith, same, none_left false (drop q u) (omega (arith, length-drop q u)), some_left false (drop p s) (omega (arith, length-drop p s))))
        by (no k) (no l) = lt-ltb p (length s) (omega arith) ∙ sym (lt-ltb q (length u) (omega arith))

  -- ---- readings from such places: the same up to such a place, or the same line
  data Likewise {A : Type 0} : Read A → Read A → Type 0 where
    reads : {a : A} {p q : ℕ} → Like p q → Likewise (got a p) (got a q)
    refuses : {n p q : ℕ} → Likewise (refused n p) (refused n q)

  then-likewise : {A B : Type 0} {r r' : Read A} {next next' : A → ℕ → Read B} → Likewise r r' → ((a : A) (p q : ℕ) → Like p q → Likewise (next a p) (next' a q))
      → Likewise (and_then r next) (and_then r' next')
  then-likewise (reads {a} {p} {q} h) f = f a p q h
  then-likewise refuses f = refuses

  cond-likewise : {A : Type 0} {r r' t t' : Read A} (d d' : Bool) → d ≡ d' → (d ≡ true → Likewise r r') → (d ≡ false → Likewise t t') → Likewise (cond d r t) (cond d' r' t')
  cond-likewise true true e f g = f refl
  cond-likewise true false e f g = clash cc
  cond-likewise false true e f g = clash cc
  cond-likewise false false e f g = g refl

  wrong-likewise : {A : Type 0} (p q : ℕ) (next next' : ℕ → Read A) (d d' : Bool) → d ≡ d' → (d ≡ true → Likewise (next p) (next' q)) → Likewise (or_wrong d p next) (or_wrong d' q next')
  wrong-likewise p q next next' true true e f = f refl
  wrong-likewise p q next next' true false e f = clash cc
  wrong-likewise p q next next' false true e f = clash cc
  wrong-likewise p q next next' false false e f = refuses

  exact-likewise : {A : Type 0} (b : ℕ) → 0 < b → is_digit b ≡ false → (next next' : ℕ → Read A) (p q : ℕ) → Like p q
      → ((i j : ℕ) → Like i j → Likewise (next i) (next' j)) → Likewise (exactly b s p next) (exactly b u q next')
  unfolding exactly
  exact-likewise b l n next next' p q h f =
      wrong-likewise p q (λ i. next (i + 1)) (λ j. next' (j + 1)) (eqb (byte_at s p) b) (eqb (byte_at u q) b) (like-test p q h b n)
      (λ e. f _ _ (like-next p q h b (eqb-true (byte_at s p) b e) l n))

  token-likewise : {A : Type 0} (b : ℕ) → 0 < b → is_digit b ≡ false → (next next' : ℕ → Read A) (p q : ℕ) → Like p q
      → ((i j : ℕ) → Like i j → Likewise (next i) (next' j)) → Likewise (token b s p next) (token b u q next')
  unfolding token exactly
  token-likewise b l n next next' p q h f = exact-likewise b l n next next' (skip s p) (skip u q) (like-skip p q h) f

  label-likewise : (p q : ℕ) (seen : List ℕ) → Like p q → Likewise (label_at s p seen) (label_at u q seen)
  unfolding label_at
  label-likewise p q seen h =
      let e = like-value p q h in
      cond-likewise (bad_label (value s p)) (bad_label (value u q)) (ap bad_label e) (λ _. refuses) λ _.
      cond-likewise (member (value s p) seen) (member (value u q) seen) (ap (λ (v : ℕ). member v seen) e) (λ _. refuses) λ _.
      subst (λ (v : ℕ). Likewise (got (leaf (value s p)) (run_end s p)) (got (leaf v) (run_end u q))) e (reads (like-run p q h))

  node-likewise : (bracket bracket' : ℕ → Read Tree) → ((p q : ℕ) → byte_at s p ≡ 40 → Like p q → Likewise (bracket p) (bracket' q)) → (p q : ℕ) (seen : List ℕ) → Like p q
      → Likewise (node_at bracket s p seen) (node_at bracket' u q seen)
  unfolding node_at is_digit
  node-likewise bracket bracket' opens p q seen h =
      let k = like-skip p q h in
      let i = skip s p in
      let j = skip u q in
      cond-likewise (is_digit (byte_at s i)) (is_digit (byte_at u j)) (like-digit i j k) (λ _. label-likewise i j seen k) λ _.
      wrong-likewise i j bracket bracket' (eqb (byte_at s i) 40) (eqb (byte_at u j) 40) (like-test i j k 40 refl) (λ e. opens i j (eqb-true (byte_at s i) 40 e) k)

  fork-likewise : (node node' : ℕ → List ℕ → Read Tree) → ((p q : ℕ) (seen : List ℕ) → Like p q → Likewise (node p seen) (node' q seen)) → (p q : ℕ) (seen : List ℕ) → Like p q
      → Likewise (fork_at node s p seen) (fork_at node' u q seen)
  unfolding fork_at is_digit
  fork-likewise node node' ih p q seen h =
      then-likewise (ih p q seen h) λ a p₁ q₁ h₁.
      token-likewise 44 (omega arith) refl _ _ p₁ q₁ h₁ λ p₂ q₂ h₂.
      then-likewise (ih p₂ q₂ (seen ++ labels a) h₂) λ b p₃ q₃ h₃.
      token-likewise 41 (omega arith) refl _ _ p₃ q₃ h₃ λ p₄ q₄ h₄.
      reads h₄

  nodes-likewise : (room p q : ℕ) (seen : List ℕ) → Like p q → Likewise (read_node room s p seen) (read_node room u q seen)
  unfolding read_node is_digit
  nodes-likewise zero p q seen h = node-likewise (λ i. refused 4 i) (λ j. refused 4 j) (λ i j e k. refuses) p q seen h
  nodes-likewise (suc room) p q seen h =
      node-likewise (λ i. fork_at (read_node room s) s (i + 1) seen) (λ j. fork_at (read_node room u) u (j + 1) seen)
      (λ i j e k. fork-likewise (read_node room s) (read_node room u) (nodes-likewise room) (i + 1) (j + 1) seen (like-next i j k 40 e (omega arith) refl)) p q seen h

  letter-likewise : (p q : ℕ) → Like p q → Likewise (letter_at s p) (letter_at u q)
  unfolding letter_at is_digit
  letter-likewise p q h =
      cond-likewise (eqb (byte_at s p) 85) (eqb (byte_at u q) 85) (like-test p q h 85 refl) (λ e. reads (like-next p q h 85 (eqb-true (byte_at s p) 85 e) (omega arith) refl))
      (λ _. exact-likewise 82 (omega arith) refl _ _ p q h λ i j k. reads k)

  mark-likewise : (p q : ℕ) → Like p q → Likewise (mark_at s p) (mark_at u q)
  unfolding mark_at is_digit
  mark-likewise p q h =
      let k = like-skip p q h in
      let i = skip s p in
      let j = skip u q in
      cond-likewise (eqb (byte_at s i) 91) (eqb (byte_at u j) 91) (like-test i j k 91 refl)
      (λ e.
      exact-likewise 38 (omega arith) refl _ _ (i + 1) (j + 1) (like-next i j k 91 (eqb-true (byte_at s i) 91 e) (omega arith) refl) λ p₁ q₁ h₁.
      then-likewise (letter-likewise p₁ q₁ h₁) λ w p₂ q₂ h₂.
      exact-likewise 93 (omega arith) refl _ _ p₂ q₂ h₂ λ p₃ q₃ h₃.
      reads h₃)
      (λ _. reads h)

  third-likewise : (node node' : ℕ → List ℕ → Read Tree) → ((p q : ℕ) (seen : List ℕ) → Like p q → Likewise (node p seen) (node' q seen)) → (a b : Tree) (p q : ℕ) → Like p q
      → Likewise (third_at node s a b p) (third_at node' u a b q)
  unfolding third_at is_digit
  third-likewise node node' ih a b p q h =
      let k = like-skip p q h in
      let i = skip s p in
      let j = skip u q in
      let two = two_labels (fork a b) in
      cond-likewise (two && eqb (byte_at s i) 41) (two && eqb (byte_at u j) 41) (ap (λ (d : Bool). two && d) (like-test i j k 41 refl))
      (λ e. reads (like-next i j k 41 (eqb-true (byte_at s i) 41 (and_right two (eqb (byte_at s i) 41) e)) (omega arith) refl)) λ _.
      token-likewise 44 (omega arith) refl _ _ p q h λ p₁ q₁ h₁.
      then-likewise (ih p₁ q₁ (labels a ++ labels b) h₁) λ c p₂ q₂ h₂.
      token-likewise 41 (omega arith) refl _ _ p₂ q₂ h₂ λ p₃ q₃ h₃.
      reads h₃

  three-likewise : (node node' : ℕ → List ℕ → Read Tree) → ((p q : ℕ) (seen : List ℕ) → Like p q → Likewise (node p seen) (node' q seen)) → (p q : ℕ) → Like p q
      → Likewise (three_at node s p) (three_at node' u q)
  unfolding three_at is_digit
  three-likewise node node' ih p q h =
      then-likewise (ih p q [] h) λ a p₁ q₁ h₁.
      token-likewise 44 (omega arith) refl _ _ p₁ q₁ h₁ λ p₂ q₂ h₂.
      then-likewise (ih p₂ q₂ (labels a) h₂) λ b p₃ q₃ h₃.
      third-likewise node node' ih a b p₃ q₃ h₃

  top-likewise : (k : Kind) (p q : ℕ) → Like p q → Likewise (top_at k s p) (top_at k u q)
  unfolding top_at is_digit
  top-likewise rooted p q h = nodes-likewise max_open p q [] h
  top-likewise unrooted p q h =
      let node : ℕ → List ℕ → Read Tree = read_node (max_open - 1) s in
      let node' : ℕ → List ℕ → Read Tree = read_node (max_open - 1) u in
      node-likewise (λ i. three_at node s (i + 1)) (λ j. three_at node' u (j + 1))
      (λ i j e k. three-likewise node node' (nodes-likewise (max_open - 1)) (i + 1) (j + 1) (like-next i j k 40 e (omega arith) refl)) p q [] h

  tree-likewise : (p q : ℕ) → Like p q → Likewise (tree_at s p) (tree_at u q)
  unfolding tree_at is_digit
  tree-likewise p q h =
      then-likewise (mark-likewise p q h) λ k p₁ q₁ h₁.
      then-likewise (top-likewise k p₁ q₁ h₁) λ t p₂ q₂ h₂.
      token-likewise 59 (omega arith) refl _ _ p₂ q₂ h₂ λ p₃ q₃ h₃.
      reads h₃

  differs-likewise : {A : Type 0} {r r' : Read A} (n p q : ℕ) → Likewise r r' → Likewise (or_differs n p r) (or_differs n q r')
  differs-likewise zero p q f = f
  differs-likewise (suc n) p q f = refuses

  end-likewise : (xs : List Kinded) (p q : ℕ) (next next' : ℕ → Read (List Kinded)) → Like p q → Likewise (next p) (next' q)
      → Likewise (or_end (ltb p (length s)) xs p next) (or_end (ltb q (length u)) xs q next')
  end-likewise xs p q next next' h f = go (ltb p (length s)) (ltb q (length u)) (like-end p q h)
    where
      go : (d d' : Bool) → d ≡ d' → Likewise (or_end d xs p next) (or_end d' xs q next')
      go true true e = f
      go true false e = clash cc
      go false true e = clash cc
      go false false e = reads h

  module _ (takes : Takes) where
    read-likewise : Like 0 0 → Likewise (read_tree takes s) (read_tree takes u)
    unfolding read_tree
    read-likewise h =
        then-likewise (tree-likewise 0 0 h) λ x p q k.
        differs-likewise (untaken takes x.kind) p q
        (cond-likewise (ltb (skip s p) (length s)) (ltb (skip u q) (length u)) (like-end (skip s p) (skip u q) (like-skip p q k)) (λ _. refuses) (λ _. reads k))

    trees-likewise : (slots p q : ℕ) (xs : List Kinded) → Like p q → Likewise (table_from takes slots s p xs) (table_from takes slots u q xs)
    unfolding table_from
    trees-likewise zero p q xs h = end-likewise xs p q _ _ h refuses
    trees-likewise (suc slots) p q xs h =
        end-likewise xs p q _ _ h
        (then-likewise (tree-likewise p q h) λ x i j k.
        differs-likewise (like_first takes xs x) i j (trees-likewise slots (skip s i) (skip u j) (xs ++ (x ∷ [])) (like-skip i j k)))

    table-likewise : Like 0 0 → Likewise (read_table takes s) (read_table takes u)
    unfolding read_table
    table-likewise h = trees-likewise max_trees (skip s 0) (skip u 0) [] (like-skip 0 0 h)

  same-reading : {A : Type 0} {r r' : Read A} → Likewise r r' → SameReading r r'
  same-reading (reads h) = both_read
  same-reading refuses = both_refused

  -- texts that differ only in zeros before labels are one tree's, or one table's, or are refused by the same line
  pub zeros-tree : (takes : Takes) → unpadded s ≡ unpadded u → SameReading (read_tree takes s) (read_tree takes u)
  zeros-tree takes h = same-reading (read-likewise takes h)

  pub zeros-table : (takes : Takes) → unpadded s ≡ unpadded u → SameReading (read_table takes s) (read_table takes u)
  zeros-table takes h = same-reading (table-likewise takes h)

-- ---- and any number of zeros put before a digit, where no digit goes before, is such a difference
zeros-first : (n : ℕ) (y : List ℕ) → is_digit (get_or y 0 0) ≡ true → is_digit (get_or (replicate n 48 ++ y) 0 0) ≡ true
unfolding is_digit
zeros-first zero y d = d
zeros-first (suc n) y d = refl

zeros-dropped : (n : ℕ) (y : List ℕ) → is_digit (get_or y 0 0) ≡ true → unpadded (replicate n 48 ++ y) ≡ unpadded y
unfolding unpad padding is_digit
zeros-dropped zero y d = refl
zeros-dropped (suc n) y d = rw (zeros-first n y d) (zeros-dropped n y d)

-- what stands behind a text that ends in no digit, or behind nothing
behind : (kept : Bool) (x w w' : List ℕ) → is_digit (get_or x (length x - 1) 0) ≡ false → (x ≡ [] → kept ≡ false) → unpadded w ≡ unpadded w' → unpad kept (x ++ w) ≡ unpad kept (x ++ w')
unfolding unpad padding
behind kept [] w w' n k e = rw (k refl) e
behind kept (b ∷ []) w w' n k e = other_step kept b w n ∙ ap (λ (l : List ℕ). b ∷ l) e ∙ sym (other_step kept b w' n)
behind kept (b ∷ (c ∷ x)) w w' n k e =
    let end : suc (suc (length x)) - 1 ≡ suc (length x) = omega arith in
    let end' : suc (length x) - 1 ≡ length x = omega arith in
    let last : is_digit (get_or (c ∷ x) (length (c ∷ x) - 1) 0) ≡ false = rw end' (rw end at n) in
    cases (λ d. cond d (unpad kept (c ∷ (x ++ w))) (b ∷ unpad (is_digit b) (c ∷ (x ++ w))) ≡ cond d (unpad kept (c ∷ (x ++ w'))) (b ∷ unpad (is_digit b) (c ∷ (x ++ w'))))
    (padding kept b (c ∷ (x ++ w))) (λ _. behind kept (c ∷ x) w w' last (λ z. clash cc) e)
    (λ _. ap (λ (l : List ℕ). b ∷ l) (behind (is_digit b) (c ∷ x) w w' last (λ z. clash cc) e))

pub zeros-put : (x y : List ℕ) (n : ℕ) → is_digit (get_or x (length x - 1) 0) ≡ false → is_digit (get_or y 0 0) ≡ true → unpadded (x ++ (replicate n 48 ++ y)) ≡ unpadded (x ++ y)
zeros-put x y n e d = behind false x (replicate n 48 ++ y) y e (λ _. refl) (zeros-dropped n y d)
