-- Where a line of the refusal list is met in a tree, the tree is refused by it: lines 1 to 4.
-- Assumes nothing.
use mathlib.Core.Path.{◌≡◌, refl, sym, ap, ◌∙◌}
use mathlib.Core.Logic.{inl, inr}
use mathlib.Core.Bool.{true, false}
use mathlib.Core.List.{List, [], ◌∷◌, ◌++◌, append_assoc}
use Prim.Native.Nat.{ℕ, suc, ◌+◌, ◌-◌, ◌≤◌}
use native.Mathlib.Nat.{add-zero}
use native.Mathlib.Omega.{arith}
use lib.ListN.{length, drop, get_or, length-append}
use borrow.Author.Tests.{ne_eqb}
use Rattle.meaning.specs.Limits.{max_open}
use Rattle.meaning.specs.Lists.{member}
use Rattle.meaning.specs.Tree.{Tree, leaf, fork, labels}
use Rattle.meaning.specs.Kind.{Kind, rooted, unrooted, Kinded}
use Rattle.meaning.specs.Unrooted.{standing}
use Rattle.meaning.specs.Reading.{Read, got, refused, and_then, token, is_blank, is_digit, byte_at, skip, label_at, fork_at, read_node, exactly, letter_at, third_at, three_at, top_at, tree_at}
use Rattle.meaning.specs.Grammar.{All, TokenText, MarkText}
use Rattle.meaning.specs.Prefix.{From, Place, top, below, TwoInIt, NewNode, NodeMayBegin, at_top, in_bracket, behind-comma, in_top, behind-first, behind_second, MayFollow, StandsWhole, AtNode, MarkBefore, AtToken, WrongTokenAt, and_next, letter_next, close_next_u, close_next_r, in_mark, no_node, no_token, BadLabelAt, LabelAgainAt, TooDeepAt}
use Rattle.meaning.proofs.Logic.{clash}
use Rattle.meaning.proofs.Scan.{digit-no-blank}
use Rattle.meaning.proofs.Ways.{token-no, label-bad, label-again, node-label, node-bad, node-deep, node-fork, at_label, at_bracket, at_other, third-more, tree-marked}
use Rattle.meaning.proofs.Complete.{at_next, at_byte, token-found, token-read, token-no-digit, complete, mark-complete, inner_node, top-complete, node-no-mark, top-no-mark, next-byte, past_all}
use Rattle.meaning.proofs.Sound.{from-behind, skip-to}

-- one thing after another, however bracketed
then-assoc : {A B C : Type 0} (r : Read A) (f : A → ℕ → Read B) (g : B → ℕ → Read C) → and_then (and_then r f) g ≡ and_then r (λ a p. and_then (f a p) g)
then-assoc (got a p) f g = refl
then-assoc (refused n p) f g = refl

-- the rest of a fork behind its second node b, and behind its first node a
module _ (s : List ℕ) where
  close : Tree → Tree → ℕ → Read Tree
  close a b q = token 41 s q λ q. got (fork a b) q

  second : ℕ → List ℕ → Tree → ℕ → Read Tree
  second room seen a q = token 44 s q λ q. and_then (read_node room s q (seen ++ labels a)) λ b q. close a b q

  -- the rest of an unrooted top behind its third node c, and behind its first node a
  close_top : Tree → Tree → Tree → ℕ → Read Tree
  close_top a b c q = token 41 s q λ q. got (fork a (fork b c)) q

  second_top : Tree → ℕ → Read Tree
  second_top a q = token 44 s q λ q. and_then (inner_node s q (labels a)) λ b q. third_at (inner_node s) s a b q

  -- the end of the tree behind its top
  end : Kind → Tree → ℕ → Read Kinded
  end k t q = token 59 s q λ q. got (record { kind = k; tree = standing k t }) q

  -- the rest of the tree behind a node
  rest_of : {w : Place} {x seen : List ℕ} {k : ℕ} → NodeMayBegin w x k seen → Tree → ℕ → Read Kinded
  rest_of (at_top {k} M) t q = end k t q
  rest_of (in_bracket {seen} {k} B h l O) a q = and_then (second (max_open - k - 1) seen a q) (λ t q. rest_of B t q)
  rest_of (behind-comma {a} B h l O A C) b q = and_then (close a b q) (λ t q. rest_of B t q)
  rest_of (in_top M O) a q = and_then (second_top a q) (end unrooted)
  rest_of (behind-first {a} M O A C) b q = and_then (third_at (inner_node s) s a b q) (end unrooted)
  rest_of (behind_second {a} {b} M O A C B D) c q = and_then (close_top a b c q) (end unrooted)

-- behind an open bracket, and behind the first node and its comma
module _ {o : List ℕ} (O : TokenText 40 o) (room : ℕ) (s : List ℕ) (p : ℕ) (seen : List ℕ) (some : 1 ≤ room) where
  opened : (rest : List ℕ) → drop p s ≡ o ++ rest → read_node room s p seen ≡ and_then (read_node (room - 1) s (p + length o) seen) (second s (room - 1) seen)
  unfolding fork_at is_blank is_digit second close
  opened rest here =
      let (byte, next) = token-found O s p rest refl here in
      node-fork s p seen room (ap is_digit byte) byte (λ z. omega arith) ∙ rw next

  closing : {a : Tree} {y c : List ℕ} {k : ℕ} → NewNode a y seen (suc k) → room ≡ max_open - k → TokenText 44 c → (rest : List ℕ) → drop p s ≡ o ++ (y ++ (c ++ rest))
      → read_node room s p seen ≡ and_then (read_node (room - 1) s (p + length o + length y + length c) (seen ++ labels a)) (close s a)
  unfolding is_blank is_digit second close
  closing {a} {y} {c} A e C rest here =
      let here₁ = at_next s p o (y ++ (c ++ rest)) here in
      let here₂ = at_next s (p + length o) y (c ++ rest) here₁ in
      opened (y ++ (c ++ rest)) here
      ∙ rw (complete A.text (room - 1) s (p + length o) seen (c ++ rest) (omega (arith, A.deep)) A.good A.new (λ v z. token-no-digit C rest refl) here₁) (token-read C s (p + length o + length y) rest refl here₂ _)

-- behind the bracket of an unrooted top, behind its first node and behind its second
module _ {o : List ℕ} (O : TokenText 40 o) (s : List ℕ) (p : ℕ) where
  top-opened : (rest : List ℕ) → drop p s ≡ o ++ rest → top_at unrooted s p ≡ and_then (inner_node s (p + length o) []) (second_top s)
  unfolding top_at three_at is_blank is_digit second_top
  top-opened rest here =
      let (byte, next) = token-found O s p rest refl here in
      at_bracket s p [] (λ q. three_at (inner_node s) s (q + 1)) (ap is_digit byte) byte ∙ rw next

  module _ {a : Tree} {y c : List ℕ} (A : NewNode a y [] 1) (C : TokenText 44 c) where
    top-second : (rest : List ℕ) → drop p s ≡ o ++ (y ++ (c ++ rest))
        → top_at unrooted s p ≡ and_then (inner_node s (p + length o + length y + length c) (labels a)) (λ b q. third_at (inner_node s) s a b q)
    unfolding is_blank is_digit second_top
    top-second rest here =
        let here₁ = at_next s p o (y ++ (c ++ rest)) here in
        let here₂ = at_next s (p + length o) y (c ++ rest) here₁ in
        top-opened (y ++ (c ++ rest)) here
        ∙ rw (complete A.text (max_open - 1) s (p + length o) [] (c ++ rest) (omega (arith, A.deep)) A.good A.new (λ v z. token-no-digit C rest refl) here₁)
        (token-read C s (p + length o + length y) rest refl here₂ _)

    top-third : {b : Tree} {z d : List ℕ} → NewNode b z (labels a) 1 → TokenText 44 d → (rest : List ℕ) → drop p s ≡ o ++ (y ++ (c ++ (z ++ (d ++ rest))))
        → top_at unrooted s p ≡ and_then (inner_node s (p + length o + length y + length c + length z + length d) (labels a ++ labels b)) (close_top s a b)
    unfolding is_blank is_digit close_top
    top-third {b} {z} {d} B D rest here =
        let p₃ : ℕ = p + length o + length y + length c in
        let here₃ : drop p₃ s ≡ z ++ (d ++ rest) = at_next s (p + length o + length y) c _ (at_next s (p + length o) y _ (at_next s p o _ here)) in
        let here₄ = at_next s p₃ z (d ++ rest) here₃ in
        let comma = (token-found D s (p₃ + length z) rest refl here₄).0 in
        top-second (z ++ (d ++ rest)) here
        ∙ rw (complete B.text (max_open - 1) s p₃ (labels a) (d ++ rest) (omega (arith, B.deep)) B.good B.new (λ v e. token-no-digit D rest refl) here₃)
        (third-more (inner_node s) s a b (p₃ + length z) (λ _ e. omega (arith, e, comma)) ∙ token-read D s (p₃ + length z) rest refl here₄ _)

-- what is read where a node may begin: at the top of an unrooted tree all of the top
abbrev begin_at : Place → ℕ → List ℕ → ℕ → List ℕ → Read Tree
begin_at (top rooted) room s p seen = read_node room s p seen
begin_at (top unrooted) room s p seen = top_at unrooted s p
begin_at below room s p seen = read_node room s p seen

begin-node : (w : Place) → TwoInIt w → (room : ℕ) (s : List ℕ) (p : ℕ) (seen : List ℕ) → begin_at w room s p seen ≡ read_node room s p seen
begin-node (top rooted) h room s p seen = refl
begin-node (top unrooted) h room s p seen = absurd h
begin-node below h room s p seen = refl

begin-top : (k : Kind) (s : List ℕ) (p : ℕ) → top_at k s p ≡ begin_at (top k) (max_open - 0) s p []
unfolding top_at
begin-top rooted s p = refl
begin-top unrooted s p = refl

-- where a bracket follows, no mark does
no-mark-there : {o : List ℕ} → TokenText 40 o → (x : List ℕ) (s : List ℕ) (p : ℕ) (rest : List ℕ) → drop p s ≡ x ++ (o ++ rest) → x ≡ [] → byte_at s (skip s p) ≡ 91 → ⊥
unfolding is_blank
no-mark-there O x s p rest here e z = let b = (token-found O s p rest refl (rw e at here)).0 in omega (arith, b, z)

-- a tree is read as its top, and the end behind it
behind-mark : {k : Kind} {m : List ℕ} → MarkText k m → (s : List ℕ) (p : ℕ) (rest : List ℕ) → drop p s ≡ m ++ rest → (m ≡ [] → byte_at s (skip s p) ≡ 91 → ⊥)
    → tree_at s p ≡ and_then (top_at k s (p + length m)) (end s k)
unfolding tree_at end
behind-mark M s p rest here none = rw (mark-complete M s p rest here none)

-- wherever a node may begin, the tree is read as the node there and the rest behind it
reaches : {w : Place} {x : List ℕ} {k : ℕ} {seen : List ℕ} (B : NodeMayBegin w x k seen) (s : List ℕ) (p : ℕ) (rest : List ℕ) → drop p s ≡ x ++ rest
    → (x ≡ [] → byte_at s (skip s p) ≡ 91 → ⊥) → tree_at s p ≡ and_then (begin_at w (max_open - k) s (p + length x) seen) (rest_of s B)
unfolding rest_of
reaches (at_top {k} {m} M) s p rest here none = behind-mark M s p rest here none ∙ rw (begin-top k s (p + length m))
reaches (in_bracket {w} {x} {o} {seen} {k} B h l O) s p rest here none =
    let here₀ : drop p s ≡ x ++ (o ++ rest) = here ∙ append_assoc x o rest in
    let room : max_open - suc k ≡ max_open - k - 1 = omega arith in
    let place : p + length (x ++ o) ≡ p + length x + length o = rw length-append (omega arith) in
    reaches B s p (o ++ rest) here₀ (no-mark-there O x s p rest here₀)
    ∙ rw (begin-node w h (max_open - k) s (p + length x) seen, opened O (max_open - k) s (p + length x) seen (omega arith) rest (at_next s p x (o ++ rest) here₀), room, place)
    (then-assoc (read_node (max_open - k - 1) s (p + length x + length o) seen) (second s (max_open - k - 1) seen) (rest_of s B))
reaches (behind-comma {w} {x} {o} {y} {c} {seen} {k} {a} B h l O A C) s p rest here none =
    let here₀ : drop p s ≡ x ++ (o ++ (y ++ (c ++ rest))) = here ∙ simp append_assoc in
    let room : max_open - suc k ≡ max_open - k - 1 = omega arith in
    let place : p + length (x ++ (o ++ (y ++ c))) ≡ p + length x + length o + length y + length c = simp length-append (omega arith) in
    reaches B s p (o ++ (y ++ (c ++ rest))) here₀ (no-mark-there O x s p (y ++ (c ++ rest)) here₀)
    ∙ rw (
      begin-node w h (max_open - k) s (p + length x) seen,
      closing O (max_open - k) s (p + length x) seen (omega arith) A refl C rest (at_next s p x (o ++ (y ++ (c ++ rest))) here₀),
      room,
      place,
    )
    (then-assoc (read_node (max_open - k - 1) s (p + length x + length o + length y + length c) (seen ++ labels a)) (close s a) (rest_of s B))
reaches (in_top {m} {o} M O) s p rest here none =
    let here₀ : drop p s ≡ m ++ (o ++ rest) = here ∙ append_assoc m o rest in
    let place : p + length (m ++ o) ≡ p + length m + length o = rw length-append (omega arith) in
    behind-mark M s p (o ++ rest) here₀ (no-mark-there O m s p rest here₀)
    ∙ rw (top-opened O s (p + length m) rest (at_next s p m (o ++ rest) here₀), place) (then-assoc (inner_node s (p + length m + length o) []) (second_top s) (end s unrooted))
reaches (behind-first {m} {o} {y} {c} {a} M O A C) s p rest here none =
    let here₀ : drop p s ≡ m ++ (o ++ (y ++ (c ++ rest))) = here ∙ simp append_assoc in
    let place : p + length (m ++ (o ++ (y ++ c))) ≡ p + length m + length o + length y + length c = simp length-append (omega arith) in
    behind-mark M s p (o ++ (y ++ (c ++ rest))) here₀ (no-mark-there O m s p (y ++ (c ++ rest)) here₀)
    ∙ rw (top-second O s (p + length m) A C rest (at_next s p m _ here₀), place)
    (then-assoc (inner_node s (p + length m + length o + length y + length c) (labels a)) (λ b q. third_at (inner_node s) s a b q) (end s unrooted))
reaches (behind_second {m} {o} {y} {c} {z} {d} {a} {b} M O A C B D) s p rest here none =
    let here₀ : drop p s ≡ m ++ (o ++ (y ++ (c ++ (z ++ (d ++ rest))))) = here ∙ simp append_assoc in
    let place : p + length (m ++ (o ++ (y ++ (c ++ (z ++ d))))) ≡ p + length m + length o + length y + length c + length z + length d = simp length-append (omega arith) in
    behind-mark M s p (o ++ (y ++ (c ++ (z ++ (d ++ rest))))) here₀ (no-mark-there O m s p (y ++ (c ++ (z ++ (d ++ rest)))) here₀)
    ∙ rw (top-third O s (p + length m) A C B D rest (at_next s p m _ here₀), place)
    (then-assoc (inner_node s (p + length m + length o + length y + length c + length z + length d) (labels a ++ labels b)) (close_top s a b) (end s unrooted))

-- behind a node another token than one that may come is refused
rest-wrong : {w : Place} {x : List ℕ} {k : ℕ} {seen : List ℕ} (B : NodeMayBegin w x k seen) (s : List ℕ) (a : Tree) (e : ℕ) → (MayFollow B a (byte_at s (skip s e)) → ⊥)
    → rest_of s B a e ≡ refused 1 (skip s e)
unfolding MayFollow rest_of second close second_top close_top end
rest-wrong (at_top M) s a e f = token-no 59 s e _ f
rest-wrong (in_bracket B h l O) s a e f = rw (token-no 44 s e _ f)
rest-wrong (behind-comma B h l O A C) s a e f = rw (token-no 41 s e _ f)
rest-wrong (in_top M O) s a e f = rw (token-no 44 s e _ f)
rest-wrong (behind-first {a} M O A C) s b e f = rw (third-more (inner_node s) s a b e (λ z h. f (inr (h, z))), token-no 44 s e _ (λ h. f (inl h)))
rest-wrong (behind_second M O A C B D) s c e f = rw (token-no 41 s e _ f)

-- at the top no label was seen, and no bracket is open
top-first : {k : Kind} {x seen : List ℕ} {n : ℕ} → NodeMayBegin (top k) x n seen → (seen ≡ []) × (n ≡ 0)
top-first (at_top M) = (refl, refl)

-- the ways through a node where it may begin
module _ (s : List ℕ) (p : ℕ) (seen : List ℕ) (room : ℕ) where
  begin-other : (w : Place) → is_digit (byte_at s (skip s p)) ≡ false → (byte_at s (skip s p) ≡ 40 → ⊥) → begin_at w room s p seen ≡ refused 1 (skip s p)
  unfolding top_at
  begin-other (top rooted) h f = node-bad s p seen room h f
  begin-other (top unrooted) h f = at_other s p [] _ h f
  begin-other below h f = node-bad s p seen room h f

  begin-label : {x : List ℕ} {k : ℕ} (w : Place) → NodeMayBegin w x k seen → is_digit (byte_at s (skip s p)) ≡ true → begin_at w room s p seen ≡ label_at s (skip s p) seen
  unfolding top_at
  begin-label (top rooted) B h = node-label s p seen room h
  begin-label (top unrooted) B h = let e = (top-first B).0 in rw e (at_label s p [] _ h)
  begin-label below B h = node-label s p seen room h

  begin-deep : {x : List ℕ} {k : ℕ} (w : Place) → NodeMayBegin w x k seen → k ≡ max_open → room ≡ 0 → is_digit (byte_at s (skip s p)) ≡ false → byte_at s (skip s p) ≡ 40 → begin_at w room s p seen ≡ refused 4 (skip s p)
  begin-deep (top j) B e r h f = absurd (omega (arith, (top-first B).1, e))
  begin-deep below B e r h f = node-deep s p seen room h f r

-- at a place where a node may begin, and no blank stands there: what refuses the node there refuses the tree
tree-reaches : {s : List ℕ} {p q : ℕ} {w : Place} {k : ℕ} {seen : List ℕ} (at : AtNode s p q w k seen) → is_blank (byte_at s q) ≡ false → (at.text ≡ [] → byte_at s q ≡ 91 → ⊥) → (n : ℕ)
    → ((e : ℕ) → skip s e ≡ q → begin_at w (max_open - k) s e seen ≡ refused n q) → tree_at s p ≡ refused n q
tree-reaches {s} {p} {q} at no-blank none n f =
    let here : skip s (p + length at.text) ≡ q = skip-to (from-behind at.text at.blanks at.stands) at.blank no-blank in
    let first : at.text ≡ [] → skip s p ≡ q = λ e. (let l : p + length at.text ≡ p = rw e (add-zero p) in rw l at here) in
    reaches at.begins s p (at.blanks ++ drop q s) (at.stands.split ∙ append_assoc at.text at.blanks (drop q s)) (λ e z. none e (ap (byte_at s) (sym (first e)) ∙ z))
    ∙ rw (f (p + length at.text) here)

-- what stands where a node may begin is read
begin-complete : (w : Place) (a : Tree) (y seen : List ℕ) (k : ℕ) → StandsWhole w a y seen k → (s : List ℕ) (p : ℕ) (rest : List ℕ) → ((v : ℕ) → a ≡ leaf v → is_digit (get_or rest 0 0) ≡ false) → drop p s ≡ y ++ rest
    → begin_at w (max_open - k) s p seen ≡ got a (p + length y)
begin-complete (top rooted) a y seen k N s p rest stop here = complete N.text (max_open - k) s p seen rest (omega (arith, N.deep)) N.good N.new stop here
begin-complete (top unrooted) a y seen k (T, G) s p rest stop here = top-complete T s p rest G stop here
begin-complete below a y seen k N s p rest stop here = complete N.text (max_open - k) s p seen rest (omega (arith, N.deep)) N.good N.new stop here

-- it begins with no mark
whole-no-mark : (w : Place) (a : Tree) (y seen : List ℕ) (k : ℕ) → StandsWhole w a y seen k → (s : List ℕ) (p : ℕ) (rest : List ℕ) → drop p s ≡ y ++ rest → byte_at s (skip s p) ≡ 91 → ⊥
whole-no-mark (top rooted) a y seen k N s p rest here = node-no-mark N.text s p rest here
whole-no-mark (top unrooted) a y seen k (T, G) s p rest here = top-no-mark T s p rest here
whole-no-mark below a y seen k N s p rest here = node-no-mark N.text s p rest here

-- at a place where a token has to stand, and no blank stands there: another byte is refused
token-there : {s : List ℕ} {p q : ℕ} (T : AtToken s p q) → is_blank (byte_at s q) ≡ false → (MayFollow T.begins T.a (byte_at s q) → ⊥) → tree_at s p ≡ refused 1 q
token-there {s} {p} {q} T no-blank f =
    let x = T.text in
    let e = T.e in
    let N = from-behind x T.own T.before in
    let here : drop p s ≡ x ++ (T.own ++ drop e s) = T.before.split ∙ append_assoc x T.own (drop e s) in
    let stop : is_digit (get_or (drop e s) 0 0) ≡ is_digit (byte_at s e) = ap is_digit (sym (at_byte s e (drop e s) refl)) in
    let c = begin-complete T.w T.a T.own T.seen T.k T.node s (p + length x) (drop e s) (λ v z. stop ∙ T.longest v z) N.split in
    let read : begin_at T.w (max_open - T.k) s (p + length x) T.seen ≡ got T.a e = c ∙ ap (got T.a) (sym N.place) in
    let behind : skip s e ≡ q = skip-to T.stands T.blank no-blank in
    reaches T.begins s p (T.own ++ drop e s) here (λ z. whole-no-mark T.w T.a T.own T.seen T.k T.node s p (drop e s) (rw z at here))
    ∙ rw read (rest-wrong T.begins s T.a e (λ h. f (rw behind at h)) ∙ ap (refused 1) behind)

-- a mark goes wrong
module _ (s : List ℕ) (p q : ℕ) (x : List ℕ) (blank : All is_blank x) where
  in-mark-left : (y : List ℕ) → From s p q (x ++ (91 ∷ y)) → (drop (skip s p) s ≡ 91 ∷ (y ++ drop q s)) × (q ≡ skip s p + 1 + length y)
  unfolding is_blank
  in-mark-left y X =
      let h : drop p s ≡ x ++ (91 ∷ (y ++ drop q s)) = X.split ∙ append_assoc x (91 ∷ y) (drop q s) in
      let sk : skip s p ≡ p + length x = past_all is_blank s p x (91 ∷ (y ++ drop q s)) blank refl h in
      (rw sk (at_next s p x (91 ∷ (y ++ drop q s)) h), omega (arith, X.place, length-append x (91 ∷ y), sk))

  mark-wrong : {y next : List ℕ} → MarkBefore y next → From s p q (x ++ y) → member (byte_at s q) next ≡ false → tree_at s p ≡ refused 1 q
  unfolding member letter_at exactly
  mark-wrong and_next X other =
      let (left, place) = in-mark-left [] X in
      let (b₁, d₁) = next-byte s (skip s p) 91 _ left in
      let at : q ≡ skip s p + 1 = omega (arith, place) in
      tree-marked s p b₁ ∙ rw (← at) (rw (ne_eqb (byte_at s q) 38 (λ z. let f = rw z at other in clash cc)))
  mark-wrong letter_next X other =
      let (left, place) = in-mark-left (38 ∷ []) X in
      let (b₁, d₁) = next-byte s (skip s p) 91 _ left in
      let (b₂, d₂) = next-byte s (skip s p + 1) 38 _ d₁ in
      let at : q ≡ skip s p + 1 + 1 = omega (arith, place) in
      tree-marked s p b₁ ∙ rw (b₂, ← at) (rw (ne_eqb (byte_at s q) 85 (λ z. let f = rw z at other in clash cc), ne_eqb (byte_at s q) 82 (λ z. let f = rw z at other in clash cc)))
  mark-wrong close_next_u X other =
      let (left, place) = in-mark-left (38 ∷ 85 ∷ []) X in
      let (b₁, d₁) = next-byte s (skip s p) 91 _ left in
      let (b₂, d₂) = next-byte s (skip s p + 1) 38 _ d₁ in
      let (b₃, d₃) = next-byte s (skip s p + 1 + 1) 85 _ d₂ in
      let at : q ≡ skip s p + 1 + 1 + 1 = omega (arith, place) in
      tree-marked s p b₁ ∙ rw (b₂, b₃, ← at) (rw (ne_eqb (byte_at s q) 93 (λ z. let f = rw z at other in clash cc)))
  mark-wrong close_next_r X other =
      let (left, place) = in-mark-left (38 ∷ 82 ∷ []) X in
      let (b₁, d₁) = next-byte s (skip s p) 91 _ left in
      let (b₂, d₂) = next-byte s (skip s p + 1) 38 _ d₁ in
      let (b₃, d₃) = next-byte s (skip s p + 1 + 1) 82 _ d₂ in
      let at : q ≡ skip s p + 1 + 1 + 1 = omega (arith, place) in
      tree-marked s p b₁ ∙ rw (b₂, b₃, ← at) (rw (ne_eqb (byte_at s q) 93 (λ z. let f = rw z at other in clash cc)))

-- where a line is met, the tree is refused by it
module _ {s : List ℕ} {p q : ℕ} where
  pub one-met : WrongTokenAt s p q → tree_at s p ≡ refused 1 q
  one-met (in_mark x blank M X other) = mark-wrong s p q x blank M X other
  one-met (no_node {w} {k} {seen} at no-blank d f none) =
      tree-reaches at no-blank none 1 λ e z. begin-other s e seen (max_open - k) w (rw z d) (λ h. f (ap (byte_at s) (sym z) ∙ h)) ∙ ap (refused 1) z
  one-met (no_token T no-blank f) = token-there T no-blank f

  label-there : {w : Place} {k n : ℕ} {seen : List ℕ} → AtNode s p q w k seen → is_digit (byte_at s q) ≡ true → label_at s q seen ≡ refused n q → tree_at s p ≡ refused n q
  unfolding is_digit
  label-there {w} {k} {n} {seen} at d r =
      tree-reaches at (digit-no-blank (byte_at s q) d) (λ _ z. let b : is_digit (byte_at s q) ≡ false = ap is_digit z in clash cc) n λ e z. begin-label s e seen (max_open - k) w at.begins (rw z d) ∙ rw z r

  pub two-met : BadLabelAt s p q → tree_at s p ≡ refused 2 q
  two-met B = label-there B.node B.digit (label-bad s q B.seen B.bad)

  pub three-met : LabelAgainAt s p q → tree_at s p ≡ refused 3 q
  three-met A = label-there A.node A.digit (label-again s q A.seen A.allowed A.again)

  pub four-met : TooDeepAt s p q → tree_at s p ≡ refused 4 q
  unfolding is_blank is_digit
  four-met D =
      tree-reaches D.node (ap is_blank D.bracket) (λ _ z. omega (arith, z, D.bracket)) 4 λ e z.
      begin-deep s e D.seen 0 D.w D.node.begins refl refl (rw z (ap is_digit D.bracket)) (rw z D.bracket) ∙ ap (refused 4) z
