-- Lines 1 to 4 of the refusal list: a tree, and a text with one tree, are refused by them exactly where they are met.
-- Assumes nothing.
use mathlib.Core.Path.{◌≡◌, refl, sym, ap, ◌∙◌}
use mathlib.Core.Logic.{◌↔◌, ◌⊎◌, inl, inr}
use mathlib.Core.Bool.{true, false}
use mathlib.Core.List.{List, [], ◌∷◌, ◌++◌, append_assoc}
use Prim.Native.Nat.{ℕ, zero, suc, ◌+◌, ◌-◌, ◌<◌, ◌≤◌}
use native.Mathlib.Nat.{add-zero}
use native.Mathlib.Omega.{arith}
use borrow.Author.Tests.{lt-ltb, ne_eqb}
use lib.Dec.{lit<, leb, leb→le}
use lib.ListN.{length, drop, length-append}
use Rattle.meaning.specs.Limits.{max_open}
use Rattle.meaning.specs.Lists.{member}
use Rattle.meaning.specs.Tree.{Tree, leaf, fork, labels}
use Rattle.meaning.specs.Kind.{Kind, rooted, unrooted, Kinded, Takes, either, rooted_only}
use Rattle.meaning.specs.Grammar.{TokenText, behind, TopText, is_node, Taken}
use Rattle.meaning.specs.Reading.{got, refused, is_blank, is_digit, byte_at, skip, label_at, fork_at, read_node, mark_at, two_labels, three_at, top_at, tree_at, untaken, read_tree}
use Rattle.meaning.specs.Prefix.{From, Place, top, below, TwoInIt, NewNode, NodeMayBegin, at_top, in_bracket, behind-comma, in_top, behind-first, behind_second, MayFollow, StandsWhole, AtNode, and_next, letter_next, close_next_u, close_next_r, WrongTokenAt, in_mark, no_node, no_token, MoreBehindAt, NotTakenAt, BadLabelAt, LabelAgainAt, TooDeepAt}
use Rattle.meaning.proofs.Logic.{iff-then}
use Rattle.meaning.proofs.Scan.{past-byte, past-ge}
use Rattle.meaning.proofs.Ways.{Gives, reads, refuses, gives-refused, gives_self, gives-map, gives-and, token-gives, then-gives, label-gives, node-gives, exactly-gives, letter-gives, mark-gives, third-gives, whole-gives}
use Rattle.meaning.proofs.Complete.{tree-complete, taken-iff}
use Rattle.meaning.proofs.Sound.{then-from, from-behind, skip-to, run, run-from, run_is, token-text, token-is, token-from, byte-from, Sound, sound, SoundMark, mark-sound, SoundTop, top_sound, SoundTree, tree-gives}
use Rattle.meaning.proofs.Alike.{untaken-ten}
use Rattle.meaning.proofs.Lists.{every-mem}
use Rattle.meaning.proofs.Places.{ends-start, tree_places}
use Rattle.meaning.proofs.Reaches.{one-met, two-met, three-met, four-met}

-- a byte that differs from those that may stand there
other-than : (b c : ℕ) → (b ≡ c → ⊥) → member b (c ∷ []) ≡ false
unfolding member
other-than b c f = rw (ne_eqb c b (λ e. f (sym e)))

other-than-two : (b c d : ℕ) → (b ≡ c → ⊥) → (b ≡ d → ⊥) → member b (c ∷ d ∷ []) ≡ false
unfolding member
other-than-two b c d f g = rw (ne_eqb c b (λ e. f (sym e)), ne_eqb d b (λ e. g (sym e)))

-- a token is not empty
token-some : {b : ℕ} {x : List ℕ} → TokenText b x → 1 ≤ length x
token-some (behind w blank) = rw length-append (omega arith)

-- a node may begin behind the blanks at e, where `room` more brackets may open, and F says which byte may come behind it
record Begun (s : List ℕ) (p e room : ℕ) (w : Place) (seen : List ℕ) (F : Tree → ℕ → Type 0) : Type 0 where
  k : ℕ
  text : List ℕ
  begins : NodeMayBegin w text k seen
  follows : (a : Tree) (b : ℕ) → MayFollow begins a b → F a b
  none : text ≡ [] → byte_at s (skip s e) ≡ 91 → ⊥
  stands : From s p e text
  left : room + k ≡ max_open

-- what a refusal by line n at q says
record Met (s : List ℕ) (p n q : ℕ) : Type 0 where
  one : n ≡ 1 → WrongTokenAt s p q
  two : n ≡ 2 → BadLabelAt s p q
  three : n ≡ 3 → LabelAgainAt s p q
  four : n ≡ 4 → TooDeepAt s p q

-- a node that was read, as it stands where it may begin
whole-node : {room k : ℕ} {s : List ℕ} {p : ℕ} {seen : List ℕ} {t : Tree} {e : ℕ} (S : Sound room s p seen t e) → room + k ≡ max_open → NewNode t S.text seen k
whole-node S h = record { text = S.derives; good = S.good; new = S.new; deep = omega (arith, S.deep, h) }

whole_in : (w : Place) → TwoInIt w → (t : Tree) (x seen : List ℕ) (k : ℕ) → NewNode t x seen k → StandsWhole w t x seen k
whole_in (top rooted) h t x seen k N = N
whole_in (top unrooted) h t x seen k N = absurd h
whole_in below h t x seen k N = N

whole_top : (k : Kind) {s : List ℕ} {p : ℕ} {t : Tree} {e : ℕ} (S : SoundTop k s p t e) → StandsWhole (top k) t S.text [] 0
unfolding member
whole_top rooted {t} S = by S.derives
  where
    by : {x : List ℕ} → TopText rooted t x → NewNode t x [] 0
    by (is_node N d) = record { text = N; good = S.good; new = λ l i. refl; deep = omega (arith, d) }
whole_top unrooted S = (S.derives, S.good)

module _ (s : List ℕ) (p : ℕ) where
  met-one : {q : ℕ} → WrongTokenAt s p q → Met s p 1 q
  met-one W = record { one = λ e. W; two = λ e. absurd (omega arith); three = λ e. absurd (omega arith); four = λ e. absurd (omega arith) }

  -- at a node: from the blanks before it to its place
  module _ {e room : ℕ} {w : Place} {seen : List ℕ} {F : Tree → ℕ → Type 0} (B : Begun s p e room w seen F) where
    at-node : AtNode s p (skip s e) w B.k seen
    at-node = record { text = B.text; blanks = run is_blank s e; begins = B.begins; blank = run_is is_blank s e; stands = then-from B.stands (run-from is_blank s e) }

    node-wrong : is_digit (byte_at s (skip s e)) ≡ false → (byte_at s (skip s e) ≡ 40 → ⊥) → Met s p 1 (skip s e)
    unfolding is_blank at-node
    node-wrong d f = met-one (no_node at-node (past-byte is_blank s e refl) d f B.none)

    label-met : is_digit (byte_at s (skip s e)) ≡ true → Gives (λ t e. Unit {0}) (Met s p) (label_at s (skip s e) seen)
    label-met d = label-gives s (skip s e) seen
        (λ bad. record {
          one = λ z. absurd (omega arith);
          two = λ z. record { w = w; k = B.k; seen = seen; node = at-node; digit = d; bad = bad };
          three = λ z. absurd (omega arith);
          four = λ z. absurd (omega arith);
        })
        (λ allowed again. record {
          one = λ z. absurd (omega arith);
          two = λ z. absurd (omega arith);
          three = λ z. record { w = w; k = B.k; seen = seen; node = at-node; digit = d; allowed = allowed; again = again };
          four = λ z. absurd (omega arith);
        })
        (λ _ _. tt)

    deep-met : room ≡ 0 → byte_at s (skip s e) ≡ 40 → Met s p 4 (skip s e)
    deep-met r h = record {
      one = λ z. absurd (omega arith);
      two = λ z. absurd (omega arith);
      three = λ z. absurd (omega arith);
      four = λ z. let full : B.k ≡ max_open = omega (arith, B.left) in record { w = w; seen = seen; node = rw full at at-node; bracket = h };
    }

    -- behind what was read there
    whole-wrong : {a : Tree} {q : ℕ} (own : List ℕ) → StandsWhole w a own seen B.k → From s e q own → ((v : ℕ) → a ≡ leaf v → is_digit (byte_at s q) ≡ false) → (F a (byte_at s (skip s q)) → ⊥)
        → Met s p 1 (skip s q)
    unfolding is_blank
    whole-wrong {a} {q} own N X longest f = met-one (no_token (record {
      text = B.text;
      own = own;
      blanks = run is_blank s q;
      w = w;
      k = B.k;
      seen = seen;
      a = a;
      e = q;
      begins = B.begins;
      node = N;
      longest = longest;
      before = then-from B.stands X;
      blank = run_is is_blank s q;
      stands = run-from is_blank s q;
    }) (past-byte is_blank s q refl) (λ m. f (B.follows a (byte_at s (skip s q)) m)))

  -- behind a node in a bracket
  token-wrong : {e room : ℕ} {seen : List ℕ} {F : Tree → ℕ → Type 0} (B : Begun s p e room below seen F) {a : Tree} {q : ℕ} → Sound room s e seen a q → (F a (byte_at s (skip s q)) → ⊥) → Met s p 1 (skip s q)
  token-wrong B A f = whole-wrong B A.text (whole-node A B.left) A.stands A.longest f

  -- behind an open bracket, and behind the first node and its comma
  begun_first : {e room : ℕ} {w : Place} {seen : List ℕ} {F : Tree → ℕ → Type 0} → Begun s p e (suc room) w seen F → TwoInIt w → byte_at s (skip s e) ≡ 40
      → Begun s p (skip s e + 1) room below seen (λ a b. b ≡ 44)
  unfolding MayFollow
  begun_first {e} B h₀ h = record {
    k = suc B.k;
    text = B.text ++ token-text 40 s e;
    begins = in_bracket B.begins h₀ (omega (arith, B.left)) (token-is 40 s e);
    follows = λ a b m. m;
    none = λ z. absurd (omega (arith, ap length z, length-append B.text (token-text 40 s e), token-some (token-is 40 s e)));
    stands = then-from B.stands (token-from 40 s e (lit< tt) h);
    left = omega (arith, B.left);
  }

  begun-second : {e room q : ℕ} {w : Place} {seen : List ℕ} {F : Tree → ℕ → Type 0} {a : Tree} → Begun s p e (suc room) w seen F → TwoInIt w → byte_at s (skip s e) ≡ 40
      → Sound room s (skip s e + 1) seen a q → byte_at s (skip s q) ≡ 44 → Begun s p (skip s q + 1) room below (seen ++ labels a) (λ b c. c ≡ 41)
  unfolding MayFollow
  begun-second {e} {q} B h₀ h A h₂ = record {
    k = suc B.k;
    text = B.text ++ (token-text 40 s e ++ (A.text ++ token-text 44 s q));
    begins = behind-comma B.begins h₀ (omega (arith, B.left)) (token-is 40 s e) (whole-node A (omega (arith, B.left))) (token-is 44 s q);
    follows = λ a b m. m;
    none = λ z. absurd (omega (arith, ap length z, length-append B.text (token-text 40 s e ++ (A.text ++ token-text 44 s q)), length-append (token-text 40 s e) (A.text ++ token-text 44 s q), token-some (token-is 40 s e)));
    stands = then-from B.stands (then-from (token-from 40 s e (lit< tt) h) (then-from A.stands (token-from 44 s q (lit< tt) h₂)));
    left = omega (arith, B.left);
  }

  module _ (room : ℕ) (ih : (w : Place) (F : Tree → ℕ → Type 0) (e : ℕ) (seen : List ℕ) → TwoInIt w → Begun s p e room w seen F → Gives (Sound room s e seen) (Met s p) (read_node room s e seen)) where
    fork-met : {w : Place} {F : Tree → ℕ → Type 0} (e : ℕ) (seen : List ℕ) → TwoInIt w → Begun s p e (suc room) w seen F → byte_at s (skip s e) ≡ 40
        → Gives (λ t e. Unit {0}) (Met s p) (fork_at (read_node room s) s (skip s e + 1) seen)
    unfolding fork_at
    fork-met e seen h₀ B h =
        let B₁ = begun_first B h₀ h in
        then-gives _ (ih below _ (skip s e + 1) seen tt B₁) λ a q A.
        token-gives 44 s q _ (token-wrong B₁ A) λ h₂.
        let B₂ = begun-second B h₀ h A h₂ in
        then-gives _ (ih below _ (skip s q + 1) (seen ++ labels a) tt B₂) λ a' q' A'.
        token-gives 41 s q' _ (token-wrong B₂ A') λ h₃.
        reads tt

  with-sound : (room e : ℕ) (seen : List ℕ) → Gives (λ t e. Unit {0}) (Met s p) (read_node room s e seen) → Gives (Sound room s e seen) (Met s p) (read_node room s e seen)
  with-sound room e seen G = gives-map (λ a q h. h.0) (λ n q h. h.1) (gives-and (sound room s e seen) G)

  node-met : (room : ℕ) {w : Place} {F : Tree → ℕ → Type 0} (e : ℕ) (seen : List ℕ) → TwoInIt w → Begun s p e room w seen F → Gives (Sound room s e seen) (Met s p) (read_node room s e seen)
  unfolding read_node
  node-met zero e seen h₀ B = with-sound zero e seen (node-gives s (λ q. refused 4 q) e seen (node-wrong B) (label-met B) (λ h. refuses (deep-met B refl h)))
  node-met (suc room) e seen h₀ B =
      with-sound (suc room) e seen
      (node-gives s (λ q. fork_at (read_node room s) s (q + 1) seen) e seen (node-wrong B) (label-met B) (λ h. fork-met room (λ w F e seen h₁ B₁. node-met room e seen h₁ B₁) e seen h₀ B h))

  -- an unrooted top from e on, which begins with a bracket: behind that, behind its first node, and behind its second
  module _ (e : ℕ) (M : SoundMark s p unrooted e) (h : byte_at s (skip s e) ≡ 40) where
    begun-one : Begun s p (skip s e + 1) (max_open - 1) below [] (λ a b. b ≡ 44)
    unfolding MayFollow
    begun-one = record {
      k = 1;
      text = M.text ++ token-text 40 s e;
      begins = in_top M.derives (token-is 40 s e);
      follows = λ a b m. m;
      none = λ z. absurd (omega (arith, ap length z, length-append M.text (token-text 40 s e), token-some (token-is 40 s e)));
      stands = then-from M.stands (token-from 40 s e (lit< tt) h);
      left = refl;
    }

    module _ {a : Tree} {q : ℕ} (A : Sound (max_open - 1) s (skip s e + 1) [] a q) (h₂ : byte_at s (skip s q) ≡ 44) where
      begun-two : Begun s p (skip s q + 1) (max_open - 1) below (labels a) (λ b c. (c ≡ 44) ⊎ ((c ≡ 41) × (two_labels (fork a b) ≡ true)))
      unfolding MayFollow
      begun-two = record {
        k = 1;
        text = M.text ++ (token-text 40 s e ++ (A.text ++ token-text 44 s q));
        begins = behind-first M.derives (token-is 40 s e) (whole-node A refl) (token-is 44 s q);
        follows = λ b c m. m;
        none = λ z. absurd (omega (arith, ap length z, length-append M.text (token-text 40 s e ++ (A.text ++ token-text 44 s q)), length-append (token-text 40 s e) (A.text ++ token-text 44 s q), token-some (token-is 40 s e)));
        stands = then-from M.stands (then-from (token-from 40 s e (lit< tt) h) (then-from A.stands (token-from 44 s q (lit< tt) h₂)));
        left = refl;
      }

      begun-three : {b : Tree} {r : ℕ} → Sound (max_open - 1) s (skip s q + 1) (labels a) b r → byte_at s (skip s r) ≡ 44 → Begun s p (skip s r + 1) (max_open - 1) below (labels a ++ labels b) (λ c d. d ≡ 41)
      unfolding MayFollow
      begun-three {b} {r} B h₃ =
          let tail : List ℕ = A.text ++ (token-text 44 s q ++ (B.text ++ token-text 44 s r)) in
          record {
            k = 1;
            text = M.text ++ (token-text 40 s e ++ tail);
            begins = behind_second M.derives (token-is 40 s e) (whole-node A refl) (token-is 44 s q) (whole-node B refl) (token-is 44 s r);
            follows = λ c d m. m;
            none = λ z. absurd (omega (arith, ap length z, length-append M.text (token-text 40 s e ++ tail), length-append (token-text 40 s e) tail, token-some (token-is 40 s e)));
            stands = then-from M.stands (then-from (token-from 40 s e (lit< tt) h) (then-from A.stands (then-from (token-from 44 s q (lit< tt) h₂) (then-from B.stands (token-from 44 s r (lit< tt) h₃)))));
            left = refl;
          }

    top-in-met : Gives (λ t e. Unit {0}) (Met s p) (three_at (read_node (max_open - 1) s) s (skip s e + 1))
    unfolding three_at
    top-in-met =
        then-gives _ (node-met (max_open - 1) (skip s e + 1) [] tt begun-one) λ a q A.
        token-gives 44 s q _ (token-wrong begun-one A) λ h₂.
        let B₂ = begun-two A h₂ in
        then-gives _ (node-met (max_open - 1) (skip s q + 1) (labels a) tt B₂) λ b r B.
        third-gives (read_node (max_open - 1) s) s a b r (λ _ _. tt) λ f.
        token-gives 44 s r _ (λ g. token-wrong B₂ B (either-no g f)) λ h₃.
        let B₃ = begun-three A h₂ B h₃ in
        then-gives _ (node-met (max_open - 1) (skip s r + 1) (labels a ++ labels b) tt B₃) λ c t C.
        token-gives 41 s t _ (token-wrong B₃ C) λ h₄.
        reads tt
      where
        either-no : {X Y Z : Type 0} → (X → ⊥) → (Z → Y → ⊥) → X ⊎ (Y × Z) → ⊥
        either-no g f (inl x) = g x
        either-no g f (inr (y, z)) = f z y

  begun : (k : Kind) (e : ℕ) → SoundMark s p k e → (e ≡ p → byte_at s (skip s p) ≡ 91 → ⊥) → Begun s p e max_open (top k) [] (λ a b. b ≡ 59)
  unfolding MayFollow
  begun k e M f = record {
    k = 0;
    text = M.text;
    begins = at_top M.derives;
    follows = λ a b m. m;
    none = λ z. (let same : e ≡ p = M.stands.place ∙ rw z (add-zero p) in rw same (f same));
    stands = M.stands;
    left = refl;
  }

  top-met : (k : Kind) (e : ℕ) → SoundMark s p k e → Begun s p e max_open (top k) [] (λ a b. b ≡ 59) → Gives (SoundTop k s e) (Met s p) (top_at k s e)
  unfolding top_at
  top-met k e M B = gives-map (λ t q h. h.0) (λ n q h. h.1) (gives-and (top_sound k s e) (by k M B))
    where
      by : (k : Kind) → SoundMark s p k e → Begun s p e max_open (top k) [] (λ a b. b ≡ 59) → Gives (λ t e. Unit {0}) (Met s p) (top_at k s e)
      by rooted M B = gives-map (λ t q h. tt) (λ n q h. h) (node-met max_open e [] tt B)
      by unrooted M B = node-gives s (λ q. three_at (read_node (max_open - 1) s) s (q + 1)) e [] (node-wrong B) (label-met B) (top-in-met e M)

  -- a mark goes wrong, or it or none is read
  mark-met : Gives (λ k e. e ≡ p → byte_at s (skip s p) ≡ 91 → ⊥) (Met s p) (mark_at s p)
  mark-met =
      let q = skip s p in
      let blanks = run-from is_blank s p in
      let is-blank = run_is is_blank s p in
      mark-gives s p (λ f _. f) λ h₁.
      let f₁ = byte-from s q (lit< tt) h₁ in
      exactly-gives 38 s (q + 1) _ (λ f. met-one (in_mark (run is_blank s p) is-blank and_next (then-from blanks f₁) (other-than (byte_at s (q + 1)) 38 f))) λ h₂.
      let f₂ = then-from f₁ (byte-from s (q + 1) (lit< tt) h₂) in
      then-gives {P = λ k r. (r ≡ q + 1 + 1 + 1) × ((byte_at s (q + 1 + 1) ≡ 85) ⊎ (byte_at s (q + 1 + 1) ≡ 82))} _
      (letter-gives s (q + 1 + 1) (λ h. (refl, inl h)) (λ h. (refl, inr h))
      (λ f g. met-one (in_mark (run is_blank s p) is-blank letter_next (then-from blanks f₂) (other-than-two (byte_at s (q + 1 + 1)) 85 82 f g)))) λ k r H.
      exactly-gives 93 s r _ (λ f. met-one (last r H.0 h₁ h₂ H.1 f)) λ h₄.
      reads (λ e z. omega (arith, e, H.0, past-ge is_blank s p))
    where
      last : (r : ℕ) → r ≡ skip s p + 1 + 1 + 1 → byte_at s (skip s p) ≡ 91 → byte_at s (skip s p + 1) ≡ 38 → (byte_at s (skip s p + 1 + 1) ≡ 85) ⊎ (byte_at s (skip s p + 1 + 1) ≡ 82)
          → (byte_at s r ≡ 93 → ⊥) → WrongTokenAt s p r
      last r e h₁ h₂ (inl h₃) f =
          rw e (in_mark (run is_blank s p) (run_is is_blank s p) close_next_u
          (then-from (run-from is_blank s p) (then-from (byte-from s (skip s p) (lit< tt) h₁) (then-from (byte-from s (skip s p + 1) (lit< tt) h₂) (byte-from s (skip s p + 1 + 1) (lit< tt) h₃))))
          (other-than (byte_at s (skip s p + 1 + 1 + 1)) 93 (λ z. f (rw e z))))
      last r e h₁ h₂ (inr h₃) f =
          rw e (in_mark (run is_blank s p) (run_is is_blank s p) close_next_r
          (then-from (run-from is_blank s p) (then-from (byte-from s (skip s p) (lit< tt) h₁) (then-from (byte-from s (skip s p + 1) (lit< tt) h₂) (byte-from s (skip s p + 1 + 1) (lit< tt) h₃))))
          (other-than (byte_at s (skip s p + 1 + 1 + 1)) 93 (λ z. f (rw e z))))

  tree-met : Gives (λ t e. Unit {0}) (Met s p) (tree_at s p)
  unfolding tree_at begun
  tree-met =
      then-gives _ (gives-map (λ k e h. h) (λ n q h. h.1) (gives-and (mark-sound s p) mark-met)) λ k e M.
      let B = begun k e M.0 M.1 in
      then-gives _ (top-met k e M.0 B) λ t q A.
      token-gives 59 s q _ (whole-wrong B A.text (whole_top k A) A.stands A.longest) λ h.
      reads tt

  module _ (q : ℕ) where
    -- a tree is refused by line 1 exactly where no node begins or another token stands than has to; the text's end is such a place too
    pub line-one-iff : (tree_at s p ≡ refused 1 q) ↔ WrongTokenAt s p q
    line-one-iff = (λ e. (gives-refused tree-met e).one refl, one-met)

    -- by line 2 exactly where a label that is not allowed begins
    pub line-two-iff : (tree_at s p ≡ refused 2 q) ↔ BadLabelAt s p q
    line-two-iff = (λ e. (gives-refused tree-met e).two refl, two-met)

    -- by line 3 exactly where a label begins that is already in this tree
    pub line-three-iff : (tree_at s p ≡ refused 3 q) ↔ LabelAgainAt s p q
    line-three-iff = (λ e. (gives-refused tree-met e).three refl, three-met)

    -- by line 4 exactly where a bracket opens where allowed while 63 are open
    pub line-four-iff : (tree_at s p ≡ refused 4 q) ↔ TooDeepAt s p q
    line-four-iff = (λ e. (gives-refused tree-met e).four refl, four-met)

-- a kind that is not taken is line 10
untaken-is : (takes : Takes) (k : Kind) → (Taken takes k → ⊥) → untaken takes k ≡ 10
untaken-is either k f = absurd (f tt)
untaken-is rooted_only rooted f = absurd (f refl)
untaken-is rooted_only unrooted f = refl

module _ (takes : Takes) (s : List ℕ) where
  read-other : Gives (λ x p. Unit {0}) (λ n q. (n ≡ 1 → ⊥) → (n ≡ 10 → ⊥) → tree_at s 0 ≡ refused n q) (read_tree takes s)
  read-other =
      whole-gives takes s (gives-map (λ x p h. h) (λ n q h _ _. h) (gives_self (tree_at s 0))) (λ x p _ m z f g. absurd (g (untaken-ten takes x.kind z))) (λ x p _ z l f g. absurd (f refl)) (λ x p _ z l. tt)

  -- a text with one tree is refused by a line other than 1 and 10 exactly where its tree is
  pub read-by-tree : (n q : ℕ) → (n ≡ 1 → ⊥) → (n ≡ 10 → ⊥) → (read_tree takes s ≡ refused n q) ↔ (tree_at s 0 ≡ refused n q)
  unfolding read_tree
  read-by-tree n q f g = (λ e. gives-refused read-other e f g, λ e. rw e)

  -- behind a tree that is taken and blanks a byte more is refused, in a text with one tree
  more-met : (q : ℕ) (M : MoreBehindAt s q) → Taken takes M.t.kind → read_tree takes s ≡ refused 1 q
  unfolding read_tree
  more-met q M z =
      let x = M.text in
      let read : tree_at s 0 ≡ got M.t (0 + length x) = tree-complete M.tree s 0 (M.blanks ++ drop q s) (M.stands.split ∙ append_assoc x M.blanks (drop q s)) in
      rw (read, (taken-iff takes M.t.kind).1 z, skip-to (from-behind x M.blanks M.stands) M.blank M.solid, lt-ltb q (length s) M.in_text)

  more-is : (x : Kinded) (e : ℕ) → SoundTree s 0 x e → skip s e < length s → MoreBehindAt s (skip s e)
  unfolding is_blank
  more-is x e S l = record {
    text = S.text;
    blanks = run is_blank s e;
    t = x;
    tree = S.derives;
    blank = run_is is_blank s e;
    stands = then-from S.stands (run-from is_blank s e);
    in_text = l;
    solid = past-byte is_blank s e refl;
  }

  -- a tree that is not taken ends at q
  ten-met : (q : ℕ) → NotTakenAt takes s q → read_tree takes s ≡ refused 10 q
  unfolding read_tree
  ten-met q N =
      let read : tree_at s 0 ≡ got N.t (0 + length N.text) = tree-complete N.tree s 0 (drop (q + 1) s) N.stands.split in
      let place : 0 + length N.text - 1 ≡ q = omega (arith, N.stands.place) in
      rw (read, untaken-is takes N.t.kind N.differs) (ap (refused 10) place)

  not-taken-is : (x : Kinded) (e m : ℕ) → SoundTree s 0 x e → untaken takes x.kind ≡ suc m → NotTakenAt takes s (e - 1)
  not-taken-is x e m S z = record {
    text = S.text;
    t = x;
    tree = S.derives;
    stands = (let back : e - 1 + 1 ≡ e = omega (arith, S.behind_it.0) in rw back S.stands);
    differs = λ h. omega (arith, (taken-iff takes x.kind).1 h, z);
  }

  -- a byte more behind a tree that is taken
  abbrev pub MoreTaken : ℕ → Type 0
  MoreTaken q = (M : MoreBehindAt s q) × Taken takes M.t.kind

  -- what a refusal by line 1 or 10 says
  read-wrong : Gives (λ x e. Unit {0}) (λ n q. (n ≡ 1 → WrongTokenAt s 0 q ⊎ MoreTaken q) × (n ≡ 10 → NotTakenAt takes s q)) (read_tree takes s)
  unfolding more-is
  read-wrong =
      whole-gives takes s
      (gives-map (λ x e h. h.0.0) (λ n q h. (λ z. inl (h.0.1.one z), λ z. absurd (omega (arith, z, leb→le n 4 (every-mem (λ (k : ℕ). leb k 4) tt h.1.line)))))
      (gives-and (gives-and (tree-gives s 0) (tree-met s 0)) (tree_places s 0 (ends-start s))))
      (λ x e S m z. (λ y. absurd (omega (arith, y, untaken-ten takes x.kind z)), λ _. not-taken-is x e m S z))
      (λ x e S z l. (λ _. inr (more-is x e S l, (taken-iff takes x.kind).0 z), λ y. absurd (omega arith)))
      (λ x e S z l. tt)

  one-refused : (q : ℕ) → WrongTokenAt s 0 q ⊎ MoreTaken q → read_tree takes s ≡ refused 1 q
  unfolding read_tree
  one-refused q (inl W) = rw (one-met W)
  one-refused q (inr (M, z)) = more-met q M z

  module _ (q : ℕ) where
    -- a text with one tree is refused by line 1 exactly where its tree is, or at a byte that is no blank behind the `;` of a tree that is taken
    pub read-one-iff : (read_tree takes s ≡ refused 1 q) ↔ (WrongTokenAt s 0 q ⊎ MoreTaken q)
    read-one-iff = (λ e. (gives-refused read-wrong e).0 refl, one-refused q)

    -- by line 10 exactly at the `;` of a tree that is not taken
    pub read-ten-iff : (read_tree takes s ≡ refused 10 q) ↔ NotTakenAt takes s q
    read-ten-iff = (λ e. (gives-refused read-wrong e).1 refl, ten-met q)

    -- by line 2, 3 or 4 exactly where it is met in the tree
    pub read-two-iff : (read_tree takes s ≡ refused 2 q) ↔ BadLabelAt s 0 q
    read-two-iff = iff-then (read-by-tree 2 q (λ e. omega arith) (λ e. omega arith)) (line-two-iff s 0 q)

    pub read-three-iff : (read_tree takes s ≡ refused 3 q) ↔ LabelAgainAt s 0 q
    read-three-iff = iff-then (read-by-tree 3 q (λ e. omega arith) (λ e. omega arith)) (line-three-iff s 0 q)

    pub read-four-iff : (read_tree takes s ≡ refused 4 q) ↔ TooDeepAt s 0 q
    read-four-iff = iff-then (read-by-tree 4 q (λ e. omega arith) (λ e. omega arith)) (line-four-iff s 0 q)
