-- What a reader gives hangs on the bytes up to the place only: texts that begin alike are read alike and refused alike.
-- Assumes nothing.
use mathlib.Core.Path.{◌≡◌, refl, sym, ap, ◌∙◌}
use mathlib.Core.Logic.{◌⊎◌, inl, inr}
use mathlib.Core.Bool.{true, false}
use mathlib.Core.List.{List, [], ◌∷◌, ◌++◌}
use Prim.Native.Nat.{ℕ, zero, suc, ◌+◌, ◌-◌, ◌<◌, ◌≤◌}
use native.Mathlib.Decide.{dec_le}
use native.Mathlib.Numerals.{sub-one}
use native.Mathlib.Omega.{arith}
use borrow.Author.Tests.{lt-ltb, eqb-true, ne_eqb}
use lib.Dec.{eqb}
use lib.ListN.{length, drop, take, get_or, length-take, take-append-drop}
use lib.Seq.{take-take, get_or-take, drop-drop, take-append_seam}
use Rattle.meaning.specs.Limits.{max_open, max_trees}
use Rattle.meaning.specs.Tree.{Tree, labels}
use Rattle.meaning.specs.Kind.{Kind, rooted, unrooted, Kinded, Takes}
use Rattle.meaning.specs.Reading.{Read, got, refused, is_blank, is_digit, byte_at, skip, run_end, value, and_then, token, label_at, fork_at, node_at, read_node, exactly, letter_at, third_at, three_at, top_at, tree_at, untaken, read_tree, like_first, or_differs, table_from, read_table}
use Rattle.meaning.specs.Prefix.{From}
use Rattle.meaning.proofs.Lists.{drop-take}
use Rattle.meaning.proofs.Logic.{clash, cases}
use Rattle.meaning.proofs.Scan.{past-ge, past-byte, past-run, past-some}
use Rattle.meaning.proofs.Ways.{Gives, reads, refuses, gives-refused, gives-map, gives-and, token-yes, token-no, token-gives, then-gives, label-bad, label-again, label-new, label-gives}
use Rattle.meaning.proofs.Ways.{at_label, at_bracket, at_other, node-gives, exactly-yes, exactly-no, exactly-gives, letter-gives, third-two, third-more, third-gives, eqb-differs}
use Rattle.meaning.proofs.Ways.{mark_rest, unmarked, tree-marked, tree_plain, whole-gives, differs-gives, end-gives, table-full, table-next}
use Rattle.meaning.proofs.Complete.{at_byte, past_all, value-all}
use Rattle.meaning.proofs.Sound.{run, run-from, run_is, ds-value, SoundTree, tree-gives}

-- the first m bytes are the same
pub record Same (s s' : List ℕ) (m : ℕ) : Type 0 where
  pub bytes : take m s ≡ take m s'

-- and no run of digits that reaches up to there goes on in one of the texts only
pub record Agree (s s' : List ℕ) (m : ℕ) : Type 0 where
  pub same : Same s s' m
  pub edge : (i : ℕ) → m ≡ suc i → is_digit (byte_at s i) ≡ true → is_digit (byte_at s m) ≡ is_digit (byte_at s' m)

-- the bytes that a refusal by line n at q hangs on: those up to q, and for a label those of its run
pub record Reach (s s' : List ℕ) (n q : ℕ) : Type 0 where
  pub same : Same s s' (q + 1)
  pub label : (n ≡ 2) ⊎ (n ≡ 3) → Agree s s' (run_end s q)

module _ {s s' : List ℕ} where
  -- so are the first of them, and each of them; and what is a place of the one text is one of the other
  pub same-less : {m : ℕ} (k : ℕ) → k ≤ m → Same s s' m → Same s s' k
  same-less {m} k h e = record { bytes = sym (take-take k m s h) ∙ ap (take k) e.bytes ∙ take-take k m s' h }

  pub same_byte : {m : ℕ} (i : ℕ) → i < m → Same s s' m → byte_at s i ≡ byte_at s' i
  same_byte {m} i h e = sym (get_or-take m s i 0 h) ∙ ap (λ (l : List ℕ). get_or l i 0) e.bytes ∙ get_or-take m s' i 0 h

  pub same-inside : {m : ℕ} (i : ℕ) → i < m → Same s s' m → i < length s → i < length s'
  same-inside {m} i h e l = omega (arith, length-take m s, length-take m s', ap length e.bytes)

  -- a byte more than is needed is enough
  pub agree-before : {k : ℕ} (m : ℕ) → m < k → Same s s' k → Agree s s' m
  agree-before m h e = record { same = same-less m (omega arith) e; edge = λ i z d. ap is_digit (same_byte m h e) }

  -- and where more agrees, less does
  pub agree_less : {k : ℕ} (m : ℕ) → m ≤ k → Agree s s' k → Agree s s' m
  agree_less {k} m h A = by (dec_le k m)
    where
      by : Dec (k ≤ m) → Agree s s' m
      by (yes l) = let e : m ≡ k = omega arith in rw e A
      by (no l) = agree-before m (omega arith) A.same

  -- what stands in the one stands in the other
  same_from : {p e : ℕ} {x : List ℕ} → From s p e x → Same s s' e → From s' p e x
  same_from {p} {e} {x} X h =
      let n = length x in
      let z : Same s s' (p + n) = rw (← X.place) h in
      let here : x ≡ take n (drop p s') =
      sym (take-append_seam x (drop e s)) ∙ ap (take n) (sym X.split) ∙ sym (drop-take p n s) ∙ ap (drop p) z.bytes ∙ drop-take p n s' in
      record {
        split = sym (take-append-drop n (drop p s')) ∙ ap (λ (l : List ℕ). l ++ drop n (drop p s')) (sym here)
            ∙ ap (λ (l : List ℕ). x ++ l) (drop-drop n p s' ∙ ap (λ (k : ℕ). drop k s') (sym X.place));
        place = X.place;
      }

  -- blanks are skipped alike
  skip-same : (p : ℕ) {m : ℕ} → skip s p < m → Same s s' m → skip s' p ≡ skip s p
  unfolding is_blank
  skip-same p l h =
      let e = skip s p in
      let X = same_from (run-from is_blank s p) (same-less e (omega arith) h) in
      past_all is_blank s' p (run is_blank s p) (drop e s') (run_is is_blank s p)
      (ap is_blank (sym (at_byte s' e (drop e s') refl)) ∙ ap is_blank (sym (same_byte e l h)) ∙ past-byte is_blank s p refl) X.split
      ∙ sym X.place

  -- a run of digits has the same end and value
  module _ (q : ℕ) (d : is_digit (byte_at s q) ≡ true) (A : Agree s s' (run_end s q)) where
    abbrev stop : ℕ
    stop = run_end s q

    run-some : q < stop
    unfolding is_digit
    run-some = past-some is_digit s q refl d

    run-here : drop q s' ≡ run is_digit s q ++ drop stop s'
    run-here = (same_from (run-from is_digit s q) A.same).split

    run-stops : is_digit (get_or (drop stop s') 0 0) ≡ false
    unfolding is_digit
    run-stops =
        let l = run-some in
        ap is_digit (sym (at_byte s' stop (drop stop s') refl))
        ∙ sym (A.edge (stop - 1) (omega arith) (past-run is_digit s q (stop - 1) (omega arith) (omega arith))) ∙ past-byte is_digit s q refl

    run-end-same : run_end s' q ≡ run_end s q
    run-end-same = past_all is_digit s' q (run is_digit s q) (drop stop s') (run_is is_digit s q) run-stops run-here ∙ sym (run-from is_digit s q).place

    value_same : value s' q ≡ value s q
    unfolding value
    value_same = rw run-here (value-all 0 (run is_digit s q) (drop stop s') (run_is is_digit s q) run-stops) ∙ ds-value s q d

-- r is read from s and r' from s', both from lo on: where the texts agree up to the place that r tells, r' is r
module _ (s s' : List ℕ) where
  abbrev Stays : {A : Type 0} → ℕ → Read A → ℕ → ℕ → Type 0
  Stays lo r' n q = (lo ≤ q) × (Reach s s' n q → r' ≡ refused n q)

  abbrev Follows : {A : Type 0} → ℕ → Read A → Read A → Type 0
  Follows lo r r' = Gives (λ a e. (lo < e) × (Agree s s' e → r' ≡ got a e)) (Stays lo r') r

  follows_then : {A B : Type 0} (lo : ℕ) (r r' : Read A) (next next' : A → ℕ → Read B) → Follows lo r r' → ((a : A) (e : ℕ) → Follows e (next a e) (next' a e))
      → Follows lo (and_then r next) (and_then r' next')
  follows_then lo r r' next next' F G =
      then-gives next (gives-map (λ a e h. h) (λ n q h. (h.0, λ R. rw (h.1 R))) F) λ a e h.
      gives-map
      (λ b e' k. (omega (arith, h.0, k.0), λ A. rw (h.1 (agree_less e (omega (arith, k.0)) A)) (k.1 A)))
      (λ n q k. (omega (arith, h.0, k.0), λ R. rw (h.1 (agree-before e (omega (arith, k.0)) R.same)) (k.1 R)))
      (G a e)

  follows-from : {A : Type 0} {lo hi : ℕ} {r r' : Read A} → lo ≤ hi → Follows hi r r' → Follows lo r r'
  follows-from h F = gives-map (λ a e k. (omega (arith, k.0), k.1)) (λ n q k. (omega (arith, k.0), k.1)) F

  -- the byte behind blanks is the same
  skip-byte : (p : ℕ) {m : ℕ} → skip s p < m → Same s s' m → byte_at s' (skip s' p) ≡ byte_at s (skip s p)
  skip-byte p l h = ap (byte_at s') (skip-same p l h) ∙ sym (same_byte (skip s p) l h)

  -- a token, and a byte itself
  token-follows : {A : Type 0} (b p : ℕ) (next next' : ℕ → Read A) → Follows (skip s p) (next (skip s p + 1)) (next' (skip s p + 1)) → Follows (skip s p) (token b s p next) (token b s' p next')
  token-follows b p next next' F =
      token-gives b s p next
      (λ f. (omega arith, λ R. token-no b s' p next' (λ h. f (sym (skip-byte p (omega arith) R.same) ∙ h)) ∙ ap (refused 1) (skip-same p (omega arith) R.same)))
      (λ h. gives-map
      (λ a e k. (k.0, λ A. token-yes b s' p next' (skip-byte p k.0 A.same ∙ h) ∙ rw (skip-same p k.0 A.same) (k.1 A)))
      (λ n q k. (k.0, λ R. token-yes b s' p next' (skip-byte p (omega (arith, k.0)) R.same ∙ h) ∙ rw (skip-same p (omega (arith, k.0)) R.same) (k.1 R)))
      F)

  follows-token : {A : Type 0} (b p : ℕ) (next next' : ℕ → Read A) → Follows (skip s p) (next (skip s p + 1)) (next' (skip s p + 1)) → Follows p (token b s p next) (token b s' p next')
  follows-token b p next next' F = follows-from (past-ge is_blank s p) (token-follows b p next next' F)

  follows-exactly : {A : Type 0} (b p : ℕ) (next next' : ℕ → Read A) → Follows p (next (p + 1)) (next' (p + 1)) → Follows p (exactly b s p next) (exactly b s' p next')
  follows-exactly b p next next' F =
      exactly-gives b s p next
      (λ f. (omega arith, λ R. exactly-no b s' p next' (λ h. f (same_byte p (omega arith) R.same ∙ h))))
      (λ h. gives-map
      (λ a e k. (k.0, λ A. exactly-yes b s' p next' (sym (same_byte p k.0 A.same) ∙ h) ∙ k.1 A))
      (λ n q k. (k.0, λ R. exactly-yes b s' p next' (sym (same_byte p (omega (arith, k.0)) R.same) ∙ h) ∙ k.1 R))
      F)

  -- a label is read alike where its run is the same
  label_same : (q : ℕ) (seen : List ℕ) → is_digit (byte_at s q) ≡ true → Agree s s' (run_end s q) → label_at s' q seen ≡ label_at s q seen
  unfolding label_at
  label_same q seen d A = rw (value_same q d A, run-end-same q d A)

  -- the start of a node
  module _ (bracket bracket' : ℕ → Read Tree) (p : ℕ) (seen : List ℕ) where
    node-same : is_digit (byte_at s (skip s p)) ≡ true → Agree s s' (run_end s (skip s p)) → node_at bracket' s' p seen ≡ label_at s (skip s p) seen
    node-same d A =
        let l = run-some (skip s p) d A in
        at_label s' p seen bracket' (ap is_digit (skip-byte p l A.same) ∙ d) ∙ rw (skip-same p l A.same) (label_same (skip s p) seen d A)

    label-follows : is_digit (byte_at s (skip s p)) ≡ true → Follows (skip s p) (label_at s (skip s p) seen) (node_at bracket' s' p seen)
    unfolding is_digit
    label-follows d =
        let q = skip s p in
        label-gives s q seen
        (λ bad. (omega arith, λ R. node-same d (R.label (inl refl)) ∙ label-bad s q seen bad))
        (λ allowed again. (omega arith, λ R. node-same d (R.label (inr refl)) ∙ label-again s q seen allowed again))
        (λ allowed new. (past-some is_digit s q refl d, λ A. node-same d A ∙ label-new s q seen allowed new))

    node_opens : byte_at s (skip s p) ≡ 40 → (m : ℕ) → skip s p < m → Same s s' m → node_at bracket' s' p seen ≡ bracket' (skip s p)
    unfolding is_digit
    node_opens h m l S =
        let e : byte_at s' (skip s' p) ≡ 40 = skip-byte p l S ∙ h in
        at_bracket s' p seen bracket' (ap is_digit e) e ∙ ap bracket' (skip-same p l S)

    begin-follows : (byte_at s (skip s p) ≡ 40 → Follows (skip s p) (bracket (skip s p)) (bracket' (skip s p))) → Follows (skip s p) (node_at bracket s p seen) (node_at bracket' s' p seen)
    begin-follows F =
        node-gives s bracket p seen
        (λ z f. (
          omega arith,
          λ R.
              let e = skip-byte p (omega arith) R.same in
              at_other s' p seen bracket' (ap is_digit e ∙ z) (λ h. f (sym e ∙ h)) ∙ ap (refused 1) (skip-same p (omega arith) R.same),
        ))
        label-follows λ h.
        gives-map (λ t e k. (k.0, λ A. node_opens h e k.0 A.same ∙ k.1 A)) (λ n q k. (k.0, λ R. node_opens h (q + 1) (omega (arith, k.0)) R.same ∙ k.1 R)) (F h)

  -- where nodes are read alike, so are a fork and an unrooted top
  module _ (node node' : ℕ → List ℕ → Read Tree) (ih : (p : ℕ) (seen : List ℕ) → Follows p (node p seen) (node' p seen)) where
    fork-follows : (p : ℕ) (seen : List ℕ) → Follows p (fork_at node s p seen) (fork_at node' s' p seen)
    unfolding fork_at
    fork-follows p seen =
        follows_then p _ _ _ _ (ih p seen) λ a p₁.
        follows-token 44 p₁ _ _ (follows-from (omega arith)
        (follows_then (skip s p₁ + 1) _ _ _ _ (ih (skip s p₁ + 1) (seen ++ labels a)) λ b p₃.
        follows-token 41 p₃ _ _ (reads (omega arith, λ A. refl))))

    third-follows : (a b : Tree) (p : ℕ) → Follows p (third_at node s a b p) (third_at node' s' a b p)
    third-follows a b p =
        follows-from (past-ge is_blank s p)
        (third-gives node s a b p
        (λ z h. (
          omega arith,
          λ A. third-two node' s' a b p z (skip-byte p (omega arith) A.same ∙ h) ∙ rw (skip-same p (omega arith) A.same),
        )) λ f.
        gives-map
        (λ t e k. (k.0, λ A. third-more node' s' a b p (λ z h. f z (sym (skip-byte p k.0 A.same) ∙ h)) ∙ k.1 A))
        (λ n q k. (k.0, λ R. third-more node' s' a b p (λ z h. f z (sym (skip-byte p (omega (arith, k.0)) R.same) ∙ h)) ∙ k.1 R))
        (token-follows 44 p _ _ (follows-from (omega arith)
        (follows_then (skip s p + 1) _ _ _ _ (ih (skip s p + 1) (labels a ++ labels b)) λ c p₂.
        follows-token 41 p₂ _ _ (reads (omega arith, λ A. refl))))))

    three-follows : (p : ℕ) → Follows p (three_at node s p) (three_at node' s' p)
    unfolding three_at
    three-follows p =
        follows_then p _ _ _ _ (ih p []) λ a p₁.
        follows-token 44 p₁ _ _ (follows-from (omega arith)
        (follows_then (skip s p₁ + 1) _ _ _ _ (ih (skip s p₁ + 1) (labels a)) λ b p₃.
        third-follows a b p₃))

  node-follows : (room p : ℕ) (seen : List ℕ) → Follows (skip s p) (read_node room s p seen) (read_node room s' p seen)
  unfolding read_node
  node-follows zero p seen = begin-follows (λ q. refused 4 q) (λ q. refused 4 q) p seen (λ h. refuses (omega arith, λ R. refl))
  node-follows (suc room) p seen =
      begin-follows (λ q. fork_at (read_node room s) s (q + 1) seen) (λ q. fork_at (read_node room s') s' (q + 1) seen) p seen λ h.
      follows-from (omega arith)
      (fork-follows (read_node room s) (read_node room s') (λ p seen. follows-from (past-ge is_blank s p) (node-follows room p seen)) (skip s p + 1) seen)

  top-follows : (k : Kind) (p : ℕ) → Follows (skip s p) (top_at k s p) (top_at k s' p)
  unfolding top_at
  top-follows rooted p = node-follows max_open p []
  top-follows unrooted p =
      let room : ℕ = max_open - 1 in
      begin-follows (λ q. three_at (read_node room s) s (q + 1)) (λ q. three_at (read_node room s') s' (q + 1)) p [] λ h.
      follows-from (omega arith)
      (three-follows (read_node room s) (read_node room s') (λ p seen. follows-from (past-ge is_blank s p) (node-follows room p seen)) (skip s p + 1))

  letter-follows : (p : ℕ) → Follows p (letter_at s p) (letter_at s' p)
  unfolding letter_at exactly
  letter-follows p =
      letter-gives s p
      (λ h. (omega arith, λ A. let e : byte_at s' p ≡ 85 = sym (same_byte p (omega arith) A.same) ∙ h in rw e))
      (λ h. (omega arith, λ A. let e : byte_at s' p ≡ 82 = sym (same_byte p (omega arith) A.same) ∙ h in rw e))
      (λ f g. (
        omega arith,
        λ R. let e = same_byte p (omega arith) R.same in rw (ne_eqb (byte_at s' p) 85 (λ h. f (e ∙ h)), ne_eqb (byte_at s' p) 82 (λ h. g (e ∙ h))),
      ))

  mark-follows : (q : ℕ) → Follows q (mark_rest s q) (mark_rest s' q)
  mark-follows q =
      follows-exactly 38 q _ _ (follows-from (omega arith)
      (follows_then (q + 1) _ _ _ _ (letter-follows (q + 1)) λ k p₂.
      follows-exactly 93 p₂ _ _ (reads (omega arith, λ A. refl))))

  unmarked-follows : (k : Kind) (p : ℕ) → Follows (skip s p) (unmarked s k p) (unmarked s' k p)
  unmarked-follows k p = follows_then (skip s p) _ _ _ _ (top-follows k p) λ t q. follows-token 59 q _ _ (reads (omega arith, λ A. refl))

  tree-follows : (p : ℕ) → Follows p (tree_at s p) (tree_at s' p)
  tree-follows p =
      let ge = past-ge is_blank s p in
      cases (λ d. Follows p (tree_at s p) (tree_at s' p)) (eqb (byte_at s (skip s p)) 91)
      (λ y.
      let h = eqb-true (byte_at s (skip s p)) 91 y in
      rw (tree-marked s p h) (gives-map
      (λ x e k. (
        omega (arith, k.0),
        λ A. tree-marked s' p (skip-byte p (omega (arith, k.0)) A.same ∙ h) ∙ rw (skip-same p (omega (arith, k.0)) A.same) (k.1 A),
      ))
      (λ n q k. (
        omega (arith, k.0),
        λ R. tree-marked s' p (skip-byte p (omega (arith, k.0)) R.same ∙ h) ∙ rw (skip-same p (omega (arith, k.0)) R.same) (k.1 R),
      ))
      (follows_then (skip s p + 1) _ _ _ _ (mark-follows (skip s p + 1)) λ k p₁. follows-from (past-ge is_blank s p₁) (unmarked-follows k p₁))))
      (λ n.
      let f = eqb-differs (byte_at s (skip s p)) 91 n in
      rw (tree_plain s p f) (gives-map
      (λ x e k. (omega (arith, k.0), λ A. tree_plain s' p (λ h. f (sym (skip-byte p k.0 A.same) ∙ h)) ∙ k.1 A))
      (λ n q k. (omega (arith, k.0), λ R. tree_plain s' p (λ h. f (sym (skip-byte p (omega (arith, k.0)) R.same) ∙ h)) ∙ k.1 R))
      (unmarked-follows rooted p)))

  -- a tree of a text that begins alike is refused alike
  pub tree-stable : (p n q : ℕ) → tree_at s p ≡ refused n q → Reach s s' n q → tree_at s' p ≡ refused n q
  tree-stable p n q e = (gives-refused (tree-follows p) e).1

  -- the `;` of a tree ends no run of digits
  agree-end : {q e : ℕ} {x : Kinded} → SoundTree s q x e → Same s s' (e - 1 + 1) → Agree s s' e
  unfolding is_digit
  agree-end {e} S h =
      let back : e - 1 + 1 ≡ e = omega (arith, S.behind_it.0) in
      record { same = rw back at h; edge = λ i z d. let k : i ≡ e - 1 = omega arith in let n : is_digit (byte_at s i) ≡ false = rw k (ap is_digit S.behind_it.2) in clash cc }

  module _ (takes : Takes) where
    -- a text with one tree
    tree-ends : (x : Kinded) (e : ℕ) → (Agree s s' e → tree_at s' 0 ≡ got x e) → untaken takes x.kind ≡ 0 → skip s e < length s → Same s s' (skip s e + 1) → read_tree takes s' ≡ refused 1 (skip s e)
    unfolding read_tree
    tree-ends x e f z l S =
        rw (f (agree-before e (omega (arith, past-ge is_blank s e)) S), z, skip-same e (omega arith) S, lt-ltb (skip s e) (length s') (same-inside (skip s e) (omega arith) S l))

    tree-untaken : (x : Kinded) (e m : ℕ) → tree_at s' 0 ≡ got x e → untaken takes x.kind ≡ suc m → read_tree takes s' ≡ refused (suc m) (e - 1)
    unfolding read_tree
    tree-untaken x e m f z = rw (f, z)

    tree-refused : (n q : ℕ) → tree_at s' 0 ≡ refused n q → read_tree takes s' ≡ refused n q
    unfolding read_tree
    tree-refused n q e = rw e

    read-follows : Gives (λ t e. Unit {0}) (λ n q. Reach s s' n q → read_tree takes s' ≡ refused n q) (read_tree takes s)
    read-follows =
        whole-gives takes s (gives-map (λ x e h. h) (λ n q h R. tree-refused n q (h.1.1 R)) (gives-and (tree-gives s 0) (tree-follows 0)))
        (λ x e h m z R. tree-untaken x e m (h.1.1 (agree-end h.0 R.same)) z) (λ x e h z l R. tree-ends x e h.1.1 z l R.same) (λ x e h z l. tt)

    -- a text that begins alike is refused alike
    pub read-stable : (n q : ℕ) → read_tree takes s ≡ refused n q → Reach s s' n q → read_tree takes s' ≡ refused n q
    read-stable n q e = gives-refused read-follows e

    -- the trees of a table from q on
    module _ (slots q : ℕ) (xs : List Kinded) (l : q < length s) where
      abbrev goes : Kinded → ℕ → Read (List Kinded)
      goes x p = or_differs (like_first takes xs x) p (table_from takes slots s' (skip s' p) (xs ++ (x ∷ [])))

      next-same : (m : ℕ) → q < m → Same s s' m → table_from takes (suc slots) s' q xs ≡ and_then (tree_at s' q) goes
      next-same m h S = table-next takes (suc slots) s' q xs (same-inside q h S l) (omega arith) ∙ rw sub-one

      -- lines 10 and 5, at the `;` of a tree
      unlike-same : (x : Kinded) (e m : ℕ) → SoundTree s q x e → (Agree s s' e → tree_at s' q ≡ got x e) → like_first takes xs x ≡ suc m
          → Stays q (table_from takes (suc slots) s' q xs) (suc m) (e - 1)
      unlike-same x e m S f z = (
        omega (arith, S.behind_it.0),
        λ R. let A = agree-end S R.same in next-same e S.behind_it.0 A.same ∙ rw (f A, z),
      )

      rest-same : (x : Kinded) (e n q' : ℕ) → q < e → (Agree s s' e → tree_at s' q ≡ got x e) → like_first takes xs x ≡ 0 → Stays (skip s e) (table_from takes slots s' (skip s e) (xs ++ (x ∷ []))) n q'
          → Stays q (table_from takes (suc slots) s' q xs) n q'
      rest-same x e n q' h f z k = let ge = past-ge is_blank s e in (
        omega (arith, k.0),
        λ R.
            next-same (q' + 1) (omega (arith, k.0)) R.same
            ∙ rw (f (agree-before e (omega (arith, k.0)) R.same), z, skip-same e (omega (arith, k.0)) R.same) (k.1 R),
      )

    from-follows : (slots q : ℕ) (xs : List Kinded) → Gives (λ us e. Unit {0}) (Stays q (table_from takes slots s' q xs)) (table_from takes slots s q xs)
    unfolding table_from
    from-follows zero q xs = end-gives s xs q _ (λ l. tt) (λ l. refuses (omega arith, λ R. table-full takes 0 s' q xs (same-inside q (omega arith) R.same l) refl))
    from-follows (suc slots) q xs =
        end-gives s xs q _ (λ l. tt) λ l.
        then-gives _ (gives-map (λ x e h. h) (λ n q' h. (h.1.0, λ R. next-same slots q xs l (q' + 1) (omega (arith, h.1.0)) R.same ∙ rw (h.1.1 R)))
        (gives-and (tree-gives s q) (tree-follows q))) λ x e h.
        differs-gives (like_first takes xs x) e (λ m z. unlike-same slots q xs l x e m h.0 h.1.1 z) λ z.
        gives-map (λ us e k. k) (λ n q' k. rest-same slots q xs l x e n q' h.1.0 h.1.1 z k) (from-follows slots (skip s e) (xs ++ (x ∷ [])))

    -- a table that begins alike is refused alike
    pub table-stable : (n q : ℕ) → read_table takes s ≡ refused n q → Reach s s' n q → read_table takes s' ≡ refused n q
    unfolding read_table
    table-stable n q e R =
        let F = gives-refused (from-follows max_trees (skip s 0) []) e in
        rw (skip-same 0 (omega (arith, F.0)) R.same) (F.1 R)
