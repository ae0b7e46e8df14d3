-- A refusal's line is one that the reader can give, and its place is a byte of the text that is no blank, unless it is inside a mark; only line 1 can have the end as its place.
-- Assumes nothing.
use mathlib.Core.Path.{◌≡◌, refl, ap}
use mathlib.Core.Logic.{◌⊎◌, inl, inr}
use mathlib.Core.Bool.{true, false}
use mathlib.Core.List.{List, [], ◌∷◌, ◌++◌, Memᴰ}
use Prim.Native.Nat.{ℕ, zero, suc, ◌+◌, ◌-◌, ◌<◌, ◌≤◌}
use native.Mathlib.Decide.{dec_le}
use native.Mathlib.Omega.{arith}
use lib.Dec.{lit<}
use lib.ListN.{length}
use Rattle.meaning.specs.Limits.{max_open, max_trees}
use Rattle.meaning.specs.Tree.{Tree, labels}
use Rattle.meaning.specs.Kind.{Kind, rooted, unrooted, Kinded, Takes, either, rooted_only}
use Rattle.meaning.specs.Reading.{Read, refused, is_blank, is_digit, byte_at, skip, token, like_first, label_at, fork_at, read_node, mark_at, three_at, top_at, tree_at, untaken, read_tree, table_from, read_table}
use Rattle.meaning.specs.Prefix.{InMark, behind_bracket, behind_and, behind_letter}
use Rattle.meaning.specs.Refusals.{tree_refusals, one_refusals, table_refusals}
use Rattle.meaning.proofs.Lists.{one_of, Among, among}
use Rattle.meaning.proofs.Logic.{clash}
use Rattle.meaning.proofs.Scan.{inside, digit_low, digit-no-blank, blank-no-digit, past-ge, past-byte, past-run, skip-le}
use Rattle.meaning.proofs.Ways.{Gives, reads, refuses, gives-refused, gives-map, gives-and, token-gives, then-gives, label-gives, node-gives, exactly-gives, letter-gives, mark-gives, third-gives, differs-gives, whole-gives, end-gives}
use Rattle.meaning.proofs.Sound.{SoundTree, tree-gives}
use Rattle.meaning.proofs.Alike.{untaken-ten, first-line}

-- p is a place of the text; only line 1 can have the end as its place
abbrev pub Standing : List ℕ → ℕ → ℕ → Type 0
Standing s n p = (p < length s) ⊎ ((n ≡ 1) × (p ≡ length s))

-- p is not inside a run of digits
abbrev pub Uncut : List ℕ → ℕ → Type 0
Uncut s p = (i : ℕ) → p ≡ suc i → is_digit (byte_at s i) ≡ true → is_digit (byte_at s p) ≡ false

-- n is one of the lines, and the place stands; no blank is there but inside a mark, and no run of digits goes on over it
pub record Placed (lines s : List ℕ) (n p : ℕ) : Type 0 where
  pub line : Memᴰ n lines
  pub stands : Standing s n p
  pub solid : (is_blank (byte_at s p) ≡ false) ⊎ InMark s p
  pub uncut : Uncut s p

-- so it is among more lines
pub placed-among : {lines lines' s : List ℕ} {n p : ℕ} → Among lines lines' → Placed lines s n p → Placed lines' s n p
placed-among t h = record { line = among t h.line; stands = h.stands; solid = h.solid; uncut = h.uncut }

-- what was read ends in the text, and in no run of digits
pub record Ends (s : List ℕ) (p : ℕ) : Type 0 where
  pub in_text : p ≤ length s
  pub uncut : Uncut s p

module _ (s : List ℕ) where
  -- so an answer of the reader of a tree
  abbrev Tidy : {A : Type 0} → Read A → Type 0
  Tidy r = Gives (λ _ p. Ends s p) (Placed tree_refusals s) r

  -- the text's start, the place behind blanks, and the place behind a byte that is no digit
  pub ends-start : Ends s 0
  ends-start = record { in_text = omega arith; uncut = λ i e. absurd (omega arith) }

  pub ends-skip : {p : ℕ} → Ends s p → Ends s (skip s p)
  ends-skip {p} h = record { in_text = skip-le is_blank s p h.in_text; uncut = by (dec_le (skip s p) p) }
    where
      by : Dec (skip s p ≤ p) → Uncut s (skip s p)
      by (yes l) = let e : skip s p ≡ p = omega (arith, past-ge is_blank s p) in rw e h.uncut
      by (no l) = λ i e d. let b = blank-no-digit (byte_at s i) (past-run is_blank s p i (omega arith) (omega arith)) in clash cc

  ends-behind : (q b : ℕ) → is_digit b ≡ false → 0 < b → byte_at s q ≡ b → Ends s (q + 1)
  ends-behind q b z pos e = record { in_text = omega (arith, inside s q e pos); uncut = λ i h d. let k : i ≡ q = omega arith in let n : is_digit (byte_at s i) ≡ false = rw (k, e) z in clash cc }

  -- line 1, behind blanks
  wrong : (p : ℕ) → Ends s p → Placed tree_refusals s 1 (skip s p)
  unfolding is_blank
  wrong p h = record { line = one_of tt; stands = by (dec_le (length s) (skip s p)); solid = inl (past-byte is_blank s p refl); uncut = (ends-skip h).uncut }
    where
      by : Dec (length s ≤ skip s p) → Standing s 1 (skip s p)
      by (yes l) = inr (refl, omega (arith, (ends-skip h).in_text))
      by (no l) = inl (omega arith)

  label-places : (p : ℕ) (seen : List ℕ) → Ends s p → is_digit (byte_at s (skip s p)) ≡ true → Tidy (label_at s (skip s p) seen)
  unfolding is_digit
  label-places p seen k d =
      let q = skip s p in
      let h = inside s q refl (omega (arith, digit_low (byte_at s q) d)) in
      let solid = digit-no-blank (byte_at s q) d in
      label-gives s q seen
      (λ b. record { line = one_of tt; stands = inl h; solid = inl solid; uncut = (ends-skip k).uncut })
      (λ a m. record { line = one_of tt; stands = inl h; solid = inl solid; uncut = (ends-skip k).uncut })
      (λ _ _. record { in_text = skip-le is_digit s q (omega arith); uncut = λ i e x. past-byte is_digit s q refl })

  -- a token, where something follows behind it
  token-places : {A : Type 0} (b p : ℕ) (next : ℕ → Read A) → is_digit b ≡ false → 0 < b → Ends s p → ((q : ℕ) → Ends s q → Tidy (next q))
      → Tidy (token b s p next)
  token-places b p next z pos h f = token-gives b s p next (λ _. wrong p h) (λ e. f (skip s p + 1) (ends-behind (skip s p) b z pos e))

  fork-places : (node : ℕ → List ℕ → Read Tree) → ((p : ℕ) (seen : List ℕ) → Ends s p → Tidy (node p seen)) → (p : ℕ) (seen : List ℕ) → Ends s p
      → Tidy (fork_at node s p seen)
  unfolding fork_at is_digit
  fork-places node ih p seen h =
      then-gives _ (ih p seen h) λ a p₁ h₁.
      token-places 44 p₁ _ refl (lit< tt) h₁ λ p₂ h₂.
      then-gives _ (ih p₂ (seen ++ labels a) h₂) λ b p₃ h₃.
      token-places 41 p₃ _ refl (lit< tt) h₃ λ p₄ h₄.
      reads h₄

  node-places : (room p : ℕ) (seen : List ℕ) → Ends s p → Tidy (read_node room s p seen)
  unfolding read_node is_blank is_digit
  node-places zero p seen h =
      node-gives s (λ q. refused 4 q) p seen (λ _ _. wrong p h) (label-places p seen h)
      (λ e. refuses (record { line = one_of tt; stands = inl (inside s (skip s p) e (lit< tt)); solid = inl (past-byte is_blank s p refl); uncut = (ends-skip h).uncut }))
  node-places (suc room) p seen h =
      node-gives s (λ q. fork_at (read_node room s) s (q + 1) seen) p seen (λ _ _. wrong p h) (label-places p seen h)
      (λ e. fork-places (read_node room s) (node-places room) (skip s p + 1) seen (ends-behind (skip s p) 40 refl (lit< tt) e))

  -- line 1 inside a mark
  wrong-mark : (q : ℕ) → Ends s q → InMark s q → Placed tree_refusals s 1 q
  wrong-mark q h m = record { line = one_of tt; stands = by (dec_le (length s) q); solid = inr m; uncut = h.uncut }
    where
      by : Dec (length s ≤ q) → Standing s 1 q
      by (yes l) = inr (refl, omega (arith, h.in_text))
      by (no l) = inl (omega arith)

  mark-places : (p : ℕ) → Ends s p → Tidy (mark_at s p)
  unfolding is_digit
  mark-places p h =
      let q = skip s p in
      mark-gives s p (λ _. h) λ h₁.
      let e₁ = ends-behind q 91 refl (lit< tt) h₁ in
      exactly-gives 38 s (q + 1) _ (λ _. wrong-mark (q + 1) e₁ (behind_bracket q h₁)) λ h₂.
      let e₂ = ends-behind (q + 1) 38 refl (lit< tt) h₂ in
      then-gives {P = λ k r. (r ≡ q + 1 + 1 + 1) × Ends s (q + 1 + 1 + 1) × InMark s (q + 1 + 1 + 1)} _
      (letter-gives s (q + 1 + 1)
      (λ b. (refl, ends-behind (q + 1 + 1) 85 refl (lit< tt) b, behind_letter q h₁ h₂ (inl b)))
      (λ b. (refl, ends-behind (q + 1 + 1) 82 refl (lit< tt) b, behind_letter q h₁ h₂ (inr b)))
      (λ _ _. wrong-mark (q + 1 + 1) e₂ (behind_and q h₁ h₂))) λ k r H.
      rw H.0
      (exactly-gives 93 s (q + 1 + 1 + 1) _ (λ _. wrong-mark (q + 1 + 1 + 1) H.1 H.2) λ h₄.
      reads (ends-behind (q + 1 + 1 + 1) 93 refl (lit< tt) h₄))

  top-places : (k : Kind) (p : ℕ) → Ends s p → Tidy (top_at k s p)
  unfolding top_at three_at is_digit
  top-places rooted p h = node-places max_open p [] h
  top-places unrooted p h =
      let node : ℕ → List ℕ → Read Tree = read_node (max_open - 1) s in
      node-gives s (λ q. three_at node s (q + 1)) p [] (λ _ _. wrong p h) (label-places p [] h) λ e.
      let h₁ = ends-behind (skip s p) 40 refl (lit< tt) e in
      then-gives _ (node-places (max_open - 1) (skip s p + 1) [] h₁) λ a p₁ h₂.
      token-places 44 p₁ _ refl (lit< tt) h₂ λ p₂ h₃.
      then-gives _ (node-places (max_open - 1) p₂ (labels a) h₃) λ b p₃ h₄.
      third-gives node s a b p₃ (λ _ z. ends-behind (skip s p₃) 41 refl (lit< tt) z) λ _.
      token-places 44 p₃ _ refl (lit< tt) h₄ λ p₄ h₅.
      then-gives _ (node-places (max_open - 1) p₄ (labels a ++ labels b) h₅) λ c p₅ h₆.
      token-places 41 p₅ _ refl (lit< tt) h₆ λ p₆ h₇.
      reads h₇

  pub tree_places : (p : ℕ) → Ends s p → Tidy (tree_at s p)
  unfolding tree_at is_digit
  tree_places p h =
      then-gives _ (mark-places p h) λ k p₁ h₁.
      then-gives _ (top-places k p₁ h₁) λ t p₂ h₂.
      token-places 59 p₂ _ refl (lit< tt) h₂ λ p₃ h₃.
      reads h₃

  -- the `;` of a tree, and the place behind it
  module _ {q p : ℕ} {x : Kinded} (S : SoundTree s q x p) where
    pub ends-tree : Ends s p
    unfolding is_digit
    ends-tree = let e : p - 1 + 1 ≡ p = omega (arith, S.behind_it.0) in rw e at (ends-behind (p - 1) 59 refl (lit< tt) S.behind_it.2)

    differs : {lines : List ℕ} {n : ℕ} → Memᴰ n lines → Placed lines s n (p - 1)
    unfolding is_blank is_digit
    differs m = record { line = m; stands = inl (omega (arith, S.behind_it.0, S.behind_it.1)); solid = inl (ap is_blank S.behind_it.2); uncut = λ i e d. ap is_digit S.behind_it.2 }

  -- what is known of a tree that was read, and of a refusal
  tree-known : {lines : List ℕ} → Among tree_refusals lines → (p : ℕ) → Ends s p → Gives (λ x e. SoundTree s p x e × Ends s e) (Placed lines s) (tree_at s p)
  tree-known t p h = gives-map (λ x e g. g) (λ n e g. placed-among t g.1) (gives-and (tree-gives s p) (tree_places p h))

  -- where a text with one tree is refused
  one-places : (takes : Takes) → Among tree_refusals (one_refusals takes) → ((n : ℕ) (k : Kind) → untaken takes k ≡ suc n → Memᴰ (suc n) (one_refusals takes))
      → Gives (λ x p. Ends s p) (Placed (one_refusals takes) s) (read_tree takes s)
  unfolding is_blank
  one-places takes lines ten = whole-gives takes s (tree-known lines 0 ends-start)
      (λ x p h m z. differs h.0 (ten m x.kind z))
      (λ x p h z l. placed-among {lines = tree_refusals} lines (record { line = one_of tt; stands = inl l; solid = inl (past-byte is_blank s p refl); uncut = (ends-skip h.1).uncut })) (λ x p h z l. h.1)

  read-places : (takes : Takes) → Gives (λ x p. Ends s p) (Placed (one_refusals takes) s) (read_tree takes s)
  read-places either = one-places either tt (λ n k z. absurd (omega (arith, z)))
  read-places rooted_only = one-places rooted_only tt (λ n k z. rw (untaken-ten rooted_only k z) (one_of tt))

  module _ (takes : Takes) where
    pub read-refused : (n p : ℕ) → read_tree takes s ≡ refused n p → Placed (one_refusals takes) s n p
    read-refused n p e = gives-refused (read-places takes) e

    -- where a table is refused
    from_places : (slots p : ℕ) (xs : List Kinded) → Ends s p → Gives (λ xs p. Ends s p) (Placed table_refusals s) (table_from takes slots s (skip s p) xs)
    unfolding table_from is_blank
    from_places zero p xs h =
        end-gives s xs (skip s p) _ (λ l. ends-skip h) (λ l. refuses (record { line = one_of tt; stands = inl l; solid = inl (past-byte is_blank s p refl); uncut = (ends-skip h).uncut }))
    from_places (suc slots) p xs h =
        end-gives s xs (skip s p) _ (λ l. ends-skip h) λ l.
        then-gives _ (tree-known tt (skip s p) (ends-skip h)) λ x e S.
        differs-gives (like_first takes xs x) e (λ m z. differs S.0 (among tt (first-line takes xs x z))) λ z.
        from_places slots e (xs ++ (x ∷ [])) S.1

    pub table-refused : (n p : ℕ) → read_table takes s ≡ refused n p → Placed table_refusals s n p
    unfolding read_table
    table-refused n p e = gives-refused (from_places max_trees 0 [] ends-start) e
