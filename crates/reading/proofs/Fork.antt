-- The ways through a fork and through a node, from what each step answered.
-- Assumes nothing.
use mathlib.Core.Path.{◌≡◌, sym, ap, ◌∙◌}
use mathlib.Core.Bool.{Bool, true, false}
use mathlib.Core.List.{List, ◌++◌, append_assoc}
use Prim.Native.Nat.{ℕ, suc, ◌+◌, ◌-◌, ◌/◌, ◌≤◌, ◌<◌}
use native.Mathlib.Omega.{arith}
use lib.ListN.{length, get_or, set}
use Rattle.std.specs.Prelude.{⊤}
use Rattle.meaning.specs.Tree.{Tree, fork, labels, leaves}
use Rattle.meaning.specs.Reading.{Read, got, refused, and_then, skip, token, label_at, fork_at, read_node, is_digit, byte_at}
use Rattle.meaning.proofs.Sound.{Sound, sound}
use Rattle.meaning.proofs.Ways.{gives-got, node-label, node-bad, node-deep, node-fork}
use Rattle.held.specs.Held.{nodes}
use Rattle.held.proofs.Laws.{twice}
use Rattle.tokens.specs.Draft.{draft_bytes, seen, Draft, Written, token_at}
use Rattle.tokens.specs.Paper.{Accepts}
use Rattle.tokens.proofs.Draft.{fits_more, seen_more, draft-more, seen-open, draft-open, closed-by}
use Rattle.tokens.proofs.Meet.{byte-is, token-then, token-behind}
use Rattle.tokens.proofs.Steps.{then-got}

-- a node that was read, and a token
abbrev pub Noded : Read Tree → ℕ → List ℕ → List ℕ → List Bool → ℕ → ℕ → Type 0
Noded g p node node' marks' at k = Accepts g p (Written node node' marks' at k)

abbrev pub Passed : Read (Unit {0}) → ℕ → Type 0
Passed g p = Accepts g p (λ u. ⊤)

-- what a node that was read adds to the draft
module _ {room : ℕ} (s : List ℕ) (p : ℕ) {node node' : List ℕ} {marks marks' : List Bool} {at q k : ℕ} (d : Draft node marks at room)
    (A : Noded (read_node room s p (seen node at)) q node node' marks' at k) where
  read-sound : Sound room s p (seen node at) A.value q
  read-sound = gives-got (sound room s p (seen node at)) A.is

  pub next-draft : Draft node' marks' k room
  next-draft = rw (A.keeps.cells, A.keeps.count) (draft-more d read-sound.good read-sound.new A.keeps.marked)

  pub next-seen : seen node' k ≡ seen node at ++ labels A.value
  next-seen = rw (A.keeps.cells, A.keeps.count) (seen_more d read-sound.good read-sound.new)

  pub next-in : k ≤ length node
  next-in = rw A.keeps.count (fits_more d read-sound.good read-sound.new)

-- ---- a fork, whose first node follows
module _ (s : List ℕ) (p room : ℕ) {node : List ℕ} {marks : List Bool} {at : ℕ} (d : Draft node marks at (suc room)) where
  -- what follows the second node, the comma and the first
  abbrev closes : Tree → Tree → ℕ → Read Tree
  closes a b p₃ = token 41 s p₃ (λ p₄. got (fork a b) p₄)

  abbrev seconds : Tree → ℕ → Read Tree
  seconds a p₂ = and_then (read_node room s p₂ (seen node at ++ labels a)) (closes a)

  pub fork-is : fork_at (read_node room s) s p (seen node at) ≡ and_then (read_node room s p (seen (set node at 0) (at + 1))) (λ a p₁. token 44 s p₁ (seconds a))
  unfolding fork_at
  fork-is = rw (seen-open d)

  -- it was accepted
  module _ {node₁ : List ℕ} {marks₁ : List Bool} {q k : ℕ} (A : Noded (read_node room s p (seen (set node at 0) (at + 1))) q (set node at 0) node₁ marks₁ (at + 1) k) where
    pub fork-first : fork_at (read_node room s) s p (seen node at) ≡ and_then (token_at 44 s q) (λ u p₂. seconds A.value p₂)
    fork-first = fork-is ∙ then-got (λ a p₁. token 44 s p₁ (seconds a)) A.is ∙ token-then 44 s q (seconds A.value)

    -- and so was the comma
    module _ {q' : ℕ} (c : Passed (token_at 44 s q) q') where
      -- the second node begins behind the first
      pub second-behind : p ≤ q'
      second-behind = omega (arith, (read-sound s p (draft-open d) A).stands.place, token-behind 44 s q c.is)

      pub second-draft : Draft node₁ marks₁ k room
      second-draft = next-draft s p (draft-open d) A

      second-seen : seen node₁ k ≡ seen node at ++ labels A.value
      second-seen = next-seen s p (draft-open d) A ∙ ap (λ (l : List ℕ). l ++ labels A.value) (seen-open d)

      pub fork-second : fork_at (read_node room s) s p (seen node at) ≡ and_then (read_node room s q' (seen node₁ k)) (closes A.value)
      fork-second = rw second-seen (fork-first ∙ then-got (λ u p₂. seconds A.value p₂) c.is)

      -- and the second node
      module _ {node₂ : List ℕ} {marks₂ : List Bool} {p₂ end : ℕ} (B : Noded (read_node room s q' (seen node₁ k)) p₂ node₁ node₂ marks₂ k end) where
        both : end ≡ at + nodes (fork A.value B.value)
        both = omega (arith, A.keeps.count, B.keeps.count)

        pub close-room : length node₁ ≡ length node → (at < end) × (end ≤ at + draft_bytes)
        close-room n = (omega (arith, both), omega (arith, next-in s q' second-draft B, n, d.size))

        pub fork-written : (v : ℕ) → v ≡ 64 + (end - at + 1) / 2 → Written node (set node₂ at v) marks₂ at end (fork A.value B.value)
        fork-written v e =
            let a = A.value in
            let b = B.value in
            let f : v ≡ 64 + (leaves a + leaves b) = omega (arith, both, twice a, twice b) in
            record {
              cells = closed-by node node₁ node₂ at k v a b A.keeps.cells A.keeps.count B.keeps.cells f;
              count = both;
              marked = rw (← append_assoc (seen node at) (labels a) (labels b), ← second-seen) B.keeps.marked;
            }

        pub fork-closes : fork_at (read_node room s) s p (seen node at) ≡ and_then (token_at 41 s p₂) (λ u p₄. got (fork A.value B.value) p₄)
        fork-closes = fork-second ∙ then-got (closes A.value) B.is ∙ token-then 41 s p₂ (λ p₄. got (fork A.value B.value) p₄)

-- ---- a node, from the byte at its place
module _ (s : List ℕ) (p : ℕ) {q b : ℕ} {digit : Bool} (e : q ≡ skip s p) (f : b ≡ get_or s q 0) (g : digit ≡ is_digit b) where
  pub digit-is : is_digit (byte_at s (skip s p)) ≡ digit
  digit-is = ap is_digit (byte-is s p e f) ∙ sym g

  module _ (room : ℕ) (seen : List ℕ) where
    pub via-label : digit ≡ true → read_node room s p seen ≡ label_at s q seen
    via-label h = rw e (node-label s p seen room (digit-is ∙ h))

    module _ (h : digit ≡ false) where
      pub via-deep : b ≡ 40 → room ≡ 0 → read_node room s p seen ≡ refused 4 q
      via-deep k z = rw e (node-deep s p seen room (digit-is ∙ h) (byte-is s p e f ∙ k) z)

      pub via-fork : b ≡ 40 → (room ≡ 0 → ⊥) → read_node room s p seen ≡ fork_at (read_node (room - 1) s) s (q + 1) seen
      via-fork k z = rw e (node-fork s p seen room (digit-is ∙ h) (byte-is s p e f ∙ k) z)

      pub via-wrong : (b ≡ 40 → ⊥) → read_node room s p seen ≡ refused 1 q
      via-wrong k = rw e (node-bad s p seen room (digit-is ∙ h) (λ z. k (sym (byte-is s p e f) ∙ z)))
