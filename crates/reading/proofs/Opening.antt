-- The ways through the top of a tree: a node, and the start of an unrooted tree's.
-- Assumes nothing.
use mathlib.Core.Path.{◌≡◌, sym, ◌∙◌}
use mathlib.Core.Bool.{Bool, true, false}
use mathlib.Core.List.{List, []}
use Prim.Native.Nat.{ℕ, ◌+◌}
use native.Mathlib.Nat.{zero-add}
use native.Mathlib.Omega.{arith}
use lib.ListN.{length, drop, get_or}
use Rattle.std.specs.Prelude.{Result, Ok, Err}
use Rattle.meaning.specs.Tree.{Tree}
use Rattle.meaning.specs.Kind.{rooted, unrooted}
use Rattle.meaning.specs.Reading.{Read, refused, skip, is_digit, label_at, read_node, three_at, top_at}
use Rattle.meaning.proofs.Sound.{sound}
use Rattle.meaning.proofs.Ways.{gives-got, at_label, at_bracket, at_other, node-label}
use Rattle.lent.proofs.Runs.{sets-start}
use Rattle.held.specs.Held.{nodes, pre}
use Rattle.held.specs.Labels.{labels_within}
use Rattle.held.proofs.Laws.{length-pre}
use Rattle.tokens.specs.Draft.{seen, Draft, NodeMeets}
use Rattle.tokens.specs.declared.Step.{Step}
use Rattle.tokens.specs.declared.Refusal.{Refusal}
use Rattle.reading.specs.Opening.{TopMeets}
use Rattle.tokens.proofs.Draft.{fits_more}
use Rattle.reading.proofs.Fork.{digit-is, via-label}
use Rattle.tokens.proofs.Meet.{byte-is}

-- a node that was read from the draft's start on stands there
module _ (s : List ℕ) (p : ℕ) {node : List ℕ} (node' : List ℕ) {marks : List Bool} (marks' : List Bool) (d : Draft node marks 0 63) where
  whole : (r : Result Step Refusal) → NodeMeets node node' marks' 0 (read_node 63 s p (seen node 0)) r → TopMeets node' (read_node 63 s p (seen node 0)) r
  whole (Ok step) A =
      let S = gives-got (sound 63 s p (seen node 0)) A.is in
      record {
        value = A.value;
        is = A.is;
        keeps = record {
          cells = (drop (length (pre A.value)) node, A.keeps.cells ∙ sets-start node (pre A.value) (omega (arith, length-pre A.value, fits_more d S.good S.new)));
          count = A.keeps.count ∙ zero-add (nodes A.value);
        };
      }
  whole (Err x) m = m

  pub top-rooted : (r : Result Step Refusal) → NodeMeets node node' marks' 0 (read_node 63 s p (seen node 0)) r → TopMeets node' (top_at rooted s p) r
  unfolding top_at labels_within
  top-rooted r m = whole r m

-- the rest of an unrooted tree's top whose bracket stands at q
abbrev pub three : List ℕ → ℕ → Read Tree
three s q = three_at (read_node 62 s) s (q + 1)

-- an unrooted tree's, from the byte at its place
module _ (s : List ℕ) (p : ℕ) {q b : ℕ} {digit : Bool} (e : q ≡ skip s p) (f : b ≡ get_or s q 0) (g : digit ≡ is_digit b) where
  pub top-label : {node : List ℕ} (node' : List ℕ) {marks : List Bool} (marks' : List Bool) (r : Result Step Refusal) → Draft node marks 0 63 → digit ≡ true
      → NodeMeets node node' marks' 0 (label_at s q (seen node 0)) r → TopMeets node' (top_at unrooted s p) r
  unfolding top_at labels_within
  top-label {node} node' marks' r d h m =
      let z = digit-is s p e f g ∙ h in
      rw (at_label s p [] (three s) z ∙ sym (node-label s p [] 63 z)) (whole s p node' marks' d r (rw (via-label s p e f g 63 (seen node 0) h) m))

  module _ (h : digit ≡ false) where
    pub top-bracket : b ≡ 40 → top_at unrooted s p ≡ three s q
    unfolding top_at
    top-bracket k = rw e (at_bracket s p [] (three s) (digit-is s p e f g ∙ h) (byte-is s p e f ∙ k))

    pub top-wrong : (b ≡ 40 → ⊥) → top_at unrooted s p ≡ refused 1 q
    unfolding top_at
    top-wrong k = rw e (at_other s p [] (three s) (digit-is s p e f g ∙ h) (λ z. k (sym (byte-is s p e f) ∙ z)))
