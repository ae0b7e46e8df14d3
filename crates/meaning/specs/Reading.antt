-- The tree text of document 01: what reading gives, for every list of bytes. In words: docs/RULES.md, 'Tree text' and 'Refusals'.
-- Assumes nothing.
use Rattle.std.specs.Prelude.{Bool, true, false, cond, ◌&&◌, ◌||◌, List, [], ◌∷◌, ◌++◌, ℕ, zero, suc, ◌+◌, ◌-◌, ◌*◌, leb, ltb, eqb, length, drop, get_or}
use Rattle.meaning.specs.Limits.{max_label, max_open, max_trees}
use Rattle.meaning.specs.Lists.{member, within}
use Rattle.meaning.specs.Tree.{Tree, leaf, fork, labels}
use Rattle.meaning.specs.Kind.{Kind, rooted, unrooted, Kinded, Takes, either, rooted_only}
use Rattle.meaning.specs.Unrooted.{standing}

-- what was read and the place behind it; or a number of the refusal list and the place
pub data Read (A : Type 0) : Type 0 where
  got : A → ℕ → Read A
  refused : ℕ → ℕ → Read A

-- space, tab, CR, LF
unfoldable pub is_blank : ℕ → Bool
is_blank b = eqb b 32 || (eqb b 9 || (eqb b 13 || eqb b 10))

-- 0 to 9
unfoldable pub is_digit : ℕ → Bool
is_digit b = leb 48 b && leb b 57

-- the byte at a place; behind the end 0, which no rule has
abbrev pub byte_at : List ℕ → ℕ → ℕ
byte_at s p = get_or s p 0

-- how many bytes that pass the test a text begins with
unfoldable pub lead : (ℕ → Bool) → List ℕ → ℕ
lead test [] = 0
lead test (b ∷ s) = cond (test b) (suc (lead test s)) 0

-- the first place from p on whose byte does not pass the test, or the end
unfoldable pub past : (ℕ → Bool) → List ℕ → ℕ → ℕ
past test s p = p + lead test (drop p s)

-- behind the blanks at p
abbrev pub skip : List ℕ → ℕ → ℕ
skip s p = past is_blank s p

-- behind the run of digits at p
abbrev pub run_end : List ℕ → ℕ → ℕ
run_end s p = past is_digit s p

-- the number that the digits at a text's start go on to write after v
unfoldable pub value_after : ℕ → List ℕ → ℕ
value_after v [] = v
value_after v (b ∷ s) = cond (is_digit b) (value_after (v * 10 + (b - 48)) s) v

-- the value of the run of digits at p
unfoldable pub value : List ℕ → ℕ → ℕ
value s p = value_after 0 (drop p s)

-- go on behind what was read; a refusal stands
abbrev pub and_then : {A B : Type 0} → Read A → (A → ℕ → Read B) → Read B
and_then (got a p) next = next a p
and_then (refused n p) next = refused n p

-- go on at q where the rules can have its byte there; else line 1 of the refusal list
abbrev pub or_wrong : {A : Type 0} → Bool → ℕ → (ℕ → Read A) → Read A
or_wrong true q next = next q
or_wrong false q next = refused 1 q

-- the token b, behind blanks
unfoldable pub token : {A : Type 0} → ℕ → List ℕ → ℕ → (ℕ → Read A) → Read A
token b s p next = or_wrong (eqb (byte_at s (skip s p)) b) (skip s p) (λ q. next (q + 1))

-- a label of the value v breaks the rule: it is not 1 to 64
unfoldable pub bad_label : ℕ → Bool
bad_label v = ltb v 1 || ltb max_label v

-- the label whose first digit is at q, where `seen` are the labels before it in this tree: line 2, then line 3
unfoldable pub label_at : List ℕ → ℕ → List ℕ → Read Tree
label_at s q seen =
    cond (bad_label (value s q)) (refused 2 q)
    (cond (member (value s q) seen) (refused 3 q)
    (got (leaf (value s q)) (run_end s q)))

-- the rest of a fork behind its bracket: node `,` node `)`; `node` reads a node
unfoldable pub fork_at : (ℕ → List ℕ → Read Tree) → List ℕ → ℕ → List ℕ → Read Tree
fork_at node s p seen =
    and_then (node p seen) λ a p₁.
    token 44 s p₁ λ p₂.
    and_then (node p₂ (seen ++ labels a)) λ b p₃.
    token 41 s p₃ λ p₄.
    got (fork a b) p₄

-- a node behind blanks: a label, or what `bracket` gives for the `(` at its place
unfoldable pub node_at : (ℕ → Read Tree) → List ℕ → ℕ → List ℕ → Read Tree
node_at bracket s p seen =
    let q : ℕ = skip s p in
    cond (is_digit (byte_at s q)) (label_at s q seen)
    (or_wrong (eqb (byte_at s q) 40) q bracket)

-- a node, where `room` more brackets may open; where none may, a bracket is line 4
unfoldable pub read_node : ℕ → List ℕ → ℕ → List ℕ → Read Tree
read_node zero s p seen = node_at (λ q. refused 4 q) s p seen
read_node (suc room) s p seen = node_at (λ q. fork_at (read_node room s) s (q + 1) seen) s p seen

-- the byte b at p itself, with no blank before it
unfoldable pub exactly : {A : Type 0} → ℕ → List ℕ → ℕ → (ℕ → Read A) → Read A
exactly b s p next = or_wrong (eqb (byte_at s p) b) p (λ q. next (q + 1))

-- the letter of a mark, U or R
unfoldable pub letter_at : List ℕ → ℕ → Read Kind
letter_at s p = cond (eqb (byte_at s p) 85) (got unrooted (p + 1)) (exactly 82 s p (got rooted))

-- the mark [&U] or [&R], behind blanks; a tree without one is rooted
unfoldable pub mark_at : List ℕ → ℕ → Read Kind
mark_at s p =
    let q : ℕ = skip s p in
    cond (eqb (byte_at s q) 91) (exactly 38 s (q + 1) λ p₁. and_then (letter_at s p₁) λ k p₂. exactly 93 s p₂ (got k))
    (got rooted p)

-- a fork of two labels
unfoldable pub two_labels : Tree → Bool
two_labels (leaf v) = false
two_labels (fork (leaf v) (leaf w)) = true
two_labels (fork (leaf v) (fork a b)) = false
two_labels (fork (fork a b) c) = false

-- the rest of an unrooted tree's top behind its nodes a and b: `)` behind two labels, else `,` node `)`
unfoldable pub third_at : (ℕ → List ℕ → Read Tree) → List ℕ → Tree → Tree → ℕ → Read Tree
third_at node s a b p =
    cond (two_labels (fork a b) && eqb (byte_at s (skip s p)) 41) (got (fork a b) (skip s p + 1))
    (token 44 s p λ p₁.
    and_then (node p₁ (labels a ++ labels b)) λ c p₂.
    token 41 s p₂ λ p₃.
    got (fork a (fork b c)) p₃)

-- the rest of an unrooted tree's top behind its bracket: node `,` node, and a third unless these are two labels
unfoldable pub three_at : (ℕ → List ℕ → Read Tree) → List ℕ → ℕ → Read Tree
three_at node s p =
    and_then (node p []) λ a p₁.
    token 44 s p₁ λ p₂.
    and_then (node p₂ (labels a)) λ b p₃.
    third_at node s a b p₃

-- the top of a tree: a rooted tree's is a node; an unrooted one's is a label, or a bracket with two labels or three nodes
unfoldable pub top_at : Kind → List ℕ → ℕ → Read Tree
top_at rooted s p = read_node max_open s p []
top_at unrooted s p = node_at (λ q. three_at (read_node (max_open - 1) s) s (q + 1)) s p []

-- a tree: a mark or none, the top and `;`, at most 63 brackets open at once
unfoldable pub tree_at : List ℕ → ℕ → Read Kinded
tree_at s p =
    and_then (mark_at s p) λ k p₁.
    and_then (top_at k s p₁) λ t p₂.
    token 59 s p₂ λ p₃.
    got (record { kind = k; tree = standing k t }) p₃

-- the line that says why a tree of this kind is not taken: 10, or 0 where it is
abbrev pub untaken : Takes → Kind → ℕ
untaken either k = 0
untaken rooted_only rooted = 0
untaken rooted_only unrooted = 10

-- go on behind the tree x, which ends at p, where no line says that it can't stand there; else that line, at its `;`
abbrev pub or_differs : {A : Type 0} → ℕ → ℕ → Read A → Read A
or_differs zero p next = next
or_differs (suc n) p next = refused (suc n) (p - 1)

-- a text with exactly one tree, of a kind that is taken: behind its `;` are blanks only
unfoldable pub read_tree : Takes → List ℕ → Read Kinded
read_tree takes s =
    and_then (tree_at s 0) λ x p.
    or_differs (untaken takes x.kind) p
    (cond (ltb (skip s p) (length s)) (refused 1 (skip s p)) (got x p))

-- the two trees have the same labels
abbrev pub same_labels : Tree → Tree → Bool
same_labels t u = within (labels t) (labels u) && within (labels u) (labels t)

-- the two are of one kind
abbrev pub same_kind : Kind → Kind → Bool
same_kind rooted rooted = true
same_kind rooted unrooted = false
same_kind unrooted rooted = false
same_kind unrooted unrooted = true

-- the line that says why y can't stand beside x: 10 where the kinds differ, then 5 where the labels do; 0 where neither
abbrev pub unlike : Kinded → Kinded → ℕ
unlike x y = cond (same_kind x.kind y.kind) (cond (same_labels x.tree y.tree) 0 5) 10

-- why x can't stand behind the trees of a table: it has to be like the first, and the first of a kind that is taken
abbrev pub like_first : Takes → List Kinded → Kinded → ℕ
like_first takes [] x = untaken takes x.kind
like_first takes (first ∷ xs) x = unlike first x

-- go on at q where there is a byte; at the end all trees are read
abbrev pub or_end : Bool → List Kinded → ℕ → (ℕ → Read (List Kinded)) → Read (List Kinded)
or_end true xs q next = next q
or_end false xs q next = got xs q

-- the trees at q, where no blank stands, behind the trees xs; `slots` more may come, and then any byte is line 6
unfoldable pub table_from : Takes → ℕ → List ℕ → ℕ → List Kinded → Read (List Kinded)
table_from takes zero s q xs = or_end (ltb q (length s)) xs q λ q. refused 6 q
table_from takes (suc slots) s q xs =
    or_end (ltb q (length s)) xs q λ q.
    and_then (tree_at s q) λ x p.
    or_differs (like_first takes xs x) p
    (table_from takes slots s (skip s p) (xs ++ (x ∷ [])))

-- a table: zero to 160 trees
unfoldable pub read_table : Takes → List ℕ → Read (List Kinded)
read_table takes s = table_from takes max_trees s (skip s 0) []
