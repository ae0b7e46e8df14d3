-- Where a line of the refusal list is met: what stands before the place and at it, with no word on how a text is read. In words: docs/RULES.md, 'Refusals'.
-- Assumes nothing.
use Rattle.std.specs.Prelude.{◌≡◌, ◌⊎◌, true, false, List, [], ◌∷◌, ◌++◌, ℕ, suc, ◌+◌, ◌<◌, ◌≤◌, length, drop, take}
use Rattle.meaning.specs.Limits.{max_open, max_trees}
use Rattle.meaning.specs.Lists.{member}
use Rattle.meaning.specs.Tree.{Tree, leaf, fork, labels, In, Good}
use Rattle.meaning.specs.Kind.{Kind, rooted, unrooted, Kinded, Takes}
use Rattle.meaning.specs.Reading.{is_blank, is_digit, byte_at, value, bad_label, two_labels}
use Rattle.meaning.specs.Grammar.{All, TokenText, NodeText, depth, MarkText, TopText, TreeText, Taken, LikeIt}

-- x stands in s from p up to e
pub record From (s : List ℕ) (p e : ℕ) (x : List ℕ) : Type 0 where
  pub split : drop p s ≡ x ++ drop e s
  pub place : e ≡ p + length x

-- p is inside a mark: behind its `[`, its `&` or its letter
pub data InMark (s : List ℕ) : ℕ → Type 0 where
  behind_bracket : (q : ℕ) → byte_at s q ≡ 91 → InMark s (q + 1)
  behind_and : (q : ℕ) → byte_at s q ≡ 91 → byte_at s (q + 1) ≡ 38 → InMark s (q + 1 + 1)
  behind_letter : (q : ℕ) → byte_at s q ≡ 91 → byte_at s (q + 1) ≡ 38 → (byte_at s (q + 1 + 1) ≡ 85) ⊎ (byte_at s (q + 1 + 1) ≡ 82) → InMark s (q + 1 + 1 + 1)

-- where in a tree text a node may begin: at the top of a tree of this kind, or in a bracket
pub data Place : Type 0 where
  top : Kind → Place
  below : Place

-- a bracket that opens there has two nodes in it
abbrev pub TwoInIt : Place → Type 0
TwoInIt (top rooted) = Unit {0}
TwoInIt (top unrooted) = ⊥
TwoInIt below = Unit {0}

-- a node, the labels of which are not among those before it
pub record NewNode (t : Tree) (x : List ℕ) (seen : List ℕ) (k : ℕ) : Type 0 where
  pub text : NodeText t x
  pub good : Good t
  pub new : (l : ℕ) → In l t → member l seen ≡ false
  pub deep : depth t + k ≤ max_open

-- a tree text up to a place where a node may begin: how many brackets are open there, and the labels before it
pub data NodeMayBegin : Place → List ℕ → ℕ → List ℕ → Type 0 where
  at_top : {k : Kind} {m : List ℕ} → MarkText k m → NodeMayBegin (top k) m 0 []
  in_bracket : {w : Place} {x o seen : List ℕ} {k : ℕ} → NodeMayBegin w x k seen → TwoInIt w → k < max_open → TokenText 40 o → NodeMayBegin below (x ++ o) (suc k) seen
  behind-comma : {w : Place} {x o y c seen : List ℕ} {k : ℕ} {a : Tree} → NodeMayBegin w x k seen → TwoInIt w → k < max_open → TokenText 40 o
      → NewNode a y seen (suc k) → TokenText 44 c → NodeMayBegin below (x ++ (o ++ (y ++ c))) (suc k) (seen ++ labels a)
  in_top : {m o : List ℕ} → MarkText unrooted m → TokenText 40 o → NodeMayBegin below (m ++ o) 1 []
  behind-first : {m o y c : List ℕ} {a : Tree} → MarkText unrooted m → TokenText 40 o → NewNode a y [] 1 → TokenText 44 c → NodeMayBegin below (m ++ (o ++ (y ++ c))) 1 (labels a)
  behind_second : {m o y c z d : List ℕ} {a b : Tree} → MarkText unrooted m → TokenText 40 o → NewNode a y [] 1 → TokenText 44 c → NewNode b z (labels a) 1 → TokenText 44 d
      → NodeMayBegin below (m ++ (o ++ (y ++ (c ++ (z ++ d))))) 1 (labels a ++ labels b)

-- a node may begin at q: from p on such a text stands, and then blanks up to q
pub record AtNode (s : List ℕ) (p q : ℕ) (w : Place) (k : ℕ) (seen : List ℕ) : Type 0 where
  pub text : List ℕ
  pub blanks : List ℕ
  pub begins : NodeMayBegin w text k seen
  pub blank : All is_blank blanks
  pub stands : From s p q (text ++ blanks)

-- the byte b may stand behind the node t that begins there: `;`, `,` or `)`
unfoldable pub MayFollow : {w : Place} {x seen : List ℕ} {k : ℕ} → NodeMayBegin w x k seen → Tree → ℕ → Type 0
MayFollow (at_top M) t b = b ≡ 59
MayFollow (in_bracket B h l O) t b = b ≡ 44
MayFollow (behind-comma B h l O A C) t b = b ≡ 41
MayFollow (in_top M O) t b = b ≡ 44
MayFollow (behind-first {a = a} M O A C) t b = (b ≡ 44) ⊎ ((b ≡ 41) × (two_labels (fork a t) ≡ true))
MayFollow (behind_second M O A C B D) t b = b ≡ 41

-- what stands there from where the node begins on: at the top of an unrooted tree all of the top
abbrev pub StandsWhole : Place → Tree → List ℕ → List ℕ → ℕ → Type 0
StandsWhole (top rooted) t x seen k = NewNode t x seen k
StandsWhole (top unrooted) t x seen k = TopText unrooted t x × Good t
StandsWhole below t x seen k = NewNode t x seen k

-- a token has to stand at q: from p on such a text stands, then a node up to e, with the longest run of digits if it is a label, and then blanks
pub record AtToken (s : List ℕ) (p q : ℕ) : Type 0 where
  pub text : List ℕ
  pub own : List ℕ
  pub blanks : List ℕ
  pub w : Place
  pub k : ℕ
  pub seen : List ℕ
  pub a : Tree
  pub e : ℕ
  pub begins : NodeMayBegin w text k seen
  pub node : StandsWhole w a own seen k
  pub longest : (v : ℕ) → a ≡ leaf v → is_digit (byte_at s e) ≡ false
  pub before : From s p e (text ++ own)
  pub blank : All is_blank blanks
  pub stands : From s e q blanks

-- the bytes of a mark up to a place, and those that may stand there
pub data MarkBefore : List ℕ → List ℕ → Type 0 where
  and_next : MarkBefore (91 ∷ []) (38 ∷ [])
  letter_next : MarkBefore (91 ∷ 38 ∷ []) (85 ∷ 82 ∷ [])
  close_next_u : MarkBefore (91 ∷ 38 ∷ 85 ∷ []) (93 ∷ [])
  close_next_r : MarkBefore (91 ∷ 38 ∷ 82 ∷ []) (93 ∷ [])

-- line 1, in the tree from p on: a mark goes wrong at q; or q is the end or no blank, and no node begins there where one has to, or no token that may stand there
pub data WrongTokenAt (s : List ℕ) (p q : ℕ) : Type 0 where
  in_mark : {y next : List ℕ} (x : List ℕ) → All is_blank x → MarkBefore y next → From s p q (x ++ y) → member (byte_at s q) next ≡ false → WrongTokenAt s p q
  no_node : {w : Place} {k : ℕ} {seen : List ℕ} (N : AtNode s p q w k seen) → is_blank (byte_at s q) ≡ false → is_digit (byte_at s q) ≡ false → (byte_at s q ≡ 40 → ⊥)
      → (N.text ≡ [] → byte_at s q ≡ 91 → ⊥) → WrongTokenAt s p q
  no_token : (A : AtToken s p q) → is_blank (byte_at s q) ≡ false → (MayFollow A.begins A.a (byte_at s q) → ⊥) → WrongTokenAt s p q

-- line 1 behind the `;` of a text with one tree: q is a byte behind blanks, and none itself
pub record MoreBehindAt (s : List ℕ) (q : ℕ) : Type 0 where
  pub text : List ℕ
  pub blanks : List ℕ
  pub t : Kinded
  pub tree : TreeText t text
  pub blank : All is_blank blanks
  pub stands : From s 0 q (text ++ blanks)
  pub in_text : q < length s
  pub solid : is_blank (byte_at s q) ≡ false

-- line 10 in a text with one tree: q is the `;` of a tree of a kind that is not taken
pub record NotTakenAt (takes : Takes) (s : List ℕ) (q : ℕ) : Type 0 where
  pub text : List ℕ
  pub t : Kinded
  pub tree : TreeText t text
  pub stands : From s 0 (q + 1) text
  pub differs : Taken takes t.kind → ⊥

-- line 1: the text ends too soon; or at q stands a byte, no blank or inside a mark, that the rules can't have there: no text begins with the bytes up to and with it
pub data WrongAt (Text : List ℕ → Type 0) (s : List ℕ) (q : ℕ) : Type 0 where
  too_soon : q ≡ length s → (Text s → ⊥) → WrongAt Text s q
  wrong_byte : q < length s → (is_blank (byte_at s q) ≡ false) ⊎ InMark s q → ((w : List ℕ) → Text (take (q + 1) s ++ w) → ⊥) → WrongAt Text s q

-- line 2, in the tree from p on: a label begins at q whose value is not 1 to 64
pub record BadLabelAt (s : List ℕ) (p q : ℕ) : Type 0 where
  pub w : Place
  pub k : ℕ
  pub seen : List ℕ
  pub node : AtNode s p q w k seen
  pub digit : is_digit (byte_at s q) ≡ true
  pub bad : bad_label (value s q) ≡ true

-- line 3: a label begins at q that is allowed and already in this tree
pub record LabelAgainAt (s : List ℕ) (p q : ℕ) : Type 0 where
  pub w : Place
  pub k : ℕ
  pub seen : List ℕ
  pub node : AtNode s p q w k seen
  pub digit : is_digit (byte_at s q) ≡ true
  pub allowed : bad_label (value s q) ≡ false
  pub again : member (value s q) seen ≡ true

-- line 4: a bracket opens at q, where a node may begin while 63 are open
pub record TooDeepAt (s : List ℕ) (p q : ℕ) : Type 0 where
  pub w : Place
  pub seen : List ℕ
  pub node : AtNode s p q w max_open seen
  pub bracket : byte_at s q ≡ 40

-- x is like the first of the trees xs; where there is none, it is of a kind that is taken
unfoldable pub LikeFirst : Takes → List Kinded → Kinded → Type 0
LikeFirst takes [] x = Taken takes x.kind
LikeFirst takes (first ∷ xs) x = LikeIt first x

-- a table's text up to a place behind the trees xs, at most 160 and all like the first, which is of a kind that is taken
pub data TreesBefore (takes : Takes) : List ℕ → List Kinded → Type 0 where
  without_tree : TreesBefore takes [] []
  behind_tree : {x y : List ℕ} {xs : List Kinded} {t : Kinded} → TreesBefore takes x xs → length xs < max_trees → TreeText t y → LikeFirst takes xs t → TreesBefore takes (x ++ y) (xs ++ (t ∷ []))

-- lines 1 to 4 in a table: behind fewer than 160 trees, the line is met in the tree from p on
pub record InTreeAt (takes : Takes) (s : List ℕ) (Met : ℕ → Type 0) : Type 0 where
  pub text : List ℕ
  pub xs : List Kinded
  pub p : ℕ
  pub before : TreesBefore takes text xs
  pub few : length xs < max_trees
  pub stands : From s 0 p text
  pub met : Met p

-- behind fewer than 160 trees stands the tree t, and q is its `;`
pub record TreeEndsAt (takes : Takes) (s : List ℕ) (q : ℕ) : Type 0 where
  pub text : List ℕ
  pub xs : List Kinded
  pub own : List ℕ
  pub t : Kinded
  pub before : TreesBefore takes text xs
  pub few : length xs < max_trees
  pub tree : TreeText t own
  pub stands : From s 0 (q + 1) (text ++ own)

-- the kind of t is that of the first of the trees xs; where there is none, it is taken
unfoldable pub KindOfFirst : Takes → List Kinded → Kinded → Type 0
KindOfFirst takes [] t = Taken takes t.kind
KindOfFirst takes (first ∷ xs) t = first.kind ≡ t.kind

-- line 10: its kind differs from the first tree's, or is not taken
pub record OtherKindAt (takes : Takes) (s : List ℕ) (q : ℕ) : Type 0 where
  pub ends : TreeEndsAt takes s q
  pub differs : KindOfFirst takes ends.xs ends.t → ⊥

-- line 5, behind line 10: its labels differ from the first tree's
pub record OtherLabelsAt (takes : Takes) (s : List ℕ) (q : ℕ) : Type 0 where
  pub ends : TreeEndsAt takes s q
  pub kind : KindOfFirst takes ends.xs ends.t
  pub differs : LikeFirst takes ends.xs ends.t → ⊥

-- line 6: behind 160 trees and blanks, q is a byte that is no blank
pub record OneMoreAt (takes : Takes) (s : List ℕ) (q : ℕ) : Type 0 where
  pub text : List ℕ
  pub blanks : List ℕ
  pub xs : List Kinded
  pub before : TreesBefore takes text xs
  pub full : length xs ≡ max_trees
  pub blank : All is_blank blanks
  pub stands : From s 0 q (text ++ blanks)
  pub in_text : q < length s
  pub solid : is_blank (byte_at s q) ≡ false
