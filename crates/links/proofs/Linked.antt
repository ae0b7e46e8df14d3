-- Links of first positions, and of all positions by their firsts.
-- Assumes nothing.
use mathlib.Core.Path.{◌≡◌, refl, sym, ap₂, subst, ◌∙◌}
use mathlib.Core.Logic.{◌↔◌, ◌≢◌, ◌⊎◌, inl, inr}
use mathlib.Core.Bool.{Bool, true, false}
use mathlib.Core.List.{List}
use Prim.Native.Nat.{ℕ, min, max, ◌<◌}
use native.Mathlib.Omega.{arith}
use native.Mathlib.Decide.{ℕ_discrete}
use borrow.Author.Tests.{eq-eqb, ne_eqb}
use lib.ListN.{length, get_or}
use Rattle.meaning.specs.Tree.{Tree as Topology, AllGood}
use Rattle.meaning.specs.Listing.{At, tree_of}
use Rattle.meaning.specs.Copies.{first_of, merged, LinkedBy}
use Rattle.std.proofs.lemmas.Bool.{false≢true}
use Rattle.meaning.proofs.Copies.{first-inside, first-own, OnTopologies, moves-on, interchanges-on, ordered-related, of_two, ordered-less}
use Rattle.lent.specs.Runs.{Says}
use Rattle.held.specs.Kept.{Keeps, held_at}
use Rattle.held.specs.declared.Table.{Table}
use Rattle.held.specs.declared.Tree.{Tree as Record}
use Rattle.held.proofs.Kept.{keeps-good}
use Rattle.unrooted.proofs.Apart.{unrooted-moves-on}
use Rattle.meaning.specs.Interchange.{OneInterchange}
use Rattle.links.specs.Link.{Linked, Respun}
use Rattle.links.specs.declared.Link.{Link}
use Rattle.links.specs.declared.Link.TheVariants.{Move, UnrootedMove, Interchange}
use Rattle.sharing.specs.Links.{is_linked, LinkedIn, NoneLinked, Shows}
use Rattle.sharing.specs.Firsts.{FirstsNoted}
use Rattle.links.specs.Copies.{link_of, FirstsRoom, FirstsLinked, TriedLinked, TreesLinked, CopyRoom}
use Rattle.links.specs.Tested.{IsFirst, Flag, Tested}
use Rattle.links.specs.declared.Copies.{Copies}
use Rattle.links.specs.declared.Copies.TheVariants.{Merged, KeptApart}

-- each link hangs on topologies
pub link_on : (by : Link) → OnTopologies (Linked by)
link_on Move = moves-on
link_on UnrootedMove = unrooted-moves-on
link_on Interchange = interchanges-on

-- ---- the flag of two firsts
module _ (links : List (List Bool)) (a b : ℕ) where
  link-other : a ≢ b → link_of links a b ≡ is_linked links (min a b) (max a b)
  link-other n = rw (ne_eqb a b n)

  link-same : a ≡ b → false ≡ link_of links a b
  link-same e = rw (eq-eqb a b e)

-- ---- which first positions are linked
-- those that were, and those whose trees R links, where the test's answers tell of R
pub tested-linked : {Answers : Record → Record → Bool → Type 0} (R : Topology → Topology → Type 0) {table : Table} {firsts : List ℕ} (links links' : List (List Bool))
    → ((a b : Record) (r : Bool) → Answers a b r → (t u : Topology) → Keeps a t → Keeps b u → Says r (R t u)) → FirstsNoted table firsts
    → Tested Answers table firsts links links' → TriedLinked R table links links'
tested-linked {Answers} R {table} {firsts} links links' tells noted tested ts h i j lt l = (λ x. to (F.linked x), λ y. from y (is_linked links' i j) refl)
  where
    i-in : i < length ts
    i-in = omega arith

    F : Flag Answers table firsts links i j (is_linked links' i j)
    F = tested i j lt (omega (arith, h.count))

    told : (r : Bool) → Answers (held_at table i) (held_at table j) r → Says r (R (tree_of ts i) (tree_of ts j))
    told r x = tells (held_at table i) (held_at table j) r x (tree_of ts i) (tree_of ts j) (h.each i i-in) (h.each j l)

    to : LinkedIn links i j ⊎ (IsFirst firsts i × IsFirst firsts j × Answers (held_at table i) (held_at table j) true) → LinkedIn links i j ⊎ LinkedBy merged R ts i j
    to (inl x) = inl x
    to (inr (f, g, x)) = inr (sym (noted ts h i i-in) ∙ f, sym (noted ts h j l) ∙ g, told true x)

    from : LinkedIn links i j ⊎ LinkedBy merged R ts i j → (v : Bool) → is_linked links' i j ≡ v → LinkedIn links' i j
    from _ true e = e
    from (inl x) false e = absurd (false≢true (sym (F.others e).0 ∙ x))
    from (inr (f, g, r)) false e = absurd (told false ((F.others e).1 (noted ts h i i-in ∙ f) (noted ts h j l ∙ g)) r)

-- ---- the links of first positions
module _ {table : Table} (links links' : List (List Bool)) where
  -- those that pass for an interchange, where none were linked
  pub interchanges-linked : NoneLinked links → TriedLinked OneInterchange table links links' → FirstsLinked Interchange table links'
  interchanges-linked none tried ts h i j lt l = (λ x. only ((tried ts h i j lt l).0 x), λ y. (tried ts h i j lt l).1 (inr y))
    where
      only : {P : Type 0} → LinkedIn links i j ⊎ P → P
      only (inl e) = absurd (false≢true (sym (none i j) ∙ e))
      only (inr p) = p

  -- those that differ by the place of the root, and those that were linked by a move
  pub unrooted-linked : FirstsLinked Move table links → TriedLinked Respun table links links' → FirstsLinked UnrootedMove table links'
  unrooted-linked moves tried ts h i j lt l = (λ x. to ((tried ts h i j lt l).0 x), λ y. (tried ts h i j lt l).1 (from y))
    where
      to : LinkedIn links i j ⊎ LinkedBy merged Respun ts i j → LinkedBy merged (Linked UnrootedMove) ts i j
      to (inl x) = let (f, g, a) = (moves ts h i j lt l).0 x in (f, g, inl a)
      to (inr (f, g, r)) = (f, g, inr r)

      from : LinkedBy merged (Linked UnrootedMove) ts i j → LinkedIn links i j ⊎ LinkedBy merged Respun ts i j
      from (f, g, inl a) = inl ((moves ts h i j lt l).1 (f, g, a))
      from (f, g, inr r) = inr (f, g, r)

-- ---- which positions are
-- all are linked as their firsts are
pub copied-iff : (by : Link) (ts : List Topology) → AllGood ts → (links : List (List Bool)) → Shows links (length ts) (LinkedBy merged (Linked by) ts)
    → (i j : ℕ) → i < length ts → j < length ts → (link_of links (first_of ts i) (first_of ts j) ≡ true) ↔ At (Linked by) ts i j
copied-iff by ts G links shows i j h l = go (ℕ_discrete (first_of ts i) (first_of ts j))
  where
    related : At (Linked by) ts i j ↔ ((first_of ts i ≢ first_of ts j) × At (Linked by) ts (min (first_of ts i) (first_of ts j)) (max (first_of ts i) (first_of ts j)))
    related = ordered-related (link_on by) ts G i j h l

    go : Dec (first_of ts i ≡ first_of ts j) → (link_of links (first_of ts i) (first_of ts j) ≡ true) ↔ At (Linked by) ts i j
    go (yes e) = (λ f. absurd (false≢true (link-same links (first_of ts i) (first_of ts j) e ∙ f)), λ r. absurd ((related.0 r).0 e))
    go (no n) =
        let a = first_of ts i in
        let b = first_of ts j in
        let inside = of_two (λ x. x < length ts) a b (first-inside ts i h) (first-inside ts j l) in
        let own = of_two (λ x. first_of ts x ≡ x) a b (first-own ts i h) (first-own ts j l) in
        let shown = shows (min a b) (max a b) (ordered-less a b n) inside.1 in (
          λ f. related.1 (n, (shown.0 (sym (link-other links a b n) ∙ f)).2),
          λ r. link-other links a b n ∙ shown.1 (own.0, own.1, (related.0 r).1),
        )

-- ---- the links of a table
-- the room for the links of all positions
pub copy-room : {table : Table} {firsts : List ℕ} {links : List (List Bool)} → FirstsRoom table firsts links → CopyRoom firsts table.len links
copy-room f =
    let k = f.kept.keeps in
    record {
      few = omega (arith, k.count, k.few);
      lent = omega (arith, k.count, k.few, f.lent);
      below = λ i h.
          let inside : i < length f.kept.trees = omega (arith, k.count) in
          omega (arith, f.noted f.kept.trees k i inside, first-inside f.kept.trees i inside, k.few);
      square = f.square;
    }

module _ (by : Link) {table : Table} where
  -- first positions alone
  pub merged-linked : {copies : Copies} (links : List (List Bool)) → copies ≡ Merged → FirstsLinked by table links → TreesLinked by copies table links
  merged-linked links e w = subst (λ (c : Copies). TreesLinked by c table links) (sym e) w

  -- all positions, by their firsts
  pub kept-linked : {copies : Copies} (firsts : List ℕ) (linked links : List (List Bool)) → copies ≡ KeptApart → FirstsNoted table firsts → FirstsLinked by table linked
      → Shows links table.len (λ i j. link_of linked (get_or firsts i 0) (get_or firsts j 0) ≡ true) → TreesLinked by copies table links
  kept-linked firsts linked links e noted first all = subst (λ (c : Copies). TreesLinked by c table links) (sym e) each
    where
      each : TreesLinked by KeptApart table links
      each ts h i j lt l =
          let i-in : i < length ts = omega arith in
          let shown = all i j lt (omega (arith, h.count)) in
          let same = ap₂ (link_of linked) (noted ts h i i-in) (noted ts h j l) in
          let iff = copied-iff by ts (keeps-good h) linked (first ts h) i j i-in l in
          (λ x. iff.0 (sym same ∙ shown.0 x), λ r. shown.1 (same ∙ iff.1 r))
