-- The graph call with copies kept apart, and the interchange call, over one sample in two tables: the pairs and counts go with the trees.
-- Assumes nothing.
use mathlib.Core.Path.{◌≡◌, refl, sym, ap, subst, subst₂, ◌∙◌}
use mathlib.Core.List.{List, [], ◌∷◌}
use Prim.Native.Nat.{ℕ}
use lib.ListN.{length}
use Rattle.meaning.specs.Tree.{Tree}
use Rattle.meaning.specs.Interchange.{OneInterchange}
use Rattle.meaning.specs.Kind.{Kind, rooted, Kinded, Trees, as_trees, rooted_only}
use Rattle.meaning.specs.EitherKind.{ApartAs}
use Rattle.meaning.specs.Listing.{Pair, Listing, At}
use Rattle.meaning.specs.Copies.{Choice, kept_apart, LinkedBy}
use Rattle.meaning.specs.Answer.{accepted, Outcome, GraphSize, GraphMemory, FirstsMemory}
use Rattle.meaning.specs.Grammar.{AllAlike}
use Rattle.meaning.specs.Calls.{graph_read, firsts_read, InterchangeCall, ChoosingCall}
use Rattle.meaning.proofs.Calls.{tells-accepted, TableGiven, firsts-tells, graph-tells}
use Rattle.renaming.specs.Reordering.{SameSample}
use Rattle.renaming.specs.Outcomes.{SamePairs}
use Rattle.renaming.proofs.Sample.{OfTopologies, moves_so, interchanges-so, carried}
use Rattle.renaming.proofs.Outcomes.{has_listed, pairs-written}

-- a listing under another name of its kind and number
pub listing-as : (choice : Choice) (us : List Tree) {k k' : Kind} {n n' : ℕ} {qs : List Pair} → k' ≡ k → n' ≡ n → Listing n' (LinkedBy choice (ApartAs k') us) qs
    → Listing n (LinkedBy choice (ApartAs k) us) qs
listing-as choice us {qs} e m L = subst₂ (λ (j : Kind) (x : ℕ). Listing x (LinkedBy choice (ApartAs j) us) qs) e m L

-- one sample in two texts: the pairs that are one move apart, and the neighbour counts, go with the trees
pub sample-pairs : (s s' : List ℕ) (memory memory' : FirstsMemory) {table table' : Trees} → firsts_read s memory ≡ accepted table → firsts_read s' memory' ≡ accepted table'
    → {f : ℕ → ℕ} {order : List ℕ} → SameSample f order table table' → {o o' : Outcome GraphSize FirstsMemory} → ChoosingCall kept_apart s memory o → ChoosingCall kept_apart s' memory' o'
    → SamePairs order o.answer o'.answer o.memory.graph o'.memory.graph
sample-pairs s s' memory memory' {table} {table'} e e' {order} S c c' =
    let (ps, x, P) = has_listed e c in
    let (qs, y, Q) = has_listed e' c' in
    let C = carried S (tells-accepted (firsts-tells s memory) e).good (tells-accepted (firsts-tells s' memory') e').good (moves_so table.kind) in
    let M : Listing (length table.trees) (At (ApartAs table.kind) table'.trees) qs = listing-as kept_apart table'.trees S.kind S.as_many Q in
    rw (x, y) (pairs-written table.trees table'.trees S.as_many C P M memory.graph memory'.graph)

-- where only rooted trees are taken, they are rooted
listed-rooted : (xs : List Kinded) → AllAlike rooted_only xs → (as_trees xs).kind ≡ rooted
unfolding AllAlike
listed-rooted [] a = refl
listed-rooted (x ∷ xs) a = a.0

pub given-rooted : {s : List ℕ} {table : Trees} → TableGiven rooted_only s table → table.kind ≡ rooted
given-rooted g = ap (λ (x : Trees). x.kind) g.is ∙ listed-rooted g.listed g.text.alike

-- the pairs that are one interchange apart likewise
pub sample-interchanges : (s s' : List ℕ) (memory memory' : GraphMemory) {table table' : Trees} → graph_read s memory ≡ accepted table → graph_read s' memory' ≡ accepted table'
    → {f : ℕ → ℕ} {order : List ℕ} → SameSample f order table table' → {o o' : Outcome GraphSize GraphMemory} → InterchangeCall s memory o → InterchangeCall s' memory' o'
    → SamePairs order o.answer o'.answer o.memory o'.memory
sample-interchanges s s' memory memory' {table} {table'} e e' {order} S c c' =
    let k = given-rooted (tells-accepted (graph-tells s memory) e) in
    let (ps, x, P) = has_listed e c in
    let (qs, y, Q) = has_listed e' c' in
    let O = subst (λ (j : Kind). OfTopologies j OneInterchange) (sym k) interchanges-so in
    let C = carried S (tells-accepted (graph-tells s memory) e).good (tells-accepted (graph-tells s' memory') e').good O in
    let M : Listing (length table.trees) (At OneInterchange table'.trees) qs = subst (λ (n : ℕ). Listing n (At OneInterchange table'.trees) qs) S.as_many Q in
    rw (x, y) (pairs-written table.trees table'.trees S.as_many C P M memory memory')
