-- The words of the search: edges, chains, joined lengths, least starts and circuits. Assumes nothing.
use Rattle.std.specs.Prelude.{◌≡◌, ℕ, ◌*◌, ◌<◌, ◌≤◌, Bool, true, false, List, [], ◌∷◌, map, length, slice_index, slice_index_or}
use Rattle.handover.specs.Once.{Once}
use Rattle.search.specs.declared.Edge.{Edge}

-- Where edge i begins, where it ends, and how long it is.
abbrev pub begins : {L : Type 0} → List (Edge L) → ℕ → ℕ
begins es i = slice_index (map (λ e. e.from) es) i

abbrev pub ends : {L : Type 0} → List (Edge L) → ℕ → ℕ
ends es i = slice_index (map (λ e. e.to) es) i

abbrev pub lasts : {L : Type 0} → L → List (Edge L) → ℕ → L
lasts neutral es i = slice_index_or (map (λ e. e.length) es) i neutral

-- Every edge joins two of the nodes.
abbrev pub Within : {L : Type 0} → ℕ → List (Edge L) → Type 0
Within nodes es = (i : ℕ) → i < length es → (begins es i < nodes) × (ends es i < nodes)

-- The edges can be searched: at most 64 nodes, every edge joins two of them, and 64 lengths of the size of any one can be joined.
pub record Searchable {L : Type 0} (neutral : L) (size : L → ℕ) (largest nodes : ℕ) (es : List (Edge L)) : Type 0 where
  pub few : nodes ≤ 64
  pub inside : Within nodes es
  pub room : (i : ℕ) → i < length es → 64 * size (lasts neutral es i) ≤ largest

-- EdgeChain es a c b: the edges of c, each beginning where the last ended, lead from the node a to the node b. The empty chain stays where it is.
abbrev pub EdgeChain : {L : Type 0} → List (Edge L) → ℕ → List ℕ → ℕ → Type 0
EdgeChain es a [] b = a ≡ b
EdgeChain es a (e ∷ c) b = (e < length es) × (begins es e ≡ a) × EdgeChain es (ends es e) c b

-- The joined length of the edges of c: neutral where there is none.
abbrev pub total : {L : Type 0} → L → (L → L → L) → List (Edge L) → List ℕ → L
total neutral joined es [] = neutral
total neutral joined es (e ∷ c) = joined (lasts neutral es e) (total neutral joined es c)

-- The starts keep every edge: each ends at least its length after it begins.
abbrev pub EdgesKept : {L : Type 0} → L → (L → L → L) → (L → L → Bool) → List (Edge L) → List L → Type 0
EdgesKept neutral joined below es starts = (i : ℕ) → i < length es → below (slice_index_or starts (ends es i) neutral) (joined (slice_index_or starts (begins es i) neutral) (lasts neutral es i)) ≡ false

-- No start is below neutral.
abbrev pub Floored : {L : Type 0} → L → (L → L → Bool) → ℕ → List L → Type 0
Floored neutral below nodes starts = (y : ℕ) → y < nodes → below (slice_index_or starts y neutral) neutral ≡ false

-- The least starts: they keep every edge and are at least neutral, each is the joined length of a chain of at most 63 edges that ends there, and no others that keep every edge and are at least neutral have a lower start.
pub record LeastStarts {L : Type 0} (neutral : L) (joined : L → L → L) (below : L → L → Bool) (nodes : ℕ) (es : List (Edge L)) (starts : List L) : Type 0 where
  pub kept : EdgesKept neutral joined below es starts
  pub floor : Floored neutral below nodes starts
  pub reached : (y : ℕ) → y < nodes → (a : ℕ) × (c : List ℕ) × (a < nodes) × (length c ≤ 63) × EdgeChain es a c y × (total neutral joined es c ≡ slice_index_or starts y neutral)
  pub least : (other : List L) → EdgesKept neutral joined below es other → Floored neutral below nodes other → (y : ℕ) → y < nodes → below (slice_index_or other y neutral) (slice_index_or starts y neutral) ≡ false

-- A circuit above neutral: a closed chain of edges from the lowest of its nodes, which ends at no node twice, and whose joined length is above neutral; so no starts keep every edge.
pub record EdgeCircuit {L : Type 0} (neutral : L) (joined : L → L → L) (below : L → L → Bool) (es : List (Edge L)) (c : List ℕ) : Type 0 where
  pub closed : (a : ℕ) × EdgeChain es a c a
  pub lowest : (t : ℕ) → t < length c → closed.0 ≤ begins es (slice_index c t)
  pub once : Once (map (ends es) c)
  pub above : below neutral (total neutral joined es c) ≡ true
  pub shut : (other : List L) → EdgesKept neutral joined below es other → ⊥
