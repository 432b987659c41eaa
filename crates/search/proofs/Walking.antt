-- The walk back through the levels: what is walked is a chain that rises above every node it passes, so where it closes it is above neutral. Assumes nothing.
use Rattle.std.proofs.Common.{◌≡◌, ℕ, zero, suc, ◌+◌, ◌<◌, ◌≤◌, Bool, true, false, List, [], ◌∷◌, ◌++◌, map, length, get_or, take, Some, None, Option, sym, refl, ap, ◌∙◌, subst, arith}
use Rattle.std.specs.Prelude.{All}
use Rattle.std.proofs.Math.Seq.{take-append_seam}
use Rattle.std.proofs.lemmas.List.{length_push, get_or_push, get_or-take, take-take, length-map}
use Rattle.std.proofs.lemmas.Bool.{both_ways}
use Rattle.lengths.specs.Laws.{JoinLaws, OrderLaws}
use Rattle.search.specs.declared.Edge.{Edge}
use Rattle.search.specs.Terms.{begins, ends, lasts, Within, Searchable, EdgeChain, total}
use Rattle.handover.specs.Once.{Absent, Once}
use Rattle.search.specs.Levels.{Came, Level, History, first, later, Marked, Rising}
use Rattle.search.proofs.Order.{right, le_lt}
use Rattle.search.proofs.Stepping.{risen}
use Rattle.search.proofs.Histories.{came_by}
use Rattle.handover.proofs.Once.{Below, once_few}

-- Along c, from a length acc on, each node that is come to is come to above what b has for it.
abbrev pub Above : {L : Type 0} → L → (L → L → L) → (L → L → Bool) → List (Edge L) → List L → L → List ℕ → Type 0
Above neutral joined below es b acc [] = Unit {0}
Above neutral joined below es b acc (e ∷ c) = (below (get_or b (ends es e) neutral) (joined acc (lasts neutral es e)) ≡ true) × Above neutral joined below es b (joined acc (lasts neutral es e)) c

-- The walk has come back to the node x at level k, and c is what it has walked.
pub record Walk {L : Type 0} (neutral : L) (joined : L → L → L) (below : L → L → Bool) (es : List (Edge L)) (vias : List (List (Option ℕ))) (nodes k x : ℕ) (c : List ℕ) : Type 0 where
  pub b : List L
  pub levels : History neutral joined below es vias k b
  pub raised : Marked vias k x
  pub last : ℕ
  pub chain : EdgeChain es x c last
  pub above : Above neutral joined below es b (get_or b x neutral) c
  pub once : Once (map (ends es) c)
  pub node : x < nodes
  pub count : k + length c ≡ nodes

some_none : (i : ℕ) → ◌≡◌ {A = Option ℕ} (Some i) None → ⊥
some_none i h = let z : ◌≡◌ {A = ℕ} 0 1 = cc in omega arith

-- ---- lists
-- the last of the first rows, and those before it
pub last_row : {X : Type 0} (rows less all : List X) (row d : X) → rows ≡ less ++ (row ∷ []) → rows ≡ take (length rows) all → (less ≡ take (length less) all) × (row ≡ get_or all (length less) d) × (length rows ≡ length less + 1)
last_row rows less all row d p q =
    let long : length rows ≡ length less + 1 = ap length p ∙ length_push less row in
    let front = sym (take-append_seam less (row ∷ [])) ∙ ap (take (length less)) (sym p ∙ q) ∙ take-take (length less) (length rows) all (omega arith) in
    let back = sym (get_or_push less row d (length less) refl) ∙ ap (λ r. get_or r (length less) d) (sym p ∙ q) ∙ get_or-take (length rows) all (length less) d (omega arith) in
    (front, back, long)

pub absent_from : (f : ℕ → ℕ) (x : ℕ) (c : List ℕ) → ((m : ℕ) → m < length c → f (get_or c m 0) ≡ x → ⊥) → Absent x (map f c)
absent_from f x [] h = tt
absent_from f x (e ∷ c) h = ((λ s. h 0 (omega arith) (sym s)), absent_from f x c (λ m k s. h (suc m) (omega arith) s))

absent_take : (f : ℕ → ℕ) (x n : ℕ) (c : List ℕ) → Absent x (map f c) → Absent x (map f (take n c))
absent_take f x zero c p = tt
absent_take f x (suc n) [] p = tt
absent_take f x (suc n) (e ∷ c) p = (p.0, absent_take f x n c p.1)

once_take : (f : ℕ → ℕ) (n : ℕ) (c : List ℕ) → Once (map f c) → Once (map f (take n c))
once_take f zero c p = tt
once_take f (suc n) [] p = tt
once_take f (suc n) (e ∷ c) p = (absent_take f (f e) n c p.0, once_take f n c p.1)

-- ---- chains
module _ {L : Type 0} (es : List (Edge L)) where
  pub chain_in : (x : ℕ) (c : List ℕ) (last : ℕ) → EdgeChain es x c last → All (λ e. e < length es) c
  chain_in x [] last p m d h = absurd (let z : m < 0 = h in omega arith)
  chain_in x (e ∷ c) last p zero d h = p.0
  chain_in x (e ∷ c) last p (suc m) d h = chain_in (ends es e) c last p.2 m d (omega arith)

  chain_take : (x : ℕ) (c : List ℕ) (last m : ℕ) → EdgeChain es x c last → m < length c → EdgeChain es x (take (suc m) c) (ends es (get_or c m 0))
  chain_take x [] last m p h = absurd (let z : m < 0 = h in omega arith)
  chain_take x (e ∷ c) last zero p h = (p.0, p.1, refl)
  chain_take x (e ∷ c) last (suc m) p h = (p.0, p.1, chain_take (ends es e) c last m p.2 (omega arith))

  chain_under : (nodes : ℕ) → Within nodes es → (x : ℕ) (c : List ℕ) (last : ℕ) → EdgeChain es x c last → Below nodes (map (ends es) c)
  chain_under nodes w x [] last p = tt
  chain_under nodes w x (e ∷ c) last p = ((w e p.0).1, chain_under nodes w (ends es e) c last p.2)

module _ {L : Type 0} {neutral : L} {joined : L → L → L} {below : L → L → Bool} (es : List (Edge L)) (vias : List (List (Option ℕ))) where
  -- the level before
  back : {k : ℕ} {b : List L} → History neutral joined below es vias k b → (n : ℕ) → k ≡ n + 1 → (a : List L) × (top : Option ℕ) × History neutral joined below es vias n a × Level neutral joined below es (length es) a b (get_or vias n []) top
  back (first e m z) n h = absurd (omega arith)
  back (later i a top e p l) n h = let s : i ≡ n = omega arith in (a, top, (rw s at p), (rw s at l))

  pub walk_none : (nodes last : ℕ) → (b : List L) → History neutral joined below es vias nodes b → Marked vias nodes last → last < nodes → Walk neutral joined below es vias nodes nodes last []
  walk_none nodes last b p m h = record { b = b; levels = p; raised = m; last = last; chain = refl; above = tt; once = tt; node = h; count = omega arith }

  -- no walk is so long that it comes to no node twice
  pub walk_ends : (nodes : ℕ) → Within nodes es → (x : ℕ) (c : List ℕ) → Walk neutral joined below es vias nodes 0 x c → Absent x (map (ends es) c) → ⊥
  walk_ends nodes w x c p a =
      let few = once_few nodes (x ∷ map (ends es) c) (a, p.once) (p.node, chain_under es nodes w x c p.last p.chain) in
      let n = p.count in
      let l = length-map c (ends es) in
      omega arith

module _ {L : Type 0} {neutral : L} {joined : L → L → L} {opposite : L → L} {size : L → ℕ} {below : L → L → Bool} (j : JoinLaws neutral joined opposite size) (o : OrderLaws joined below) (es : List (Edge L)) where
  -- what raises a length is above neutral
  cancel : (x t : L) → below x (joined x t) ≡ true → below neutral t ≡ true
  cancel x t h =
      let k = o.kept x (joined x t) (opposite x) h in
      let u = j.undo x in
      let same : joined (joined x t) (opposite x) ≡ t = ap (λ s. joined s (opposite x)) (j.comm x t) ∙ j.assoc t x (opposite x) ∙ ap (joined t) u ∙ right j t in
      rw (u, same) at k

  above_take : (b : List L) (acc : L) (c : List ℕ) (m : ℕ) → Above neutral joined below es b acc c → m < length c → below (get_or b (ends es (get_or c m 0)) neutral) (joined acc (total neutral joined es (take (suc m) c))) ≡ true
  above_take b acc [] m p h = absurd (let z : m < 0 = h in omega arith)
  above_take b acc (e ∷ c) zero p h = rw (right j (lasts neutral es e)) p.0
  above_take b acc (e ∷ c) (suc m) p h =
      let q = above_take b (joined acc (lasts neutral es e)) c m p.1 (omega arith) in
      rw (j.assoc acc (lasts neutral es e) (total neutral joined es (take (suc m) c))) at q

  -- where the walk comes to a node again, what lies between is a circuit above neutral
  pub walk_closes : (vias : List (List (Option ℕ))) (nodes k x : ℕ) (c : List ℕ) (m : ℕ) → Walk neutral joined below es vias nodes k x c → m < length c → ends es (get_or c m 0) ≡ x → Rising neutral joined below es (take (suc m) c)
  walk_closes vias nodes k x c m p h e =
      let round = subst (EdgeChain es x (take (suc m) c)) e (chain_take es x c p.last m p.chain h) in
      let up = cancel (get_or p.b x neutral) (total neutral joined es (take (suc m) c)) (let q = above_take p.b _ c m p.above h in rw e at q) in
      record {
        closed = (x, round);
        once = once_take (ends es) (suc m) c p.once;
        above = up;
      }

  above_lower : (nodes : ℕ) → Within nodes es → (a b : List L) → ((y : ℕ) → y < nodes → below (get_or b y neutral) (get_or a y neutral) ≡ false) → (acc : L) (x : ℕ) (c : List ℕ) (last : ℕ) → EdgeChain es x c last → Above neutral joined below es b acc c → Above neutral joined below es a acc c
  above_lower nodes w a b lower acc x [] last p q = tt
  above_lower nodes w a b lower acc x (e ∷ c) last p q =
      (le_lt o _ _ _ (lower (ends es e) (w e p.0).1) q.0, above_lower nodes w a b lower (joined acc (lasts neutral es e)) (ends es e) c last p.2 q.1)

  -- a node from which a raise came was itself raised just before
  marked_by : (a a' : List L) (x e : ℕ) → below (get_or a x neutral) (joined (get_or a (begins es e) neutral) (lasts neutral es e)) ≡ true → below (get_or a x neutral) (joined (get_or a' (begins es e) neutral) (lasts neutral es e)) ≡ false → (v : Option ℕ) → Came neutral joined below es a' (begins es e) (get_or a (begins es e) neutral) v → (i : ℕ) × (v ≡ Some i)
  marked_by a a' x e rose kept None same = absurd (both_ways _ (rw (← same) at kept) rose)
  marked_by a a' x e rose kept (Some i) p = (i, refl)

  module _ (vias : List (List (Option ℕ))) (nodes : ℕ) (w : Within nodes es) (few : nodes ≤ 64) (k x : ℕ) (c : List ℕ) (p : Walk neutral joined below es vias nodes (k + 1) x c) (e : ℕ) (via : get_or (get_or vias k []) x None ≡ Some e) where
    abbrev q : (a : List L) × (top : Option ℕ) × History neutral joined below es vias k a × Level neutral joined below es (length es) a p.b (get_or vias k []) top
    q = back es vias p.levels k refl

    came_here : Came neutral joined below es q.0 x (get_or p.b x neutral) (Some e)
    came_here = came_by neutral joined below es q.0 x e _ _ via (q.3.came x (let n = p.node in omega arith))

    pub walk_edge : e < length es
    walk_edge = came_here.0

    up_here : below (get_or q.0 x neutral) (joined (get_or q.0 (begins es e) neutral) (lasts neutral es e)) ≡ true
    up_here = rw came_here.2 at came_here.3

    marked_here : Marked vias k (begins es e)
    marked_here n h =
        let r = back es vias q.2 n h in
        let in' : begins es e < 64 = (let z = (w e came_here.0).0 in omega arith) in
        let stays = r.3.kept e came_here.0 in
        marked_by q.0 r.0 x e up_here (rw came_here.1 at stays) _ (r.3.came (begins es e) in')

    pub walk_more : Absent x (map (ends es) c) → Walk neutral joined below es vias nodes k (begins es e) (e ∷ c)
    walk_more absent = record {
      b = q.0;
      levels = q.2;
      raised = marked_here;
      last = p.last;
      chain = (came_here.0, refl, (rw came_here.1 p.chain));
      above = (rw came_here.1 up_here, above_lower nodes w q.0 p.b (λ y h. risen neutral o es q.0 y _ _ (q.3.came y (omega arith))) _ x c p.last p.chain (rw (← came_here.2) p.above));
      once = (rw came_here.1 absent, p.once);
      node = (w e came_here.0).0;
      count = let n = p.count in omega arith;
    }

  -- one turn of the walk, at the last of the rows that are left
  module _ {largest nodes : ℕ} (s : Searchable neutral size largest nodes es) {vias rows : List (List (Option ℕ))} (less : List (List (Option ℕ))) (row : List (Option ℕ)) (push : rows ≡ less ++ (row ∷ [])) (front : rows ≡ take (length rows) vias) {x : ℕ} {c : List ℕ} (p : Walk neutral joined below es vias nodes (length rows) x c) where
    here : (less ≡ take (length less) vias) × (row ≡ get_or vias (length less) []) × (length rows ≡ length less + 1)
    here = last_row rows less vias row [] push front

    at_row : Walk neutral joined below es vias nodes (length less + 1) x c
    at_row = let P : ℕ → Type 0 = λ k. Walk neutral joined below es vias nodes k x c in subst P here.2 p

    -- the node came by an edge
    pub walk_marked : get_or row x None ≡ None → ⊥
    walk_marked h =
        let m = p.raised (length less) here.2 in some_none m.0 (sym m.1 ∙ rw (← here.1) h)

    -- there is room for one edge more
    pub walk_room : length c < 64
    walk_room = let n = p.count in let f = s.few in let l = here.2 in omega arith

    module _ {e : ℕ} (via : get_or row x None ≡ Some e) where
      via_here : get_or (get_or vias (length less) []) x None ≡ Some e
      via_here = rw (← here.1) via

      pub walk_known : e < length es
      walk_known = walk_edge vias nodes s.inside s.few (length less) x c at_row e via_here

      pub walk_next : Absent x (map (ends es) c) → {x' : ℕ} {c' : List ℕ} → x' ≡ begins es e → c' ≡ e ∷ c → Walk neutral joined below es vias nodes (length less) x' c'
      walk_next absent at is =
          rw (at, is) (walk_more vias nodes s.inside s.few (length less) x c at_row e via_here absent)
