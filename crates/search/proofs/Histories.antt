-- What holds of the levels. Assumes nothing.
use Rattle.std.proofs.Common.{◌≡◌, ℕ, ◌+◌, ◌*◌, ◌<◌, ◌≤◌, Bool, false, ◌≢◌, List, [], ◌∷◌, ◌++◌, length, get_or, take, set, replicate, Some, None, Option, sym, refl, ◌∙◌, subst, ⊎_elim, mul-le-mul_right, arith}
use Rattle.std.proofs.lemmas.Bool.{cases_lt}
use Rattle.std.proofs.lemmas.List.{get_or_past, get_or-set_same, get_or-set_other, length_push, length-take, length-replicate}
use Rattle.lengths.specs.Laws.{JoinLaws, OrderLaws}
use Rattle.search.specs.declared.Edge.{Edge}
use Rattle.search.specs.Terms.{begins, ends, lasts, Within, EdgeChain, total, LeastStarts}
use Rattle.search.specs.Levels.{Came, Level, History, first, later, Marked}
use Rattle.search.proofs.Order.{right, le_le}
use Rattle.search.proofs.Chains.{chain_join, total_join}
use Rattle.search.proofs.Bounds.{least_along}
use Rattle.search.proofs.Stepping.{risen}

module _ {L : Type 0} {neutral : L} {joined : L → L → L} {below : L → L → Bool} (es : List (Edge L)) (vias : List (List (Option ℕ))) where
  -- a row that is written past the levels
  pub history_set : (n : ℕ) (row : List (Option ℕ)) {k : ℕ} {b : List L} → k ≤ n → History neutral joined below es vias k b → History neutral joined below es (set vias n row) k b
  history_set n row h (first e m z) = first e m z
  history_set n row h (later i a top e p l) =
      let ne : i ≢ n = omega arith in
      later i a top e (history_set n row (omega arith) p) (rw (get_or-set_other vias n i row [] ne) l)

  pub history_many : {k : ℕ} {b : List L} → History neutral joined below es vias k b → length b ≡ 64
  history_many (first e m z) = m
  history_many (later i a top e p l) = l.many

  -- one level more, in the row where it is written
  pub history_more : (k : ℕ) (a b : List L) (row : List (Option ℕ)) (top : Option ℕ) → k < length vias → History neutral joined below es vias k a → Level neutral joined below es (length es) a b row top → History neutral joined below es (set vias k row) (k + 1) b
  history_more k a b row top h p l =
      later k a top refl (history_set k row (omega arith) p) (rw (get_or-set_same vias k row [] h) l)

module _ {L : Type 0} {neutral : L} {joined : L → L → L} {opposite : L → L} {size : L → ℕ} {below : L → L → Bool} (j : JoinLaws neutral joined opposite size) (o : OrderLaws joined below) (es : List (Edge L)) (vias : List (List (Option ℕ))) where
  pub history_floor : {k : ℕ} {b : List L} → History neutral joined below es vias k b → (y : ℕ) → y < 64 → below (get_or b y neutral) neutral ≡ false
  history_floor (first e m z) y h = rw (z y h) (o.irreflexive neutral)
  history_floor (later i a top e p l) y h =
      le_le o _ _ _ (history_floor p y h) (risen neutral o es a y _ _ (l.came y h))

  module _ (largest : ℕ) (w : Within 64 es) (room : (i : ℕ) → i < length es → 64 * size (lasts neutral es i) ≤ largest) where
    sized_came : (a : List L) (k : ℕ) → ((y : ℕ) → y < 64 → 64 * size (get_or a y neutral) ≤ k * largest) → (y : ℕ) → y < 64 → (x : L) (v : Option ℕ) → Came neutral joined below es a y x v → 64 * size x ≤ (k + 1) * largest
    sized_came a k h y yh x None p = rw p (omega (arith, h y yh))
    sized_came a k h y yh x (Some e) p =
        rw p.2 (omega (arith, h (begins es e) (w e p.0).0, room e p.0, j.size_joined (get_or a (begins es e) neutral) (lasts neutral es e)))

    pub history_sized : {k : ℕ} {b : List L} → History neutral joined below es vias k b → (y : ℕ) → y < 64 → 64 * size (get_or b y neutral) ≤ k * largest
    history_sized (first e m z) y h = rw (z y h, j.size_neutral) (omega arith)
    history_sized (later i a top e p l) y h = rw e (sized_came a i (history_sized p) y h _ _ (l.came y h))

    pub history_room : {k : ℕ} {b : List L} → k < 64 → History neutral joined below es vias k b → (i : ℕ) → i < length es → size (get_or b (begins es i) neutral) + size (lasts neutral es i) ≤ largest
    history_room {k} {b} k_small p i h =
        let s = history_sized p (begins es i) (w i h).0 in
        let r = room i h in
        let m : k * largest ≤ 63 * largest = (let t : k ≤ 63 = omega arith in mul-le-mul_right largest t) in
        omega arith

  module _ (nodes : ℕ) (w : Within nodes es) (few : nodes ≤ 64) where
    -- no edge leads past the nodes
    past_came : (a : List L) (y : ℕ) → nodes ≤ y → get_or a y neutral ≡ neutral → (x : L) (v : Option ℕ) → Came neutral joined below es a y x v → x ≡ neutral
    past_came a y h n x None p = p ∙ n
    past_came a y h n x (Some e) p = absurd (let q = (w e p.0).1 in let at = p.1 in omega arith)

    past_below : {k : ℕ} {b : List L} → History neutral joined below es vias k b → (y : ℕ) → nodes ≤ y → y < 64 → get_or b y neutral ≡ neutral
    past_below (first e m z) y h s = z y s
    past_below (later i a top e p l) y h s = past_came a y h (past_below p y h s) _ _ (l.came y s)

    pub history_past : {k : ℕ} {b : List L} → History neutral joined below es vias k b → (y : ℕ) → nodes ≤ y → get_or b y neutral ≡ neutral
    history_past {k} {b} p y h =
        ⊎_elim (λ s. past_below p y h s) (λ s. get_or_past b y neutral (let m = history_many es vias p in omega arith)) (cases_lt y 64)

    abbrev pub Reached : ℕ → ℕ → L → Type 0
    Reached k y x = (a : ℕ) × (c : List ℕ) × (a < nodes) × (length c ≤ k) × EdgeChain es a c y × (total neutral joined es c ≡ x)

    reached_came : (a : List L) (k : ℕ) → ((y : ℕ) → y < nodes → Reached k y (get_or a y neutral)) → (y : ℕ) → y < nodes → (x : L) (v : Option ℕ) → Came neutral joined below es a y x v → Reached (k + 1) y x
    reached_came a k h y yh x None p =
        let q = h y yh in
        (q.0, q.1, q.2, (let m = q.3 in omega arith), q.4, (q.5 ∙ sym p))
    reached_came a k h y yh x (Some e) p =
        let q = h (begins es e) (w e p.0).0 in
        let m = q.3 in
        (q.0, (q.1 ++ (e ∷ [])), q.2, (rw length_push (omega arith)), (subst (EdgeChain es q.0 (q.1 ++ (e ∷ []))) p.1 (chain_join es q.1 (e ∷ []) q.0 (begins es e) (ends es e) q.4 (p.0, refl, refl))), (total_join j es q.1 (e ∷ []) ∙ (λ t. joined (q.5 t) (right j (lasts neutral es e) t)) ∙ sym p.2))

    pub history_reached : {k : ℕ} {b : List L} → History neutral joined below es vias k b → (y : ℕ) → y < nodes → Reached k y (get_or b y neutral)
    history_reached (first e m z) y h = (y, [], h, (omega arith), refl, sym (z y (omega arith)))
    history_reached (later i a top e p l) y h = rw e (reached_came a i (history_reached p) y h _ _ (l.came y (omega arith)))

    -- a level that raises nothing keeps every edge
    pub settled : (a b : List L) (via : List (Option ℕ)) → Level neutral joined below es (length es) a b via None → (i : ℕ) → i < length es → below (get_or a (ends es i) neutral) (joined (get_or a (begins es i) neutral) (lasts neutral es i)) ≡ false
    settled a b via l i h =
        let y_in : ends es i < 64 = (let k = (w i h).1 in omega arith) in
        let came = l.came (ends es i) y_in in
        let none = l.most (ends es i) y_in in
        let same : get_or b (ends es i) neutral ≡ get_or a (ends es i) neutral = rw none at came in
        rw same at (l.kept i h)

    pub history_least : {k : ℕ} {a : List L} (b : List L) (via : List (Option ℕ)) → k < 64 → History neutral joined below es vias k a → Level neutral joined below es (length es) a b via None → LeastStarts neutral joined below nodes es a
    history_least b via k_small p l = record {
      kept = settled _ b via l;
      floor = λ y h. history_floor p y (omega arith);
      reached = λ y h. let q = history_reached p y h in let m = q.3 in (q.0, q.1, q.2, (omega arith), q.4, q.5);
      least = λ other kept floored y h. let q = history_reached p y h in let z = least_along j o es other kept q.0 q.1 y q.4 (floored q.0 q.2) in rw q.5 at z;
    }

pub wider : {L : Type 0} (es : List (Edge L)) (n m : ℕ) → n ≤ m → Within n es → Within m es
wider es n m h w i k = let p = (w i k).0 in let q = (w i k).1 in (omega arith, omega arith)

-- the row that is written at k marks the node y of the level after
pub marked_next : (vias : List (List (Option ℕ))) (k y : ℕ) (row : List (Option ℕ)) → k < length vias → (e : ℕ) × (get_or row y None ≡ Some e) → Marked (set vias k row) (k + 1) y
marked_next vias k y row h p j e =
    let same : j ≡ k = omega arith in
    rw (same, get_or-set_same vias k row [] h) p

-- a node that was raised is the end of an edge
module _ {L : Type 0} (neutral : L) (joined : L → L → L) (below : L → L → Bool) (es : List (Edge L)) (a : List L) where
  pub came_by : (y e : ℕ) (x : L) (v : Option ℕ) → v ≡ Some e → Came neutral joined below es a y x v → Came neutral joined below es a y x (Some e)
  came_by y e x v q p = rw q at p

  pub raised_node : (nodes : ℕ) (w : Within nodes es) (b : List L) (via : List (Option ℕ)) (y : ℕ) → Level neutral joined below es (length es) a b via (Some y) → y < nodes
  raised_node nodes w b via y l =
      let top = l.most in
      let p = came_by y top.1.0 _ _ top.1.1 (l.came y top.0) in
      let at = p.1 in
      let in' = (w top.1.0 p.0).1 in
      omega arith

-- the row that is written next is one of those
pub row_in : {X : Type 0} (rows : List X) (n k : ℕ) (row : X) → length rows ≡ length (take n (replicate 64 row)) → k < length (take n (replicate 64 row)) → (k < length rows) × (k < 64)
row_in rows n k row e t = (omega arith, omega (arith, length-take n (replicate 64 row), length-replicate 64 row))
