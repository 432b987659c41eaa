-- Orders by two lengths in turn: by one, and where that is the same by another. Assumes nothing.
use Rattle.std.specs.Prelude.{◌≡◌, Bool, true, false, cond, ◌⊎◌, ◌+ℤ◌, int_lt, refl}
use Rattle.std.proofs.Common.{arith, sym, ap, ◌∙◌}
use Rattle.std.proofs.Math.Logic.{inl, inr, ⊎_elim}
use Rattle.std.proofs.lemmas.Int.{ints}
use Rattle.std.proofs.lemmas.Bool.{both_ways, false≢true, true≢false}
use Rattle.lengths.specs.Laws.{OrderLaws}
use Rattle.lengths.specs.Models.{more_pair, below_pair}

parts : (a b c : Bool) → cond a true (cond b false c) ≡ true → (a ≡ true) ⊎ ((a ≡ false) × (b ≡ false) × (c ≡ true))
parts true b c p = inl refl
parts false true c p = absurd (false≢true p)
parts false false c p = inr (refl, refl, p)

parts_not : (a b c : Bool) → cond a true (cond b false c) ≡ false → (a ≡ false) × ((b ≡ true) ⊎ ((b ≡ false) × (c ≡ false)))
parts_not true b c p = absurd (true≢false p)
parts_not false true c p = (refl, inl refl)
parts_not false false c p = (refl, inr (refl, p))

module _ {L A B : Type 0} (first : L → A) (second : L → B) (alike : (x y : L) → first x ≡ first y → second x ≡ second y → x ≡ y)
    {joined : L → L → L} {add : A → A → A} {add' : B → B → B} (first_joined : (x y : L) → first (joined x y) ≡ add (first x) (first y)) (second_joined : (x y : L) → second (joined x y) ≡ add' (second x) (second y))
    {below : A → A → Bool} {below' : B → B → Bool} (o : OrderLaws add below) (o' : OrderLaws add' below') where
  abbrev pub in_turn : L → L → Bool
  in_turn x y = cond (below (first x) (first y)) true (cond (below (first y) (first x)) false (below' (second x) (second y)))

  Seen : L → L → Type 0
  Seen x y = (below (first x) (first y) ≡ true) ⊎ ((first x ≡ first y) × (below' (second x) (second y) ≡ true))

  see : (x y : L) → in_turn x y ≡ true → Seen x y
  unfolding Seen
  see x y p = ⊎_elim inl (λ q. inr (o.total _ _ q.0 q.1, q.2)) (parts _ _ _ p)

  made : (x y : L) → Seen x y → in_turn x y ≡ true
  unfolding Seen
  made x y s =
      ⊎_elim
      (λ p. rw p)
      (λ q. let e = q.0 in let lt = q.1 in let a : below (first x) (first y) ≡ false = rw e (o.irreflexive _) in let b : below (first y) (first x) ≡ false = rw e (o.irreflexive _) in rw (a, b, lt))
      s

  trans : (x y z : L) → Seen x y → Seen y z → Seen x z
  unfolding Seen
  trans x y z (inl p) (inl q) = inl (o.transitive _ _ _ p q)
  trans x y z (inl p) (inr q) = inl (rw q.0 at p)
  trans x y z (inr p) (inl q) = inl (rw p.0 q)
  trans x y z (inr p) (inr q) = inr (p.0 ∙ q.0, o'.transitive _ _ _ p.1 q.1)

  stays : (x y z : L) → Seen x y → Seen (joined x z) (joined y z)
  unfolding Seen
  stays x y z (inl p) = inl (rw (first_joined x z, first_joined y z) (o.kept _ _ (first z) p))
  stays x y z (inr p) = inr (first_joined x z ∙ ap (λ l. add l (first z)) p.0 ∙ sym (first_joined y z), rw (second_joined x z, second_joined y z) (o'.kept _ _ (second z) p.1))

  -- It keeps the laws that both keep.
  pub turn_order : OrderLaws joined in_turn
  turn_order = record {
    irreflexive = λ x. rw (o.irreflexive (first x), o'.irreflexive (second x));
    transitive = λ x y z p q. made x z (trans x y z (see x y p) (see y z q));
    total = λ x y p q.
        let a = parts_not _ _ _ p in
        let b = parts_not _ _ _ q in
        ⊎_elim
        (λ t. absurd (both_ways _ b.0 t))
        (λ u. ⊎_elim (λ t. absurd (both_ways _ a.0 t)) (λ v. alike x y (o.total _ _ a.0 b.0) (o'.total _ _ u.1 v.1)) b.1)
        a.1;
    kept = λ x y z p. made _ _ (stays x y z (see x y p));
  }

pub both : {L : Type 0} {a b c d : L} → a ≡ c → b ≡ d → ◌≡◌ {A = L × L} (a, b) (c, d)
both p q = cc

-- Pairs, by their first length and then by their second.
pub pair_turns : {L : Type 0} {joined : L → L → L} {below : L → L → Bool} → OrderLaws joined below → OrderLaws (more_pair joined) (below_pair below)
pair_turns o = turn_order (λ x. x.0) (λ x. x.1) (λ x y p q. both p q) (λ x y. refl) (λ x y. refl) o o

-- Numbers, and so pairs of numbers.
pub number_below : OrderLaws ◌+ℤ◌ int_lt
number_below = record {
  irreflexive = λ x. grind (arith, ints);
  transitive = λ x y z p q. grind (arith, ints);
  total = λ x y p q. grind (arith, ints);
  kept = λ x y z p. grind (arith, ints);
}

pub number_pairs_below : OrderLaws (more_pair ◌+ℤ◌) (below_pair int_lt)
number_pairs_below = pair_turns number_below
