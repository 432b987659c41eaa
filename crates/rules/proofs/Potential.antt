-- In a graph of n nodes with a list of its edges: the best paths are a potential, or there is a circuit above zero. Assumes nothing.
use Rattle.std.proofs.Common.{◌≡◌, ℕ, zero, suc, ◌<◌, ◌≤◌, ◌⊎◌, List, [], ◌∷◌, map, length, ℤ, pos, ◌+ℤ◌, ◌≤ℤ◌, ◌<ℤ◌, sym, refl, ap, ◌∙◌, subst, inl, inr, arith}
use lib.ListN.{length-map}
use lib.IntN.{+ℤ_assoc, +ℤ_idr}
use lib.Signed.{≤ℤ_refl}
use Rattle.std.proofs.lemmas.Bool.{cases_eq}
use Rattle.std.proofs.lemmas.Int.{ints, by_lt_z}
use Rattle.handover.specs.Once.{Absent, Once}
use Rattle.handover.proofs.Once.{Below, once_few}

module _ {E : Type 0} (H : E → Type 0) (from to : E → ℕ) (w : E → ℤ) where
  abbrev pub Path : ℕ → List E → ℕ → Type 0
  Path x [] y = x ≡ y
  Path x (s ∷ c) y = H s × (from s ≡ x) × Path (to s) c y

  abbrev pub sum : List E → ℤ
  sum [] = pos 0
  sum (s ∷ c) = w s +ℤ sum c

  -- a closed path above zero that comes to no node twice
  pub record Bad : Type 0 where
    pub at : ℕ
    pub round : List E
    pub closed : Path at round at
    pub once : Once (map to round)
    pub above : pos 0 <ℤ sum round

  -- a path cut where it first comes to z
  record Cut (z x : ℕ) (r : List E) (y : ℕ) : Type 0 where
    front : List E
    rest : List E
    first : Path x front z
    then : Path z rest y
    shorter : length rest < length r
    sums : sum r ≡ sum front +ℤ sum rest
    once : Once (map to r) → Once (map to front)
    absent : (q : ℕ) → Absent q (map to r) → Absent q (map to front)

  cut : (z x : ℕ) (r : List E) (y : ℕ) → Path x r y → Absent z (map to r) ⊎ Cut z x r y
  cut z x [] y p = inl tt
  cut z x (s ∷ r) y (h, e, p) =
      elim (cases_eq (to s) z) [
        | inl here ↦ inr (record {
          front = s ∷ [];
          rest = r;
          first = (h, e, here);
          then = subst (λ k. Path k r y) here p;
          shorter = omega arith;
          sums = ap (λ k. k +ℤ sum r) (sym (+ℤ_idr (w s)));
          once = λ o. (tt, tt);
          absent = λ q a. (a.0, tt);
        })
        | inr ne ↦
            elim (cut z (to s) r y p) [
              | inl a ↦ inl (λ f. ne (sym f), a)
              | inr f ↦ inr (record {
                front = s ∷ f.front;
                rest = f.rest;
                first = (h, e, f.first);
                then = f.then;
                shorter = omega (arith, f.shorter);
                sums = ap (λ k. w s +ℤ k) f.sums ∙ sym (+ℤ_assoc (w s) (sum f.front) (sum f.rest));
                once = λ o. (f.absent (to s) o.0, f.once o.1);
                absent = λ q a. (a.0, f.absent q a.1);
              })
            ]
      ]

  -- a path that is shorter and no less
  record Better (x : ℕ) (d : List E) (y : ℕ) : Type 0 where
    path : List E
    leads : Path x path y
    shorter : length path < length d
    no_less : sum d ≤ℤ sum path

  reduce : (d : List E) (x y : ℕ) → Path x d y → Once (map to d) ⊎ (Bad ⊎ Better x d y)
  reduce [] x y p = inl tt
  reduce (s ∷ r) x y (h, e, p) =
      elim (reduce r (to s) y p) [
        | inl once ↦
            elim (cut (to s) (to s) r y p) [
              | inl a ↦ inl (a, once)
              | inr f ↦
                  by_lt_z (pos 0) (sum f.front)
                  (λ above. inr (inl (record { at = to s; round = f.front; closed = f.first; once = f.once once; above = above })))
                  (λ low. inr (inr (record { path = s ∷ f.rest; leads = (h, e, f.then); shorter = omega (arith, f.shorter); no_less = let q = f.sums in omega (arith, ints) })))
            ]
        | inr (inl bad) ↦ inr (inl bad)
        | inr (inr b) ↦ inr (inr (record { path = s ∷ b.path; leads = (h, e, b.leads); shorter = omega (arith, b.shorter); no_less = let q = b.no_less in omega (arith, ints) }))
      ]

  -- the best path of at most k edges from x
  pub record Best (k x : ℕ) : Type 0 where
    pub path : List E
    pub end : ℕ
    pub leads : Path x path end
    pub few : length path ≤ k
    pub most : (c : List E) (y : ℕ) → Path x c y → length c ≤ k → sum c ≤ℤ sum path

  abbrev pub Among : E → List ((s : E) × H s) → Type 0
  Among s [] = ⊥
  Among s (e ∷ es) = (s ≡ e.0) ⊎ Among s es

  record Scanned (k x : ℕ) (value : E → ℤ) (es : List ((s : E) × H s)) : Type 0 where
    path : List E
    end : ℕ
    leads : Path x path end
    few : length path ≤ suc k
    low : pos 0 ≤ℤ sum path
    most : (s : E) → Among s es → from s ≡ x → value s ≤ℤ sum path

  scan : (k x : ℕ) (b : (y : ℕ) → Best k y) (es : List ((s : E) × H s)) → Scanned k x (λ s. w s +ℤ sum (b (to s)).path) es
  scan k x b [] = record { path = []; end = x; leads = refl; few = omega arith; low = ≤ℤ_refl (pos 0); most = λ s a. absurd a }
  scan k x b ((s, h) ∷ es) =
      let r = scan k x b es in
      let value : E → ℤ = λ t. w t +ℤ sum (b (to t)).path in
      elim (cases_eq (from s) x) [
        | inr ne ↦ record {
          path = r.path;
          end = r.end;
          leads = r.leads;
          few = r.few;
          low = r.low;
          most = λ t a f. elim a [ inl e ↦ absurd (ne (ap from (sym e) ∙ f)) | inr a' ↦ r.most t a' f ];
        }
        | inl here ↦
            by_lt_z (sum r.path) (value s)
            (λ more. record {
              path = s ∷ (b (to s)).path;
              end = (b (to s)).end;
              leads = (h, here, (b (to s)).leads);
              few = omega (arith, (b (to s)).few);
              low = let q = r.low in omega (arith, ints);
              most = λ t a f. elim a [ inl e ↦ subst (λ u. value u ≤ℤ value s) (sym e) (≤ℤ_refl (value s)) | inr a' ↦ (let q = r.most t a' f in omega (arith, ints)) ];
            })
            (λ no_more. record {
              path = r.path;
              end = r.end;
              leads = r.leads;
              few = r.few;
              low = r.low;
              most = λ t a f. elim a [ inl e ↦ subst (λ u. value u ≤ℤ sum r.path) (sym e) no_more | inr a' ↦ r.most t a' f ];
            })
      ]

  none_left : (x : ℕ) (c : List E) (y : ℕ) → Path x c y → length c ≤ 0 → sum c ≤ℤ pos 0
  none_left x [] y p l = ≤ℤ_refl (pos 0)
  none_left x (s ∷ c) y p l = absurd (omega arith)

  module _ (all : List ((s : E) × H s)) (listed : (s : E) → H s → Among s all) where
    most_more : (k x : ℕ) (b : (y : ℕ) → Best k y) (r : Scanned k x (λ s. w s +ℤ sum (b (to s)).path) all) (c : List E) (y : ℕ) → Path x c y → length c ≤ suc k → sum c ≤ℤ sum r.path
    most_more k x b r [] y p l = r.low
    most_more k x b r (s ∷ c) y (h, e, p) l =
        let q = r.most s (listed s h) e in
        let m = (b (to s)).most c y p (omega arith) in
        omega (arith, ints)

    pub best : (k x : ℕ) → Best k x
    best zero x = record { path = []; end = x; leads = refl; few = omega arith; most = none_left x }
    best (suc k) x =
        let r = scan k x (best k) all in
        record { path = r.path; end = r.end; leads = r.leads; few = r.few; most = most_more k x (best k) r }

    module _ (n : ℕ) (inside : (s : E) → H s → to s < n) where
      below : (x : ℕ) (c : List E) (y : ℕ) → Path x c y → Below n (map to c)
      below x [] y p = tt
      below x (s ∷ c) y (h, e, p) = (inside s h, below (to s) c y p)

      abbrev pub height : ℕ → ℤ
      height x = sum (best n x).path

      step_kept : (s : E) → H s → Bad ⊎ ((w s +ℤ height (to s)) ≤ℤ height (from s))
      step_kept s h =
          let b = best n (to s) in
          let d = s ∷ b.path in
          let p : Path (from s) d b.end = (h, refl, b.leads) in
          elim (reduce d (from s) b.end p) [
            | inl once ↦ inr ((best n (from s)).most d b.end p (omega (arith, once_few n (map to d) once (below (from s) d b.end p), length-map d to)))
            | inr (inl bad) ↦ inl bad
            | inr (inr r) ↦ inr (let m = (best n (from s)).most r.path b.end r.leads (omega (arith, r.shorter, b.few)) in let q = r.no_less in omega (arith, ints))
          ]

      all_kept : (es : List ((s : E) × H s)) → Bad ⊎ ((s : E) → Among s es → (w s +ℤ height (to s)) ≤ℤ height (from s))
      all_kept [] = inr (λ s a. absurd a)
      all_kept ((s, h) ∷ es) =
          elim (step_kept s h) [
            | inl bad ↦ inl bad
            | inr k ↦
                elim (all_kept es) [
                  | inl bad ↦ inl bad
                  | inr ks ↦ inr (λ t a. elim a [ inl e ↦ subst (λ u. (w u +ℤ height (to u)) ≤ℤ height (from u)) (sym e) k | inr a' ↦ ks t a' ])
                ]
          ]

      pub potential : Bad ⊎ ((s : E) → H s → (w s +ℤ height (to s)) ≤ℤ height (from s))
      potential =
          elim (all_kept all) [
            | inl bad ↦ inl bad
            | inr ks ↦ inr (λ s h. ks s (listed s h))
          ]
