-- What a search through the elements that stand in a list of options finds. Assumes nothing.
use denote.Param.Members.{Mut}
use denote.Ref.{Bor}
use Rattle.std.proofs.Common.{◌≡◌, ℕ, zero, suc, ◌+◌, ◌<◌, List, [], ◌∷◌, map, length, get_or, take, Some, None, Option, Bool, true, false, cond, IfSome, IsSomeAnd, sym, refl, ap, ◌∙◌, subst, IsTrue, MatchOption, arith}
use Rattle.std.specs.Fn.{Called}
use Rattle.std.specs.List.{All, HoldsAt, flat_map, slice_get}
use Rattle.std.specs.Bool.{MatchBool}
use Rattle.std.specs.Option.{option_to_list}
use Rattle.std.specs.Iterator.Adapters.{flatten_source, flatten_front, flatten_back, flatten_done, flatten_steps, option_iter_item, option_iter_done, option_iter_steps}
use Rattle.std.specs.Slice.Iter.{iter_rest}
use Rattle.std.specs.Iterator.{Yields}
use Rattle.std.specs.Iterator.Runs.{SomeRun, AllItemsGive, IsFirstToGive}
use Rattle.std.proofs.lemmas.Iterator.{YieldsList, YieldsList-from_slice, items_from_drains}
use Rattle.std.proofs.lemmas.Iterator.Adapters.{YieldsList-from_flatten}
use Rattle.std.proofs.iter.Yields.{fronts}
use Rattle.std.proofs.lemmas.Iterator.Consumers.{YieldsList-so_far, YieldsList-from_shown}
use lib.ListN.{length-map, length-take}
use Rattle.std.proofs.lemmas.List.{get_or-take}
use Rattle.std.proofs.lemmas.Bool.{false≢true}
use Rattle.std.proofs.lemmas.Option.{none-some}
use Rattle.std.proofs.iter.runs.Made.{took, at-is, each_of}

module _ {X : Type 0} where
  -- what stands in a list of options stands at some place of it, and the other way round
  pub place_of : (xs : List (Option X)) (k : ℕ) → k < length (flat_map option_to_list xs) → (j : ℕ) × (x : X) × (get_or xs j None ≡ Some x) × ((d : X) → get_or (flat_map option_to_list xs) k d ≡ x)
  place_of [] k h = absurd (omega arith)
  place_of (None ∷ xs) k h = let r = place_of xs k h in (suc r.0, r.1, r.2, r.3)
  place_of (Some x ∷ xs) zero h = (0, x, refl, λ d. refl)
  place_of (Some x ∷ xs) (suc k) h = let r = place_of xs k (omega arith) in (suc r.0, r.1, r.2, r.3)

  pub of_place : (xs : List (Option X)) (j : ℕ) (x : X) → get_or xs j None ≡ Some x → (k : ℕ) × (k < length (flat_map option_to_list xs)) × ((d : X) → get_or (flat_map option_to_list xs) k d ≡ x)
  of_place [] j x e = absurd (none-some x e)
  of_place (None ∷ xs) zero x e = absurd (none-some x e)
  of_place (None ∷ xs) (suc j) x e = of_place xs j x e
  of_place (Some y ∷ xs) zero x e = (0, omega arith, λ d. cc)
  of_place (Some y ∷ xs) (suc j) x e = let r = of_place xs j x e in (suc r.0, omega arith, r.2)

-- what a reference to an option gives as an iterator
nothing_left : {A : Type 0} (b : Bool) (o : Option A) → MatchBool b (◌≡◌ {A = Option (Bor A)} None None) (◌≡◌ {A = Option A} None o) → length (cond b [] (option_to_list o)) ≡ 0
nothing_left true o h = refl
nothing_left false o h = ap (λ p. length (option_to_list p)) (sym h)

one_left : {A : Type 0} (b c : Bool) (o p : Option A) (x : Bor A) → IsTrue c → MatchBool b (Some x ≡ None) (Some x.now ≡ o) → cond b [] (option_to_list o) ≡ x.now ∷ cond c [] (option_to_list p)
one_left true c o p x t h = absurd (none-some x (sym h))
one_left false false o p x t h = absurd (false≢true t)
one_left false true o p x t h = ap option_to_list (sym h)

pub item_of : {A : Type 0} {j : _} (o : Option A) → option_iter_item j ≡ o → option_iter_done j ≡ false → YieldsList option_iter_steps (λ y. y.now) j (option_to_list o)
item_of {j = j} o e d =
    subst (YieldsList option_iter_steps (λ y. y.now) j) (ap (λ b. cond b [] (option_to_list (option_iter_item j))) d ∙ ap option_to_list e)
    (YieldsList-from_shown option_iter_steps (λ y. y.now) (λ s. cond (option_iter_done s) [] (option_to_list (option_iter_item s))) (λ s t h. nothing_left _ _ h.1) (λ s x t h. one_left _ _ _ _ x h.0 h.1) j)

-- the chain proof of `xs.iter().flatten()`
pub YieldsList-standing : {A J : Type 0} {s : _} (xs : List (Option A)) (becomes : Bor (Option A) → J → Type 0) (inner : J → Option (Bor A) → J → Type 0) →
    iter_rest (flatten_source s) ≡ xs → flatten_front s ≡ None → flatten_back s ≡ None → flatten_done s ≡ false →
    ((x : Bor (Option A)) (j : J) → becomes x j → YieldsList inner (λ y. y.now) j (option_to_list x.now)) → YieldsList (flatten_steps fronts becomes inner) (λ y. y.now) s (flat_map option_to_list xs)
YieldsList-standing xs becomes inner e f b d gives = YieldsList-from_flatten becomes inner (λ y. y.now) option_to_list gives (YieldsList-from_slice xs e) f b d

-- what holds of each item, or of one, read through v
module _ {A B : Type 0} (v : A → B) (P : A → Type 0) (Q : B → Type 0) (read : (x : A) → P x → Q (v x)) where
  each_along : (xs : List A) → ((k : ℕ) → IfSome (slice_get xs k) P) → All Q (map v xs)
  each_along [] h k d l = absurd (omega arith)
  each_along (x ∷ xs) h zero d l = read x (h 0)
  each_along (x ∷ xs) h (suc k) d l = each_along xs (λ j. h (suc j)) k d (omega arith)

  some_along : (xs : List A) (k : ℕ) → IsSomeAnd (slice_get xs k) P → HoldsAt Q (map v xs) k
  some_along [] k h = absurd h
  some_along (x ∷ xs) zero h = λ d. read x h
  some_along (x ∷ xs) (suc k) h = some_along xs k h

-- `find_map` over a chain proof: the closure gave `None` at each element, or gave y at some
pub cases_from_find_map : {S A B C F : Type 0} {steps : S → Option A → S → Type 0} {v : A → B} {g : Mut F (A × Unit {0}) (Option C)} {s : S} {all : List B} (f : F) (r : Option C) (Yes : B → C → Type 0) (No : B → Type 0) →
    SomeRun steps s (λ p. MatchOption r (IsTrue p.whole × AllItemsGive p g f None) (λ y. (i : ℕ) × (i < p.len) × (p.len ≡ i + 1) × IsFirstToGive p g f (Some y) None i)) →
    YieldsList steps v s all → ((x : A) (o : Option C) (q : F) → Called g f (x, tt) o q → q ≡ f) →
    ((x : A) (y : C) (q : F) → Called g f (x, tt) (Some y) q → Yes (v x) y) → ((x : A) (q : F) → Called g f (x, tt) None q → No (v x)) →
    MatchOption r (All No all) (λ y. (k : ℕ) × (k < length all) × HoldsAt (λ x. Yes x y) all k)
cases_from_find_map {steps = steps} {v} {g} {all = all} f None Yes No (p, from, (whole, gives)) road keeps hit miss =
    let t = took p in
    let e : map v p.items ≡ all = items_from_drains p.items (t.0, subst (λ k. Yields steps k p.items t.0) from t.1, λ _. t.2 whole) road in
    subst (All No) e (each_along v (λ x. Called g f (x, tt) None f) No (λ x h. miss x f h) p.items (each_of p _ (gives (λ a o q h. keeps a.0 o q h))))
cases_from_find_map {steps = steps} {v} {g} {all = all} f (Some y) Yes No (p, from, (i, h, long, gives)) road keeps hit miss =
    let t = took p in
    let e : map v p.items ≡ take (length p.items) all = YieldsList-so_far road p.items t.0 (subst (λ k. Yields steps k p.items t.0) from t.1) in
    let inside : i < length p.items = omega (arith, p.long) in
    let far : i < length all = omega (arith, ap length e, length-map p.items v, length-take (length p.items) all) in
    let here = some_along v (λ x. Called g f (x, tt) (Some y) f) (λ x. Yes x y) (λ x h. hit x y f h) p.items i (subst (λ o. IsSomeAnd o (λ x. Called g f (x, tt) (Some y) f)) (at-is p i) (gives (λ a o q h. keeps a.0 o q h)).0) in
    (i, far, λ d. subst (λ x. Yes x y) (ap (λ l. get_or l i d) e ∙ get_or-take (length p.items) all i d inside) (here d))
