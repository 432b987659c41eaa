-- The laws of reading, for every form whose numbers stand apart.
use Rattle.std.proofs.Common.{◌≡◌, ℕ, suc, ◌+◌, ◌<◌, ◌≤◌, Bool, true, false, eqb, ◌⊎◌, List, [], ◌∷◌, ◌++◌, length, take, drop, Some, None, Option, sym, refl, ap, ◌∙◌, subst, subst₂, inl, inr, ⊎_elim, append_assoc, arith, length-append}
use Rattle.std.proofs.lemmas.List.{drop_at, take_at, append_cancel_left, length-take-le, take-append-drop}
use Rattle.std.proofs.lemmas.Bool.{cases_Bool, cases_lt, eq-eqb, eqb-true, eqb-false, both_ways}
use Rattle.forms.proofs.Walks.{Spells, loose, Begins, Refuses, Stops, Apart, Tells}
use Rattle.forms.specs.Marks.{is_digit, numeral, digit_first, led, number, number_at}
use Rattle.forms.specs.Form.{Verdict, fine, out, Form, done, mark, numb, dash_or, Outcome, got, broken, refused, judged, run}
use Rattle.forms.proofs.Numbers.{View, no_number, zero_led, a_number, view, number_numeral, numeral_first, numeral_zero, led_read}
use Rattle.forms.proofs.Fronts.{head_same, tail_same, cons_nil, split_front, first_front}

-- some text of any form
some_text : {F A : Type 0} (f : Form F A) → Begins f []
some_text (done a) = (a, [], (refl, refl))
some_text (mark b k) = let r = some_text k in (r.0, b ∷ r.1, (r.1, refl, r.2))
some_text (numb j k) = let r = some_text (k 0) in (r.0, numeral 0 ++ r.1, (0, r.1, refl, refl, r.2))
some_text (dash_or j k) = let r = some_text (k None) in (r.0, 45 ∷ r.1, inl (r.1, refl, r.2))

spells_loose : {F A : Type 0} (f : Form F A) (a : A) (t : List ℕ) → Spells f a t → Spells (loose f) a t
spells_loose (done x) a t h = h
spells_loose (mark b k) a t h = (h.0, h.1, spells_loose k a h.0 h.2)
spells_loose (numb j k) a t h = (h.0, h.1, h.2, refl, spells_loose (k h.0) a h.1 h.4)
spells_loose (dash_or j k) a t (inl h) = inl (h.0, h.1, spells_loose (k None) a h.0 h.2)
spells_loose (dash_or j k) a t (inr h) = inr (h.0, h.1, h.2, refl, spells_loose (k (Some h.0)) a h.1 h.4)

-- what follows a number begins with no digit
stop_first : {F A : Type 0} (f : Form F A) (a : A) (t : List ℕ) → Stops f → Spells (loose f) a t → digit_first t ≡ false
stop_first (done x) a t s h = rw h.1
stop_first (mark b k) a t s h = rw h.1 s
stop_first (numb j k) a t s h = absurd s
stop_first (dash_or j k) a t s h = absurd s

-- a number of the text, read
run_number : {F A : Type 0} (j : ℕ → Verdict F) (k : ℕ → Form F A) (at v : ℕ) (t : List ℕ) → digit_first t ≡ false
    → run at (numb j k) (numeral v ++ t) ≡ judged (j v) at (run (at + length (numeral v)) (k v) t)
run_number j k at v t h =
    let e = number_numeral v t h in
    let d : drop (length (numeral v)) (numeral v ++ t) ≡ t = drop_at (numeral v) t (length (numeral v)) refl in
    rw e (ap (λ r. judged (j v) at (run (at + length (numeral v)) (k v) r)) d)

run_mark : {F A : Type 0} (at b : ℕ) (k : Form F A) (t : List ℕ) → run at (mark b k) (b ∷ t) ≡ run (at + 1) k t
run_mark {F} {A} at b k t =
    let g : Bool → Outcome F A = λ x. elim x [ true ↦ run (at + 1) k t | false ↦ broken at ] in
    ap g (eq-eqb b b refl)

run_dash : {F A : Type 0} (at : ℕ) (j : ℕ → Verdict F) (k : Option ℕ → Form F A) (t : List ℕ) → run at (dash_or j k) (45 ∷ t) ≡ run (at + 1) (k None) t
run_dash at j k t = refl

run_no_dash : {F A : Type 0} (at : ℕ) (j : ℕ → Verdict F) (k : Option ℕ → Form F A) (t : List ℕ) → digit_first t ≡ true
    → run at (dash_or j k) t ≡ run at (numb j (λ v. k (Some v))) t
run_no_dash {F} {A} at j k [] h = absurd (both_ways false refl h)
run_no_dash {F} {A} at j k (c ∷ t) h =
    let g : Bool → Outcome F A = λ x. elim x [ true ↦ run (at + 1) (k None) t | false ↦ run at (numb j (λ v. k (Some v))) (c ∷ t) ] in
    ⊎_elim
    (λ y. absurd (both_ways (is_digit 45) refl (subst (λ x. is_digit x ≡ true) (eqb-true c 45 y) h)))
    (λ n. ap g n)
    (cases_Bool (eqb c 45))

-- a text of fine numbers is read as what it tells
pub reads : {F A : Type 0} (f : Form F A) → Apart f → (at : ℕ) (a : A) (t : List ℕ) → Spells f a t → run at f t ≡ got a
reads (done x) p at a t h = rw h.1 (ap got (sym h.0))
reads (mark b k) p at a t h = rw h.1 (run_mark at b k h.0 ∙ reads k p (at + 1) a h.0 h.2)
reads (numb j k) p at a t h =
    let v = h.0 in
    let s = stop_first (k v) a h.1 (p v).0 (spells_loose (k v) a h.1 h.4) in
    rw h.2 (run_number j k at v h.1 s ∙ rw h.3 (reads (k v) (p v).1 (at + length (numeral v)) a h.1 h.4))
reads (dash_or j k) p at a t (inl h) = rw h.1 (reads (k None) (p None).1 (at + 1) a h.0 h.2)
reads (dash_or j k) p at a t (inr h) =
    let v = h.0 in
    let s = stop_first (k (Some v)) a h.1 (p (Some v)).0 (spells_loose (k (Some v)) a h.1 h.4) in
    rw h.2
    (run_no_dash at j k (numeral v ++ h.1) (numeral_first v h.1)
    ∙ run_number j (λ v. k (Some v)) at v h.1 s
    ∙ rw h.3 (reads (k (Some v)) (p (Some v)).1 (at + length (numeral v)) a h.1 h.4))

-- a number that is refused is told, where all before it are fine
pub refuses : {F A : Type 0} (f : Form F A) (at : ℕ) (m : F) (p : ℕ) (t : List ℕ) → Refuses f t m p → run at f t ≡ refused m (at + p)
refuses (done x) at m p t h = absurd h
refuses (mark b k) at m p t h =
    let q = h.1 in
    let e : at + 1 + q ≡ at + p = omega (arith, h.3) in
    rw h.2 (run_mark at b k h.0 ∙ refuses k (at + 1) m q h.0 h.4 ∙ ap (refused m) e)
refuses {F} {A} (numb j k) at m p t h =
    let v = h.0 in
    let told : ((j v ≡ out m) × (p ≡ 0)) ⊎ ((q : ℕ) × (j v ≡ fine) × (p ≡ length (numeral v) + q) × Refuses (k v) h.1 m q)
    → judged (j v) at (run (at + length (numeral v)) (k v) h.1) ≡ refused m (at + p) =
    ⊎_elim
    (λ o. rw o.0 (ap (refused m) (omega (arith, o.1))))
    (λ o. rw o.1 (refuses (k v) (at + length (numeral v)) m o.0 h.1 o.3 ∙ ap (refused m) (omega (arith, o.2)))) in
    rw h.2 (run_number j k at v h.1 h.3 ∙ told h.4)
refuses (dash_or j k) at m p t (inl h) =
    let e : at + 1 + h.1 ≡ at + p = omega (arith, h.3) in
    rw h.2 (refuses (k None) (at + 1) m h.1 h.0 h.4 ∙ ap (refused m) e)
refuses (dash_or j k) at m p t (inr h) =
    let v = h.0 in
    let told : ((j v ≡ out m) × (p ≡ 0)) ⊎ ((q : ℕ) × (j v ≡ fine) × (p ≡ length (numeral v) + q) × Refuses (k (Some v)) h.1 m q)
    → judged (j v) at (run (at + length (numeral v)) (k (Some v)) h.1) ≡ refused m (at + p) =
    ⊎_elim
    (λ o. rw o.0 (ap (refused m) (omega (arith, o.1))))
    (λ o. rw o.1 (refuses (k (Some v)) (at + length (numeral v)) m o.0 h.1 o.3 ∙ ap (refused m) (omega (arith, o.2)))) in
    rw h.2 (run_no_dash at j k (numeral v ++ h.1) (numeral_first v h.1) ∙ run_number j (λ v. k (Some v)) at v h.1 h.3 ∙ told h.4)

-- what an outcome says of the rest of a text, read from a place on
abbrev Said : {F A : Type 0} → Form F A → ℕ → List ℕ → Outcome F A → Type 0
Said f at t (got a) = Spells f a t
Said f at t (broken p) =
    (q : ℕ) × (p ≡ at + q)
    × ((s : List ℕ) × (u : List ℕ) × (t ≡ s ++ u) × (length s ≡ q) × Begins f s)
    × ((s u : List ℕ) → t ≡ s ++ u → Begins f s → length s ≤ q)
Said f at t (refused m p) = (q : ℕ) × (p ≡ at + q) × Refuses f t m q

-- nothing of the text goes along
none_along : {F A : Type 0} (f : Form F A) (at : ℕ) (t : List ℕ) → ((c : ℕ) (s u : List ℕ) → t ≡ c ∷ s ++ u → Begins f (c ∷ s) → ⊥) → Said f at t (broken at)
none_along {F} {A} f at t never = (0, omega arith, ([], t, refl, refl, some_text f), bound)
  where
    bound : (s u : List ℕ) → t ≡ s ++ u → Begins f s → length s ≤ 0
    bound [] u e b = omega arith
    bound (c ∷ s) u e b = absurd (never c s u e b)

-- a byte in front
said_mark : {F A : Type 0} (b : ℕ) (k : Form F A) (at : ℕ) (t : List ℕ) (o : Outcome F A) → Said k (at + 1) t o → Said (mark b k) at (b ∷ t) o
said_mark b k at t (got a) h = (t, refl, h)
said_mark b k at t (broken p) h =
    let l = h.2 in
    (suc h.0, omega (arith, h.1), (b ∷ l.0, l.1, ap (λ x. b ∷ x) l.2, ap suc l.3, (l.4.0, l.4.1, (l.0 ++ l.4.1, refl, l.4.2))), bound)
  where
    bound : (s u : List ℕ) → b ∷ t ≡ s ++ u → Begins (mark b k) s → length s ≤ suc h.0
    bound [] u e g = omega arith
    bound (c ∷ s) u e g = omega (arith, h.3 s u (tail_same e) (g.0, g.1, rw (← tail_same g.2.1) at g.2.2))
said_mark b k at t (refused m p) h = (suc h.0, omega (arith, h.1), (t, h.0, refl, refl, h.2))

-- a number in front, that is fine
said_number : {F A : Type 0} (j : ℕ → Verdict F) (k : ℕ → Form F A) → ((v : ℕ) → Stops (k v)) → (at v : ℕ) (t : List ℕ) → digit_first t ≡ false → j v ≡ fine
    → (o : Outcome F A) → Said (k v) (at + length (numeral v)) t o → Said (numb j k) at (numeral v ++ t) o
said_number j k stops at v t d y (got a) h = (v, t, refl, y, h)
said_number {F} {A} j k stops at v t d y (broken p) h =
    let l = h.2 in
    let n = length (numeral v) in
    let same : numeral v ++ t ≡ (numeral v ++ l.0) ++ l.1 = rw append_assoc (ap (λ x. numeral v ++ x) l.2) in
    let long : length (numeral v ++ l.0) ≡ n + h.0 = length-append (numeral v) l.0 ∙ ap (λ x. n + x) l.3 in
    (n + h.0, omega (arith, h.1), (numeral v ++ l.0, l.1, same, long, (l.4.0, l.4.1, (v, l.0 ++ l.4.1, append_assoc (numeral v) l.0 l.4.1, refl, l.4.2))), bound)
  where
    on : (s u r : List ℕ) → numeral v ++ t ≡ s ++ u → Begins (numb j k) s → length (numeral v) < length s → s ≡ numeral v ++ r → t ≡ r ++ u → length s ≤ length (numeral v) + h.0
    on s u r e g x f w =
        let z : length s ≡ length (numeral v) + length r = ap length f ∙ length-append (numeral v) r in
        let some : 0 < length r = omega arith in
        let first : digit_first (r ++ g.1) ≡ false = first_front r u g.1 some (rw w at d) in
        let here : s ++ g.1 ≡ numeral v ++ (r ++ g.1) = rw f (append_assoc (numeral v) r g.1) in
        let v' = g.2.0 in
        let t' = g.2.1 in
        let mine : number_at (s ++ g.1) ≡ number v (length (numeral v)) = rw here (number_numeral v (r ++ g.1) first) in
        let its : number_at (s ++ g.1) ≡ number v' (length (numeral v')) = rw g.2.2 (number_numeral v' t' (stop_first (k v') g.0 t' (stops v') g.2.4)) in
        let one : v' ≡ v = cc in
        let rest : r ++ g.1 ≡ t' = append_cancel_left (numeral v) (r ++ g.1) t' (sym here ∙ g.2.2 ∙ ap (λ x. numeral x ++ t') one) in
        let goes : Spells (loose (k v)) g.0 (r ++ g.1) = subst₂ (λ x y. Spells (loose (k x)) g.0 y) one (sym rest) g.2.4 in
        omega (arith, h.3 r u w (g.0, g.1, goes))

    bound : (s u : List ℕ) → numeral v ++ t ≡ s ++ u → Begins (numb j k) s → length s ≤ length (numeral v) + h.0
    bound s u e g =
        ⊎_elim
        (λ x. let r = split_front (numeral v) t s u e (omega arith) in on s u r.0 e g x r.1 r.2)
        (λ x. omega arith)
        (cases_lt (length (numeral v)) (length s))
said_number j k stops at v t d y (refused m p) h =
    (length (numeral v) + h.0, omega (arith, h.1), (v, t, refl, d, inr (h.0, y, refl, h.2)))

-- where no number begins
said_no_number : {F A : Type 0} (j : ℕ → Verdict F) (k : ℕ → Form F A) (at : ℕ) (t : List ℕ) → digit_first t ≡ false → Said (numb j k) at t (broken at)
said_no_number j k at t d = none_along (numb j k) at t never
  where
    never : (c : ℕ) (s u : List ℕ) → t ≡ c ∷ s ++ u → Begins (numb j k) (c ∷ s) → ⊥
    never c s u e g =
        both_ways (is_digit c) (rw e at d) (ap digit_first g.2.2 ∙ numeral_first g.2.0 g.2.1)

-- a 0 with a digit behind it
said_led : {F A : Type 0} (j : ℕ → Verdict F) (k : ℕ → Form F A) → ((v : ℕ) → Stops (k v)) → (at d : ℕ) (ds : List ℕ) → is_digit d ≡ true → number_at (48 ∷ d ∷ ds) ≡ led
    → Said (numb j k) at (48 ∷ d ∷ ds) (broken (at + 1))
said_led {F} {A} j k stops at d ds y e =
    let r = some_text (k 0) in
    (1, refl, (48 ∷ [], d ∷ ds, refl, refl, (r.0, r.1, (0, r.1, rw numeral_zero, refl, r.2))), bound)
  where
    bound : (s u : List ℕ) → 48 ∷ d ∷ ds ≡ s ++ u → Begins (numb j k) s → length s ≤ 1
    bound [] u f g = omega arith
    bound (b ∷ []) u f g = omega arith
    bound (b ∷ c ∷ s) u f g =
        let v = g.2.0 in
        let t' = g.2.1 in
        let front : b ∷ c ∷ s ++ g.1 ≡ 48 ∷ d ∷ s ++ g.1 = cc (head_same f, head_same (tail_same f)) in
        let its : number_at (b ∷ c ∷ s ++ g.1) ≡ number v (length (numeral v)) = rw g.2.2 (number_numeral v t' (stop_first (k v) g.0 t' (stops v) g.2.4)) in
        let here = led_read d (s ++ g.1) y in
        let both : led ≡ number v (length (numeral v)) = sym here ∙ ap number_at (sym front) ∙ its in
        let z : ◌≡◌ {A = ℕ} 0 1 = cc in absurd (omega arith)

said_numb : {F A : Type 0} (j : ℕ → Verdict F) (k : ℕ → Form F A) → ((v : ℕ) → Stops (k v)) → ((v at : ℕ) (t : List ℕ) → Said (k v) at t (run at (k v) t))
    → (at : ℕ) (t : List ℕ) → View t → Said (numb j k) at t (run at (numb j k) t)
said_numb j k stops on at _ (no_number t d e) = rw e (said_no_number j k at t d)
said_numb j k stops on at _ (zero_led d ds y e) = rw e (said_led j k stops at d ds y e)
said_numb {F} {A} j k stops on at _ (a_number v t d) = rw (run_number j k at v t d) (by (j v) refl)
  where
    by : (x : Verdict F) → j v ≡ x → Said (numb j k) at (numeral v ++ t) (judged x at (run (at + length (numeral v)) (k v) t))
    by fine y = said_number j k stops at v t d y (run (at + length (numeral v)) (k v) t) (on v (at + length (numeral v)) t)
    by (out m) y = (0, omega arith, (v, t, refl, d, inl (y, refl)))

-- a dash in front
said_dash : {F A : Type 0} (j : ℕ → Verdict F) (k : Option ℕ → Form F A) (at : ℕ) (t : List ℕ) (o : Outcome F A) → Said (k None) (at + 1) t o → Said (dash_or j k) at (45 ∷ t) o
said_dash j k at t (got a) h = inl (t, refl, h)
said_dash j k at t (broken p) h =
    let l = h.2 in
    (suc h.0, omega (arith, h.1), (45 ∷ l.0, l.1, ap (λ x. 45 ∷ x) l.2, ap suc l.3, (l.4.0, l.4.1, inl (l.0 ++ l.4.1, refl, l.4.2))), bound)
  where
    bound : (s u : List ℕ) → 45 ∷ t ≡ s ++ u → Begins (dash_or j k) s → length s ≤ suc h.0
    bound [] u e g = omega arith
    bound (c ∷ s) u e (a, r, inl x) = omega (arith, h.3 s u (tail_same e) (a, r, rw (← tail_same x.1) at x.2))
    bound (c ∷ s) u e (a, r, inr x) =
        absurd (both_ways (is_digit c) (ap is_digit (sym (head_same e))) (ap digit_first x.2 ∙ numeral_first x.0 x.1))
said_dash j k at t (refused m p) h = (suc h.0, omega (arith, h.1), inl (t, h.0, refl, refl, h.2))

-- a number where a dash could stand
said_no_dash : {F A : Type 0} (j : ℕ → Verdict F) (k : Option ℕ → Form F A) (at c : ℕ) (t : List ℕ) → eqb c 45 ≡ false → (o : Outcome F A)
    → Said (numb j (λ v. k (Some v))) at (c ∷ t) o → Said (dash_or j k) at (c ∷ t) o
said_no_dash j k at c t n (got a) h = inr h
said_no_dash j k at c t n (broken p) h =
    let l = h.2 in
    (h.0, h.1, (l.0, l.1, l.2, l.3, (l.4.0, l.4.1, inr l.4.2)), bound)
  where
    bound : (s u : List ℕ) → c ∷ t ≡ s ++ u → Begins (dash_or j k) s → length s ≤ h.0
    bound [] u e g = omega arith
    bound (b ∷ s) u e (a, r, inl x) = absurd (eqb-false c 45 n (head_same e ∙ head_same x.1))
    bound (b ∷ s) u e (a, r, inr x) = h.3 (b ∷ s) u e (a, r, x)
said_no_dash j k at c t n (refused m p) h = (h.0, h.1, inr h.2)

said : {F A : Type 0} (f : Form F A) → Apart f → (at : ℕ) (t : List ℕ) → Said f at t (run at f t)
said (done x) p at [] = (refl, refl)
said {F} (done x) p at (c ∷ t) = none_along {F = F} (done x) at (c ∷ t) (λ b s u e g. cons_nil g.2.1)
said (mark b k) p at [] = none_along (mark b k) at [] (λ c s u e g. cons_nil (sym e))
said {F} {A} (mark b k) p at (c ∷ t) = by (said k p (at + 1) t) (eqb c b) refl
  where
    by : Said k (at + 1) t (run (at + 1) k t) → (x : Bool) → eqb c b ≡ x → Said (mark b k) at (c ∷ t) (elim x [ true ↦ run (at + 1) k t | false ↦ broken at ])
    by on true y = rw (eqb-true c b y) (said_mark b k at t (run (at + 1) k t) on)
    by on false y = none_along (mark b k) at (c ∷ t) (λ d s u e g. eqb-false c b y (head_same e ∙ head_same g.2.1))
said (numb j k) p at t = said_numb j k (λ v. (p v).0) (λ v. said (k v) (p v).1) at t (view t)
said (dash_or j k) p at [] = none_along (dash_or j k) at [] (λ c s u e g. cons_nil (sym e))
said {F} {A} (dash_or j k) p at (c ∷ t) = by (λ v. said (k v) (p v).1) (eqb c 45) refl
  where
    by : ((v : Option ℕ) (at : ℕ) (t : List ℕ) → Said (k v) at t (run at (k v) t)) → (x : Bool) → eqb c 45 ≡ x → Said (dash_or j k) at (c ∷ t) (elim x [ true ↦ run (at + 1) (k None) t | false ↦ run at (numb j (λ v. k (Some v))) (c ∷ t) ])
    by on true y = rw (eqb-true c 45 y) (said_dash j k at t (run (at + 1) (k None) t) (on None (at + 1) t))
    by on false y = said_no_dash j k at c t y (run at (numb j (λ v. k (Some v))) (c ∷ t)) (said_numb j (λ v. k (Some v)) (λ v. (p (Some v)).0) (λ v. on (Some v)) at (c ∷ t) (view (c ∷ t)))

-- what the reading of a whole text says of it
tells_from : {F A : Type 0} (f : Form F A) → Apart f → (t : List ℕ) (o : Outcome F A) → run 0 f t ≡ o → Said f 0 t o → Tells f t o
tells_from f w t (got a) e h = h
tells_from f w t (broken p) e h =
    let l = h.2 in
    let q : length l.0 ≡ p = omega (arith, l.3, h.1) in
    let front : take p t ≡ l.0 = rw l.2 (take_at l.0 l.1 p q) in
    let fits : p ≤ length t = omega (arith, q, ap length l.2 ∙ length-append l.0 l.1) in (
      (fits, rw front l.4, λ n m b. omega (arith, h.1, length-take-le n t m, h.3 (take n t) (drop n t) (sym (take-append-drop n t)) b)),
      (λ a s. let same = reads f w 0 a t s in let z : ◌≡◌ {A = ℕ} 0 1 = cc in omega arith),
      (λ m r s. let same = refuses f 0 m r t s in let z : ◌≡◌ {A = ℕ} 0 1 = cc in omega arith),
    )
tells_from f w t (refused m p) e h = let q : p ≡ h.0 = omega (arith, h.1) in rw q h.2

pub tells : {F A : Type 0} (f : Form F A) → Apart f → (t : List ℕ) → Tells f t (run 0 f t)
tells f w t = tells_from f w t (run 0 f t) refl (said f w 0 t)
