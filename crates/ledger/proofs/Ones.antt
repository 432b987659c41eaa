-- A call has one answer and leads to one state. Assumes nothing.
use Rattle.std.proofs.Common.{◌≡◌, ℕ, ◌⊎◌, List, [], ◌∷◌, get_or, ℤ, pos, Some, None, sym, refl, ap, ◌∙◌, subst, inl, inr}
use Rattle.std.proofs.lemmas.Bool.{cases_order}
use Rattle.handover.proofs.Options.{some_same}
use Rattle.rules.specs.Net.{Link, Net, whole}
use Rattle.rules.specs.Rates as rates
use Rattle.rules.specs.Rules.{stock, taken}
use Rattle.rules.proofs.Chains.{least_one_lem}
use Rattle.rules.proofs.Fastest.{fastest_one_lem}
use Rattle.nets.specs.declared.CircuitStep.{CircuitStep}
use Rattle.drafts.specs.declared.fault.DraftFault.TheVariants.{Range, Capacity}
use Rattle.texts.specs.NetText as texts
use Rattle.ledger.specs.Calls.{Question, start_of, period_of, stock_at, taken_at, link_at, duration_of, rate_of, pace_held, pace_fastest, timetable_shown, Call, load, open_link, close, put, ask, Place, at, in_text, around, Answer, refused, value, fraction, ends_and_terms, timetable}
use Rattle.ledger.specs.States.{unrated}
use Rattle.ledger.specs.Checks.{Refusal, unformed, out_in_text, full_in_text, out_of_range, too_full, short_list, cut_off, no_rates, unbalanced, in_use, not_open, no_timetable, number_of, order, Lowest, MakesFull, Fails}
use Rattle.ledger.specs.Ranges.{Number, FirstOut}
use Rattle.ledger.specs.Runs.{Tells, Value, AllPass, FirstFails, Answered, Ran, none, more, periods_of}
use Rattle.ledger.specs.Facts.{Same, AllSame, Deterministic}
use Rattle.ledger.proofs.Reading.{fault_one, break_one, loads_one}
use Rattle.ledger.proofs.Numbers.{numbers_one}
use Rattle.ledger.proofs.Afters.{after_one}
use Rattle.ledger.proofs.Passing.{own_pass}

-- Places

first_out_one : (ns : List Number) (v w : ℕ) → FirstOut ns v → FirstOut ns w → v ≡ w
first_out_one [] v w a b = absurd a
first_out_one (n ∷ ns) v w (inl (o, e)) (inl (o', e')) = e ∙ sym e'
first_out_one (n ∷ ns) v w (inl (o, e)) (inr (h, b)) = absurd (h o)
first_out_one (n ∷ ns) v w (inr (h, a)) (inl (o, e)) = absurd (h o)
first_out_one (n ∷ ns) v w (inr (h, a)) (inr (k, b)) = first_out_one ns v w a b

lowest_one : (P : ℕ → Type 0) (j k : ℕ) → Lowest P j → Lowest P k → j ≡ k
lowest_one P j k a b =
    elim (cases_order j k) [
      | inl e ↦ e
      | inr (inl l) ↦ absurd (b.none_below j l a.holds)
      | inr (inr l) ↦ absurd (a.none_below k l b.holds)
    ]

cut_off_one : (M : Net) (x y : ℕ) → rates.CutOff M x → rates.CutOff M y → x ≡ y
cut_off_one M x y a b =
    elim (cases_order x y) [
      | inl e ↦ e
      | inr (inl l) ↦ absurd (a.apart (b.lowest x l))
      | inr (inr l) ↦ absurd (b.apart (a.lowest y l))
    ]

range_one : (v w : ℕ) → Range v ≡ Range w → v ≡ w
range_one v w e = cc

capacity_one : (j k : ℕ) → Capacity j ≡ Capacity k → j ≡ k
capacity_one j k e = cc

-- only the want of a timetable may be told at two places
abbrev OnePlace : Refusal → Place → Place → Type 0
OnePlace r p q = (p ≡ q) ⊎ ((c : List CircuitStep) × (d : List CircuitStep) × (r ≡ no_timetable) × (p ≡ around c) × (q ≡ around d))

place_one : (r : Refusal) (N : Net) (c : Call) (p q : Place) → Fails r N c p → Fails r N c q → OnePlace r p q
place_one unformed N c p q (t, o, e, b, f) (t', o', e', b', f') =
    let same = some_same t t' (sym e ∙ e') in
    inl (f ∙ ap (in_text None) (break_one t' o o' (subst (λ z. texts.Broken z o) same b) b') ∙ sym f')
place_one out_in_text N c p q (t, w, o, e, b, f) (t', w', o', e', b', f') =
    let g = fault_one t' (Range w) (Range w') o o' (subst (λ z. texts.Refused z (Range w) o) (some_same t t' (sym e ∙ e')) b) b' in
    inl (f ∙ ap (λ z. in_text (Some z) o) (range_one w w' g.0) ∙ ap (in_text (Some w')) g.1 ∙ sym f')
place_one full_in_text N c p q (t, k, o, e, b, f) (t', k', o', e', b', f') =
    let g = fault_one t' (Capacity k) (Capacity k') o o' (subst (λ z. texts.Refused z (Capacity k) o) (some_same t t' (sym e ∙ e')) b) b' in
    inl (f ∙ ap (λ z. in_text (Some z) o) (capacity_one k k' g.0) ∙ ap (in_text (Some k')) g.1 ∙ sym f')
place_one out_of_range N c p q (ns, w, m, a, e) (ns', w', m', a', e') =
    inl (e ∙ ap at (first_out_one ns' w w' (subst (λ z. FirstOut z w) (numbers_one N c ns ns' m m') a) a') ∙ sym e')
place_one too_full N c p q (w, a, e) (w', a', e') = inl (e ∙ ap at (lowest_one (MakesFull N c) w w' a a') ∙ sym e')
place_one short_list N c p q (n, e, l, f) (n', e', l', f') = inl (f ∙ ap at (some_same n n' (sym e ∙ e')) ∙ sym f')
place_one cut_off N c p q (d, y, g, C, f) (d', y', g', C', f') =
    inl (f ∙ ap at (cut_off_one (unrated d') y y' (subst (λ z. rates.CutOff (unrated z) y) (loads_one c d d' g g') C) C') ∙ sym f')
place_one no_rates N c p q (d, e, l, f) (d', e', l', f') = inl (f ∙ sym f')
place_one unbalanced N c p q (k, l, e, h, f) (k', l', e', h', f') = inl (f ∙ ap (λ (z : ℕ × Link). at z.0) (some_same (k, l) (k', l') (sym e ∙ e')) ∙ sym f')
place_one in_use N c p q (k, l, m, e, h, f) (k', l', m', e', h', f') = inl (f ∙ ap (λ (z : ℕ × Link). at z.0) (some_same (k, l) (k', l') (sym e ∙ e')) ∙ sym f')
place_one not_open N c p q (k, e, h, f) (k', e', h', f') = inl (f ∙ ap at (some_same k k' (sym e ∙ e')) ∙ sym f')
place_one no_timetable N c p q (K, s, a, T, e) (K', s', a', T', e') = inr (s, s', refl, e, e')

-- Orders

first_one : (N : Net) (c : Call) (xs : List Refusal) (r s : Refusal) (p q : Place) → FirstFails N c xs r p → FirstFails N c xs s q → (x : Refusal) × (r ≡ x) × (s ≡ x) × Fails x N c p × Fails x N c q
first_one N c [] r s p q a b = absurd a
first_one N c (x ∷ xs) r s p q (inl (e, a)) (inl (f, b)) = (x, e, f, a, b)
first_one N c (x ∷ xs) r s p q (inl (e, a)) (inr (h, b)) = absurd (h p a)
first_one N c (x ∷ xs) r s p q (inr (h, a)) (inl (f, b)) = absurd (h q b)
first_one N c (x ∷ xs) r s p q (inr (h, a)) (inr (k, b)) = first_one N c xs r s p q a b

not_both : (N : Net) (c : Call) (xs : List Refusal) (r : Refusal) (p : Place) → AllPass N c xs → FirstFails N c xs r p → ⊥
not_both N c [] r p a f = f
not_both N c (x ∷ xs) r p (h, a) (inl (e, f)) = h p f
not_both N c (x ∷ xs) r p (h, a) (inr (k, f)) = not_both N c xs r p a f

-- Values

counted_one : (f : List ℕ → Link → ℤ) (x x' : List ℕ) (l l' : Link) (n n' : ℕ) → x ≡ x' → l ≡ l' → f x l ≡ pos n → f x' l' ≡ pos n' → n ≡ n'
counted_one f x x' l l' n n' e g h h' = cc

tells_one : (N : Net) (q : Question) (a b : Answer) → Tells N q a → Tells N q b → a ≡ b
tells_one N (start_of i) a b (s, L, e) (s', L', e') = e ∙ ap (λ z. value (get_or z i 0)) (least_one_lem N s s' L L') ∙ sym e'
tells_one N (period_of i) a b e e' = e ∙ sym e'
tells_one N (stock_at k t) a b (s, l, n, L, o, h, e) (s', l', n', L', o', h', e') =
    e ∙ ap value (counted_one (λ x l. stock N (whole x) l t) s s' l l' n n' (least_one_lem N s s' L L') (some_same l l' (sym o ∙ o')) h h') ∙ sym e'
tells_one N (taken_at k t) a b (s, l, n, L, o, h, e) (s', l', n', L', o', h', e') =
    e ∙ ap value (counted_one (λ x l. taken N (whole x) l t) s s' l l' n n' (least_one_lem N s s' L L') (some_same l l' (sym o ∙ o')) h h') ∙ sym e'
tells_one N (link_at k) a b (l, o, e) (l', o', e') = e ∙ ap ends_and_terms (some_same l l' (sym o ∙ o')) ∙ sym e'
tells_one N (duration_of i) a b e e' = e ∙ sym e'
tells_one N (rate_of i) a b e e' = e ∙ sym e'
tells_one N pace_held a b e e' = e ∙ sym e'
tells_one N pace_fastest a b (A, B, F, e) (A', B', F', e') = let g = fastest_one_lem N A B A' B' F F' in e ∙ ap (λ z. fraction z B) g.0 ∙ ap (fraction A') g.1 ∙ sym e'
tells_one N timetable_shown a b (s, L, e) (s', L', e') = e ∙ ap (λ z. timetable z (periods_of N)) (least_one_lem N s s' L L') ∙ sym e'

value_one : (N : Net) (c : Call) (a b : Answer) → Value N c a → Value N c b → a ≡ b
value_one N (load s n) a b e f = e ∙ sym f
value_one N (open_link k l n) a b e f = e ∙ sym f
value_one N (close k) a b e f = e ∙ sym f
value_one N (put s n) a b e f = e ∙ sym f
value_one N (ask q) a b e f = tells_one N q a b e f

-- Answers

refused_one : (a b : Answer) (r s x : Refusal) (p q : Place) → a ≡ refused (number_of r) p → b ≡ refused (number_of s) q → r ≡ x → s ≡ x → OnePlace x p q → Same a b
refused_one a b r s x p q ea eb er es (inl e) = inl (ea ∙ ap (λ z. refused (number_of z) p) (er ∙ sym es) ∙ ap (refused (number_of s)) e ∙ sym eb)
refused_one a b r s x p q ea eb er es (inr (c, d, t, e, f)) =
    inr (c, d, ea ∙ ap (λ z. refused (number_of z) p) (er ∙ t) ∙ ap (refused 20) e, eb ∙ ap (λ z. refused (number_of z) q) (es ∙ t) ∙ ap (refused 20) f)

one : (N : Net) (c : Call) (a b : Answer) (K L : Net) → Answered N c a K → Answered N c b L → Same a b × (K ≡ L)
one N c a b K L (inl R) (inl S) =
    let f = first_one N c (order c) R.check S.check R.place S.place R.fails S.fails in (
      refused_one a b R.check S.check f.0 R.place S.place R.answer S.answer f.1 f.2 (place_one f.0 N c R.place S.place f.3 f.4),
      R.unchanged ∙ sym S.unchanged,
    )
one N c a b K L (inl R) (inr B) = absurd (not_both N c (order c) R.check R.place B.passes R.fails)
one N c a b K L (inr A) (inl S) = absurd (not_both N c (order c) S.check S.place A.passes S.fails)
one N c a b K L (inr A) (inr B) = (inl (value_one N c a b A.answer B.answer), after_one N c K L (own_pass N c A.passes) A.after B.after)

runs_one : (N N₁ : Net) → N ≡ N₁ → (cs : List Call) (xs ys : List Answer) (K L : Net) → Ran N cs xs K → Ran N₁ cs ys L → AllSame xs ys × (K ≡ L)
runs_one N N₁ e [] xs ys K L none none = (tt, e)
runs_one N N₁ e (c ∷ cs) [] ys K L h k = elim h [ ]
runs_one N N₁ e (c ∷ cs) (a ∷ xs) [] K L h k = elim k [ ]
runs_one N N₁ e (c ∷ cs) (a ∷ xs) (b ∷ ys) K L (more {L' = N'} h r) (more {L' = N₁'} k s) =
    let o = one N₁ c a b N' N₁' (subst (λ z. Answered z c a N') e h) k in
    let t = runs_one N' N₁' o.1 cs xs ys K L r s in
    ((o.0, t.0), t.1)

pub deterministic : Deterministic
deterministic = (one, λ N cs xs ys K L. runs_one N N refl cs xs ys K L)
