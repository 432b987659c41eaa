-- What a call is answered, and what a run of calls is. Assumes nothing.
use Rattle.std.specs.Prelude.{◌≡◌, ℕ, ◌*◌, ◌⊎◌, List, [], ◌∷◌, ◌++◌, map, length, drop, pos, slice_index}
use Rattle.rules.specs.Net.{Link, Net, duration, rate, Open, whole}
use Rattle.rules.specs.Rules.{Least, stock, taken}
use Rattle.rules.specs.Paces.{Fastest}
use Rattle.nets.specs.declared.CircuitStep.{CircuitStep}
use Rattle.ledger.specs.Calls.{Question, start_of, period_of, stock_at, taken_at, link_at, duration_of, rate_of, pace_held, pace_fastest, timetable_shown, Call, load, open_link, close, put, ask, Place, nowhere, at, in_text, around, Answer, refused, done, value, fraction, ends_and_terms, timetable}
use Rattle.ledger.specs.Checks.{Refusal, number_of, order, Fails}
use Rattle.ledger.specs.States.{After}

-- The periods of the stations: A ticks for each share of their rates.
abbrev pub periods_of : Net → List ℕ
periods_of L = map (λ z. L.A * z) L.rates

-- The answer to a question. Starts are those of the least timetable, and stock and taken space are counted in it.
abbrev pub Tells : Net → Question → Answer → Type 0
Tells L (start_of i) a = (starts : List ℕ) × Least L starts × (a ≡ value (slice_index starts i))
Tells L (period_of i) a = a ≡ value (L.A * rate L i)
Tells L (stock_at k t) a = (starts : List ℕ) × (l : Link) × (n : ℕ) × Least L starts × Open L k l × (stock L (whole starts) l t ≡ pos n) × (a ≡ value n)
Tells L (taken_at k t) a = (starts : List ℕ) × (l : Link) × (n : ℕ) × Least L starts × Open L k l × (taken L (whole starts) l t ≡ pos n) × (a ≡ value n)
Tells L (link_at k) a = (l : Link) × Open L k l × (a ≡ ends_and_terms l)
Tells L (duration_of i) a = a ≡ value (duration L i)
Tells L (rate_of i) a = a ≡ value (rate L i)
Tells L pace_held a = a ≡ fraction L.A L.B
Tells L pace_fastest a = (A : ℕ) × (B : ℕ) × Fastest L A B × (a ≡ fraction A B)
Tells L timetable_shown a = (starts : List ℕ) × Least L starts × (a ≡ timetable starts (periods_of L))

-- The answer to a call that passes its checks: a change is done, a question is told.
abbrev pub Value : Net → Call → Answer → Type 0
Value L (load s n) a = a ≡ done
Value L (open_link k l n) a = a ≡ done
Value L (put s n) a = a ≡ done
Value L (close k) a = a ≡ done
Value L (ask q) a = Tells L q a

-- A check passes where it fails at no place.
abbrev pub Passes : Net → Call → Refusal → Type 0
Passes L c r = (p : Place) → Fails r L c p → ⊥

abbrev pub AllPass : Net → Call → List Refusal → Type 0
AllPass L c [] = Unit {0}
AllPass L c (r ∷ rs) = Passes L c r × AllPass L c rs

-- Of these checks, in this order, r is the first that fails, and it fails at p.
abbrev pub FirstFails : Net → Call → List Refusal → Refusal → Place → Type 0
FirstFails L c [] r p = ⊥
FirstFails L c (x ∷ xs) r p = ((r ≡ x) × Fails x L c p) ⊎ (Passes L c x × FirstFails L c xs r p)

-- A refused call is told the first check that fails, and changes nothing.
pub record Refused (L : Net) (c : Call) (a : Answer) (L' : Net) : Type 0 where
  pub check : Refusal
  pub place : Place
  pub fails : FirstFails L c (order c) check place
  pub answer : a ≡ refused (number_of check) place
  pub unchanged : L' ≡ L

-- An accepted call passes all its checks.
pub record Accepted (L : Net) (c : Call) (a : Answer) (L' : Net) : Type 0 where
  pub passes : AllPass L c (order c)
  pub after : After L c L'
  pub answer : Value L c a

abbrev pub Answered : Net → Call → Answer → Net → Type 0
Answered L c a L' = Refused L c a L' ⊎ Accepted L c a L'

-- What the caller's list holds after the call: the circuit that is told, and behind it what it held; on every other outcome what it held.
abbrev pub list_after : Answer → List CircuitStep → List CircuitStep
list_after (refused n nowhere) xs = xs
list_after (refused n (at k)) xs = xs
list_after (refused n (in_text k o)) xs = xs
list_after (refused n (around s)) xs = s ++ drop (length s) xs
list_after done xs = xs
list_after (value n) xs = xs
list_after (fraction A B) xs = xs
list_after (ends_and_terms l) xs = xs
list_after (timetable starts periods) xs = xs

-- The calls one after another, from the state L to the state L'.
pub data Ran : Net → List Call → List Answer → Net → Type 0 where
  none : {L : Net} → Ran L [] [] L
  more : {L L' L'' : Net} {c : Call} {cs : List Call} {a : Answer} {rs : List Answer} → Answered L c a L' → Ran L' cs rs L'' → Ran L (c ∷ cs) (a ∷ rs) L''
