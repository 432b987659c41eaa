-- What it takes to pass a check. Assumes nothing.
use Rattle.std.proofs.Common.{◌≡◌, ℕ, ◌*◌, ◌<◌, ◌≤◌, List, get_or, Some, None, Option, sym, ap, ◌∙◌, subst, arith}
use Rattle.handover.proofs.Options.{none_some, some_same}
use Rattle.rules.specs.Net.{Link, Net, Open, rate}
use Rattle.rules.specs.Rules.{HasTimetable}
use Rattle.rules.specs.Rates.{Joined, Rated}
use Rattle.texts.specs.NetText.{Entries}
use Rattle.ledger.specs.Calls.{Source, entries, text, duration_to, stock_to, capacity_to, pace_to, Call, load, open_link, put, close, ask}
use Rattle.ledger.specs.States.{net_of, unrated, entry_link, Gives, with_stock, with_capacity, After}
use Rattle.ledger.specs.Checks.{short_list, too_full, cut_off, no_rates, unbalanced, in_use, not_open, no_timetable, own_checks, order, list_of, Loads, opening, link_of, MakesFull}
use Rattle.ledger.specs.Runs.{Passes, AllPass}
use Rattle.ledger.proofs.Reading.{gives_one, loads_one}
use Rattle.ledger.proofs.Afters.{after_one}

-- The list

pub list_pass : (N : Net) (c : Call) (n : ℕ) → list_of c ≡ Some n → 64 ≤ n → Passes N c short_list
list_pass N c n e h p (m, f, l, g) = omega (arith, some_same n m (sym e ∙ f))

-- The capacities

abbrev pub Roomy : Link → Type 0
Roomy l = (room : ℕ) → l.c ≡ Some room → l.u ≤ room

pub full_pass : (N : Net) (c : Call) → ((k : ℕ) → MakesFull N c k → ⊥) → Passes N c too_full
full_pass N c h p (k, l, e) = h k l.holds

roomy : (l m : Link) (room : ℕ) → Roomy l → m ≡ l → m.c ≡ Some room → room < m.u → ⊥
roomy l m room h e f less = omega (arith, h room (ap (λ z. z.c) (sym e) ∙ f), ap (λ z. z.u) e)

pub load_roomy : (N : Net) (s : Source) (n : ℕ) (e : Entries) → Gives s e → ((k : ℕ) → k < e.sizes.links → Roomy (entry_link e k)) → Passes N (load s n) too_full
load_roomy N s n e g h =
    full_pass N (load s n) (λ k m.
    let d = m.2.0 in
    let same = gives_one s d e m.2.1 g in
    roomy (entry_link e k) m.0 m.1 (h k (subst (λ z. k < z.sizes.links) same m.2.2)) (m.2.3 ∙ ap (λ z. entry_link z k) same) m.3 m.4)

pub open_roomy : (N : Net) (k : ℕ) (l : Link) (n : ℕ) → Roomy l → Passes N (open_link k l n) too_full
open_roomy N k l n h = full_pass N (open_link k l n) (λ i m. roomy l m.0 m.1 h m.2.1 m.3 m.4)

pub stock_roomy : (N : Net) (k u n : ℕ) (l : Link) → Open N k l → Roomy (with_stock l u) → Passes N (put (stock_to k u) n) too_full
stock_roomy N k u n l o h =
    full_pass N (put (stock_to k u) n) (λ i m. roomy (with_stock l u) m.0 m.1 h (m.2.3 ∙ ap (λ z. with_stock z u) (some_same m.2.1 l (sym m.2.2 ∙ o))) m.3 m.4)

pub capacity_roomy : (N : Net) (k : ℕ) (c : Option ℕ) (n : ℕ) (l : Link) → Open N k l → Roomy (with_capacity l c) → Passes N (put (capacity_to k c) n) too_full
capacity_roomy N k c n l o h =
    full_pass N (put (capacity_to k c) n) (λ i m. roomy (with_capacity l c) m.0 m.1 h (m.2.3 ∙ ap (λ z. with_capacity z c) (some_same m.2.1 l (sym m.2.2 ∙ o))) m.3 m.4)

pub duration_roomy : (N : Net) (i d n : ℕ) → Passes N (put (duration_to i d) n) too_full
duration_roomy N i d n = full_pass N (put (duration_to i d) n) (λ k m. m.2)

pub pace_roomy : (N : Net) (A B n : ℕ) → Passes N (put (pace_to A B) n) too_full
pace_roomy N A B n = full_pass N (put (pace_to A B) n) (λ k m. m.2)

-- The links that are open

pub open_pass : (N : Net) (c : Call) (k : ℕ) (l : Link) → link_of c ≡ Some k → Open N k l → Passes N c not_open
open_pass N c k l e o p (h, f, n, g) = none_some l (sym n ∙ subst (λ z. get_or N.links z None ≡ Some l) (some_same k h (sym e ∙ f)) o)

pub none_pass : (N : Net) (c : Call) → link_of c ≡ None → Passes N c not_open
none_pass N c e p (h, f, n, g) = none_some h (sym e ∙ f)

pub free_pass : (N : Net) (c : Call) (k : ℕ) (l : Link) → opening c ≡ Some (k, l) → get_or N.links k None ≡ None → Passes N c in_use
free_pass N c k l e o p (h, m, b, f, n, g) =
    let same : ◌≡◌ {A = ℕ × Link} (k, l) (h, m) = some_same (k, l) (h, m) (sym e ∙ f) in
    none_some b (subst (λ (z : ℕ × Link). None ≡ get_or N.links z.0 None) same (sym o) ∙ n)

-- The rates

pub balanced_pass : (N : Net) (k : ℕ) (l : Link) (n : ℕ) → rate N l.i * l.v ≡ rate N l.j * l.w → Passes N (open_link k l n) unbalanced
balanced_pass N k l n b p (h, m, f, no_balance, g) =
    let same : ◌≡◌ {A = ℕ × Link} (k, l) (h, m) = some_same (k, l) (h, m) f in
    no_balance (subst (λ (z : ℕ × Link). rate N z.1.i * z.1.v ≡ rate N z.1.j * z.1.w) same b)

pub joined_pass : (N : Net) (c : Call) (e : Entries) → Loads c e → Joined (unrated e) → Passes N c cut_off
joined_pass N c e g j p (d, y, f, C, q) = C.apart (subst (λ z. Joined (unrated z)) (loads_one c e d g f) j y C.station)

pub rated_pass : (N : Net) (c : Call) (e : Entries) (Z : List ℕ) → Loads c e → Rated (net_of e Z) → Passes N c no_rates
rated_pass N c e Z g R p (d, f, h, q) = h Z (subst (λ z. Rated (net_of z Z)) (loads_one c e d g f) R)

-- Of all checks, a call's own, and that for a timetable

pub own_pass : (N : Net) (c : Call) → AllPass N c (order c) → AllPass N c (own_checks c)
own_pass N (load (entries e) n) (a, (b, (c, (d, (e', f))))) = (b, (c, (d, (e', tt))))
own_pass N (load (text t) n) (x, (y, (z, (a, (b, (c, (d, (e, f)))))))) = (b, (c, (d, (e, tt))))
own_pass N (open_link k l n) (a, (b, (c, (d, (e, f))))) = (b, (c, (d, (e, tt))))
own_pass N (put s n) (a, (b, (c, (d, f)))) = (b, (c, (d, tt)))
own_pass N (close k) P = P
own_pass N (ask q) P = P

pub last_pass : (N : Net) (c : Call) (n : ℕ) → list_of c ≡ Some n → AllPass N c (order c) → Passes N c no_timetable
last_pass N (load (entries e) n) m h P = P.1.1.1.1.1.0
last_pass N (load (text t) n) m h P = P.1.1.1.1.1.1.1.1.0
last_pass N (open_link k l n) m h P = P.1.1.1.1.1.0
last_pass N (put s n) m h P = P.1.1.1.1.0
last_pass N (close k) m h P = absurd (none_some m h)
last_pass N (ask q) m h P = absurd (none_some m h)

-- The timetable

pub timed_pass : (N : Net) (c : Call) → ((L : Net) → After N c L → HasTimetable L) → Passes N c no_timetable
timed_pass N c h p (L, s, a, T, e) = let t = h L a in T.none t.0 t.1 t.2

pub settled_pass : (N : Net) (c : Call) (K : Net) → AllPass N c (own_checks c) → After N c K → HasTimetable K → Passes N c no_timetable
settled_pass N c K P a t = timed_pass N c (λ L b. subst HasTimetable (after_one N c K L P a b) t)
