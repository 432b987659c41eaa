-- What a call's faults tell, as the ledger has it. Assumes nothing.
use Rattle.std.specs.Prelude.{ℕ, cond, ◌||◌, Ok, Err, Result, nat_lt}
use Rattle.rules.specs.Net.{Net}
use Rattle.ledger.specs.Calls.{Call, at, Answer, refused}
use Rattle.ledger.specs.Checks.{Refusal, out_of_range, too_full, unbalanced, in_use, not_open, number_of, own_checks}
use Rattle.ledger.specs.Runs.{FirstFails}
use Rattle.checks.specs.declared.fault.CallFault.{CallFault}
use Rattle.checks.specs.declared.fault.CallFault.TheVariants.{Range, Capacity, Unbalanced, InUse, NotOpen}

-- The check that fails, and the place that is told.
abbrev pub check_of : CallFault → Refusal
check_of (Range which) = out_of_range
check_of (Capacity link) = too_full
check_of (Unbalanced link) = unbalanced
check_of (InUse link) = in_use
check_of (NotOpen link) = not_open

abbrev pub place_of : CallFault → ℕ
place_of (Range which) = which
place_of (Capacity link) = link
place_of (Unbalanced link) = link
place_of (InUse link) = link
place_of (NotOpen link) = link

abbrev pub told_of : CallFault → ℕ × ℕ
told_of f = (number_of (check_of f), place_of f)

abbrev pub refusal_of : CallFault → Answer
refusal_of f = refused (number_of (check_of f)) (at (place_of f))

-- The fault is the first of the call's own checks that fails.
abbrev pub Faulted : Net → Call → CallFault → Type 0
Faulted L c f = FirstFails L c (own_checks c) (check_of f) (at (place_of f))

-- What the ledger is told: what the call's value is to it, or the refusal.
abbrev pub answer_of : {X : Type 0} → (X → Answer) → Result X CallFault → Answer
answer_of tell (Ok x) = tell x
answer_of tell (Err f) = refusal_of f

-- A number is fine where it lies from low to high.
abbrev pub judged : ℕ → ℕ → ℕ → ℕ → Result (Unit {0}) CallFault
judged which low high value = cond (nat_lt value low || nat_lt high value) (Err (Range which)) (Ok tt)
