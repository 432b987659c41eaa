-- Only station 0 is reached at first, with the number 1. Assumes nothing.
use Rattle.std.proofs.Common.{◌≡◌, ℕ, zero, suc, ◌*◌, ◌≤◌, List, set, replicate, refl, arith, lit≤}
use Rattle.rules.specs.Net.{Net}
use Rattle.rules.specs.Rates.{Leads, stay}
use Rattle.rates.specs.Reaching.{number, Led, Part}

none : (n i : ℕ) → number (replicate n 0) i ≡ 0
none zero i = refl
none (suc n) zero = refl
none (suc n) (suc i) = none n i

abbrev pub start : List ℕ
start = set (replicate 64 0) 0 1

start_led : (N : Net) (y : ℕ) → 1 ≤ number start y → Leads N 0 y
start_led N zero h = stay refl
start_led N (suc y) h = absurd (omega (arith, none 63 y))

pub led_first : (N : Net) → Led N start
led_first N = record { many = refl; begun = lit≤ tt; led = start_led N }

start_most : (i : ℕ) → number start i ≤ 10_000
start_most zero = lit≤ tt
start_most (suc i) = omega (arith, none 63 i)

start_whole : (Y : List ℕ) (i : ℕ) → 1 ≤ number start i → number Y i ≡ number Y 0 * number start i
start_whole Y zero h = omega arith
start_whole Y (suc i) h = absurd (omega (arith, none 63 i))

pub part_first : (N : Net) → Part N start
part_first N = record { many = refl; begun = lit≤ tt; most = start_most; whole = λ Y B. (number Y 0, start_whole Y) }
