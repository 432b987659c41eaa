-- A number has one spelling, and is read from it.
use Rattle.std.specs.Prelude.{◌≡◌, ℕ, ◌^◌, ◌<◌, false, List, ◌++◌, length, decimal}
use Rattle.forms.specs.Marks.{numeral, digit_first, number, number_at}

-- where no digit follows it, a number's spelling is read as the number, to its end
abbrev pub NumeralsRead : Type 0
NumeralsRead =
    (v : ℕ) (t : List ℕ) → digit_first t ≡ false → number_at (numeral v ++ t) ≡ number v (length (numeral v))

-- what is read as a number is the number's spelling
abbrev pub NumeralsOnly : Type 0
NumeralsOnly =
    (cs : List ℕ) (v n : ℕ) → number_at cs ≡ number v n
    → (t : List ℕ) × (cs ≡ numeral v ++ t) × (n ≡ length (numeral v)) × (digit_first t ≡ false)

-- it is the one that a program prints
abbrev pub NumeralsPrinted : Type 0
NumeralsPrinted = (n : ℕ) → n < 2 ^ 64 → numeral n ≡ decimal n
