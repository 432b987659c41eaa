-- The bytes of a report. Assumes nothing.
use Rattle.std.specs.Prelude.{ℕ, List, ◌∷◌, ◌++◌, length, Some, None, codes, decimal, Option}
use Rattle.std.specs.List.{flat_map}
use Rattle.std.specs.Fmt.{signed_decimal}
use Rattle.nets.specs.declared.Step.{Step}
use Rattle.nets.specs.declared.Step.TheVariants.{Forward, Back, Own}
use Rattle.nets.specs.declared.CircuitStep.{CircuitStep}

-- A step: f or b and the link's number, or o and the station's.
abbrev pub step_bytes : Step → List ℕ
step_bytes (Forward k) = codes "f" ++ decimal k
step_bytes (Back k) = codes "b" ++ decimal k
step_bytes (Own i) = codes "o" ++ decimal i

-- Each after a space.
abbrev pub spaced : {X : Type 0} → (X → List ℕ) → List X → List ℕ
spaced f xs = flat_map (λ x. 32 ∷ f x) xs

-- A line of a name and what follows it.
abbrev pub line : List ℕ → List ℕ → List ℕ
line name rest = name ++ rest ++ codes "\n"

-- A timetable: the number of stations, then the starts and the periods, a line each.
abbrev pub timetable_bytes : ℕ → List ℕ → List ℕ → List ℕ
timetable_bytes n starts periods =
    line (codes "timetable ") (decimal n) ++ line (codes "starts") (spaced decimal starts) ++ line (codes "periods") (spaced decimal periods)

-- The refusal for want of a timetable: the number of steps of the circuit, then the steps and their lengths, a line each.
abbrev pub circuit_bytes : List CircuitStep → List ℕ
circuit_bytes c =
    line (codes "refused 20 ") (decimal (length c)) ++ line (codes "steps") (spaced (λ s. step_bytes s.step) c) ++ line (codes "lengths") (spaced (λ s. signed_decimal s.length) c)

-- Any other refusal: its number, and its place where there is one.
abbrev pub place_bytes : Option ℕ → List ℕ
place_bytes None = codes "\n"
place_bytes (Some p) = line (codes " ") (decimal p)

abbrev pub refusal_bytes : ℕ → Option ℕ → List ℕ
refusal_bytes n place = codes "refused " ++ decimal n ++ place_bytes place
