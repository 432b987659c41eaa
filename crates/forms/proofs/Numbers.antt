-- What stands where a number is looked for.
use Rattle.std.proofs.Common.{◌≡◌, ℕ, zero, suc, ◌+◌, ◌-◌, ◌*◌, ◌/◌, ◌%◌, ◌^◌, ◌<◌, ◌≤◌, Bool, true, false, eqb, List, [], ◌∷◌, ◌++◌, map, length, get_or, decimal, sym, refl, ap, ◌∙◌, subst, ⊎_elim, append_assoc, append-nil, arith}
use mathlib.Core.List.{map-append}
use lib.ListN.{length-map}
use Rattle.std.specs.List.{prefix_len}
use Rattle.std.specs.Int.Digits.{digits_of, number_from_digits_after, number_from_digits as number_of, AllBelowBase}
use Rattle.std.proofs.lemmas.Int.Digits.{digits_of_step, all_below_base_digits_of, first_digits_of, number_digits_of, number_after_ge}
use Rattle.std.proofs.lemmas.Fmt.{decimal-digits_of, decimal_digit}
use Rattle.std.proofs.lemmas.Bool.{cases_Bool, cases_eq, cases_lt, lt-ltb, le-ltb, ne_eqb}
use Rattle.std.proofs.lemmas.Bool.Decides.{nat_tests}
use Rattle.forms.specs.Marks.{is_digit, spell, numeral, digit_first, value_on, none, led, number, number_at}

abbrev byte_of : ℕ → ℕ
byte_of d = 48 + d

digit_byte : (d : ℕ) → d < 10 → is_digit (48 + d) ≡ true
digit_byte d h = grind (arith, nat_tests)

-- digits, and then no digit
value_digits : (m : ℕ) (ds t : List ℕ) → AllBelowBase 10 ds → digit_first t ≡ false → value_on m (map byte_of ds ++ t) ≡ number_from_digits_after 10 m ds
value_digits m [] [] u h = refl
value_digits m [] (c ∷ t) u h = simp h
value_digits m (d ∷ ds) t u h =
    let e = digit_byte d u.0 in
    let s : 48 + d - 48 ≡ d = omega arith in
    simp (e, s) (value_digits (m * 10 + d) ds t u.1 h)

leading_digits : (ds t : List ℕ) → AllBelowBase 10 ds → digit_first t ≡ false → prefix_len is_digit (map byte_of ds ++ t) ≡ length ds
leading_digits [] [] u h = refl
leading_digits [] (c ∷ t) u h = simp h
leading_digits (d ∷ ds) t u h =
    let e = digit_byte d u.0 in
    simp e (omega (arith, leading_digits ds t u.1 h))

-- every text is digits and then no digit
split_digits : (cs : List ℕ) → (ds : List ℕ) × (t : List ℕ) × (cs ≡ map byte_of ds ++ t) × AllBelowBase 10 ds × (digit_first t ≡ false)
split_digits [] = ([], [], refl, tt, refl)
split_digits (c ∷ cs) =
    ⊎_elim
    (λ y.
    let r = split_digits cs in
    let d : c ≡ 48 + (c - 48) = grind (arith, nat_tests) in
    let l : c - 48 < 10 = grind (arith, nat_tests) in
    ((c - 48) ∷ r.0, r.1, cc (d, r.2), (l, r.3), r.4))
    (λ n. ([], c ∷ cs, refl, tt, n))
    (cases_Bool (is_digit c))

digitsOf_one : (d : ℕ) → 0 < d → d < 10 → digits_of 10 d ≡ d ∷ []
digitsOf_one d p l =
    let q : d / 10 ≡ 0 = omega arith in
    let r : d % 10 ≡ d = omega arith in
    digits_of_step 10 d (omega arith) p ∙ simp (q, r)

-- the digits of a number that digits were added to
digitsOf_after : (m : ℕ) (ds : List ℕ) → 0 < m → AllBelowBase 10 ds → digits_of 10 (number_from_digits_after 10 m ds) ≡ digits_of 10 m ++ ds
digitsOf_after m [] p u = sym (append-nil (digits_of 10 m))
digitsOf_after m (d ∷ ds) p u =
    let q : (m * 10 + d) / 10 ≡ m = omega (arith, u.0) in
    let r : (m * 10 + d) % 10 ≡ d = omega (arith, u.0) in
    digitsOf_after (m * 10 + d) ds (omega arith) u.1 ∙ ap (λ l. l ++ ds) (digits_of_step 10 (m * 10 + d) (omega arith) (omega arith)) ∙ simp (q, r, append_assoc)

-- a number's spelling is read as the number, where no digit follows it
number_digits : (v : ℕ) (t l : List ℕ) → digit_first t ≡ false → 0 < get_or l 0 0 → AllBelowBase 10 l → number_of 10 l ≡ v → number_at (map byte_of l ++ t) ≡ number v (length (map byte_of l))
unfolding number_at
number_digits v t [] h p u e = absurd (omega arith)
number_digits v t (d ∷ ds) h p u e =
    let y = digit_byte d u.0 in
    let n : eqb (48 + d) 48 ≡ false = ne_eqb (48 + d) 48 (omega arith) in
    let s : 48 + d - 48 ≡ d = omega arith in
    let w : value_on d (map byte_of ds ++ t) ≡ v = value_digits d ds t u.1 h ∙ ap (λ m. number_from_digits_after 10 m ds) (omega arith) ∙ e in
    let c : 1 + prefix_len is_digit (map byte_of ds ++ t) ≡ length (map byte_of (d ∷ ds)) = simp length-map (omega (arith, leading_digits ds t u.1 h)) in
    simp (y, n, s, w) (ap (number v) c)

-- the spelling by the digits of the shelf
spell_small : (k n : ℕ) (acc : List ℕ) → n < 10 → spell (suc k) n acc ≡ (48 + n) ∷ acc
spell_small k n acc h =
    let g : Bool → List ℕ = λ x. elim x [ true ↦ (48 + n) ∷ acc | false ↦ spell k (n / 10) ((48 + n % 10) ∷ acc) ] in
    ap g (lt-ltb n 10 h)

spell_large : (k n : ℕ) (acc : List ℕ) → 10 ≤ n → spell (suc k) n acc ≡ spell k (n / 10) ((48 + n % 10) ∷ acc)
spell_large k n acc h =
    let g : Bool → List ℕ = λ x. elim x [ true ↦ (48 + n) ∷ acc | false ↦ spell k (n / 10) ((48 + n % 10) ∷ acc) ] in
    ap g (le-ltb n 10 h)

spell_pos : (k n : ℕ) (acc : List ℕ) → 0 < n → n < k → spell k n acc ≡ map byte_of (digits_of 10 n) ++ acc
spell_pos zero n acc p l = absurd (omega arith)
spell_pos (suc k) n acc p l =
    ⊎_elim
    (λ h. spell_small k n acc h ∙ ap (λ ds. map byte_of ds ++ acc) (sym (digitsOf_one n p h)))
    (λ h.
    spell_large k n acc h ∙ spell_pos k (n / 10) ((48 + n % 10) ∷ acc) (omega arith) (omega arith)
    ∙ sym (append_assoc (map byte_of (digits_of 10 (n / 10))) ((48 + n % 10) ∷ []) acc)
    ∙ ap (λ ds. ds ++ acc) (sym (map-append byte_of (digits_of 10 (n / 10)) (n % 10 ∷ [])))
    ∙ ap (λ ds. map byte_of ds ++ acc) (sym (digits_of_step 10 n (omega arith) p)))
    (cases_lt n 10)

numeral_pos : (v : ℕ) → 0 < v → numeral v ≡ map byte_of (digits_of 10 v)
unfolding numeral
numeral_pos v p = spell_pos (suc v) v [] p (omega arith) ∙ append-nil (map byte_of (digits_of 10 v))

pub numeral_zero : numeral 0 ≡ 48 ∷ []
unfolding numeral
numeral_zero = refl

pub numeral_decimal : (n : ℕ) → n < 2 ^ 64 → numeral n ≡ decimal n
numeral_decimal n h =
    ⊎_elim
    (λ z. subst (λ x. numeral x ≡ decimal x) (sym z) (numeral_zero ∙ sym (decimal_digit 0 (omega arith))))
    (λ m. let p : 0 < n = omega arith in numeral_pos n p ∙ sym (decimal-digits_of n p h))
    (cases_eq n 0)

pub led_read : (d : ℕ) (ds : List ℕ) → is_digit d ≡ true → number_at (48 ∷ d ∷ ds) ≡ led
unfolding number_at
led_read d ds y = simp y

zero_read : (t : List ℕ) → digit_first t ≡ false → number_at (48 ∷ t) ≡ number 0 1
unfolding number_at
zero_read t h = simp h

pub number_numeral : (v : ℕ) (t : List ℕ) → digit_first t ≡ false → number_at (numeral v ++ t) ≡ number v (length (numeral v))
number_numeral v t h =
    ⊎_elim
    (λ z. subst (λ x. number_at (numeral x ++ t) ≡ number x (length (numeral x))) (sym z) (rw numeral_zero (zero_read t h)))
    (λ n.
    let p : 0 < v = omega arith in
    rw numeral_pos (number_digits v t (digits_of 10 v) h (first_digits_of 10 v (omega arith) p) (all_below_base_digits_of 10 v (omega arith)) (number_digits_of 10 v (omega arith))))
    (cases_eq v 0)

-- the ways in which a text can begin where a number is looked for
pub data View : List ℕ → Type 0 where
  no_number : (cs : List ℕ) → digit_first cs ≡ false → number_at cs ≡ none → View cs
  zero_led : (d : ℕ) (ds : List ℕ) → is_digit d ≡ true → number_at (48 ∷ d ∷ ds) ≡ led → View (48 ∷ d ∷ ds)
  a_number : (v : ℕ) (t : List ℕ) → digit_first t ≡ false → View (numeral v ++ t)

view_at : (cs cs' : List ℕ) → cs ≡ cs' → View cs' → View cs
view_at cs cs' e w = rw e w

view_zero : (cs : List ℕ) → View (48 ∷ cs)
unfolding number_at
view_zero [] = view_at (48 ∷ []) (numeral 0 ++ []) (rw numeral_zero) (a_number 0 [] refl)
view_zero (d ∷ ds) =
    ⊎_elim
    (λ y. zero_led d ds y (simp y))
    (λ n. view_at (48 ∷ d ∷ ds) (numeral 0 ++ d ∷ ds) (rw numeral_zero) (a_number 0 (d ∷ ds) n))
    (cases_Bool (is_digit d))

view_nonzero : (c : ℕ) (cs : List ℕ) → is_digit c ≡ true → (c ≡ 48 → ⊥) → View (c ∷ cs)
view_nonzero c cs y n =
    let r = split_digits cs in
    let b : c ≡ 48 + (c - 48) = grind (arith, nat_tests) in
    let p : 0 < c - 48 = grind (arith, nat_tests) in
    let l : c - 48 < 10 = grind (arith, nat_tests) in
    let v = number_from_digits_after 10 (c - 48) r.0 in
    let e : digits_of 10 v ≡ (c - 48) ∷ r.0 = digitsOf_after (c - 48) r.0 p r.3 ∙ ap (λ l. l ++ r.0) (digitsOf_one (c - 48) p l) in
    let g : 0 < v = omega (arith, number_after_ge 10 (c - 48) r.0 (omega arith)) in
    view_at (c ∷ cs) (numeral v ++ r.1) (let same : c ∷ cs ≡ map byte_of ((c - 48) ∷ r.0) ++ r.1 = cc (b, r.2) in same ∙ sym (rw (numeral_pos v g, e))) (a_number v r.1 r.4)

pub view : (cs : List ℕ) → View cs
unfolding number_at
view [] = no_number [] refl refl
view (c ∷ cs) =
    ⊎_elim
    (λ y. ⊎_elim (λ z. view_at (c ∷ cs) (48 ∷ cs) (ap (λ x. x ∷ cs) z) (view_zero cs)) (λ n. view_nonzero c cs y n) (cases_eq c 48))
    (λ n. no_number (c ∷ cs) n (simp n))
    (cases_Bool (is_digit c))

-- a number's spelling begins with a digit
pub numeral_first : (v : ℕ) (t : List ℕ) → digit_first (numeral v ++ t) ≡ true
numeral_first v t =
    ⊎_elim
    (λ z. subst (λ x. digit_first (numeral x ++ t) ≡ true) (sym z) (rw numeral_zero))
    (λ n.
    let p : 0 < v = omega arith in
    rw numeral_pos (first_digit (digits_of 10 v) t (first_digits_of 10 v (omega arith) p) (all_below_base_digits_of 10 v (omega arith))))
    (cases_eq v 0)
  where
    first_digit : (l t : List ℕ) → 0 < get_or l 0 0 → AllBelowBase 10 l → digit_first (map byte_of l ++ t) ≡ true
    first_digit [] t p u = absurd (omega arith)
    first_digit (d ∷ ds) t p u = digit_byte d u.0
