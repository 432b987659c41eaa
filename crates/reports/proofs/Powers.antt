-- The powers of ten from 1 on, the count of a number's digits by them, and its digits from the last to the first.
use Rattle.std.proofs.Common.{◌≡◌, ℕ, zero, suc, ◌+◌, ◌*◌, ◌/◌, ◌%◌, ◌^◌, ◌<◌, ◌≤◌, List, [], ◌∷◌, ◌++◌, ◌-◌, map, length, get_or, drop, set, decimal, refl, sym, ap, ◌∙◌, arith}
use Rattle.std.proofs.Math.Nat.{pow-succ'}
use Rattle.std.proofs.lemmas.List.{append_assoc, get_or-map, length-map, length_push, drop-set}
use Rattle.std.proofs.lemmas.Fmt.{decimal_digit, decimal_step}

abbrev pub tens : ℕ → List ℕ
tens zero = []
tens (suc w) = 1 ∷ map (λ p. 10 * p) (tens w)

pub length-tens : (w : ℕ) → length (tens w) ≡ w
length-tens zero = refl
length-tens (suc w) = ap suc (length-map (tens w) (λ p. 10 * p) ∙ length-tens w)

pub entry : (n k d : ℕ) → k < n → get_or (tens n) k d ≡ 10 ^ k
entry zero k d h = absurd (omega arith)
entry (suc n) zero d h = refl
entry (suc n) (suc k) d h = get_or-map (λ p. 10 * p) (tens n) k 0 d (omega (arith, length-tens n)) ∙ ap (λ p. 10 * p) (entry n k 0 (omega arith)) ∙ sym (pow-succ' 10 k)

-- k powers up to n / 10, and none more: n has one digit for each, and its last
pub width : (k n : ℕ) → n < 2 ^ 64 → ((j : ℕ) → j < k → 10 ^ j ≤ n / 10) → n / 10 < 10 ^ k → length (decimal n) ≡ k + 1
width zero n small low high = ap length (decimal_digit n (omega arith))
width (suc k) n small low high =
    let first = low 0 (omega arith) in
    let step = decimal_step n (omega arith) small in
    let rest = width k (n / 10) (omega arith) (λ j l. omega (arith, low (suc j) (omega arith), pow-succ' 10 j)) (omega (arith, pow-succ' 10 k)) in
    omega (arith, rest, ap length step, length_push (decimal (n / 10)) (48 + n % 10))

pub single : (n k : ℕ) → n < 10 → k ≡ length (decimal n) → k ≡ 1
single n k one long = long ∙ ap length (decimal_digit n one)

-- the digits of a tenth are one less
pub shorter : (n k : ℕ) → n < 2 ^ 64 → 10 ≤ n → k ≡ length (decimal n) → k - 1 ≡ length (decimal (n / 10))
shorter n k small ten long = omega (arith, long, ap length (decimal_step n ten small), length_push (decimal (n / 10)) (48 + n % 10))

-- the last digit, set before those from place k on, leaves the digits of the tenth
pub digit_on : (n k : ℕ) (ds : List ℕ) → n < 2 ^ 64 → 10 ≤ n → 1 ≤ k → k ≤ length ds → decimal n ++ drop k ds ≡ decimal (n / 10) ++ drop (k - 1) (set ds (k - 1) (48 + n % 10))
digit_on n k ds small ten some within =
    let e : k - 1 + 1 ≡ k = omega arith in
    ap (λ q. q ++ drop k ds) (decimal_step n ten small) ∙ append_assoc (decimal (n / 10)) ((48 + n % 10) ∷ []) (drop k ds)
    ∙ ap (λ t. decimal (n / 10) ++ t) (sym (drop-set ds (k - 1) (48 + n % 10) (omega arith) ∙ ap (λ j. (48 + n % 10) ∷ drop j ds) e))

pub digit_first : (n : ℕ) (ds : List ℕ) → n < 10 → 1 ≤ length ds → decimal n ++ drop 1 ds ≡ set ds 0 (48 + n)
digit_first n ds one some = ap (λ q. q ++ drop 1 ds) (decimal_digit n one) ∙ sym (drop-set ds 0 (48 + n) (omega arith))
