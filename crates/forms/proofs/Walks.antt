-- The texts of a form, by recursion on the form.
use Rattle.std.proofs.Common.{◌≡◌, ℕ, suc, ◌+◌, ◌≤◌, false, ◌⊎◌, List, [], ◌∷◌, ◌++◌, length, take, Some, None, Option}
use Rattle.forms.specs.Marks.{is_digit, numeral, digit_first}
use Rattle.forms.specs.Form.{fine, out, Form, done, mark, numb, dash_or, Outcome, got, broken, refused}
use Rattle.forms.specs.Pieces.{Piece, byte, num}

-- t is a text of the form, with fine numbers, and tells a
abbrev pub Spells : {F A : Type 0} → Form F A → A → List ℕ → Type 0
Spells (done x) a t = (a ≡ x) × (t ≡ [])
Spells (mark b k) a t = (t' : List ℕ) × (t ≡ b ∷ t') × Spells k a t'
Spells (numb j k) a t = (v : ℕ) × (t' : List ℕ) × (t ≡ numeral v ++ t') × (j v ≡ fine) × Spells (k v) a t'
Spells (dash_or j k) a t =
    ((t' : List ℕ) × (t ≡ 45 ∷ t') × Spells (k None) a t')
    ⊎ ((v : ℕ) × (t' : List ℕ) × (t ≡ numeral v ++ t') × (j v ≡ fine) × Spells (k (Some v)) a t')

-- the same form, where a number of any size is fine
abbrev pub loose : {F A : Type 0} → Form F A → Form F A
loose (done a) = done a
loose (mark b k) = mark b (loose k)
loose (numb j k) = numb (λ _. fine) (λ v. loose (k v))
loose (dash_or j k) = dash_or (λ _. fine) (λ v. loose (k v))

-- some text of the form, with numbers of any size, begins with s
abbrev pub Begins : {F A : Type 0} → Form F A → List ℕ → Type 0
Begins {F} {A} f s = (a : A) × (u : List ℕ) × Spells (loose f) a (s ++ u)

-- p is the length of the longest beginning of t with which some text of the form begins
abbrev pub Longest : {F A : Type 0} → Form F A → List ℕ → ℕ → Type 0
Longest f t p = (p ≤ length t) × Begins f (take p t) × ((n : ℕ) → n ≤ length t → Begins f (take n t) → n ≤ p)

-- t goes along the form, with fine numbers, up to a number at p that is complete and is refused under m
abbrev pub Refuses : {F A : Type 0} → Form F A → List ℕ → F → ℕ → Type 0
Refuses (done x) t m p = ⊥
Refuses (mark b k) t m p = (t' : List ℕ) × (q : ℕ) × (t ≡ b ∷ t') × (p ≡ suc q) × Refuses k t' m q
Refuses (numb j k) t m p =
    (v : ℕ) × (t' : List ℕ) × (t ≡ numeral v ++ t') × (digit_first t' ≡ false)
    × (((j v ≡ out m) × (p ≡ 0)) ⊎ ((q : ℕ) × (j v ≡ fine) × (p ≡ length (numeral v) + q) × Refuses (k v) t' m q))
Refuses (dash_or j k) t m p =
    ((t' : List ℕ) × (q : ℕ) × (t ≡ 45 ∷ t') × (p ≡ suc q) × Refuses (k None) t' m q)
    ⊎ ((v : ℕ) × (t' : List ℕ) × (t ≡ numeral v ++ t') × (digit_first t' ≡ false)
    × (((j v ≡ out m) × (p ≡ 0)) ⊎ ((q : ℕ) × (j v ≡ fine) × (p ≡ length (numeral v) + q) × Refuses (k (Some v)) t' m q)))

-- in a form, what follows a number begins with no digit
abbrev pub Stops : {F A : Type 0} → Form F A → Type 0
Stops (done a) = Unit {0}
Stops (mark b k) = is_digit b ≡ false
Stops (numb j k) = ⊥
Stops (dash_or j k) = ⊥

abbrev pub Apart : {F A : Type 0} → Form F A → Type 0
Apart (done a) = Unit {0}
Apart (mark b k) = Apart k
Apart (numb j k) = (v : ℕ) → Stops (k v) × Apart (k v)
Apart (dash_or j k) = (v : Option ℕ) → Stops (k v) × Apart (k v)

-- What an outcome says of a text: it is the text of what was read; or it leaves the form at p, which is as far as a text
-- of the form goes along with it, and no number before is refused; or the number at p is refused, all before it being fine.
abbrev pub Tells : {F A : Type 0} → Form F A → List ℕ → Outcome F A → Type 0
Tells f t (got a) = Spells f a t
Tells {F} {A} f t (broken p) =
    Longest f t p × ((a : A) → Spells f a t → ⊥) × ((m : F) (q : ℕ) → Refuses f t m q → ⊥)
Tells f t (refused m p) = Refuses f t m p

-- the pieces of a text of the form that tells a; the numbers have any size
abbrev pub Along : {F A : Type 0} → Form F A → A → List (Piece F) → Type 0
Along (done x) a ps = (a ≡ x) × (ps ≡ [])
Along {F} (mark b k) a ps = (qs : List (Piece F)) × (ps ≡ byte b ∷ qs) × Along k a qs
Along {F} (numb j k) a ps = (v : ℕ) × (qs : List (Piece F)) × (ps ≡ num v (j v) ∷ qs) × Along (k v) a qs
Along {F} (dash_or j k) a ps =
    ((qs : List (Piece F)) × (ps ≡ byte 45 ∷ qs) × Along (k None) a qs)
    ⊎ ((v : ℕ) × (qs : List (Piece F)) × (ps ≡ num v (j v) ∷ qs) × Along (k (Some v)) a qs)
