-- One step of a reading, at a place of the text.
use Rattle.std.proofs.Common.{◌≡◌, ℕ, ◌+◌, ◌-◌, ◌*◌, ◌^◌, ◌<◌, ◌≤◌, min, Bool, true, false, cond, eqb, List, [], ◌∷◌, length, get_or, drop, Some, None, Option, sym, refl, ap, ◌∙◌, ⊎_elim, ◌⊎◌, inl, inr, MatchOption, Bor, arith}
use Rattle.std.specs.List.{HoldsAt}
use Rattle.std.specs.Option.{option_eq}
use Rattle.std.proofs.lemmas.List.{at_drop_more, at_drop_all}
use Rattle.std.proofs.lemmas.Bool.{cases_lt, eq-eqb, eqb-true, eqb-false, ne_eqb, both_ways}
use Rattle.std.proofs.lemmas.Bool.Decides.{nat_tests}
use Rattle.handover.proofs.Options.{none_some, some_same}
use Rattle.texts.specs.declared.lexer.Mark.{Mark}
use Rattle.texts.specs.declared.lexer.Mark.TheVariants.{Space, Newline, Arrow, Colon, Dash}
use Rattle.texts.specs.declared.lexer.Lexeme.TheVariants.{Sign, Digit}
use Rattle.std.specs.List.{prefix_len}
use Rattle.std.proofs.lemmas.List.Sums.{prefix_len-drop_yes}
use Rattle.forms.specs.Marks.{is_digit, digit_first, value_on, none, led, number, number_at}
use Rattle.texts.specs.Lexemes.{lexeme_of, lexeme_at, byte_of}
use Rattle.forms.specs.Form.{Verdict, Form, done, mark, numb, dash_or, Outcome, got, broken, run}

pub run_mark_yes : {F A : Type 0} (at b : ℕ) (k : Form F A) (t : List ℕ) → at < length t → get_or t at 0 ≡ b → run at (mark b k) (drop at t) ≡ run (at + 1) k (drop (at + 1) t)
run_mark_yes {F} {A} at b k t h e =
    let g : Bool → Outcome F A = λ x. elim x [ true ↦ run (at + 1) k (drop (at + 1) t) | false ↦ broken at ] in
    at_drop_more (run at (mark b k)) t at 0 h ∙ ap g (eq-eqb (get_or t at 0) b e)

pub run_mark_no : {F A : Type 0} (at b : ℕ) (k : Form F A) (t : List ℕ) → at < length t → (get_or t at 0 ≡ b → ⊥) → run at (mark b k) (drop at t) ≡ broken at
run_mark_no {F} {A} at b k t h e =
    let g : Bool → Outcome F A = λ x. elim x [ true ↦ run (at + 1) k (drop (at + 1) t) | false ↦ broken at ] in
    at_drop_more (run at (mark b k)) t at 0 h ∙ ap g (ne_eqb (get_or t at 0) b e)

pub run_mark_end : {F A : Type 0} (at b : ℕ) (k : Form F A) (t : List ℕ) → length t ≤ at → run at (mark b k) (drop at t) ≡ broken at
run_mark_end at b k t h = at_drop_all (run at (mark b k)) t at h

pub sign_byte : (m : Mark) → lexeme_of (byte_of m) ≡ Sign m
sign_byte Space = refl
sign_byte Newline = refl
sign_byte Arrow = refl
sign_byte Colon = refl
sign_byte Dash = refl

pub byte_sign : (b : ℕ) (m : Mark) → lexeme_of b ≡ Sign m → b ≡ byte_of m
byte_sign b Space e = grind (arith, nat_tests)
byte_sign b Newline e = grind (arith, nat_tests)
byte_sign b Arrow e = grind (arith, nat_tests)
byte_sign b Colon e = grind (arith, nat_tests)
byte_sign b Dash e = grind (arith, nat_tests)

pub lexeme_here : (at : ℕ) (t : List ℕ) → at < length t → lexeme_at (drop at t) ≡ Some (lexeme_of (get_or t at 0))
lexeme_here at t h = at_drop_more lexeme_at t at 0 h

pub lexeme_end : (at : ℕ) (t : List ℕ) → length t ≤ at → lexeme_at (drop at t) ≡ None
lexeme_end at t h = at_drop_all lexeme_at t at h

-- a sign at a place: its byte stands there
pub sign_here : (at : ℕ) (t : List ℕ) (m : Mark) → lexeme_at (drop at t) ≡ Some (Sign m) → (at < length t) × (get_or t at 0 ≡ byte_of m)
sign_here at t m e =
    ⊎_elim
    (λ h. (h, byte_sign (get_or t at 0) m (some_same _ _ (sym (lexeme_here at t h) ∙ e))))
    (λ h. let n = lexeme_end at t h in let z : ◌≡◌ {A = ℕ} 0 1 = cc in absurd (omega arith))
    (cases_lt at (length t))

pub run_sign_no : {F A : Type 0} (at : ℕ) (m : Mark) (k : Form F A) (t : List ℕ) → (lexeme_at (drop at t) ≡ Some (Sign m) → ⊥) → run at (mark (byte_of m) k) (drop at t) ≡ broken at
run_sign_no at m k t n =
    ⊎_elim
    (λ h. run_mark_no at (byte_of m) k t h (λ e. n (lexeme_here at t h ∙ ap Some (ap lexeme_of e ∙ sign_byte m))))
    (λ h. run_mark_end at (byte_of m) k t h)
    (cases_lt at (length t))

pub digit_lexeme : (b d : ℕ) → lexeme_of b ≡ Digit d → (is_digit b ≡ true) × (d ≡ b - 48)
digit_lexeme b d e = grind (arith, nat_tests)

pub digit_here : (at : ℕ) (t : List ℕ) (d : ℕ) → lexeme_at (drop at t) ≡ Some (Digit d) → (at < length t) × (is_digit (get_or t at 0) ≡ true) × (d ≡ get_or t at 0 - 48)
digit_here at t d e =
    ⊎_elim
    (λ h. let y = digit_lexeme (get_or t at 0) d (some_same _ _ (sym (lexeme_here at t h) ∙ e)) in (h, y.0, y.1))
    (λ h. let n = lexeme_end at t h in let z : ◌≡◌ {A = ℕ} 0 1 = cc in absurd (omega arith))
    (cases_lt at (length t))

pub first_here : (at : ℕ) (t : List ℕ) → at < length t → digit_first (drop at t) ≡ is_digit (get_or t at 0)
first_here at t h = at_drop_more digit_first t at 0 h

-- two numbers that are the same once capped stay so as the same digits follow
pub capped_on : (m n : ℕ) (cs : List ℕ) → min m (2 ^ 64 - 1) ≡ min n (2 ^ 64 - 1) → min (value_on m cs) (2 ^ 64 - 1) ≡ min (value_on n cs) (2 ^ 64 - 1)
capped_on m n [] e = e
capped_on m n (c ∷ cs) e =
    elim (is_digit c) as (λ b. min (cond b (value_on (m * 10 + (c - 48)) cs) m) (2 ^ 64 - 1) ≡ min (cond b (value_on (n * 10 + (c - 48)) cs) n) (2 ^ 64 - 1))
    [ true ↦ capped_on (m * 10 + (c - 48)) (n * 10 + (c - 48)) cs (omega arith) | false ↦ e ]

pub value_more : (n : ℕ) (t : List ℕ) (at : ℕ) → at < length t → is_digit (get_or t at 0) ≡ true → value_on n (drop at t) ≡ value_on (n * 10 + (get_or t at 0 - 48)) (drop (at + 1) t)
value_more n t at h y = at_drop_more (value_on n) t at 0 h ∙ simp y

pub value_stop : (n : ℕ) (cs : List ℕ) → digit_first cs ≡ false → value_on n cs ≡ n
value_stop n [] e = refl
value_stop n (c ∷ cs) e = simp e

pub leading_more : (t : List ℕ) (at : ℕ) → at < length t → is_digit (get_or t at 0) ≡ true → prefix_len is_digit (drop at t) ≡ 1 + prefix_len is_digit (drop (at + 1) t)
leading_more t at h y = prefix_len-drop_yes is_digit t at 0 h y

pub leading_stop : (cs : List ℕ) → digit_first cs ≡ false → prefix_len is_digit cs ≡ 0
leading_stop [] e = refl
leading_stop (c ∷ cs) e = simp e

pub number_none : (cs : List ℕ) → digit_first cs ≡ false → number_at cs ≡ none
unfolding number_at
number_none [] e = refl
number_none (c ∷ cs) e = simp e

pub number_led : (cs : List ℕ) → digit_first cs ≡ true → number_at (48 ∷ cs) ≡ led
unfolding number_at
number_led cs e = simp e

pub number_zero : (cs : List ℕ) → digit_first cs ≡ false → number_at (48 ∷ cs) ≡ number 0 1
unfolding number_at
number_zero cs e = simp e

pub number_more : (c : ℕ) (cs : List ℕ) → is_digit c ≡ true → (c ≡ 48 → ⊥) → number_at (c ∷ cs) ≡ number (value_on (c - 48) cs) (1 + prefix_len is_digit cs)
unfolding number_at
number_more c cs y n = let z : eqb c 48 ≡ false = ne_eqb c 48 n in simp (y, z)

-- a dash, or else a number
pub run_capacity_dash : {F A : Type 0} (at : ℕ) (j : ℕ → Verdict F) (k : Option ℕ → Form F A) (t : List ℕ) → at < length t → get_or t at 0 ≡ 45 → run at (dash_or j k) (drop at t) ≡ run (at + 1) (k None) (drop (at + 1) t)
run_capacity_dash {F} {A} at j k t h e =
    let g : Bool → Outcome F A = λ x. elim x [ true ↦ run (at + 1) (k None) (drop (at + 1) t) | false ↦ run at (numb j (λ v. k (Some v))) (get_or t at 0 ∷ drop (at + 1) t) ] in
    at_drop_more (run at (dash_or j k)) t at 0 h ∙ ap g (eq-eqb (get_or t at 0) 45 e)

no_dash : {F A : Type 0} (at : ℕ) (j : ℕ → Verdict F) (k : Option ℕ → Form F A) (cs : List ℕ) → (lexeme_at cs ≡ Some (Sign Dash) → ⊥) → run at (dash_or j k) cs ≡ run at (numb j (λ v. k (Some v))) cs
unfolding number_at
no_dash at j k [] n = refl
no_dash {F} {A} at j k (c ∷ cs) n =
    let g : Bool → Outcome F A = λ x. elim x [ true ↦ run (at + 1) (k None) cs | false ↦ run at (numb j (λ v. k (Some v))) (c ∷ cs) ] in
    ap g (ne_eqb c 45 (λ e. n (ap (λ b. Some (lexeme_of b)) e)))

pub run_capacity_number : {F A : Type 0} (at : ℕ) (j : ℕ → Verdict F) (k : Option ℕ → Form F A) (t : List ℕ) → (lexeme_at (drop at t) ≡ Some (Sign Dash) → ⊥) → run at (dash_or j k) (drop at t) ≡ run at (numb j (λ v. k (Some v))) (drop at t)
run_capacity_number at j k t n = no_dash at j k (drop at t) n

-- the end of a text
pub run_done_end : {F A : Type 0} (at : ℕ) (a : A) (cs : List ℕ) → lexeme_at cs ≡ None → run {F = F} at (done a) cs ≡ got a
run_done_end at a [] e = refl
run_done_end at a (c ∷ cs) e = absurd (none_some _ (sym e))

pub run_done_more : {F A : Type 0} (at : ℕ) (a : A) (cs : List ℕ) → (lexeme_at cs ≡ None → ⊥) → run {F = F} at (done a) cs ≡ broken at
run_done_more at a [] n = absurd (n refl)
run_done_more at a (c ∷ cs) n = refl

-- whether the byte at a place is b, where `get` looks for it
pub byte_is : (o : Option (Bor ℕ)) (b : Bor ℕ) (t : List ℕ) (i : ℕ) → MatchOption o (length t ≤ i) (λ x. (i < length t) × HoldsAt (λ y. x.now ≡ y) t i)
    → option_eq (λ x y. eqb x.now y.now) o (Some b) ≡ true → (i < length t) × (get_or t i 0 ≡ b.now)
byte_is None b t i m e = absurd (both_ways false refl e)
byte_is (Some x) b t i m e = (m.0, sym (m.1 0) ∙ eqb-true x.now b.now e)

pub byte_is_not : (o : Option (Bor ℕ)) (b : Bor ℕ) (t : List ℕ) (i : ℕ) → MatchOption o (length t ≤ i) (λ x. (i < length t) × HoldsAt (λ y. x.now ≡ y) t i)
    → option_eq (λ x y. eqb x.now y.now) o (Some b) ≡ false → (length t ≤ i) ⊎ ((i < length t) × (get_or t i 0 ≡ b.now → ⊥))
byte_is_not None b t i m e = inl m
byte_is_not (Some x) b t i m e = inr (m.0, λ h. eqb-false x.now b.now e (m.1 0 ∙ h))
