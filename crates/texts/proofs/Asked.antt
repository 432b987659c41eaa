-- Numbers that are read, and what the draft says of them.
use Rattle.std.proofs.Common.{◌≡◌, ℕ, ◌+◌, ◌-◌, ◌^◌, ◌<◌, min, true, false, List, ◌∷◌, length, get_or, drop, Some, None, Ok, Err, Option, Result, sym, refl, ap, ◌∙◌, subst, ⊎_elim, arith, MatchResult}
use Rattle.std.proofs.lemmas.List.{drop_more, drop-drop}
use Rattle.std.proofs.lemmas.Bool.{cases_eq}
use Rattle.std.proofs.lemmas.Bool.Decides.{nat_tests}
use Rattle.std.specs.List.{prefix_len}
use Rattle.drafts.specs.declared.fault.DraftFault.{DraftFault}
use Rattle.drafts.specs.declared.fault.DraftFault.TheVariants.{Range}
use Rattle.drafts.specs.Faults.{fault_if, range_fault, station_fault, judged_by, Capped}
use Rattle.forms.specs.Marks.{is_digit, digit_first, value_on, Lexed, none, led, number, number_at}
use Rattle.forms.specs.Form as form
use Rattle.texts.specs.declared.fault.TextFault.{TextFault}
use Rattle.texts.specs.declared.reader.Reader.{Reader}
use Rattle.texts.specs.Faults.{Worded, said}
use Rattle.texts.specs.NetText.{verdict}
use Rattle.texts.specs.NetForm.{NetForm, asked}
use Rattle.texts.specs.Reading.{rest, Goes, Halts, Numbered, Placed, Asks}
use Rattle.texts.proofs.Steps.{number_none, number_led, number_zero, number_more, value_stop, leading_stop}

-- what `number` finds
pub numbered_none : (x y : Reader) (e : TextFault) → digit_first (rest x) ≡ false → said e ≡ form.broken x.at → Worded x.text.now e → Numbered (number_at (rest x)) x (Err e) y
numbered_none x y e d s w = subst (λ o. Numbered o x (Err e) y) (sym (number_none (rest x) d)) (s, w)

module _ (x y : Reader) (t : List ℕ) (same : x.text.now ≡ t) (h : x.at < length t) where
  here : rest x ≡ get_or t x.at 0 ∷ drop (x.at + 1) t
  here = rw same (drop_more t x.at 0 h)

  pub numbered_led : (e : TextFault) → get_or t x.at 0 ≡ 48 → digit_first (drop (x.at + 1) t) ≡ true → said e ≡ form.broken (x.at + 1) → Worded x.text.now e → Numbered (number_at (rest x)) x (Err e) y
  numbered_led e z d s w =
      let f : number_at (rest x) ≡ led = rw (here, z) (number_led (drop (x.at + 1) t) d) in
      subst (λ o. Numbered o x (Err e) y) (sym f) (s, w)

  pub numbered_value : (n : ℕ) → is_digit (get_or t x.at 0) ≡ true → digit_first (drop y.at t) ≡ false → n < 2 ^ 64
      → y.at + prefix_len is_digit (drop y.at t) ≡ x.at + 1 + prefix_len is_digit (drop (x.at + 1) t)
      → min (value_on n (drop y.at t)) (2 ^ 64 - 1) ≡ min (value_on (get_or t x.at 0 - 48) (drop (x.at + 1) t)) (2 ^ 64 - 1)
      → (get_or t x.at 0 ≡ 48 → y.at ≡ x.at + 1)
      → Numbered (number_at (rest x)) x (Ok n) y
  numbered_value n y1 d small place value zero =
      let p = leading_stop (drop y.at t) d in
      let q = value_stop n (drop y.at t) d in
      ⊎_elim
      (λ z.
      let d1 : digit_first (drop (x.at + 1) t) ≡ false = rw (zero z) at d in
      let q1 = value_stop (get_or t x.at 0 - 48) (drop (x.at + 1) t) d1 in
      let f : number_at (rest x) ≡ number 0 1 = rw (here, z) (number_zero (drop (x.at + 1) t) d1) in
      let nil : n ≡ 0 = omega (arith, q, q1, value, z) in
      subst (λ o. Numbered o x (Ok n) y) (sym f) (ap Ok (omega (arith, nil)), zero z))
      (λ z.
      let f : number_at (rest x) ≡ number (value_on (get_or t x.at 0 - 48) (drop (x.at + 1) t)) (1 + prefix_len is_digit (drop (x.at + 1) t)) = rw here (number_more (get_or t x.at 0) (drop (x.at + 1) t) y1 z) in
      subst (λ o. Numbered o x (Ok n) y) (sym f) (ap Ok (omega (arith, q, value)), omega (arith, p, place)))
      (cases_eq (get_or t x.at 0) 48)

-- a number of any size and its first 64 bits have the same fault, and one with no fault is below
pub range_bounds : (which low high : ℕ) → high + 1 < 2 ^ 64 → Capped (range_fault which low high)
range_bounds which low high h =
    record {
      same = λ v. ap (λ b. fault_if b (Range which)) (grind (arith, nat_tests));
      small = λ v e. grind (arith, nat_tests);
    }

pub station_bounds : (which stations : ℕ) → stations + 1 < 2 ^ 64 → Capped (station_fault which stations)
station_bounds which stations h =
    record {
      same = λ v. ap (λ b. fault_if b (Range which)) (grind (arith, nat_tests));
      small = λ v e. grind (arith, nat_tests);
    }

-- what the draft answers of a number
abbrev pub Judges : (ℕ → Option DraftFault) → ℕ → Result ℕ DraftFault → Type 0
Judges fault n a = MatchResult a (λ v. (v ≡ n) × (fault n ≡ None)) (λ f. fault n ≡ Some f)

pub judged_judges : (fault : ℕ → Option DraftFault) (n : ℕ) (a : Result ℕ DraftFault) → a ≡ judged_by (fault n) n → Judges fault n a
judged_judges fault n a e = subst (Judges fault n) (sym e) (by (fault n) refl)
  where
    by : (o : Option DraftFault) → fault n ≡ o → Judges fault n (judged_by o n)
    by None h = (refl, h)
    by (Some f) h = h

rest_on : (x y : Reader) (m : ℕ) → y.at ≡ x.at + m → y.text.now ≡ x.text.now → drop m (rest x) ≡ rest y
rest_on x y m e s = drop-drop m x.at x.text.now ∙ sym (rw (e, s))

module _ (x y : Reader) (fault : ℕ → Option DraftFault) (k : ℕ → NetForm) where
  err_by : (d : TextFault) (o : Lexed) → Numbered o x (Err d) y → (form.numbered o (λ v. verdict (fault v)) x.at (λ v m. form.run (x.at + m) (k v) (drop m (rest x))) ≡ said d) × Worded x.text.now d
  err_by d none e = (sym e.0, e.1)
  err_by d led e = (sym e.0, e.1)
  err_by d (number v m) e = let e0 = e.0 in let z : ◌≡◌ {A = ℕ} 0 1 = cc in absurd (omega arith)

  pub number_err : (d : TextFault) → Numbered (number_at (rest x)) x (Err d) y → Halts x (asked fault k) d
  number_err d e = let h = err_by d (number_at (rest x)) e in record { runs = h.0; worded = h.1 }

module _ (x y : Reader) (fault : ℕ → Option DraftFault) (b : Capped fault) (k : ℕ → NetForm) where
  fine_by : (n : ℕ) (o : Lexed) → Numbered o x (Ok n) y → y.text.now ≡ x.text.now → fault n ≡ None
      → form.numbered o (λ v. verdict (fault v)) x.at (λ v m. form.run (x.at + m) (k v) (drop m (rest x))) ≡ form.run y.at (k n) (rest y)
  fine_by n none e s f = absurd e
  fine_by n led e s f = absurd e
  fine_by n (number v m) e s f =
      let a : n ≡ min v (2 ^ 64 - 1) = cc e.0 in
      let u : v ≡ n = omega (arith, b.small n f) in
      subst (λ w. form.judged (verdict (fault w)) x.at (form.run (x.at + m) (k w) (drop m (rest x))) ≡ form.run y.at (k n) (rest y)) (sym u)
      (ap (λ z. form.judged (verdict z) x.at (form.run (x.at + m) (k n) (drop m (rest x)))) f ∙ ap (λ p. form.run p (k n) (drop m (rest x))) (sym e.1) ∙ ap (form.run y.at (k n)) (rest_on x y m e.1 s))

  pub number_fine : (n : ℕ) → Numbered (number_at (rest x)) x (Ok n) y → y.text.now ≡ x.text.now → fault n ≡ None → Goes x (asked fault k) y (k n)
  number_fine n e s f = record { runs = fine_by n (number_at (rest x)) e s f; same = s }

  out_by : (n : ℕ) (o : Lexed) → Numbered o x (Ok n) y → (m : DraftFault) → fault n ≡ Some m
      → form.numbered o (λ v. verdict (fault v)) x.at (λ v m. form.run (x.at + m) (k v) (drop m (rest x))) ≡ form.refused m x.at
  out_by n none e m f = absurd e
  out_by n led e m f = absurd e
  out_by n (number v q) e m f =
      let a : min v (2 ^ 64 - 1) ≡ n = cc e.0 in
      let g : fault v ≡ Some m = b.same v ∙ ap fault a ∙ f in
      ap (λ z. form.judged (verdict z) x.at (form.run (x.at + q) (k v) (drop q (rest x)))) g

  pub number_refused : (n : ℕ) → Numbered (number_at (rest x)) x (Ok n) y → (m : DraftFault) → fault n ≡ Some m → form.run x.at (asked fault k) (rest x) ≡ form.refused m x.at
  number_refused n e m f = out_by n (number_at (rest x)) e m f

  pub number_out : (n : ℕ) → Numbered (number_at (rest x)) x (Ok n) y → (m : DraftFault) → fault n ≡ Some m
      → (d : TextFault) → said d ≡ form.refused m x.at → Worded x.text.now d → Halts x (asked fault k) d
  number_out n e m f d s w = record { runs = number_refused n e m f ∙ sym s; worded = w }

-- a number that is read and judged
pub asks_err : (x y : Reader) (fault : ℕ → Option DraftFault) (d : TextFault) → Numbered (number_at (rest x)) x (Err d) y
    → (r : Result ℕ TextFault) → (e : TextFault) × (r ≡ Err e) × (e ≡ d) → Asks x fault r y
asks_err x y fault d h r p =
    subst (λ z. Asks x fault z y) (sym (p.1 ∙ ap Err p.2))
    (record { reads = λ k. number_err x y fault k d h; fine = tt; same = tt })

pub asks_placed : (x y : Reader) (fault : ℕ → Option DraftFault) → Capped fault → (n : ℕ) → Numbered (number_at (rest x)) x (Ok n) y → y.text.now ≡ x.text.now
    → (a : Result ℕ DraftFault) → Judges fault n a → (r : Result ℕ TextFault) → Placed y.text.now x.at a r → Asks x fault r y
asks_placed x y fault b n h s (Ok v) j r p =
    subst (λ z. Asks x fault z y) (sym (p ∙ ap Ok j.0)) (record { reads = λ k. number_fine x y fault b k n h s j.1; fine = j.1; same = s })
asks_placed x y fault b n h s (Err f) j (Ok v) p = absurd p
asks_placed x y fault b n h s (Err f) j (Err d) p =
    record { reads = λ k. number_out x y fault b k n h f j d p.0 (subst (λ t. Worded t d) s p.1); fine = tt; same = tt }
