-- A capacity, or a dash in its place.
use Rattle.std.proofs.Common.{◌≡◌, ℕ, ◌+◌, ◌-◌, ◌^◌, ◌<◌, min, length, get_or, drop, Some, None, Ok, Err, Option, Result, sym, refl, ap, ◌∙◌, subst, ⊎_elim, arith}
use Rattle.std.proofs.lemmas.Bool.{cases_lt}
use Rattle.std.proofs.lemmas.Bool.Decides.{nat_tests}
use Rattle.drafts.specs.declared.fault.DraftFault.{DraftFault}
use Rattle.drafts.specs.Faults.{range_fault, or_else, Capped}
use Rattle.drafts.specs.Entries.{below_stock}
use Rattle.forms.specs.Marks.{number_at}
use Rattle.forms.specs.Form as form
use Rattle.texts.specs.declared.lexer.Mark.TheVariants.{Dash}
use Rattle.texts.specs.declared.lexer.Lexeme.TheVariants.{Sign}
use Rattle.texts.specs.declared.fault.TextFault.{TextFault}
use Rattle.texts.specs.declared.reader.Reader.{Reader}
use Rattle.texts.specs.Faults.{Worded}
use Rattle.texts.specs.Lexemes.{lexeme_at}
use Rattle.texts.specs.NetText.{room_fault}
use Rattle.texts.specs.NetForm.{NetForm, asked, capacity_entry}
use Rattle.texts.specs.Reading.{rest, Halts, Numbered, Placed, ReadsCapacity}
use Rattle.texts.proofs.Steps.{run_capacity_dash, run_capacity_number}
use Rattle.drafts.proofs.Firsts.{or_none}
use Rattle.texts.proofs.Asked.{range_bounds, Judges, number_fine, number_refused, number_out, number_err}

first_some : (f : DraftFault) (a b : Option DraftFault) → a ≡ Some f → or_else a b ≡ Some f
first_some f a b e = rw e

then_second : (a b : Option DraftFault) → a ≡ None → or_else a b ≡ b
then_second a b e = rw e

room_capped : (link stock : ℕ) → Capped (room_fault link stock)
room_capped link stock =
    record {
      same = λ v.
          ⊎_elim
          (λ l. let e : min v (2 ^ 64 - 1) ≡ v = omega arith in ap (room_fault link stock) (sym e))
          (λ l.
          let a : range_fault 4 0 10_000 v ≡ range_fault 4 0 10_000 20_000 = grind (arith, nat_tests) in
          let b : range_fault 4 0 10_000 (min v (2 ^ 64 - 1)) ≡ range_fault 4 0 10_000 20_000 = grind (arith, nat_tests) in
          first_some _ _ (below_stock link stock (Some v)) a ∙ sym (first_some _ _ (below_stock link stock (Some (min v (2 ^ 64 - 1)))) b))
          (cases_lt v (2 ^ 64 - 1));
      small = λ v e. (range_bounds 4 0 10_000 (omega arith)).small v (or_none _ _ e).0;
    }

-- the dash
pub capacity_dash : (x y : Reader) → x.at < length x.text.now → get_or x.text.now x.at 0 ≡ 45 → y.at ≡ x.at + 1 → y.text.now ≡ x.text.now → ReadsCapacity x (Ok None) y
capacity_dash x y h d e s =
    record {
      fits = λ link stock k _. record {
        runs = run_capacity_dash x.at _ k x.text.now h d ∙ ap (λ p. form.run p (k None) (drop p x.text.now)) (sym e)
            ∙ ap (λ t. form.run y.at (k None) (drop y.at t)) (sym s);
        same = s;
      };
      below = λ link stock k f z. let w : ◌≡◌ {A = ℕ} 0 1 = cc in absurd (omega arith);
      fine = refl;
      same = s;
    }

-- a number in its place
module _ (x y : Reader) (no : lexeme_at (rest x) ≡ Some (Sign Dash) → ⊥) where
  by_number : (link stock : ℕ) (k : Option ℕ → NetForm) → form.run x.at (capacity_entry link stock k) (rest x) ≡ form.run x.at (asked (room_fault link stock) (λ c. k (Some c))) (rest x)
  by_number link stock k = run_capacity_number x.at _ k x.text.now no

  halts : (link stock : ℕ) (k : Option ℕ → NetForm) (d : TextFault) → Halts x (asked (room_fault link stock) (λ c. k (Some c))) d → Halts x (capacity_entry link stock k) d
  halts link stock k d h = record { runs = by_number link stock k ∙ h.runs; worded = h.worded }

  pub capacity_err : (d : TextFault) → Numbered (number_at (rest x)) x (Err d) y → (r : Result (Option ℕ) TextFault) → (e : TextFault) × (r ≡ Err e) × (e ≡ d) → ReadsCapacity x r y
  capacity_err d h r p =
      subst (λ z. ReadsCapacity x z y) (sym (p.1 ∙ ap Err p.2))
      (record {
        fits = λ link stock k. halts link stock k d (number_err x y (room_fault link stock) (λ c. k (Some c)) d h);
        below = λ link stock k. tt;
        fine = tt;
        same = tt;
      })

  -- the draft's answer
  pub capacity_out : (n : ℕ) → Numbered (number_at (rest x)) x (Ok n) y → y.text.now ≡ x.text.now → (a : Result ℕ DraftFault) → Judges (range_fault 4 0 10_000) n a
      → (d : TextFault) → Placed y.text.now x.at a (Err d) → (r : Result (Option ℕ) TextFault) → (e : TextFault) × (r ≡ Err e) × (e ≡ d) → ReadsCapacity x r y
  capacity_out n h s (Ok v) j d q r p = let w : ◌≡◌ {A = ℕ} 0 1 = cc in absurd (omega arith)
  capacity_out n h s (Err f) j d q r p =
      subst (λ z. ReadsCapacity x z y) (sym (p.1 ∙ ap Err p.2))
      (record {
        fits = λ link stock k. halts link stock k d
            (number_out x y (room_fault link stock) (room_capped link stock) (λ c. k (Some c)) n h f (first_some f _ _ j) d q.0 (subst (λ t. Worded t d) s q.1));
        below = λ link stock k. tt;
        fine = tt;
        same = tt;
      })

  pub capacity_read : (n : ℕ) → Numbered (number_at (rest x)) x (Ok n) y → y.text.now ≡ x.text.now → (a : Result ℕ DraftFault) → Judges (range_fault 4 0 10_000) n a
      → (c : ℕ) → Placed y.text.now x.at a (Ok c) → ReadsCapacity x (Ok (Some c)) y
  capacity_read n h s (Err f) j c q = absurd q
  capacity_read n h s (Ok v) j c q =
      let e : n ≡ c = sym j.0 ∙ cc in
      subst (λ z. ReadsCapacity x (Ok (Some z)) y) e
      (record {
        fits = λ link stock k z.
            let g = number_fine x y (room_fault link stock) (room_capped link stock) (λ c. k (Some c)) n h s (then_second _ _ j.1 ∙ z) in
            record { runs = by_number link stock k ∙ g.runs; same = s };
        below = λ link stock k f z. by_number link stock k ∙ out_runs link stock k f (then_second _ _ j.1 ∙ z);
        fine = j.1;
        same = s;
      })
    where
      out_runs : (link stock : ℕ) (k : Option ℕ → NetForm) (f : DraftFault) → room_fault link stock n ≡ Some f → form.run x.at (asked (room_fault link stock) (λ c. k (Some c))) (rest x) ≡ form.refused f x.at
      out_runs link stock k f z = number_refused x y (room_fault link stock) (room_capped link stock) (λ c. k (Some c)) n h f z
