-- The whole text, read through the stages.
use Rattle.std.proofs.Common.{◌≡◌, ℕ, List, take, drop, Ok, Err, Result, sym, ap, ◌∙◌, subst}
use Rattle.drafts.specs.declared.fault.DraftFault.{DraftFault}
use Rattle.drafts.specs.declared.stage.NetSizes.{NetSizes}
use Rattle.drafts.specs.declared.stage.Filled.{Filled}
use Rattle.drafts.specs.declared.tables.Tables.{Tables}
use Rattle.drafts.specs.Stages.{blank}
use Rattle.forms.specs.Form.{done, got, run}
use Rattle.texts.specs.declared.fault.TextFault.{TextFault}
use Rattle.texts.specs.declared.reader.Reader.{Reader}
use Rattle.texts.specs.Faults.{Worded}
use Rattle.texts.specs.NetText.{Entries}
use Rattle.texts.specs.NetForm.{net_form}
use Rattle.texts.specs.Reading.{rest, Started, Goes, Halts}
use Rattle.texts.specs.Outcomes.{entries_of, BlankBehind, Fills}
use Rattle.texts.proofs.Chains.{goes_start}

pub fills_err : (x : Reader) (t : List ℕ) → Started x t → (tables : Tables) (r : Result Filled TextFault) (e : TextFault) → (d : TextFault) × (r ≡ Err d) × (d ≡ e) → Halts x net_form e → Fills t r tables
fills_err x t s tables r e p h =
    subst (λ z. Fills t z tables) (sym (p.1 ∙ ap Err p.2)) (sym (goes_start net_form x t s ∙ h.runs), subst (λ b. Worded b e) s.0 h.worded)

-- the sizes, and the tables from line to line
module _ (s : NetSizes) (t0 t1 t2 t3 : Tables) (b : t0 ≡ blank)
    (e1 : t1 ≡ record { durations = t1.durations; ends = t0.ends; terms = t0.terms })
    (e2 : t2 ≡ record { durations = t1.durations; ends = t2.ends; terms = t1.terms })
    (e3 : t3 ≡ record { durations = t2.durations; ends = t2.ends; terms = t3.terms })
    (d1 : drop s.stations t1.durations ≡ drop s.stations t0.durations)
    (d2 : drop s.links t2.ends ≡ drop s.links t1.ends)
    (d3 : drop s.links t3.terms ≡ drop s.links t2.terms) where
  durations_last : t3.durations ≡ t1.durations
  durations_last = ap (λ t. t.durations) e3 ∙ ap (λ t. t.durations) e2

  ends_last : t3.ends ≡ t2.ends
  ends_last = ap (λ t. t.ends) e3

  ends_first : t1.ends ≡ t0.ends
  ends_first = ap (λ t. t.ends) e1

  terms_first : t2.terms ≡ t0.terms
  terms_first = ap (λ t. t.terms) e2 ∙ ap (λ t. t.terms) e1

  behind : BlankBehind s t3
  behind =
      record {
        durations = ap (drop s.stations) durations_last ∙ d1 ∙ ap (λ t. drop s.stations t.durations) b;
        ends = ap (drop s.links) ends_last ∙ d2 ∙ ap (drop s.links) ends_first ∙ ap (λ t. drop s.links t.ends) b;
        terms = d3 ∙ ap (drop s.links) terms_first ∙ ap (λ t. drop s.links t.terms) b;
      }

  same_entries : entries_of s t3 ≡ record { sizes = s; durations = take s.stations t1.durations; ends = take s.links t2.ends; terms = take s.links t3.terms }
  same_entries =
      ap (λ d. record { sizes = s; durations = take s.stations d; ends = take s.links t3.ends; terms = take s.links t3.terms }) durations_last
      ∙ ap (λ d. record { sizes = s; durations = take s.stations t1.durations; ends = take s.links d; terms = take s.links t3.terms }) ends_last

  pub fills_ok : (x y : Reader) (t : List ℕ) → Started x t
      → Goes x net_form y (done (record { sizes = s; durations = take s.stations t1.durations; ends = take s.links t2.ends; terms = take s.links t3.terms }))
      → ((e : Entries) → run {F = DraftFault} y.at (done e) (rest y) ≡ got e) → (f : Filled) → f.sizes ≡ s → Fills t (Ok f) t3
  fills_ok x y t st g en f e =
      subst (λ z. (got (entries_of z t3) ≡ run 0 net_form t) × BlankBehind z t3) (sym e)
      (ap got same_entries ∙ sym (goes_start net_form x t st ∙ g.runs ∙ en (record { sizes = s; durations = take s.stations t1.durations; ends = take s.links t2.ends; terms = take s.links t3.terms })), behind)
