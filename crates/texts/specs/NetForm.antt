-- The net text as a form, the way its reader goes.
use Rattle.std.specs.Prelude.{ℕ, List, codes, Option}
use Rattle.nets.specs.declared.LinkEnds.{LinkEnds}
use Rattle.nets.specs.declared.LinkTerms.{LinkTerms}
use Rattle.drafts.specs.declared.stage.NetSizes.{NetSizes}
use Rattle.drafts.specs.declared.fault.DraftFault.{DraftFault}
use Rattle.drafts.specs.Faults.{range_fault, station_fault}
use Rattle.forms.specs.Form.{Form, done, mark, numb, dash_or}
use Rattle.forms.specs.Lines.{word, line}
use Rattle.texts.specs.NetText.{Entries, verdict, room_fault}

-- forms whose faults are the draft's and whose texts tell entries
abbrev pub NetForm : Type 0
NetForm = Form DraftFault Entries

-- a number that the draft judges
abbrev pub asked : (ℕ → Option DraftFault) → (ℕ → NetForm) → NetForm
asked fault k = numb (λ v. verdict (fault v)) k

-- each part goes on with what it has read
abbrev pub sizes_entry : (NetSizes → NetForm) → NetForm
sizes_entry k =
    mark 32 (asked (range_fault 1 1 64) (λ n.
    mark 32 (asked (range_fault 2 0 128) (λ m.
    mark 32 (asked (range_fault 3 1 1_000_000) (λ a.
    mark 32 (asked (range_fault 4 1 10_000_000_000) (λ b. k (record { stations = n; links = m; pace = record { share = a; unit = b } })))))))))

abbrev pub sizes_line : (NetSizes → NetForm) → NetForm
sizes_line k = word (codes "net") (sizes_entry (λ s. mark 10 (k s)))

abbrev pub duration_entry : (ℕ → NetForm) → NetForm
duration_entry k = asked (range_fault 1 1 10_000) k

abbrev pub ends_entry : ℕ → (LinkEnds → NetForm) → NetForm
ends_entry n k = asked (station_fault 1 n) (λ i. mark 62 (asked (station_fault 2 n) (λ j. k (record { from = i; to = j }))))

abbrev pub capacity_entry : ℕ → ℕ → (Option ℕ → NetForm) → NetForm
capacity_entry link stock k = dash_or (λ c. verdict (room_fault link stock c)) k

abbrev pub terms_entry : ℕ → (LinkTerms → NetForm) → NetForm
terms_entry link k =
    asked (range_fault 1 1 1_000) (λ w. mark 58
    (asked (range_fault 2 1 1_000) (λ v. mark 58
    (asked (range_fault 3 0 10_000) (λ u. mark 58
    (capacity_entry link u (λ c. k (record { produced = w; consumed = v; stock = u; capacity = c }))))))))

-- the text from each of its lines on
abbrev pub after_terms : NetSizes → List ℕ → List LinkEnds → List LinkTerms → NetForm
after_terms s ds es ts = done (record { sizes = s; durations = ds; ends = es; terms = ts })

abbrev pub after_ends : NetSizes → List ℕ → List LinkEnds → NetForm
after_ends s ds es = line (codes "terms") terms_entry s.links (after_terms s ds es)

abbrev pub after_durations : NetSizes → List ℕ → NetForm
after_durations s ds = line (codes "ends") (λ i. ends_entry s.stations) s.links (after_ends s ds)

abbrev pub after_sizes : NetSizes → NetForm
after_sizes s = line (codes "dur") (λ i. duration_entry) s.stations (after_durations s)

unfoldable pub net_form : NetForm
net_form = sizes_line after_sizes
