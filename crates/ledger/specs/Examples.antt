-- Worked examples of the ledger. Assumes nothing.
use Rattle.std.specs.Prelude.{◌≡◌, ℕ, List, [], ◌∷◌, map, ℤ, pos, neg_ℤ, Some, None, codes, Option}
use Rattle.rules.specs.Net.{Link, Net}
use Rattle.rules.specs.Rates.{Leads}
use Rattle.nets.specs.declared.CircuitStep.{CircuitStep}
use Rattle.nets.specs.declared.LinkEnds.{LinkEnds}
use Rattle.nets.specs.declared.LinkTerms.{LinkTerms}
use Rattle.nets.specs.declared.Step.TheVariants.{Forward, Back}
use Rattle.texts.specs.NetText.{Entries}
use Rattle.ledger.specs.Calls.{entries, text, duration_to, capacity_to, pace_to, start_of, period_of, stock_at, taken_at, link_at, rate_of, pace_fastest, timetable_shown, load, open_link, close, put, ask, nowhere, at, in_text, around, refused, done, value, fraction, ends_and_terms, timetable}
use Rattle.ledger.specs.States.{new_board, net_of, with_link, unrated}
use Rattle.ledger.specs.Checks.{number_of, order}
use Rattle.ledger.specs.Runs.{Answered, Ran}

abbrev pub ends : ℕ → ℕ → LinkEnds
ends i j = record { from = i; to = j }

abbrev pub terms : ℕ → ℕ → ℕ → Option ℕ → LinkTerms
terms w v u c = record { produced = w; consumed = v; stock = u; capacity = c }

abbrev pub a_link : ℕ → ℕ → ℕ → ℕ → ℕ → Option ℕ → Link
a_link i j w v u c = record { i = i; j = j; w = w; v = v; u = u; c = c }

-- A draft of two stations of durations 3 and 5 with the pace 2 / 1 and these links.
abbrev pub two_with : ℕ → List LinkEnds → List LinkTerms → Entries
two_with m es ts = record { sizes = record { stations = 2; links = m; pace = record { share = 2; unit = 1 } }; durations = 3 ∷ 5 ∷ []; ends = es; terms = ts }

-- Link 0 from station 0 to station 1: 4 parts arrive and 6 leave, none at first, room for 14.
abbrev pub two_draft : Entries
two_draft = two_with 1 (ends 0 1 ∷ []) (terms 4 6 0 (Some 14) ∷ [])

-- It has the rates 2 and 3.
abbrev pub two : Net
two = net_of two_draft (2 ∷ 3 ∷ [])

abbrev pub two_text : List ℕ
two_text = codes "net 2 1 2 1\ndur 3 5\nends 0>1\nterms 4:6:0:14\n"

-- Two stations with no link; with links that no rates balance; with a capacity below the stock.
abbrev pub apart_draft : Entries
apart_draft = two_with 0 [] []

abbrev pub unrated_draft : Entries
unrated_draft = two_with 2 (ends 0 1 ∷ ends 1 0 ∷ []) (terms 1 2 0 None ∷ terms 1 2 0 None ∷ [])

abbrev pub full_draft : Entries
full_draft = two_with 1 (ends 0 1 ∷ []) (terms 1 1 5 (Some 4) ∷ [])

-- A link from station 1 to station 0 joins station 0 to station 1 too.
abbrev pub turned_draft : Entries
turned_draft = two_with 1 (ends 1 0 ∷ []) (terms 4 6 0 None ∷ [])

-- Forward over link 0 and back, of these lengths.
abbrev pub there_and_back : ℤ → ℤ → List CircuitStep
there_and_back x y = record { step = Forward 0; length = x } ∷ record { step = Back 0; length = y } ∷ []

-- The orders of the checks, in numbers.
pub record Orders : Type 0 where
  pub loads : map number_of (order (load (entries two_draft) 64)) ≡ 6 ∷ 2 ∷ 5 ∷ 10 ∷ 11 ∷ 20 ∷ []
  pub reads : map number_of (order (load (text two_text) 64)) ≡ 1 ∷ 2 ∷ 5 ∷ 6 ∷ 2 ∷ 5 ∷ 10 ∷ 11 ∷ 20 ∷ []
  pub opens : map number_of (order (open_link 0 (a_link 0 1 1 1 0 None) 64)) ≡ 6 ∷ 2 ∷ 13 ∷ 5 ∷ 12 ∷ 20 ∷ []
  pub puts : map number_of (order (put (pace_to 9 5) 64)) ≡ 6 ∷ 2 ∷ 14 ∷ 5 ∷ 20 ∷ []
  pub closes : map number_of (order (close 0)) ≡ 2 ∷ 14 ∷ []
  pub asks : map number_of (order (ask pace_fastest)) ≡ 2 ∷ 14 ∷ []

-- Refusals, by number.
pub record Refusals : Type 0 where
  pub form : Answered two (load (text (codes "net 1")) 63) (refused 1 (in_text None 5)) two
  pub range : Answered two (put (duration_to 1 0) 64) (refused 2 (at 2)) two
  pub range_first : Answered two (open_link 0 (a_link 0 2 0 1 0 None) 64) (refused 2 (at 3)) two
  pub range_text : Answered two (load (text (codes "net 65x")) 64) (refused 2 (in_text (Some 1) 4)) two
  pub full : Answered two (load (entries full_draft) 64) (refused 5 (at 0)) two
  pub list : Answered two (put (pace_to 9 5) 63) (refused 6 (at 63)) two
  pub cut_off : Answered two (load (entries apart_draft) 64) (refused 10 (at 1)) two
  pub unrated : Answered two (load (entries unrated_draft) 64) (refused 11 nowhere) two
  pub unbalanced : Answered two (open_link 1 (a_link 0 1 1 1 0 None) 64) (refused 12 (at 1)) two
  pub in_use : Answered two (open_link 0 (a_link 0 1 1 1 0 None) 64) (refused 13 (at 0)) two
  pub not_open : Answered two (close 5) (refused 14 (at 5)) two
  pub capacity : Answered two (put (capacity_to 0 (Some 7)) 64) (refused 20 (around (there_and_back (pos 7) (pos 1)))) two
  pub pace : Answered two (put (pace_to 9 5) 64) (refused 20 (around (there_and_back (pos 33) (neg_ℤ (pos 29))))) two

-- Questions.
pub record Told : Type 0 where
  pub start : Answered two (ask (start_of 1)) (value 7) two
  pub period : Answered two (ask (period_of 1)) (value 6) two
  pub stock : Answered two (ask (stock_at 0 7)) (value 2) two
  pub taken : Answered two (ask (taken_at 0 16)) (value 14) two
  pub link : Answered two (ask (link_at 0)) (ends_and_terms (a_link 0 1 4 6 0 (Some 14))) two
  pub rate : Answered two (ask (rate_of 1)) (value 3) two
  pub fastest : Answered two (ask pace_fastest) (fraction 2 1) two
  pub shown : Answered two (ask timetable_shown) (timetable (0 ∷ 7 ∷ []) (4 ∷ 6 ∷ [])) two

-- Changes, and a run.
pub record Made : Type 0 where
  pub loaded : Answered new_board (load (entries two_draft) 64) done two
  pub read : Answered new_board (load (text two_text) 64) done two
  pub unbounded : Answered two (put (capacity_to 0 None) 64) done (with_link two 0 (Some (a_link 0 1 4 6 0 None)))
  pub closed : Answered two (close 0) done (with_link two 0 None)
  pub run :
      Ran new_board
      (load (entries two_draft) 64 ∷ ask (stock_at 0 7) ∷ put (pace_to 9 5) 64 ∷ ask (start_of 1) ∷ close 0 ∷ ask (stock_at 0 7) ∷ [])
      (done ∷ value 2 ∷ refused 20 (around (there_and_back (pos 33) (neg_ℤ (pos 29)))) ∷ value 7 ∷ done ∷ refused 14 (at 0) ∷ [])
      (with_link two 0 None)

pub record Worked : Type 0 where
  pub orders : Orders
  pub either_way : Leads (unrated turned_draft) 0 1
  pub refusals : Refusals
  pub told : Told
  pub made : Made
