-- What is asked of a net can be shown in one way only, so that a type can carry it. Assumes nothing.
use Rattle.std.proofs.Common.{ℕ, ◌≤◌, List}
use mathlib.Core.HLevel.{Π_prop}
use native.Mathlib.Bridge.{le_prop}
use native.Mathlib.Nat.{ℕ_set}
use Rattle.rules.specs.Net.{Net, Link, Timetable, SoundLink, Sound, Fits, whole}
use Rattle.rules.specs.Rules.{Keeps, Least}
use Rattle.rules.specs.Ranges.{LinkInRange, InRange, CheckedLink, Checked}

both : {a b c d : ℕ} → IsProp ((a ≤ b) × (c ≤ d))
both x y = λ t. (le_prop x.0 y.0 t, le_prop x.1 y.1 t)

sound_link : (N : Net) (l : Link) → IsProp (SoundLink N l)
sound_link N l x y = λ t. record {
  from_station = le_prop x.from_station y.from_station t;
  to_station = le_prop x.to_station y.to_station t;
  gives = le_prop x.gives y.gives t;
  takes = le_prop x.takes y.takes t;
  room = Π_prop (λ c. Π_prop (λ e. le_prop)) x.room y.room t;
  balanced = ℕ_set _ _ x.balanced y.balanced t;
}

pub sound : (N : Net) → IsProp (Sound N)
sound N x y = λ t. record {
  rated = ℕ_set _ _ x.rated y.rated t;
  lasting = Π_prop (λ i. Π_prop (λ h. le_prop)) x.lasting y.lasting t;
  recurring = Π_prop (λ i. Π_prop (λ h. le_prop)) x.recurring y.recurring t;
  share = le_prop x.share y.share t;
  unit = le_prop x.unit y.unit t;
  linked = Π_prop (λ k. Π_prop (λ l. Π_prop (λ o. sound_link N l))) x.linked y.linked t;
}

link_in_range : (l : Link) → IsProp (LinkInRange l)
link_in_range l x y = λ t. record {
  arrive = le_prop x.arrive y.arrive t;
  leave = le_prop x.leave y.leave t;
  stock = le_prop x.stock y.stock t;
  room = Π_prop (λ c. Π_prop (λ e. le_prop)) x.room y.room t;
}

pub in_range : (N : Net) → IsProp (InRange N)
in_range N x y = λ t. record {
  some = le_prop x.some y.some t;
  few = le_prop x.few y.few t;
  numbers = le_prop x.numbers y.numbers t;
  lasting = Π_prop (λ i. Π_prop (λ h. le_prop)) x.lasting y.lasting t;
  recurring = Π_prop (λ i. Π_prop (λ h. le_prop)) x.recurring y.recurring t;
  share = le_prop x.share y.share t;
  unit = le_prop x.unit y.unit t;
  linked = Π_prop (λ k. Π_prop (λ l. Π_prop (λ o. link_in_range l))) x.linked y.linked t;
}

checked_link : (N : Net) (l : Link) → IsProp (CheckedLink N l)
checked_link N l x y = λ t. record {
  from_station = le_prop x.from_station y.from_station t;
  to_station = le_prop x.to_station y.to_station t;
  gives = le_prop x.gives y.gives t;
  arrive = le_prop x.arrive y.arrive t;
  takes = le_prop x.takes y.takes t;
  leave = le_prop x.leave y.leave t;
  stock = le_prop x.stock y.stock t;
  room = Π_prop (λ c. Π_prop (λ e. both)) x.room y.room t;
}

pub checked : (N : Net) → IsProp (Checked N)
checked N x y = λ t. record {
  some = le_prop x.some y.some t;
  few = le_prop x.few y.few t;
  numbers = le_prop x.numbers y.numbers t;
  lasting = Π_prop (λ i. Π_prop (λ h. both)) x.lasting y.lasting t;
  share = both x.share y.share t;
  unit = both x.unit y.unit t;
  linked = Π_prop (λ k. Π_prop (λ l. Π_prop (λ o. checked_link N l))) x.linked y.linked t;
}

fits : (N : Net) (T : Timetable) → IsProp (Fits N T)
fits N T x y = λ t. record {
  scaled = le_prop x.scaled y.scaled t;
  complete = ℕ_set _ _ x.complete y.complete t;
}

keeps : (N : Net) (T : Timetable) → IsProp (Keeps N T)
keeps N T x y = λ t. record {
  stocked = Π_prop (λ k. Π_prop (λ l. Π_prop (λ o. Π_prop (λ t. le_prop)))) x.stocked y.stocked t;
  spaced = Π_prop (λ k. Π_prop (λ l. Π_prop (λ c. Π_prop (λ o. Π_prop (λ e. Π_prop (λ t. le_prop)))))) x.spaced y.spaced t;
  apart = Π_prop (λ i. Π_prop (λ q. Π_prop (λ h. Π_prop (λ g. le_prop)))) x.apart y.apart t;
}

pub least : (N : Net) (starts : List ℕ) → IsProp (Least N starts)
least N starts x y = λ t. record {
  fits = fits N (whole starts) x.fits y.fits t;
  keeps = keeps N (whole starts) x.keeps y.keeps t;
  least = Π_prop (λ T. Π_prop (λ f. Π_prop (λ k. Π_prop (λ z. Π_prop (λ h. le_prop))))) x.least y.least t;
}
