-- That a net is whole, ranged or good can be shown in one way only, so that a type can carry it. Assumes nothing.
use native.Mathlib.Bridge.{le_prop}
use native.Mathlib.Nat.{ℕ_set}
use mathlib.Core.Logic.{∥∥₁_elim}
use Rattle.std.proofs.Common.{ℕ, List}
use Rattle.rules.specs.Rules.{Least}
use Rattle.rules.specs.Net as net
use Rattle.rules.proofs.Alone as rules
use Rattle.nets.specs.declared.Net.{Net}
use Rattle.nets.specs.Views.{of_net, Whole, Ranged, Good}

whole : (N : Net) → IsProp (Whole N)
whole N x y = λ t. record {
  few = le_prop x.few y.few t;
  long = ℕ_set _ _ x.long y.long t;
  rated = ℕ_set _ _ x.rated y.rated t;
  numbered = ℕ_set _ _ x.numbered y.numbered t;
}

ranged_prop : (N : Net) → IsProp (Ranged N)
ranged_prop N x y = λ t. record {
  whole = whole N x.whole y.whole t;
  checked = rules.checked (of_net N) x.checked y.checked t;
}

good_prop : (N : Net) → IsProp (Good N)
good_prop N x y = λ t. record {
  whole = whole N x.whole y.whole t;
  sound = rules.sound (of_net N) x.sound y.sound t;
  range = rules.in_range (of_net N) x.range y.range t;
}

-- What a type carries comes out again.
pub ranged : (N : Net) → ∥ Ranged N ∥₁ → Ranged N
ranged N h = ∥∥₁_elim h (ranged_prop N) (λ x. x)

pub good : (N : Net) → ∥ Good N ∥₁ → Good N
good N h = ∥∥₁_elim h (good_prop N) (λ x. x)

pub least : (N : net.Net) (starts : List ℕ) → ∥ Least N starts ∥₁ → Least N starts
least N starts h = ∥∥₁_elim h (rules.least N starts) (λ x. x)
