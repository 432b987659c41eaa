-- Texts, and what is right to say of them.
use Rattle.std.specs.Prelude.{[], ◌∷◌, None, codes}
use Rattle.drafts.specs.declared.fault.DraftFault.TheVariants.{Range, Capacity}
use Rattle.texts.specs.NetText.{Entries, Text, Refused, Broken}

-- two stations and a link between them, which has no capacity
abbrev pub pair : Entries
pair =
    record {
      sizes = record { stations = 2; links = 1; pace = record { share = 2; unit = 10_000_000_000 } };
      durations = 3 ∷ 10 ∷ [];
      ends = record { from = 0; to = 1 } ∷ [];
      terms = record { produced = 4; consumed = 6; stock = 0; capacity = None } ∷ [];
    }

-- one station and no link
abbrev pub single : Entries
single =
    record {
      sizes = record { stations = 1; links = 0; pace = record { share = 5; unit = 1 } };
      durations = 5 ∷ [];
      ends = [];
      terms = [];
    }

-- a text tells its entries; a number is checked before the byte behind it; a leading zero breaks the form at the next digit;
-- a range is checked before the stock; the end of the text is a place
pub record Worked : Type 0 where
  pub pair_told : Text (codes "net 2 1 2 10000000000\ndur 3 10\nends 0>1\nterms 4:6:0:-\n") pair
  pub single_told : Text (codes "net 1 0 5 1\ndur 5\nends\nterms\n") single
  pub too_many : Refused (codes "net 65x") (Range 1) 4
  pub too_long : Refused (codes "net 1 0 99999999999999999999999999") (Range 3) 8
  pub not_there : Refused (codes "net 1 1 5 1\ndur 5\nends 0>1\n") (Range 2) 25
  pub above : Refused (codes "net 1 1 5 1\ndur 5\nends 0>0\nterms 1:1:5:10001\n") (Range 4) 39
  pub below : Refused (codes "net 1 1 5 1\ndur 5\nends 0>0\nterms 1:1:5:4\n") (Capacity 0) 39
  pub led : Broken (codes "net 01") 5
  pub cut : Broken (codes "net 1") 5
  pub empty : Broken [] 0
  pub more : Broken (codes "net 1 0 5 1\ndur 5\nends\nterms\n ") 29
