use Rattle.std.proofs.Common.{◌≡◌, ℕ, List, [], codes, refl}
use Rattle.drafts.specs.declared.fault.DraftFault.{DraftFault}
use Rattle.drafts.specs.declared.fault.DraftFault.TheVariants.{Range, Capacity}
use Rattle.forms.specs.Marks.{number_at}
use Rattle.forms.specs.Form.{Outcome, got, broken, refused, run}
use Rattle.forms.proofs.Exact.{right}
use Rattle.texts.specs.Examples.{pair, single}
use Rattle.texts.specs.NetText.{Entries, Whole, pieces, Right}
use Rattle.texts.specs.NetForm.{net_form}
use Rattle.texts.proofs.NetTexts.{net_describes}
use Rattle.texts.proofs.worked.Goals as goal

found : (t : List ℕ) (o : Outcome DraftFault Entries) → o ≡ run 0 net_form t → Right t o
found t o e = right net_form Whole pieces net_describes t o e

pub returns : goal.returns
unfolding net_form number_at
returns c =
    record {
      pair_told = found (codes "net 2 1 2 10000000000\ndur 3 10\nends 0>1\nterms 4:6:0:-\n") (got pair) refl;
      single_told = found (codes "net 1 0 5 1\ndur 5\nends\nterms\n") (got single) refl;
      too_many = found (codes "net 65x") (refused (Range 1) 4) refl;
      too_long = found (codes "net 1 0 99999999999999999999999999") (refused (Range 3) 8) refl;
      not_there = found (codes "net 1 1 5 1\ndur 5\nends 0>1\n") (refused (Range 2) 25) refl;
      above = found (codes "net 1 1 5 1\ndur 5\nends 0>0\nterms 1:1:5:10001\n") (refused (Range 4) 39) refl;
      below = found (codes "net 1 1 5 1\ndur 5\nends 0>0\nterms 1:1:5:4\n") (refused (Capacity 0) 39) refl;
      led = found (codes "net 01") (broken 5) refl;
      cut = found (codes "net 1") (broken 5) refl;
      empty = found [] (broken 0) refl;
      more = found (codes "net 1 0 5 1\ndur 5\nends\nterms\n ") (broken 29) refl;
    }
