use Rattle.forms.proofs.Numbers.{number_numeral}
use Rattle.forms.proofs.numerals_read.Goals as goal

pub returns : goal.returns
returns c = number_numeral
