use Rattle.forms.proofs.Numbers.{numeral_decimal}
use Rattle.forms.proofs.numerals_printed.Goals as goal

pub returns : goal.returns
returns c = numeral_decimal
