use Rattle.std.proofs.Common.{drop}
use Rattle.forms.specs.Lines.{word}
use Rattle.texts.specs.NetForm.{NetForm}
use Rattle.texts.specs.Reading.{Goes}
use Rattle.texts.proofs.reader.Reader.name.Given as goal

abbrev pub invariant-loop-b : goal.invariant-loop-b
invariant-loop-b l = (k : NetForm) → Goes l.initial.self (word l.letters k) l.self (word (drop l.b-index l.letters) k)
