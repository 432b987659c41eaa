-- What a fault of a text tells.
use Rattle.std.specs.Prelude.{◌≡◌, ℕ, List, drop}
use Rattle.drafts.specs.Faults as drafts
use Rattle.drafts.specs.declared.fault.DraftFault.{DraftFault}
use Rattle.forms.specs.Form.{Outcome, broken, refused}
use Rattle.texts.specs.declared.fault.Word.{Word}
use Rattle.texts.specs.declared.fault.TextFault.{TextFault}
use Rattle.texts.specs.declared.fault.TextFault.TheVariants.{Form, Draft}
use Rattle.texts.specs.Lexemes.{word_of}
use Rattle.texts.specs.NetText.{Entries}

-- the refusal's number and the offset: 1 where the form is left, else the number of the draft's fault
abbrev pub told_of : TextFault → ℕ × ℕ
told_of (Form w) = (1, w.at)
told_of (Draft f w) = ((drafts.told_of f).0, w.at)

-- the word that a fault is about
abbrev pub word_at_fault : TextFault → Word
word_at_fault (Form w) = w
word_at_fault (Draft f w) = w

-- the fault's word is the part of the text from its place to the next mark, or to the end
abbrev pub Worded : List ℕ → TextFault → Type 0
Worded t e = (word_at_fault e).bytes.now ≡ word_of (drop (word_at_fault e).at t)

-- what a fault says of the text: it leaves the form at that place, or the draft refuses the number there
abbrev pub said : TextFault → Outcome DraftFault Entries
said (Form w) = broken w.at
said (Draft f w) = refused f w.at
