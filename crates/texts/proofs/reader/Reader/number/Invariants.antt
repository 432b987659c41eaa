use Rattle.std.proofs.Common.{◌≡◌, ◌+◌, ◌-◌, ◌^◌, ◌<◌, min, length}
use Rattle.std.specs.List.{prefix_len}
use Rattle.forms.specs.Marks.{value_on, is_digit}
use Rattle.texts.specs.Reading.{rest}
use Rattle.texts.proofs.reader.Reader.number.Given as goal

abbrev pub invariant-loop-d : goal.invariant-loop-d
invariant-loop-d l =
    (l.self.text.now ≡ l.initial.self.text.now)
    × (l.n < 2 ^ 64)
    × (l.self.at + prefix_len is_digit (rest l.self) ≡ l.initial.self.at + prefix_len is_digit (rest l.initial.self))
    × (min (value_on l.n (rest l.self)) (2 ^ 64 - 1) ≡ min (value_on l.initial.n (rest l.initial.self)) (2 ^ 64 - 1))
    × (l.first ≡ 0 → l.self.at ≡ l.initial.self.at)

abbrev pub decreases-loop-d : goal.decreases-loop-d
decreases-loop-d l = length l.self.text.now - l.self.at
