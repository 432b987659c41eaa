-- What a call that writes a report does. Assumes nothing.
use Rattle.std.specs.Prelude.{◌≡◌, ℕ, ◌<◌, ◌≤◌, List, ◌++◌, length, drop, Ok, Err, Result}
use Rattle.reports.specs.declared.report.ShortBuffer.{ShortBuffer}

-- The bytes stand at the front of the buffer, the rest is as it was, and the answer is their count; or the buffer is under 4,096 bytes, and stays as it was.
abbrev pub Reported : List ℕ → List ℕ → List ℕ → Result ℕ ShortBuffer → Type 0
Reported bytes out out' (Ok n) = (4_096 ≤ length out) × (n ≡ length bytes) × (out' ≡ bytes ++ drop n out)
Reported bytes out out' (Err short) = (length out < 4_096) × (short.length ≡ length out) × (out' ≡ out)
