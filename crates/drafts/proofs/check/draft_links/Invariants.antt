use Rattle.std.proofs.Common.{◌≡◌, ℕ, length, get_or, None}
use Rattle.drafts.specs.Checks.{entry_slot}
use Rattle.drafts.proofs.check.draft_links.Given as goal

abbrev pub invariant-loop-k : goal.invariant-loop-k
invariant-loop-k l = (length l.slots ≡ 128) × ((k : ℕ) → get_or l.slots k None ≡ entry_slot l.k l.tables.ends l.tables.terms k)
