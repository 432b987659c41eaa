use Rattle.std.proofs.Common.{◌≡◌, drop}
use Rattle.drafts.specs.Entries.{room_fault}
use Rattle.drafts.specs.Checks.{first_fault}
use Rattle.drafts.proofs.check.check_rooms.Given as goal

-- what is left gives the first fault
abbrev pub invariant-loop-k : goal.invariant-loop-k
invariant-loop-k l = first_fault room_fault l.k (drop l.k l.terms) ≡ first_fault room_fault 0 l.terms
