use Rattle.std.proofs.Common.{◌≡◌, drop}
use Rattle.drafts.specs.Checks.{first_fault}
use Rattle.drafts.proofs.check.check_each.Given as goal

-- what is left gives the first fault
abbrev pub invariant-loop-e : goal.invariant-loop-e
invariant-loop-e g l = first_fault (λ k e. g.E.Entry.fault l.stations e) l.e-index (drop l.e-index l.entries) ≡ first_fault (λ k e. g.E.Entry.fault l.stations e) 0 l.entries
