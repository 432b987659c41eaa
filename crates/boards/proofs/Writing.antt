-- A circuit written at the front of a list. Assumes nothing.
use Rattle.std.proofs.Common.{◌≡◌, ℕ, ◌≤◌, List, ◌++◌, length, drop, sym, ◌∙◌, subst}
use Rattle.std.proofs.lemmas.List.{take_at, drop_at}
use Rattle.rules.specs.Net.{Net}
use Rattle.nets.specs.declared.CircuitStep.{CircuitStep}
use Rattle.timing.specs.Timing.{Told}
use Rattle.boards.specs.Settling.{Written}

pub written : (N : Net) (n : ℕ) (list front rest : List CircuitStep) → n ≤ 64 → length front ≡ n → rest ≡ drop n list → Told N front → Written N n list (front ++ rest)
written N n list front rest few k r T =
    record {
      few = few;
      told = subst (Told N) (sym (take_at front rest n k)) T;
      rest = drop_at front rest n k ∙ r;
    }
