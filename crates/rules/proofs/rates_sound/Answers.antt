use Rattle.rules.proofs.Soundness.{rates_sound_lem}
use Rattle.rules.proofs.rates_sound.Goals as goal

pub returns : goal.returns
returns c = rates_sound_lem
