use Rattle.std.proofs.Common.{rules}
use Rattle.texts.proofs.Chains.{moved_mapped}
use Rattle.texts.proofs.reader.Reader.moved.Goals as goal

pub returns : goal.returns
returns g c = moved_mapped _ _ _ _ _ _ (λ f e h. search rules) c.map_err.ensures.cases c.placed.ensures
