use Rattle.std.proofs.Common.{refl}
use Rattle.drafts.proofs.Ranging.{no_slots}
use Rattle.drafts.proofs.check.draft_links.Goals as goal

pub loop-k-init : goal.loop-k-init
loop-k-init c = (refl, λ k. no_slots k c.args.tables.now.ends c.args.tables.now.terms)
