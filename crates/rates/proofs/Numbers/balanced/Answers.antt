use Rattle.std.proofs.Common.{rules, tests}
use Rattle.std.proofs.lemmas.Iterator.{cases_from_all}
use Rattle.nets.specs.Views.{of_link}
use Rattle.rates.specs.Reaching.{Balanced}
use Rattle.rates.proofs.Searches.{item_of, YieldsList-standing}
use Rattle.rates.proofs.Tables.{balanced_found}
use Rattle.rates.proofs.Numbers.balanced.Goals as goal

pub returns : goal.returns
returns c =
    let z = c.args.self.now.z in
    balanced_found c.args.checked.now.net z c.all.result
    (cases_from_all _ _ c.all.result (λ l. Balanced (of_link l) z) (λ l. Balanced (of_link l) z → ⊥) c.all.ensures.ran
    (YieldsList-standing {s = c.flatten.result} c.args.checked.now.net.links _ _ (cc) (cc) (cc) (cc) (λ x j b. item_of x.now b.0 b.1))
    (λ x q k. search (rules, tests)) (λ x q k. search (rules, tests)))
