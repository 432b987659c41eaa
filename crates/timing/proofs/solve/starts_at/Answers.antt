use Rattle.std.proofs.Common.{◌≡◌, ℕ, ◌<◌, get_or, map, sym, ◌∙◌, arith, rules}
use lib.ListN.{length-map}
use Rattle.std.proofs.lemmas.List.{get_or-map}
use Rattle.std.proofs.lemmas.Grind.{same_number_lists}
use Rattle.lengths.specs.Models.{no_ticks}
use Rattle.timing.specs.Timing.{start_of}
use Rattle.timing.proofs.solve.starts_at.Goals as goal

pub returns : goal.returns
returns c =
    let m = c.map.ensures.items in
    let best = c.args.best in
    let at : (k : ℕ) → k < 64 → get_or c.map.result k 0 ≡ start_of (get_or best k no_ticks) = λ k h. (let q = (m.at k no_ticks 0 h).2 in search rules) in
    same_number_lists c.map.result (map start_of best) (omega (arith, m.long, length-map best start_of))
    (λ k h. at k (omega (arith, m.long)) ∙ sym (get_or-map start_of best k no_ticks 0 (omega (arith, m.long))))
