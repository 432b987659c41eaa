use Rattle.std.proofs.Common.{sym, ◌∙◌, arith}
use Rattle.std.proofs.lemmas.Bool.{false≢true}
use Rattle.search.proofs.EdgeReads.{searchable_fits, fits_searchable}
use Rattle.search.proofs.Graph.new.Goals as goal
use Rattle.search.proofs.Graph.new.Goals.{then-nodes-gt64-via-then-nodes-gt64, then-nodes-gt64-via-else-nodes-gt64+then-not-all_fit}

pub returns-then-nodes-gt64-clause-refused : goal.returns-then-nodes-gt64-clause-refused
returns-then-nodes-gt64-clause-refused g c s =
    elim c.then-nodes-gt64.branch [
      | then-nodes-gt64-via-then-nodes-gt64 w ↦ (let f = s.few in omega arith)
      | then-nodes-gt64-via-else-nodes-gt64+then-not-all_fit w ↦
          false≢true (sym w.if-not-all_fit.true ∙ w.all_fit.ensures.1 (fits_searchable _ _ _ _ _ s))
    ]

pub invariant_of-result : goal.invariant_of-result
invariant_of-result g c = record {
  searchable = searchable_fits _ _ _ _ _ c.if-nodes-gt64.false (c.all_fit.ensures.0 c.if-not-all_fit.false);
}
