use Rattle.std.proofs.Common.{[], refl, arith}
use Rattle.ledger.specs.Calls.{entries}
use Rattle.texts.specs.Outcomes.{entries_of}
use Rattle.boards.proofs.Answering.{loaded_changed}
use Rattle.boards.proofs.board.Board.load.Goals as goal

pub returns : goal.returns
returns c = record {
  loaded = c.load_draft.ensures.loaded;
  whole = c.load_draft.ensures.whole;
  changed =
      loaded_changed c.args.filled.now.sizes c.args.tables.now c.load_draft.ensures.whole c.args.self.now c.load_draft.new.self
      (entries (entries_of c.args.filled.now.sizes c.args.tables.now)) c.args.list.now c.load_draft.new.list (omega arith) refl [] refl tt c.load_draft.result c.load_draft.ensures.loaded;
}
