use Rattle.std.proofs.Common.{arith}
use Rattle.boards.proofs.Answering.{text_changed}
use Rattle.boards.proofs.board.Board.load_text.Goals as goal

pub returns : goal.returns
returns c = record {
  loaded = c.read_and_load.ensures;
  changed =
      text_changed c.args.text.now c.args.self.now c.read_and_load.new.self c.args.list.now c.read_and_load.new.list (omega arith)
      c.read_and_load.result c.read_and_load.ensures;
}
