use Rattle.std.proofs.Common.{[]}
use Rattle.sdr_board.proofs.Rules.{opens}
use Rattle.sdr_board.proofs.board.Board.empty.Goals as goal

pub of_words-requires : goal.of_words-requires
of_words-requires c = opens []
