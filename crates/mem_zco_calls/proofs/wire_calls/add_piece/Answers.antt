use Rattle.std.proofs.lemmas.Grind.{common_steps}
use Rattle.std.proofs.Common.{arith}
use Rattle.sdr_model.proofs.PiecesLemmas.{filled-known, filled-unknown}
use Rattle.mem_zco_calls.proofs.wire_calls.add_piece.Goals as goal

pub returns-in-Known : goal.returns-in-Known
returns-in-Known c = let same = filled-known c.in-Known.known in grind (arith, common_steps)

pub returns-in_ok-zeros-in-File : goal.returns-in_ok-zeros-in-File
returns-in_ok-zeros-in-File c = let same = filled-unknown c.in-File.length in grind (arith, common_steps)
