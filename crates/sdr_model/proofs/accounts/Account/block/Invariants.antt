use Rattle.std.proofs.Common.{◌≡◌, map, drop}
use Rattle.sdr_model.specs.Accounts.{block_for_ticket}
use Rattle.sdr_model.specs.Things.{block_among}
use Rattle.sdr_model.proofs.accounts.Account.block.Given as goal

abbrev pub invariant-loop-ticket : goal.invariant-loop-ticket
invariant-loop-ticket l = block_among l.addr (map block_for_ticket l.self.tickets) ≡ block_among l.addr (map block_for_ticket (drop l.ticket-index l.self.tickets))
