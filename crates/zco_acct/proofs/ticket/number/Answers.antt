-- The first eight bytes from the field on are its number.
use Rattle.std.proofs.Common.{◌*◌, ◌-◌, ◌∙◌, arith}
use Rattle.zco_acct.proofs.TicketLemmas.{number_in}
use Rattle.zco_acct.proofs.ticket.number.Goals as goal

pub returns : goal.returns
returns c = c.read_u64.ensures ∙ number_in (8 * c.args.field) (96 - 8 * c.args.field) c.args.bytes.now (omega arith)
