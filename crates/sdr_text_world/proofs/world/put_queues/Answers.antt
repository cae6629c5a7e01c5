use Rattle.std.proofs.Common.{◌≡◌, ◌∙◌, ◌++◌, OnErr, ap, subst}
use Rattle.std.proofs.KnownBytes.{Appends-trans}
use Rattle.std.specs.Io.KnownBytes.{append_known}
use Rattle.sdr_base.specs.Written.{AppendsPart}
use Rattle.sdr_base.specs.declared.account.Acct.TheVariants as accts
use Rattle.sdr_buffer.proofs.WaitingLemmas.{grows_more}
use Rattle.sdr_model.specs.declared.accounts.Accounts.{Accounts}
use Rattle.sdr_text.proofs.PartLemmas.{part_behind}
use Rattle.sdr_text_world.specs.AccountText.{names_text, tickets_text}
use Rattle.sdr_text_world.specs.WorldText.{queues_text}
use Rattle.sdr_text_world.proofs.world.put_queues.Goals as goal

pub returns-clause-err : goal.returns-clause-err
returns-clause-err g c =
    let inbound = tickets_text accts.Inbound c.as_slice.result.now in
    let outbound = tickets_text accts.Outbound c.as_slice-2.result.now in
    let e = c.as_slice.ensures ∙ ap (λ (a : Accounts). a.inbound.tickets) c.accounts-accounts.ensures in
    let f = c.as_slice-2.ensures ∙ ap (λ (a : Accounts). a.outbound.tickets) c.accounts-accounts.ensures in
    let h = c.as_slice-3.ensures ∙ c.names.ensures in
    let same : inbound ++ outbound ++ names_text c.as_slice-3.result.now ≡ queues_text c.args.world.now =
    λ i. tickets_text accts.Inbound (e i) ++ tickets_text accts.Outbound (f i) ++ names_text (h i) in
    subst (λ t. OnErr c.put_names.result (AppendsPart (append_known (g.K.Sink.taken c.args.out.now) c.args.waiting.now.bytes) (append_known (g.K.Sink.taken c.put_names.new.out) c.put_names.new.waiting.bytes) t)) same
    (part_behind c.put_names.result _ _ _ (inbound ++ outbound) (names_text c.as_slice-3.result.now)
    (Appends-trans _ _ _ inbound outbound c.in_ok-put_tickets.ensures.ok c.in_ok-put_tickets-2.ensures.ok)
    c.put_names.ensures.err)

pub returns-in_err-put_tickets-2-clause-grows : goal.returns-in_err-put_tickets-2-clause-grows
returns-in_err-put_tickets-2-clause-grows g c = grows_more _ _ _ c.put_tickets.ensures.grows c.put_tickets-2.ensures.grows

pub returns-clause-grows : goal.returns-clause-grows
returns-clause-grows g c =
    grows_more _ _ _ c.put_tickets.ensures.grows (grows_more _ _ _ c.put_tickets-2.ensures.grows c.put_names.ensures.grows)
