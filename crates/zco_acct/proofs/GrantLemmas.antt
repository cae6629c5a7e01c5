-- A grant is written in the middle of a queue.
use Rattle.std.proofs.Common.{◌≡◌, List, ◌∷◌, ◌++◌, Some, sym, ap, ◌∙◌, subst, append_assoc}
use Rattle.sdr_base.specs.Blocks.{Blocks, overwritten, with_block}
use Rattle.sdr_base.specs.Entries.{Entries, BlocksAre}
use Rattle.sdr_base.specs.Linked.{first_of, last_of, linked}
use Rattle.sdr_base.specs.declared.account.Acct.{Acct}
use Rattle.sdr_base.specs.declared.account.Amounts.{Amounts}
use Rattle.sdr_base.proofs.ChainLemmas.{linked-around}
use Rattle.sdr_base.proofs.StandingLemmas.{found, written_at}
use Rattle.sdr_model.specs.declared.accounts.Ticket.{Ticket}
use Rattle.zco_acct.specs.Kept.{block_of, queue_entries, queued_block}
use Rattle.zco_acct.specs.Tickets.{grant_bytes, granted_with}
use Rattle.zco_acct.proofs.TicketLemmas.{grant_written}

-- the queue with one ticket's block apart
pub queue-around : (acct : Acct) (xs : List Ticket) (t : Ticket) (ys : List Ticket) (rest : Entries) →
    queue_entries acct (xs ++ (t ∷ ys)) ++ rest
    ≡ linked block_of (queued_block acct) 0 t.block xs
    ++ ((t.block, queued_block acct 0 (first_of block_of 0 ys) t) ∷ (linked block_of (queued_block acct) t.block 0 ys ++ rest))
queue-around acct xs t ys rest =
    ap (λ (es : Entries). es ++ rest) (linked-around block_of (queued_block acct) 0 0 xs t ys)
    ∙ append_assoc (linked block_of (queued_block acct) 0 t.block xs)
    ((t.block, queued_block acct (last_of block_of 0 xs) (first_of block_of 0 ys) t)
    ∷ linked block_of (queued_block acct) t.block 0 ys) rest

-- a ticket of it is granted
pub regranted : (b b' : Blocks) (acct : Acct) (rest : Entries) (xs : List Ticket) (t : Ticket) (ys : List Ticket)
    (left : Amounts) → b' ≡ with_block b t.block (overwritten (b t.block) 56 (grant_bytes left)) →
    BlocksAre b (queue_entries acct (xs ++ (t ∷ ys)) ++ rest) →
    BlocksAre b' (queue_entries acct (xs ++ (granted_with t left ∷ ys)) ++ rest)
regranted b b' acct rest xs t ys left is s =
    let A = linked block_of (queued_block acct) 0 t.block xs in
    let B = linked block_of (queued_block acct) t.block 0 ys ++ rest in
    let old = queued_block acct 0 (first_of block_of 0 ys) t in
    let new = queued_block acct 0 (first_of block_of 0 ys) (granted_with t left) in
    let apart : BlocksAre b (A ++ ((t.block, old) ∷ B)) = subst (λ (es : Entries). BlocksAre b es) (queue-around acct xs t ys rest) s in
    let written : BlocksAre (with_block b t.block (Some new)) (A ++ ((t.block, new) ∷ B)) =
    written_at b t.block old new A B apart in
    let now : with_block b t.block (Some new) ≡ b' =
    ap (with_block b t.block)
    (sym (ap (λ o. overwritten o 56 (grant_bytes left)) (found b t.block old A B apart)
    ∙ grant_written acct 0 (first_of block_of 0 ys) t left)) ∙ sym is in
    subst (λ (c : Blocks). BlocksAre c (queue_entries acct (xs ++ (granted_with t left ∷ ys)) ++ rest)) now
    (subst (λ (es : Entries). BlocksAre (with_block b t.block (Some new)) es)
    (sym (queue-around acct xs (granted_with t left) ys rest)) written)
