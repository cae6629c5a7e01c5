-- A heap that stands for a world, where things and the queue of an account change together.
use Rattle.std.proofs.Common.{◌≡◌, ◌∙◌, ℕ, List, [], ◌++◌, Option, Some, None, map, refl, sym, ap, subst, append_assoc, append-nil}
use Rattle.std.specs.FinMap as finite
use Rattle.sdr_stands.proofs.TiesLemmas.{same_ties}
use Rattle.sdr_stands.specs.Rows.{name_row}
use Rattle.sdr_stands.specs.Standing.{HeapStandsFor, account_roots, entries_of, other_entries, roots_of, thing_entries, with_taken_marked}
use Rattle.sdr_stands.specs.Standing as audit
use Rattle.sdr_stands.specs.Ties.{TieAlike, Ties, ties_of}
use Rattle.sdr_base.proofs.SectionLemmas.{section-change, section-gone, section-new}
use Rattle.sdr_base.proofs.StandingLemmas as standing
use Rattle.sdr_base.proofs.StandingLemmas.{moved_back, stands_swapped_two, swaps_after, swaps_before}
use Rattle.sdr_base.specs.Blocks.{Blocks}
use Rattle.sdr_base.specs.Catalogue.{catalogue_entries}
use Rattle.sdr_base.specs.Entries.{Changes, Entries, BlocksAre, Swaps}
use Rattle.sdr_base.specs.Section.{section}
use Rattle.sdr_base.specs.Tickets.{ticket_entries}
use Rattle.sdr_base.specs.declared.account.Acct.{Acct}
use Rattle.sdr_base.specs.declared.account.Acct.TheVariants as accts
use Rattle.sdr_model.proofs.ThingsLemmas.{with_at-again}
use Rattle.sdr_model.specs.Accounts.{tickets_of, with_tickets}
use Rattle.sdr_model.specs.Things.{Things, with_at}
use Rattle.sdr_model.specs.TicketRows.{ticket_row}
use Rattle.sdr_model.specs.World.{World, thing_at}
use Rattle.sdr_model.specs.declared.accounts.Ticket.{Ticket}
use Rattle.sdr_model.specs.declared.things.Thing.{Thing}
use Rattle.zco_acct.specs.Kept.{queue_entries}
use Rattle.step_zco.proofs.AlikeLemmas.{StandAlike, is_alike, was_alike}
use Rattle.step_zco.proofs.AccountLemmas.{account_with, world_with}
use Rattle.step_zco.proofs.QueueLemmas.{same_entries}

-- the blocks of two parts stand in front of all others
pub both_focused : {b : Blocks} {xs xs' ys ys' p p' q q' : Entries} (u : Swaps xs xs' p p') (v : Swaps ys ys' q q') →
    BlocksAre b (xs ++ ys) → BlocksAre b (p ++ (q ++ ((u.before ++ (u.behind ++ v.before)) ++ v.behind)))
both_focused {b} {xs} {xs'} {ys} {ys'} {p} {p'} {q} {q'} u v s =
    let z = u.before ++ (u.behind ++ v.before) in
    let r = q ++ v.behind in
    let first : xs ++ ys ≡ u.before ++ (p ++ (u.behind ++ ys)) =
    ap (λ (es : Entries). es ++ ys) u.was ∙ append_assoc u.before (p ++ u.behind) ys
    ∙ ap (λ (es : Entries). u.before ++ es) (append_assoc p u.behind ys) in
    let one : BlocksAre b (p ++ (u.before ++ (u.behind ++ ys))) =
    standing.moved u.before p (u.behind ++ ys) (subst (λ (es : Entries). BlocksAre b es) first s) in
    let inner : u.before ++ (u.behind ++ ys) ≡ z ++ r =
    ap (λ (es : Entries). u.before ++ (u.behind ++ es)) v.was
    ∙ ap (λ (es : Entries). u.before ++ es) (sym (append_assoc u.behind v.before r))
    ∙ sym (append_assoc u.before (u.behind ++ v.before) r) in
    let two : BlocksAre b ((p ++ z) ++ r) =
    subst (λ (es : Entries). BlocksAre b es) (ap (λ (es : Entries). p ++ es) inner ∙ sym (append_assoc p z r)) one in
    moved_back p q (z ++ v.behind)
    (subst (λ (es : Entries). BlocksAre b (q ++ es)) (append_assoc p z v.behind)
    (standing.moved (p ++ z) q v.behind two))

-- what is at an address is a part of the blocks of all things
abbrev pub entries_at : Ties → ℕ → Option Thing → Entries
entries_at ties addr None = []
entries_at ties addr (Some thing) = thing_entries ties addr thing

section_at : (ties : Ties) (m : Things) (addr : ℕ) (was now : Option Thing) → finite.get m addr ≡ was →
    Swaps (section (thing_entries ties) m) (section (thing_entries ties) (with_at m addr now)) (entries_at ties addr was)
    (entries_at ties addr now)
section_at ties m addr None None is = record {
  before = section (thing_entries ties) m;
  behind = [];
  was = sym (append-nil (section (thing_entries ties) m));
  is = ap (λ (n : Things). section (thing_entries ties) n) (with_at-again m addr None is)
      ∙ sym (append-nil (section (thing_entries ties) m));
}
section_at ties m addr None (Some thing) is = section-new (thing_entries ties) m addr thing is
section_at ties m addr (Some thing) None is = section-gone (thing_entries ties) m addr thing is
section_at ties m addr (Some thing) (Some other) is = section-change (thing_entries ties) m addr thing other is

-- so where what comes ties alike what was there
pub things_swap : (w : World) (addr : ℕ) (was now : Option Thing) → thing_at w addr ≡ was → TieAlike was now →
    Swaps (section (thing_entries (ties_of w)) w.things)
    (section (thing_entries (ties_of (record w { things = with_at w.things addr now }))) (with_at w.things addr now))
    (entries_at (ties_of w) addr was) (entries_at (ties_of w) addr now)
things_swap w addr was now is alike =
    subst
    (λ (t : Ties). Swaps (section (thing_entries (ties_of w)) w.things) (section (thing_entries t) (with_at w.things addr now))
    (entries_at (ties_of w) addr was) (entries_at (ties_of w) addr now))
    (sym (same_ties w addr now (subst (λ (o : Option Thing). TieAlike o now) (sym is) alike)))
    (section_at (ties_of w) w.things addr was now is)

-- the queue of an account is a part of the blocks beside things
pub queue_swap : (w : World) (acct : Acct) (ts : List Ticket) →
    Swaps (other_entries w) (other_entries (record w { accounts = with_tickets w.accounts acct ts }))
    (queue_entries acct (tickets_of w.accounts acct)) (queue_entries acct ts)
queue_swap w acct ts =
    subst
    (λ (es : Entries). Swaps (other_entries w) (other_entries (record w { accounts = with_tickets w.accounts acct ts })) es
    (queue_entries acct ts)) (same_entries acct 0 (tickets_of w.accounts acct))
    (subst
    (λ (es : Entries). Swaps (other_entries w) (other_entries (record w { accounts = with_tickets w.accounts acct ts }))
    (audit.queue_entries w.accounts acct) es) (same_entries acct 0 ts) (by acct))
  where
    by : (a : Acct) → Swaps (other_entries w) (other_entries (record w { accounts = with_tickets w.accounts a ts }))
        (audit.queue_entries w.accounts a) (ticket_entries a (map ticket_row ts))
    by accts.Inbound =
        swaps_after (catalogue_entries (map name_row w.names))
        (record { before = []; behind = audit.queue_entries w.accounts accts.Outbound; was = refl; is = refl })
    by accts.Outbound =
        swaps_after (catalogue_entries (map name_row w.names))
        (swaps_after (audit.queue_entries w.accounts accts.Inbound)
        (record {
          before = [];
          behind = [];
          was = sym (append-nil (audit.queue_entries w.accounts accts.Outbound));
          is = sym (append-nil (ticket_entries accts.Outbound (map ticket_row ts)));
        }))

-- the world with these things, and with these tickets in the queue of an account
abbrev pub moved : World → Things → Acct → List Ticket → World
moved w m acct ts = world_with (record w { things = m }) acct (account_with w acct ts) w.accounts.next

-- its blocks, where some that may stand in front of the other things' and the queue change
pub both_alike : {b b' : Blocks} (w : World) (m : Things) (acct : Acct) (ts : List Ticket) (part part' rest : Entries) →
    StandAlike (section (thing_entries (ties_of w)) w.things) (part ++ rest) →
    StandAlike (section (thing_entries (ties_of (record w { things = m }))) m) (part' ++ rest) →
    Changes b b' (part ++ queue_entries acct (tickets_of w.accounts acct)) (part' ++ queue_entries acct ts) →
    Changes b b' (entries_of w) (entries_of (moved w m acct ts))
both_alike {b} {b'} w m acct ts part part' rest was now changes = record { kept = λ tail s. by acct tail s changes }
  where
    part_swap : Swaps (part ++ rest) (part' ++ rest) part part'
    part_swap = record { before = []; behind = rest; was = refl; is = refl }

    first : (tail : Entries) → BlocksAre b (entries_of w ++ tail) →
        BlocksAre b ((part ++ rest) ++ (other_entries w ++ tail))
    first tail s =
        was.forth b (other_entries w ++ tail)
        (subst (λ (es : Entries). BlocksAre b es)
        (append_assoc (section (thing_entries (ties_of w)) w.things) (other_entries w) tail) s)

    last : (others tail : Entries) → BlocksAre b' ((part' ++ rest) ++ (others ++ tail)) →
        BlocksAre b' ((section (thing_entries (ties_of (record w { things = m }))) m ++ others) ++ tail)
    last others tail s =
        subst (λ (es : Entries). BlocksAre b' es)
        (sym (append_assoc (section (thing_entries (ties_of (record w { things = m }))) m) others tail))
        (now.back b' (others ++ tail) s)

    by : (a : Acct) (tail : Entries) → BlocksAre b (entries_of w ++ tail) →
        Changes b b' (part ++ queue_entries a (tickets_of w.accounts a)) (part' ++ queue_entries a ts) →
        BlocksAre b' (entries_of (moved w m a ts) ++ tail)
    by accts.Inbound tail s changes =
        last (other_entries (moved w m accts.Inbound ts)) tail
        (stands_swapped_two (first tail s) part_swap (swaps_before tail (queue_swap w accts.Inbound ts)) changes)
    by accts.Outbound tail s changes =
        last (other_entries (moved w m accts.Outbound ts)) tail
        (stands_swapped_two (first tail s) part_swap (swaps_before tail (queue_swap w accts.Outbound ts)) changes)

-- so it is where a part of the things and the queue change
pub both_change : {b b' : Blocks} {was now : Entries} (w : World) (m : Things) (acct : Acct) (ts : List Ticket) →
    Swaps (section (thing_entries (ties_of w)) w.things) (section (thing_entries (ties_of (record w { things = m }))) m) was now →
    Changes b b' (was ++ queue_entries acct (tickets_of w.accounts acct)) (now ++ queue_entries acct ts) →
    Changes b b' (entries_of w) (entries_of (moved w m acct ts))
both_change {was = was} {now = now} w m acct ts swap changes =
    both_alike w m acct ts was now (swap.before ++ swap.behind) (was_alike swap) (is_alike swap) changes
