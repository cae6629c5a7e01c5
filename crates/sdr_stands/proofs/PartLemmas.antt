-- The parts of a world's blocks, and what becomes of them.
use Rattle.std.proofs.Common.{◌≡◌, ℕ, List, [], ◌++◌, Some, None, refl, sym, subst, append-nil, map}
use Rattle.std.specs.FinMap as finite
use Rattle.sdr_base.specs.Catalogue.{catalogue_entries}
use Rattle.sdr_base.specs.Entries.{Swaps}
use Rattle.sdr_base.specs.Section.{section}
use Rattle.sdr_base.specs.Tickets.{ticket_entries}
use Rattle.sdr_base.specs.declared.account.Acct.{Acct}
use Rattle.sdr_base.specs.declared.account.Acct.TheVariants as accts
use Rattle.sdr_base.proofs.SectionLemmas.{section-change, section-gone, section-new}
use Rattle.sdr_base.proofs.StandingLemmas.{swaps_after, swaps_before}
use Rattle.sdr_model.specs.Accounts.{with_tickets}
use Rattle.sdr_model.specs.Steps.{with_thing, without_thing}
use Rattle.sdr_model.specs.TicketRows.{ticket_row}
use Rattle.sdr_model.specs.World.{World, thing_at}
use Rattle.sdr_model.specs.declared.accounts.Ticket.{Ticket}
use Rattle.sdr_model.specs.declared.name.Name.{Name}
use Rattle.sdr_model.specs.declared.things.Thing.{Thing}
use Rattle.sdr_stands.specs.Rows.{name_row}
use Rattle.sdr_stands.specs.Standing.{entries_of, other_entries, queue_entries, thing_entries}
use Rattle.sdr_stands.specs.Ties.{TieAlike, ties_of}
use Rattle.sdr_stands.proofs.TiesLemmas.{same_ties}

-- a new thing that names nothing is one more part of the world's blocks
pub thing_new : (w : World) (addr : ℕ) (thing : Thing) → thing_at w addr ≡ None → TieAlike None (Some thing) →
    Swaps (entries_of w) (entries_of (with_thing w addr thing)) [] (thing_entries (ties_of w) addr thing)
thing_new w addr thing none alike =
    subst
    (λ t. Swaps (entries_of w) (section (thing_entries t) (finite.insert w.things addr thing) ++ other_entries w) []
    (thing_entries (ties_of w) addr thing))
    (sym (same_ties w addr (Some thing) (subst (λ o. TieAlike o (Some thing)) (sym none) alike)))
    (swaps_before (other_entries w) (section-new (thing_entries (ties_of w)) w.things addr thing none))

-- one that changes, and names what it named, is a part that changes
pub thing_changed : (w : World) (addr : ℕ) (thing other : Thing) → thing_at w addr ≡ Some thing →
    TieAlike (Some thing) (Some other) →
    Swaps (entries_of w) (entries_of (with_thing w addr other)) (thing_entries (ties_of w) addr thing)
    (thing_entries (ties_of w) addr other)
thing_changed w addr thing other is alike =
    subst
    (λ t. Swaps (entries_of w) (section (thing_entries t) (finite.insert w.things addr other) ++ other_entries w)
    (thing_entries (ties_of w) addr thing) (thing_entries (ties_of w) addr other))
    (sym (same_ties w addr (Some other) (subst (λ o. TieAlike o (Some other)) (sym is) alike)))
    (swaps_before (other_entries w) (section-change (thing_entries (ties_of w)) w.things addr thing other is))

-- one that goes, and named nothing, is a part that goes
pub thing_gone : (w : World) (addr : ℕ) (thing : Thing) → thing_at w addr ≡ Some thing → TieAlike (Some thing) None →
    Swaps (entries_of w) (entries_of (without_thing w addr)) (thing_entries (ties_of w) addr thing) []
thing_gone w addr thing is alike =
    subst
    (λ t. Swaps (entries_of w) (section (thing_entries t) (finite.remove w.things addr) ++ other_entries w)
    (thing_entries (ties_of w) addr thing) [])
    (sym (same_ties w addr None (subst (λ o. TieAlike o None) (sym is) alike)))
    (swaps_before (other_entries w) (section-gone (thing_entries (ties_of w)) w.things addr thing is))

-- where the blocks of a thing stand among the world's
pub among : (w : World) (addr : ℕ) (thing : Thing) → thing_at w addr ≡ Some thing →
    Swaps (entries_of w) (entries_of w) (thing_entries (ties_of w) addr thing) (thing_entries (ties_of w) addr thing)
among w addr thing is =
    let s = section-change (thing_entries (ties_of w)) w.things addr thing thing is in
    swaps_before (other_entries w) (record { before = s.before; behind = s.behind; was = s.was; is = s.was })

-- the catalogue is a part of the world's blocks
pub names_part : (w : World) (names : List Name) →
    Swaps (entries_of w) (entries_of (record w { names = names })) (catalogue_entries (map name_row w.names))
    (catalogue_entries (map name_row names))
names_part w names = record {
  before = section (thing_entries (ties_of w)) w.things;
  behind = queue_entries w.accounts accts.Inbound ++ queue_entries w.accounts accts.Outbound;
  was = refl;
  is = refl;
}

-- so is each queue
pub queue_part : (w : World) (acct : Acct) (tickets : List Ticket) →
    Swaps (entries_of w) (entries_of (record w { accounts = with_tickets w.accounts acct tickets }))
    (queue_entries w.accounts acct) (ticket_entries acct (map ticket_row tickets))
queue_part w accts.Inbound tickets =
    swaps_after (section (thing_entries (ties_of w)) w.things)
    (swaps_after (catalogue_entries (map name_row w.names))
    (record { before = []; behind = queue_entries w.accounts accts.Outbound; was = refl; is = refl }))
queue_part w accts.Outbound tickets =
    let now = ticket_entries accts.Outbound (map ticket_row tickets) in
    swaps_after (section (thing_entries (ties_of w)) w.things)
    (swaps_after (catalogue_entries (map name_row w.names))
    (swaps_after (queue_entries w.accounts accts.Inbound)
    (record {
      before = [];
      behind = [];
      was = sym (append-nil (queue_entries w.accounts accts.Outbound));
      is = sym (append-nil now);
    })))
