-- The queues of a heap that keeps a world keep their law.
use Rattle.std.proofs.Common.{◌≡◌, ◌<◌, ◌/◌, ◌||◌, ℕ, Bool, true, false, List, ◌++◌, map, length, nat_eq, refl, sym, ap, ◌∙◌, subst}
use Rattle.std.specs.Prelude.{IfSome}
use Rattle.std.specs.List.{All, IsDistinct}
use Rattle.std.proofs.lemmas.Bool.{and_from}
use Rattle.std.proofs.lemmas.List.{map-append}
use Rattle.std.proofs.lemmas.List.Elements.{All-weaker}
use Rattle.sdr_base.specs.Pools.{Pools}
use Rattle.sdr_base.specs.declared.account.Acct.{Acct}
use Rattle.sdr_base.specs.declared.account.Acct.TheVariants as accts
use Rattle.sdr_base.specs.declared.account.Amounts.{Amounts}
use Rattle.sdr_stands.specs.Standing.{StandsForWhole}
use Rattle.audit_counts.specs.Queues.{AreLawfulIn, IsQueue, is_left_rightly, ticket_numbers, room, tickets}
use Rattle.sdr_model.specs.Accounts.{account_of, tickets_of}
use Rattle.sdr_model.specs.Amounts.{are_within, is_nothing, minus}
use Rattle.sdr_model.specs.Charges.{rooms}
use Rattle.sdr_model.specs.Queue.{front_waiting}
use Rattle.sdr_model.specs.Valid.{IsValidAccount, IsValidTicket}
use Rattle.sdr_model.specs.World.{World}
use Rattle.sdr_model.specs.declared.accounts.Ticket.{Ticket}
use Rattle.audit_owners.specs.View.{View, view_in}
use Rattle.sdr_audit.proofs.DistinctLemmas.{distinct_left}
use Rattle.sdr_audit.proofs.OccupiedLemmas.{occupied_are}
use Rattle.sdr_audit.proofs.ToldLemmas.{maxima_are, next_is, tickets_are}
use Rattle.sdr_audit.proofs.SoundStandLemmas.{All-left, All-right}

-- what is left of a valid ticket is right
left_rightly : (t : Ticket) → IsValidTicket t → is_left_rightly t ≡ true
left_rightly t valid = and_from (are_within t.left t.asked) (t.granted || is_nothing t.left) valid.left (by t.granted refl)
  where
    by : (granted : Bool) → t.granted ≡ granted → (t.granted || is_nothing t.left) ≡ true
    by true is = ap (λ (b : Bool). b || is_nothing t.left) is
    by false is = ap (λ (b : Bool). b || is_nothing t.left) is ∙ ap is_nothing (valid.waiting is)

module _ (bytes : List ℕ) (w : World) (P : Pools) (s : StandsForWhole bytes w P) where
  abbrev heap : View
  heap = view_in bytes

  abbrev words : ℕ
  words = length bytes / 8

  abbrev inbound : List Ticket
  inbound = w.accounts.inbound.tickets

  abbrev outbound : List Ticket
  outbound = w.accounts.outbound.tickets

  -- the room that the control words tell
  room_is : (account : Acct) → room heap account ≡ rooms w account
  room_is account = λ i. minus (maxima_are bytes w P s account i) (occupied_are bytes w P s account i)

  queue_is : (account : Acct) → All (λ n. n < w.accounts.next) (ticket_numbers (tickets_of w.accounts account)) →
      IsValidAccount (account_of w.accounts account) →
      IsQueue heap account (tickets heap words account)
  queue_is account below valid =
      subst (IsQueue heap account) (sym (tickets_are bytes w P s account))
      (record {
        below = subst (λ (next : ℕ). All (λ n. n < next) (ticket_numbers (tickets_of w.accounts account))) (sym (next_is bytes w P s)) below;
        order = valid.order;
        left = All-weaker IsValidTicket (λ t. is_left_rightly t ≡ true) left_rightly (tickets_of w.accounts account) valid.tickets;
        barred =
            subst (λ (r : Amounts). IfSome (front_waiting (tickets_of w.accounts account)) (λ t. are_within t.asked r ≡ false))
            (sym (room_is account))
            (s.whole.barred account);
      })

  parts : map (λ (t : Ticket). t.number) (inbound ++ outbound) ≡ ticket_numbers inbound ++ ticket_numbers outbound
  parts = map-append (λ (t : Ticket). t.number) inbound outbound

  below : All (λ n. n < w.accounts.next) (ticket_numbers inbound ++ ticket_numbers outbound)
  below = subst (All (λ n. n < w.accounts.next)) parts s.whole.queues.below

  distinct : IsDistinct nat_eq (ticket_numbers inbound ++ ticket_numbers outbound)
  distinct = subst (IsDistinct nat_eq) parts s.whole.queues.distinct

  -- both queues keep their law
  pub queues_lawful : AreLawfulIn bytes
  queues_lawful =
      let in_same = tickets_are bytes w P s accts.Inbound in
      let out_same = tickets_are bytes w P s accts.Outbound in
      record {
        inbound = record {
          distinct =
              subst (λ (ts : List Ticket). IsDistinct nat_eq (ticket_numbers ts)) (sym in_same)
              (distinct_left nat_eq (ticket_numbers inbound) (ticket_numbers outbound) distinct);
          queue =
              queue_is accts.Inbound
              (All-left (λ n. n < w.accounts.next) (ticket_numbers inbound) (ticket_numbers outbound) below) s.whole.queues.inbound;
        };
        outbound = record {
          distinct =
              subst (IsDistinct nat_eq) (λ i. ticket_numbers (sym in_same i) ++ ticket_numbers (sym out_same i))
              distinct;
          queue =
              queue_is accts.Outbound
              (All-right (λ n. n < w.accounts.next) (ticket_numbers inbound) (ticket_numbers outbound) below) s.whole.queues.outbound;
        };
      }
