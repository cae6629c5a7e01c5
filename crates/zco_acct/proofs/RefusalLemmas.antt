-- What was found in the queue, and in the control words, means for a charge.
use Rattle.std.proofs.Common.{◌≡◌, ◌≢◌, ℕ, true, false, cond, None, Some, sym, ap, ◌∙◌}
use Rattle.std.specs.Prelude.{Option, find}
use Rattle.std.specs.Option.{option_map, option_or}
use Rattle.std.proofs.lemmas.Bool.{ne_eqb}
use Rattle.sdr_base.specs.Objects.{Heap}
use Rattle.sdr_base.specs.declared.account.Acct.{Acct}
use Rattle.sdr_base.specs.declared.account.Amounts.{Amounts}
use Rattle.sdr_base.specs.declared.kind.Space.{Space}
use Rattle.sdr_base.specs.declared.refusal.Refusal.{Refusal}
use Rattle.sdr_base.specs.declared.refusal.Refusal.TheVariants as refusals
use Rattle.sdr_base.specs.declared.stop.Stop.{Stop}
use Rattle.sdr_base.specs.declared.stop.Stop.TheVariants.{Refused, DiskFault, MediaFault, Failed}
use Rattle.sdr_model.specs.Amounts.{first_above, is_nothing, minus}
use Rattle.sdr_model.specs.Queue.{front_waiting}
use Rattle.sdr_model.specs.declared.accounts.Ticket.{Ticket}
use Rattle.zco_acct.specs.Refusals.{Allows, GrantsOf, RefusedAs, Refuses, no_space, queue_refusal, room_refusal, ticket_refusal, unusable}
use Rattle.zco_acct.specs.Walks.{Searches, has_number, waits}
use Rattle.zco_acct.specs.Words.{maxima_in, occupied_in}
use Rattle.zco_acct.specs.declared.queue.Found.{Found}
use Rattle.zco_acct.proofs.QueueLemmas.{found_is}

module _ {heap : Heap} {acct : Acct} {number : ℕ} where
  pub grants_none : number ≡ 0 → GrantsOf heap acct number None
  grants_none z = record { grants = λ tickets k. z }

  pub grants_found : (found : Found) → number ≢ 0 → Searches heap acct (has_number number) (Some found) →
      found.ticket.granted ≡ true → GrantsOf heap acct number (Some found)
  grants_found found n s granted = record {
    grants = λ tickets k. record { nonzero = ne_eqb number 0 n; first = s.searched tickets k; granted = granted };
  }

  -- there is no such ticket
  pub no_ticket : number ≢ 0 → Searches heap acct (has_number number) None →
      Refuses heap acct (λ tickets. ticket_refusal tickets number) (refusals.BadTicket number)
  no_ticket n s = record {
    some = λ tickets k.
        ap (λ b. cond b None (unusable number (find (has_number number) tickets))) (ne_eqb number 0 n)
        ∙ ap (unusable number) (s.searched tickets k);
  }

  -- it waits
  pub not_granted : (found : Found) → number ≢ 0 → Searches heap acct (has_number number) (Some found) →
      found.ticket.granted ≡ false →
      Refuses heap acct (λ tickets. ticket_refusal tickets number) (refusals.NotAwarded number)
  not_granted found n s waiting = record {
    some = λ tickets k.
        ap (λ b. cond b None (unusable number (find (has_number number) tickets))) (ne_eqb number 0 n)
        ∙ ap (unusable number) (found_is (s.searched tickets k))
        ∙ ap (λ b. cond b None (Some (refusals.NotAwarded number))) waiting;
  }

abbrev barred : Option Ticket → Option Refusal
barred = option_map (λ (t : Ticket). refusals.Queue t.number)

module _ (heap : Heap) (acct : Acct) (uncovered : Amounts) where
  -- nothing is to be charged
  pub free_for_nothing : is_nothing uncovered ≡ true → Allows heap acct (λ tickets. queue_refusal tickets uncovered)
  free_for_nothing e = record { none = λ tickets k. ap (λ b. barred (cond b None (front_waiting tickets))) e }

  -- none waits
  pub free : is_nothing uncovered ≡ false → Searches heap acct waits None →
      Allows heap acct (λ tickets. queue_refusal tickets uncovered)
  free e s = record {
    none = λ tickets k. ap (λ b. barred (cond b None (front_waiting tickets))) e ∙ ap barred (s.searched tickets k);
  }

  -- one waits
  pub not_free : (found : Found) → is_nothing uncovered ≡ false → Searches heap acct waits (Some found) →
      Refuses heap acct (λ tickets. queue_refusal tickets uncovered) (refusals.Queue found.ticket.number)
  not_free found e s = record {
    some = λ tickets k.
        ap (λ b. barred (cond b None (front_waiting tickets))) e ∙ ap barred (found_is (s.searched tickets k));
  }

  abbrev in_space : Option Space → Option Refusal
  in_space = option_map (no_space (occupied_in heap acct) uncovered (maxima_in heap acct))

  above_is : (before most : Amounts) (o : Option Space) → before ≡ occupied_in heap acct → most ≡ maxima_in heap acct →
      first_above uncovered (minus most before) ≡ o →
      first_above uncovered (minus (maxima_in heap acct) (occupied_in heap acct)) ≡ o
  above_is before most o b m e =
      ap (λ (x : Amounts). first_above uncovered (minus (maxima_in heap acct) x)) (sym b)
      ∙ ap (λ (x : Amounts). first_above uncovered (minus x before)) (sym m) ∙ e

  -- there is room
  pub has_room : (before most : Amounts) → Allows heap acct (λ tickets. queue_refusal tickets uncovered) →
      before ≡ occupied_in heap acct → most ≡ maxima_in heap acct → first_above uncovered (minus most before) ≡ None →
      Allows heap acct (λ tickets. room_refusal tickets uncovered (occupied_in heap acct) (maxima_in heap acct))
  has_room before most f b m e = record {
    none = λ tickets k.
        ap (λ (o : Option Refusal). option_or o
        (in_space (first_above uncovered (minus (maxima_in heap acct) (occupied_in heap acct))))) (f.none tickets k)
        ∙ ap in_space (above_is before most None b m e);
  }

  -- there is none
  pub no_room : (before most : Amounts) (space : Space) → Allows heap acct (λ tickets. queue_refusal tickets uncovered) →
      before ≡ occupied_in heap acct → most ≡ maxima_in heap acct → first_above uncovered (minus most before) ≡ Some space →
      Refuses heap acct (λ tickets. room_refusal tickets uncovered (occupied_in heap acct) (maxima_in heap acct))
      (no_space before uncovered most space)
  no_room before most space f b m e = record {
    some = λ tickets k.
        ap (λ (o : Option Refusal). option_or o
        (in_space (first_above uncovered (minus (maxima_in heap acct) (occupied_in heap acct))))) (f.none tickets k)
        ∙ ap in_space (above_is before most (Some space) b m e)
        ∙ ap (λ (x : Amounts). Some (no_space x uncovered (maxima_in heap acct) space)) (sym b)
        ∙ ap (λ (x : Amounts). Some (no_space before uncovered x space)) (sym m);
  }

  -- a ticket that waits comes before the room
  pub queue_first : (stop : Stop) → RefusedAs heap acct (λ tickets. queue_refusal tickets uncovered) stop →
      RefusedAs heap acct (λ tickets. room_refusal tickets uncovered (occupied_in heap acct) (maxima_in heap acct)) stop
  queue_first (Refused (refusals.LogFull lines room)) r = r
  queue_first (Refused refusal) r = record {
    some = λ tickets k.
        ap (λ (o : Option Refusal). option_or o
        (in_space (first_above uncovered (minus (maxima_in heap acct) (occupied_in heap acct))))) (r.some tickets k);
  }
  queue_first DiskFault r = r
  queue_first MediaFault r = r
  queue_first Failed r = r
