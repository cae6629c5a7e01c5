-- The row in which all have stalled, step by step.
use Rattle.std.proofs.Common.{◌≡◌, ℕ, List, [], ◌∷◌, Option, None, Some, refl, inl, false, true}
use Rattle.sdr_base.specs.declared.moves.Move.TheVariants.{Took}
use Rattle.sdr_machine.specs.Machine.{Machine}
use Rattle.sdr_machine.specs.Nesting.{nested}
use Rattle.sdr_machine.specs.declared.daemon.Holding.{Holding}
use Rattle.sdr_model.specs.World.{World, empty_world}
use Rattle.sdr_model.specs.declared.answer.Reply.TheVariants as replies
use Rattle.sdr_model.specs.declared.call.Call.TheVariants as calls
use Rattle.law_runs.specs.Rows.{LeavesJournal, said}
use Rattle.sdr_model.specs.declared.answer.Close.TheVariants as closes
use Rattle.std.proofs.Common.{◌∙◌, ◌*◌, ◌+◌, sym, ap, sum_by}
use Rattle.std.specs.FinMap as finite
use Rattle.std.specs.FinMap.{empty, len-empty, len-entries}
use Rattle.std.specs.Ordering.{nat_cmp}
use Rattle.std.proofs.lemmas.List.{nil_from_length}
use Rattle.sdr_base.specs.declared.account.Acct.TheVariants as accts
use Rattle.sdr_base.specs.declared.account.Amounts.{Amounts}
use Rattle.sdr_base.specs.declared.kind.Space.TheVariants as spaces
use Rattle.sdr_base.specs.declared.moves.Move.TheVariants.{Gave}
use Rattle.sdr_machine.specs.Ground.{bare, committed}
use Rattle.sdr_model.specs.Dry.{StepsDry}
use Rattle.sdr_model.specs.declared.answer.Answer.TheVariants as answers
use Rattle.sdr_model.specs.declared.event.Event.TheVariants as events
use Rattle.sdr_machine.specs.Transaction.{ClosesSo, OpenTransaction}
use Rattle.sdr_model.specs.AccountSteps.{is_granted, with_amount, new_ticket}
use Rattle.sdr_model.specs.Accounts.{account_of, fresh_accounts, pending_in, tickets_of, with_tickets}
use Rattle.sdr_model.specs.Amounts.{amounts_by, no_amounts}
use Rattle.sdr_model.specs.Charges.{left_in, thing_charge}
use Rattle.sdr_model.specs.Queue.{served, with_served}
use Rattle.sdr_model.specs.declared.accounts.Ticket.{Ticket}
use Rattle.sdr_model.specs.declared.call.Call.{Call}
use Rattle.sdr_model.specs.declared.things.Thing.{Thing}
use Rattle.law_runs.specs.StalledRow.{stalled_journal, stalled_made}
use Rattle.law_runs.proofs.RowLemmas.{◌and◌, answers_so, machine, modified_at, plain, steps_leave, under}

-- so many bytes of heap space
abbrev of_heap : ℕ → Amounts
of_heap bytes = record no_amounts { heap = bytes }

-- a ticket that asks for so many bytes of heap space, and waits
abbrev waits_ticket : ℕ → ℕ → Ticket
waits_ticket number bytes = new_ticket number (8 * number) (of_heap bytes) 1 0

-- the same, where it is granted
abbrev granted_ticket : ℕ → ℕ → Ticket
granted_ticket number bytes = record (waits_ticket number bytes) { left = of_heap bytes; granted = true }

-- a world of tickets alone, where the outbound account may occupy so many bytes of heap space
abbrev crowd : ℕ → List Ticket → ℕ → List ℕ → ℕ → World
crowd most tickets next marks taken = record empty_world {
  accounts =
      record (fresh_accounts 32768) {
        outbound = record { tickets = tickets; maxima = with_amount (account_of (fresh_accounts 32768) accts.Outbound).maxima spaces.Heap most };
        next = next;
      };
  marks = marks;
  taken = taken;
}

-- a world without things has no entries
no_things : finite.entries empty_world.things ≡ []
no_things = nil_from_length _ (sym (len-entries (empty {K = ℕ} {X = Thing} {R = nat_cmp})) ∙ len-empty nat_cmp Thing)

-- so its queue is served by what is left of tickets alone
abbrev served_by : World → List (ℕ × Thing) → World
served_by w es = record w {
  accounts =
      with_tickets w.accounts accts.Outbound
      (served (account_of w.accounts accts.Outbound).maxima
      (amounts_by (λ space. sum_by (λ (e : ℕ × Thing). thing_charge w accts.Outbound space e.0 e.1) es + left_in space (tickets_of w.accounts accts.Outbound)))
      (tickets_of w.accounts accts.Outbound));
}

queue_served : (most : ℕ) (tickets : List Ticket) (next : ℕ) (marks : List ℕ) (taken : ℕ) → with_served (crowd most tickets next marks taken) accts.Outbound ≡ served_by (crowd most tickets next marks taken) []
queue_served most tickets next marks taken = ap (served_by (crowd most tickets next marks taken)) no_things

-- the worlds of the row
abbrev allowed : World
allowed = crowd 100 [] 1 [] 0

abbrev one_asked : World
one_asked = crowd 100 (granted_ticket 1 100 ∷ []) 2 (8 ∷ []) 1

abbrev two_asked : List ℕ → World
two_asked marks = crowd 100 (granted_ticket 1 100 ∷ waits_ticket 2 50 ∷ []) 3 marks 2

abbrev three_asked : List ℕ → World
three_asked marks = crowd 100 (granted_ticket 1 100 ∷ waits_ticket 2 50 ∷ waits_ticket 3 60 ∷ []) 4 marks 3

abbrev one_given : World
one_given = crowd 100 (granted_ticket 2 50 ∷ waits_ticket 3 60 ∷ []) 4 [] 3

abbrev two_given : World
two_given = crowd 100 (granted_ticket 3 60 ∷ []) 4 [] 3

-- a ticket enters the queue, which is served so
abbrev ask : ℕ → Call
ask bytes = calls.Request accts.Outbound 0 0 bytes 1 0

asks_first : StepsDry allowed (ask 100) (Took 96 8 ∷ []) one_asked (replies.Ticket 1 true)
asks_first =
    let queue = queue_served 100 (waits_ticket 1 100 ∷ []) 2 [] 0 in
    record {
      step = (refl, (sym (ap (λ (x : World). record x { marks = 8 ∷ []; shown = [] }) queue), sym (ap (λ (x : World). replies.Ticket 1 (is_granted (pending_in x.accounts accts.Outbound 1))) queue)));
      in_order = (refl, tt);
      counted = refl;
    }

asks_second : StepsDry one_asked (ask 50) (Took 96 16 ∷ []) (two_asked (8 ∷ 16 ∷ [])) (replies.Ticket 2 false)
asks_second =
    let queue = queue_served 100 (granted_ticket 1 100 ∷ waits_ticket 2 50 ∷ []) 3 (8 ∷ []) 1 in
    record {
      step = (refl, (sym (ap (λ (x : World). record x { marks = 8 ∷ 16 ∷ []; shown = [] }) queue), sym (ap (λ (x : World). replies.Ticket 2 (is_granted (pending_in x.accounts accts.Outbound 2))) queue)));
      in_order = (refl, tt);
      counted = refl;
    }

asks_third : StepsDry (two_asked []) (ask 60) (Took 96 24 ∷ []) (three_asked (24 ∷ [])) (replies.Ticket 3 false)
asks_third =
    let queue = queue_served 100 (granted_ticket 1 100 ∷ waits_ticket 2 50 ∷ waits_ticket 3 60 ∷ []) 4 [] 2 in
    record {
      step = (refl, (sym (ap (λ (x : World). record x { marks = 24 ∷ []; shown = [] }) queue), sym (ap (λ (x : World). replies.Ticket 3 (is_granted (pending_in x.accounts accts.Outbound 3))) queue)));
      in_order = (refl, tt);
      counted = refl;
    }

-- a ticket goes, and the queue is served so
gives_first : StepsDry (three_asked []) (calls.Shred 1) (Gave 8 ∷ []) one_given replies.Done
gives_first =
    let queue = queue_served 100 (waits_ticket 2 50 ∷ waits_ticket 3 60 ∷ []) 4 [] 3 in
    record { step = (refl, sym (ap (λ (x : World). record x { shown = [] }) queue), refl); in_order = tt; counted = refl }

gives_second : StepsDry one_given (calls.Shred 2) (Gave 16 ∷ []) two_given replies.Done
gives_second =
    let queue = queue_served 100 (waits_ticket 3 60 ∷ []) 4 [] 3 in
    record { step = (refl, sym (ap (λ (x : World). record x { shown = [] }) queue), refl); in_order = tt; counted = refl }

-- the machines of the row
abbrev both : Option ℕ → Option Holding → Option ℕ → Option Holding → ℕ → World → World → Machine
both first holds second also drawn before now =
    machine (record { id = 1; left = false; waits = first; holds = holds } ∷ record { id = 2; left = false; waits = second; holds = also } ∷ []) drawn (bare before) (bare now)

abbrev stalled_machines : List Machine
stalled_machines =
    both None (under 1 (nested 1)) None None 1 empty_world empty_world
    ∷ both None (under 1 (modified_at 1)) None None 1 empty_world allowed
    ∷ both None (under 1 (modified_at 1)) None None 1 empty_world one_asked
    ∷ both None (under 1 (modified_at 1)) None None 1 empty_world (two_asked (8 ∷ 16 ∷ []))
    ∷ both None None None None 1 (two_asked []) (two_asked [])
    ∷ both None None None (under 2 (nested 1)) 2 (two_asked []) (two_asked [])
    ∷ both None None None (under 2 (modified_at 1)) 2 (two_asked []) (three_asked (24 ∷ []))
    ∷ both None None None None 2 (three_asked []) (three_asked [])
    ∷ both (Some 2) None None None 3 (three_asked []) (three_asked [])
    ∷ both (Some 2) None (Some 3) None 4 (three_asked []) (three_asked [])
    ∷ both None None (Some 3) None 5 (three_asked []) (three_asked [])
    ∷ both None (under 6 (nested 1)) (Some 3) None 6 (three_asked []) (three_asked [])
    ∷ both None (under 6 (modified_at 1)) (Some 3) None 6 (three_asked []) one_given
    ∷ both None None (Some 3) None 6 one_given one_given
    ∷ both None None (Some 3) None 7 one_given one_given
    ∷ both None (under 8 (nested 1)) (Some 3) None 8 one_given one_given
    ∷ both None (under 8 (modified_at 1)) (Some 3) None 8 one_given two_given
    ∷ both None None (Some 3) None 8 two_given two_given
    ∷ both None None None None 9 two_given two_given
    ∷ []

-- the transaction under a number, where something was changed in it
abbrev changed_in : ℕ → World → OpenTransaction
changed_in number w = record { number = number; nesting = modified_at 1; state = bare w }

-- an end
ends : (before now : World) (number line : ℕ) → ClosesSo (bare before) (changed_in number now) (said line events.End (answers.Closed closes.Ended)) closes.Ended (committed (bare now))
ends before now number line = record { how = refl; told = plain; left = refl }

pub stalled_row : LeavesJournal (1 ∷ 2 ∷ []) (bare empty_world) stalled_made stalled_journal
stalled_row =
    steps_leave (1 ∷ 2 ∷ []) (bare empty_world) stalled_made stalled_machines stalled_journal
    (record { told = plain; after = refl }
    and inl (record {
      after = changed_in 1 allowed;
      transacts = answers_so 1 (nested 1) empty_world allowed 2 _ replies.Done [] (record { step = (refl, refl, refl); in_order = tt; counted = refl }) tt refl;
      others = refl;
    })
    and inl (record { after = changed_in 1 one_asked; transacts = answers_so 1 (modified_at 1) allowed one_asked 3 _ _ _ asks_first tt refl; others = refl })
    and inl (record {
      after = changed_in 1 (two_asked (8 ∷ 16 ∷ []));
      transacts = answers_so 1 (modified_at 1) one_asked (two_asked (8 ∷ 16 ∷ [])) 4 _ _ _ asks_second tt refl;
      others = refl;
    })
    and inl (record { close = closes.Ended; left = bare (two_asked []); closes = ends empty_world (two_asked (8 ∷ 16 ∷ [])) 1 5; after = refl })
    and record { told = plain; after = refl }
    and inl (record {
      after = changed_in 2 (three_asked (24 ∷ []));
      transacts = answers_so 2 (nested 1) (two_asked []) (three_asked (24 ∷ [])) 7 _ _ _ asks_third tt refl;
      others = refl;
    })
    and inl (record { close = closes.Ended; left = bare (three_asked []); closes = ends (two_asked []) (three_asked (24 ∷ [])) 2 8; after = refl })
    and inl (record { told = plain; after = refl })
    and inl (record { told = plain; after = refl })
    and inl (record { told = plain; after = refl })
    and record { told = plain; after = refl }
    and inl (record { after = changed_in 6 one_given; transacts = answers_so 6 (nested 1) (three_asked []) one_given 13 _ _ _ gives_first tt refl; others = refl })
    and inl (record { close = closes.Ended; left = bare one_given; closes = ends (three_asked []) one_given 6 14; after = refl })
    and inl (record { told = plain; after = refl })
    and record { told = plain; after = refl }
    and inl (record { after = changed_in 8 two_given; transacts = answers_so 8 (nested 1) one_given two_given 17 _ _ _ gives_second tt refl; others = refl })
    and inl (record { close = closes.Ended; left = bare two_given; closes = ends one_given two_given 8 18; after = refl })
    and inl (record { told = plain; after = refl })
    and tt) refl
