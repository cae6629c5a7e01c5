-- Two daemons wait for each other: each is told that all have stalled, and goes on. The journal keeps to the scripts; it isn't legal,
-- since what is said in it has no moves.
use Rattle.std.proofs.Common.{◌≡◌, ◌==◌, ℕ, suc, zero, List, [], ◌∷◌, ◌++◌, true, false, Option, arith, refl, inl, inr}
use Rattle.std.specs.Prelude.{All, codes}
use Rattle.std.specs.List.{list_any}
use Rattle.law_runs.specs.Rows.{said}
use Rattle.sdr_base.specs.Media.{Told}
use Rattle.sdr_base.specs.declared.account.Acct.TheVariants as accounts
use Rattle.sdr_base.specs.declared.kind.Space.TheVariants as spaces
use Rattle.sdr_daemon.proofs.RowLemmas.{entry, holds, line}
use Rattle.sdr_daemon.specs.Scripts.{IsLookRefused, KeepsToScripts, DaemonKeepsToScript}
use Rattle.sdr_daemon.specs.Turns.{EndsLook, IsTurn, Phase, SayLines, entries_by, steps_by}
use Rattle.sdr_machine.specs.Ground.{State}
use Rattle.sdr_model.specs.declared.answer.Answer.TheVariants as answers
use Rattle.sdr_model.specs.declared.answer.Close.TheVariants as closes
use Rattle.sdr_model.specs.declared.answer.Reply.TheVariants as replies
use Rattle.sdr_model.specs.declared.call.Call.TheVariants as calls
use Rattle.sdr_model.specs.declared.event.Event.TheVariants as events
use Rattle.sdr_model.specs.declared.event.Leave.TheVariants as leaves
use Rattle.sdr_model.specs.declared.journal.Entry.{Entry}
use Rattle.sdr_model.specs.declared.journal.Said.{Said}
use Rattle.sdr_model.specs.declared.journal.What.TheVariants as whats
use Rattle.sdr_model.specs.declared.script.Arg.TheVariants as args
use Rattle.sdr_model.specs.declared.script.ScriptStep.{ScriptStep}
use Rattle.sdr_words.specs.Bindings.{Binding}
use Rattle.sdr_words.specs.Verbs.{verbs}

-- daemon 1 fills the account, and asks for more
abbrev asking : List ScriptStep
asking =
    line 1 1 [] 0 []
    ∷ line 2 1 [] 57 (args.Account accounts.Outbound ∷ args.In spaces.Heap ∷ args.Number 100 ∷ [])
    ∷ line 3 1 (codes "t") 75 (args.Account accounts.Outbound ∷ args.Number 0 ∷ args.Number 0 ∷ args.Number 100 ∷ args.Number 1 ∷ args.Number 0 ∷ [])
    ∷ line 4 1 (codes "a") 75 (args.Account accounts.Outbound ∷ args.Number 0 ∷ args.Number 0 ∷ args.Number 50 ∷ args.Number 1 ∷ args.Number 0 ∷ [])
    ∷ line 5 1 [] 1 []
    ∷ []

-- what it says by that
abbrev said_asking : List Said
said_asking =
    said 1 events.Begin (answers.Lock 1)
    ∷ said 2 (events.Say (calls.SetMaximum accounts.Outbound spaces.Heap 100)) (answers.Reply replies.Done)
    ∷ said 3 (events.Say (calls.Request accounts.Outbound 0 0 100 1 0)) (answers.Reply (replies.Ticket 1 true))
    ∷ said 4 (events.Say (calls.Request accounts.Outbound 0 0 50 1 0)) (answers.Reply (replies.Ticket 2 false))
    ∷ said 5 events.End (answers.Closed closes.Ended)
    ∷ []

-- daemon 2 asks for more
abbrev queueing : List ScriptStep
queueing =
    line 6 2 [] 0 []
    ∷ line 7 2 (codes "b") 75 (args.Account accounts.Outbound ∷ args.Number 0 ∷ args.Number 0 ∷ args.Number 60 ∷ args.Number 1 ∷ args.Number 0 ∷ [])
    ∷ line 8 2 [] 1 []
    ∷ []

-- what it says by that
abbrev said_queueing : List Said
said_queueing =
    said 6 events.Begin (answers.Lock 2)
    ∷ said 7 (events.Say (calls.Request accounts.Outbound 0 0 60 1 0)) (answers.Reply (replies.Ticket 3 false))
    ∷ said 8 events.End (answers.Closed closes.Ended)
    ∷ []

-- daemon 1 gives back
abbrev giving : List ScriptStep
giving =
    line 12 1 [] 0 []
    ∷ line 13 1 [] 77 (args.Named (codes "t") ∷ [])
    ∷ line 14 1 [] 1 []
    ∷ []

-- what it says by that
abbrev said_giving : List Said
said_giving =
    said 12 events.Begin (answers.Lock 10)
    ∷ said 13 (events.Say (calls.Shred 1)) (answers.Reply replies.Done)
    ∷ said 14 events.End (answers.Closed closes.Ended)
    ∷ []

-- and asks no more
abbrev ceasing : List ScriptStep
ceasing =
    line 16 1 [] 0 []
    ∷ line 17 1 [] 77 (args.Named (codes "a") ∷ [])
    ∷ line 18 1 [] 1 []
    ∷ []

-- what it says by that
abbrev said_ceasing : List Said
said_ceasing =
    said 16 events.Begin (answers.Lock 11)
    ∷ said 17 (events.Say (calls.Shred 2)) (answers.Reply replies.Done)
    ∷ said 18 events.End (answers.Closed closes.Ended)
    ∷ []

-- a line on which a daemon waits for the ticket of a name
abbrev await : ℕ → ℕ → List ℕ → ScriptStep
await number daemon name = line number daemon [] 4 (args.Named name ∷ [])

abbrev script : List ScriptStep
script =
    asking ++ queueing ++ await 9 1 (codes "a") ∷ await 10 2 (codes "b") ∷ await 11 1 (codes "a") ∷ giving ++ await 15 2 (codes "b") ∷ ceasing
    ++ await 19 2 (codes "b") ∷ []

abbrev names_1 : List Binding
names_1 = holds 1 (codes "t") 1 ∷ holds 1 (codes "a") 2 ∷ []

abbrev names_2 : List Binding
names_2 = holds 2 (codes "b") 3 ∷ []

says_asking : SayLines [] asking said_asking
unfolding verbs
says_asking = (record { line = refl; event = refl }, (record { line = refl; event = refl }, (record { line = refl; event = refl }, (record { line = refl; event = refl }, (record { line = refl; event = refl }, tt)))))

says_queueing : SayLines [] queueing said_queueing
unfolding verbs
says_queueing = (record { line = refl; event = refl }, (record { line = refl; event = refl }, (record { line = refl; event = refl }, tt)))

says_giving : SayLines names_1 giving said_giving
unfolding verbs
says_giving = (record { line = refl; event = refl }, (record { line = refl; event = refl }, (record { line = refl; event = refl }, tt)))

says_ceasing : SayLines names_1 ceasing said_ceasing
unfolding verbs
says_ceasing = (record { line = refl; event = refl }, (record { line = refl; event = refl }, (record { line = refl; event = refl }, tt)))

abbrev journal : List Entry
journal =
    entry 1 1 (whats.Work said_asking closes.Ended)
    ∷ entry 2 2 (whats.Work said_queueing closes.Ended)
    ∷ entry 3 1 (whats.Waits 2)
    ∷ entry 4 2 (whats.Waits 3)
    ∷ entry 5 1 (whats.Stalled 2)
    ∷ entry 6 1 (whats.Waits 2)
    ∷ entry 7 2 (whats.Stalled 3)
    ∷ entry 8 2 (whats.Waits 3)
    ∷ entry 9 1 (whats.Stalled 2)
    ∷ entry 10 1 (whats.Work said_giving closes.Ended)
    ∷ entry 11 1 (whats.Work said_ceasing closes.Ended)
    ∷ entry 12 2 (whats.Awarded 3)
    ∷ entry 13 2 (whats.Awarded 3)
    ∷ entry 14 1 (whats.Leaves leaves.Done)
    ∷ entry 15 2 (whats.Leaves leaves.Done)
    ∷ []

says_9 : SayLines names_1 (await 9 1 (codes "a") ∷ []) (said 9 (events.Look 2) answers.Stalled ∷ [])
unfolding verbs
says_9 = (record { line = refl; event = refl }, tt)

says_10 : SayLines names_2 (await 10 2 (codes "b") ∷ []) (said 10 (events.Look 3) answers.Stalled ∷ [])
unfolding verbs
says_10 = (record { line = refl; event = refl }, tt)

says_11 : SayLines names_1 (await 11 1 (codes "a") ∷ []) (said 11 (events.Look 2) answers.Stalled ∷ [])
unfolding verbs
says_11 = (record { line = refl; event = refl }, tt)

says_15 : SayLines names_2 (await 15 2 (codes "b") ∷ []) (said 15 (events.Look 3) answers.Awarded ∷ [])
unfolding verbs
says_15 = (record { line = refl; event = refl }, tt)

says_19 : SayLines names_2 (await 19 2 (codes "b") ∷ []) (said 19 (events.Look 3) answers.Awarded ∷ [])
unfolding verbs
says_19 = (record { line = refl; event = refl }, tt)

module _ (R : ℕ → ℕ → Type 0) where
  -- daemon 1 stalls twice, and then gives back
  first_keeps : DaemonKeepsToScript R journal (steps_by 1 script) (entries_by 1 journal)
  first_keeps = record {
    rest = [];
    before =
        entry 1 1 (whats.Work said_asking closes.Ended)
        ∷ entry 3 1 (whats.Waits 2)
        ∷ entry 5 1 (whats.Stalled 2)
        ∷ entry 6 1 (whats.Waits 2)
        ∷ entry 9 1 (whats.Stalled 2)
        ∷ entry 10 1 (whats.Work said_giving closes.Ended)
        ∷ entry 11 1 (whats.Work said_ceasing closes.Ended)
        ∷ [];
    at = record { number = 11; names = names_1; phase = Phase.ready };
    kept = record {
      turns =
          record { lines = asking; said = said_asking; entries = entry 1 1 (whats.Work said_asking closes.Ended) ∷ []; number = 1; phase = Phase.ready }
          ∷ record { lines = []; said = []; entries = entry 3 1 (whats.Waits 2) ∷ []; number = 3; phase = Phase.waiting 2 }
          ∷ record { lines = await 9 1 (codes "a") ∷ []; said = said 9 (events.Look 2) answers.Stalled ∷ []; entries = entry 5 1 (whats.Stalled 2) ∷ []; number = 5; phase = Phase.ready }
          ∷ record { lines = []; said = []; entries = entry 6 1 (whats.Waits 2) ∷ []; number = 6; phase = Phase.waiting 2 }
          ∷ record { lines = await 11 1 (codes "a") ∷ []; said = said 11 (events.Look 2) answers.Stalled ∷ []; entries = entry 9 1 (whats.Stalled 2) ∷ []; number = 9; phase = Phase.ready }
          ∷ record { lines = giving; said = said_giving; entries = entry 10 1 (whats.Work said_giving closes.Ended) ∷ []; number = 10; phase = Phase.ready }
          ∷ record { lines = ceasing; said = said_ceasing; entries = entry 11 1 (whats.Work said_ceasing closes.Ended) ∷ []; number = 11; phase = Phase.ready }
          ∷ [];
      taken = (
        IsTurn.works closes.Ended refl refl (record { entry = entry 1 1 (whats.Work said_asking closes.Ended); is = refl; what_is = refl; number = refl; higher = omega arith }) refl,
        says_asking,
        (
          IsTurn.waits 2 refl refl (record { entry = entry 3 1 (whats.Waits 2); is = refl; what_is = refl; number = refl; higher = omega arith }) refl,
          tt,
          (
            IsTurn.looks 2 (record { said = said 9 (events.Look 2) answers.Stalled; is = refl; event = refl }) (whats.Stalled 2) (inr refl)
                (record { entry = entry 5 1 (whats.Stalled 2); is = refl; what_is = refl; number = refl; higher = omega arith }) (EndsLook.stalled refl refl) refl,
            says_9,
            (
              IsTurn.waits 2 refl refl (record { entry = entry 6 1 (whats.Waits 2); is = refl; what_is = refl; number = refl; higher = omega arith }) refl,
              tt,
              (
                IsTurn.looks 2 (record { said = said 11 (events.Look 2) answers.Stalled; is = refl; event = refl }) (whats.Stalled 2) (inr refl)
                    (record { entry = entry 9 1 (whats.Stalled 2); is = refl; what_is = refl; number = refl; higher = omega arith }) (EndsLook.stalled refl refl) refl,
                says_11,
                (
                  IsTurn.works closes.Ended refl refl (record { entry = entry 10 1 (whats.Work said_giving closes.Ended); is = refl; what_is = refl; number = refl; higher = omega arith }) refl,
                  says_giving,
                  (
                    IsTurn.works closes.Ended refl refl (record { entry = entry 11 1 (whats.Work said_ceasing closes.Ended); is = refl; what_is = refl; number = refl; higher = omega arith }) refl,
                    says_ceasing,
                    tt,
                  ),
                ),
              ),
            ),
          ),
        ),
      );
      at_is = refl;
      steps_are = refl;
      entries_are = refl;
      next = tt;
    };
    last = entry 14 1 (whats.Leaves leaves.Done);
    all = refl;
    leave = leaves.Done;
    leaves = refl;
    means = tt;
    due = tt;
    higher = omega arith;
    cause = refl;
  }

  -- daemon 2 stalls once, waits again, and is awarded: its last look is answered at once
  second_keeps : DaemonKeepsToScript R journal (steps_by 2 script) (entries_by 2 journal)
  second_keeps = record {
    rest = [];
    before =
        entry 2 2 (whats.Work said_queueing closes.Ended)
        ∷ entry 4 2 (whats.Waits 3)
        ∷ entry 7 2 (whats.Stalled 3)
        ∷ entry 8 2 (whats.Waits 3)
        ∷ entry 12 2 (whats.Awarded 3)
        ∷ entry 13 2 (whats.Awarded 3)
        ∷ [];
    at = record { number = 13; names = names_2; phase = Phase.ready };
    kept = record {
      turns =
          record { lines = queueing; said = said_queueing; entries = entry 2 2 (whats.Work said_queueing closes.Ended) ∷ []; number = 2; phase = Phase.ready }
          ∷ record { lines = []; said = []; entries = entry 4 2 (whats.Waits 3) ∷ []; number = 4; phase = Phase.waiting 3 }
          ∷ record { lines = await 10 2 (codes "b") ∷ []; said = said 10 (events.Look 3) answers.Stalled ∷ []; entries = entry 7 2 (whats.Stalled 3) ∷ []; number = 7; phase = Phase.ready }
          ∷ record { lines = []; said = []; entries = entry 8 2 (whats.Waits 3) ∷ []; number = 8; phase = Phase.waiting 3 }
          ∷ record { lines = await 15 2 (codes "b") ∷ []; said = said 15 (events.Look 3) answers.Awarded ∷ []; entries = entry 12 2 (whats.Awarded 3) ∷ []; number = 12; phase = Phase.ready }
          ∷ record { lines = await 19 2 (codes "b") ∷ []; said = said 19 (events.Look 3) answers.Awarded ∷ []; entries = entry 13 2 (whats.Awarded 3) ∷ []; number = 13; phase = Phase.ready }
          ∷ [];
      taken = (
        IsTurn.works closes.Ended refl refl (record { entry = entry 2 2 (whats.Work said_queueing closes.Ended); is = refl; what_is = refl; number = refl; higher = omega arith }) refl,
        says_queueing,
        (
          IsTurn.waits 3 refl refl (record { entry = entry 4 2 (whats.Waits 3); is = refl; what_is = refl; number = refl; higher = omega arith }) refl,
          tt,
          (
            IsTurn.looks 3 (record { said = said 10 (events.Look 3) answers.Stalled; is = refl; event = refl }) (whats.Stalled 3) (inr refl)
                (record { entry = entry 7 2 (whats.Stalled 3); is = refl; what_is = refl; number = refl; higher = omega arith }) (EndsLook.stalled refl refl) refl,
            says_10,
            (
              IsTurn.waits 3 refl refl (record { entry = entry 8 2 (whats.Waits 3); is = refl; what_is = refl; number = refl; higher = omega arith }) refl,
              tt,
              (
                IsTurn.looks 3 (record { said = said 15 (events.Look 3) answers.Awarded; is = refl; event = refl }) (whats.Awarded 3) (inr refl)
                    (record { entry = entry 12 2 (whats.Awarded 3); is = refl; what_is = refl; number = refl; higher = omega arith }) (EndsLook.awarded refl refl) refl,
                says_15,
                (
                  IsTurn.looks 3 (record { said = said 19 (events.Look 3) answers.Awarded; is = refl; event = refl }) (whats.Awarded 3) (inl refl)
                      (record { entry = entry 13 2 (whats.Awarded 3); is = refl; what_is = refl; number = refl; higher = omega arith }) (EndsLook.awarded refl refl) refl,
                  says_19,
                  tt,
                ),
              ),
            ),
          ),
        ),
      );
      at_is = refl;
      steps_are = refl;
      entries_are = refl;
      next = tt;
    };
    last = entry 15 2 (whats.Leaves leaves.Done);
    all = refl;
    leave = leaves.Done;
    leaves = refl;
    means = tt;
    due = tt;
    higher = omega arith;
    cause = refl;
  }

daemons_only : All (λ (e : Entry). list_any (λ id. id == e.daemon) (1 ∷ 2 ∷ []) ≡ true) journal
daemons_only zero d within = refl
daemons_only (suc zero) d within = refl
daemons_only (suc (suc zero)) d within = refl
daemons_only (suc (suc (suc zero))) d within = refl
daemons_only (suc (suc (suc (suc zero)))) d within = refl
daemons_only (suc (suc (suc (suc (suc zero))))) d within = refl
daemons_only (suc (suc (suc (suc (suc (suc zero)))))) d within = refl
daemons_only (suc (suc (suc (suc (suc (suc (suc zero))))))) d within = refl
daemons_only (suc (suc (suc (suc (suc (suc (suc (suc zero)))))))) d within = refl
daemons_only (suc (suc (suc (suc (suc (suc (suc (suc (suc zero))))))))) d within = refl
daemons_only (suc (suc (suc (suc (suc (suc (suc (suc (suc (suc zero)))))))))) d within = refl
daemons_only (suc (suc (suc (suc (suc (suc (suc (suc (suc (suc (suc zero))))))))))) d within = refl
daemons_only (suc (suc (suc (suc (suc (suc (suc (suc (suc (suc (suc (suc zero)))))))))))) d within = refl
daemons_only (suc (suc (suc (suc (suc (suc (suc (suc (suc (suc (suc (suc (suc zero))))))))))))) d within = refl
daemons_only (suc (suc (suc (suc (suc (suc (suc (suc (suc (suc (suc (suc (suc (suc zero)))))))))))))) d within = refl
daemons_only (suc (suc (suc (suc (suc (suc (suc (suc (suc (suc (suc (suc (suc (suc (suc k))))))))))))))) d within = absurd (omega (arith, within))

-- the journal keeps to both scripts
pub stalled_daemons_go_on : (told : Option Told) (first : State) → KeepsToScripts told first script journal
stalled_daemons_go_on told first = record {
  each = (first_keeps (IsLookRefused told (1 ∷ 2 ∷ []) first journal), (second_keeps (IsLookRefused told (1 ∷ 2 ∷ []) first journal), tt));
  others = daemons_only;
}
