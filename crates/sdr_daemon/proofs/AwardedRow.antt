-- A waiting daemon is awarded, where it looks before the other gives back. The journal keeps to the scripts; it isn't legal, since what is
-- said in it has no moves.
use Rattle.std.proofs.Common.{◌≡◌, ◌==◌, ℕ, suc, zero, List, [], ◌∷◌, ◌++◌, true, false, Option, arith, refl, inr}
use Rattle.std.specs.Prelude.{All, codes}
use Rattle.std.specs.List.{list_any}
use Rattle.law_runs.specs.Rows.{said}
use Rattle.sdr_base.specs.Media.{Told}
use Rattle.sdr_base.specs.declared.account.Acct.TheVariants as accounts
use Rattle.sdr_base.specs.declared.kind.Space.TheVariants as spaces
use Rattle.sdr_daemon.proofs.RowLemmas.{entry, holds, line}
use Rattle.sdr_daemon.specs.Scripts.{IsLookRefused, KeepsToScripts, DaemonKeepsToScript}
use Rattle.sdr_daemon.specs.Turns.{EndsLook, IsTurn, Phase, SayLines, entries_by, steps_by}
use Rattle.sdr_machine.specs.Ground.{State}
use Rattle.sdr_model.specs.declared.answer.Answer.TheVariants as answers
use Rattle.sdr_model.specs.declared.answer.Close.TheVariants as closes
use Rattle.sdr_model.specs.declared.answer.Reply.TheVariants as replies
use Rattle.sdr_model.specs.declared.call.Call.TheVariants as calls
use Rattle.sdr_model.specs.declared.event.Event.TheVariants as events
use Rattle.sdr_model.specs.declared.event.Leave.TheVariants as leaves
use Rattle.sdr_model.specs.declared.journal.Entry.{Entry}
use Rattle.sdr_model.specs.declared.journal.Said.{Said}
use Rattle.sdr_model.specs.declared.journal.What.TheVariants as whats
use Rattle.sdr_model.specs.declared.script.Arg.TheVariants as args
use Rattle.sdr_model.specs.declared.script.ScriptStep.{ScriptStep}
use Rattle.sdr_words.specs.Verbs.{verbs}

-- the lines by which daemon 1 fills the account
abbrev asking : List ScriptStep
asking =
    line 1 1 [] 0 []
    ∷ line 2 1 [] 57 (args.Account accounts.Outbound ∷ args.In spaces.Heap ∷ args.Number 100 ∷ [])
    ∷ line 3 1 (codes "t") 75 (args.Account accounts.Outbound ∷ args.Number 0 ∷ args.Number 0 ∷ args.Number 100 ∷ args.Number 1 ∷ args.Number 0 ∷ [])
    ∷ line 4 1 [] 1 []
    ∷ []

-- what they say
abbrev said_asking : List Said
said_asking =
    said 1 events.Begin (answers.Lock 1)
    ∷ said 2 (events.Say (calls.SetMaximum accounts.Outbound spaces.Heap 100)) (answers.Reply replies.Done)
    ∷ said 3 (events.Say (calls.Request accounts.Outbound 0 0 100 1 0)) (answers.Reply (replies.Ticket 1 true))
    ∷ said 4 events.End (answers.Closed closes.Ended)
    ∷ []

-- those by which daemon 2 asks for what is left
abbrev queueing : List ScriptStep
queueing =
    line 5 2 [] 0 []
    ∷ line 6 2 (codes "u") 75 (args.Account accounts.Outbound ∷ args.Number 0 ∷ args.Number 0 ∷ args.Number 60 ∷ args.Number 1 ∷ args.Number 0 ∷ [])
    ∷ line 7 2 [] 1 []
    ∷ []

-- what they say
abbrev said_queueing : List Said
said_queueing =
    said 5 events.Begin (answers.Lock 2)
    ∷ said 6 (events.Say (calls.Request accounts.Outbound 0 0 60 1 0)) (answers.Reply (replies.Ticket 2 false))
    ∷ said 7 events.End (answers.Closed closes.Ended)
    ∷ []

-- those by which daemon 1 gives back
abbrev shredding : List ScriptStep
shredding =
    line 8 1 [] 0 []
    ∷ line 9 1 [] 77 (args.Named (codes "t") ∷ [])
    ∷ line 10 1 [] 1 []
    ∷ []

-- what they say
abbrev said_shredding : List Said
said_shredding =
    said 8 events.Begin (answers.Lock 4)
    ∷ said 9 (events.Say (calls.Shred 1)) (answers.Reply replies.Done)
    ∷ said 10 events.End (answers.Closed closes.Ended)
    ∷ []

-- the line by which daemon 2 waits
abbrev awaiting : List ScriptStep
awaiting =
    line 11 2 [] 4 (args.Named (codes "u") ∷ [])
    ∷ []

-- what it says at last
abbrev said_awaiting : List Said
said_awaiting =
    said 11 (events.Look 2) answers.Awarded
    ∷ []

abbrev script : List ScriptStep
script = asking ++ queueing ++ shredding ++ awaiting

says_asking : SayLines [] asking said_asking
unfolding verbs
says_asking = (record { line = refl; event = refl }, (record { line = refl; event = refl }, (record { line = refl; event = refl }, (record { line = refl; event = refl }, tt))))

says_queueing : SayLines [] queueing said_queueing
unfolding verbs
says_queueing = (record { line = refl; event = refl }, (record { line = refl; event = refl }, (record { line = refl; event = refl }, tt)))

says_shredding : SayLines (holds 1 (codes "t") 1 ∷ []) shredding said_shredding
unfolding verbs
says_shredding = (record { line = refl; event = refl }, (record { line = refl; event = refl }, (record { line = refl; event = refl }, tt)))

says_awaiting : SayLines (holds 2 (codes "u") 2 ∷ []) awaiting said_awaiting
unfolding verbs
says_awaiting = (record { line = refl; event = refl }, tt)

abbrev journal : List Entry
journal =
    entry 1 1 (whats.Work said_asking closes.Ended)
    ∷ entry 2 2 (whats.Work said_queueing closes.Ended)
    ∷ entry 3 2 (whats.Waits 2)
    ∷ entry 4 1 (whats.Work said_shredding closes.Ended)
    ∷ entry 5 2 (whats.Awarded 2)
    ∷ entry 6 2 (whats.Leaves leaves.Done)
    ∷ entry 7 1 (whats.Leaves leaves.Done)
    ∷ []

module _ (R : ℕ → ℕ → Type 0) where
  -- daemon 1 takes two transactions
  first_keeps : DaemonKeepsToScript R journal (steps_by 1 script) (entries_by 1 journal)
  first_keeps = record {
    rest = [];
    before = entry 1 1 (whats.Work said_asking closes.Ended) ∷ entry 4 1 (whats.Work said_shredding closes.Ended) ∷ [];
    at = record { number = 4; names = holds 1 (codes "t") 1 ∷ []; phase = Phase.ready };
    kept = record {
      turns =
          record { lines = asking; said = said_asking; entries = entry 1 1 (whats.Work said_asking closes.Ended) ∷ []; number = 1; phase = Phase.ready }
          ∷ record { lines = shredding; said = said_shredding; entries = entry 4 1 (whats.Work said_shredding closes.Ended) ∷ []; number = 4; phase = Phase.ready }
          ∷ [];
      taken = (
        IsTurn.works closes.Ended refl refl (record { entry = entry 1 1 (whats.Work said_asking closes.Ended); is = refl; what_is = refl; number = refl; higher = omega arith }) refl,
        says_asking,
        (
          IsTurn.works closes.Ended refl refl (record { entry = entry 4 1 (whats.Work said_shredding closes.Ended); is = refl; what_is = refl; number = refl; higher = omega arith }) refl,
          says_shredding,
          tt,
        ),
      );
      at_is = refl;
      steps_are = refl;
      entries_are = refl;
      next = tt;
    };
    last = entry 7 1 (whats.Leaves leaves.Done);
    all = refl;
    leave = leaves.Done;
    leaves = refl;
    means = tt;
    due = tt;
    higher = omega arith;
    cause = refl;
  }

  -- daemon 2 takes one, waits, and is awarded: its look is made again, and gives one entry of each kind
  second_keeps : DaemonKeepsToScript R journal (steps_by 2 script) (entries_by 2 journal)
  second_keeps = record {
    rest = [];
    before = entry 2 2 (whats.Work said_queueing closes.Ended) ∷ entry 3 2 (whats.Waits 2) ∷ entry 5 2 (whats.Awarded 2) ∷ [];
    at = record { number = 5; names = holds 2 (codes "u") 2 ∷ []; phase = Phase.ready };
    kept = record {
      turns =
          record { lines = queueing; said = said_queueing; entries = entry 2 2 (whats.Work said_queueing closes.Ended) ∷ []; number = 2; phase = Phase.ready }
          ∷ record { lines = []; said = []; entries = entry 3 2 (whats.Waits 2) ∷ []; number = 3; phase = Phase.waiting 2 }
          ∷ record { lines = awaiting; said = said_awaiting; entries = entry 5 2 (whats.Awarded 2) ∷ []; number = 5; phase = Phase.ready }
          ∷ [];
      taken = (
        IsTurn.works closes.Ended refl refl (record { entry = entry 2 2 (whats.Work said_queueing closes.Ended); is = refl; what_is = refl; number = refl; higher = omega arith }) refl,
        says_queueing,
        (
          IsTurn.waits 2 refl refl (record { entry = entry 3 2 (whats.Waits 2); is = refl; what_is = refl; number = refl; higher = omega arith }) refl,
          tt,
          (
            IsTurn.looks 2 (record { said = said 11 (events.Look 2) answers.Awarded; is = refl; event = refl }) (whats.Awarded 2) (inr refl)
                (record { entry = entry 5 2 (whats.Awarded 2); is = refl; what_is = refl; number = refl; higher = omega arith }) (EndsLook.awarded refl refl) refl,
            says_awaiting,
            tt,
          ),
        ),
      );
      at_is = refl;
      steps_are = refl;
      entries_are = refl;
      next = tt;
    };
    last = entry 6 2 (whats.Leaves leaves.Done);
    all = refl;
    leave = leaves.Done;
    leaves = refl;
    means = tt;
    due = tt;
    higher = omega arith;
    cause = refl;
  }

daemons_only : All (λ (e : Entry). list_any (λ id. id == e.daemon) (1 ∷ 2 ∷ []) ≡ true) journal
daemons_only zero d within = refl
daemons_only (suc zero) d within = refl
daemons_only (suc (suc zero)) d within = refl
daemons_only (suc (suc (suc zero))) d within = refl
daemons_only (suc (suc (suc (suc zero)))) d within = refl
daemons_only (suc (suc (suc (suc (suc zero))))) d within = refl
daemons_only (suc (suc (suc (suc (suc (suc zero)))))) d within = refl
daemons_only (suc (suc (suc (suc (suc (suc (suc k))))))) d within = absurd (omega (arith, within))

-- the journal keeps to both scripts
pub waiting_daemon_is_awarded : (told : Option Told) (first : State) → KeepsToScripts told first script journal
waiting_daemon_is_awarded told first = record {
  each = (first_keeps (IsLookRefused told (1 ∷ 2 ∷ []) first journal), (second_keeps (IsLookRefused told (1 ∷ 2 ∷ []) first journal), tt));
  others = daemons_only;
}
