-- A bundle out of a file: one transaction of one daemon, and its leave. The journal keeps to the script; it isn't legal, since what is
-- said in it has no moves.
use Rattle.std.proofs.Common.{◌≡◌, ◌==◌, suc, zero, List, [], ◌∷◌, true, Option, arith, refl}
use Rattle.std.specs.Prelude.{All, codes}
use Rattle.std.specs.List.{list_any}
use Rattle.law_runs.specs.Rows.{said}
use Rattle.sdr_base.specs.Media.{Told}
use Rattle.sdr_base.specs.declared.account.Acct.TheVariants as accounts
use Rattle.sdr_daemon.proofs.RowLemmas.{entry, holds, line}
use Rattle.sdr_daemon.specs.Scripts.{KeepsToScripts}
use Rattle.sdr_daemon.specs.Turns.{DaemonTurn, IsTurn, Phase, SayLines}
use Rattle.sdr_machine.specs.Ground.{State}
use Rattle.sdr_model.specs.declared.answer.Answer.TheVariants as answers
use Rattle.sdr_model.specs.declared.answer.Close.TheVariants as closes
use Rattle.sdr_model.specs.declared.answer.Reply.TheVariants as replies
use Rattle.sdr_model.specs.declared.call.Call.TheVariants as calls
use Rattle.sdr_model.specs.declared.event.Event.TheVariants as events
use Rattle.sdr_model.specs.declared.event.Leave.TheVariants as leaves
use Rattle.sdr_model.specs.declared.journal.Entry.{Entry}
use Rattle.sdr_model.specs.declared.journal.Said.{Said}
use Rattle.sdr_model.specs.declared.journal.What.TheVariants as whats
use Rattle.sdr_model.specs.declared.script.Arg.TheVariants as args
use Rattle.sdr_model.specs.declared.script.ScriptStep.{ScriptStep}
use Rattle.sdr_words.specs.Verbs.{verbs}

-- the lines of the daemon
abbrev script : List ScriptStep
script =
    line 1 1 [] 0 []
    ∷ line 2 1 (codes "s") 11 (args.Text (codes "hello") ∷ [])
    ∷ line 3 1 (codes "l") 15 (args.Number 7 ∷ [])
    ∷ line 4 1 (codes "e") 21 (args.Named (codes "l") ∷ args.Named (codes "s") ∷ [])
    ∷ line 5 1 [] 46 (args.Text (codes "mail") ∷ args.Number 3 ∷ args.Named (codes "l") ∷ [])
    ∷ line 6 1 (codes "f") 50 (args.Text (codes "data.bin") ∷ args.Number 10 ∷ [])
    ∷ line 7 1 (codes "z") 58 (args.Account accounts.Outbound ∷ args.Number 0 ∷ [])
    ∷ line 8 1 [] 59 (args.Named (codes "z") ∷ args.Number 0 ∷ args.Named (codes "f") ∷ args.Number 0 ∷ args.Number 10 ∷ [])
    ∷ line 9 1 [] 60 (args.Named (codes "z") ∷ args.Number 0 ∷ args.Text (codes "H1:") ∷ [])
    ∷ line 10 1 [] 71 (args.Named (codes "z") ∷ args.Number 0 ∷ args.Number 64 ∷ [])
    ∷ line 11 1 [] 1 []
    ∷ []

-- what they say
abbrev said_in_it : List Said
said_in_it =
    said 1 events.Begin (answers.Lock 1)
    ∷ said 2 (events.Say (calls.String (codes "hello"))) (answers.Reply (replies.At 2056))
    ∷ said 3 (events.Say (calls.List 7)) (answers.Reply (replies.At 2072))
    ∷ said 4 (events.Say (calls.InsertLast 2072 2056)) (answers.Reply (replies.At 2112))
    ∷ said 5 (events.Say (calls.Catlg (codes "mail") 3 2072)) (answers.Reply replies.Done)
    ∷ said 6 (events.Say (calls.FileRef (codes "data.bin") 10)) (answers.Reply (replies.At 2216))
    ∷ said 7 (events.Say (calls.Create accounts.Outbound 0)) (answers.Reply (replies.At 2280))
    ∷ said 8 (events.Say (calls.AppendExtent 2280 0 2216 0 10)) (answers.Reply replies.Done)
    ∷ said 9 (events.Say (calls.PrependHeader 2280 0 (codes "H1:"))) (answers.Reply replies.Done)
    ∷ record (said 10 (events.Say (calls.Transmit 2280 0 64)) (answers.Reply (replies.Bytes 13))) { bytes = codes "H1:0123456789" }
    ∷ said 11 events.End (answers.Closed closes.Ended)
    ∷ []

-- the entry of its transaction
abbrev bundle : Entry
bundle = entry 1 1 (whats.Work said_in_it closes.Ended)

-- the entry of its leave
abbrev leave : Entry
leave = entry 2 1 (whats.Leaves leaves.Done)

says : SayLines [] script said_in_it
unfolding verbs
says = (record { line = refl; event = refl }, (record { line = refl; event = refl }, (record { line = refl; event = refl }, (record { line = refl; event = refl }, (record { line = refl; event = refl }, (record { line = refl; event = refl }, (record { line = refl; event = refl }, (record { line = refl; event = refl }, (record { line = refl; event = refl }, (record { line = refl; event = refl }, (record { line = refl; event = refl }, tt)))))))))))

abbrev turn : DaemonTurn
turn = record { lines = script; said = said_in_it; entries = bundle ∷ []; number = 1; phase = Phase.ready }

daemons_only : All (λ (e : Entry). list_any (λ id. id == e.daemon) (1 ∷ []) ≡ true) (bundle ∷ leave ∷ [])
daemons_only zero d within = refl
daemons_only (suc zero) d within = refl
daemons_only (suc (suc k)) d within = absurd (omega (arith, within))

-- the transaction and the leave keep to the script
pub bundle_out_of_a_file : (told : Option Told) (first : State) → KeepsToScripts told first script (bundle ∷ leave ∷ [])
bundle_out_of_a_file told first = record {
  each = (
    record {
      rest = [];
      before = bundle ∷ [];
      at = record {
        number = 1;
        names = holds 1 (codes "s") 2056 ∷ holds 1 (codes "l") 2072 ∷ holds 1 (codes "e") 2112 ∷ holds 1 (codes "f") 2216 ∷ holds 1 (codes "z") 2280 ∷ [];
        phase = Phase.ready;
      };
      kept = record {
        turns = turn ∷ [];
        taken = (IsTurn.works closes.Ended refl refl (record { entry = bundle; is = refl; what_is = refl; number = refl; higher = omega arith }) refl, says, tt);
        at_is = refl;
        steps_are = refl;
        entries_are = refl;
        next = tt;
      };
      last = leave;
      all = refl;
      leave = leaves.Done;
      leaves = refl;
      means = tt;
      due = tt;
      higher = omega arith;
      cause = refl;
    },
    tt,
  );
  others = daemons_only;
}
