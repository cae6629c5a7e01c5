-- A string is made in a transaction: what the definitions say of a run of three lines.
use Rattle.std.proofs.Common.{inl}
use Rattle.std.specs.Prelude.{◌≡◌, ℕ, List, [], ◌∷◌, None, Some, Option, Bool, true, false, codes, length, refl}
use Rattle.std.specs.FinMap as map
use Rattle.std.specs.Fmt.{digits}
use Rattle.sdr_base.specs.declared.moves.Move.{Move}
use Rattle.sdr_machine.specs.Core.{Core, CoreStep, core_after, first_core}
use Rattle.sdr_machine.specs.Ground.{bare, committed}
use Rattle.sdr_machine.specs.Machine.{Machine, Made}
use Rattle.sdr_machine.specs.Roll.{Roll}
use Rattle.sdr_machine.specs.declared.daemon.Holding.{Holding}
use Rattle.sdr_model.specs.Dry.{dry_moves}
use Rattle.sdr_model.specs.World.{World, empty_world}
use Rattle.sdr_model.specs.declared.answer.Answer.{Answer}
use Rattle.sdr_model.specs.declared.answer.Answer.TheVariants as answers
use Rattle.sdr_model.specs.declared.answer.Close.TheVariants as closes
use Rattle.sdr_model.specs.declared.answer.Reply.TheVariants as replies
use Rattle.sdr_model.specs.declared.call.Call.TheVariants as calls
use Rattle.sdr_model.specs.declared.event.Event.{Event}
use Rattle.sdr_model.specs.declared.event.Event.TheVariants as events
use Rattle.sdr_model.specs.declared.script.Arg.TheVariants as args
use Rattle.sdr_model.specs.declared.script.ScriptStep.{ScriptStep}
use Rattle.sdr_model.specs.declared.things.Thing.TheVariants as things
use Rattle.sdr_run.specs.Schedule.{RunsDry, run_text}
use Rattle.sdr_words.specs.Verbs.{verbs}

-- begin, string "hi", end
abbrev three_lines : List ScriptStep
three_lines =
    record { line = 1; daemon = 1; name = []; verb = 0; args = [] }
    ∷ record { line = 2; daemon = 1; name = []; verb = 11; args = args.Text (codes "hi") ∷ [] }
    ∷ record { line = 3; daemon = 1; name = []; verb = 1; args = [] } ∷ []

-- an event of daemon 1 on a line, with its answer and moves
abbrev event_of : ℕ → Event → Answer → List Move → Made
event_of line event answer moves = record {
  daemon = 1;
  said = record { line = line; event = event; answer = answer; bytes = []; moves = moves };
  begun = 0;
  done = 0;
}

abbrev opening : Made
opening = event_of 1 events.Begin (answers.Lock 1) []

abbrev making : Made
making =
    event_of 2 (events.Say (calls.String (codes "hi"))) (answers.Reply (replies.At 8))
    (dry_moves empty_world (calls.String (codes "hi")) (replies.At 8))

abbrev closing : Made
closing = event_of 3 events.End (answers.Closed closes.Ended) []

abbrev with_hi : World
with_hi = record empty_world { things = map.insert map.empty 8 (things.Text (codes "hi")); marks = 8 ∷ []; taken = 1 }

-- the roll of daemon 1, which has drawn a number and holds this
abbrev roll_holding : Option Holding → Roll
roll_holding holds = record { daemons = record { id = 1; left = false; waits = None; holds = holds } ∷ []; drawn = 1; failed = None }

-- number 1, at depth 1
abbrev held : Bool → Holding
held modified = record { number = 1; nesting = record { depth = 1; doom = None; modified = modified } }

-- the machine after each line
abbrev begun : Machine
begun = record { roll = roll_holding (Some (held false)); before = bare empty_world; now = bare empty_world }

abbrev hi : Machine
hi = record { roll = roll_holding (Some (held true)); before = bare empty_world; now = bare with_hi }

abbrev ended : Machine
ended = record { roll = roll_holding None; before = committed (bare with_hi); now = committed (bare with_hi) }

abbrev core_0 : Core
core_0 = first_core (1 ∷ []) (bare empty_world)

abbrev core_1 : Core
core_1 = core_after core_0 opening begun

abbrev core_2 : Core
core_2 = core_after core_1 making hi

abbrev core_3 : Core
core_3 = core_after core_2 closing ended

three_printed : run_text (opening ∷ making ∷ closing ∷ []) ≡ codes "1 1 lock 1\n2 1 at 8\n3 1 ended\n"
unfolding digits
three_printed = refl

opens : CoreStep None core_0 opening core_1
opens = record {
  next = begun;
  step = record { told = record { answer = refl; moves = refl; bytes = refl }; after = refl };
  media = tt;
  history = refl;
}

makes : CoreStep None core_1 making core_2
makes = record {
  next = hi;
  step = inl (record {
    after = record { number = 1; nesting = record { depth = 1; doom = None; modified = true }; state = bare with_hi };
    transacts = record {
      done = record { reply = replies.At 8; moves = making.said.moves; after = bare with_hi };
      steps = record {
        step = inl (record { step = (refl, (refl, refl)); in_order = (refl, tt); counted = refl });
        media = tt;
        base = refl;
        demand = refl;
      };
      answer = refl;
      moves = refl;
      bytes = refl;
      after = refl;
    };
    others = refl;
  });
  media = tt;
  history = refl;
}

closes_it : CoreStep None core_2 closing core_3
closes_it = record {
  next = ended;
  step = inl (record {
    close = closes.Ended;
    left = committed (bare with_hi);
    closes = record { how = refl; told = record { answer = refl; moves = refl; bytes = refl }; left = refl };
    after = refl;
  });
  media = tt;
  history = refl;
}

three_lines_run : RunsDry None three_lines [] (opening ∷ making ∷ closing ∷ []) core_3
unfolding verbs
three_lines_run = record {
  front = three_lines;
  steps = refl;
  follows = (record { line = refl; daemon = refl; event = refl }, (record { line = refl; daemon = refl; event = refl }, (record { line = refl; daemon = refl; event = refl }, tt)));
  runs = (core_1, opens, (core_2, makes, (core_3, closes_it, refl)));
}

three_lines_journal : length core_3.log.journal ≡ 1
three_lines_journal = refl
