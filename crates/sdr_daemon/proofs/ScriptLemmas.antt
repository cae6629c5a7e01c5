-- What a daemon's entries keep to, as one turn more is taken, and as the journal grows.
use Rattle.std.proofs.Common.{◌≡◌, ◌∙◌, ◌<◌, ◌==◌, ◌&&◌, ◌||◌, ℕ, List, [], ◌∷◌, ◌++◌, Bool, true, false, not, Option, arith, refl, sym, ap, subst, append_assoc, append-nil, cond}
use Rattle.std.proofs.lemmas.Bool.Decides.{nat_tests}
use Rattle.std.proofs.lemmas.Grind.{flat_map-append}
use Rattle.std.proofs.lemmas.List.Elements.{filter-append}
use Rattle.std.proofs.lemmas.List.Folds.{list_all-append, list_any-append}
use Rattle.std.specs.List.{filter, flat_map, list_any}
use Rattle.std.specs.Prelude.{nat_lt}
use Rattle.sdr_base.specs.Media.{Told}
use Rattle.sdr_machine.specs.Ground.{State}
use Rattle.sdr_machine.specs.Legal.{Lead, is_fault}
use Rattle.sdr_model.specs.declared.event.Leave.TheVariants as leaves
use Rattle.sdr_model.specs.declared.event.Leave.{Leave}
use Rattle.sdr_model.specs.declared.journal.Entry.{Entry}
use Rattle.sdr_model.specs.declared.journal.Said.{Said}
use Rattle.sdr_model.specs.declared.script.ScriptStep.{ScriptStep}
use Rattle.sdr_words.specs.Bindings.{Binding, bound}
use Rattle.sdr_daemon.specs.Scripts.{HasKeptSoFar, HasLeaveCause, IsLookRefused, DaemonKeepsToScript, LooksNext}
use Rattle.sdr_daemon.specs.Turns.{DaemonTurn, IsLine, IsTurn, Reached, SayLines, TakeTurns, after_turn, after_turns, at_start, entries_by, names_after}

-- one more line is said
pub lines_more : (names : List Binding) (steps : List ScriptStep) (said : List Said) (step : ScriptStep) (s : Said) → SayLines names steps said
    → IsLine (names_after names steps said) step s → SayLines names (steps ++ step ∷ []) (said ++ s ∷ [])
lines_more names [] [] step s lines line = (line, tt)
lines_more names (x ∷ steps) (y ∷ said) step s lines line = (lines.0, lines_more (bound names x y.answer) steps said step s lines.1 line)
lines_more names [] (y ∷ said) step s lines line = absurd lines
lines_more names (x ∷ steps) [] step s lines line = absurd lines

-- and its answer gives its name what it holds
pub names_more : (names : List Binding) (steps : List ScriptStep) (said : List Said) (step : ScriptStep) (s : Said) → SayLines names steps said
    → names_after names (steps ++ step ∷ []) (said ++ s ∷ []) ≡ bound (names_after names steps said) step s.answer
names_more names [] [] step s lines = refl
names_more names (x ∷ steps) (y ∷ said) step s lines = names_more (bound names x y.answer) steps said step s lines.1
names_more names [] (y ∷ said) step s lines = absurd lines
names_more names (x ∷ steps) [] step s lines = absurd lines

-- a turn where more is refused
pub turn_also : (R R' : ℕ → ℕ → Type 0) → ((n ticket : ℕ) → R n ticket → R' n ticket) → (p : Reached) (t : DaemonTurn) → IsTurn R p t → IsTurn R' p t
turn_also R R' more p t (IsTurn.passes s ready said passed answer none number phase) = IsTurn.passes s ready said passed answer none number phase
turn_also R R' more p t (IsTurn.works close ready opens adds phase) = IsTurn.works close ready opens adds phase
turn_also R R' more p t (IsTurn.cut close s leave ready opens unlined event adds phase) = IsTurn.cut close s leave ready opens unlined event adds phase
turn_also R R' more p t (IsTurn.waits ticket ready lines adds phase) = IsTurn.waits ticket ready lines adds phase
turn_also R R' more p t (IsTurn.looks ticket by what may adds ends phase) = IsTurn.looks ticket by what may adds ends phase
turn_also R R' more p t (IsTurn.refused_look ticket by may answer none number at phase) =
    IsTurn.refused_look ticket by may answer none number (more t.number ticket at) phase

pub turns_also : (R R' : ℕ → ℕ → Type 0) → ((n ticket : ℕ) → R n ticket → R' n ticket) → (p : Reached) (turns : List DaemonTurn) → TakeTurns R p turns → TakeTurns R' p turns
turns_also R R' more p [] taken = tt
turns_also R R' more p (t ∷ turns) taken = (turn_also R R' more p t taken.0, taken.1, turns_also R R' more (after_turn p t) turns taken.2)

-- one more turn is taken
pub turns_more : (R : ℕ → ℕ → Type 0) (p : Reached) (turns : List DaemonTurn) (t : DaemonTurn) → TakeTurns R p turns → IsTurn R (after_turns p turns) t
    → SayLines (after_turns p turns).names t.lines t.said → TakeTurns R p (turns ++ t ∷ [])
turns_more R p [] t taken is lines = (is, lines, tt)
turns_more R p (x ∷ turns) t taken is lines = (taken.0, taken.1, turns_more R (after_turn p x) turns t taken.2 is lines)

pub after_turns-more : (p : Reached) (turns : List DaemonTurn) (t : DaemonTurn) → after_turns p (turns ++ t ∷ []) ≡ after_turn (after_turns p turns) t
after_turns-more p [] t = refl
after_turns-more p (x ∷ turns) t = after_turns-more (after_turn p x) turns t

-- so the daemon has kept to its script by one turn more
pub kept_more : (R : ℕ → ℕ → Type 0) (steps rest rest' : List ScriptStep) (entries : List Entry) (at : Reached) (t : DaemonTurn) → HasKeptSoFar R steps rest entries at
    → rest ≡ t.lines ++ rest' → IsTurn R at t → SayLines at.names t.lines t.said → LooksNext t.phase (names_after at.names t.lines t.said) rest'
    → HasKeptSoFar R steps rest' (entries ++ t.entries) (after_turn at t)
kept_more R steps rest rest' entries at t kept ahead is lines next =
    let L : DaemonTurn → List ScriptStep = λ (x : DaemonTurn). x.lines in
    let E : DaemonTurn → List Entry = λ (x : DaemonTurn). x.entries in
    record {
      turns = kept.turns ++ t ∷ [];
      taken = turns_more R at_start kept.turns t kept.taken (subst (λ (p : Reached). IsTurn R p t) kept.at_is is) (subst (λ (p : Reached). SayLines p.names t.lines t.said) kept.at_is lines);
      at_is = ap (λ (p : Reached). after_turn p t) kept.at_is ∙ sym (after_turns-more at_start kept.turns t);
      steps_are =
          kept.steps_are ∙ ap (λ r. flat_map L kept.turns ++ r) ahead ∙ sym (append_assoc (flat_map L kept.turns) t.lines rest')
          ∙ ap (λ l. (flat_map L kept.turns ++ l) ++ rest') (sym (append-nil t.lines)) ∙ ap (λ l. l ++ rest') (sym (flat_map-append L kept.turns (t ∷ [])));
      entries_are =
          ap (λ l. l ++ t.entries) kept.entries_are ∙ ap (λ l. flat_map E kept.turns ++ l) (sym (append-nil t.entries)) ∙ sym (flat_map-append E kept.turns (t ∷ []));
      next = next;
    }

-- and where more is refused
pub kept_also : (R R' : ℕ → ℕ → Type 0) → ((n ticket : ℕ) → R n ticket → R' n ticket) → (steps rest : List ScriptStep) (entries : List Entry) (at : Reached)
    → HasKeptSoFar R steps rest entries at → HasKeptSoFar R' steps rest entries at
kept_also R R' more steps rest entries at kept = record {
  turns = kept.turns;
  taken = turns_also R R' more at_start kept.turns kept.taken;
  at_is = kept.at_is;
  steps_are = kept.steps_are;
  entries_are = kept.entries_are;
  next = kept.next;
}

or_left : (a b : Bool) → a ≡ true → (a || b) ≡ true
or_left true b is = refl
or_left false b is = absurd cc

-- a leave stays caused as the journal grows
pub leave_later : (journal : List Entry) (e : Entry) (own : List Entry) (steps : List ScriptStep) (number : ℕ) (rest : List ScriptStep) (leave : Leave) → HasLeaveCause journal own steps number rest leave
    → HasLeaveCause (journal ++ e ∷ []) own steps number rest leave
leave_later journal e own steps number rest leaves.Done may = may
leave_later journal e own steps number rest leaves.Fault may =
    list_any-append (λ (x : Entry). is_fault x.what && nat_lt x.number number) journal (e ∷ [])
    ∙ or_left (list_any (λ (x : Entry). is_fault x.what && nat_lt x.number number) journal) (list_any (λ (x : Entry). is_fault x.what && nat_lt x.number number) (e ∷ [])) may
leave_later journal e own steps number rest leaves.Memory may = tt
leave_later journal e own steps number rest leaves.Spent may = may

-- a script that was kept to stays so
pub script_later : (R R' : ℕ → ℕ → Type 0) → ((n ticket : ℕ) → R n ticket → R' n ticket) → (journal : List Entry) (e : Entry) (steps : List ScriptStep) (entries : List Entry)
    → DaemonKeepsToScript R journal steps entries → DaemonKeepsToScript R' (journal ++ e ∷ []) steps entries
script_later R R' more journal e steps entries keeps = record {
  rest = keeps.rest;
  before = keeps.before;
  at = keeps.at;
  kept = kept_also R R' more steps keeps.rest keeps.before keeps.at keeps.kept;
  last = keeps.last;
  all = keeps.all;
  leave = keeps.leave;
  leaves = keeps.leaves;
  means = keeps.means;
  due = keeps.due;
  higher = keeps.higher;
  cause = leave_later journal e keeps.before steps keeps.last.number keeps.rest keeps.leave keeps.cause;
}

-- a script is kept to where more is refused
pub script_also : (R R' : ℕ → ℕ → Type 0) → ((n ticket : ℕ) → R n ticket → R' n ticket) → (journal : List Entry) (steps : List ScriptStep) (entries : List Entry)
    → DaemonKeepsToScript R journal steps entries → DaemonKeepsToScript R' journal steps entries
script_also R R' more journal steps entries keeps = record {
  rest = keeps.rest;
  before = keeps.before;
  at = keeps.at;
  kept = kept_also R R' more steps keeps.rest keeps.before keeps.at keeps.kept;
  last = keeps.last;
  all = keeps.all;
  leave = keeps.leave;
  leaves = keeps.leaves;
  means = keeps.means;
  due = keeps.due;
  higher = keeps.higher;
  cause = keeps.cause;
}

filter_none : (p : Entry → Bool) (journal : List Entry) (e : Entry) (b : Bool) → p e ≡ b → b ≡ false → filter p (journal ++ e ∷ []) ≡ filter p journal
filter_none p journal e b is isnt =
    filter-append p journal (e ∷ []) ∙ ap (λ c. filter p journal ++ cond c (e ∷ []) []) (is ∙ isnt) ∙ append-nil (filter p journal)

-- a daemon's entries, where one of its own is added, or one of another
pub entries_own : (journal : List Entry) (e : Entry) (id : ℕ) → (e.daemon == id) ≡ true → entries_by id (journal ++ e ∷ []) ≡ entries_by id journal ++ e ∷ []
entries_own journal e id own =
    filter-append (λ (x : Entry). x.daemon == id) journal (e ∷ []) ∙ ap (λ c. entries_by id journal ++ cond c (e ∷ []) []) own

pub entries_other : (journal : List Entry) (e : Entry) (id : ℕ) → (e.daemon == id) ≡ false → entries_by id (journal ++ e ∷ []) ≡ entries_by id journal
entries_other journal e id other = filter_none (λ (x : Entry). x.daemon == id) journal e false other refl

-- a look that was refused under a number stays so as entries with higher numbers are added
pub refused_later : (told : Option Told) (daemons : List ℕ) (first : State) (journal : List Entry) (e : Entry) (number ticket : ℕ) → number < e.number
    → IsLookRefused told daemons first journal number ticket → IsLookRefused told daemons first (journal ++ e ∷ []) number ticket
refused_later told daemons first journal e number ticket higher at =
    let above : nat_lt e.number number ≡ false = grind (arith, nat_tests) in
    let apart : not (e.number == number) ≡ true = grind (arith, nat_tests) in
    record {
      unused =
          list_all-append (λ (x : Entry). not (x.number == number)) journal (e ∷ []) ∙ ap (λ b. b && (not (e.number == number) && true)) at.unused
          ∙ ap (λ b. b && true) apart;
      before = at.before;
      after = subst (λ entries. Lead told daemons [] first entries at.before) (sym (filter_none (λ (x : Entry). nat_lt x.number number) journal e false above refl)) at.after;
      none = at.none;
    }
