-- A daemon whose first line is a begin, and whose first entry is a transaction of another line: its journal doesn't keep to the script.
use Rattle.std.proofs.Common.{◌≡◌, ◌∙◌, ℕ, List, [], ◌∷◌, ◌++◌, true, true≢false, sym, ap, subst, refl}
use Rattle.std.specs.List.{flat_map}
use Rattle.sdr_model.specs.declared.answer.Close.{Close}
use Rattle.sdr_model.specs.declared.event.Event.TheVariants as events
use Rattle.sdr_model.specs.declared.journal.Entry.{Entry}
use Rattle.sdr_model.specs.declared.journal.Said.{Said}
use Rattle.sdr_model.specs.declared.journal.What.TheVariants as whats
use Rattle.sdr_model.specs.declared.journal.What.{What}
use Rattle.sdr_model.specs.declared.script.ScriptStep.{ScriptStep}
use Rattle.sdr_words.specs.Bindings.{Binding, event_of}
use Rattle.sdr_daemon.specs.Scripts.{DaemonKeepsToScript}
use Rattle.sdr_daemon.specs.Turns.{DaemonTurn, GivesEntry, IsLine, IsTurn, SayLines, TakeTurns, at_start, is_refused_outside, opens_work}

-- what is said first is said by the first line
first_line : (names : List Binding) (lines : List ScriptStep) (said : List Said) (s : Said) (more : List Said) → said ≡ s ∷ more → SayLines names lines said
    → (step : ScriptStep) × (rest : List ScriptStep) × (lines ≡ step ∷ rest) × IsLine names step s
first_line names [] [] s more is says = absurd cc
first_line names [] (other ∷ said) s more is says = absurd says
first_line names (step ∷ lines) [] s more is says = absurd says
first_line names (step ∷ lines) (other ∷ said) s more is says =
    let same : other ≡ s = cc in (step, lines, refl, subst (IsLine names step) same says.0)

first_said : (said : List Said) (last s : Said) (more : List Said) → opens_work said ≡ true → said ++ last ∷ [] ≡ s ∷ more → (rest : List Said) × (said ≡ s ∷ rest)
first_said [] last s more opens is = absurd (true≢false (sym opens))
first_said (one ∷ said) last s more opens is = let same : one ≡ s = cc in (said, ap (λ z. z ∷ said) same)

front_of : (before : List Entry) (last e next : Entry) (entries : List Entry) → e ∷ next ∷ entries ≡ before ++ last ∷ [] → (rest : List Entry) × (e ∷ rest ≡ before)
front_of [] last e next entries is = absurd cc
front_of (one ∷ before) last e next entries is = let same : e ≡ one = cc in (before, ap (λ z. z ∷ before) same)

-- The lines of a daemon, of which the first is a begin, and the first of its entries: a transaction.
module _ (R : ℕ → ℕ → Type 0) (step : ScriptStep) (steps : List ScriptStep) (begins : event_of [] step ≡ events.Begin) (e : Entry) (s : Said) (said : List Said) (close : Close)
    (what_is : e.what ≡ whats.Work (s ∷ said) close) where
  first_turn : (turns : List DaemonTurn) (entries : List Entry) (rest : List ScriptStep) → TakeTurns R at_start turns → e ∷ entries ≡ flat_map (λ (t : DaemonTurn). t.entries) turns
      → step ∷ steps ≡ flat_map (λ (t : DaemonTurn). t.lines) turns ++ rest → s.line ≡ step.line
  first_turn [] entries rest taken is lines = absurd cc
  first_turn (t ∷ turns) entries rest taken is lines = by taken.0
    where
      L : List ScriptStep
      L = flat_map (λ (t : DaemonTurn). t.lines) turns

      of : (z : Said) (more : List Said) → t.said ≡ z ∷ more → IsLine [] step z
      of z more says =
          let line = first_line [] t.lines t.said z more says taken.1 in
          let whole : step ∷ steps ≡ line.0 ∷ ((line.1 ++ L) ++ rest) = lines ∙ ap (λ l. (l ++ L) ++ rest) line.2 in
          let same : line.0 ≡ step = cc in
          subst (λ (x : ScriptStep). IsLine [] x z) same line.3

      begun : (z : Said) (more : List Said) → t.said ≡ z ∷ more → z.event ≡ events.Begin
      begun z more says = (of z more says).event ∙ begins

      gave : (what : What) → GivesEntry at_start t what → what ≡ whats.Work (s ∷ said) close
      gave what gives =
          let whole : e ∷ entries ≡ gives.entry ∷ flat_map (λ (t : DaemonTurn). t.entries) turns = is ∙ ap (λ l. l ++ flat_map (λ (t : DaemonTurn). t.entries) turns) gives.is in
          let same : gives.entry ≡ e = cc in
          sym gives.what_is ∙ ap (λ (x : Entry). x.what) same ∙ what_is

      no_look : (ticket : ℕ) (z : Said) → z.event ≡ events.Look ticket → z.event ≡ events.Begin → ⊥
      no_look ticket z look begin = let no : events.Look ticket ≡ events.Begin = sym look ∙ begin in absurd cc

      by : IsTurn R at_start t → s.line ≡ step.line
      by (IsTurn.passes z ready says passed answer none number phase) = absurd (true≢false (sym passed ∙ ap is_refused_outside (begun z [] says)))
      by (IsTurn.works closed ready opens gives phase) =
          let work : whats.Work t.said closed ≡ whats.Work (s ∷ said) close = gave (whats.Work t.said closed) gives in
          let same : t.said ≡ s ∷ said = cc in
          (of s said same).line
      by (IsTurn.cut closed last leave ready opens unlined event gives phase) =
          let work : whats.Work (t.said ++ last ∷ []) closed ≡ whats.Work (s ∷ said) close = gave (whats.Work (t.said ++ last ∷ []) closed) gives in
          let same : t.said ++ last ∷ [] ≡ s ∷ said = cc in
          let first = first_said t.said last s said opens same in
          (of s first.0 first.1).line
      by (IsTurn.waits ticket ready none gives phase) =
          let no : whats.Waits ticket ≡ whats.Work (s ∷ said) close = gave (whats.Waits ticket) gives in absurd cc
      by (IsTurn.looks ticket look what may gives ends phase) = absurd (no_look ticket look.said look.event (begun look.said [] look.is))
      by (IsTurn.refused_look ticket look may answer none number refused phase) = absurd (no_look ticket look.said look.event (begun look.said [] look.is))

  -- it is said by the first line
  pub own_line : (journal entries : List Entry) (next : Entry) → DaemonKeepsToScript R journal (step ∷ steps) (e ∷ next ∷ entries) → s.line ≡ step.line
  own_line journal entries next keeps =
      let front = front_of keeps.before keeps.last e next entries keeps.all in
      first_turn keeps.kept.turns front.0 keeps.rest keeps.kept.taken (front.1 ∙ keeps.kept.entries_are) keeps.kept.steps_are

  -- so a transaction of another line in its place is refused
  pub exchanged : (journal entries : List Entry) (next : Entry) → (s.line ≡ step.line → ⊥) → DaemonKeepsToScript R journal (step ∷ steps) (e ∷ next ∷ entries) → ⊥
  exchanged journal entries next other keeps = other (own_line journal entries next keeps)
