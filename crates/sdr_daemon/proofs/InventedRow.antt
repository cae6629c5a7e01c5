-- A daemon that keeps to no lines has no entry but its leave: with one more entry it doesn't.
use Rattle.std.proofs.Common.{◌≡◌, ◌∙◌, ℕ, List, [], ◌∷◌, ◌++◌, true≢false, refl, sym, ap, subst}
use Rattle.std.specs.List.{flat_map}
use Rattle.sdr_model.specs.declared.journal.Entry.{Entry}
use Rattle.sdr_model.specs.declared.journal.Said.{Said}
use Rattle.sdr_model.specs.declared.script.ScriptStep.{ScriptStep}
use Rattle.sdr_words.specs.Bindings.{Binding}
use Rattle.sdr_daemon.specs.Scripts.{DaemonKeepsToScript, LooksNext}
use Rattle.sdr_daemon.specs.Turns.{DaemonTurn, IsTurn, Phase, Reached, SayLines, TakeTurns, after_turn, after_turns, at_start, opens_work}

both_nil : (front rest : List ScriptStep) → [] ≡ front ++ rest → (front ≡ []) × (rest ≡ [])
both_nil [] rest none = (refl, sym none)
both_nil (step ∷ front) rest none = absurd cc

-- nothing is said by no lines
said_none : (names : List Binding) (lines : List ScriptStep) (said : List Said) → lines ≡ [] → SayLines names lines said → said ≡ []
said_none names [] [] none says = refl
said_none names [] (s ∷ said) none says = absurd says
said_none names (step ∷ lines) said none says = absurd cc

module _ (R : ℕ → ℕ → Type 0) where
  -- a turn in which nothing is said is a first look at a ticket that waits
  waits_alone : (at : Reached) (t : DaemonTurn) → t.said ≡ [] → IsTurn R at t → (ticket : ℕ) × (at.phase ≡ Phase.ready) × (t.phase ≡ Phase.waiting ticket)
  waits_alone at t none (IsTurn.passes s ready said passed answer entries number phase) = absurd (clash s (sym none ∙ said))
    where
      clash : (s : Said) → [] ≡ s ∷ [] → ⊥
      clash s is = absurd cc
  waits_alone at t none (IsTurn.works close ready opens gives phase) = absurd (true≢false (sym opens ∙ ap opens_work none))
  waits_alone at t none (IsTurn.cut close s leave ready opens unlined event gives phase) = absurd (true≢false (sym opens ∙ ap opens_work none))
  waits_alone at t none (IsTurn.waits ticket ready lines gives phase) = (ticket, ready, phase)
  waits_alone at t none (IsTurn.looks ticket by what may gives ends phase) = absurd (clash by.said (sym none ∙ by.is))
    where
      clash : (s : Said) → [] ≡ s ∷ [] → ⊥
      clash s is = absurd cc
  waits_alone at t none (IsTurn.refused_look ticket by may answer entries number refused phase) = absurd (clash by.said (sym none ∙ by.is))
    where
      clash : (s : Said) → [] ≡ s ∷ [] → ⊥
      clash s is = absurd cc

  -- a daemon that waits looks at its ticket by a line
  waiting_on : (at : Reached) (ticket : ℕ) (turns : List DaemonTurn) (rest : List ScriptStep) → at.phase ≡ Phase.waiting ticket → TakeTurns R at turns
      → LooksNext (after_turns at turns).phase (after_turns at turns).names rest → flat_map (λ (t : DaemonTurn). t.lines) turns ≡ [] → rest ≡ [] → ⊥
  waiting_on at ticket [] rest phase taken next none ended =
      subst (λ l. LooksNext (Phase.waiting ticket) at.names l) ended (subst (λ p. LooksNext p at.names rest) phase next)
  waiting_on at ticket (t ∷ turns) rest phase taken next none ended =
      let lines = (both_nil t.lines (flat_map (λ (t : DaemonTurn). t.lines) turns) (sym none)).0 in
      let alone = waits_alone at t (said_none at.names t.lines t.said lines taken.1) taken.0 in
      let no : Phase.ready ≡ Phase.waiting ticket = sym alone.1 ∙ phase in
      absurd cc

  -- so by no lines no turn is taken
  no_turns : (turns : List DaemonTurn) (rest : List ScriptStep) → TakeTurns R at_start turns → LooksNext (after_turns at_start turns).phase (after_turns at_start turns).names rest
      → [] ≡ flat_map (λ (t : DaemonTurn). t.lines) turns ++ rest → turns ≡ []
  no_turns [] rest taken next none = refl
  no_turns (t ∷ turns) rest taken next none =
      let parts = both_nil (flat_map (λ (t : DaemonTurn). t.lines) (t ∷ turns)) rest none in
      let lines = both_nil t.lines (flat_map (λ (t : DaemonTurn). t.lines) turns) (sym parts.0) in
      let alone = waits_alone at_start t (said_none [] t.lines t.said lines.0 taken.1) taken.0 in
      absurd (waiting_on (after_turn at_start t) alone.0 turns rest alone.2 taken.2 next lines.1 parts.1)

  -- the entries of a daemon without a line are its leave alone
  pub leave_alone : (journal entries : List Entry) → DaemonKeepsToScript R journal [] entries → (e : Entry) × (entries ≡ e ∷ [])
  leave_alone journal entries keeps =
      let kept = keeps.kept in
      let none = no_turns kept.turns keeps.rest kept.taken (subst (λ (at : Reached). LooksNext at.phase at.names keeps.rest) kept.at_is kept.next) kept.steps_are in
      (keeps.last, keeps.all ∙ ap (λ before. before ++ keeps.last ∷ []) (kept.entries_are ∙ ap (λ turns. flat_map (λ (t : DaemonTurn). t.entries) turns) none))

  -- so an invented entry beside the leave is refused
  pub invented : (journal : List Entry) (one leave : Entry) → DaemonKeepsToScript R journal [] (one ∷ leave ∷ []) → ⊥
  invented journal one leave keeps =
      let alone = leave_alone journal (one ∷ leave ∷ []) keeps in
      two (alone.0) alone.1
    where
      two : (e : Entry) → one ∷ leave ∷ [] ≡ e ∷ [] → ⊥
      two e is = absurd cc
