-- What a core keeps in its run, and what an event adds to its journal.
use Rattle.std.proofs.Common.{◌==◌, ◌≡◌, ◌<◌, ◌⊎◌, ◌∙◌, ◌&&◌, ◌||◌, ℕ, List, [], ◌∷◌, ◌++◌, Bool, true, false, not, Option, None, Some, MatchBool, MatchOption, refl, sym, ap, subst, append-nil}
use Rattle.std.specs.List.{list_any}
use Rattle.std.specs.Option.{option_map, option_map_or, option_to_list}
use Rattle.std.specs.Prelude.{if◌then◌else◌}
use Rattle.sdr_base.specs.Media.{Told}
use Rattle.sdr_model.specs.declared.answer.Answer.{Answer}
use Rattle.sdr_model.specs.declared.answer.Answer.TheVariants as answers
use Rattle.sdr_model.specs.declared.answer.Reply.TheVariants as replies
use Rattle.sdr_model.specs.declared.answer.Close.{Close}
use Rattle.sdr_model.specs.declared.event.Event.{Event}
use Rattle.sdr_model.specs.declared.journal.Entry.{Entry}
use Rattle.sdr_model.specs.declared.journal.What.{What}
use Rattle.sdr_model.specs.declared.journal.What.TheVariants as whats
use Rattle.sdr_machine.specs.Core.{Core, Under, Work, all_said, closed_by, core_after, entry_of, was_outside, log_after, under, what_added, what_of, with_said, without_work, works_after}
use Rattle.sdr_machine.specs.Ground.{State}
use Rattle.sdr_machine.specs.Legal.{Lead, MayFollow, is_fault, is_leave}
use Rattle.sdr_machine.specs.Machine.{Machine, Made}
use Rattle.sdr_machine.specs.Roll.{daemon_of, number_of}
use Rattle.sdr_machine.specs.declared.daemon.Daemon.{Daemon}
use Rattle.law_runs.specs.Adding.{AddsRightly, FailsRightly, entry_added, entry_under}
use Rattle.law_runs.proofs.CurrentLemmas.{Current}
use Rattle.law_runs.proofs.JournalLemmas.{last_number}
use Rattle.law_runs.proofs.KeepLemmas.{KeepsJournal, KeepsRoll, journal_more}
use Rattle.sdr_machine.proofs.RollLemmas.{found_member, found_number, same_number}
use Rattle.law_runs.proofs.TransactLemmas.{passes}
use Rattle.law_runs.proofs.WorkLemmas.{AreApart}

-- what the open transactions of a machine keep
pub record KeepsWorks (told : Option Told) (m : Machine) (works : List Work) : Type 0 where
  pub apart : AreApart works
  pub current : Current told m works

-- what a core keeps in its run
pub record KeepsCore (told : Option Told) (daemons : List ℕ) (first : State) (c : Core) : Type 0 where
  pub roll : KeepsRoll daemons c.log.journal c.machine.roll
  pub journal : KeepsJournal told daemons first c.log.journal c.machine.roll.failed c.machine.before
  pub works : c.machine.roll.failed ≡ None → KeepsWorks told c.machine c.log.works

-- the core after an event keeps it, and what the event adds may stand in the journal
pub record StepKeeps (told : Option Told) (daemons : List ℕ) (first : State) (c : Core) (e : Made) (m' : Machine) : Type 0 where
  pub keeps : KeepsCore told daemons first (core_after c e m')
  pub adds : AddsRightly told daemons c e m'
  pub fails : FailsRightly c e m'

-- an event that is made of a core that keeps it
pub record IsNext (told : Option Told) (daemons : List ℕ) (first : State) (c : Core) (e : Made) : Type 0 where
  pub keeps : KeepsCore told daemons first c

-- of two tests one is true where the second is
pub or_true : (b : Bool) → (b || true) ≡ true
or_true true = refl
or_true false = refl

-- nothing is both so and not
pub and_not : (b : Bool) → (b && not b) ≡ false
and_not true = refl
and_not false = refl

module _ {told : Option Told} {daemons : List ℕ} {first : State} {c : Core} {e : Made} (p : IsNext told daemons first c e) where
  -- where the disk failed in this, the event was answered so, and else it hasn't failed by it
  abbrev FailsBy : What → Machine → Type 0
  FailsBy what m' = MatchBool (is_fault what) (e.said.answer ≡ answers.Reply replies.DiskFault) (m'.roll.failed ≡ c.machine.roll.failed)

  -- the journal stays
  still : (failed : Option ℕ) (before : State) → before ≡ c.machine.before → (failed ≡ None → c.machine.roll.failed ≡ None)
      → KeepsJournal told daemons first c.log.journal failed before
  still failed before is sound =
      record {
        leads = subst (Lead told daemons [] first c.log.journal) (sym is) p.keeps.journal.leads;
        rise = p.keeps.journal.rise;
        members = p.keeps.journal.members;
        ends = p.keeps.journal.ends;
        sound = λ none. p.keeps.journal.sound (sound none);
      }

  -- an event of no daemon of the machine's
  pub unknown : daemon_of c.machine.roll e.daemon ≡ None → StepKeeps told daemons first c e c.machine
  unknown none = record {
    keeps =
        subst (KeepsCore told daemons first)
        (sym (ap (λ o. record { machine = c.machine; log = option_map_or (λ (d : Daemon). log_after (under c.machine.roll d c.machine.roll e.said.event) c.log e) o c.log }) none))
        (record { roll = p.keeps.roll; journal = still c.machine.roll.failed c.machine.before refl (λ none. none); works = p.keeps.works });
    adds =
        subst (λ o. MatchOption o (c.machine.before ≡ c.machine.before) (λ (x : Entry). MayFollow told daemons c.log.journal c.machine.before x.number x.daemon x.what c.machine.before))
        (sym (ap (λ o. option_map_or (λ (d : Daemon). entry_under (under c.machine.roll d c.machine.roll e.said.event) c e) o None) none)) refl;
    fails =
        subst (λ o. MatchOption o (c.machine.roll.failed ≡ c.machine.roll.failed) (λ (x : Entry). FailsBy x.what c.machine))
        (sym (ap (λ o. option_map_or (λ (d : Daemon). entry_under (under c.machine.roll d c.machine.roll e.said.event) c e) o None) none)) refl;
  }

  module _ {d : Daemon} (found : daemon_of c.machine.roll e.daemon ≡ Some d) where
    pub number_is : d.id ≡ e.daemon
    number_is = same_number d.id e.daemon (found_number c.machine.roll.daemons e.daemon d found)

    pub found_there : daemon_of c.machine.roll d.id ≡ Some d
    found_there = ap (daemon_of c.machine.roll) number_is ∙ found

    abbrev pub made_under : Machine → Under
    made_under m' = under c.machine.roll d m'.roll e.said.event

    abbrev pub next_works : List Work
    next_works = if was_outside e.said then c.log.works else works_after c.log.works e.daemon e.said

    after_is : (m' : Machine) (works' : List Work) (journal' : List Entry) → next_works ≡ works'
        → c.log.journal ++ option_to_list (entry_under (made_under m') c e) ≡ journal'
        → core_after c e m' ≡ record { machine = m'; log = record { works = works'; journal = journal' } }
    after_is m' works' journal' works journal =
        ap (λ o. record { machine = m'; log = option_map_or (λ (d : Daemon). log_after (under c.machine.roll d m'.roll e.said.event) c.log e) o c.log }) found
        ∙ (λ i. record { machine = m'; log = record { works = works i; journal = journal i } })

    added_is : (m' : Machine) → entry_added c e m' ≡ entry_under (made_under m') c e
    added_is m' = ap (λ o. option_map_or (λ (d : Daemon). entry_under (under c.machine.roll d m'.roll e.said.event) c e) o None) found

    -- an event that adds no entry
    pub adds_none : (m' : Machine) (works' : List Work) → next_works ≡ works' → what_of (made_under m') c.log.works e ≡ None
        → KeepsRoll daemons c.log.journal m'.roll → m'.before ≡ c.machine.before → m'.roll.failed ≡ c.machine.roll.failed
        → (m'.roll.failed ≡ None → KeepsWorks told m' works') → StepKeeps told daemons first c e m'
    adds_none m' works' works none roll before same open_ones = record {
      keeps =
          subst (KeepsCore told daemons first)
          (sym (after_is m' works' c.log.journal works
          (ap (λ o. c.log.journal ++ option_to_list (option_map (entry_of (made_under m').number e) o)) none ∙ append-nil c.log.journal)))
          (record { roll = roll; journal = still m'.roll.failed m'.before before (λ none. sym same ∙ none); works = open_ones });
      adds =
          subst (λ o. MatchOption o (m'.before ≡ c.machine.before) (λ (x : Entry). MayFollow told daemons c.log.journal c.machine.before x.number x.daemon x.what m'.before))
          (sym (added_is m' ∙ ap (option_map (entry_of (made_under m').number e)) none)) before;
      fails =
          subst (λ o. MatchOption o (m'.roll.failed ≡ c.machine.roll.failed) (λ (x : Entry). FailsBy x.what m'))
          (sym (added_is m' ∙ ap (option_map (entry_of (made_under m').number e)) none)) same;
    }

    member : list_any (λ n. n == e.daemon) daemons ≡ true
    member = subst (λ ids. list_any (λ n. n == e.daemon) ids ≡ true) p.keeps.roll.numbers (found_member c.machine.roll.daemons e.daemon d found)

    -- an event that adds an entry
    pub adds_some : (m' : Machine) (works' : List Work) (what : What) → next_works ≡ works' → what_of (made_under m') c.log.works e ≡ Some what
        → KeepsRoll daemons (c.log.journal ++ entry_of (number_of c.machine.roll d) e what ∷ []) m'.roll
        → MayFollow told daemons c.log.journal c.machine.before (number_of c.machine.roll d) e.daemon what m'.before
        → last_number 0 c.log.journal < number_of c.machine.roll d
        → (c.machine.roll.failed ≡ None) ⊎ (is_leave what ≡ true)
        → (m'.roll.failed ≡ None → (c.machine.roll.failed ≡ None) × (is_fault what ≡ false))
        → FailsBy what m'
        → (m'.roll.failed ≡ None → KeepsWorks told m' works') → StepKeeps told daemons first c e m'
    adds_some m' works' what works some roll stands higher leaves sound same open_ones = record {
      keeps =
          subst (KeepsCore told daemons first)
          (sym (after_is m' works' (c.log.journal ++ entry_of (number_of c.machine.roll d) e what ∷ []) works
          (ap (λ o. c.log.journal ++ option_to_list (option_map (entry_of (made_under m').number e) o)) some)))
          (record {
            roll = roll;
            journal =
                journal_more told daemons first c.log.journal c.machine.roll.failed m'.roll.failed c.machine.before m'.before
                (entry_of (number_of c.machine.roll d) e what) p.keeps.journal stands higher member leaves sound;
            works = open_ones;
          });
      adds =
          subst (λ o. MatchOption o (m'.before ≡ c.machine.before) (λ (x : Entry). MayFollow told daemons c.log.journal c.machine.before x.number x.daemon x.what m'.before))
          (sym (added_is m' ∙ ap (option_map (entry_of (made_under m').number e)) some)) stands;
      fails =
          subst (λ o. MatchOption o (m'.roll.failed ≡ c.machine.roll.failed) (λ (x : Entry). FailsBy x.what m'))
          (sym (added_is m' ∙ ap (option_map (entry_of (made_under m').number e)) some)) same;
    }

    module _ {event : Event} {answer : Answer} (is : e.said.event ≡ event) (told_so : e.said.answer ≡ answer) where
      outside_is : was_outside e.said ≡ passes event answer
      outside_is = λ i. passes (is i) (told_so i)

      pub next_outside : passes event answer ≡ true → next_works ≡ c.log.works
      next_outside outside = ap (λ b. if b then c.log.works else works_after c.log.works e.daemon e.said) (outside_is ∙ outside)

      inside_is : passes event answer ≡ false → next_works ≡ works_after c.log.works e.daemon e.said
      inside_is inside = ap (λ b. if b then c.log.works else works_after c.log.works e.daemon e.said) (outside_is ∙ inside)

      closed_is : (o : Option Close) → closed_by answer ≡ o → closed_by e.said.answer ≡ o
      closed_is o closed = ap closed_by told_so ∙ closed

      pub next_inside : passes event answer ≡ false → closed_by answer ≡ None → next_works ≡ with_said c.log.works d.id e.said
      next_inside inside unclosed =
          inside_is inside
          ∙ ap (λ o. option_map_or (λ (close : Close). without_work c.log.works e.daemon) o (with_said c.log.works e.daemon e.said)) (closed_is None unclosed)
          ∙ ap (λ n. with_said c.log.works n e.said) (sym number_is)

      pub next_closed : (close : Close) → passes event answer ≡ false → closed_by answer ≡ Some close → next_works ≡ without_work c.log.works d.id
      next_closed close inside closed =
          inside_is inside
          ∙ ap (λ o. option_map_or (λ (close : Close). without_work c.log.works e.daemon) o (with_said c.log.works e.daemon e.said)) (closed_is (Some close) closed)
          ∙ ap (without_work c.log.works) (sym number_is)

      pub what_unclosed : (m' : Machine) → closed_by answer ≡ None → what_of (made_under m') c.log.works e ≡ what_added (under c.machine.roll d m'.roll event) event answer
      what_unclosed m' unclosed =
          ap (λ o. option_map_or (λ (close : Close). Some (whats.Work (all_said c.log.works e.daemon e.said) close)) o (what_added (made_under m') e.said.event e.said.answer)) (closed_is None unclosed)
          ∙ (λ i. what_added (under c.machine.roll d m'.roll (is i)) (is i) (told_so i))

      pub what_closed : (m' : Machine) (close : Close) → closed_by answer ≡ Some close
          → what_of (made_under m') c.log.works e ≡ Some (whats.Work (all_said c.log.works d.id e.said) close)
      what_closed m' close closed =
          ap (λ o. option_map_or (λ (close : Close). Some (whats.Work (all_said c.log.works e.daemon e.said) close)) o (what_added (made_under m') e.said.event e.said.answer)) (closed_is (Some close) closed)
          ∙ ap (λ n. Some (whats.Work (all_said c.log.works n e.said) close)) (sym number_is)
