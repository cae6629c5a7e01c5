-- What a core keeps in its run: its roll and its journal.
use Rattle.std.proofs.Common.{◌≡◌, ◌≤◌, ◌<◌, ◌⊎◌, ◌∙◌, ◌==◌, ℕ, List, [], ◌∷◌, ◌++◌, Bool, true, false, Option, None, Some, arith, refl, sym, subst, map, inl, inr}
use Rattle.std.proofs.lemmas.Bool.Decides.{nat_tests}
use Rattle.std.proofs.lemmas.List.Elements.{All-push}
use Rattle.std.specs.Prelude.{All}
use Rattle.std.specs.List.{list_any}
use Rattle.sdr_base.specs.Media.{Told}
use Rattle.sdr_model.specs.declared.journal.Entry.{Entry}
use Rattle.sdr_machine.specs.Ground.{State}
use Rattle.sdr_machine.specs.Legal.{EndsWithLeaves, Lead, MayFollow, is_fault, is_leave, last_entry}
use Rattle.sdr_machine.specs.Roll.{Roll, daemon_of, least_held, put_daemon, served_number}
use Rattle.sdr_machine.specs.Served.{HoldsNumber, HoldsDrawn, HoldsWithin}
use Rattle.sdr_machine.specs.declared.daemon.Daemon.{Daemon}
use Rattle.sdr_machine.specs.declared.daemon.Holding.{Holding}
use Rattle.law_runs.specs.Rising.{NumbersRise}
use Rattle.law_runs.specs.LastEntries.{AgreesWithJournal, AgreesWithLast}
use Rattle.law_runs.proofs.JournalLemmas.{AreSound, ends_after_sound, ends_with_leave, last_number, lead_more, numbers_more, sound_more}
use Rattle.sdr_machine.proofs.RollLemmas.{contrary, least_found, number_same, numbers_put, same_number}
use Rattle.sdr_machine.proofs.ServedLemmas.{by_daemon, drawn_put}

-- The daemons are these, their numbers lie above that of the last entry and are each another, and the roll agrees with the
-- journal.
pub record KeepsRoll (daemons : List ℕ) (journal : List Entry) (r : Roll) : Type 0 where
  pub numbers : map (λ (d : Daemon). d.id) r.daemons ≡ daemons
  pub held : HoldsDrawn r
  pub last : last_number 0 journal ≤ r.drawn
  pub above : (id : ℕ) (d : Daemon) (h : Holding) → HoldsNumber r id d h → last_number 0 journal < h.number
  pub agree : AgreesWithJournal journal r

-- The journal leads to the state before the open transaction, its numbers rise, its entries are these daemons', and it ends with leaves
-- where the disk failed.
pub record KeepsJournal (told : Option Told) (daemons : List ℕ) (first : State) (journal : List Entry) (failed : Option ℕ) (before : State) : Type 0 where
  pub leads : Lead told daemons [] first journal before
  pub rise : NumbersRise 0 journal
  pub members : All (λ (e : Entry). list_any (λ n. n == e.daemon) daemons ≡ true) journal
  pub ends : EndsWithLeaves journal
  pub sound : failed ≡ None → AreSound journal

-- what a roll keeps where a daemon is put in its place
pub roll_moves : (daemons : List ℕ) (journal journal' : List Entry) (r : Roll) (x d : Daemon) (drawn : ℕ) (failed : Option ℕ)
    → KeepsRoll daemons journal r → daemon_of r d.id ≡ Some x
    → r.drawn ≤ drawn → HoldsWithin drawn d.holds → last_number 0 journal' ≤ drawn
    → ((h : Holding) → d.holds ≡ Some h → last_number 0 journal' < h.number)
    → ((other : ℕ) (y : Daemon) (h : Holding) → (d.id == other) ≡ false → HoldsNumber r other y h → last_number 0 journal' < h.number)
    → ((other : ℕ) (y : Daemon) (h h' : Holding) → (d.id == other) ≡ false → d.holds ≡ Some h → HoldsNumber r other y h' → h.number ≡ h'.number → ⊥)
    → AgreesWithLast (last_entry journal' d.id) d
    → ((other : ℕ) → (d.id == other) ≡ false → last_entry journal' other ≡ last_entry journal other)
    → KeepsRoll daemons journal' (record { daemons = put_daemon r.daemons d; drawn = drawn; failed = failed })
roll_moves daemons journal journal' r x d drawn failed keeps found more within last above others apart agree agrees = record {
  numbers = numbers_put r.daemons d ∙ keeps.numbers;
  held = drawn_put r x d drawn failed keeps.held found more within apart;
  last = last;
  above = λ id y h held.
      by_daemon r.daemons d x found (λ n z. z.holds ≡ Some h → last_number 0 journal' < h.number) (above h)
      (λ n z e there holds. others n z h e (record { found = there; holds = holds })) id y held.found held.holds;
  agree =
      by_daemon r.daemons d x found (λ n y. AgreesWithLast (last_entry journal' n) y) agree
      (λ n y e there. subst (λ o. AgreesWithLast o y) (sym (agrees n e)) (keeps.agree n y there));
}

-- where a number is served, the others that are held are higher
pub others_higher : (daemons : List ℕ) (journal : List Entry) (r : Roll) (id other : ℕ) (d d' : Daemon) (h h' : Holding) → KeepsRoll daemons journal r
    → HoldsNumber r id d h → (served_number r == h.number) ≡ true → (id == other) ≡ false → HoldsNumber r other d' h' → h.number < h'.number
others_higher daemons journal r id other d d' h h' keeps mine served apart theirs =
    let least : least_held r.daemons ≤ h'.number = (least_found r.daemons r.drawn other d' h' keeps.held.within theirs.found theirs.holds).1 in
    let is : least_held r.daemons ≡ h.number = same_number (served_number r) h.number served in
    by (h.number == h'.number) refl (omega arith)
  where
    by : (b : Bool) → (h.number == h'.number) ≡ b → h.number ≤ h'.number → h.number < h'.number
    by true e most = contrary (number_same id other (keeps.held.apart id other d d' h h' mine theirs (same_number h.number h'.number e))) apart
    by false e most = grind (arith, nat_tests)

-- where no number is served, none is held
pub none_held : {R : Type 0} (daemons : List ℕ) (journal : List Entry) (r : Roll) (id : ℕ) (d : Daemon) (h : Holding) → KeepsRoll daemons journal r
    → (served_number r == 0) ≡ true → HoldsNumber r id d h → R
none_held daemons journal r id d h keeps none held =
    let least : 1 ≤ least_held r.daemons = (least_found r.daemons r.drawn id d h keeps.held.within held.found held.holds).0 in
    let is : least_held r.daemons ≡ 0 = same_number (served_number r) 0 none in
    absurd (omega arith)

-- an entry that may stand there is added
pub journal_more : (told : Option Told) (daemons : List ℕ) (first : State) (journal : List Entry) (failed failed' : Option ℕ) (before after : State) (e : Entry)
    → KeepsJournal told daemons first journal failed before
    → MayFollow told daemons journal before e.number e.daemon e.what after
    → last_number 0 journal < e.number → list_any (λ n. n == e.daemon) daemons ≡ true
    → (failed ≡ None) ⊎ (is_leave e.what ≡ true) → (failed' ≡ None → (failed ≡ None) × (is_fault e.what ≡ false))
    → KeepsJournal told daemons first (journal ++ e ∷ []) failed' after
journal_more told daemons first journal failed failed' before after e keeps stands higher member leaves whole = record {
  leads = lead_more told daemons [] first journal before e after keeps.leads stands;
  rise = numbers_more 0 journal e keeps.rise higher;
  members = All-push (λ (x : Entry). list_any (λ n. n == x.daemon) daemons ≡ true) journal e keeps.members member;
  ends = by leaves;
  sound = λ none. let w : (failed ≡ None) × (is_fault e.what ≡ false) = whole none in sound_more journal e (keeps.sound w.0) w.1;
}
  where
    by : (failed ≡ None) ⊎ (is_leave e.what ≡ true) → EndsWithLeaves (journal ++ e ∷ [])
    by (inl none) = ends_after_sound journal e (keeps.sound none)
    by (inr leave) = ends_with_leave journal e keeps.ends leave
