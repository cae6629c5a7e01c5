-- The roll after a daemon has drawn a number, gone on under it, or is done with it.
use Rattle.std.proofs.Common.{◌≡◌, ◌≤◌, ◌<◌, ◌∙◌, ◌==◌, ◌+◌, ℕ, List, [], ◌∷◌, ◌++◌, Bool, true, false, Option, None, Some, arith, refl, sym, ap, subst}
use Rattle.std.specs.Option.{option_map_or}
use Rattle.sdr_model.specs.declared.journal.Entry.{Entry}
use Rattle.sdr_machine.specs.Legal.{last_entry}
use Rattle.sdr_machine.specs.Nesting.{nested}
use Rattle.sdr_machine.specs.Roll.{Roll, at_nesting, daemon_of, number_of, put_daemon, served_number, with_daemon, with_number}
use Rattle.sdr_machine.specs.declared.daemon.Daemon.{Daemon}
use Rattle.sdr_machine.specs.declared.daemon.Holding.{Holding}
use Rattle.sdr_machine.specs.declared.nesting.Nesting.{Nesting}
use Rattle.law_runs.specs.LastEntries.{AgreesWithLast}
use Rattle.law_runs.proofs.JournalLemmas.{last_entry-other, last_entry-own, last_number, last_number-more}
use Rattle.sdr_machine.proofs.RollLemmas.{contrary, number_same}
use Rattle.sdr_machine.proofs.ServedLemmas.{held_within}
use Rattle.sdr_machine.specs.Served.{HoldsNumber}
use Rattle.law_runs.proofs.KeepLemmas.{KeepsRoll, none_held, others_higher, roll_moves}

-- The number under which an event is made is above that of the last entry, and below all that others hold; so many are drawn
-- then.
pub record IsTurn (journal : List Entry) (r : Roll) (d : Daemon) (drawn : ℕ) : Type 0 where
  pub more : r.drawn ≤ drawn
  pub most : number_of r d ≤ drawn
  pub higher : last_number 0 journal < number_of r d
  pub others : (other : ℕ) (y : Daemon) (h : Holding) → (d.id == other) ≡ false → HoldsNumber r other y h → number_of r d < h.number

module _ {daemons : List ℕ} {journal : List Entry} {r : Roll} (keeps : KeepsRoll daemons journal r) where
  module _ {d : Daemon} (found : daemon_of r d.id ≡ Some d) where
    -- it draws the next number
    pub drawn_roll : (depth : ℕ) → d.holds ≡ None → KeepsRoll daemons journal (with_number r d depth)
    drawn_roll depth none =
        let last = keeps.last in
        roll_moves daemons journal journal r d (record d { holds = Some (record { number = r.drawn + 1; nesting = nested depth }) }) (r.drawn + 1) r.failed keeps found
        (omega arith) (omega arith, omega arith) (omega arith)
        (λ h is. let number : r.drawn + 1 ≡ h.number = held_number h is in omega arith)
        (λ other y h apart held. keeps.above other y h held)
        (λ other y h h' apart is held same.
        let number : r.drawn + 1 ≡ h.number = held_number h is in
        let most : h'.number ≤ r.drawn = (held_within keeps.held held).1 in
        omega arith)
        (let a = keeps.agree d.id d found in record { left = a.left; waits = a.waits })
        (λ other apart. refl)
      where
        held_number : (h : Holding) → Some (record { number = r.drawn + 1; nesting = nested depth }) ≡ Some h → r.drawn + 1 ≡ h.number
        held_number h is = let s : record { number = r.drawn + 1; nesting = nested depth } ≡ h = cc in ap (λ (z : Holding). z.number) s

    -- its transaction goes on
    pub nested_roll : {h : Holding} (n : Nesting) → d.holds ≡ Some h → KeepsRoll daemons journal (with_daemon r (at_nesting d h n))
    nested_roll {h = h} n holds =
        roll_moves daemons journal journal r d (at_nesting d h n) r.drawn r.failed keeps found
        (omega arith) (held_within keeps.held mine) keeps.last
        (λ k is. subst (λ n. last_number 0 journal < n) (held_number k is) (keeps.above d.id d h mine))
        (λ other y k apart held. keeps.above other y k held)
        (λ other y k k' apart is held same.
        contrary (number_same d.id other (keeps.held.apart d.id other d y h k' mine held (held_number k is ∙ same))) apart)
        (let a = keeps.agree d.id d found in record { left = a.left; waits = a.waits })
        (λ other apart. refl)
      where
        mine : HoldsNumber r d.id d h
        mine = record { found = found; holds = holds }

        held_number : (k : Holding) → Some (record h { nesting = n }) ≡ Some k → h.number ≡ k.number
        held_number k is = let s : record h { nesting = n } ≡ k = cc in ap (λ (z : Holding). z.number) s

    -- a number that is drawn where none is served, and one that is held and served
    pub turn_fresh : d.holds ≡ None → (served_number r == 0) ≡ true → IsTurn journal r d (r.drawn + 1)
    turn_fresh none free =
        let last = keeps.last in
        let is : number_of r d ≡ r.drawn + 1 = ap (λ o. option_map_or (λ (h : Holding). h.number) o (r.drawn + 1)) none in
        record {
          more = omega arith;
          most = omega arith;
          higher = omega arith;
          others = λ other y h apart held. none_held daemons journal r other y h keeps free held;
        }

    pub turn_mine : {h : Holding} → d.holds ≡ Some h → (served_number r == h.number) ≡ true → IsTurn journal r d r.drawn
    turn_mine {h = h} holds served =
        let is : number_of r d ≡ h.number = ap (λ o. option_map_or (λ (h : Holding). h.number) o (r.drawn + 1)) holds in
        let above : last_number 0 journal < h.number = keeps.above d.id d h mine in
        let most : h.number ≤ r.drawn = (held_within keeps.held mine).1 in
        record {
          more = omega arith;
          most = omega arith;
          higher = omega arith;
          others = λ other y k apart held.
              subst (λ n. n < k.number) (sym is) (others_higher daemons journal r d.id other d y h k keeps mine served apart held);
        }
      where
        mine : HoldsNumber r d.id d h
        mine = record { found = found; holds = holds }

    -- it is done with the number, and there is no entry
    pub done_roll : {drawn : ℕ} (left : Bool) (waits : Option ℕ) (failed : Option ℕ) → IsTurn journal r d drawn
        → AgreesWithLast (last_entry journal d.id) (record d { left = left; waits = waits; holds = None })
        → KeepsRoll daemons journal (record { daemons = put_daemon r.daemons (record d { left = left; waits = waits; holds = None }); drawn = drawn; failed = failed })
    done_roll {drawn = drawn} left waits failed turn agree =
        let last = keeps.last in
        let more = turn.more in
        roll_moves daemons journal journal r d (record d { left = left; waits = waits; holds = None }) drawn failed keeps found
        turn.more tt (omega arith) (λ h is. absurd cc) (λ other y h apart held. keeps.above other y h held)
        (λ other y h h' apart is held same. absurd cc) agree (λ other apart. refl)

    -- it is done with the number, and there is an entry of it
    pub entry_roll : {drawn : ℕ} (left : Bool) (waits : Option ℕ) (failed : Option ℕ) (x : Entry) → IsTurn journal r d drawn
        → x.number ≡ number_of r d → d.id ≡ x.daemon
        → AgreesWithLast (Some x) (record d { left = left; waits = waits; holds = None })
        → KeepsRoll daemons (journal ++ x ∷ []) (record { daemons = put_daemon r.daemons (record d { left = left; waits = waits; holds = None }); drawn = drawn; failed = failed })
    entry_roll {drawn = drawn} left waits failed x turn number daemon agree =
        let is : last_number 0 (journal ++ x ∷ []) ≡ number_of r d = last_number-more 0 journal x ∙ number in
        let most = turn.most in
        roll_moves daemons journal (journal ++ x ∷ []) r d (record d { left = left; waits = waits; holds = None }) drawn failed keeps found
        turn.more tt (omega arith) (λ h none. absurd cc)
        (λ other y h apart held. subst (λ n. n < h.number) (sym is) (turn.others other y h apart held))
        (λ other y h h' apart none held same. absurd cc)
        (subst (λ o. AgreesWithLast o (record d { left = left; waits = waits; holds = None }))
        (sym (last_entry-own journal x d.id (number_same x.daemon d.id (sym daemon)))) agree)
        (λ other apart. last_entry-other journal x other (subst (λ n. (n == other) ≡ false) daemon apart))
