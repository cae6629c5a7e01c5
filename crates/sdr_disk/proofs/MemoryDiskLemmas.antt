-- What a disk in memory keeps as its history gets one write or sync more.
use Rattle.std.proofs.Common.{◌≡◌, ◌+◌, ◌≤◌, ℕ, List, [], ◌∷◌, length, subst, sym, ◌∙◌, ap}
use Rattle.sdr_disk.specs.History.{History, MayLeave, bytes_read, moment_of, with_change, written_over}
use Rattle.sdr_disk.specs.MemoryDisk.{CrashLeaves, Memory, bytes_now, moment_now}
use Rattle.sdr_disk.specs.Moments.{Only, Syncs, Writes}
use Rattle.sdr_base.specs.Parts.{overwrite}
use Rattle.sdr_disk.specs.Ranges.{Agrees, range}
use Rattle.sdr_disk.specs.declared.change.Change.TheVariants.{Write, Sync}
use Rattle.sdr_disk.specs.declared.change.Outcome.{Outcome}
use Rattle.sdr_disk.specs.declared.change.Outcome.TheVariants.{Done}
use Rattle.sdr_disk.proofs.HistoryLemmas.{Agrees-written_over, Only-synced, Syncs-push, Writes-push}
use Rattle.sdr_disk.proofs.HistoryLemmas.{bytes_read-push, bytes_read-sync}

-- The moments of a disk are those of its history.
module _ (h h' : History) (old new : Memory) (before : old.history ≡ h) (now : new.history ≡ h') where
  Writes-history : (place count : ℕ) → Writes moment_of MayLeave place count h h'
      → Writes moment_now CrashLeaves place count old new
  Writes-history place count w =
      let v = subst (λ (g : History). Writes moment_of MayLeave place count g h') (sym before) w in
      let u = subst (Writes moment_of MayLeave place count old.history) (sym now) v in
      record { later = u.later; soon = u.soon; past = u.past; torn = u.torn }

  Syncs-history : Syncs moment_of MayLeave h h' → Syncs moment_now CrashLeaves old new
  Syncs-history s =
      let v = subst (λ (g : History). Syncs moment_of MayLeave g h') (sym before) s in
      let u = subst (Syncs moment_of MayLeave old.history) (sym now) v in
      record { later = u.later; soon = u.soon; past = u.past; waits = u.waits }

-- One write more, inside the disk.
module _ (place : ℕ) (from : List ℕ) (outcome : Outcome) (old new : History)
    (is : new ≡ with_change (Write place from outcome) old) (inside : place + length from ≤ length (bytes_read old))
  where
    reads : bytes_read new ≡ written_over outcome place from (bytes_read old)
    reads = ap bytes_read is ∙ bytes_read-push old (Write place from outcome)

    agrees : Agrees (range place (length from) ∷ []) (bytes_read old) (bytes_read new)
    agrees =
        subst (Agrees (range place (length from) ∷ []) (bytes_read old)) (sym reads)
        (Agrees-written_over outcome place from (bytes_read old) [] inside)

    pub write_written : outcome ≡ Done → bytes_read new ≡ overwrite place from (bytes_read old)
    write_written done = reads ∙ ap (λ (o : Outcome). written_over o place from (bytes_read old)) done

    pub write_others : (d d' : Memory) → d.history ≡ old → d'.history ≡ new
        → Agrees (range place (length from) ∷ []) (bytes_now d) (bytes_now d')
    write_others d d' before now =
        subst (λ (h : History). Agrees (range place (length from) ∷ []) (bytes_read h) (bytes_now d')) (sym before)
        (subst (λ (h : History). Agrees (range place (length from) ∷ []) (bytes_read old) (bytes_read h)) (sym now)
        agrees)

    pub write_moments : (d d' : Memory) → d.history ≡ old → d'.history ≡ new
        → Writes moment_now CrashLeaves place (length from) d d'
    write_moments d d' before now =
        Writes-history old _ d d' before (now ∙ is) place (length from) (Writes-push old place from outcome inside)

-- One sync more.
module _ (outcome : Outcome) (old new : History) (is : new ≡ with_change (Sync outcome) old) where
  pub sync_same : bytes_read new ≡ bytes_read old
  sync_same = ap bytes_read is ∙ bytes_read-sync old outcome

  pub sync_moments : (d d' : Memory) → d.history ≡ old → d'.history ≡ new → Syncs moment_now CrashLeaves d d'
  sync_moments d d' before now = Syncs-history old _ d d' before (now ∙ is) (Syncs-push old outcome)

  pub sync_durable : outcome ≡ Done → Only (bytes_read new) (MayLeave new (moment_of new))
  sync_durable done =
      let good = is ∙ ap (λ (o : Outcome). with_change (Sync o) old) done in
      subst (λ (h : History). Only (bytes_read h) (MayLeave h (moment_of h))) (sym good) (Only-synced old)

-- for the clauses that the search answers with them
pub ruleset writing = (write_written)

pub ruleset syncing = (sync_same)
