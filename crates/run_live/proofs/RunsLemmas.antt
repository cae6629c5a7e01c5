-- A run of daemons on a heap that was just opened: how it begins, and what it has come to.
use Rattle.std.proofs.Common.{◌≡◌, ◌∙◌, ℕ, List, [], sym, ap, subst, arith}
use Rattle.std.specs.Prelude.{◌↔◌}
use Rattle.sdr_base.specs.declared.media.Media.{Ghosts as MediaGhosts}
use Rattle.sdr_core.specs.Caused.{EntriesAreCaused, SeenMedia, from_to, seen_media}
use Rattle.sdr_core.specs.CoreKept.{LoggedLock, RunStart}
use Rattle.sdr_core.specs.Leaving.{LastsOn}
use Rattle.sdr_daemon.specs.Progressing.{IsFresh}
use Rattle.sdr_daemon.specs.Scripts.{KeepsToScripts}
use Rattle.sdr_disk.specs.declared.disk.Disk.{Ghosts as DiskGhosts}
use Rattle.sdr_image.specs.Opened.{Holds}
use Rattle.run_live.specs.Daemons.{RunsDaemons, RunsOn, RunsOnGround}
use Rattle.run_live.specs.declared.daemons.RanTotals.{RanTotals}
use Rattle.sdr_machine.specs.Roll.{first_roll}
use Rattle.sdr_machine.specs.declared.has_ground.HasGround.{Ghosts}
use Rattle.sdr_model.specs.declared.script.ScriptStep.{ScriptStep}
use Rattle.sdr_run.specs.Handed.{HandedDisk, StaysAsHanded, handed_as}
use Rattle.sdr_run.specs.Opening.{OpenedSo}
use Rattle.sdr_run.specs.Replaying.{IsSettled, begins_on}
use Rattle.sdr_run.proofs.QuietLemmas.{reads_same}
use Rattle.sdr_run.proofs.ReplayingLemmas.{ground_of, ran_opened}
use Rattle.sdr_station.specs.Grounded.{Grounded}
use Rattle.sdr_station.specs.Opening.{first_on}

-- a core that was just made is one for daemons in threads
pub fresh_core : {T : Type 0} (g : Ghosts T) (b : RunStart) (daemons : List ℕ) (base : T) (k : LoggedLock T) → daemons ≡ b.daemons → LastsOn g base
    → k ≡ record { lock = record { roll = first_roll daemons; base = base }; log = record { works = []; journal = [] } } → IsFresh g b k
fresh_core {T} g b daemons base k named lasts made = record {
  roll = ap (λ (x : LoggedLock T). x.lock.roll) made ∙ ap first_roll named;
  works = ap (λ (x : LoggedLock T). x.log.works) made;
  journal = ap (λ (x : LoggedLock T). x.log.journal) made;
  lasts = subst (λ (x : T). LastsOn g x) (sym (ap (λ (x : LoggedLock T). x.lock.base) made)) lasts;
}

-- what daemons have come to on a heap that was opened on a disk with media, under a condition that is met where the disk was settled
pub daemons_ran : {D M : Type 0} (d : DiskGhosts D) (m : MediaGhosts M) (disk : D) (files : M) (script : List ScriptStep) (g : Grounded D M) (condition : Type 0)
    (met : condition ↔ IsSettled d disk) (o : OpenedSo d disk files g) (was : HandedDisk) (handed : was ≡ handed_as d disk)
    (ran : RanTotals (Grounded D M)) (now : D × M)
    → RunsOnGround (ground_of d m condition) (begins_on m was script g) script ran → now.0 ≡ ran.base.heap.cells.disk
    → Holds d.bytes ran.base.heap.cells → d.tells_crashes now.0 ≡ was.tells
    → StaysAsHanded was.bytes (d.bytes now.0) ran.base.heap.cells.frame → d.moment now.0 ≡ ran.base.moment → now.1 ≡ ran.base.media
    → RunsOn d m disk files script (record { journal = ran.journal; base = now; failed = ran.failed; starved = ran.starved; totals = ran.totals })
daemons_ran {D} {M} d m disk files script g condition met o was handed ran now out on holds told stays seen media_is =
    let shows : M → SeenMedia = seen_media m.told m.faults m.short in
    record {
      on_heap = ran_opened d m disk files script g condition met o was handed ran.journal ran.base now.0
          (λ first. RunsDaemons (from_to (shows files) (shows now.1)) first script ran.journal ran.starved)
          out.run out.ended (reads_same d ran.base.heap.cells.disk now.0 on) (let is = ap d.faults on in omega (arith, is)) holds told stays seen
          (record {
            keeps = subst (λ (x : M). KeepsToScripts (m.told x) (first_on g) script ran.journal) o.with_media out.keeps;
            caused = subst (λ (x : M). EntriesAreCaused ran.journal (from_to (shows x) (shows now.1))) o.with_media
                (subst (λ (x : M). EntriesAreCaused ran.journal (from_to (shows g.media) (shows x))) (sym media_is) out.run.caused);
            wanting = out.wanting;
          });
      failed = out.failed;
      totals_are = out.totals_are;
    }
