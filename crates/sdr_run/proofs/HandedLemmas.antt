-- What stays of a disk that was handed in.
use Rattle.std.proofs.Common.{◌≡◌, ◌∙◌, ℕ, Bool, List, [], ◌∷◌, sym, ap, subst}
use Rattle.sdr_disk.proofs.RangesLemmas.{Agrees-trans}
use Rattle.sdr_disk.specs.declared.disk.Disk.{Ghosts as DiskGhosts}
use Rattle.sdr_image.proofs.OutsideLemmas.{rest_outside}
use Rattle.sdr_log.proofs.LoggedLemmas.{closed_only}
use Rattle.sdr_log.specs.Calls.{KeepsRest, regions_of}
use Rattle.sdr_log.specs.declared.frame.Frame.{Frame}
use Rattle.sdr_run.specs.Handed.{HandedDisk, StaysAsHanded, handed_as}
use Rattle.sdr_station.proofs.OpeningLemmas.{synced_again}
use Rattle.sdr_station.specs.Grounded.{Grounded, StaysInside}
use Rattle.sdr_station.specs.Opening.{IsOpen, MayBeAgain}
use Rattle.sdr_station.specs.declared.error.OpenError.{OpenError}

-- it stays over a call that stays inside
pub stays_more : {D M : Type 0} (bytes : D → List ℕ) (tells : D → Bool) (was : List ℕ) (old new : Grounded D M)
    → StaysAsHanded was (bytes old.heap.cells.disk) old.heap.cells.frame → StaysInside bytes tells old new
    → StaysAsHanded was (bytes new.heap.cells.disk) new.heap.cells.frame
stays_more bytes tells was old new stays inside =
    subst (λ (f : Frame). StaysAsHanded was (bytes new.heap.cells.disk) f) (sym inside.frame)
    (record {
      head = stays.head;
      outside = Agrees-trans (regions_of old.heap.cells.frame ∷ []) _ _ _ stays.outside inside.outside;
    })

-- it stays where a heap was just opened on it
pub stays_opened : {D M : Type 0} (d : DiskGhosts D) (was : HandedDisk) (given disk : D) (g : Grounded D M) → was ≡ handed_as d disk → given ≡ disk
    → IsOpen d.bytes d.tells_crashes d.moment d.may_hold_after given g
    → KeepsRest (d.bytes given) (d.bytes g.heap.cells.disk)
    → StaysAsHanded was.bytes (d.bytes g.heap.cells.disk) g.heap.cells.frame
stays_opened {D} d was given disk g handed same opened rest =
    subst (λ (x : List ℕ). StaysAsHanded x (d.bytes g.heap.cells.disk) g.heap.cells.frame)
    (ap d.bytes same ∙ sym (ap (λ (w : HandedDisk). w.bytes) handed))
    (record { head = opened.head; outside = rest.outside g.heap.cells.frame opened.head })

-- so no byte outside the regions of which its head tells has changed
pub stays_rest : (was now : List ℕ) (f : Frame) → StaysAsHanded was now f → KeepsRest was now
stays_rest was now f stays = rest_outside f was now stays.head stays.outside

-- a disk on which a heap was just opened may be handed in again
pub open_again : {D M : Type 0} (d : DiskGhosts D) (disk : D) (g : Grounded D M) (why : OpenError)
    → IsOpen d.bytes d.tells_crashes d.moment d.may_hold_after disk g → d.tells_crashes g.heap.cells.disk ≡ d.tells_crashes disk
    → MayBeAgain d.bytes d.tells_crashes d.moment d.may_hold_after disk g.heap.cells.disk why
open_again d disk g why opened same =
    synced_again d.bytes d.tells_crashes d.moment d.may_hold_after disk g.heap.cells.disk why same
    (λ may told.
    let now = g.heap.cells.disk in
    closed_only g.heap.cells.frame (d.bytes now) (d.may_hold_after now (d.moment now)) ((opened.stands may).rests opened.sound told).keeps.logged
    opened.back.gate)
