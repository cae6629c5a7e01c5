-- What a call and a look of a station come to.
use Rattle.std.proofs.Common.{◌≡◌, ◌≢◌, ℕ, Bool, Option, Some, None, Result, Ok, Err, refl}
use Rattle.sdr_base.specs.declared.refusal.Refusal.TheVariants as refusals
use Rattle.sdr_base.specs.declared.stop.Stop.{Stop}
use Rattle.sdr_base.specs.declared.stop.Stop.TheVariants as stops
use Rattle.sdr_disk.proofs.MomentsLemmas.{Reads-refl}
use Rattle.sdr_disk.specs.declared.disk.Disk.{Ghosts as DiskGhosts}
use Rattle.sdr_image.specs.QuietLaws.{quiet_same}
use Rattle.sdr_machine.specs.declared.has_ground.HasGround.{Ghosts}
use Rattle.sdr_machine.specs.declared.nesting.Nesting.{Nesting}
use Rattle.sdr_model.specs.declared.answer.Reply.{Reply}
use Rattle.sdr_model.specs.declared.answer.Reply.TheVariants as replies
use Rattle.sdr_model.specs.declared.call.Call.{Call}
use Rattle.sdr_station.specs.Grounded.{Grounded}
use Rattle.sdr_station.specs.Stationed.{IsStation, IsTicketTold, LooksOrFails, LooksWell, Says, SaysOrFails, Stationed, StaysLooked}

-- a station whose disk has failed keeps nothing else
pub failed_station : {D M : Type 0} (ground : Grounded D M) (nesting : Nesting) (moment : ℕ) → IsStation ground nesting (Some moment)
failed_station ground nesting moment = record {
  going = λ none. absurd (apart none);
  idle = λ none. absurd (apart none);
  outside = λ none. absurd (apart none);
  sound = λ none. absurd (apart none);
}
  where
    apart : Some moment ≡ None → ⊥
    apart none = cc

-- a call that was answered, and not by a fault of the disk, is a step
pub says_well : {D M : Type 0} (g : Ghosts (Grounded D M)) (call : Call) (reply : Reply) (old new : Stationed D M) → reply ≢ replies.DiskFault
    → Says g call reply old new → SaysOrFails g call reply old new
says_well g call replies.DiskFault old new other says = absurd (other refl)
says_well g call reply old new other says = says

-- a look that told of a ticket told no fault of the disk
pub looks_well : {D M : Type 0} (g : Ghosts (Grounded D M)) (ticket : ℕ) (old new : Stationed D M) (shown : Option Bool) (result : Result Bool Stop)
    → IsTicketTold ticket shown result → LooksWell ticket old new result → LooksOrFails g ticket old new result
looks_well g ticket old new shown (Ok granted) told looks = looks
looks_well g ticket old new shown (Err (stops.Refused refusal)) told looks = looks
looks_well g ticket old new None (Err stops.DiskFault) told looks =
    absurd (let fault : Result Bool Stop = Err stops.DiskFault in
    let is : fault ≡ Err (stops.Refused (refusals.BadTicket ticket)) = told in cc)
looks_well g ticket old new (Some granted) (Err stops.DiskFault) told looks =
    absurd (let fault : Result Bool Stop = Err stops.DiskFault in let is : fault ≡ Ok granted = told in cc)
looks_well g ticket old new shown (Err stops.MediaFault) told looks = looks
looks_well g ticket old new shown (Err stops.Failed) told looks = looks

-- over no look nothing changes
pub looks_same : {D M : Type 0} (d : DiskGhosts D) (s : Stationed D M) → StaysLooked d s s
looks_same d s = record {
  reads = Reads-refl d.bytes d.tells_crashes d.moment d.may_hold_after s.ground.heap.cells.disk;
  quiet = quiet_same d.bytes d.tells_crashes d.moment d.may_hold_after s.ground.heap.cells;
  media = refl;
}
