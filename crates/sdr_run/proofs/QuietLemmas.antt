-- What a reading call that asks no media does not do.
use Rattle.std.proofs.Common.{◌≡◌, ◌∙◌, ℕ, List, [], true, false, not, refl, sym, ap, subst, arith}
use Rattle.sdr_base.specs.declared.refusal.Refusal.TheVariants as refusals
use Rattle.sdr_disk.proofs.MomentsLemmas.{Reads-refl, Reads-trans}
use Rattle.sdr_disk.specs.Moments.{Reads}
use Rattle.sdr_disk.specs.declared.disk.Disk.{Ghosts as DiskGhosts}
use Rattle.sdr_image.specs.Opened.{Holds, HoldsBegun}
use Rattle.sdr_log.specs.declared.frame.Frame.{Frame}
use Rattle.sdr_model.specs.Reading.{is_reading, reads_media}
use Rattle.sdr_model.specs.declared.answer.Reply.{Reply}
use Rattle.sdr_model.specs.declared.answer.Reply.TheVariants as replies
use Rattle.sdr_model.specs.declared.call.Call.{Call}
use Rattle.sdr_run.specs.Quiet.{IsSame, StaysQuiet}
use Rattle.sdr_station.specs.Giving.{reads_by}
use Rattle.sdr_station.specs.Grounded.{Grounded}
use Rattle.step_things.specs.Answering.{dooms}

-- it dooms no transaction
pub dooms_none : (call : Call) (reply : Reply) → is_reading call ≡ true → dooms call reply ≡ false
dooms_none call (replies.Refused refusal) reads = ap not reads
dooms_none call reply reads = refl

-- and reads no media
pub asks_none : (call : Call) (reply : Reply) → reads_media call ≡ false → reads_by call reply ≡ false
asks_none call (replies.Refused (refusals.SourceShort have want)) unasked = unasked
asks_none call (replies.Refused refusal) unasked = refl
asks_none call reply unasked = unasked

-- a disk that is the same was only read
pub reads_same : {D : Type 0} (d : DiskGhosts D) (old new : D) → new ≡ old → Reads d.bytes d.tells_crashes d.moment d.may_hold_after old new
reads_same {D} d old new is =
    subst (λ (x : D). Reads d.bytes d.tells_crashes d.moment d.may_hold_after old x) (sym is)
    (Reads-refl d.bytes d.tells_crashes d.moment d.may_hold_after old)

-- over no call all stays
pub quiet_none : {D M : Type 0} (d : DiskGhosts D) (g : Grounded D M) → StaysQuiet d g g
quiet_none d g = record { reads = reads_same d g.heap.cells.disk g.heap.cells.disk refl; later = omega arith; frame = refl; media = refl }

-- and over two calls it does
pub quiet_then : {D M : Type 0} (d : DiskGhosts D) (old mid new : Grounded D M) → StaysQuiet d old mid → StaysQuiet d mid new → StaysQuiet d old new
quiet_then d old mid new f g = record {
  reads = Reads-trans d.bytes d.tells_crashes d.moment d.may_hold_after old.heap.cells.disk mid.heap.cells.disk new.heap.cells.disk f.reads g.reads;
  later = omega (arith, f.later, g.later);
  frame = g.frame ∙ f.frame;
  media = g.media ∙ f.media;
}

-- behind one that leaves the disk the same
pub quiet_behind : {D M : Type 0} (d : DiskGhosts D) (old mid new : Grounded D M) → IsSame old mid → StaysQuiet d mid new → StaysQuiet d old new
quiet_behind d old mid new same stays = quiet_then d old mid new (record {
  reads = reads_same d old.heap.cells.disk mid.heap.cells.disk same.disk;
  later = let is = ap d.faults same.disk in omega (arith, is);
  frame = same.frame;
  media = same.media;
}) stays

-- what a disk holds behind a rolling back of a transaction that has touched no line, it held before
pub holds_same : {D M : Type 0} (bytes : D → List ℕ) (old new : Grounded D M) → new.heap.cells.failed ≡ false → new.heap.cells.touched ≡ []
    → old.heap.cells.touched ≡ [] → new.heap.cells.disk ≡ old.heap.cells.disk → new.heap.cells.frame ≡ old.heap.cells.frame
    → new.heap.cells.begun ≡ old.heap.cells.begun → Holds bytes new.heap.cells → Holds bytes old.heap.cells
holds_same {D} bytes old new sound none was disk frame begun holds was_sound =
    let h = holds sound in
    let here = old.heap.cells in
    let there = new.heap.cells in
    subst (λ (lines : List ℕ). HoldsBegun here.frame here.begun lines (bytes here.disk)) (none ∙ sym was)
    (subst (λ (f : Frame). HoldsBegun f here.begun there.touched (bytes here.disk)) frame
    (subst (λ (b : List ℕ). HoldsBegun there.frame b there.touched (bytes here.disk)) begun
    (subst (λ (x : D). HoldsBegun there.frame there.begun there.touched (bytes x)) disk h)))
