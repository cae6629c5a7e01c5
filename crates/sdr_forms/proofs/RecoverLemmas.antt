-- What a recovery answers follows from what it came to.
use Rattle.std.proofs.Common.{◌≡◌, ◌⊎◌, ℕ, inl, inr, subst, sym, arith}
use Rattle.std.specs.Io.KnownBytes.{Appends}
use Rattle.sdr_base.specs.Causes.{Rose}
use Rattle.sdr_base.specs.Written.{AppendsPart}
use Rattle.sdr_disk.specs.Moments.{AtEach, Reads}
use Rattle.sdr_disk.specs.Tells.{IfTells}
use Rattle.sdr_disk.specs.declared.disk.Disk.{Ghosts as DiskGhosts}
use Rattle.sdr_image.specs.Opening.{MayBeOpened}
use Rattle.sdr_log.proofs.LoggedLemmas.{closed_only}
use Rattle.sdr_log.specs.Log.{first_gate}
use Rattle.sdr_log.specs.Logged.{GivesSame}
use Rattle.sdr_forms.proofs.ShutLemmas.{by_shut, by_world, shut_not_usage, shut_status}
use Rattle.sdr_forms.specs.Answers.{Seen, Wrote}
use Rattle.sdr_forms.specs.Recovering.{AnswersRecover, IsNotOpened, IsRecovered, RecoversTo, line_recovered}
use Rattle.sdr_forms.specs.Shutting.{line_shut, status_shut}
use Rattle.sdr_forms.specs.declared.status.TheConstants.{DONE, OUTPUT_FAULT, USAGE}
use Rattle.sdr_station.specs.Grounded.{Grounded}
use Rattle.sdr_station.specs.Opening.{IsOpen, first_on}
use Rattle.sdr_station.specs.declared.error.OpenError.{OpenError}

-- a disk on which no batch is open was only read
abbrev ReadsAtRest : {D : Type 0} → DiskGhosts D → D → D → Type 0
ReadsAtRest d disk disk' = first_gate (d.bytes disk) ≡ 0 → Reads d.bytes d.tells_crashes d.moment d.may_hold_after disk disk'

-- a heap that was opened is put back
pub opened_recovered : {D M : Type 0} (d : DiskGhosts D) (disk : D) (g : Grounded D M) → IsOpen d.bytes d.tells_crashes d.moment d.may_hold_after disk g
    → IsRecovered d disk g.heap.cells.disk g.restored
opened_recovered d disk g o = record {
  frame = g.heap.cells.frame;
  back = o.back;
  world = record {
    heap = g.heap.cells.begun;
    gives = o.gives;
    world = (first_on g).world;
    pools = o.memory.before.pools;
    stands = o.memory.before.stands;
  };
  synced = λ may told.
      let now = g.heap.cells.disk in
      closed_only g.heap.cells.frame (d.bytes now) (d.may_hold_after now (d.moment now)) ((o.stands may).rests o.sound told).keeps.logged o.back.gate;
}

-- what a recovery came to gives its answers
pub recover_answers : {D : Type 0} (d : DiskGhosts D) (status : ℕ) (disk disk' : D) (sink sink' : Seen) → RecoversTo d status disk disk' sink sink'
    → IfTells (d.tells_crashes disk) (MayBeOpened (d.bytes disk) (d.may_hold_after disk (d.moment disk))
    → AtEach d.moment d.may_hold_after disk disk' (GivesSame (d.bytes disk)))
    → ReadsAtRest d disk disk' → AnswersRecover d status disk disk' sink sink'
recover_answers d status disk disk' sink sink' comes moments quiet = record {
  comes = comes;
  quiet = quiet;
  any_moment = moments;
  complete = λ no_disk no_sink. elim comes [
    | RecoversTo.done count is so text ↦ inl is
    | RecoversTo.unwritten count is so rose text ↦ absurd (no_sink rose)
    | RecoversTo.shut why is so text ↦ shut_status why status _ _ _ no_disk is so.explained
  ];
  exact = λ no_disk no_sink. elim comes [
    | RecoversTo.done count is so text ↦ by_world status (d.bytes disk) is so.world
    | RecoversTo.unwritten count is so rose text ↦ absurd (no_sink rose)
    | RecoversTo.shut why is so text ↦ by_shut why status _ _ _ no_disk is so.explained
  ];
}

-- a heap that was opened answers so, where the line that tells of it was written, or the output failed
pub opened_answers : {D M : Type 0} (d : DiskGhosts D) (status : ℕ) (disk disk' : D) (sink sink' : Seen) (g : Grounded D M) (count : ℕ)
    → count ≡ g.restored → disk' ≡ g.heap.cells.disk → IsOpen d.bytes d.tells_crashes d.moment d.may_hold_after disk g
    → IfTells (d.tells_crashes disk) (MayBeOpened (d.bytes disk) (d.may_hold_after disk (d.moment disk))
    → AtEach d.moment d.may_hold_after disk g.heap.cells.disk (GivesSame (d.bytes disk)))
    → ReadsAtRest d disk g.heap.cells.disk → (status ≡ DONE) ⊎ (status ≡ OUTPUT_FAULT)
    → (status ≡ DONE → Appends sink.bytes sink'.bytes (line_recovered count))
    → (status ≡ OUTPUT_FAULT → AppendsPart sink.bytes sink'.bytes (line_recovered count))
    → (status ≡ OUTPUT_FAULT → Rose sink.faults sink'.faults) → AnswersRecover d status disk disk' sink sink'
opened_answers {D} d status disk disk' sink sink' g count count_is same opened moments quiet known text part rose =
    let back = subst (λ (n : ℕ). IsRecovered d disk g.heap.cells.disk n) (sym count_is) (opened_recovered d disk g opened) in
    subst (λ (n : D). AnswersRecover d status disk n sink sink') (sym same)
    (recover_answers d status disk g.heap.cells.disk sink sink' (elim known [
      | inl is ↦ RecoversTo.done count is back (text is)
      | inr is ↦ RecoversTo.unwritten count is back (rose is) (part is)
    ]) moments quiet)

-- one that wasn't opened answers so, where the last line tells why
pub shut_answers : {D : Type 0} (d : DiskGhosts D) (status : ℕ) (disk disk' : D) (why : OpenError) (sink sink' : Seen) → status ≡ status_shut why
    → IsNotOpened d disk disk' why
    → IfTells (d.tells_crashes disk) (MayBeOpened (d.bytes disk) (d.may_hold_after disk (d.moment disk))
    → AtEach d.moment d.may_hold_after disk disk' (GivesSame (d.bytes disk)))
    → ReadsAtRest d disk disk' → Wrote sink sink' (line_shut why) → AnswersRecover d status disk disk' sink sink'
shut_answers d status disk disk' why sink sink' is shut moments quiet written =
    recover_answers d status disk disk' sink sink' (RecoversTo.shut why is shut written) moments quiet

-- no recovery answers that the words are no form
pub never_usage : {D : Type 0} (d : DiskGhosts D) (status : ℕ) (disk disk' : D) (sink sink' : Seen) → RecoversTo d status disk disk' sink sink'
    → status ≡ USAGE → ⊥
never_usage d status disk disk' sink sink' (RecoversTo.done count is so text) usage = omega (arith, is, usage)
never_usage d status disk disk' sink sink' (RecoversTo.unwritten count is so rose text) usage = omega (arith, is, usage)
never_usage d status disk disk' sink sink' (RecoversTo.shut why is so text) usage = shut_not_usage why status is usage
