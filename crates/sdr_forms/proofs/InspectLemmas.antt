-- What an inspection answers follows from what it came to.
use Rattle.std.proofs.Common.{◌≡◌, ◌⊎◌, ℕ, List, Some, Err, inl, inr, subst, sym, arith}
use Rattle.std.proofs.lemmas.Bool.{false≢true}
use Rattle.std.specs.Io.KnownBytes.{Appends}
use Rattle.sdr_stands.specs.Standing.{StandsForWhole}
use Rattle.sdr_base.specs.Causes.{Rose}
use Rattle.sdr_base.specs.Written.{AppendsPart}
use Rattle.sdr_audit.specs.Census.{IsCensus}
use Rattle.sdr_audit.specs.Checked.{HasAuditReason, IsNoWorld, TellsFirst}
use Rattle.sdr_audit.specs.declared.census.Census.{Census}
use Rattle.sdr_audit.specs.declared.error.AuditError.{AuditError}
use Rattle.sdr_audit.specs.declared.error.AuditError.TheVariants as audits
use Rattle.sdr_disk.specs.Moments.{Reads}
use Rattle.sdr_disk.specs.declared.disk.Disk.{Ghosts as DiskGhosts}
use Rattle.sdr_log.specs.Log.{put_back_of}
use Rattle.sdr_model.specs.World.{World}
use Rattle.audit_owners.specs.Owned.{AreBytes}
use Rattle.sdr_image.specs.Still.{untouched}
use Rattle.audit_world.specs.Standing.{StandsAsTold}
use Rattle.audit_world.specs.Told.{world_of}
use Rattle.audit_world.specs.ToldPools.{pools_of}
use Rattle.sdr_forms.proofs.ShutLemmas.{by_shut, by_world, shut_not_usage, shut_status}
use Rattle.sdr_forms.specs.Answers.{Seen, Wrote}
use Rattle.sdr_forms.specs.Inspecting.{AnswersInspect, GivesThis, HasShown, InspectsTo}
use Rattle.sdr_forms.specs.Recovering.{GivesWorld}
use Rattle.sdr_forms.specs.Shutting.{line_shut}
use Rattle.sdr_forms.specs.declared.status.TheConstants.{DONE, USAGE, OUTPUT_FAULT, NO_MEMORY}
use Rattle.sdr_station.specs.Opening.{ExplainsOpen, IsOfAudit}
use Rattle.sdr_station.specs.declared.error.OpenError.{OpenError}
use Rattle.sdr_station.specs.declared.error.OpenError.TheVariants as errors
use Rattle.sdr_text_world.proofs.SmallLemmas.{small_sums}
use Rattle.sdr_text_world.specs.WorldText.{HasSmallSums, world_text}

-- a disk whose heap is this gives the world that the heap tells, and its census
pub gives_told : (x heap : List ℕ) (world : World) (census : Census) → put_back_of x ≡ Some heap → world ≡ world_of heap
    → StandsAsTold heap → IsCensus heap census → GivesThis world census x
gives_told x heap world census gives is stands counts = record {
  heap = heap;
  gives = gives;
  pools = pools_of heap;
  stands = subst (λ (w : World). StandsForWhole heap w (pools_of heap)) (sym is) stands.told;
  counts = counts;
}

-- and the world has small sums, where the heap is of bytes
pub small_told : (heap : List ℕ) (world : World) → world ≡ world_of heap → StandsAsTold heap → AreBytes heap → HasSmallSums world
small_told heap world is stands bytes =
    small_sums heap world (pools_of heap) (subst (λ (w : World). StandsForWhole heap w (pools_of heap)) (sym is) stands.told) bytes

-- what an audit finds of a heap in memory, in which no read fails, explains why none is shown
pub unsound_explained : (T : Type 0) (x : List ℕ) (before now : ℕ) (heap : List ℕ) (error : AuditError) (why : OpenError) → IsOfAudit error why
    → put_back_of x ≡ Some heap → TellsFirst heap error → IsNoWorld heap error
    → HasAuditReason {T = T} untouched untouched (Err error) → ExplainsOpen x before now why
unsound_explained T x before now heap (audits.Damaged place check) why is gives wrong none cause =
    subst (λ (w : OpenError). ExplainsOpen x before now w) (sym is)
    (record { heap = heap; gives = gives; wrong = wrong; none = none })
unsound_explained T x before now heap audits.DiskFault why is gives wrong none cause = absurd (false≢true cause.explained.1)
unsound_explained T x before now heap audits.Failed why is gives wrong none cause = absurd (false≢true cause.explained.0)
unsound_explained T x before now heap audits.NoMemory why is gives wrong none cause =
    subst (λ (w : OpenError). ExplainsOpen x before now w) (sym is) tt

-- the world that is shown stands for the heap which the disk gives
shown_stands : (x : List ℕ) (P : List ℕ → Type 0) → HasShown x P → GivesWorld x
shown_stands x P shown =
    let this = shown.given in
    record { heap = this.heap; gives = this.gives; world = shown.world; pools = this.pools; stands = this.stands }

-- what an inspection came to gives its answers
pub inspect_answers : {D : Type 0} (d : DiskGhosts D) (status : ℕ) (disk disk' : D) (sink sink' : Seen) → InspectsTo d status disk disk' sink sink'
    → Reads d.bytes d.tells_crashes d.moment d.may_hold_after disk disk' → AnswersInspect d status disk disk' sink sink'
inspect_answers d status disk disk' sink sink' comes reads = record {
  comes = comes;
  reads = reads;
  complete = λ no_disk no_sink. elim comes [
    | InspectsTo.done is shown ↦ inl is
    | InspectsTo.unwritten is rose shown ↦ absurd (no_sink rose)
    | InspectsTo.shut why is explained text ↦ shut_status why status _ _ _ no_disk is explained
  ];
  exact = λ no_disk no_sink. elim comes [
    | InspectsTo.done is shown ↦ by_world status (d.bytes disk) is (shown_stands (d.bytes disk) _ shown)
    | InspectsTo.unwritten is rose shown ↦ absurd (no_sink rose)
    | InspectsTo.shut why is explained text ↦ by_shut why status _ _ _ no_disk is explained
  ];
}

-- a world that was printed, or a part of it, answers so; and where memory was wanting, its one line
pub shown_answers : {D : Type 0} (d : DiskGhosts D) (status : ℕ) (disk disk' : D) (sink sink' : Seen) (world : World) (census : Census)
    → Reads d.bytes d.tells_crashes d.moment d.may_hold_after disk disk' → GivesThis world census (d.bytes disk)
    → (status ≡ DONE) ⊎ (status ≡ OUTPUT_FAULT) ⊎ (status ≡ NO_MEMORY)
    → (status ≡ DONE → Appends sink.bytes sink'.bytes (world_text world census))
    → (status ≡ OUTPUT_FAULT → AppendsPart sink.bytes sink'.bytes (world_text world census))
    → (status ≡ OUTPUT_FAULT → Rose sink.faults sink'.faults)
    → (status ≡ NO_MEMORY → Wrote sink sink' (line_shut errors.NoMemory)) → AnswersInspect d status disk disk' sink sink'
shown_answers d status disk disk' sink sink' world census reads given known text part rose starved =
    inspect_answers d status disk disk' sink sink' (elim known [
      | inl is ↦ InspectsTo.done is (record { world = world; census = census; given = given; text = text is })
      | inr (inl is) ↦ InspectsTo.unwritten is (rose is) (record { world = world; census = census; given = given; text = part is })
      | inr (inr is) ↦ InspectsTo.shut errors.NoMemory is tt (starved is)
    ]) reads

-- no inspection answers that the words are no form
pub never_usage : {D : Type 0} (d : DiskGhosts D) (status : ℕ) (disk disk' : D) (sink sink' : Seen) → InspectsTo d status disk disk' sink sink'
    → status ≡ USAGE → ⊥
never_usage d status disk disk' sink sink' (InspectsTo.done is shown) usage = omega (arith, is, usage)
never_usage d status disk disk' sink sink' (InspectsTo.unwritten is rose shown) usage = omega (arith, is, usage)
never_usage d status disk disk' sink sink' (InspectsTo.shut why is explained text) usage = shut_not_usage why status is usage
