-- A run that begins on a heap that was just opened, and what it leaves of the disk.
use Rattle.std.proofs.Common.{◌≡◌, ◌∙◌, ◌≤◌, ℕ, List, [], true, Option, length, refl, sym, ap, subst, inl, arith}
use Rattle.std.specs.Prelude.{◌↔◌}
use Rattle.sdr_base.specs.Media.{Told}
use Rattle.sdr_base.specs.declared.media.Media.{Ghosts as MediaGhosts}
use Rattle.sdr_core.specs.CoreKept.{AreMadeBetween, BeginsOn, IsRunOf}
use Rattle.sdr_disk.specs.Moments.{AtEach, Reads}
use Rattle.sdr_disk.specs.Pending.{IsSynced}
use Rattle.sdr_disk.specs.Tells.{IfTells}
use Rattle.sdr_disk.specs.declared.disk.Disk.{Ghosts as DiskGhosts}
use Rattle.sdr_core.specs.Caused.{SeenMedia, from_to, seen_media}
use Rattle.sdr_core.specs.Ended.{StandsEnded}
use Rattle.sdr_words.specs.Daemons.{daemons_of}
use Rattle.sdr_image.proofs.OpenedLemmas.{reads_synced}
use Rattle.sdr_image.specs.Opened.{Holds}
use Rattle.sdr_image.specs.Opening.{MayBeOpened}
use Rattle.sdr_machine.specs.Crash.{is_sound}
use Rattle.sdr_machine.specs.Ground.{State}
use Rattle.sdr_machine.specs.Legal.{IsLegal}
use Rattle.sdr_machine.specs.Standing.{GroundState, standing_at}
use Rattle.sdr_machine.specs.declared.has_ground.HasGround.{Ghosts}
use Rattle.sdr_log.proofs.LoggedLemmas.{closed_only}
use Rattle.sdr_log.specs.Calls.{KeepsDisk, KeepsRest}
use Rattle.sdr_log.specs.Frame.{room_of}
use Rattle.sdr_log.specs.Log.{first_gate, put_back_of}
use Rattle.sdr_log.specs.Logged.{GivesSame}
use Rattle.sdr_model.specs.declared.journal.Entry.{Entry}
use Rattle.sdr_model.specs.declared.script.ScriptStep.{ScriptStep}
use Rattle.sdr_run.specs.Handed.{HandedDisk, StaysAsHanded, handed_as}
use Rattle.sdr_run.specs.Opening.{OpenedSo}
use Rattle.sdr_run.specs.Playing.{Output}
use Rattle.sdr_run.specs.Recording.{PlaysOut, RunsScript}
use Rattle.sdr_run.proofs.HandedLemmas.{open_again, stays_rest}
use Rattle.sdr_run.proofs.QuietLemmas.{reads_same}
use Rattle.sdr_run.proofs.SettledLemmas.{ground_where}
use Rattle.sdr_run.specs.Replaying.{IsNotRun, IsSettled, LeavesJournal, RanOn, ReplaysOn, begins_on, with_base}
use Rattle.sdr_run.specs.Settled.{StandsWhere}
use Rattle.sdr_run.specs.declared.recording.Ran.{Ran}
use Rattle.sdr_station.specs.CrashNow.{crash_now}
use Rattle.sdr_station.specs.Grounded.{Grounded, Leaves, OpensAs, StandsInMemory}
use Rattle.sdr_station.specs.Opening.{IsOpen, first_on}
use Rattle.sdr_station.specs.declared.error.OpenError.{OpenError}
use Rattle.sdr_station.specs.declared.error.OpenError.TheVariants as errors

-- the heap on a disk, with media, as a ground under a condition on the disk
abbrev pub ground_of : {D M : Type 0} → DiskGhosts D → MediaGhosts M → Type 0 → Ghosts (Grounded D M)
ground_of d m condition = ground_where condition d.bytes d.tells_crashes d.moment d.faults d.may_hold_after m

-- what opening told of the same disk
pub opened_so : {D M : Type 0} (d : DiskGhosts D) (given disk : D) (files : M) (g : Grounded D M) → given ≡ disk → g.media ≡ files
    → IsOpen d.bytes d.tells_crashes d.moment d.may_hold_after given g → KeepsDisk d.bytes d.tells_crashes given g.heap.cells.disk
    → d.may_hold_after g.heap.cells.disk (d.moment g.heap.cells.disk) (d.bytes g.heap.cells.disk)
    → KeepsRest (d.bytes given) (d.bytes g.heap.cells.disk) → d.faults given ≤ d.faults g.heap.cells.disk
    → d.moment given ≤ d.moment g.heap.cells.disk
    → (first_gate (d.bytes given) ≡ 0 → Reads d.bytes d.tells_crashes d.moment d.may_hold_after given g.heap.cells.disk)
    → IfTells (d.tells_crashes given) (MayBeOpened (d.bytes given) (d.may_hold_after given (d.moment given))
    → AtEach d.moment d.may_hold_after given g.heap.cells.disk (GivesSame (d.bytes given))) → OpenedSo d disk files g
opened_so {D} d given disk files g same with_media open_so keeps read rest later forward quiet any_moment =
    subst (λ (x : D). OpenedSo d x files g) same
    (record {
      with_media = with_media;
      open_so = open_so;
      keeps = keeps;
      read = read;
      rest = rest;
      later = later;
      forward = forward;
      quiet = quiet;
      same = λ settled told. any_moment told (settled told);
    })

-- what is told of a disk that is left is told of the same one
pub not_run : {D : Type 0} (d : DiskGhosts D) (given disk left now : D) (why : OpenError) → given ≡ disk → now ≡ left
    → IsNotRun d given left why → IsNotRun d disk now why
not_run {D} d given disk left now why same left_is is =
    subst (λ (x : D). IsNotRun d x now why) same (subst (λ (y : D). IsNotRun d given y why) (sym left_is) is)

-- a heap was opened, and there was no memory for a run on it
pub opened_unrun : {D M : Type 0} (d : DiskGhosts D) (disk left : D) (files : M) (g : Grounded D M) (why : OpenError) → OpenedSo d disk files g
    → left ≡ g.heap.cells.disk → why ≡ errors.NoMemory → IsNotRun d disk left why
opened_unrun {D} d disk left files g why o left_is is =
    subst (λ (w : OpenError). IsNotRun d disk left w) (sym is)
    (subst (λ (x : D). IsNotRun d disk x errors.NoMemory) (sym left_is)
    (record {
      why = tt;
      keeps = o.keeps;
      bytes = tt;
      outside = o.rest;
      quiet = o.quiet;
      again = open_again d disk g errors.NoMemory o.open_so o.keeps.tells;
      any_moment = o.same;
      later = o.later;
    }))

-- A heap that was opened on a disk with media, under a condition that is met where the disk was settled.
module _ {D M : Type 0} (d : DiskGhosts D) (m : MediaGhosts M) (disk : D) (files : M) (script : List ScriptStep) (g : Grounded D M) (condition : Type 0) (met : condition ↔ IsSettled d disk)
    (o : OpenedSo d disk files g) where
  -- what was opened stands for the first state
  stands : StandsWhere condition d.bytes d.tells_crashes d.moment d.may_hold_after g (standing_at (first_on g) [])
  stands = record { memory = o.open_so.memory; disk = λ is. o.open_so.stands (met.0 is) }

  -- the disk's moment hasn't fallen
  started : d.moment disk ≤ g.moment
  started = omega (arith, o.forward, o.open_so.seen)

  -- at each moment of the opening a crash left what opens to the first state
  opening : IsSettled d disk → (m : ℕ) (image : List ℕ) → d.moment disk ≤ m → m ≤ g.moment
      → Leaves d.tells_crashes d.may_hold_after g.heap.cells.disk m image → OpensAs image (first_on g)
  opening settled m image from to left =
      let now = g.heap.cells.disk in
      let x = d.bytes now in
      let both = o.open_so.stands settled in
      let at = o.same settled (sym o.keeps.tells ∙ left.tells) in
      let here : g.moment ≡ d.moment now = both.moment_is in
      let opened : OpensAs x (first_on g) = crash_now d.bytes d.tells_crashes d.moment d.may_hold_after g (standing_at (first_on g) []) x both
      (record { tells = left.tells; left = subst (λ (n : ℕ). d.may_hold_after now n x) (sym here) o.read }) in
      let now_same : put_back_of x ≡ put_back_of (d.bytes disk) = at.each (d.moment now) x at.later (omega arith) o.read in
      let then_same : put_back_of image ≡ put_back_of (d.bytes disk) = at.each m image from (omega (arith, here, to)) left.left in
      record { heap = opened.heap; back = then_same ∙ sym now_same ∙ opened.back; room = opened.room; stands = opened.stands }

  begins_now : BeginsOn (ground_of d m condition) (begins_on m (handed_as d disk) script g) (daemons_of script) g
  begins_now = record {
    told = refl;
    daemons_are = refl;
    idle = record { going = record { sound = o.open_so.sound; going = o.open_so.going }; idle = o.open_so.idle };
    later = started;
    faults = o.later;
    lapses = record { faults = omega arith; short = omega arith };
    rests = refl;
    moves = [];
    stands = stands;
    opening = λ m image from to l. opening (met.0 l.met) m image from to l.left;
  }

  -- where no transaction is open on a ground, it has touched no line
  untouched_ended : (base : Grounded D M) (v : GroundState) → StandsInMemory base v → v.now ≡ v.before → base.heap.cells.touched ≡ []
  untouched_ended base v memory closed = memory.untouched (ap (λ (s : State). s.demand) closed ∙ memory.before.demand)

  -- A run has left a ground, whose disk was only read then.
  module _ (journal : List Entry) (base : Grounded D M) (left : D)
      (run : IsRunOf (ground_of d m condition) (begins_on m (handed_as d disk) script g) journal base)
      (ended : StandsEnded (ground_of d m condition) (begins_on m (handed_as d disk) script g) journal base)
      (holds : Holds d.bytes base.heap.cells)
      (r : Reads d.bytes d.tells_crashes d.moment d.may_hold_after base.heap.cells.disk left) where
    -- no batch is open
    gate_closed : is_sound journal ≡ true → first_gate (d.bytes base.heap.cells.disk) ≡ 0
    gate_closed sound =
        let s = ended sound in
        let memory = s.holds.memory in
        ((holds memory.sound).idle (untouched_ended base s.for memory s.tells.closed)).gate

    -- and nothing is pending
    synced_ended : IsSettled d disk → is_sound journal ≡ true → IsSynced d.bytes d.tells_crashes d.moment d.may_hold_after left
    synced_ended settled sound =
        let stands = (ended sound).holds.disk (met.1 settled) in
        let now = base.heap.cells.disk in
        reads_synced r (λ told.
        closed_only base.heap.cells.frame (d.bytes now) (d.may_hold_after now (d.moment now)) (stands.rests stands.memory.sound told).keeps.logged
        (gate_closed sound))

    -- an image that a crash may leave now it might have left before
    left_before : (n : ℕ) (image : List ℕ) → n ≤ d.moment left → d.may_hold_after left n image → d.may_hold_after base.heap.cells.disk n image
    left_before n image to of_left = r.past.now_then n image (omega (arith, to, r.time)) of_left

    -- what the run leaves of the disk
    leaves_journal : d.faults base.heap.cells.disk ≤ d.faults left → KeepsDisk d.bytes d.tells_crashes disk left → KeepsRest (d.bytes disk) (d.bytes left)
        → d.moment left ≡ base.moment → LeavesJournal d (m.told g.media) (daemons_of script) (first_on g) journal disk left
    leaves_journal later keeps outside seen =
        let cells = base.heap.cells in
        let told_now : d.tells_crashes disk ≡ true → d.tells_crashes cells.disk ≡ true = λ told. sym r.tells ∙ keeps.tells ∙ told in
        record {
          keeps = keeps;
          outside = outside;
          any_moment = λ settled told n image from to of_left.
              run.crash n image from (omega (arith, to, seen))
              (record { met = met.1 settled; left = record { tells = told_now told; left = left_before n image to of_left } });
          in_time = subst (λ (n : ℕ). AreMadeBetween (d.moment disk) n journal) (sym seen) run.in_time;
          early = λ n below. run.early n below;
          all = λ sound n from. run.all sound n (omega (arith, from, seen));
          now = λ sound.
              let s = ended sound in
              let memory = s.holds.memory in
              record {
                state = s.for.before;
                opened = record {
                  heap = cells.begun;
                  back = ap put_back_of r.same ∙ (holds memory.sound).gives;
                  room = room_of cells.frame;
                  stands = memory.before;
                };
                tells = s.tells.after;
              };
          closed = λ sound. ap first_gate r.same ∙ gate_closed sound;
          settled = λ settled sound told. inl (synced_ended settled sound told);
          synced = synced_ended;
          durable = λ settled sound told image of_left.
              let s = ended sound in
              let both = s.holds.disk (met.1 settled) in
              record {
                state = s.for.before;
                opened = crash_now d.bytes d.tells_crashes d.moment d.may_hold_after base s.for image both (record {
                  tells = told_now told;
                  left = subst (λ (n : ℕ). d.may_hold_after cells.disk n image) seen
                      (left_before (d.moment left) image (omega arith) of_left);
                });
                tells = s.tells.after;
              };
          later = omega (arith, run.counted, later);
          cause = λ broken. omega (arith, run.cause broken, later);
        }

    -- a run on the heap, which left this disk
    ran_now : (P : State → Type 0) → d.faults base.heap.cells.disk ≤ d.faults left → KeepsDisk d.bytes d.tells_crashes disk left
        → KeepsRest (d.bytes disk) (d.bytes left) → d.moment left ≡ base.moment → P (first_on g)
        → RanOn d m (daemons_of script) disk left files journal P
    ran_now P later keeps outside seen tells =
        let same : m.told g.media ≡ m.told files = ap m.told o.with_media in
        record {
          ground = g;
          with_media = o.with_media;
          open_so = o.open_so;
          runs = tells;
          legal = subst (λ (told : Option Told). IsLegal told (daemons_of script) (first_on g) journal) same run.legal;
          leaves =
              subst (λ (told : Option Told). LeavesJournal d told (daemons_of script) (first_on g) journal disk left) same
              (leaves_journal later keeps outside seen);
        }

  -- What is told of the disk and media as they were handed in is told so.
  module _ (was : HandedDisk) (handed : was ≡ handed_as d disk) where
    -- a run begins on the heap
    pub begins_opened : BeginsOn (ground_of d m condition) (begins_on m was script g) (daemons_of script) g
    begins_opened =
        subst (λ (w : HandedDisk). BeginsOn (ground_of d m condition) (begins_on m w script g) (daemons_of script) g) (sym handed) begins_now

    -- it was run on the heap, and left a disk that is as long, and tells what a crash may leave if it did
    pub ran_opened : (journal : List Entry) (base : Grounded D M) (left : D) (P : State → Type 0)
        → IsRunOf (ground_of d m condition) (begins_on m was script g) journal base
        → StandsEnded (ground_of d m condition) (begins_on m was script g) journal base
        → Reads d.bytes d.tells_crashes d.moment d.may_hold_after base.heap.cells.disk left → d.faults base.heap.cells.disk ≤ d.faults left
        → Holds d.bytes base.heap.cells → d.tells_crashes left ≡ was.tells
        → StaysAsHanded was.bytes (d.bytes left) base.heap.cells.frame → d.moment left ≡ base.moment → P (first_on g)
        → RanOn d m (daemons_of script) disk left files journal P
    ran_opened journal base left P run ended r later holds told stays seen tells =
        let keeps : KeepsDisk d.bytes d.tells_crashes disk left =
        record {
          size = stays.outside.long ∙ ap (λ (w : HandedDisk). length w.bytes) handed;
          tells = told ∙ ap (λ (w : HandedDisk). w.tells) handed;
        } in
        let outside : KeepsRest (d.bytes disk) (d.bytes left) =
        subst (λ (w : HandedDisk). KeepsRest w.bytes (d.bytes left)) handed (stays_rest _ _ _ stays) in
        ran_now journal base left
        (subst (λ (w : HandedDisk). IsRunOf (ground_of d m condition) (begins_on m w script g) journal base) handed run)
        (subst (λ (w : HandedDisk). StandsEnded (ground_of d m condition) (begins_on m w script g) journal base) handed ended)
        holds r P later keeps outside seen tells

    -- what media show
    abbrev pub shows : M → SeenMedia
    shows = seen_media m.told m.faults m.short

    -- what a schedule has come to
    pub replayed : (out out' : Output) (ran : Ran (Grounded D M)) (result : Ran (D × M))
        → PlaysOut (ground_of d m condition) (begins_on m was script g) script g out out' ran → result ≡ with_base ran result.base
        → result.base.0 ≡ ran.base.heap.cells.disk → Holds d.bytes ran.base.heap.cells → d.tells_crashes result.base.0 ≡ was.tells
        → StaysAsHanded was.bytes (d.bytes result.base.0) ran.base.heap.cells.frame
        → d.moment result.base.0 ≡ ran.base.moment → result.base.1 ≡ ran.base.media → ReplaysOn d m disk files script out out' result
    replayed out out' ran result plays is on holds told stays seen media_is =
        let now = result.base in
        let came : Ran (D × M) = with_base ran now in
        subst (λ (r : Ran (D × M)). ReplaysOn d m disk files script out out' r) (sym is)
        (record {
          on_heap = ran_opened ran.journal ran.base now.0 (λ first. RunsScript (from_to (shows files) (shows now.1)) first script out out' came)
              plays.run plays.ended (reads_same d ran.base.heap.cells.disk now.0 on)
              (let is = ap d.faults on in omega (arith, is)) holds told stays seen
              (subst (λ (x : M). RunsScript (from_to (shows x) (shows now.1)) (first_on g) script out out' came) o.with_media
              (subst (λ (x : M). RunsScript (from_to (shows g.media) (shows x)) (first_on g) script out out' came) (sym media_is) plays.replays));
          failed = plays.failed;
        })
