-- Calls within a transaction, one after another.
use Rattle.std.proofs.Common.{◌≡◌, ℕ, Bool, true, false, List, length, refl, sym, ap, ◌∙◌, subst, arith, Some, true≢false}
use Rattle.sdr_disk.specs.Moments.{AtEach, Reads}
use Rattle.sdr_disk.proofs.MomentsLemmas.{Reads-refl, Reads-trans, at_both, at_first, at_read}
use Rattle.sdr_disk.proofs.RangesLemmas.{Agrees-refl, Agrees-trans}
use Rattle.sdr_log.specs.Calls.{KeepsOutside}
use Rattle.sdr_log.specs.Logged.{GivesHeap}
use Rattle.sdr_log.specs.declared.frame.Frame.{Frame}
use Rattle.sdr_log.proofs.RestoringLemmas.{left_before}
use Rattle.sdr_log.proofs.SpillingLemmas.{keeps_gives}
use Rattle.sdr_image.specs.Lines.{Keeps}
use Rattle.sdr_image.specs.Opened.{IsQuiet, KeepsBegun, LeavesHeap, Opened, Rests}

-- a disk that was only read keeps what it kept
pub keeps_read : {D : Type 0} {bytes : D → List ℕ} {tells : D → Bool} {moment : D → ℕ}
    {may_hold_after : D → ℕ → List ℕ → Type 0} {old now : D} (r : Reads bytes tells moment may_hold_after old now)
    (f : Frame) (begun : List ℕ) → Keeps f begun (bytes old) (may_hold_after old (moment old)) →
    Keeps f begun (bytes now) (may_hold_after now (moment now))
keeps_read {D} {bytes} {tells} {moment} {may_hold_after} {old} {now} r f begun k =
    subst (λ (x : List ℕ). Keeps f begun x (may_hold_after now (moment now))) (sym r.same) record {
      place = k.place;
      records = k.records;
      keeps = record {
        logged = record {
          records = k.keeps.logged.records;
          logs = k.keeps.logged.logs;
          pending = λ image l. k.keeps.logged.pending image (left_before r image l);
        };
        log = k.keeps.log;
        ends = k.keeps.ends;
        gives = k.keeps.gives;
      };
    }

module _ {D : Type 0} (bytes : D → List ℕ) (tells : D → Bool) (moment : D → ℕ) (may_hold_after : D → ℕ → List ℕ → Type 0) where
  -- a crash now leaves the bytes at begin
  pub rests_leaves : (i : Opened D) → i.failed ≡ false → Rests bytes tells moment may_hold_after i →
      LeavesHeap tells moment may_hold_after i.begun i.disk
  rests_leaves i sound rests told image l =
      let k = rests sound told in keeps_gives i.frame i.begun k.place k.records (bytes i.disk) _ k.keeps image l

  pub quiet_same : (a : Opened D) → IsQuiet bytes tells moment may_hold_after a a
  quiet_same a = record {
    frame = refl;
    restored = refl;
    still_open = λ o. o;
    disk = record { size = refl; tells = refl };
    inside = Agrees-refl _ (bytes a.disk);
    forward = omega arith;
    still = λ failed. (failed, refl);
    begun = λ sound. refl;
    grows = λ none. none;
    reads = λ none. Reads-refl bytes tells moment may_hold_after a.disk;
    rests = λ rests. rests;
    any_moment = λ sound rests told.
        at_first moment may_hold_after a.disk (GivesHeap a.begun) (rests_leaves a sound rests told);
  }

  pub quiet_both : (a b c : Opened D) → IsQuiet bytes tells moment may_hold_after a b →
      IsQuiet bytes tells moment may_hold_after b c → IsQuiet bytes tells moment may_hold_after a c
  quiet_both a b c f g = record {
    frame = g.frame ∙ f.frame;
    restored = g.restored ∙ f.restored;
    still_open = λ o. g.still_open (f.still_open o);
    disk = record { size = g.disk.size ∙ f.disk.size; tells = g.disk.tells ∙ f.disk.tells };
    inside = Agrees-trans _ (bytes a.disk) (bytes b.disk) (bytes c.disk) f.inside
        (subst (λ (k : Frame). KeepsOutside k (bytes b.disk) (bytes c.disk)) f.frame g.inside);
    forward = omega (arith, f.forward, g.forward);
    still = λ failed. let s = f.still failed in let t = g.still s.0 in (t.0, t.1 ∙ s.1);
    begun = λ sound. let going = on b.failed refl sound in g.begun sound ∙ f.begun going;
    grows = λ none. f.grows (g.grows none);
    reads = λ none.
        Reads-trans bytes tells moment may_hold_after a.disk b.disk c.disk (f.reads (g.grows none)) (g.reads none);
    rests = λ rests. g.rests (f.rests rests);
    any_moment = λ sound rests told. by_moment sound rests told b.failed refl;
  }
    where
      on : (failed : Bool) → b.failed ≡ failed → c.failed ≡ false → b.failed ≡ false
      on false is sound = is
      on true is sound = absurd (true≢false (sym (g.still is).0 ∙ sound))

      by_moment : a.failed ≡ false → Rests bytes tells moment may_hold_after a → tells a.disk ≡ true →
          (failed : Bool) → b.failed ≡ failed → AtEach moment may_hold_after a.disk c.disk (GivesHeap a.begun)
      by_moment sound rests told true failed =
          subst (λ (disk : D). AtEach moment may_hold_after a.disk disk (GivesHeap a.begun)) (sym (g.still failed).1)
          (f.any_moment sound rests told)
      by_moment sound rests told false going =
          at_both moment may_hold_after a.disk b.disk c.disk (GivesHeap a.begun) (GivesHeap b.begun) (GivesHeap a.begun)
          (f.any_moment sound rests told) (g.any_moment going (f.rests rests) (f.disk.tells ∙ told)) (λ image gives. gives)
          (λ image gives. gives ∙ ap Some (f.begun going))

  -- what is quiet keeps the bytes at begin
  pub quiet_keeps : (a b : Opened D) → IsQuiet bytes tells moment may_hold_after a b →
      KeepsBegun bytes tells moment may_hold_after a b
  quiet_keeps a b q = record { rests = q.rests; any_moment = q.any_moment }

  -- A call that only reads, and may find the disk failed.
  module _ (a b : Opened D) (r : Reads bytes tells moment may_hold_after a.disk b.disk) where
    -- the image is the same but for that
    pub quiet_read : a.failed ≡ false → b.frame ≡ a.frame → b.restored ≡ a.restored → b.is_open ≡ a.is_open →
        b.begun ≡ a.begun → b.touched ≡ a.touched → IsQuiet bytes tells moment may_hold_after a b
    quiet_read sound frame restored open_same begun touched = record {
      frame = frame;
      restored = restored;
      still_open = λ o. open_same ∙ o;
      disk = record { size = ap length r.same; tells = r.tells };
      inside = subst (λ (x : List ℕ). KeepsOutside a.frame (bytes a.disk) x) (sym r.same) (Agrees-refl _ (bytes a.disk));
      forward = omega (arith, r.time);
      still = λ failed. absurd (true≢false (sym failed ∙ sound));
      begun = λ s. begun;
      grows = λ none. sym touched ∙ none;
      reads = λ none. r;
      rests = λ rests s told.
          subst (λ (k : Frame). Keeps k b.begun (bytes b.disk) (may_hold_after b.disk (moment b.disk))) (sym frame)
          (subst (λ (heap : List ℕ). Keeps a.frame heap (bytes b.disk) (may_hold_after b.disk (moment b.disk))) (sym begun)
          (keeps_read r a.frame a.begun (rests sound (sym r.tells ∙ told))));
      any_moment = λ s rests told.
          at_read moment may_hold_after a.disk a.disk b.disk (GivesHeap a.begun)
          (at_first moment may_hold_after a.disk (GivesHeap a.begun) (rests_leaves a s rests told)) r.time r.past;
    }
