use Rattle.std.proofs.Common.{arith, ◌∙◌, sym}
use Rattle.std.specs.Prelude.{Some, None}
use Rattle.sdr_log.proofs.LogLemmas.{put_back_of-headless, put_back_of-short}
use Rattle.sdr_log.proofs.RecoveryLemmas.{frame_of-read, put_back_of-tiny}
use Rattle.sdr_log.proofs.finding.read_frame.Goals as goal

pub returns-then-have-lt-LINE-clause-none : goal.returns-then-have-lt-LINE-clause-none
returns-then-have-lt-LINE-clause-none g c none =
    put_back_of-tiny _ (omega (arith, c.len-have.ensures, c.if-have-lt-LINE.true))

pub returns-in-Some-clause-found : goal.returns-in-Some-clause-found
returns-in-Some-clause-found g c = record {
  limits = c.in-Some.ensures.limits;
  fits = omega (arith, c.len-have.ensures, c.disk_bytes.ensures, c.if-disk_bytes-have.true);
  head =
      frame_of-read c.read_at.new.into _ (Some c.in-Some.frame) c.in_ok-read_at.ensures.given
      c.read_at.auto.into c.in-Some.ensures.frame;
}

pub returns-in_default-clause-none : goal.returns-in_default-clause-none
returns-in_default-clause-none g c none =
    put_back_of-short c.in-Some.frame _
    (frame_of-read c.read_at.new.into _ (Some c.in-Some.frame) c.in_ok-read_at.ensures.given c.read_at.auto.into
    c.in-Some.ensures.frame)
    (omega (arith, c.len-have.ensures, c.disk_bytes.ensures, c.if-disk_bytes-have.false))

pub returns-in_default-2-clause-none : goal.returns-in_default-2-clause-none
returns-in_default-2-clause-none g c none =
    put_back_of-headless _
    (frame_of-read c.read_at.new.into _ None c.in_ok-read_at.ensures.given c.read_at.auto.into
    (sym c.in_default.is ∙ c.from_head.ensures.frame))
