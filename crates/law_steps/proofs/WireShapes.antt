-- The shapes of the rows that give bytes of an object.
use Rattle.std.proofs.Common.{◌≡◌, ℕ, [], true, nat_lt, refl, ap}
use Rattle.law_steps.proofs.Shapes.{Shape, on_addr, on_failed}
use Rattle.law_steps.specs.Shows.{ShowsOnly}
use Rattle.sdr_model.specs.Limits.{longest_read}
use Rattle.sdr_model.specs.Reading.{is_reading}
use Rattle.sdr_model.specs.RowMoves.{row_moves}
use Rattle.sdr_model.specs.Step.{is_answer}
use Rattle.sdr_model.specs.Steps.{Outcome}
use Rattle.sdr_model.specs.Wire.{GivesOf, ToldBytes}
use Rattle.sdr_model.specs.World.{World}
use Rattle.sdr_model.specs.Zco.{object_at}
use Rattle.sdr_model.specs.declared.call.Call.{Call}
use Rattle.sdr_model.specs.declared.zco.ZcoObject.{ZcoObject}

module _ {w : World} {call : Call} {o : Outcome} where
  -- bytes of an object are given
  pub gives_of : is_reading call ≡ true → ((at : ℕ → ℕ) → row_moves w call at ≡ [])
      → (o.after ≡ record w { shown = o.after.shown } → ShowsOnly call w o.after)
      → (addr count : ℕ) (of : ZcoObject → ToldBytes) → GivesOf w o addr count of → Shape w call o
  gives_of reading none only addr count of h =
      on_addr addr (object_at w addr) h (λ z is h.
      on_failed (nat_lt longest_read count) _ h refl (λ short g. Shape.shows (record {
        reading = reading;
        answered = ap is_answer g.3;
        moves = g.0;
        row = none;
        only = only g.1;
      })))
