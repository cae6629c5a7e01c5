-- What a row leaves open.
use Rattle.std.specs.Prelude.{◌≡◌}
use Rattle.sdr_model.specs.Steps.{Outcome}

-- two outcomes are the same but for the bytes shown
pub record SameButShown (o o' : Outcome) : Type 0 where
  pub moves : o.moves ≡ o'.moves
  pub after : o.after ≡ record o'.after { shown = o.after.shown }
  pub reply : o.reply ≡ o'.reply
