use Rattle.std.proofs.Common.{refl}
use Rattle.sdr_system.proofs.PlaceLemmas.{no_size, behind_last}
use Rattle.sdr_system.proofs.place.sized.Goals as goal

pub returns-in_err-path : goal.returns-in_err-path
returns-in_err-path c = rw c.from_residual.ensures (no_size c.args.word.now c.in_err-path.ensures.cases)

pub returns-in_err-bytes : goal.returns-in_err-bytes
returns-in_err-bytes c =
    rw c.from_residual-in_err-bytes.ensures
    (λ path bytes names. c.in_err-bytes.ensures.none refl bytes names.fits
    (behind_last c.args.word.now c.in_ok-path.path.now c.in_ok-path.digits.now c.in_ok-path.ensures.cases path bytes
    names))
