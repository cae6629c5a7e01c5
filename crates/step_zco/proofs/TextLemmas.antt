-- The bytes of a slice are below 256.
use Rattle.std.proofs.Common.{ℕ, List, Fits, w8, get_or, arith}
use Rattle.std.proofs.lemmas.List.{get_or_default}
use Rattle.sdr_model.specs.Fields.{AreBytes}

pub are_bytes : (xs : List ℕ) → ((i : ℕ) → Fits w8 (get_or xs i 0)) → AreBytes xs
are_bytes xs fits k d within =
    let fit = fits k in let same = get_or_default xs k 0 d within in omega (arith, fit, same)
