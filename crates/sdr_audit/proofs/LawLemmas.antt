-- A region that passes each check isn't wrong by any.
use Rattle.std.proofs.Common.{ℕ, List, inl, inr}
use Rattle.sdr_audit.specs.Checked.{IsRight, IsWrongFirst}
use Rattle.audit_counts.proofs.LawLemmas.{right_not_wrong as things_not_wrong}
use Rattle.audit_blocks.proofs.ExactLemmas.{sound_or_wrong}
use Rattle.audit_blocks.specs.declared.error.Check.{Check}

module _ (bytes : List ℕ) where
  pub right_not_wrong : (why : Check) (place : ℕ) → IsRight bytes → IsWrongFirst bytes why place → ⊥
  right_not_wrong why place right (inl structure) = sound_or_wrong bytes right.sound why place structure
  right_not_wrong why place right (inr things) = things_not_wrong bytes why place right.things things.wrong
