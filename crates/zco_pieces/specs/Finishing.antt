-- A text that becomes one object, and why it doesn't.
use Rattle.std.specs.Prelude.{◌≡◌, ◌≢◌, ◌⊎◌, ℕ}
use Rattle.sdr_base.specs.Objects.{Heap, OnlyFault}
use Rattle.sdr_base.specs.declared.account.Acct.{Acct}
use Rattle.sdr_base.specs.declared.refusal.Refusal.TheVariants as refusals
use Rattle.sdr_base.specs.declared.stop.Stop.{Stop}
use Rattle.sdr_base.specs.declared.stop.Stop.TheVariants.{Refused}
use Rattle.zco_join.specs.Joining.{JoinStops}
use Rattle.zco_pieces.specs.Places.{Rebuilt, first_missing, missing_of}

-- bytes of a text are missing, the first of which is at a place
abbrev pub IsIncomplete : Rebuilt → Stop → Type 0
IsIncomplete r (Refused (refusals.BadRange offset length have)) =
    (offset ≡ first_missing 0 r.parts) × (length ≡ missing_of r) × (have ≡ r.total) × (missing_of r ≢ 0)
IsIncomplete r stop = ⊥

-- why no object is made of the text: a fault; or bytes are missing, and all is as before; or none is, and its clones don't become
-- one object
abbrev pub FinishStops : Acct → ℕ → Rebuilt → Heap → Heap → Stop → Type 0
FinishStops acct number r old new stop =
    OnlyFault stop
    ⊎ ((IsIncomplete r stop × (new ≡ old)) ⊎ ((missing_of r ≡ 0) × JoinStops acct number r.parts old new stop))
