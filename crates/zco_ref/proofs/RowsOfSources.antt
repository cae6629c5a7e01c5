-- Worked rows: which sources go with their last extent, and what with them.
use Rattle.std.proofs.Common.{◌≡◌, ℕ, Bool, [], ◌∷◌, true, false, refl}
use Rattle.std.specs.Prelude.{Some}
use Rattle.sdr_base.specs.Raws.{raw_block}
use Rattle.sdr_base.specs.Stored.{number_at}
use Rattle.sdr_base.specs.Words.{layout}
use Rattle.sdr_base.specs.declared.account.Acct.TheVariants as accts
use Rattle.sdr_base.specs.declared.medium.Medium.{Medium}
use Rattle.sdr_base.specs.declared.medium.Medium.TheVariants as media
use Rattle.zco_ref.specs.Counting.{attached, detached, gone_next}
use Rattle.zco_ref.specs.Going.{goes_next, going, blocks_left}
use Rattle.zco_ref.specs.Kept.{CountedSource, counted_block}

-- a source of five bytes of the item 8, or of the raw object there
abbrev source_of : Medium → Bool → ℕ → ℕ → CountedSource
source_of medium flagged inbound outbound = record {
  inbound = inbound;
  outbound = outbound;
  row = record { medium = medium; flagged = flagged; subject = 8; length = 5; path = [] };
}

-- a flagged one goes with its last extent, and not before; one that isn't flagged stays
row_of_last : goes_next (source_of media.Bulk true 1 0) ≡ true
row_of_last = refl

row_of_two : goes_next (source_of media.Bulk true 1 1) ≡ false
row_of_two = refl

row_of_unflagged : goes_next (source_of media.Obj false 0 1) ≡ false
row_of_unflagged = refl

-- one that has taken over a raw object goes unflagged, after the raw object
row_of_owner : gone_next 88 (source_of media.Heap false 0 1) ≡ 8 ∷ 88 ∷ []
row_of_owner = refl

row_of_flagged : gone_next 88 (source_of media.Obj true 0 1) ≡ 88 ∷ []
row_of_flagged = refl

-- so many blocks go, by the bytes of its block
row_of_going : going (Some (counted_block (source_of media.Heap false 0 1))) ≡ 2
unfolding layout number_at
row_of_going = refl

row_of_staying : going (Some (counted_block (source_of media.Heap false 1 1))) ≡ 0
unfolding layout number_at
row_of_staying = refl

-- a raw object that stays with its owner is named by none
row_of_left : blocks_left media.Obj 8 (1 ∷ []) ≡ (8, raw_block 0 (1 ∷ [])) ∷ []
row_of_left = refl

-- an extent more and an extent less of an account
row_of_attached : attached accts.Outbound (source_of media.File false 1 0) ≡ source_of media.File false 1 1
row_of_attached = refl

row_of_detached : detached accts.Inbound (source_of media.File false 1 1) ≡ source_of media.File false 0 1
row_of_detached = refl
